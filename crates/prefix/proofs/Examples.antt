-- The starred examples of 01 on the prefix byte.
use mathlib.Core.Path.{◌≡◌, refl}
use mathlib.Core.List.{[], ◌∷◌}
use Rattle.prefix.specs.Sizes.{table_a2, length_bytes}
use Rattle.prefix.specs.Prefix.{reading_of, prefix_of, prefix_byte}

-- ★ 04: 3. ★ 80: 2. ★ 6C: L 27, 320 bytes. ★ 70: 3.
pub star_04 : reading_of (prefix_of (0x04 ∷ [])) ≡ record { reply = 3; field = 0; bytes = 0; next = 0 }
unfolding prefix_of prefix_byte table_a2
star_04 = refl

pub star_80 : reading_of (prefix_of (0x80 ∷ [])) ≡ record { reply = 2; field = 0; bytes = 0; next = 0 }
unfolding prefix_of prefix_byte table_a2
star_80 = refl

pub star_6_c : reading_of (prefix_of (0x6C ∷ [])) ≡ record { reply = 0; field = 27; bytes = 320; next = 1 }
unfolding prefix_of prefix_byte table_a2 length_bytes
star_6_c = refl

pub star_70 : reading_of (prefix_of (0x70 ∷ [])) ≡ record { reply = 3; field = 0; bytes = 0; next = 0 }
unfolding prefix_of prefix_byte table_a2
star_70 = refl
