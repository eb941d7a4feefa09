-- That the starred examples hold.
-- Assumes nothing.
use mathlib.Core.Path.{◌≡◌, refl, ap, ◌∙◌}
use mathlib.Core.Bool.{Bool, true, false}
use mathlib.Core.List.{List, [], ◌∷◌}
use Prim.Native.Nat.{ℕ}
use lib.ListN.{take, drop}
use Rattle.bits.specs.Bits.{word, val, bytes_of}
use Rattle.bits.specs.Codings.{word_of}
use Rattle.bits.specs.Codecs.{write_all}
use Rattle.norm_words.specs.Table16.{table16}
use Rattle.words.specs.Tables.{coding, words}
use Rattle.prefix.specs.Sizes.{table_a2, length_bytes, mode_bytes, table22}
use Rattle.prefix.specs.Prefix.{prefix_of, prefix_byte}
use Rattle.prefix.proofs.Examples as prefix
use Rattle.order.specs.SentOrder.{sent}
use Rattle.norms.specs.Steps.{numbers}
use Rattle.norms.specs.Part.{norm_kinds, norm_bits}
use Rattle.weights.proofs.Examples as weights
use Rattle.allotment.specs.Allotment.{shares_of}
use Rattle.promises.proofs.Laws.SharingExamples as allotment
use Rattle.points.proofs.Examples as lattice
use Rattle.kinds.specs.Budget.{noise_bits, all_compete}
use Rattle.frame.specs.Layout.{budget_of}
use Rattle.frame.specs.Answers.{read_answer, reading_of, stopped_at}
use Rattle.writer.specs.Writes.{bytes_for}
use Rattle.writer.specs.Bodies.{body_bits}
use Rattle.writer.proofs.Laws.Bodies.{body_is}
use Rattle.listing.proofs.Examples as listing
use Rattle.recording.proofs.Examples as recording
use Rattle.promises.specs.Stars.{All, done, also, twenties, flags, small, starred}

-- ---- those that no other page has

prefix_20 : reading_of (read_answer (0x20 ∷ []) 800 320) ≡ stopped_at 4 0
unfolding read_answer prefix_of prefix_byte table_a2 length_bytes
prefix_20 = refl

psi_414 : budget_of 640 (flags false) twenties ≡ 414
unfolding budget_of noise_bits word word_of write_all coding sent numbers norm_kinds norm_bits
psi_414 = refl

psi_500 : budget_of 640 (flags true) twenties ≡ 500
unfolding budget_of noise_bits word word_of write_all coding words table16 sent numbers norm_kinds norm_bits
psi_500 = refl

wide_80 : all_compete 640 true ≡ true
unfolding all_compete
wide_80 = refl

head_of : (vs ts : List ℕ) (noise bits : ℕ) → take 5 (bytes_of 80 (body_bits (small noise bits) vs ts)) ≡ 0x6A ∷ 0x6D ∷ 0xB6 ∷ 0xDB ∷ 0x6D ∷ []
unfolding bytes_of val body_bits word word_of write_all coding words table16 sent numbers norm_kinds norm_bits
head_of vs ts noise bits = refl

size_80 : mode_bytes 0 ≡ 80
unfolding mode_bytes table22
size_80 = refl

begins : (noise bits : ℕ) (codes tail : List ℕ) → take 5 (drop 1 (bytes_for (small noise bits) codes tail)) ≡ 0x6A ∷ 0x6D ∷ 0xB6 ∷ 0xDB ∷ 0x6D ∷ []
unfolding bytes_for
begins noise bits codes tail =
    ap (λ (b : List Bool). take 5 (bytes_of (mode_bytes 0) b)) (body_is (small noise bits) codes tail)
    ∙ ap (λ (n : ℕ). take 5 (bytes_of n (body_bits (small noise bits) (take 800 codes) tail))) size_80 ∙ head_of (take 800 codes) tail noise bits

-- ---- the claim

pub claimed : All starred
unfolding starred
claimed =
    also prefix_20
    (also prefix.star_04
    (also prefix.star_80
    (also prefix.star_6_c
    (also prefix.star_70
    (also recording.star_00_20
    (also listing.star_listing_00_20
    (also listing.listing_00_00
    (also psi_414
    (also (ap (λ (b : Bool). shares_of false b twenties 414) wide_80 ∙ (allotment.starred).0)
    (also psi_500
    (also (ap (λ (b : Bool). shares_of false b twenties 500) wide_80 ∙ (allotment.starred).1)
    (also begins
    (also weights.starred
    (also (lattice.stars).0
    (also (lattice.stars).1
    (also (lattice.stars).2
    (also (lattice.stars).3 done)))))))))))))))))
