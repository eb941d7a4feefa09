-- The norm part has at most 306 bits. Where they stand, its reading is refused with 5 alone: whatever bits are words of Table 16, and none of them is missing.
-- Assumes nothing.
use mathlib.Core.Path.{◌≡◌, refl, sym, ◌∙◌}
use mathlib.Core.Bool.{Bool, true, false, cond}
use mathlib.Core.List.{List, ◌∷◌, map}
use Prim.Native.Nat.{ℕ, zero, suc, ◌≤◌}
use native.Mathlib.Omega.{arith}
use lib.ListN.{length, replicate}
use Rattle.ground.proofs.Laws.Sums.{sum_of}
use Rattle.bits.specs.Codings.{Answer, got, no}
use Rattle.bits.specs.Codecs.{Verdict, fine, bad, read_all}
use Rattle.bits.proofs.Laws.NeverRefused.{NeverRefused, NeverRefusedAll, read_never_refused, NormAlone, got_alone}
use Rattle.bits.specs.declared.Refusal.TheVariants.{Outside}
use Rattle.words.specs.Tables.{coding}
use Rattle.words.proofs.Laws.NeverRefused.{sure_fixed, sure_16}
use Rattle.order.specs.SentOrder.{banded}
use Rattle.norms.specs.Steps.{indices}
use Rattle.norms.specs.Part.{norm_kinds, norm_part}
use Rattle.norms.proofs.Laws.Codec.{part_bad, part_got}
use Rattle.norms.proofs.Laws.Reads.{indices_bad}

-- the most bits of each of the 44 numbers
most_bits : Bool → List ℕ
most_bits flag_n = 5 ∷ replicate 43 (cond flag_n 7 5)

most_sum : (flag_n : Bool) → sum_of (most_bits flag_n) ≤ 306
unfolding most_bits sum_of
most_sum true = omega arith
most_sum false = omega arith

sure_step : (flag_n : Bool) → NeverRefused (cond flag_n 7 5) (coding (cond flag_n 20 5))
sure_step true = sure_16
sure_step false = sure_fixed 5 (omega arith)

sure_steps : (flag_n : Bool) (n : ℕ) → NeverRefusedAll (replicate n (cond flag_n 7 5)) (map coding (replicate n (cond flag_n 20 5)))
sure_steps flag_n zero = tt
sure_steps flag_n (suc n) = (sure_step flag_n, sure_steps flag_n n)

sure_numbers : (flag_n : Bool) → NeverRefusedAll (most_bits flag_n) (map coding (norm_kinds flag_n))
unfolding most_bits norm_kinds
sure_numbers flag_n = (sure_fixed 5 (omega arith), sure_steps flag_n 43)

pub norms_alone : (transient flag_n : Bool) (b : List Bool) → 306 ≤ length b → NormAlone ((norm_part transient flag_n).read b)
norms_alone transient flag_n b h x e =
    let (ws, r, g) = read_never_refused (most_bits flag_n) (map coding (norm_kinds flag_n)) (sure_numbers flag_n) b (omega (arith, most_sum flag_n)) in
    go ws r g (indices 15 ws) refl
  where
    go : (ws : List ℕ) (r : List Bool) → read_all (map coding (norm_kinds flag_n)) b ≡ got ws r → (c : Verdict (List ℕ)) → indices 15 ws ≡ c → x ≡ Outside
    go ws r g (fine ss) q = got_alone (banded transient ss) r x (sym (part_got transient flag_n b r ws ss g q) ∙ e)
    go ws r g (bad y) q =
        let z : ◌≡◌ {A = Answer (List ℕ)} (no y) (no x) = sym (part_bad transient flag_n b r ws y g q) ∙ e in
        let w : y ≡ x = cc in
        sym w ∙ indices_bad 15 ws y q
