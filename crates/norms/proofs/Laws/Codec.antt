-- The norm part as a codec obeys both laws: norms written are read back, bits that were read are the bits written.
-- Assumes nothing.
use mathlib.Core.Path.{◌≡◌, refl, sym, ap, ◌∙◌, subst}
use mathlib.Core.Bool.{Bool, true, false, cond}
use mathlib.Core.List.{List, [], ◌∷◌, ◌++◌, map}
use Prim.Native.Nat.{ℕ, zero, suc, ◌<◌}
use native.Mathlib.Omega.{arith}
use lib.ListN.{length, replicate, length-map}
use Rattle.bits.specs.Codings.{got, no, Fit}
use Rattle.bits.specs.Codecs.{Verdict, fine, bad, words, read_all, FitAll}
use Rattle.bits.specs.declared.Refusal.{Refusal}
use Rattle.bits.proofs.Laws.Codecs.{Lawful, words_lawful, checked_lawful, fit_length}
use Rattle.words.specs.Tables.{coding}
use Rattle.words.proofs.Laws.Tables.{coding_fixed, coding_column, all_good, size16}
use Rattle.order.specs.SentOrder.{sent, banded}
use Rattle.order.proofs.Laws.SentOrder.{sent_banded, banded_sent, length_banded, length_sent}
use Rattle.norms.specs.Legal.{LegalIndices, LegalNorms}
use Rattle.norms.specs.Steps.{numbers, indices}
use Rattle.norms.specs.Part.{norm_kinds, in_bands, norms_of, numbers_of, norm_bits, norm_part}
use Rattle.norms.proofs.Laws.Legal.{near_legal, sent_near}
use Rattle.norms.proofs.Laws.Steps.{Below, indices_sound, indices_whole, length_numbers}

-- ---- the kinds of the 44 numbers take numbers under 32

five : (v : ℕ) → (Fit (coding 5) v → v < 32) × (v < 32 → Fit (coding 5) v)
five v = rw (coding_fixed 5 (omega arith)) ((λ h. h), (λ h. h))

twenty : (v : ℕ) → (Fit (coding 20) v → v < 32) × (v < 32 → Fit (coding 20) v)
twenty v = rw (coding_column 20 (omega arith), size16) ((λ h. h), (λ h. h))

norm_fit : (flag_n : Bool) (v : ℕ) → (Fit (coding (cond flag_n 20 5)) v → v < 32) × (v < 32 → Fit (coding (cond flag_n 20 5)) v)
norm_fit true v = twenty v
norm_fit false v = five v

below_all : (n : ℕ) (flag_n : Bool) (ws : List ℕ) → FitAll (map coding (replicate n (cond flag_n 20 5))) ws → Below ws
below_all zero flag_n [] f = tt
below_all zero flag_n (w ∷ ws) f = absurd f
below_all (suc n) flag_n [] f = absurd f
below_all (suc n) flag_n (w ∷ ws) f = ((norm_fit flag_n w).0 f.0, below_all n flag_n ws f.1)

all_below : (n : ℕ) (flag_n : Bool) (ws : List ℕ) → length ws ≡ n → Below ws → FitAll (map coding (replicate n (cond flag_n 20 5))) ws
all_below zero flag_n [] l b = tt
all_below zero flag_n (w ∷ ws) l b = absurd (omega arith)
all_below (suc n) flag_n [] l b = absurd (omega arith)
all_below (suc n) flag_n (w ∷ ws) l b = ((norm_fit flag_n w).1 b.0, all_below n flag_n ws (omega arith) b.1)

fit_below : (flag_n : Bool) (ws : List ℕ) → FitAll (map coding (norm_kinds flag_n)) ws → Below ws
unfolding norm_kinds
fit_below flag_n [] f = absurd f
fit_below flag_n (w ∷ ws) f = ((five w).0 f.0, below_all 43 flag_n ws f.1)

pub below_fit : (flag_n : Bool) (ws : List ℕ) → length ws ≡ 44 → Below ws → FitAll (map coding (norm_kinds flag_n)) ws
unfolding norm_kinds
below_fit flag_n [] l b = absurd (omega arith)
below_fit flag_n (w ∷ ws) l b = ((five w).1 b.0, all_below 43 flag_n ws (omega arith) b.1)

pub kinds_long : (flag_n : Bool) → length (norm_kinds flag_n) ≡ 44
unfolding norm_kinds
kinds_long flag_n = refl

-- ---- the codec

module _ (transient flag_n : Bool) where
  bands_fine : (c : Verdict (List ℕ)) (norms : List ℕ) → in_bands transient c ≡ fine norms → (ss : List ℕ) × (c ≡ fine ss) × (banded transient ss ≡ norms)
  bands_fine (fine ss) norms e = (ss, refl, (cc))
  bands_fine (bad x) norms e = absurd (cc)

  pub norms_sound : (ws norms : List ℕ) → (words (map coding (norm_kinds flag_n))).Ok ws → norms_of transient ws ≡ fine norms
      → (numbers_of transient norms ≡ ws) × LegalNorms transient norms
  unfolding words
  norms_sound ws norms k e =
      let (ss, c, q) = bands_fine (indices 15 ws) norms e in
      let s = indices_sound 15 ws ss (fit_below flag_n ws k) c in
      let l : length ss ≡ 44 =
      sym (length_numbers 15 ss) ∙ ap length s.0 ∙ fit_length (map coding (norm_kinds flag_n)) ws k ∙ length-map (norm_kinds flag_n) coding ∙ kinds_long flag_n in
      subst (λ (z : List ℕ). (numbers_of transient z ≡ ws) × LegalNorms transient z) q (
        ap (numbers 15) (sent_banded transient ss l) ∙ s.0,
        record { long = length_banded transient ss l; as_sent = subst LegalIndices (sym (sent_banded transient ss l)) (near_legal ss l s.1) },
      )

  pub norms_whole : (norms : List ℕ) → LegalNorms transient norms
      → (norms_of transient (numbers_of transient norms) ≡ fine norms) × (words (map coding (norm_kinds flag_n))).Ok (numbers_of transient norms)
  unfolding words
  norms_whole norms w =
      let ss = sent transient norms in
      let i = indices_whole 15 ss (sent_near transient norms w) in
      let l : length (numbers 15 ss) ≡ 44 = length_numbers 15 ss ∙ length_sent transient norms w.long in
      (ap (in_bands transient) i.0 ∙ ap fine (banded_sent transient norms w.long), below_fit flag_n (numbers 15 ss) l i.1)

  pub ok_legal : (norms : List ℕ) → LegalNorms transient norms → (norm_part transient flag_n).Ok norms
  unfolding norm_part
  ok_legal norms w = w

  pub legal_ok : (norms : List ℕ) → (norm_part transient flag_n).Ok norms → LegalNorms transient norms
  unfolding norm_part
  legal_ok norms w = w

  pub norms_lawful : Lawful 0 (norm_part transient flag_n)
  unfolding norm_part
  norms_lawful = checked_lawful (words_lawful (map coding (norm_kinds flag_n)) (all_good (norm_kinds flag_n))) norms_sound norms_whole

  -- norms written are read back
  pub norms_back : (norms : List ℕ) (r : List Bool) → LegalNorms transient norms
      → (norm_part transient flag_n).read (norm_bits transient flag_n norms ++ r) ≡ got norms r
  unfolding norm_part norm_bits words
  norms_back norms r w = norms_lawful.back norms r w (omega arith)

  -- bits that were read are the bits written
  pub norms_there : (b : List Bool) (norms : List ℕ) (r : List Bool) → (norm_part transient flag_n).read b ≡ got norms r
      → (b ≡ norm_bits transient flag_n norms ++ r) × LegalNorms transient norms
  unfolding norm_part norm_bits words
  norms_there b norms r e = norms_lawful.there b norms r e

  pub write_is : (norms : List ℕ) → (norm_part transient flag_n).write norms ≡ norm_bits transient flag_n norms
  unfolding norm_part norm_bits words
  write_is norms = refl

  -- ---- what a run of words makes of the part

  pub part_no : (b : List Bool) (x : Refusal) → read_all (map coding (norm_kinds flag_n)) b ≡ no x → (norm_part transient flag_n).read b ≡ no x
  unfolding norm_part words
  part_no b x e = rw e

  pub part_bad : (b r : List Bool) (ws : List ℕ) (x : Refusal) → read_all (map coding (norm_kinds flag_n)) b ≡ got ws r → indices 15 ws ≡ bad x
      → (norm_part transient flag_n).read b ≡ no x
  unfolding norm_part words
  part_bad b r ws x e f = rw (e, f)

  pub part_got : (b r : List Bool) (ws ss : List ℕ) → read_all (map coding (norm_kinds flag_n)) b ≡ got ws r → indices 15 ws ≡ fine ss
      → (norm_part transient flag_n).read b ≡ got (banded transient ss) r
  unfolding norm_part words
  part_got b r ws ss e f = rw (e, f)
