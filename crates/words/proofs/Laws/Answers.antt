-- A word at a place by the tests of the code: in a column, past the end, of fixed bits, none.
-- Assumes nothing.
use mathlib.Core.Path.{◌≡◌, refl, sym, ap, ap₂, ◌∙◌}
use mathlib.Core.List.{List}
use Prim.Native.Nat.{ℕ, zero, suc, ◌+◌, ◌-◌, ◌≤◌, ◌<◌, min}
use native.Mathlib.Nat.{add-zero}
use native.Mathlib.Omega.{arith}
use lib.ListN.{length}
use Rattle.bits.specs.Bits.{val, view}
use Rattle.bits.proofs.Laws.Views.{length_view}
use Rattle.bits.specs.Codings.{Coding, fixed, unword}
use Rattle.bits.proofs.Laws.Codings.{fixed_fine, fixed_short}
use Rattle.bits.specs.declared.Refusal.TheVariants.{Past}
use Rattle.words.specs.Tables.{words, refused, column, coding}
use Rattle.std.specs.declared.result.Result.TheVariants.{Err}
use Rattle.words.specs.Answers.{whole_word, placed, word_at}
use Rattle.words.proofs.Laws.Tables.{coding_fixed, coding_column}

-- every column from 4 on is Table 16
pub column_last : (c : ℕ) → 4 ≤ c → column c ≡ column 4
unfolding words refused
column_last zero h = absurd (omega arith)
column_last (suc zero) h = absurd (omega arith)
column_last (suc (suc zero)) h = absurd (omega arith)
column_last (suc (suc (suc zero))) h = absurd (omega arith)
column_last (suc (suc (suc (suc n)))) h = refl

-- ---- the coding of a kind by the tests of the code; k and c stand for its wider locals

module _ {kind : ℕ} where
  pub coding_bits : {k : ℕ} → k ≡ kind → kind < 16 → coding kind ≡ fixed k
  coding_bits q h = coding_fixed kind h ∙ ap fixed (sym q)

  pub coding_code : {c : ℕ} → c ≡ kind - 16 → 16 ≤ kind → coding kind ≡ column c
  coding_code q h = coding_column kind h ∙ ap column (sym q)

  pub coding_norm : 20 ≤ kind → coding kind ≡ column 4
  coding_norm h = coding_column kind (omega arith) ∙ column_last (kind - 16) (omega arith)

-- ---- what the code answers

module _ (s : List ℕ) (at end kind : ℕ) {left : ℕ} (l : left ≡ end - at) where
  at_coding : {c : Coding} → coding kind ≡ c → placed at left (unword c (view s at left)) ≡ word_at s at end kind
  unfolding word_at
  at_coding e = ap₂ (λ (m : ℕ) (x : Coding). placed at m (unword x (view s at m))) l (sym e)

  pub at_fixed : {k : ℕ} → k ≡ kind → kind < 16 → placed at left (unword (fixed k) (view s at left)) ≡ word_at s at end kind
  at_fixed q h = at_coding (coding_bits q h)

  pub at_column : {c : ℕ} → c ≡ kind - 16 → 16 ≤ kind → placed at left (unword (column c) (view s at left)) ≡ word_at s at end kind
  at_column q h = at_coding (coding_code q h)

  pub at_norm : 20 ≤ kind → placed at left (unword (column 4) (view s at left)) ≡ word_at s at end kind
  at_norm h = at_coding (coding_norm h)

module _ (s : List ℕ) (at left n : ℕ) where
  pub fixed_past : left < n → Err Past ≡ placed at left (unword (fixed n) (view s at left))
  fixed_past h = sym (ap (placed at left) (fixed_short s at n left h))

  pub fixed_whole : (v : ℕ) → n < 16 → n ≤ left → v ≡ val (view s at (min n 16)) → whole_word v (at + n) ≡ placed at left (unword (fixed n) (view s at left))
  fixed_whole v h m e =
      let w : min n 16 ≡ n = omega arith in
      let next : at + n ≡ at + (left - length (view s (at + n) (left - n))) = omega (arith, length_view s (at + n) (left - n)) in
      ap₂ whole_word (e ∙ ap (λ (k : ℕ). val (view s at k)) w) next ∙ sym (ap (placed at left) (fixed_fine s at n left m))

-- an unused place is no bits and reads as 0
pub at_none : (s : List ℕ) (at end kind : ℕ) → kind ≡ 0 → whole_word 0 at ≡ word_at s at end kind
unfolding view val
at_none s at end kind e =
    ap (whole_word 0) (sym (add-zero at)) ∙ fixed_whole s at (end - at) 0 0 (omega arith) (omega arith) refl
    ∙ at_fixed s at end kind refl (sym e) (omega arith)
