-- A search of the rows in which a code's row must lie finds the one row with that code, since no two rows have one code.
-- Assumes nothing.
use mathlib.Core.Path.{◌≡◌, refl, sym, ap, ◌∙◌}
use mathlib.Core.Bool.{Bool, true, false}
use mathlib.Core.List.{List}
use Prim.Native.Nat.{ℕ, ◌+◌, ◌/◌, ◌%◌, ◌<◌, ◌≤◌}
use native.Mathlib.Omega.{arith}
use native.Mathlib.Decide.{dec_lt, ℕ_discrete}
use borrow.Author.Tests.{eq-eqb, ne_eqb, lt-ltb, ltb-true}
use lib.Count.{ones}
use lib.Dec.{ltb}
use lib.ListN.{length, get_or}
use lib.IntN.{ℤ, pos}
use Rattle.ground.specs.Sums.{sum_to}
use Rattle.ground.proofs.Laws.Cases.{by_bool}
use Rattle.ground.specs.ListsByRule.{from}
use Rattle.ground.proofs.Laws.ListsByRule.{filled, get_d_table}
use Rattle.ground.specs.Replies.{done}
use Rattle.points.specs.Answers.{agree}
use Rattle.points.proofs.Laws.Points.{all_yes, all_at, eq_z_eq, eq_z_refl}
use Rattle.std.specs.Bool.{then_some}
use Rattle.std.specs.declared.option.Option.{Option}
use Rattle.std.specs.declared.option.Option.TheVariants.{Some, None}
use Rattle.codebook.specs.Codebook.{row, book, eight, place_of, row_index, no_row, answer_row}
use Rattle.codebook.specs.Packed.{code, sign_class, Passed, First, Found}
use Rattle.codebook.proofs.Laws.Rows.{row_long, code_apart, in_class, in_half}
use Rattle.codebook.proofs.Laws.OneToOne.{place_names, place_of_lem}

-- ---- a loop that passes the rows from `from` on: none before i has the code x

pub passed_none : {x from : ℕ} → Passed x from from
passed_none = record { each = λ j a b e. absurd (omega arith) }

module _ {x from i : ℕ} (p : Passed x from i) where
  pub passed_all : {to : ℕ} → to ≤ i → Passed x from to
  passed_all l = record { each = λ j a b. p.each j a (omega arith) }

  module _ {y : ℕ} (e : y ≡ code (row i)) where
    pub passed_hit : {to : ℕ} → from ≤ i → i < to → y ≡ x → First x from to i
    passed_hit l h q = record { low = l; high = h; hit = sym e ∙ q; passed = p }

    pub passed_more : (y ≡ x → ⊥) → Passed x from (i + 1)
    passed_more n =
        record {
          each = λ j a b q. elim (ℕ_discrete j i) [
            | yes k ↦ n (e ∙ ap (λ (n : ℕ). code (row n)) (sym k) ∙ q)
            | no k ↦ p.each j a (omega (arith, k)) q
          ];
        }

module _ (x from to : ℕ) (small : to ≤ 256) (there : (j : ℕ) → j < 256 → code (row j) ≡ x → (from ≤ j) × (j < to)) where
  pub sought : (found : Option ℕ) → Found x from to found → (j : ℕ) → j < 256 → code (row j) ≡ x → found ≡ Some j
  sought (Some n) f j l e =
      let t = there j l e in
      let h = f.high in
      elim (dec_lt j n) [ yes p ↦ absurd (f.passed.each j t.0 p e) | no p ↦ ap Some (code_apart n j (omega arith) l (f.hit ∙ sym e)) ]
  sought None f j l e = let t = there j l e in absurd (f.each j t.0 t.1 e)

-- where the row of a code lies, if it has one
pub by_ones : (x j : ℕ) → x / 256 + x % 256 ≡ 255 → j < 256 → code (row j) ≡ x → ((sign_class (ones (x % 256))).from ≤ j) × (j < (sign_class (ones (x % 256))).to)
by_ones x j e l q = rw q at (in_class j l (rw q e))

pub by_half : (x j : ℕ) → (x / 256 + x % 256 ≡ 255 → ⊥) → j < 256 → code (row j) ≡ x → (0 ≤ j) × (j < 128)
by_half x j e l q = (omega arith, in_half j l (rw q e))

-- the one row that a search finds, by its code's class or half
pub sought_class : {x first last : ℕ} {found : Option ℕ} → x / 256 + x % 256 ≡ 255 → last < 256 → Found x first (last + 1) found
    → (first ≡ (sign_class (ones (x % 256))).from) × (last + 1 ≡ (sign_class (ones (x % 256))).to) × (first ≤ last)
    → (j : ℕ) → j < 256 → code (row j) ≡ x → found ≡ Some j
sought_class {x} {first} {last} {found} e h f s =
    sought x first (last + 1) (omega arith) (λ j l q. let b = by_ones x j e l q in (omega (arith, s.0, b.0), omega (arith, s.1, b.1))) found f

pub sought_half : {x : ℕ} {found : Option ℕ} → (x / 256 + x % 256 ≡ 255 → ⊥) → Found x 0 128 found
    → (j : ℕ) → j < 256 → code (row j) ≡ x → found ≡ Some j
sought_half {x} {found} e f = sought x 0 128 (omega arith) (λ j. by_half x j e) found f

-- ---- from the row that was found to the answer

agree_eight : (v w : List ℤ) → length w ≡ 8 → agree w v 8 ≡ true → w ≡ eight v
unfolding agree
agree_eight v w l e = filled (λ (i : ℕ). get_or v i (pos 0)) 8 (pos 0) w l (λ k b. eq_z_eq _ _ (all_at _ 8 e k b))

eight_agree : (v : List ℤ) → agree (eight v) v 8 ≡ true
unfolding agree
eight_agree v = all_yes _ 8 (λ i l. rw (get_d_table (λ (j : ℕ). get_or v j (pos 0)) 8 (pos 0) i l) (eq_z_refl (get_or v i (pos 0))))

eight_code : (v : List ℤ) → code (eight v) ≡ code v
unfolding code from sum_to
eight_code v = refl

pub hit : (rate n : ℕ) (v : List ℤ) → rate ≡ 1 → n < 256 → agree (row n) v 8 ≡ true → record { reply = done; index = n } ≡ row_index rate v
unfolding row_index
hit rate n v e l a =
    let p = place_of_lem n (eight v) (record { small = l; its_row = agree_eight v (row n) (row_long n l) a }) in
    simp (eq-eqb rate 1 e, p, lt-ltb n 256 l)

pub miss : (rate n : ℕ) (v : List ℤ) → rate ≡ 1 → ((j : ℕ) → j < 256 → code (row j) ≡ code v → j ≡ n) → (n < 256 → agree (row n) v 8 ≡ false)
    → no_row ≡ row_index rate v
unfolding row_index
miss rate n v e only a =
    let p = place_of (eight v) book in
    by_bool (ltb p 256)
    (λ b. let q = place_names (eight v) (ltb-true p 256 b) in
    let s = only p q.small (ap code q.its_row ∙ eight_code v) in
    let h = q.small in
    let t : agree (row n) v 8 ≡ true = ap (λ (w : List ℤ). agree w v 8) (ap row (sym s) ∙ q.its_row) ∙ eight_agree v in
    let f : true ≡ false = sym t ∙ a (omega arith) in
    let z : ◌≡◌ {A = ℕ} 0 1 = cc in absurd (omega arith))
    (λ b. simp (eq-eqb rate 1 e, b))

-- ---- each way out of the call is a case of the definition: if the row that it finds is the point, the index is that row's number; if it is
-- not, no row is the point, since only that row can have the point's code

pub row_foreign : (rate : ℕ) (v : List ℤ) → (rate ≡ 1 → ⊥) → no_row ≡ row_index rate v
unfolding row_index
row_foreign rate v e = simp (ne_eqb _ _ e)

module _ (rate : ℕ) (v : List ℤ) {x : ℕ} (e : rate ≡ 1) (c : x ≡ code v) where
  pub row_missed : {found : Option ℕ} → ((j : ℕ) → j < 256 → code (row j) ≡ x → None ≡ Some j) → found ≡ None → answer_row found ≡ row_index rate v
  row_missed s f = rw f (miss rate 256 v e (λ j l g. absurd (let q : None ≡ Some j = s j l (g ∙ sym c) in cc)) (λ l. absurd (omega arith)))

  pub row_told : {n : ℕ} {w : List ℤ} {found : Option ℕ} (b : Bool) → n < 256 → ((j : ℕ) → j < 256 → code (row j) ≡ x → Some n ≡ Some j) → w ≡ row n
      → b ≡ agree w v 8 → found ≡ then_some b n → answer_row found ≡ row_index rate v
  row_told {n} true l s g d f = rw f (hit rate n v e l (sym (d ∙ ap (λ (w : List ℤ). agree w v 8) g)))
  row_told {n} false l s g d f =
      rw f
      (miss rate n v e (λ j b q. let t : Some n ≡ Some j = s j b (q ∙ sym c) in cc) (λ l. sym (d ∙ ap (λ (w : List ℤ). agree w v 8) g)))
