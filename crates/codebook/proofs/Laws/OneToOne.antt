-- At rate 1 indices and rows match one to one: no two rows have one code, so each row is found at its own place.
-- Assumes nothing.
use mathlib.Core.Path.{◌≡◌, refl, sym, ap, ◌∙◌}
use mathlib.Core.Bool.{Bool, true, false, cond}
use mathlib.Core.List.{List, [], ◌∷◌}
use Prim.Native.Nat.{ℕ, zero, suc, ◌<◌, ◌≤◌}
use native.Mathlib.Omega.{arith}
use borrow.Author.Tests.{eq-eqb, lt-ltb, le-ltb, ltb-true, ne_eqb}
use lib.Dec.{ltb}
use lib.ListN.{length, get_or}
use lib.IntN.{ℤ, pos}
use Rattle.ground.proofs.Laws.Cases.{by_bool}
use Rattle.ground.proofs.Laws.ListsByRule.{filled}
use Rattle.ground.specs.Replies.{done, out_of_range}
use Rattle.points.specs.Answers.{no_point}
use Rattle.codebook.specs.Codebook.{book, row, eq_row, eight, place_of, row_point, row_index, no_row}
use Rattle.codebook.specs.Packed.{code}
use Rattle.codebook.proofs.Laws.Rows.{eq_row_eq, eq_row_refl, book_long, row_long, code_apart}
use Rattle.codebook.specs.OneToOne.{Names, OneToOne}

-- ---- the place of a row

place_at : (v : List ℤ) (rows : List (List ℤ)) → place_of v rows < length rows → get_or rows (place_of v rows) [] ≡ v
place_at v [] l = absurd (omega arith)
place_at v (w ∷ rows) l = go (eq_row v w) refl (place_at v rows) l
  where
    go : (b : Bool) → eq_row v w ≡ b → (place_of v rows < length rows → get_or rows (place_of v rows) [] ≡ v)
        → cond b 0 (suc (place_of v rows)) < suc (length rows) → get_or (w ∷ rows) (cond b 0 (suc (place_of v rows))) [] ≡ v
    go true e more l = sym (eq_row_eq v w e)
    go false e more l = more (omega arith)

place_le : (v : List ℤ) (rows : List (List ℤ)) (n : ℕ) → n < length rows → get_or rows n [] ≡ v → place_of v rows ≤ n
place_le v [] n l e = absurd (omega arith)
place_le v (w ∷ rows) zero l e = rw (e, eq_row_refl v) (omega arith)
place_le v (w ∷ rows) (suc n) l e = go (eq_row v w) (place_le v rows n (omega arith) e)
  where
    go : (b : Bool) → place_of v rows ≤ n → cond b 0 (suc (place_of v rows)) ≤ suc n
    go true h = omega arith
    go false h = omega arith

pub apart : (m n : ℕ) (v : List ℤ) → Names m v → Names n v → m ≡ n
apart m n v p q = code_apart m n p.small q.small (ap code (p.its_row ∙ sym q.its_row))

pub place_names : (v : List ℤ) → place_of v book < 256 → Names (place_of v book) v
unfolding row
place_names v l = record { small = l; its_row = place_at v book (omega (arith, book_long)) }

pub place_of_lem : (n : ℕ) (v : List ℤ) → Names n v → place_of v book ≡ n
unfolding row
place_of_lem n v p =
    let h = p.small in
    let l = place_le v book n (omega (arith, book_long)) p.its_row in
    apart (place_of v book) n v (place_names v (omega arith)) p

eight_same : (v : List ℤ) → length v ≡ 8 → eight v ≡ v
eight_same v l = sym (filled (λ (i : ℕ). get_or v i (pos 0)) 8 (pos 0) v l (λ k b. refl))

pub there : (n : ℕ) (v : List ℤ) → Names n v → row_point 1 n ≡ record { reply = done; at = v }
unfolding row_point
there n v p = simp (lt-ltb n 256 p.small) (ap (λ (w : List ℤ). record { reply = done; at = w }) p.its_row)

pub again : (n : ℕ) (v : List ℤ) → Names n v → row_index 1 v ≡ record { reply = done; index = n }
unfolding row_index
again n v p =
    let e : place_of (eight v) book ≡ n =
    ap (λ (w : List ℤ). place_of w book) (eight_same v (ap length (sym p.its_row) ∙ row_long n p.small)) ∙ place_of_lem n v p in
    simp (e, lt-ltb n 256 p.small)

pub accepted : (v : List ℤ) → length v ≡ 8 → (row_index 1 v).reply ≡ done → Names (row_index 1 v).index v
unfolding row_index
accepted v l = rw (eight_same v l) (go (ltb (place_of v book) 256) refl)
  where
    go : (b : Bool) → ltb (place_of v book) 256 ≡ b → (cond b (record { reply = done; index = place_of v book }) no_row).reply ≡ done
        → Names (cond b (record { reply = done; index = place_of v book }) no_row).index v
    go true e h = place_names v (ltb-true (place_of v book) 256 e)
    go false e h = absurd (let z : ◌≡◌ {A = ℕ} out_of_range done = h in omega arith)

pub refused : (v : List ℤ) → length v ≡ 8 → ((n : ℕ) → Names n v → ⊥) → row_index 1 v ≡ no_row
unfolding row_index
refused v l h =
    rw (eight_same v l)
    (by_bool (ltb (place_of v book) 256) (λ e. absurd (h _ (place_names v (ltb-true (place_of v book) 256 e)))) (λ e. simp e))

pub too_large : (n : ℕ) → 256 ≤ n → row_point 1 n ≡ no_point
unfolding row_point
too_large n l = simp (le-ltb n 256 l)

pub one_to_one : OneToOne
one_to_one =
    record { unlike = apart; there = there; again = again; accepted = accepted; refused = refused; too_large = too_large }

-- a rate that is not 1 is refused by both calls
pub foreign : (rate : ℕ) → (rate ≡ 1 → ⊥) → (n : ℕ) (v : List ℤ) → (row_point rate n ≡ no_point) × (row_index rate v ≡ no_row)
unfolding row_point row_index
foreign rate h n v = (simp (ne_eqb rate 1 h), simp (ne_eqb rate 1 h))

-- what the code answers: the row of an index, and no point for another rate or an index over 255
pub row_answered : (rate n : ℕ) → rate ≡ 1 → n < 256 → row_point rate n ≡ record { reply = done; at = row n }
unfolding row_point
row_answered rate n e l = simp (eq-eqb rate 1 e, lt-ltb n 256 l)

pub rate_refused : (rate n : ℕ) → (rate ≡ 1 → ⊥) → row_point rate n ≡ no_point
rate_refused rate n h = (foreign rate h n []).0

pub index_refused : (rate n : ℕ) → rate ≡ 1 → 256 ≤ n → row_point rate n ≡ no_point
index_refused rate n e l = rw e (too_large n l)
