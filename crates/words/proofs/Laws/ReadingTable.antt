-- The word that stands at a place, and what reading it answers: a norm word by its shape, a word of Table 20 by the look-up, whose entries are right by
-- one computed test.
-- Assumes nothing.
use mathlib.Core.Path.{◌≡◌, refl, sym, ap, subst, ◌∙◌}
use mathlib.Core.Bool.{Bool, true, false, ◌&&◌}
use mathlib.Core.List.{List, [], ◌∷◌, ◌++◌, append-nil}
use Prim.Native.Nat.{ℕ, ◌+◌, ◌-◌, ◌*◌, ◌/◌, ◌%◌, ◌≤◌, ◌<◌}
use native.Mathlib.Nat.{zero-add, le_refl}
use native.Mathlib.Omega.{arith}
use lib.Dec.{T, ltb, ltb→lt}
use lib.ListN.{length, get_or, take}
use borrow.Author.Tests.{eq-eqb, ne_eqb}
use Rattle.ground.proofs.Laws.Cases.{and_T}
use Rattle.ground.proofs.Laws.PrintedTables.{every, every_at}
use Rattle.bits.specs.Bits.{word, val, view}
use Rattle.bits.proofs.Laws.NumbersAsBits.{word_val}
use Rattle.bits.proofs.Laws.Views.{length_view, view_add, take_view, view_lt}
use Rattle.bits.specs.Codings.{got, unword, find}
use Rattle.bits.proofs.Laws.Codings.{find_word, find_cut, found_fine, found_refused, found_cut}
use Rattle.bits.specs.declared.Refusal.TheVariants.{Missing, Past}
use Rattle.norm_words.specs.Table16.{table16}
use Rattle.norm_words.specs.Shape.{word_in}
use Rattle.norm_words.specs.declared.Found.{Found}
use Rattle.norm_words.proofs.Laws.Shape.{Begins, shape_reads, long16}
use Rattle.words.specs.Tables.{words, refused, column}
use Rattle.words.proofs.Laws.Tables.{free_words, size16}
use Rattle.std.specs.declared.result.Result.TheVariants.{Err}
use Rattle.words.specs.Answers.{whole_word, placed}
use Rattle.words.specs.Inner.{same, begins, right}

same_eq : (w u : List Bool) → T (same w u) → w ≡ u
same_eq [] [] t = refl
same_eq [] (y ∷ u) t = absurd t
same_eq (x ∷ w) [] t = absurd t
same_eq (true ∷ w) (true ∷ u) t = ap (λ (l : List Bool). true ∷ l) (same_eq w u t)
same_eq (true ∷ w) (false ∷ u) t = absurd t
same_eq (false ∷ w) (true ∷ u) t = absurd t
same_eq (false ∷ w) (false ∷ u) t = ap (λ (l : List Bool). false ∷ l) (same_eq w u t)

-- ---- reading m bits that begin with word v

-- word v of a column, refused ones after the others, stands at a place and has n bits
pub record StandsAt (s : List ℕ) (p c v n : ℕ) : Type 0 where
  pub inside : v < length (words c ++ refused c)
  pub word : get_or (words c ++ refused c) v [] ≡ view s p n

module _ {s : List ℕ} {p c v n : ℕ} (m : ℕ) (B : StandsAt s p c v n) where
  all : List (List Bool)
  all = words c ++ refused c

  begun : n ≤ m → find (words c ++ refused c) 0 (view s p m) ≡ got v (view s (p + n) (m - n))
  unfolding all
  begun h =
      let q : n + (m - n) ≡ m = omega arith in
      ap (λ (k : ℕ). find all 0 (view s p k)) (sym q)
      ∙ ap (find all 0) (view_add s p n (m - n))
      ∙ ap (λ (l : List Bool). find all 0 (l ++ view s (p + n) (m - n))) (sym B.word)
      ∙ find_word all 0 v (view s (p + n) (m - n)) (free_words c) B.inside
      ∙ ap (λ (k : ℕ). got k (view s (p + n) (m - n))) (zero-add v)

  pub stands_fine : n ≤ m → v < length (words c) → whole_word v (p + n) ≡ placed p m (unword (column c) (view s p m))
  stands_fine h l =
      let next : p + n ≡ p + (m - (m - n)) = omega arith in
      rw (found_fine (words c) (refused c) (view s p m) v (view s (p + n) (m - n)) (begun h) l, length_view s (p + n) (m - n)) (ap (whole_word v) next)

  pub stands_refused : n ≤ m → length (words c) ≤ v → Err Missing ≡ placed p m (unword (column c) (view s p m))
  stands_refused h l = rw (found_refused (words c) (refused c) (view s p m) v (view s (p + n) (m - n)) (begun h) l)

  pub stands_cut : m < n → Err Past ≡ placed p m (unword (column c) (view s p m))
  unfolding all
  stands_cut h =
      let q : m + (n - m) ≡ n = omega arith in
      let joined : view s p m ++ view s (p + m) (n - m) ≡ get_or all v [] ++ [] =
      sym (view_add s p m (n - m)) ∙ ap (view s p) q ∙ sym B.word ∙ sym (append-nil (get_or all v [])) in
      let cut = find_cut all v (view s p m) (view s (p + m) (n - m)) [] (free_words c) B.inside joined
      (omega (arith, length_view s p m, length_view s p n, ap length B.word)) in
      rw (found_cut (words c) (refused c) (view s p m) cut)

-- ---- norm words

module _ (s : List ℕ) (p m : ℕ) {z : ℕ} {w : Found} (q : z ≡ val (view s p 7)) (e : w ≡ word_in z) where
  found_there : Begins (view s p 7) w.number w.bits
  found_there =
      subst (λ (f : Found). Begins (view s p 7) f.number f.bits) (sym (e ∙ ap word_in q)) (shape_reads (view s p 7) (length_view s p 7))

  norm_stands : StandsAt s p 4 w.number w.bits
  unfolding words refused
  norm_stands =
      let B = found_there in
      record {
        inside = rw (append-nil table16) (omega (arith, long16, B.inside));
        word = rw (append-nil table16) (B.word ∙ take_view s p w.bits 7 B.few);
      }

  pub norm_number : w.number < 65536
  norm_number = omega (arith, found_there.inside)

  pub norm_cut : m < w.bits → Err Past ≡ placed p m (unword (column 4) (view s p m))
  norm_cut h = stands_cut m norm_stands h

  pub norm_fine : w.bits ≤ m → whole_word w.number (p + w.bits) ≡ placed p m (unword (column 4) (view s p m))
  norm_fine h = stands_fine m norm_stands h (omega (arith, found_there.inside, size16))

-- ---- what an entry says

module _ (s : List ℕ) (p c e : ℕ) (t : T (right (c * 128 + val (view s p 7)) e)) where
  seven_lt : val (view s p 7) < 128
  seven_lt = view_lt s p 7

  c_is : (c * 128 + val (view s p 7)) / 128 ≡ c
  c_is = omega (arith, seven_lt)

  bits_are : (c * 128 + val (view s p 7)) % 128 ≡ val (view s p 7)
  bits_are = omega (arith, seven_lt)

  pub entry_lacking : e ≡ 0 → T (begins c (length (words c)) 7 (word 7 (val (view s p 7))))
  unfolding right
  entry_lacking z = rw (eq-eqb e 0 z, c_is, bits_are) at t

  entry_both : (e ≡ 0 → ⊥) → T (ltb (e / 8) (length (words c)) && begins c (e / 8) (e % 8) (word 7 (val (view s p 7))))
  unfolding right
  entry_both z = rw (ne_eqb e 0 z, c_is, bits_are) at t

  pub entry_word : (e ≡ 0 → ⊥) → T (begins c (e / 8) (e % 8) (word 7 (val (view s p 7))))
  entry_word z = (and_T (ltb (e / 8) (length (words c))) (begins c (e / 8) (e % 8) (word 7 (val (view s p 7)))) (entry_both z)).1

  pub entry_lt : (e ≡ 0 → ⊥) → e / 8 < length (words c)
  entry_lt z = ltb→lt _ _ (and_T (ltb (e / 8) (length (words c))) (begins c (e / 8) (e % 8) (word 7 (val (view s p 7)))) (entry_both z)).0

-- a look-up that passes the test of each entry
pub reading_entry_is : {k e : ℕ} (t : List ℕ) → e ≡ get_or t k 0 → T (every right 0 t) → k < length t → T (right k e)
reading_entry_is {k} t q f h = subst (λ (x : ℕ). T (right k x)) (sym q) (every_at right t 0 f k h)

-- ---- what the code answers by the entry e, at the seven bits that it read

module _ (s : List ℕ) (p m c e : ℕ) {z : ℕ} (q : z ≡ val (view s p 7)) (t : T (right (c * 128 + z) e)) where
  told : T (right (c * 128 + val (view s p 7)) e)
  told = rw q at t

  stands : (v n : ℕ) → n ≤ 7 → T (begins c v n (word 7 (val (view s p 7)))) → StandsAt s p c v n
  unfolding begins
  stands v n few b =
      let all = words c ++ refused c in
      let u = and_T (ltb v (length all)) (same (get_or all v []) (take n (word 7 (val (view s p 7))))) b in
      record {
        inside = ltb→lt _ _ u.0;
        word = same_eq _ _ u.1 ∙ ap (take n) (rw length_view at (word_val (view s p 7))) ∙ take_view s p n 7 few;
      }

  lacks : e ≡ 0 → StandsAt s p c (length (words c)) 7
  lacks h = stands _ 7 (omega arith) (entry_lacking s p c e told h)

  names : (e ≡ 0 → ⊥) → StandsAt s p c (e / 8) (e % 8)
  names h = stands (e / 8) (e % 8) (omega arith) (entry_word s p c e told h)

  pub column_lacking_cut : e ≡ 0 → m < 7 → Err Past ≡ placed p m (unword (column c) (view s p m))
  column_lacking_cut h l = stands_cut m (lacks h) l

  pub column_lacking : e ≡ 0 → 7 ≤ m → Err Missing ≡ placed p m (unword (column c) (view s p m))
  column_lacking h l = stands_refused m (lacks h) l (le_refl _)

  pub column_cut : (e ≡ 0 → ⊥) → m < e % 8 → Err Past ≡ placed p m (unword (column c) (view s p m))
  column_cut h l = stands_cut m (names h) l

  pub column_fine : (e ≡ 0 → ⊥) → e % 8 ≤ m → whole_word (e / 8) (p + e % 8) ≡ placed p m (unword (column c) (view s p m))
  column_fine h l = stands_fine m (names h) l (entry_lt s p c e told h)
