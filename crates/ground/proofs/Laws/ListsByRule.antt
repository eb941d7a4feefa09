-- Lists filled by a rule from the place, one element a turn.
-- Assumes nothing.
use mathlib.Core.Path.{◌≡◌, refl, sym, ap, ◌∙◌}
use mathlib.Core.List.{List, ◌∷◌}
use Prim.Native.Nat.{ℕ, zero, suc, ◌+◌, ◌<◌, ◌≤◌}
use native.Mathlib.Nat.{add-zero, add-suc, suc-add, zero-add, le_of_suc-le-suc, not-suc-le-zero}
use native.Mathlib.Omega.{arith}
use native.Mathlib.Decide.{dec_lt}
use borrow.Author.Count.{below_more}
use lib.ListN.{length, get_or, set, get_or-eq_default}
use lib.Seq.{get_or-set_same, get_or-set_other, ext_get_or}
use Rattle.ground.specs.ListsByRule.{from, table}

module _ {A : Type 0} where
  pub length_from : (f : ℕ → A) (n i : ℕ) → length (from f n i) ≡ n
  unfolding from
  length_from f zero i = refl
  length_from f (suc n) i = ap suc (length_from f n (suc i))

  get_d_from : (f : ℕ → A) (n i : ℕ) (d : A) (k : ℕ) → k < n → get_or (from f n i) k d ≡ f (i + k)
  unfolding from
  get_d_from f zero i d k h = absurd (not-suc-le-zero h)
  get_d_from f (suc n) i d zero h = ap f (sym (add-zero i))
  get_d_from f (suc n) i d (suc k) h = get_d_from f n (suc i) d k (le_of_suc-le-suc h) ∙ ap f (suc-add i k ∙ sym (add-suc i k))

  pub get_d_table : (f : ℕ → A) (n : ℕ) (d : A) (k : ℕ) → k < n → get_or (table n f) k d ≡ f k
  get_d_table f n d k h = get_d_from f n 0 d k h ∙ ap f (zero-add k)

  -- a list of n elements with f k at each place k is the table
  pub filled : (f : ℕ → A) (n : ℕ) (d : A) (l : List A) → length l ≡ n → ((k : ℕ) → k < n → get_or l k d ≡ f k) → l ≡ table n f
  filled f n d l e h =
      ext_get_or d l (table n f) (e ∙ sym (length_from f n 0)) (λ k b. let b' : k < n = rw e at b in h k b' ∙ sym (get_d_table f n d k b'))

  -- two rules that agree at each place make one table
  pub table_same : (f g : ℕ → A) (n i : ℕ) → ((k : ℕ) → i ≤ k → k < i + n → f k ≡ g k) → from f n i ≡ from g n i
  unfolding from
  table_same f g zero i h = refl
  table_same f g (suc n) i h =
      rw (h i (omega arith) (omega arith)) (ap (λ (l : List A). g i ∷ l) (table_same f g n (suc i) (λ k a b. h k (omega arith) (omega arith))))

  -- upwards: places below i are filled, and place i is next
  pub fill : (f : ℕ → A) (d : A) (l : List A) (i : ℕ) (v : A) → i < length l → ((k : ℕ) → k < i → get_or l k d ≡ f k) → v ≡ f i
      → (k : ℕ) → k < i + 1 → get_or (set l i v) k d ≡ f k
  fill f d l i v b h e =
      below_more (λ k. get_or (set l i v) k d ≡ f k) i (λ k c. get_or-set_other l i k v d (omega arith) ∙ h k c) (get_or-set_same l i v d b ∙ e)

-- a bound at each place of a list bounds whatever get_or gives
pub everywhere : (l : List ℕ) (n m : ℕ) → length l ≡ n → ((k : ℕ) → k < n → get_or l k 0 ≤ m) → (k : ℕ) → get_or l k 0 ≤ m
everywhere l n m e h k =
    elim (dec_lt k n) [ yes p ↦ h k p | no p ↦ rw (get_or-eq_default l 0 {n = k} (omega (arith, p))) (omega arith) ]
