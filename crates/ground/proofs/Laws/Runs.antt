-- Lists made of runs: their lengths and fronts, and a lent list taken part by part.
-- Assumes nothing.
use mathlib.Core.Path.{◌≡◌, refl, sym, ap, ap₂, ◌∙◌}
use mathlib.Core.List.{List, [], ◌∷◌, ◌++◌, append_assoc, append-nil}
use Prim.Native.Nat.{ℕ, zero, suc, ◌+◌, ◌*◌, ◌-◌, ◌≤◌, ◌<◌}
use native.Mathlib.Nat.{zero-mul, suc-mul, add-zero, add-suc}
use native.Mathlib.Numerals.{add-one}
use native.Mathlib.Omega.{arith}
use lib.ListN.{length, drop, take, set, get_or, length-set, replicate, length-append, length-drop}
use lib.Seq.{drop-cons, set_at, append_snoc, take_at, drop_at, drop-drop, length-take-le}
use Rattle.ground.specs.ListsByRule.{table, from}
use Rattle.ground.proofs.Laws.ListsByRule.{length_from}
use Rattle.ground.specs.Sums.{sum_to}
use Rattle.ground.specs.Runs.{runs, part}

next_part : (c k : ℕ) → c * k + k ≡ (c + 1) * k
next_part c k = sym (ap (λ (j : ℕ). j * k) (add-one c) ∙ suc-mul c k)

module _ {A : Type 0} where
  module _ (f : ℕ → List A) where
    pub runs_none : runs 0 f ≡ []
    unfolding runs
    runs_none = refl

    pub runs_more : (n : ℕ) → runs (n + 1) f ≡ runs n f ++ f n
    unfolding runs
    runs_more n = ap (λ (k : ℕ). runs k f) (add-one n)

    pub length_runs : (n : ℕ) → length (runs n f) ≡ sum_to (λ k. length (f k)) n
    unfolding runs sum_to
    length_runs zero = refl
    length_runs (suc n) = length-append (runs n f) (f n) ∙ ap (λ (k : ℕ). k + length (f n)) (length_runs n)

  pub runs_same : (f g : ℕ → List A) (n : ℕ) → ((k : ℕ) → k < n → f k ≡ g k) → runs n f ≡ runs n g
  unfolding runs
  runs_same f g zero h = refl
  runs_same f g (suc n) h = ap₂ (λ (x y : List A). x ++ y) (runs_same f g n (λ k b. h k (omega arith))) (h n (omega arith))

  -- m runs, and n more behind them
  pub runs_add : (f : ℕ → List A) (m n : ℕ) → runs (m + n) f ≡ runs m f ++ runs n (λ k. f (m + k))
  unfolding runs
  runs_add f m zero = ap (λ (k : ℕ). runs k f) (add-zero m) ∙ sym (append-nil (runs m f))
  runs_add f m (suc n) =
      ap (λ (k : ℕ). runs k f) (add-suc m n) ∙ ap (λ (x : List A). x ++ f (m + n)) (runs_add f m n)
      ∙ append_assoc (runs m f) (runs n (λ k. f (m + k))) (f (m + n))

  -- the first run, and the others
  pub runs_front : (f : ℕ → List A) (n : ℕ) → runs (suc n) f ≡ f 0 ++ runs n (λ k. f (suc k))
  unfolding runs
  runs_front f zero = sym (append-nil (f 0))
  runs_front f (suc n) = ap (λ (x : List A). x ++ f (suc n)) (runs_front f n) ∙ append_assoc (f 0) (runs n (λ k. f (suc k))) (f (suc n))

  -- ---- an array filled from the front: the first i places are as f says, the rest as before
  from_last : (f : ℕ → A) (n i : ℕ) → from f (suc n) i ≡ from f n i ++ (f (i + n) ∷ [])
  unfolding from
  from_last f zero i = let e : i ≡ i + 0 = omega arith in ap (λ (k : ℕ). f k ∷ []) e
  from_last f (suc n) i =
      let e : suc i + n ≡ i + suc n = omega arith in
      ap (λ (l : List A). f i ∷ l) (from_last f n (suc i) ∙ ap (λ (k : ℕ). from f n (suc i) ++ (f k ∷ [])) e)

  pub table_more : (f : ℕ → A) (n : ℕ) → table (n + 1) f ≡ table n f ++ (f n ∷ [])
  table_more f n =
      let e : 0 + n ≡ n = omega arith in
      ap (λ (k : ℕ). table k f) (add-one n) ∙ from_last f n 0 ∙ ap (λ (k : ℕ). table n f ++ (f k ∷ [])) e

  pub record Fronted (f : ℕ → A) (l₀ l : List A) (i : ℕ) : Type 0 where
    pub long : length l ≡ length l₀
    pub same : l ≡ table i f ++ drop i l₀

  pub fronted_none : {f : ℕ → A} {l₀ : List A} → Fronted f l₀ l₀ 0
  unfolding from
  fronted_none = record { long = refl; same = refl }

  pub fronted_more : {f : ℕ → A} {l₀ l : List A} {i : ℕ} {v : A} → Fronted f l₀ l i → i < length l₀ → v ≡ f i → Fronted f l₀ (set l i v) (i + 1)
  fronted_more {f} {l₀} {l} {i} {v} c h e =
      record {
        long = length-set l i v ∙ c.long;
        same =
            ap (λ (x : List A). set x i v) (c.same ∙ ap (λ (x : List A). table i f ++ x) (drop-cons l₀ i v h))
            ∙ set_at (table i f) (get_or l₀ i v) (drop (suc i) l₀) v i (length_from f i 0)
            ∙ sym (append_snoc (table i f) v (drop (suc i) l₀))
            ∙ ap (λ (x : A). (table i f ++ (x ∷ [])) ++ drop (suc i) l₀) e
            ∙ ap (λ (x : List A). x ++ drop (suc i) l₀) (sym (table_more f i))
            ∙ ap (λ (k : ℕ). table (i + 1) f ++ drop k l₀) (sym (add-one i));
      }

  pub drop_same : (n m : ℕ) (x : A) → n ≤ m → drop n (replicate m x) ≡ replicate (m - n) x
  drop_same zero m x h = let e : m ≡ m - 0 = omega arith in ap (λ (j : ℕ). replicate j x) e
  drop_same (suc n) zero x h = absurd (omega arith)
  drop_same (suc n) (suc m) x h = let e : m - n ≡ suc m - suc n = omega arith in drop_same n m x (omega arith) ∙ ap (λ (j : ℕ). replicate j x) e

  -- what stands in a list when a part of it was lent and came back
  abbrev pub backed : List A → ℕ → ℕ → List A → List A
  backed l a m ys = take a l ++ (ys ++ drop m (drop a l))

  pub record Parted (k : ℕ) (f : ℕ → List A) (l₀ l : List A) (c : ℕ) : Type 0 where
    pub long : length l ≡ length l₀
    pub front : length (runs c f) ≡ c * k
    pub same : l ≡ runs c f ++ drop (c * k) l₀

  pub parted_none : {k : ℕ} {f : ℕ → List A} {l₀ : List A} → Parted k f l₀ l₀ 0
  unfolding runs
  parted_none {k} {f} {l₀} = record { long = refl; front = sym (zero-mul k); same = ap (λ (n : ℕ). drop n l₀) (sym (zero-mul k)) }

  -- from part c on it is as it was
  pub parted_rest : {k : ℕ} {f : ℕ → List A} {l₀ l : List A} {c : ℕ} → Parted k f l₀ l c → drop (c * k) l ≡ drop (c * k) l₀
  parted_rest {k} {f} {l₀} {l} {c} r = ap (drop (c * k)) r.same ∙ drop_at (runs c f) (drop (c * k) l₀) (c * k) r.front

  pub length_part : (k : ℕ) (l : List A) (c : ℕ) → c * k + k ≤ length l → length (part k l c) ≡ k
  length_part k l c h = length-take-le k (drop (c * k) l) (omega (arith, length-drop (c * k) l))

  pub parted_more : {k : ℕ} {f : ℕ → List A} {l₀ l : List A} {c m : ℕ} {ys : List A} → Parted k f l₀ l c → m ≡ k → c * k + k ≤ length l₀ → length ys ≡ k
      → ys ≡ f c
      → Parted k f l₀ (backed l (c * k) m ys) (c + 1)
  parted_more {k} {f} {l₀} {l} {c} {m} {ys} r e h n y =
      let p : take (c * k) l ≡ runs c f = ap (take (c * k)) r.same ∙ take_at (runs c f) (drop (c * k) l₀) (c * k) r.front in
      let s = next_part c k in
      let q : drop m (drop (c * k) l) ≡ drop ((c + 1) * k) l₀ =
      ap₂ (λ (j : ℕ) (x : List A). drop j x) e (parted_rest r) ∙ drop-drop k (c * k) l₀ ∙ ap (λ (j : ℕ). drop j l₀) s in
      let t : backed l (c * k) m ys ≡ runs (c + 1) f ++ drop ((c + 1) * k) l₀ =
      ap₂ (λ (x z : List A). x ++ (ys ++ z)) p q
      ∙ sym (append_assoc (runs c f) ys (drop ((c + 1) * k) l₀))
      ∙ ap (λ (x : List A). (runs c f ++ x) ++ drop ((c + 1) * k) l₀) y
      ∙ ap (λ (x : List A). x ++ drop ((c + 1) * k) l₀) (sym (runs_more f c)) in
      let w : length (runs (c + 1) f) ≡ (c + 1) * k =
      ap length (runs_more f c) ∙ length-append (runs c f) (f c) ∙ ap₂ (λ (a b : ℕ). a + b) r.front (ap length (sym y) ∙ n) ∙ s in
      record {
        long = ap length t ∙ length-append (runs (c + 1) f) (drop ((c + 1) * k) l₀) ∙ omega (arith, w, length-drop ((c + 1) * k) l₀, s);
        front = w;
        same = t;
      }
