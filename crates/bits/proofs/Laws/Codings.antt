-- The two laws of a coding: what was written is read back, what was read is what is written. Then words at a place of some bytes.
-- Assumes nothing.
use mathlib.Core.Path.{◌≡◌, refl, sym, ap, ◌∙◌}
use mathlib.Core.Bool.{Bool, true, false, ◌&&◌}
use mathlib.Core.List.{List, [], ◌∷◌, ◌++◌, append_assoc}
use mathlib.Core.Option.{Option, some, none}
use Prim.Native.Nat.{ℕ, zero, suc, ◌+◌, ◌-◌, ◌^◌, ◌≤◌, ◌<◌}
use native.Mathlib.Nat.{add-zero, zero-add, add-suc, suc-add, le_of_suc-le-suc, mod-eq_of_lt}
use native.Mathlib.Omega.{arith}
use lib.Dec.{T, leb, ltb}
use lib.ListN.{length, get_or, take, drop, length-append, take-append-drop, get_or-append}
use lib.Seq.{take_at, drop_at, length-take-le}
use borrow.Author.Tests.{le-leb, lt-leb, leb-true, ltb-true, lt-ltb, le-ltb}
use Rattle.ground.proofs.Laws.Cases.{and_T}
use Rattle.bits.specs.Bits.{word, val, view}
use Rattle.bits.specs.Codings.{Answer, got, no, Coding, fixed, prefix, word_of, strip, or_else, find, keep, below, whole, unword}
use Rattle.bits.specs.Codings.{fit, Fit}
use Rattle.bits.specs.declared.Refusal.{Refusal}
use Rattle.bits.specs.declared.Refusal.TheVariants.{Missing, Past}
use Rattle.bits.proofs.Laws.NumbersAsBits.{val_lt, val_word, word_val, length_word}
use Rattle.bits.proofs.Laws.Views.{length_view, take_view, drop_view}

-- ---- codings that obey both laws

-- no word begins another: a test that is computed
unfoldable pub apart : List Bool → List Bool → Bool
apart [] u = false
apart (true ∷ w) [] = false
apart (false ∷ w) [] = false
apart (true ∷ w) (true ∷ u) = apart w u
apart (true ∷ w) (false ∷ u) = true
apart (false ∷ w) (true ∷ u) = true
apart (false ∷ w) (false ∷ u) = apart w u

unfoldable pub apart_all : List Bool → List (List Bool) → Bool
apart_all w [] = true
apart_all w (u ∷ t) = apart w u && apart_all w t

unfoldable pub prefix_free : List (List Bool) → Bool
prefix_free [] = true
prefix_free (w ∷ t) = apart_all w t && prefix_free t

abbrev pub Good : Coding → Type 0
Good (fixed n) = Unit {0}
Good (prefix t u) = T (prefix_free (t ++ u))

-- ---- words and their numbers

pub word_fixed : (n v : ℕ) → word_of (fixed n) v ≡ word n v
unfolding word_of
word_fixed n v = refl

pub fit_yes : (c : Coding) (v : ℕ) → Fit c v → fit c v ≡ true
fit_yes (fixed n) v f = lt-ltb v (2 ^ n) f
fit_yes (prefix t u) v f = lt-ltb v (length t) f

pub fit_at : (c : Coding) (v : ℕ) → fit c v ≡ true → Fit c v
fit_at (fixed n) v e = ltb-true v (2 ^ n) e
fit_at (prefix t u) v e = ltb-true v (length t) e

-- ---- strip and find

strip_word : (w r : List Bool) → strip w (w ++ r) ≡ some r
unfolding strip
strip_word [] r = refl
strip_word (true ∷ w) r = strip_word w r
strip_word (false ∷ w) r = strip_word w r

strip_sound : (w b r : List Bool) → strip w b ≡ some r → b ≡ w ++ r
unfolding strip
strip_sound [] b r e = cc
strip_sound (true ∷ w) [] r e = cc
strip_sound (false ∷ w) [] r e = cc
strip_sound (true ∷ w) (true ∷ b) r e = ap (λ (l : List Bool). true ∷ l) (strip_sound w b r e)
strip_sound (true ∷ w) (false ∷ b) r e = cc
strip_sound (false ∷ w) (true ∷ b) r e = cc
strip_sound (false ∷ w) (false ∷ b) r e = ap (λ (l : List Bool). false ∷ l) (strip_sound w b r e)

strip_apart : (w u r : List Bool) → T (apart w u) → strip w (u ++ r) ≡ none
unfolding strip apart
strip_apart [] u r t = absurd t
strip_apart (true ∷ w) [] r t = absurd t
strip_apart (false ∷ w) [] r t = absurd t
strip_apart (true ∷ w) (true ∷ u) r t = strip_apart w u r t
strip_apart (true ∷ w) (false ∷ u) r t = refl
strip_apart (false ∷ w) (true ∷ u) r t = refl
strip_apart (false ∷ w) (false ∷ u) r t = strip_apart w u r t

apart_at : (w : List Bool) (t : List (List Bool)) (j : ℕ) → T (apart_all w t) → j < length t → T (apart w (get_or t j []))
unfolding apart_all
apart_at w [] j a h = absurd (omega arith)
apart_at w (u ∷ t) zero a h = (and_T (apart w u) (apart_all w t) a).0
apart_at w (u ∷ t) (suc j) a h = apart_at w t j (and_T (apart w u) (apart_all w t) a).1 (le_of_suc-le-suc h)

pub find_word : (t : List (List Bool)) (k j : ℕ) (r : List Bool) → T (prefix_free t) → j < length t → find t k (get_or t j [] ++ r) ≡ got (k + j) r
unfolding find prefix_free
find_word [] k j r f h = absurd (omega arith)
find_word (w ∷ t) k zero r f h = rw (strip_word w r, add-zero)
find_word (w ∷ t) k (suc j) r f h =
    rw (strip_apart w (get_or t j []) r (apart_at w t j (and_T (apart_all w t) (prefix_free t) f).0 (le_of_suc-le-suc h)), add-suc, ← suc-add)
    (find_word t (suc k) j r (and_T (apart_all w t) (prefix_free t) f).1 (le_of_suc-le-suc h))

-- what was found is a word of the table
pub record Found (t : List (List Bool)) (k v : ℕ) (b r : List Bool) : Type 0 where
  pub place : ℕ
  pub named : v ≡ k + place
  pub inside : place < length t
  pub begins : b ≡ get_or t place [] ++ r

pub find_sound : (t : List (List Bool)) (k : ℕ) (b : List Bool) (v : ℕ) (r : List Bool) → find t k b ≡ got v r → Found t k v b r
unfolding find
find_sound [] k b v r e = absurd (let z : ◌≡◌ {A = ℕ} 0 1 = cc in omega arith)
find_sound (w ∷ t) k b v r e = go (strip w b) refl e (find_sound t (suc k) b v r)
  where
    go : (o : Option (List Bool)) → strip w b ≡ o → or_else o k (find t (suc k) b) ≡ got v r
        → (find t (suc k) b ≡ got v r → Found t (suc k) v b r) → Found (w ∷ t) k v b r
    go (some x) s e ih =
        record { place = 0; named = (let z : k ≡ v = cc in omega arith); inside = omega arith; begins = strip_sound w b r (s ∙ (cc)) }
    go none s e ih =
        let f = ih e in
        record { place = suc f.place; named = omega (arith, f.named); inside = omega (arith, f.inside); begins = f.begins }

-- ---- unword

-- read after write
pub unword_word : (c : Coding) (v : ℕ) (r : List Bool) → Good c → Fit c v → unword c (word_of c v ++ r) ≡ got v r
unfolding unword word_of
unword_word (fixed n) v r g f =
    let h : n ≤ length (word n v ++ r) = omega (arith, length-append (word n v) r, length_word n v) in
    rw (le-leb n (length (word n v ++ r)) h, take_at (word n v) r n (length_word n v), drop_at (word n v) r n (length_word n v), val_word n v, mod-eq_of_lt f)
unword_word (prefix t u) v r g f =
    let h : v < length (t ++ u) = omega (arith, length-append t u) in
    let e : find (t ++ u) 0 (get_or t v [] ++ r) ≡ got v r =
    ap (λ (w : List Bool). find (t ++ u) 0 (w ++ r)) (sym (get_or-append t u [] v f))
    ∙ find_word (t ++ u) 0 v r g h
    ∙ ap (λ (k : ℕ). got k r) (zero-add v) in
    rw (e, lt-ltb v (length t) f)

whole_sound : (n : ℕ) (b : List Bool) (v : ℕ) (r : List Bool) (t : Bool) → leb n (length b) ≡ t → whole t n b ≡ got v r
    → (b ≡ word n v ++ r) × (v < 2 ^ n)
whole_sound n b v r true l e =
    let h : n ≤ length b = leb-true n (length b) l in
    let ev : val (take n b) ≡ v = cc in
    let er : drop n b ≡ r = cc in
    let ew : word n (val (take n b)) ≡ take n b = rw (length-take-le n b h) at (word_val (take n b)) in
    (rw (← ev, ← er, ew) (sym (take-append-drop n b)), rw (← ev) (rw (length-take-le n b h) at (val_lt (take n b))))
whole_sound n b v r false l e = absurd (let z : ◌≡◌ {A = ℕ} 0 1 = cc in omega arith)

keep_sound : (t : Bool) (x v : ℕ) (y r : List Bool) → keep t (got x y) ≡ got v r → (t ≡ true) × (x ≡ v) × (y ≡ r)
keep_sound true x v y r e = (refl, (cc), (cc))
keep_sound false x v y r e = absurd (let z : ◌≡◌ {A = ℕ} 0 1 = cc in omega arith)

prefix_sound : (t u : List (List Bool)) (b : List Bool) (v : ℕ) (r : List Bool) (g : Answer ℕ) → find (t ++ u) 0 b ≡ g → below (length t) g ≡ got v r
    → (b ≡ get_or t v [] ++ r) × (v < length t)
prefix_sound t u b v r (got x y) l e =
    let q = keep_sound (ltb x (length t)) x v y r e in
    let f = find_sound (t ++ u) 0 b x y l in
    let small : v < length t = rw (← q.1) (ltb-true x (length t) q.0) in
    let ev : v ≡ f.place = omega (arith, f.named, q.1) in
    (rw (← get_or-append t u [] v small, ev, ← q.2) f.begins, small)
prefix_sound t u b v r (no x) l e = absurd (let z : ◌≡◌ {A = ℕ} 0 1 = cc in omega arith)

-- write after read
pub word_unword : (c : Coding) (b : List Bool) (v : ℕ) (r : List Bool) → unword c b ≡ got v r → (b ≡ word_of c v ++ r) × Fit c v
unfolding unword word_of
word_unword (fixed n) b v r e = whole_sound n b v r (leb n (length b)) refl e
word_unword (prefix t u) b v r e = prefix_sound t u b v r (find (t ++ u) 0 b) refl e

-- ---- words that are cut

find_no : (t : List (List Bool)) (k : ℕ) (b : List Bool) (x : Refusal) → find t k b ≡ no x → x ≡ Past
unfolding find
find_no [] k b x e = cc
find_no (w ∷ t) k b x e = go (strip w b) e (find_no t (suc k) b x)
  where
    go : (o : Option (List Bool)) → or_else o k (find t (suc k) b) ≡ no x → (find t (suc k) b ≡ no x → x ≡ Past) → x ≡ Past
    go (some r) e ih = cc
    go none e ih = ih e

-- bits that end within a word of the table begin with no word of it
pub find_cut : (t : List (List Bool)) (v : ℕ) (b z y : List Bool) → T (prefix_free t) → v < length t
    → b ++ z ≡ get_or t v [] ++ y → length b < length (get_or t v []) → find t 0 b ≡ no Past
find_cut t v b z y f h e l = go (find t 0 b) refl
  where
    go : (g : Answer ℕ) → find t 0 b ≡ g → g ≡ no Past
    go (got j r) q =
        let s = find_sound t 0 b j r q in
        let at_place = find_word t 0 s.place (r ++ z) f s.inside in
        let at-v = find_word t 0 v y f h in
        let e₁ : get_or t s.place [] ++ (r ++ z) ≡ get_or t v [] ++ y =
        sym (append_assoc (get_or t s.place []) r z) ∙ ap (λ (x : List Bool). x ++ z) (sym s.begins) ∙ e in
        let e₂ : got (0 + s.place) (r ++ z) ≡ got (0 + v) y = sym at_place ∙ ap (find t 0) e₁ ∙ at-v in
        let e₃ : 0 + s.place ≡ 0 + v = cc in
        let e₄ : s.place ≡ v = omega arith in
        absurd (omega (arith, ap length s.begins, length-append (get_or t s.place []) r, ap (λ (k : ℕ). length (get_or t k [])) e₄))
    go (no x) q = ap no (find_no t 0 b x q)

-- ---- words at a place of some bytes

pub fixed_fine : (s : List ℕ) (p n m : ℕ) → n ≤ m → unword (fixed n) (view s p m) ≡ got (val (view s p n)) (view s (p + n) (m - n))
unfolding unword
fixed_fine s p n m h = rw (length_view s p m, le-leb n m h, take_view s p n m h, drop_view s p n m h)

pub fixed_short : (s : List ℕ) (p n m : ℕ) → m < n → unword (fixed n) (view s p m) ≡ no Past
unfolding unword
fixed_short s p n m h = rw (length_view s p m, lt-leb n m h)

-- a word that was found, with k words before the refused ones
pub found_fine : (t u : List (List Bool)) (b : List Bool) (v : ℕ) (r : List Bool) → find (t ++ u) 0 b ≡ got v r → v < length t → unword (prefix t u) b ≡ got v r
unfolding unword
found_fine t u b v r e h = rw (e, lt-ltb v (length t) h)

pub found_refused : (t u : List (List Bool)) (b : List Bool) (v : ℕ) (r : List Bool) → find (t ++ u) 0 b ≡ got v r → length t ≤ v
    → unword (prefix t u) b ≡ no Missing
unfolding unword
found_refused t u b v r e h = rw (e, le-ltb v (length t) h)

pub found_cut : (t u : List (List Bool)) (b : List Bool) → find (t ++ u) 0 b ≡ no Past → unword (prefix t u) b ≡ no Past
unfolding unword
found_cut t u b e = rw e
