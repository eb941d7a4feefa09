-- The first cause that holds is the reply; 0 where none does, and only there; lists behind lists; the numbers that a list can give.
-- Assumes nothing.
use mathlib.Core.Path.{◌≡◌, refl, sym, ap, ◌∙◌}
use mathlib.Core.Bool.{Bool, true, false, not, ◌&&◌}
use mathlib.Core.List.{List, [], ◌∷◌, ◌++◌}
use Prim.Native.Nat.{ℕ, zero, suc, ◌+◌, ◌≤◌, ◌<◌}
use native.Mathlib.Decide.{ℕ_discrete}
use native.Mathlib.Omega.{arith}
use lib.Dec.{T, ltb, eqb}
use borrow.Author.Tests.{lt-ltb, le-ltb, eq-eqb, ne_eqb, eqb-true}
use Rattle.ground.proofs.Laws.Cases.{by_bool, and_T}
use Rattle.ground.proofs.Laws.Cases.{T_and}
use Rattle.ground.specs.Runs.{runs}
use Rattle.ground.proofs.Laws.Runs.{runs_more}
use Rattle.ground.specs.Replies.{done}
use Rattle.ground.specs.Refusals.{Cause, ◌gives◌, not_done, said, first}

-- ---- row by row: the first cause that holds is the reply, those before it failing

pub row_holds : {t : Bool} {n : ℕ} (cs : List Cause) → t ≡ true → n ≡ first (t gives n ∷ cs)
unfolding first
row_holds cs e = rw e

pub row_fails : {t : Bool} {x : ℕ} (n : ℕ) (cs : List Cause) → t ≡ false → x ≡ first cs → x ≡ first (t gives n ∷ cs)
unfolding first
row_fails n cs e q = rw e q

pub no_row : done ≡ first []
unfolding first
no_row = refl

-- a test that is denied
pub yes_not : {a : Bool} → a ≡ true → not a ≡ false
yes_not q = rw q

pub no_not : {a : Bool} → a ≡ false → not a ≡ true
no_not q = rw q

-- a test of what a call has answered: b, and the number m
module _ {a b : Bool} (e : a ≡ b) where
  pub said_not : {t : Bool} → not a ≡ t → not b ≡ t
  said_not q = rw (← e) q

  pub said_true : a ≡ true → not b ≡ false
  said_true q = rw (← e, q)

  pub said_false : a ≡ false → not b ≡ true
  said_false q = rw (← e, q)

module _ {n m : ℕ} (k : ℕ) (e : n ≡ m) where
  pub said_over : k < n → ltb k m ≡ true
  said_over h = lt-ltb k m (omega arith)

  pub said_within : n ≤ k → ltb k m ≡ false
  said_within h = le-ltb k m (omega arith)

pub ruleset by_rows = (row_holds, row_fails, no_row, lt-ltb, le-ltb, eq-eqb, ne_eqb, yes_not, no_not, said_not, said_true, said_false, said_over, said_within)

-- ---- 0 is the reply where no cause holds, and only there

abbrev pub NoneHolds : List Cause → Type 0
NoneHolds [] = Unit
NoneHolds (t gives n ∷ cs) = (t ≡ false) × NoneHolds cs

-- a test that the number of each cause passes
abbrev pub numbers : (ℕ → Bool) → List Cause → Bool
numbers f [] = true
numbers f (t gives n ∷ cs) = f n && numbers f cs

pub none_first : (cs : List Cause) → NoneHolds cs → first cs ≡ done
unfolding first
none_first [] h = refl
none_first (t gives n ∷ cs) h = rw h.0 (none_first cs h.1)

-- a number that is given is not 0
given : (n : ℕ) (cs : List Cause) → T (not_done n && numbers not_done cs) → n ≡ done → ⊥
given n cs k e = rw (eq-eqb n 0 e) at (and_T (not_done n) (numbers not_done cs) k).0

pub first_none : (cs : List Cause) → T (numbers not_done cs) → first cs ≡ done → NoneHolds cs
unfolding first
first_none [] k e = tt
first_none (true gives n ∷ cs) k e = absurd (given n cs k e)
first_none (false gives n ∷ cs) k e = (refl, first_none cs (and_T (not_done n) (numbers not_done cs) k).1 e)

-- ---- one list behind another

-- a cause in front is the reply
pub front_first : {x : ℕ} (a b : List Cause) → x ≡ first a → (x ≡ done → ⊥) → x ≡ first (a ++ b)
unfolding first
front_first [] b e n = absurd (n e)
front_first (true gives m ∷ a) b e n = e
front_first (false gives m ∷ a) b e n = front_first a b e n

-- where none holds in front the list behind decides
pub back_first : {x : ℕ} (a b : List Cause) → T (numbers not_done a) → first a ≡ done → x ≡ first b → x ≡ first (a ++ b)
unfolding first
back_first [] b k z e = e
back_first (true gives m ∷ a) b k z e = absurd (given m a k z)
back_first (false gives m ∷ a) b k z e = back_first a b (and_T (not_done m) (numbers not_done a) k).1 z e

-- 0 of both is a reply of 0, and only that is
pub neither_first : (a b : List Cause) → first a ≡ done → first b ≡ done → first (a ++ b) ≡ done
unfolding first
neither_first [] b z e = e
neither_first (true gives m ∷ a) b z e = z
neither_first (false gives m ∷ a) b z e = neither_first a b z e

pub both_first : (a b : List Cause) → T (numbers not_done a) → first (a ++ b) ≡ done → (first a ≡ done) × (first b ≡ done)
unfolding first
both_first [] b k z = (refl, z)
both_first (true gives m ∷ a) b k z = absurd (given m a k z)
both_first (false gives m ∷ a) b k z = both_first a b (and_T (not_done m) (numbers not_done a) k).1 z

-- ---- the numbers: what passes 0 and the number of each cause passes the reply

pub first_number : (f : ℕ → Bool) (cs : List Cause) → T (f done) → T (numbers f cs) → T (f (first cs))
unfolding first
first_number f [] z k = z
first_number f (true gives n ∷ cs) z k = (and_T (f n) (numbers f cs) k).0
first_number f (false gives n ∷ cs) z k = first_number f cs z (and_T (f n) (numbers f cs) k).1

pub numbers_append : (f : ℕ → Bool) (a b : List Cause) → T (numbers f a) → T (numbers f b) → T (numbers f (a ++ b))
numbers_append f [] b k l = l
numbers_append f (t gives n ∷ a) b k l =
    let q = and_T (f n) (numbers f a) k in
    T_and (f n) (numbers f (a ++ b)) q.0 (numbers_append f a b q.1 l)

-- what passes the causes in front, and the reply of those behind where none in front holds, passes the reply
pub behind_number : (f : ℕ → Bool) (a b : List Cause) → T (numbers f a) → (NoneHolds a → T (f (first b))) → T (f (first (a ++ b)))
unfolding first
behind_number f [] b k h = h tt
behind_number f (true gives n ∷ a) b k h = (and_T (f n) (numbers f a) k).0
behind_number f (false gives n ∷ a) b k h = behind_number f a b (and_T (f n) (numbers f a) k).1 (λ q. h (refl, q))

-- ---- what another call has answered, as the only cause

pub said_first : (x : ℕ) → first (said x ∷ []) ≡ x
unfolding first
said_first x = by_bool (eqb x done) (λ t. rw t (sym (eqb-true x done t))) (λ t. rw t)

-- ---- runs of causes, f 0 ++ f 1 ++ …

module _ (f : ℕ → List Cause) where
  pub runs_numbers : (g : ℕ → Bool) → ((c : ℕ) → T (numbers g (f c))) → (n : ℕ) → T (numbers g (runs n f))
  unfolding runs
  runs_numbers g h zero = tt
  runs_numbers g h (suc n) = numbers_append g (runs n f) (f n) (runs_numbers g h n) (h n)

  pub runs_none : (n : ℕ) → ((c : ℕ) → c < n → first (f c) ≡ done) → first (runs n f) ≡ done
  unfolding runs first
  runs_none zero h = refl
  runs_none (suc n) h = neither_first (runs n f) (f n) (runs_none n (λ c b. h c (omega arith))) (h n (omega arith))

  -- a cause stays
  pub runs_stay : (c n : ℕ) → (first (runs c f) ≡ done → ⊥) → c ≤ n → first (runs n f) ≡ first (runs c f)
  unfolding runs
  runs_stay c zero q b = let e : c ≡ 0 = omega arith in ap (λ (k : ℕ). first (runs k f)) (sym e)
  runs_stay c (suc n) q b =
      elim (ℕ_discrete c (suc n)) [
        | yes e ↦ ap (λ (k : ℕ). first (runs k f)) (sym e)
        | no e ↦ (let s = runs_stay c n q (omega (arith, e)) in sym (front_first (runs n f) (f n) (sym s) q))
      ]

  module _ (h : (c : ℕ) → T (numbers not_done (f c))) where
    pub runs_told : (n : ℕ) → first (runs n f) ≡ done → (c : ℕ) → c < n → first (f c) ≡ done
    unfolding runs
    runs_told zero z c b = absurd (omega arith)
    runs_told (suc n) z c b =
        let p = both_first (runs n f) (f n) (runs_numbers not_done h n) z in
        elim (ℕ_discrete c n) [ yes e ↦ rw e p.1 | no e ↦ runs_told n p.0 c (omega (arith, e)) ]

    -- the runs in front have none: the next one decides
    pub runs_next : (c : ℕ) → first (runs c f) ≡ done → first (f c) ≡ first (runs (c + 1) f)
    runs_next c z = back_first (runs c f) (f c) (runs_numbers not_done h c) z refl ∙ ap first (sym (runs_more f c))
