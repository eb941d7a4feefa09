-- The FlagC choice place by place: the costs by kind are those by rate, and the loop that adds both; then the answer by its causes.
-- Assumes nothing.
use mathlib.Core.Path.{◌≡◌, refl, sym, ap, ap₂, ◌∙◌, subst}
use mathlib.Core.Bool.{Bool, true, false}
use mathlib.Core.List.{List, [], ◌∷◌, ◌++◌, map}
use Prim.Native.Nat.{ℕ, ◌+◌, ◌*◌, ◌%◌, ◌≤◌, ◌<◌}
use native.Mathlib.Omega.{arith}
use lib.Dec.{ltb, eqb}
use lib.ListN.{length, get_or, take, length-append}
use lib.Seq.{get_or-take}
use borrow.Author.Tests.{le-leb, lt-leb, eqb-true, eqb-false}
use Rattle.ground.proofs.Laws.Cases.{by_bool}
use Rattle.ground.proofs.Laws.ListsByRule.{get_d_table}
use Rattle.ground.specs.Replies.{done, wide_code}
use Rattle.ground.specs.Refusals.{first}
use Rattle.ground.proofs.Laws.Refusals.{by_rows, front_first, back_first}
use Rattle.ground.specs.Sums.{sum_to}
use Rattle.ground.proofs.Laws.Sums.{sum_nil, sum_more, sum_same}
use Rattle.bits.specs.Codings.{word_of}
use Rattle.words.specs.Tables.{coding}
use Rattle.words.proofs.Laws.WritingTable.{word_few}
use Rattle.norms.proofs.Laws.Answers.{chosen_no, chosen_yes}
use Rattle.kinds.specs.Kinds.{kind_of, kinds}
use Rattle.kinds.proofs.Laws.Kinds.{kind_first, kind_none, kind_plain}
use Rattle.kinds.specs.Budget.{kinds_at}
use Rattle.frame.specs.Layout.{kinds_of}
use Rattle.frame.specs.declared.Record.{Record}
use Rattle.layout.specs.Fits.{fits}
use Rattle.layout.specs.Parts.{kinds_for, start_causes, width_cause, plan_of}
use Rattle.layout.specs.declared.Plan.{Plan}
use Rattle.layout.proofs.Laws.Parts.{start_numbered, room_800, Planned, planned}
use Rattle.choice.specs.Choice.{wordy, as_word, as_fixed, plain, rate_at, words_cost, fixed_cost, choice_causes, choice_reply, choice_of}
use Rattle.choice.specs.Inner.{cheaper}

-- ---- the answer

module _ (r : Record) (cs : List ℕ) (x : ℕ) (ex : x ≡ first (start_causes r (length cs))) where
  pub choice_start : (x ≡ 0 → ⊥) → record { reply = x; flag = false } ≡ choice_of r cs
  unfolding choice_of choice_causes
  choice_start n = chosen_no (front_first _ _ ex n) (ltb (words_cost r cs) (fixed_cost r)) n

  module _ (z : x ≡ 0) (ks : List ℕ) (ek : ks ≡ kinds_for (plain r)) where
    -- the codes decide
    codes_first : {y : ℕ} → y ≡ first (width_cause ks (take 800 cs) ∷ []) → y ≡ choice_reply r cs
    unfolding choice_causes
    codes_first e =
        back_first _ _ (start_numbered r (length cs)) (sym ex ∙ z) (e ∙ ap (λ (l : List ℕ). first (width_cause l (take 800 cs) ∷ [])) ek)

    choice_wide : fits (map coding ks) (take 800 cs) ≡ false → record { reply = wide_code; flag = false } ≡ choice_of r cs
    unfolding choice_of
    choice_wide f = chosen_no (codes_first (search by_rows)) (ltb (words_cost r cs) (fixed_cost r)) (λ k. omega arith)

    choice_made : fits (map coding ks) (take 800 cs) ≡ true → (b : Bool) → b ≡ ltb (words_cost r cs) (fixed_cost r)
        → record { reply = done; flag = b } ≡ choice_of r cs
    unfolding choice_of
    choice_made f b e = chosen_yes {x = done} (codes_first (search by_rows)) refl e

-- ---- costs by the kinds of a frame with FlagC 0

-- a kind that costs what a rate costs
pub record Like (kind rate : ℕ) : Type 0 where
  pub fixed : as_fixed kind ≡ as_fixed rate
  pub word : (v : ℕ) → as_word kind v ≡ as_word rate v

-- rate 1 has kinds 8 and 0, which like it have no choice
eight : Like 8 1
unfolding as_fixed as_word wordy
eight = record { fixed = refl; word = λ v. refl }

none : Like 0 1
unfolding as_fixed as_word wordy
none = record { fixed = refl; word = λ v. refl }

kind_like : (rate i : ℕ) → Like (kind_of false rate i) rate
kind_like rate i =
    by_bool (eqb rate 1)
    (λ t.
    let e = eqb-true rate 1 t in
    by_bool (eqb (i % 8) 0)
    (λ m. subst (λ (x : ℕ). Like x rate) (kind_first false rate i e (eqb-true (i % 8) 0 m)) (subst (Like 8) (sym e) eight))
    (λ m. subst (λ (x : ℕ). Like x rate) (kind_none false rate i e (eqb-false (i % 8) 0 m)) (subst (Like 0) (sym e) none)))
    (λ t. subst (λ (x : ℕ). Like x rate) (kind_plain false rate i (eqb-false rate 1 t) refl) (record { fixed = refl; word = λ v. refl }))

-- the kinds of the record with FlagC 0, by place
kind_at : (r : Record) (i : ℕ) → i < 800 → get_or (kinds_for (plain r)) i 0 ≡ kind_of false (rate_at r i) i
unfolding kinds_of kinds_at kinds rate_at
kind_at r i h = get_d_table _ 800 0 i h

pub like_at : (r : Record) (i : ℕ) → i < 800 → Like (get_or (kinds_for (plain r)) i 0) (rate_at r i)
like_at r i h = subst (λ (x : ℕ). Like x (rate_at r i)) (sym (kind_at r i h)) (kind_like (rate_at r i) i)

-- ---- one place's costs

pub word_yes : (k v n : ℕ) → 2 ≤ k → k ≤ 5 → n ≡ length (word_of (coding (k + 14)) v) → (n ≡ as_word k v) × (n ≤ 16)
unfolding as_word wordy
word_yes k v n l h e = (rw (le-leb 2 k l, le-leb k 5 h) e, omega (arith, word_few (k + 14) v))

pub word_low : (k v : ℕ) → k < 2 → 0 ≡ as_word k v
unfolding as_word wordy
word_low k v h = rw (lt-leb 2 k h)

pub word_high : (k v : ℕ) → 2 ≤ k → 5 < k → 0 ≡ as_word k v
unfolding as_word wordy
word_high k v l h = rw (le-leb 2 k l, lt-leb k 5 h)

pub fixed_yes : (k : ℕ) → 2 ≤ k → k ≤ 5 → k ≡ as_fixed k
unfolding as_fixed wordy
fixed_yes k l h = rw (le-leb 2 k l, le-leb k 5 h)

pub fixed_low : (k : ℕ) → k < 2 → 0 ≡ as_fixed k
unfolding as_fixed wordy
fixed_low k h = rw (lt-leb 2 k h)

pub fixed_high : (k : ℕ) → 2 ≤ k → 5 < k → 0 ≡ as_fixed k
unfolding as_fixed wordy
fixed_high k l h = rw (le-leb 2 k l, lt-leb k 5 h)

-- ---- the loop that adds up both costs

pub record Costing (ks vs : List ℕ) (w f i : ℕ) : Type 0 where
  pub upto : i ≤ length ks
  pub words : w ≡ sum_to (λ j. as_word (get_or ks j 0) (get_or vs j 0)) i
  pub fixed : f ≡ sum_to (λ j. as_fixed (get_or ks j 0)) i
  pub few : (w ≤ 16 * i) × (f ≤ 16 * i)

module _ {ks vs : List ℕ} where
  pub cost_start : Costing ks vs 0 0 0
  cost_start =
      record {
        upto = omega arith;
        words = sym (sum_nil (λ j. as_word (get_or ks j 0) (get_or vs j 0)));
        fixed = sym (sum_nil (λ j. as_fixed (get_or ks j 0)));
        few = (omega arith, omega arith);
      }

  -- one more pair of a kind and a number, after those in xs
  pub cost_turn : {X : Type 0} {w f k v a b : ℕ} (xs : List X) (x : X) → Costing ks vs w f (length xs) → length xs < length ks → k ≡ get_or ks (length xs) 0
      → v ≡ get_or vs (length xs) 0 → (a ≡ as_word k v) × (a ≤ 16) → (b ≡ as_fixed k) × (b ≤ 16) → Costing ks vs (w + a) (f + b) (length (xs ++ x ∷ []))
  cost_turn xs x I h ek ev p q =
      let i = length xs in
      let l : length (xs ++ x ∷ []) ≡ i + 1 = length-append xs (x ∷ []) in
      rw l
      (record {
        upto = omega arith;
        words = omega (arith, I.words, p.0, ap₂ as_word ek ev, sum_more (λ j. as_word (get_or ks j 0) (get_or vs j 0)) i);
        fixed = omega (arith, I.fixed, q.0, ap as_fixed ek, sum_more (λ j. as_fixed (get_or ks j 0)) i);
        few = (omega (arith, I.few.0, p.1), omega (arith, I.few.1, q.1));
      })

  module _ {w f i : ℕ} (I : Costing ks vs w f i) where
    pub cost_end : length ks ≤ i → ltb w f ≡ cheaper ks vs
    unfolding cheaper
    cost_end h =
        let e : i ≡ length ks = omega (arith, I.upto) in
        ap₂ ltb (I.words ∙ ap (sum_to (λ j. as_word (get_or ks j 0) (get_or vs j 0))) e) (I.fixed ∙ ap (sum_to (λ j. as_fixed (get_or ks j 0))) e)

-- over a record's places it is 01's choice
cheaper_is : (r : Record) (cs ks : List ℕ) → ks ≡ kinds_for (plain r) → length ks ≡ 800 → cheaper ks (take 800 cs) ≡ ltb (words_cost r cs) (fixed_cost r)
unfolding cheaper words_cost fixed_cost
cheaper_is r cs ks ek l =
    let f : ℕ → ℕ = λ j. as_word (get_or ks j 0) (get_or (take 800 cs) j 0) in
    let g : ℕ → ℕ = λ j. as_fixed (get_or ks j 0) in
    let at : (j : ℕ) → get_or ks j 0 ≡ get_or (kinds_for (plain r)) j 0 = λ j. ap (λ (x : List ℕ). get_or x j 0) ek in
    ap₂ ltb
    (ap (sum_to f) l
    ∙ sum_same f (λ i. as_word (rate_at r i) (get_or cs i 0)) 800
    (λ j h. ap₂ as_word (at j) (get_or-take 800 cs j 0 h) ∙ (like_at r j h).word (get_or cs j 0)))
    (ap (sum_to g) l ∙ sum_same g (λ i. as_fixed (rate_at r i)) 800 (λ j h. ap as_fixed (at j) ∙ (like_at r j h).fixed))

-- ---- the choice as the code makes it: by the plan of the record with FlagC 0

-- a plan's kinds, beside the 800 numbers
pub record Ready (p : Plan) (cs : List ℕ) : Type 0 where
  pub same : length p.kinds ≡ length (take 800 cs)
  pub few : length p.kinds ≤ 800

module _ {x : ℕ} {q : Record} {p : Plan} (r : Record) (cs : List ℕ) (ex : x ≡ first (start_causes r (length cs))) (z : x ≡ 0)
    (eq : q ≡ plain r) (ep : p ≡ plan_of q) where
  P : Planned (plain r) p
  P = planned (plain r) p (ep ∙ ap plan_of eq)

  pub choice_ready : Ready p cs
  choice_ready = record { same = P.long ∙ sym (room_800 r cs x ex z); few = omega (arith, P.long) }

  module _ {b : Bool} (eb : b ≡ fits (map coding p.kinds) (take 800 cs)) where
    pub choice_stops : b ≡ false → record { reply = wide_code; flag = false } ≡ choice_of r cs
    choice_stops f = choice_wide r cs x ex z p.kinds P.kinds (sym eb ∙ f)

    pub choice_done : {f : Bool} → b ≡ true → f ≡ cheaper p.kinds (take 800 cs) → record { reply = done; flag = f } ≡ choice_of r cs
    choice_done {f} y e = choice_made r cs x ex z p.kinds P.kinds (sym eb ∙ y) f (e ∙ cheaper_is r cs p.kinds P.kinds P.long)
