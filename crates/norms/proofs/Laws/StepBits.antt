-- The differences' words counted step by step, with the test that none of the differences is too far.
-- Assumes nothing.
use mathlib.Core.Path.{◌≡◌, refl, sym, ap, ap₂, ◌∙◌}
use mathlib.Core.Bool.{Bool, false}
use mathlib.Core.List.{List, [], ◌∷◌, map}
use Prim.Native.Nat.{ℕ, suc, ◌+◌, ◌-◌, ◌*◌, ◌≤◌, ◌<◌, max}
use native.Mathlib.Omega.{arith}
use native.Mathlib.Numerals.{add-one}
use lib.Dec.{leb, ltb}
use lib.ListN.{length, get_or, drop, replicate, length-append, drop_of_length-le}
use lib.Seq.{drop-cons}
use Rattle.std.proofs.lemmas.List.{get_or-take, get_or-drop, drop-drop, length-drop}
use lib.ListN.{take}
use borrow.Author.Tests.{leb-true, leb-false, ltb-true, ltb-false}
use Rattle.ground.proofs.Laws.Cases.{by_bool}
use Rattle.bits.specs.Codings.{word_of}
use Rattle.bits.specs.Codecs.{write_all}
use Rattle.norm_words.specs.Table16.{table16}
use Rattle.norm_words.specs.Shape.{step_size, more_bits, beyond}
use Rattle.norm_words.proofs.Laws.Shape.{step_close, step_far, any_bits_lem}
use Rattle.words.specs.Tables.{coding, words}
use Rattle.words.proofs.Laws.Tables.{coding_column}
use Rattle.words.proofs.Laws.WritingTable.{word_column}
use Rattle.norms.specs.Steps.{numbers, steps_close}
use Rattle.norms.specs.Inner.{step_total}
use Rattle.norms.proofs.Laws.Loops.{Closing, close_start, close_turn, close_down, close_up, close_end}

norm_word : (v : ℕ) → word_of (coding 20) v ≡ get_or table16 v []
unfolding words
norm_word v = rw (coding_column 20 (omega arith)) (word_column 4 v)

-- ---- the words for the steps from x through the indices ys

pub words_from : ℕ → List ℕ → ℕ
words_from x ys = length (write_all (map coding (replicate (length ys) 20)) (numbers x ys))

words_more : (x y : ℕ) (ys : List ℕ) → words_from x (y ∷ ys) ≡ length (get_or table16 (y + 15 - x) []) + words_from y ys
unfolding words_from numbers write_all
words_more x y ys =
    let w = word_of (coding 20) (y + 15 - x) in
    length-append w (write_all (map coding (replicate (length ys) 20)) (numbers y ys))
    ∙ ap (λ (l : List Bool). length l + words_from y ys) (norm_word (y + 15 - x))

words_none : (x : ℕ) (ys : List ℕ) → length ys ≡ 0 → words_from x ys ≡ 0
unfolding words_from numbers write_all
words_none x [] l = refl
words_none x (y ∷ ys) l = absurd (omega arith)

words_all : (ss : List ℕ) → length ss ≡ 44 → step_total ss ≡ words_from (get_or ss 0 0) (drop 1 ss)
unfolding step_total words_from numbers
words_all [] l = absurd (omega arith)
words_all (y ∷ ys) l =
    let n : 43 ≡ length ys = omega arith in
    ap (λ (k : ℕ). length (write_all (map coding (replicate k 20)) (numbers y ys))) n

-- ---- the loop over the steps before place i: their words have 3 bits each and so many more, less 7 for each that has no word; far is at most 15 where
-- they are close

pub record Counting (ss : List ℕ) (far more lost i : ℕ) : Type 0 where
  pub upto : i ≤ 43
  pub few : more ≤ 4 * i
  pub none : lost ≤ i
  pub near : far ≤ 15 → Closing ss i
  pub past : 15 < far → steps_close ss ≡ false
  pub said : step_total ss + 7 * lost ≡ 3 * i + more + words_from (get_or ss i 0) (drop (i + 1) ss)

pub count_start : (ss : List ℕ) → length ss ≡ 44 → Counting ss 0 0 0 0
count_start ss l =
    record {
      upto = omega arith;
      few = omega arith;
      none = omega arith;
      near = λ h. close_start ss;
      past = λ h. absurd (omega arith);
      said = omega (arith, words_all ss l);
    }

module _ {ss : List ℕ} {far more lost i x y : ℕ} (I : Counting ss far more lost i) (l : length ss ≡ 44) (h : i < 43) (ex : x ≡ get_or ss i 0)
    (ey : y ≡ get_or ss (i + 1) 0) where
  too_far : Closing ss i → 15 < step_size x y → steps_close ss ≡ false
  too_far C u =
      by_bool (leb x (y + 15))
      (λ t. let a = leb-true x (y + 15) t in close_up ss i x y C l h ex ey a (step_far x y u a))
      (λ t. close_down ss i x y C l h ex ey (leb-false x (y + 15) t))

  one_more : words_from (get_or ss i 0) (drop (i + 1) ss) ≡ length (get_or table16 (y + 15 - x) []) + words_from (get_or ss (i + 1) 0) (drop (i + 1 + 1) ss)
  one_more =
      let ys = drop (suc (i + 1)) ss in
      ap₂ words_from (sym ex) (drop-cons ss (i + 1) 0 (omega arith) ∙ ap (λ (z : ℕ). z ∷ ys) (sym ey)) ∙ words_more x y ys
      ∙ ap₂ (λ (z k : ℕ). length (get_or table16 (y + 15 - x) []) + words_from z (drop k ss)) ey (sym (add-one (i + 1)))

  pub count_turn : {size reach m b : ℕ} → size ≡ step_size x y → reach ≡ max far size → (m ≡ more_bits size) × (m ≤ 4) → (b ≡ beyond x y) × (b ≤ 1)
      → Counting ss reach (more + m) (lost + b) (i + 1)
  count_turn {size} {reach} {m} es er em eb =
      let em' : m ≡ more_bits (step_size x y) = em.0 ∙ ap more_bits es in
      record {
        upto = omega arith;
        few = omega (arith, I.few, em.1);
        none = omega (arith, I.none, eb.1);
        near = λ n. let c = step_close x y (omega arith) in close_turn ss i x y (I.near (omega arith)) l h ex ey c.0 c.1;
        past = λ p.
            by_bool (ltb 15 far) (λ t. I.past (ltb-true 15 far t)) (λ t. let n = ltb-false 15 far t in too_far (I.near n) (omega arith));
        said = omega (arith, I.said, one_more, any_bits_lem x y, em', eb.0);
      }

module _ {ss : List ℕ} {far more lost i : ℕ} (I : Counting ss far more lost i) (l : length ss ≡ 44) (h : 43 ≤ i) where
  all_counted : step_total ss + 7 * lost ≡ 129 + more
  all_counted =
      let ys = drop (i + 1) ss in
      omega (arith, I.said, I.upto, words_none (get_or ss i 0) ys (ap length (drop_of_length-le ss {i = i + 1} (omega arith))))

  pub count_fits : {m b : ℕ} → m ≡ more → b ≡ lost → 7 * b ≤ 129 + m
  count_fits em eb = omega (arith, all_counted)

  pub counted : {m b : ℕ} → m ≡ more → b ≡ lost
      → (leb far 15 ≡ steps_close ss) × (129 + m - 7 * b ≡ step_total ss) × (129 + m - 7 * b ≤ 301)
  counted em eb =
      let told = by_bool (leb far 15) (λ t. t ∙ sym (close_end ss i (I.near (leb-true far 15 t)) l h)) (λ t. t ∙ sym (I.past (leb-false far 15 t))) in
      (told, omega (arith, all_counted), omega (arith, I.few, I.upto))

-- ---- the windows of two that are left before place i, and how they go on

pub record Pairs (ss rest : List ℕ) (size i : ℕ) : Type 0 where
  pub two : size ≡ 2
  pub left : rest ≡ drop i ss

module _ {ss rest : List ℕ} {size i : ℕ} (P : Pairs ss rest size i) where
  pub pairs_next : {rest' : List ℕ} {size' : ℕ} → size' ≡ size → rest' ≡ drop 1 rest → Pairs ss rest' size' (i + 1)
  pairs_next s e = record { two = s ∙ P.two; left = e ∙ ap (drop 1) P.left ∙ drop-drop 1 i ss }

  pub pairs_on : length ss ≡ 44 → size ≤ length rest → i < 43
  pairs_on l h = omega (arith, P.two, ap length P.left, length-drop i ss)

  pub pairs_end : length ss ≡ 44 → length rest < size → 43 ≤ i
  pairs_end l h = omega (arith, P.two, ap length P.left, length-drop i ss)

  pub pair_first : {pair : List ℕ} → pair ≡ take size rest → get_or pair 0 0 ≡ get_or ss i 0
  pair_first e =
      let z : i + 0 ≡ i = omega arith in
      rw (e, P.two, P.left) (get_or-take 2 (drop i ss) 0 0 (omega arith) ∙ get_or-drop i ss 0 0 ∙ ap (λ (k : ℕ). get_or ss k 0) z)

  pub pair_second : {pair : List ℕ} → pair ≡ take size rest → get_or pair 1 0 ≡ get_or ss (i + 1) 0
  pair_second e = rw (e, P.two, P.left) (get_or-take 2 (drop i ss) 1 0 (omega arith) ∙ get_or-drop i ss 1 0)

-- ---- what the count of a list tells of norms whose sent order it is

module _ {list ss : List ℕ} (far bits : ℕ) (e : list ≡ ss) (p : (leb far 15 ≡ steps_close list) × (bits ≡ step_total list) × (bits ≤ 301)) where
  pub counted_sent : (leb far 15 ≡ steps_close ss) × (bits ≡ step_total ss) × (bits ≤ 301)
  counted_sent = (p.0 ∙ ap steps_close e, p.1 ∙ ap step_total e, p.2)
