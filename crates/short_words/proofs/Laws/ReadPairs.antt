-- Two short words off one look at sixteen bits.
-- Assumes nothing.
use mathlib.Core.Path.{◌≡◌, refl, subst, sym, ap, ap₂, ◌∙◌}
use mathlib.Core.Bool.{Bool}
use mathlib.Core.List.{List, ◌++◌}
use Prim.Native.Nat.{ℕ, ◌+◌, ◌-◌, ◌/◌, ◌%◌, ◌^◌, ◌≤◌, ◌<◌, min}
use native.Mathlib.Nat.{div-le_self}
use native.Mathlib.Omega.{arith}
use lib.Dec.{ltb}
use lib.ListN.{length}
use borrow.Author.Tests.{ltb-true, ltb-false}
use Rattle.ground.proofs.Laws.Cases.{by_bool}
use Rattle.bits.specs.Bits.{val, view}
use Rattle.bits.specs.Codings.{Coding, fixed, unword}
use Rattle.bits.specs.declared.Refusal.TheVariants.{Past}
use Rattle.bits.proofs.Laws.NumbersAsBits.{val_front, val_middle}
use Rattle.bits.proofs.Laws.Views.{length_view, view_add}
use Rattle.norm_words.specs.Shape.{word_in}
use Rattle.norm_words.specs.declared.Found.{Found}
use Rattle.words.specs.Tables.{coding, column}
use Rattle.words.specs.Answers.{whole_word, placed, word_at}
use Rattle.std.specs.declared.result.Result.TheVariants.{Err}
use Rattle.std.specs.declared.option.Option.TheVariants.{Some, None}
use Rattle.words.proofs.Laws.Answers.{coding_bits, coding_norm, fixed_past, fixed_whole}
use Rattle.words.proofs.Laws.ReadingTable.{norm_cut, norm_fine}
use Rattle.short_words.specs.Short.{FoundIn, with_second, then_second, pair_at}

-- the first n bits of some bits, and the eight behind them, by shifts
first_bits : (s : List ℕ) (p n m : ℕ) → val (view s p (n + m)) / 2 ^ m ≡ val (view s p n)
first_bits s p n m =
    ap (λ (k : ℕ). val (view s p (n + m)) / 2 ^ k) (sym (length_view s (p + n) m))
    ∙ ap (λ (b : List Bool). val b / 2 ^ length (view s (p + n) m)) (view_add s p n m)
    ∙ val_front (view s p n) (view s (p + n) m)

pub top_eight : (s : List ℕ) (p : ℕ) {k : ℕ} → k ≡ val (view s p (min 16 16)) → k / 256 ≡ val (view s p 8)
top_eight s p e = ap (λ (k : ℕ). k / 256) e ∙ first_bits s p 8 8

pub next_eight : (s : List ℕ) (p n : ℕ) {k : ℕ} → n ≤ 8 → k ≡ val (view s p (min 16 16)) → k / 2 ^ (8 - n) % 256 ≡ val (view s (p + n) 8)
next_eight s p n h e =
    let q : n + 8 + (8 - n) ≡ 16 = omega arith in
    let a = view s p n in
    let b = view s (p + n) 8 in
    let c = view s (p + (n + 8)) (8 - n) in
    let all : view s p 16 ≡ (a ++ b) ++ c =
    ap (view s p) (sym q) ∙ view_add s p (n + 8) (8 - n) ∙ ap (λ (l : List Bool). l ++ c) (view_add s p n 8) in
    ap (λ (z : ℕ). z / 2 ^ (8 - n) % 256) (e ∙ ap val all)
    ∙ ap₂ (λ (x y : ℕ). val ((a ++ b) ++ c) / 2 ^ x % 2 ^ y) (sym (length_view s (p + (n + 8)) (8 - n))) (sym (length_view s (p + n) 8))
    ∙ val_middle a b c

-- ---- a short word in eight bits

-- what a coding reads is what a kind of that coding reads
of_kind : (kind : ℕ) {c : Coding} → coding kind ≡ c → (s : List ℕ) (p left : ℕ)
    → placed p left (unword c (view s p left)) ≡ placed p left (unword (coding kind) (view s p left))
of_kind kind e s p left = ap (λ (c : Coding). placed p left (unword c (view s p left))) (sym e)

module _ {kind : ℕ} where
  fixed_there : {eight : ℕ} → kind ≤ 8 → eight < 256 → FoundIn eight kind (record { number = eight / 2 ^ (8 - kind); bits = kind })
  fixed_there {eight} h l =
      let c : coding kind ≡ fixed kind = coding_bits refl (omega arith) in
      let w : kind + (8 - kind) ≡ 8 = omega arith in
      let t : min kind 16 ≡ kind = omega arith in
      record {
        few = h;
        fits = omega (arith, div-le_self eight (2 ^ (8 - kind)));
        whole = λ s p left e m.
            let v : eight / 2 ^ (8 - kind) ≡ val (view s p (min kind 16)) =
            ap (λ (z : ℕ). z / 2 ^ (8 - kind)) (e ∙ ap (λ (n : ℕ). val (view s p n)) (sym w)) ∙ first_bits s p kind (8 - kind)
            ∙ ap (λ (n : ℕ). val (view s p n)) (sym t) in
            fixed_whole s p left kind _ (omega arith) m v ∙ of_kind kind c s p left;
        cut = λ s p left e m. fixed_past s p left kind m ∙ of_kind kind c s p left;
      }

  -- in the code's wider local
  pub fixed_in : {eight k : ℕ} → k ≡ kind → kind ≤ 8 → eight < 256 → FoundIn eight kind (record { number = eight / 2 ^ (8 - kind); bits = k })
  fixed_in {eight} q h l = subst (λ (n : ℕ). FoundIn eight kind (record { number = eight / 2 ^ (8 - kind); bits = n })) (sym q) (fixed_there h l)

  pub norm_in : {eight : ℕ} {w : Found} → 20 ≤ kind → eight < 256 → (w ≡ word_in (eight / 2)) × (w.bits ≤ 7) × (w.number ≤ eight / 2 + 28)
      → FoundIn eight kind w
  norm_in {eight} h l g =
      let c : coding kind ≡ column 4 = coding_norm h in
      let seven : (s : List ℕ) (p : ℕ) → eight ≡ val (view s p 8) → eight / 2 ≡ val (view s p 7) =
      λ s p e. ap (λ (z : ℕ). z / 2) e ∙ first_bits s p 7 1 in
      record {
        few = omega (arith, g.1);
        fits = omega (arith, g.2);
        whole = λ s p left e m. norm_fine s p left (seven s p e) g.0 m ∙ of_kind kind c s p left;
        cut = λ s p left e m. norm_cut s p left (seven s p e) g.0 m ∙ of_kind kind c s p left;
      }

-- ---- both words

module _ (s : List ℕ) (at end first second : ℕ) {k : ℕ} {a b : Found} (e : k ≡ val (view s at (min 16 16))) (x : FoundIn (k / 256) first a)
    (y : FoundIn (k / 2 ^ (8 - a.bits) % 256) second b) where
  one : a.bits ≤ end - at → whole_word a.number (at + a.bits) ≡ word_at s at end first
  unfolding word_at
  one h = x.whole s at (end - at) (top_eight s at e) h

  behind : k / 2 ^ (8 - a.bits) % 256 ≡ val (view s (at + a.bits) 8)
  behind = next_eight s at a.bits x.few e

  pub pair_whole : a.bits + b.bits ≤ end - at
      → Some (record { first = a.number; second = b.number; next = at + (a.bits + b.bits) }) ≡ pair_at s at end first second
  unfolding pair_at word_at
  pair_whole h =
      let n = a.bits in
      let next : at + (n + b.bits) ≡ at + n + b.bits = omega arith in
      let two : whole_word b.number (at + n + b.bits) ≡ word_at s (at + n) end second = y.whole s (at + n) (end - (at + n)) behind (omega arith) in
      ap (λ (z : ℕ). with_second a.number (whole_word b.number z)) next
      ∙ ap (with_second a.number) two
      ∙ ap (then_second s end second) (one (omega arith))

  pub pair_cut : end - at < a.bits + b.bits → None ≡ pair_at s at end first second
  unfolding pair_at word_at
  pair_cut h =
      let n = a.bits in
      by_bool (ltb (end - at) n)
      (λ t. let no : Err Past ≡ word_at s at end first = x.cut s at (end - at) (top_eight s at e) (ltb-true (end - at) n t) in
      ap (then_second s end second) no)
      (λ t. let l = ltb-false (end - at) n t in
      let no : Err Past ≡ word_at s (at + n) end second = y.cut s (at + n) (end - (at + n)) behind (omega arith) in
      ap (with_second a.number) no ∙ ap (then_second s end second) (one l))
