-- Two words at once are two turns of a run, read or laid.
-- Assumes nothing.
use mathlib.Core.Path.{◌≡◌, refl, sym, ap, ◌∙◌, subst}
use mathlib.Core.List.{List, ◌++◌, [], append_assoc, append-nil, map}
use Prim.Native.Nat.{ℕ, ◌+◌, ◌-◌, ◌≤◌, ◌<◌}
use native.Mathlib.Omega.{arith}
use lib.ListN.{length, get_or, set, take, drop, length-append, length-drop, drop_of_length-le}
use borrow.Rule.Slice.PartMut.{put_mid}
use lib.Seq.{drop-drop, length-take-le, take_all}
use Rattle.bits.specs.Bits.{laid, view}
use Rattle.bits.specs.Codecs.{write_all}
use Rattle.bits.proofs.Laws.Codecs.{written_read}
use Rattle.bits.proofs.Laws.Views.{length_view}
use Rattle.runs.specs.Runs.{run_at, ran, read_some, over}
use Rattle.bits.proofs.Laws.LaidBits.{laid_append}
use Rattle.bits.specs.Codings.{Answer, got, no, word_of}
use Rattle.words.specs.Tables.{coding}
use Rattle.words.specs.Answers.{word_at}
use Rattle.words.specs.declared.Word.{Word}
use Rattle.std.specs.declared.result.Result.{Result}
use Rattle.std.specs.declared.result.Result.TheVariants.{Ok, Err}
use Rattle.std.specs.declared.option.Option.TheVariants.{Some}
use Rattle.bits.specs.declared.Refusal.{Refusal}
use Rattle.words.proofs.Laws.WritingTable.{word_few}
use Rattle.runs.proofs.Laws.Runs as read
use Rattle.runs.proofs.Laws.Writes as lay
use Rattle.short_words.specs.Short.{with_second, then_second, pair_at}
use Rattle.short_words.specs.declared.Pair.{Pair}

-- two words one behind the other, both of them before the end
pub record BothAt (s : List ℕ) (at end first second : ℕ) (r : Pair) : Type 0 where
  pub middle : Word
  pub one : Ok middle ≡ word_at s at end first
  pub two : Ok (record { number = r.second; next = r.next }) ≡ word_at s middle.next end second
  pub same : r.first ≡ middle.number

-- a pair that is there is both words
module _ (s : List ℕ) (at end first second : ℕ) (r : Pair) where
  second_there : (a : Word) (w : Result Word Refusal) → Ok a ≡ word_at s at end first → w ≡ word_at s a.next end second → Some r ≡ with_second a.number w
      → BothAt s at end first second r
  second_there a (Ok b) p q e =
      let er : r ≡ record { first = a.number; second = b.number; next = b.next } = cc in
      record {
        middle = a;
        one = p;
        two = ap (λ (z : Pair). Ok (record { number = z.second; next = z.next })) er ∙ q;
        same = ap (λ (z : Pair). z.first) er;
      }
  second_there a (Err x) p q e = absurd (let z : ◌≡◌ {A = ℕ} 0 1 = cc in omega arith)

  first_there : (w : Result Word Refusal) → w ≡ word_at s at end first → Some r ≡ then_second s end second w → BothAt s at end first second r
  first_there (Ok a) p e = second_there a (word_at s a.next end second) p refl e
  first_there (Err x) p e = absurd (let z : ◌≡◌ {A = ℕ} 0 1 = cc in omega arith)

  both_there : Some r ≡ pair_at s at end first second → BothAt s at end first second r
  unfolding pair_at
  both_there e = first_there (word_at s at end first) refl e

-- two words read at once are two turns
pub read_two : {s : List ℕ} {at end : ℕ} {kinds out₀ out : List ℕ} {p i : ℕ} {r : Pair} → read.Reading s at end kinds out₀ out p i
    → length kinds ≤ length out₀ → i + 1 < length kinds → Some r ≡ pair_at s p end (get_or kinds i 0) (get_or kinds (i + 1) 0)
    → read.Reading s at end kinds out₀ (set (set out i r.first) (i + 1) r.second) r.next (i + 2)
read_two {s} {at} {end} {kinds} {out₀} {out} {p} {i} {r} I room h g =
    let B = both_there s p end (get_or kinds i 0) (get_or kinds (i + 1) 0) r g in
    let A = read.turn I room (omega arith) B.one in
    let C = read.turn A room h B.two in
    let e : i + 1 + 1 ≡ i + 2 = omega arith in
    subst (λ (k : ℕ). read.Reading s at end kinds out₀ (set (set out i r.first) (i + 1) r.second) r.next k) e
    (rw B.same C)

-- a run of which the first i words are read, read on from there
module _ {s : List ℕ} {at end : ℕ} {kinds out₀ out : List ℕ} {p i : ℕ} (I : read.Reading s at end kinds out₀ out p i) (room : length kinds ≤ length out₀) where
  same_end : (a : Answer (List ℕ)) → run_at s p end (drop i kinds) ≡ a → ran p (end - p) a ≡ ran at (end - at) (read.onto (take i out) a)
  unfolding run_at
  same_end (got vs r) e =
      let w = written_read (map coding (drop i kinds)) (view s p (end - p)) vs r e in
      let l : end - p ≡ length (write_all (map coding (drop i kinds)) vs) + length r =
      sym (length_view s p (end - p)) ∙ ap length w.0 ∙ length-append (write_all (map coding (drop i kinds)) vs) r in
      let q : p + (end - p - length r) ≡ at + (end - at - length r) = omega (arith, I.taken, I.behind) in
      ap Ok q
  same_end (no x) e = refl

  -- the code reads on in what is behind i of both slices, and puts that of out back
  pub read_on : {r : Result ℕ Refusal} {rest : List ℕ} → r ≡ ran p (end - p) (run_at s p end (take (length kinds - i) (drop i kinds)))
      → rest ≡ over (read_some s p end (take (length kinds - i) (drop i kinds))) (take (length out - i) (drop i out))
      → (r ≡ ran at (end - at) (run_at s at end kinds)) × (put_mid i (length out - i) out rest ≡ over (read_some s at end kinds) out₀)
  read_on {r} {rest} e f =
      let us = take i out in
      let vs = read_some s p end (drop i kinds) in
      let all : (xs : List ℕ) → take (length xs - i) (drop i xs) ≡ drop i xs = λ xs. take_all (length xs - i) (drop i xs) (omega (arith, length-drop i xs)) in
      let q : rest ≡ over vs (drop i out) = rw (all kinds, all out) at f in
      let n : i + length vs ≡ length (us ++ vs) = omega (arith, length-append us vs, length-take-le i out (omega (arith, I.long, I.upto))) in
      let behind : drop (length vs) (drop i out) ≡ drop (length (us ++ vs)) out₀ =
      ap (drop (length vs)) I.rest ∙ drop-drop (length vs) i out₀ ∙ ap (λ (k : ℕ). drop k out₀) n in
      let none : drop (length out - i) (drop i out) ≡ [] = drop_of_length-le (drop i out) (omega (arith, length-drop i out)) in (
        (rw (all kinds) at e) ∙ same_end (run_at s p end (drop i kinds)) refl ∙ ap (ran at (end - at)) (sym I.said),
        ap (λ (l : List ℕ). us ++ (rest ++ l)) none ∙ ap (λ (l : List ℕ). us ++ l) (append-nil rest ∙ q ∙ ap (λ (l : List ℕ). vs ++ l) behind)
            ∙ sym (append_assoc us vs (drop (length (us ++ vs)) out₀)) ∙ ap (λ (l : List ℕ). over l out₀) (sym I.some),
      )

-- two words laid at once are two turns
pub lay_two : {s₀ : List ℕ} {at : ℕ} {kinds numbers s t : List ℕ} {n m i k : ℕ} → lay.Writing s₀ at kinds numbers s n i
    → i + 1 < length kinds → k ≡ i + 2 → length kinds ≡ length numbers
    → m ≡ length (word_of (coding (get_or kinds i 0)) (get_or numbers i 0) ++ word_of (coding (get_or kinds (i + 1) 0)) (get_or numbers (i + 1) 0))
    → t ≡ laid s (at + n) (word_of (coding (get_or kinds i 0)) (get_or numbers i 0) ++ word_of (coding (get_or kinds (i + 1) 0)) (get_or numbers (i + 1) 0))
    → lay.Writing s₀ at kinds numbers t (n + m) k
lay_two {s₀} {at} {kinds} {numbers} {s} {t} {n} {m} {i} {k} I h j l e x =
    let w = word_of (coding (get_or kinds i 0)) (get_or numbers i 0) in
    let u = word_of (coding (get_or kinds (i + 1) 0)) (get_or numbers (i + 1) 0) in
    let A = lay.turn I (omega arith) l refl refl in
    let p : at + n + length w ≡ at + (n + length w) = omega arith in
    let B = lay.turn A h l refl (x ∙ sym (laid_append s (at + n) w u) ∙ ap (λ (k : ℕ). laid (laid s (at + n) w) k u) p) in
    let many : n + length w + length u ≡ n + m = omega (arith, length-append w u) in
    let next : i + 1 + 1 ≡ k = omega arith in
    subst (λ (z : ℕ). lay.Writing s₀ at kinds numbers t z k) many
    (subst (λ (k : ℕ). lay.Writing s₀ at kinds numbers t (n + length w + length u) k) next B)

-- two words have at most 32 bits
pub pair_short : (j a k b m : ℕ) → m ≡ length (word_of (coding j) a ++ word_of (coding k) b) → m ≤ 32
pair_short j a k b m e = omega (arith, length-append (word_of (coding j) a) (word_of (coding k) b), word_few j a, word_few k b)
