-- A run of words read one by one: what is read so far, one word more, the first refusal, the end.
-- Assumes nothing.
use mathlib.Core.Path.{◌≡◌, refl, sym, ap, ap₂, ◌∙◌}
use mathlib.Core.Bool.{Bool}
use mathlib.Core.List.{List, [], ◌∷◌, ◌++◌, append_assoc, append-nil, map}
use Prim.Native.Nat.{ℕ, suc, ◌+◌, ◌-◌, ◌≤◌, ◌<◌}
use native.Mathlib.Omega.{arith}
use native.Mathlib.Numerals.{add-one}
use lib.ListN.{length, take, drop, get_or, set, length-append, length-set, length-map, take-append-drop, drop_of_length-le}
use lib.Seq.{drop-cons, take-suc-set, drop-set-lt, drop-append_seam, drop-drop, length-take-le}
use Rattle.bits.specs.Bits.{view}
use Rattle.bits.proofs.Laws.Views.{length_view, drop_view}
use Rattle.bits.specs.Codings.{Coding, Answer, got, no, unword, word_of}
use Rattle.bits.proofs.Laws.Codings.{word_unword}
use Rattle.bits.specs.Codecs.{read_all, and_then, write_all}
use Rattle.bits.proofs.Laws.Codecs.{and_then_got, written_read, fit_length}
use Rattle.bits.specs.declared.Refusal.{Refusal}
use Rattle.words.specs.Tables.{coding}
use Rattle.words.specs.Answers.{placed, word_at}
use Rattle.words.specs.declared.Word.{Word}
use Rattle.std.specs.declared.result.Result.{Result}
use Rattle.std.specs.declared.result.Result.TheVariants.{Ok, Err}
use Rattle.runs.specs.Runs.{run_at, ran, more, some_of, read_some, over}

-- ---- a word at a place

placed_at : (at left : ℕ) (g : Answer ℕ) (w : Word) → Ok w ≡ placed at left g
    → (r : List Bool) × (g ≡ got w.number r) × (w.next ≡ at + (left - length r))
placed_at at left (got x r) w e =
    let ew : w ≡ record { number = x; next = at + (left - length r) } = cc in
    (r, ap (λ (u : Word). got u.number r) (sym ew), ap (λ (u : Word). u.next) ew)
placed_at at left (no x) w e = absurd (let z : ◌≡◌ {A = ℕ} 0 1 = cc in omega arith)

pub placed_no : (at left : ℕ) (g : Answer ℕ) (x : Refusal) → Err x ≡ placed at left g → g ≡ no x
placed_no at left (got v r) x e = absurd (let z : ◌≡◌ {A = ℕ} 0 1 = cc in omega arith)
placed_no at left (no y) x e = let q : y ≡ x = cc in ap no q

-- what is left after a word is what stands from its next place on
next_left : (c : Coding) (s : List ℕ) (p end v next : ℕ) (r : List Bool) → unword c (view s p (end - p)) ≡ got v r
    → next ≡ p + (end - p - length r) → (r ≡ view s next (end - next)) × (end - p - length r + (end - next) ≡ end - p)
next_left c s p end v next r e q =
    let w = word_of c v in
    let b = (word_unword c (view s p (end - p)) v r e).0 in
    let l : end - p ≡ length w + length r = sym (length_view s p (end - p)) ∙ ap length b ∙ length-append w r in
    let n : p + length w ≡ next = omega arith in
    let m : end - p - length w ≡ end - next = omega arith in (
      sym (drop-append_seam w r) ∙ ap (drop (length w)) (sym b) ∙ drop_view s p (length w) (end - p) (omega arith)
          ∙ ap₂ (λ (x y : ℕ). view s x y) n m,
      omega arith,
    )

-- ---- numbers already read, before an answer

abbrev pub onto : List ℕ → Answer (List ℕ) → Answer (List ℕ)
onto us (got vs r) = got (us ++ vs) r
onto us (no x) = no x

onto_onto : (us ws : List ℕ) (a : Answer (List ℕ)) → onto us (onto ws a) ≡ onto (us ++ ws) a
onto_onto us ws (got vs r) = ap (λ (l : List ℕ). got l r) (sym (append_assoc us ws vs))
onto_onto us ws (no x) = refl

onto_nil : (a : Answer (List ℕ)) → a ≡ onto [] a
onto_nil (got vs r) = refl
onto_nil (no x) = refl

onto_one : (v : ℕ) (a : Answer (List ℕ)) → and_then a (λ vs q. got (v ∷ vs) q) ≡ onto (v ∷ []) a
onto_one v (got vs r) = refl
onto_one v (no x) = refl

-- ---- the loop that reads: the first i numbers are read and stand in out

pub record Reading (s : List ℕ) (at end : ℕ) (kinds out₀ out : List ℕ) (p i : ℕ) : Type 0 where
  pub upto : i ≤ length kinds
  pub taken : p - at + (end - p) ≡ end - at
  pub behind : at ≤ p
  pub long : length out ≡ length out₀
  pub rest : drop i out ≡ drop i out₀
  pub said : run_at s at end kinds ≡ onto (take i out) (run_at s p end (drop i kinds))
  pub some : read_some s at end kinds ≡ take i out ++ read_some s p end (drop i kinds)

-- what the loop answers: where the run ended or its refusal, and the numbers read so far in out
pub record Answered (s : List ℕ) (at end : ℕ) (kinds out₀ out : List ℕ) (u : Result ℕ Refusal) : Type 0 where
  pub said : u ≡ ran at (end - at) (run_at s at end kinds)
  pub some : out ≡ over (read_some s at end kinds) out₀

module _ {s : List ℕ} {at end : ℕ} {kinds out₀ : List ℕ} where
  pub start : Reading s at end kinds out₀ out₀ at 0
  start =
      record { upto = omega arith; taken = omega arith; behind = omega arith; long = refl; rest = refl; said = onto_nil (run_at s at end kinds); some = refl }

  module _ {out : List ℕ} {p i : ℕ} (I : Reading s at end kinds out₀ out p i) (room : length kinds ≤ length out₀) where
    over_out : (vs : List ℕ) → vs ≡ take i out → out ≡ over vs out₀
    over_out vs e =
        let t : i ≡ length (take i out) = sym (length-take-le i out (omega (arith, I.long, I.upto))) in
        rw e (sym (take-append-drop i out) ∙ ap (λ (l : List ℕ). take i out ++ l) (I.rest ∙ ap (λ (k : ℕ). drop k out₀) t))

    module _ (h : i < length kinds) where
      c : Coding
      c = coding (get_or kinds i 0)

      bits : List Bool
      bits = view s p (end - p)

      run_head : run_at s p end (drop i kinds)
          ≡ and_then (unword (coding (get_or kinds i 0)) (view s p (end - p)))
          (λ v r. and_then (read_all (map coding (drop (suc i) kinds)) r) (λ vs q. got (v ∷ vs) q))
      unfolding run_at read_all
      run_head = ap (λ (l : List ℕ). read_all (map coding l) (view s p (end - p))) (drop-cons kinds i 0 h)

      some_head : read_some s p end (drop i kinds) ≡ more (unword (coding (get_or kinds i 0)) (view s p (end - p))) (some_of (map coding (drop (suc i) kinds)))
      unfolding read_some some_of
      some_head = ap (λ (l : List ℕ). some_of (map coding l) (view s p (end - p))) (drop-cons kinds i 0 h)

      pub turn : {w : Word} → Ok w ≡ word_at s p end (get_or kinds i 0) → Reading s at end kinds out₀ (set out i w.number) w.next (i + 1)
      unfolding word_at run_at read_some
      turn {w} e =
          let v = w.number in
          let next = w.next in
          let k = coding (get_or kinds i 0) in
          let g = unword k (view s p (end - p)) in
          let (r, ge, q) = placed_at p (end - p) g w e in
          let N = next_left k s p end v next r ge q in
          let cs = map coding (drop (suc i) kinds) in
          let front : take i out ++ (v ∷ []) ≡ take (i + 1) (set out i v) =
          sym (take-suc-set out i v (omega (arith, I.long))) ∙ ap (λ (k : ℕ). take k (set out i v)) (sym (add-one i)) in
          record {
            upto = omega arith;
            taken = omega (arith, I.taken, I.behind, N.1);
            behind = omega (arith, I.behind);
            long = length-set out i v ∙ I.long;
            rest = drop-set-lt (i + 1) out i v (omega arith) ∙ sym (drop-drop 1 i out) ∙ ap (drop 1) I.rest ∙ drop-drop 1 i out₀;
            said =
                I.said
                ∙ ap (onto (take i out)) (run_head
                ∙ ap (λ (g : Answer ℕ). and_then g (λ v r. and_then (read_all cs r) (λ vs q. got (v ∷ vs) q))) ge
                ∙ onto_one v (read_all cs r))
                ∙ onto_onto (take i out) (v ∷ []) (read_all cs r)
                ∙ ap₂ onto front (ap₂ (λ (k : ℕ) (b : List Bool). read_all (map coding (drop k kinds)) b) (sym (add-one i)) N.0);
            some =
                I.some
                ∙ ap (λ (l : List ℕ). take i out ++ l) (some_head ∙ ap (λ (g : Answer ℕ). more g (some_of cs)) ge)
                ∙ sym (append_assoc (take i out) (v ∷ []) (some_of cs r))
                ∙ ap₂ (λ (x y : List ℕ). x ++ y) front (ap₂ (λ (k : ℕ) (b : List Bool). some_of (map coding (drop k kinds)) b) (sym (add-one i)) N.0);
          }

      pub refuses : {x : Refusal} → Err x ≡ word_at s p end (get_or kinds i 0) → Answered s at end kinds out₀ out (Err x)
      unfolding word_at
      refuses {x} e =
          let ge = placed_no p (end - p) (unword (coding (get_or kinds i 0)) (view s p (end - p))) x e in
          let cs = map coding (drop (suc i) kinds) in
          let R : run_at s at end kinds ≡ no x =
          I.said ∙ ap (onto (take i out)) (run_head ∙ ap (λ (g : Answer ℕ). and_then g (λ v r. and_then (read_all cs r) (λ vs q. got (v ∷ vs) q))) ge) in
          let S : read_some s at end kinds ≡ take i out =
          I.some ∙ ap (λ (l : List ℕ). take i out ++ l) (some_head ∙ ap (λ (g : Answer ℕ). more g (some_of cs)) ge) ∙ append-nil (take i out) in
          record { said = ap (ran at (end - at)) (sym R); some = over_out (read_some s at end kinds) S }

    pub finished : length kinds ≤ i → Answered s at end kinds out₀ out (Ok p)
    unfolding run_at read_some read_all some_of
    finished h =
        let b = view s p (end - p) in
        let R : run_at s at end kinds ≡ got (take i out) b =
        I.said
        ∙ ap (λ (l : List ℕ). onto (take i out) (read_all (map coding l) b)) (drop_of_length-le kinds h)
        ∙ ap (λ (l : List ℕ). got l b) (append-nil (take i out)) in
        let S : read_some s at end kinds ≡ take i out =
        I.some ∙ ap (λ (l : List ℕ). take i out ++ some_of (map coding l) b) (drop_of_length-le kinds h) ∙ append-nil (take i out) in
        let q : p ≡ at + (end - at - length b) = omega (arith, length_view s p (end - p), I.taken, I.behind) in
        record { said = ap Ok q ∙ ap (ran at (end - at)) (sym R); some = over_out (read_some s at end kinds) S }

-- a run that is not refused gives all its numbers
some_got : (cs : List Coding) (b : List Bool) (vs : List ℕ) (r : List Bool) → read_all cs b ≡ got vs r → some_of cs b ≡ vs
unfolding read_all some_of
some_got [] b vs r e = cc
some_got (c ∷ cs) b vs r e =
    let (v, r₁, e₁, e₂) = and_then_got (unword c b) (λ v q. and_then (read_all cs q) (λ ws z. got (v ∷ ws) z)) vs r e in
    let (ws, q, e₃, e₄) = and_then_got (read_all cs r₁) (λ ws z. got (v ∷ ws) z) vs r e₂ in
    let ev : v ∷ ws ≡ vs = cc in
    ap (λ (g : Answer ℕ). more g (some_of cs)) e₁ ∙ ap (λ (l : List ℕ). v ∷ l) (some_got cs r₁ ws q e₃) ∙ ev

-- behind words that are read, a word that is refused refuses the run, whatever words would follow
pub stops_behind : (cs : List Coding) (c : Coding) (ds : List Coding) (b : List Bool) (vs : List ℕ) (r : List Bool) (x : Refusal)
    → read_all cs b ≡ got vs r → unword c r ≡ no x → read_all (cs ++ (c ∷ ds)) b ≡ no x
unfolding read_all
stops_behind [] c ds b vs r x e n =
    let q : b ≡ r = cc in
    rw (q, n) refl
stops_behind (k ∷ cs) c ds b vs r x e n =
    let (v, r₁, e₁, e₂) = and_then_got (unword k b) (λ v q. and_then (read_all cs q) (λ ws z. got (v ∷ ws) z)) vs r e in
    let (ws, q, e₃, e₄) = and_then_got (read_all cs r₁) (λ ws z. got (v ∷ ws) z) vs r e₂ in
    let qr : q ≡ r = cc in
    rw (e₁, stops_behind cs c ds r₁ ws r x (e₃ ∙ ap (got ws) qr) n) refl

module _ (s : List ℕ) (at end : ℕ) (kinds out : List ℕ) where
  -- a run to the next place p: its numbers are laid over the slice, and what is left stands from p on
  done_of : (p : ℕ) (g : Answer (List ℕ)) → run_at s at end kinds ≡ g → Ok p ≡ ran at (end - at) g
      → (vs : List ℕ) × (g ≡ got vs (view s p (end - p))) × (length vs ≡ length kinds) × (read_some s at end kinds ≡ vs) × (p - at + (end - p) ≡ end - at)
      × (at ≤ p)
  unfolding run_at read_some
  done_of p (got vs r) e d =
      let w = written_read (map coding kinds) (view s at (end - at)) vs r e in
      let b = write_all (map coding kinds) vs in
      let q : p ≡ at + (end - at - length r) = cc in
      let m : end - at ≡ length b + length r = sym (length_view s at (end - at)) ∙ ap length w.0 ∙ length-append b r in
      let n : at + length b ≡ p = omega arith in
      let k : end - at - length b ≡ end - p = omega arith in (
        vs,
        ap (got vs)
            (sym (drop-append_seam b r) ∙ ap (drop (length b)) (sym w.0) ∙ drop_view s at (length b) (end - at) (omega arith)
            ∙ ap₂ (λ (x y : ℕ). view s x y) n k),
        fit_length (map coding kinds) vs w.1 ∙ length-map kinds coding,
        some_got (map coding kinds) (view s at (end - at)) vs r e,
        omega arith,
        omega arith,
      )
  done_of p (no x) e d = absurd (let z : ◌≡◌ {A = ℕ} 0 1 = cc in omega arith)

  pub run_done : (p : ℕ) → Ok p ≡ ran at (end - at) (run_at s at end kinds)
      → (vs : List ℕ) × (run_at s at end kinds ≡ got vs (view s p (end - p))) × (length vs ≡ length kinds) × (read_some s at end kinds ≡ vs)
      × (p - at + (end - p) ≡ end - at) × (at ≤ p)
  run_done p d = done_of p (run_at s at end kinds) refl d

  -- a run into a slice of its own length fills it
  pub run_filled : (p : ℕ) (now : List ℕ) → length kinds ≡ length out → Ok p ≡ ran at (end - at) (run_at s at end kinds)
      → now ≡ over (read_some s at end kinds) out → (run_at s at end kinds ≡ got now (view s p (end - p))) × (p - at + (end - p) ≡ end - at) × (at ≤ p)
  run_filled p now l d f =
      let (vs, e, n, q, t, b) = run_done p d in
      let all : now ≡ vs = f ∙ ap (λ (x : List ℕ). over x out) q ∙ ap (λ (x : List ℕ). vs ++ x) (drop_of_length-le out {i = length vs} (omega arith))
      ∙ append-nil vs in
      (e ∙ ap (λ (x : List ℕ). got x (view s p (end - p))) (sym all), t, b)

pub run_not : (at left : ℕ) (g : Answer (List ℕ)) (x : Refusal) → Err x ≡ ran at left g → g ≡ no x
run_not at left (got vs r) x e = absurd (let z : ◌≡◌ {A = ℕ} 0 1 = cc in omega arith)
run_not at left (no y) x e = let q : y ≡ x = cc in ap no q
