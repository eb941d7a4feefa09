-- From a run of words to the norm part, as the code reads it.
-- Assumes nothing.
use mathlib.Core.Path.{◌≡◌, refl, sym, ap, ap₂, ◌∙◌}
use mathlib.Core.Bool.{Bool, true, false}
use mathlib.Core.List.{List, [], ◌∷◌, map}
use Prim.Native.Nat.{ℕ, ◌+◌, ◌-◌, ◌≤◌, ◌<◌}
use native.Mathlib.Omega.{arith}
use lib.ListN.{length, get_or}
use Rattle.ground.proofs.Laws.PrintedTables.{every, every_at}
use Rattle.std.specs.declared.option.Option.TheVariants.{Some, None}
use Rattle.std.specs.declared.result.Result.TheVariants.{Ok, Err}
use Rattle.ground.specs.declared.replies.Reply.TheVariants.{NormOutside}
use Rattle.bits.specs.Bits.{view}
use Rattle.bits.proofs.Laws.Views.{length_view}
use Rattle.bits.specs.Codings.{got}
use Rattle.bits.specs.Codecs.{Verdict, fine, bad, read_all}
use Rattle.bits.specs.declared.Refusal.{Refusal}
use Rattle.bits.specs.declared.Refusal.TheVariants.{Outside}
use Rattle.words.specs.Tables.{coding}
use Rattle.short_words.specs.Short.{short}
use Rattle.runs.specs.Runs.{run_at, ran, read_some, over}
use Rattle.runs.proofs.Laws.Runs.{run_not, run_filled}
use Rattle.order.specs.SentOrder.{banded}
use Rattle.norms.specs.Steps.{indices, guarded}
use Rattle.norms.specs.Part.{norm_kinds, norm_part}
use Rattle.norms.proofs.Laws.Codec.{kinds_long, part_no, part_bad, part_got}
use Rattle.norms.specs.Answers.{reply_for, part_of}
use Rattle.norms.specs.Inner.{indices_of}
use lib.Dec.{T, leb}

-- each kind of the numbers is short
all_short : (f : Bool) → T (every (λ (i k : ℕ). short k) 0 (norm_kinds f))
unfolding norm_kinds
all_short true = tt
all_short false = tt

pub kinds_short : (flag_n : Bool) {kinds : List ℕ} → kinds ≡ norm_kinds flag_n → (i : ℕ) → i < length kinds → T (short (get_or kinds i 0))
kinds_short flag_n {kinds} e = every_at (λ (i k : ℕ). short k) kinds 0 (rw e (all_short flag_n))

-- an index is refused with 5 alone
guarded_bad : (a b : Bool) (y : ℕ) (c : Verdict (List ℕ)) (x : Refusal) → ((z : Refusal) → c ≡ bad z → z ≡ Outside) → guarded a b y c ≡ bad x → x ≡ Outside
guarded_bad true true y (fine ys) x h e = absurd (cc)
guarded_bad true true y (bad k) x h e = let q : k ≡ x = cc in sym q ∙ h k refl
guarded_bad true false y c x h e = cc
guarded_bad false t y c x h e = cc

pub indices_bad : (x : ℕ) (ws : List ℕ) (k : Refusal) → indices x ws ≡ bad k → k ≡ Outside
unfolding indices
indices_bad x [] k e = absurd (cc)
indices_bad x (w ∷ ws) k e =
    guarded_bad (leb 15 (x + w)) (leb (x + w) 54) (x + w - 15) (indices (x + w - 15) ws) k (λ z q. indices_bad (x + w - 15) ws z q) e

module _ (s : List ℕ) (at end : ℕ) (transient flag_n : Bool) (kinds : List ℕ) (k : kinds ≡ norm_kinds flag_n) where
  bits : List Bool
  bits = view s at (end - at)

  run_is : run_at s at end kinds ≡ read_all (map coding (norm_kinds flag_n)) (view s at (end - at))
  unfolding run_at
  run_is = ap (λ (l : List ℕ). read_all (map coding l) (view s at (end - at))) k

  -- a run that was refused
  pub read_refused : (x : Refusal) → Err x ≡ ran at (end - at) (run_at s at end kinds)
      → Err (reply_for x) ≡ part_of at (end - at) ((norm_part transient flag_n).read (view s at (end - at)))
  read_refused x d =
      let n = run_not at (end - at) (run_at s at end kinds) x d in
      let p = part_no transient flag_n (view s at (end - at)) x (sym run_is ∙ n) in
      ap (part_of at (end - at)) (sym p)

  module _ (next : ℕ) (zeros ws : List ℕ) (d : Ok next ≡ ran at (end - at) (run_at s at end kinds)) (z : length zeros ≡ 44)
      (f : ws ≡ over (read_some s at end kinds) zeros) where
    done_run : (run_at s at end kinds ≡ got ws (view s next (end - next))) × (next - at + (end - next) ≡ end - at) × (at ≤ next)
    done_run = run_filled s at end kinds zeros next ws (ap length k ∙ kinds_long flag_n ∙ sym z) d f

    -- a run whose numbers lead outside 0 to 39
    pub read_outside : None ≡ indices_of (indices 15 ws) → Err NormOutside ≡ part_of at (end - at) ((norm_part transient flag_n).read (view s at (end - at)))
    read_outside n = go (indices 15 ws) refl
      where
        go : (c : Verdict (List ℕ)) → indices 15 ws ≡ c → Err NormOutside ≡ part_of at (end - at) ((norm_part transient flag_n).read (view s at (end - at)))
        go (fine ss) q = absurd (let m : None ≡ Some ss = n ∙ ap indices_of q in cc)
        go (bad x) q =
            let o = indices_bad 15 ws x q in
            sym
            (ap (part_of at (end - at))
            (part_bad transient flag_n (view s at (end - at)) (view s next (end - next)) ws Outside (sym run_is ∙ done_run.0) (q ∙ ap bad o)))

    -- a run whose numbers are those of 44 norms
    pub read_sound : (is norms : List ℕ) → Some is ≡ indices_of (indices 15 ws) → norms ≡ banded transient is
        → Ok (record { next = next; norms = norms }) ≡ part_of at (end - at) ((norm_part transient flag_n).read (view s at (end - at)))
    read_sound is norms g m = go (indices 15 ws) refl
      where
        go : (c : Verdict (List ℕ)) → indices 15 ws ≡ c
            → Ok (record { next = next; norms = norms }) ≡ part_of at (end - at) ((norm_part transient flag_n).read (view s at (end - at)))
        go (bad x) q = absurd (let n : Some is ≡ None = g ∙ ap indices_of q in cc)
        go (fine ss) q =
            let r = view s next (end - next) in
            let h : Some is ≡ Some ss = g ∙ ap indices_of q in
            let w : is ≡ ss = cc in
            let o : norms ≡ banded transient ss = m ∙ ap (banded transient) w in
            let p : next ≡ at + (end - at - length r) = omega (arith, length_view s next (end - next), done_run.1, done_run.2) in
            ap₂ (λ (y : ℕ) (l : List ℕ). Ok (record { next = y; norms = l })) p o
            ∙ sym (ap (part_of at (end - at)) (part_got transient flag_n (view s at (end - at)) r ws ss (sym run_is ∙ done_run.0) q))
