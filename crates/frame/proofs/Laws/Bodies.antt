-- From what the code has in hand, once the norms are read, to what the reading of a body and of a frame tells.
-- Assumes nothing.
use mathlib.Core.Path.{◌≡◌, refl, sym, ap, ap₂, ◌∙◌, subst}
use mathlib.Core.Bool.{Bool}
use mathlib.Core.Logic.{◌⊎◌, inl, inr}
use mathlib.Core.List.{List, [], ◌++◌, map}
use Prim.Native.Nat.{ℕ, ◌+◌, ◌-◌, ◌*◌, ◌≤◌, ◌<◌, min}
use native.Mathlib.Nat.{lt_of_lt_of_le}
use native.Mathlib.Omega.{arith}
use lib.Pow.{pow_mono}
use lib.ListN.{length, take, drop}
use Rattle.std.specs.declared.result.Result.{Result}
use Rattle.std.specs.declared.result.Result.TheVariants.{Ok, Err}
use Rattle.ground.specs.Numbered.{number}
use Rattle.ground.proofs.Laws.Numbered.{never_zero}
use Rattle.ground.specs.declared.replies.Reply.{Reply}
use Rattle.ground.specs.Replies.{done, short_room}
use Rattle.bits.specs.Bits.{view, val}
use Rattle.bits.proofs.Laws.Views.{view_lt, length_view, view_rest}
use Rattle.bits.proofs.Laws.Bytes.{view_bits}
use Rattle.bits.specs.Codings.{Answer, got, no, reply_of}
use Rattle.bits.specs.Codecs.{write_all}
use Rattle.bits.proofs.Laws.Codecs.{written_read}
use Rattle.bits.specs.declared.Refusal.{Refusal}
use Rattle.words.specs.Tables.{coding}
use Rattle.runs.specs.Runs.{run_at, ran, read_some, over}
use Rattle.runs.proofs.Laws.Runs.{run_not, run_filled}
use Rattle.norms.specs.Part.{norm_part}
use Rattle.norms.specs.Answers.{part_of}
use Rattle.norms.specs.declared.NormPart.{NormPart}
use Rattle.prefix.specs.Sizes.{mode_bytes, length_bytes, mode_of}
use Rattle.prefix.specs.Prefix.{prefix_of}
use Rattle.prefix.specs.declared.Prefix.TheVariants.{Data}
use Rattle.prefix.specs.declared.Length.{Length}
use Rattle.prefix.specs.declared.Mode.{Mode}
use Rattle.std.specs.declared.option.Option.TheVariants.{Some}
use Rattle.kinds.proofs.Laws.Kinds.{length_kinds}
use Rattle.frame.specs.Layout.{Frame, is_transient, flag_l, flag_n, flag_c, kinds_of, frame}
use Rattle.kinds.specs.Budget.{noise_bits, kinds_at, all_compete}
use Rattle.kinds.proofs.Laws.Budget.{noise_le}
use Rattle.frame.proofs.Laws.Places.{frame_not, frame_got, budget_is}
use Rattle.frame.specs.Answers.{Outcome, refused, empty, sound, outcome, stopped_at, read_body, body_of, started, read_answer, flags_of, reading_of, codes_after}
use Rattle.frame.specs.Answers.{tail_after}
use Rattle.tails.specs.Tails.{tail_from}
use Rattle.tails.proofs.Laws.Tails.{tail_made}
use Rattle.frame.specs.Inner.{NormsRead, CodesAndTail, BodyRead, FrameRead, body_reading}
use Rattle.frame.proofs.Laws.Reads.{never_done, norms_refused, norms_opened, read_codes_short, read_tail_short, read_started, data_whole, field_sized, field_mode}
use Rattle.frame.proofs.Laws.Reads.{body_part, length_body}
use Rattle.kinds.specs.declared.Flags.{Flags}
use Rattle.frame.specs.declared.Reading.{Reading}
use Rattle.frame.specs.declared.Record.{Record}

-- what is known once the kinds are: the norms end at p, k bits are left for the noise
pub record Rest (s : List ℕ) (f : Flags) (ns : List ℕ) (p k : ℕ) (ks : List ℕ) : Type 0 where
  pub opened : NormsRead s ns p
  pub flagged : f ≡ flags_of (view s 0 4)
  pub spared : k ≡ noise_bits f.transient
  pub kinded : ks ≡ kinds_at f.transient (all_compete (length s * 8) f.l) f.c ns (length s * 8 - p - noise_bits f.transient)

-- a body's reading, by its parts
abbrev made_reading : ℕ → ℕ → Flags → List ℕ → ℕ → ℕ → Reading
made_reading mode next f ns z t =
    record {
      reply = done;
      next = next;
      «record» =
          record {
            mode = mode;
            transient = f.transient;
            flag_l = f.l;
            flag_n = f.n;
            flag_c = f.c;
            norms = ns;
            noise = z;
            tail_bits = t;
          };
    }

-- what a run that is done gave: the codes stand in cs and end at q
pub record Ended (s : List ℕ) (p k : ℕ) (ks : List ℕ) (q : ℕ) (cs : List ℕ) : Type 0 where
  pub said : run_at s p (length s * 8 - k) ks ≡ got cs (view s q (length s * 8 - k - q))
  pub place : p + length (write_all (map coding ks) cs) ≡ q
  pub far : q + k ≤ length s * 8

pub rest_of : {s : List ℕ} {f : Flags} {ns : List ℕ} {p k : ℕ} {ks : List ℕ} → NormsRead s ns p × (f ≡ flags_of (view s 0 4)) → k ≡ noise_bits f.transient
    → ks ≡ kinds_at f.transient (all_compete (length s * 8) f.l) f.c ns (length s * 8 - p - noise_bits f.transient) → Rest s f ns p k ks
rest_of o e g = record { opened = o.0; flagged = o.1; spared = e; kinded = g }

module _ {s : List ℕ} {f : Flags} {ns : List ℕ} {p k : ℕ} {ks : List ℕ} (R : Rest s f ns p k ks) where
  abbrev end : ℕ
  end = length s * 8

  abbrev O : NormsRead s ns p
  O = R.opened

  spare_is : k ≡ noise_bits (is_transient (view s 0 4))
  spare_is = R.spared ∙ ap (λ (g : Flags). noise_bits g.transient) R.flagged

  inside : p ≤ end
  inside = omega (arith, O.room)

  pub rest_room : p + k ≤ length s * 8
  rest_room = omega (arith, O.room, spare_is)

  kinds_are : ks ≡ kinds_of end (view s 0 4) ns
  unfolding kinds_of
  kinds_are =
      R.kinded ∙ ap (λ (g : Flags). kinds_at g.transient (all_compete end g.l) g.c ns (end - p - noise_bits g.transient)) R.flagged
      ∙ ap (kinds_at (is_transient (view s 0 4)) (all_compete end (flag_l (view s 0 4))) (flag_c (view s 0 4)) ns)
      (budget_is s end O.four ns p O.said O.far inside)

  pub kinds_800 : length ks ≡ 800
  unfolding kinds_at
  kinds_800 = ap length R.kinded ∙ length_kinds f.c _

  body_is : (mode : ℕ) (a : Answer Frame) → (frame end).read (view s 0 end) ≡ a → read_body mode s ≡ outcome mode a
  unfolding read_body
  body_is mode a g = ap (λ (b : List Bool). outcome mode ((frame end).read b)) (sym (view_bits s)) ∙ ap (outcome mode) g

  pub noise_small : {z : ℕ} (q : ℕ) → z ≡ val (view s q (min k 16)) → z < 256
  noise_small q e = rw e (lt_of_lt_of_le (view_lt s q (min k 16)) (pow_mono {j = 8} (omega (arith, R.spared, noise_le f.transient))))

  -- the codes are refused
  pub rest_refused : {x : Refusal} {n : ℕ} {cs : List ℕ} (mode : ℕ) → Err x ≡ ran p (end - k - p) (run_at s p (end - k) ks)
      → n ≡ reply_of x → BodyRead s (read_body mode s) (stopped_at n 0) cs
  rest_refused {x = x} mode d en =
      let g = run_not p (end - k - p) (run_at s p (end - k) ks) x d in
      let b = body_is mode (no x) (frame_not s end O.four ns p O.said O.far inside k spare_is ks kinds_are rest_room x g) in
      record { reading = ap (λ (n : ℕ). stopped_at n 0) en ∙ ap reading_of (sym b); held = λ z. absurd (never_done x (sym en ∙ z)) }

  -- the codes end at q, and stand in cs
  pub rest_ended : {q : ℕ} (cs₀ cs : List ℕ) → Ok q ≡ ran p (end - k - p) (run_at s p (end - k) ks)
      → length cs₀ ≡ 800 → cs ≡ over (read_some s p (end - k) ks) cs₀ → Ended s p k ks q cs
  unfolding run_at
  rest_ended {q = q} cs₀ cs d l o =
      let (g, t, b) = run_filled s p (end - k) ks cs₀ q cs (kinds_800 ∙ sym l) d o in
      let w = written_read (map coding ks) (view s p (end - k - p)) cs (view s q (end - k - q)) g in
      let v = view_rest s p (end - k - p) (write_all (map coding ks) cs) (view s q (end - k - q)) w.0 in
      record { said = g; place = omega (arith, v.1, length_view s q (end - k - q), t, b); far = omega (arith, rest_room, t, b) }

  module _ {q : ℕ} {cs : List ℕ} (E : Ended s p k ks q cs) where
    found : Frame
    found = (view s 0 4, (ns, (cs, (val (view s q k), view s (q + k) (end - (q + k))))))

    body_got : (mode : ℕ) → read_body mode s ≡ sound mode found
    unfolding found
    body_got mode =
        body_is mode (got found [])
        (frame_got s end O.four ns p O.said O.far inside k spare_is ks kinds_are rest_room cs q E.said E.far E.place)

    rest_reading : {z : ℕ} (mode : ℕ) → length s ≡ mode_bytes mode → z ≡ val (view s q (min k 16))
        → made_reading mode (length s + 1) f ns z (length s * 8 - (q + k)) ≡ reading_of (read_body mode s)
    unfolding found
    rest_reading {z = z} mode es ez =
        let t = length s * 8 - (q + k) in
        let m : min k 16 ≡ k = omega (arith, R.spared, noise_le f.transient) in
        ap (λ (g : Flags). made_reading mode (length s + 1) g ns z t) R.flagged
        ∙ ap (λ (x : ℕ). made_reading mode (x + 1) (flags_of (view s 0 4)) ns z t) es
        ∙ ap₂ (λ (x y : ℕ). made_reading mode (mode_bytes mode + 1) (flags_of (view s 0 4)) ns x y) (ez ∙ ap (λ (n : ℕ). val (view s q n)) m)
        (sym (length_view s (q + k) t))
        ∙ ap reading_of (sym (body_got mode))

    pub rest_told : {z : ℕ} (mode : ℕ) → length s ≤ 320 → length s ≡ mode_bytes mode → z ≡ val (view s q (min k 16))
        → BodyRead s (read_body mode s) (made_reading mode (length s + 1) f ns z (length s * 8 - (q + k))) cs
    unfolding found
    rest_told mode small es ez =
        let p : length s * 8 - (length s * 8 - (q + k)) ≡ q + k = omega (arith, E.far) in
        record {
          reading = rest_reading mode es ez;
          held =
              λ _.
              record {
                next = refl;
                small = small;
                inside = omega arith;
                codes = λ c. ap (codes_after c) (sym (body_got mode));
                tail =
                    λ t. ap (λ (a : ℕ). tail_from s a ++ drop 320 t) p ∙ ap (λ (b : List ℕ). b ++ drop 320 t) (tail_made s (q + k) E.far small)
                    ∙ ap (tail_after t) (sym (body_got mode));
              };
        }

-- ---- what the stages hand on

-- a refusal holds nothing
body_stops : {s : List ℕ} {o : Outcome} {r : Reading} {x : ℕ} {cs : List ℕ} → o ≡ refused x → (x ≡ 0 → ⊥) → r ≡ stopped_at x 0 → BodyRead s o r cs
body_stops e n er = record { reading = er ∙ ap reading_of (sym e); held = λ z. absurd (n (sym (ap (λ (y : Reading). y.reply) er) ∙ z)) }

-- flags and norms, as the code reads them
module _ (s : List ℕ) {f : Flags} {n : Result NormPart Reply} (long : 80 ≤ length s) (ef : f ≡ flags_of (view s 0 4))
    (en : n ≡ part_of 4 (length s * 8 - 4) ((norm_part f.transient f.n).read (view s 4 (length s * 8 - 4)))) where
  norms_said : n ≡ part_of 4 (length s * 8 - 4) ((norm_part (is_transient (view s 0 4)) (flag_n (view s 0 4))).read (view s 4 (length s * 8 - 4)))
  norms_said = en ∙ ap (λ (g : Flags). part_of 4 (length s * 8 - 4) ((norm_part g.transient g.n).read (view s 4 (length s * 8 - 4)))) ef

  pub norms_stop : {cs : List ℕ} (x : Reply) (mode : ℕ) → n ≡ Err x → BodyRead s (read_body mode s) (stopped_at (number x) 0) cs
  norms_stop x mode e = body_stops (norms_refused s long x (sym e ∙ norms_said) mode) (never_zero x) refl

  pub norms_open : (x : NormPart) → n ≡ Ok x → NormsRead s x.norms x.next
  norms_open x e = norms_opened s long x (sym e ∙ norms_said)

frame_stops : {src : List ℕ} {o : Outcome} {r : Reading} {x n : ℕ} {cs : List ℕ} → reading_of o ≡ stopped_at x n → (x ≡ 0 → ⊥) → r ≡ stopped_at x n
    → FrameRead src o r cs
frame_stops e n er = record { reading = er ∙ sym e; held = λ z. absurd (n (sym (ap (λ (y : Reading). y.reply) er) ∙ z)) }

-- what a body of n bytes tells, the frame tells
pub frame_told : {src s : List ℕ} {o u : Outcome} {r : Reading} {cs : List ℕ} (n : ℕ) → n < length src → s ≡ body_of n src → u ≡ o → BodyRead s u r cs
    → FrameRead src o r cs
frame_told {src} {s} {o} {u} {r} {cs} n h es eu B = record { reading = B.reading ∙ ap reading_of eu; held = go }
  where
    go : r.reply ≡ 0 → (r.next ≤ length src) × CodesAndTail (body_of (r.next - 1) src) o r cs
    go z =
        let H = B.held z in
        let l = ap length es ∙ length_body src n h in
        let m : n ≡ r.next - 1 = omega (arith, H.next, l) in
        (omega (arith, H.next, l), rw (← m, ← es, ← eu) H)

-- a frame with data: a field of n bytes that names a mode m
pub record Ready (s : List ℕ) (m : ℕ) : Type 0 where
  pub least : 80 ≤ length s
  pub most : length s ≤ 320
  pub mode : length s ≡ mode_bytes m

module _ (src : List ℕ) (f : Length) {n : ℕ} (en : n ≡ length_bytes f.0) where
  module _ {m : Mode} (ep : Data f ≡ prefix_of src) (h : n < length src) (em : Some m ≡ mode_of f.0) where
    mode_is : m.0 ≡ f.0 - 8
    mode_is = field_mode src f ep m (sym em)

    pub data_ready : Ready (take (n + 1 - 1) (drop 1 src)) m.0
    data_ready =
        let z = field_sized src f n ep en in
        let l = ap length (body_part src n h) ∙ length_body src n h in
        record { least = omega (arith, l, z.least); most = omega (arith, l, z.most); mode = l ∙ z.mode ∙ ap mode_bytes (sym mode_is) }

    pub data_refused : {r : Reading} {cs : List ℕ} → BodyRead (take (n + 1 - 1) (drop 1 src)) (read_body m.0 (take (n + 1 - 1) (drop 1 src))) r cs
        → FrameRead src (started (Data f) src) r cs
    data_refused B =
        let p = body_part src n h in
        frame_told n h p (ap₂ read_body mode_is p ∙ sym (data_whole src f n en h)) B

    pub data_told : {x : Record} {cs : List ℕ}
        → let s = take (n + 1 - 1) (drop 1 src) in BodyRead s (read_body m.0 s) (body_reading (length s) (Ok x)) cs
        → FrameRead src (started (Data f) src) (record { reply = done; next = n + 1; «record» = x }) cs
    data_told {x} {cs} B =
        let l : length (take (n + 1 - 1) (drop 1 src)) ≡ n = ap length (body_part src n h) ∙ length_body src n h in
        subst (λ (k : ℕ). FrameRead src (started (Data f) src) (record { reply = done; next = k + 1; «record» = x }) cs) l (data_refused B)

-- ---- what is given out

-- the reading, and the lent slices afterwards
abbrev pub Given : Outcome → List ℕ → List ℕ → List ℕ → List ℕ → Reading → Type 0
Given o c c₀ t t₀ r = (r ≡ reading_of o) × (c ≡ codes_after c₀ o) × (t ≡ tail_after t₀ o)

-- room for too few numbers, or for too few bytes
no_room : {c t : List ℕ} {a : Outcome} {r : Reading} → a ≡ refused short_room → r ≡ stopped_at short_room 0 → Given a c c t t r
no_room q e = rw q (e, refl, refl)

pub room_short : (src : List ℕ) {c t : List ℕ} {r : Reading} → (length c < 800) ⊎ ((800 ≤ length c) × (length t < 320)) → r ≡ stopped_at short_room 0
    → Given (read_answer src (length c) (length t)) c c t t r
room_short src {c} {t} (inl h) e = no_room (read_codes_short src (length c) (length t) h) e
room_short src {c} {t} (inr h) e = no_room (read_tail_short src (length c) (length t) h.0 h.1) e

module _ {src : List ℕ} {r : Reading} {cs : List ℕ} where
  stopped_of : {o a : Outcome} {c t : List ℕ} → a ≡ o → FrameRead src o r cs → (r.reply ≡ 0 → ⊥) → Given a c c t t r
  stopped_of {o = refused x} e F n = (rw e F.reading, (rw e), (rw e))
  stopped_of {o = empty} e F n = (rw e F.reading, (rw e), (rw e))
  stopped_of {o = sound mode x} e F n = absurd (n (ap (λ (y : Reading). y.reply) F.reading))

  body_long : {o : Outcome} → FrameRead src o r cs → r.reply ≡ 0 → length (body_of (r.next - 1) src) ≡ r.next - 1
  body_long F z = omega (arith, (F.held z).1.next)

  -- with room enough the frame decides, and only a reading of 0 changes lent memory
  module _ (c₀ t₀ : List ℕ) (h : 800 ≤ length c₀) (l : 320 ≤ length t₀) (F : FrameRead src (started (prefix_of src) src) r cs) where
    pub given_stopped : (r.reply ≡ 0 → ⊥) → Given (read_answer src (length c₀) (length t₀)) c₀ c₀ t₀ t₀ r
    given_stopped n = stopped_of (read_started src _ _ h l _ refl) F n

    pub given_done : {cs' t : List ℕ} {b : ℕ} → r.reply ≡ 0 → cs' ≡ cs → b ≡ r.«record».tail_bits
        → t ≡ tail_from (body_of (r.next - 1) src) ((r.next - 1) * 8 - b) ++ drop 320 t₀
        → Given (read_answer src (length c₀) (length t₀)) (cs' ++ drop 800 c₀) c₀ t t₀ r
    given_done z ec eb et =
        let H = (F.held z).1 in
        rw (read_started src _ _ h l _ refl) (
          F.reading,
          ap (λ (x : List ℕ). x ++ drop 800 c₀) ec ∙ H.codes c₀,
          et ∙ ap₂ (λ (n b : ℕ). tail_from (body_of (r.next - 1) src) (n * 8 - b) ++ drop 320 t₀) (sym (body_long F z)) eb ∙ H.tail t₀,
        )
