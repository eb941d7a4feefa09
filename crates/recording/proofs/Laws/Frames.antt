-- A stored frame is a lawful unit: its own bytes decide how it reads, whatever follows, and fewer of them are cut.
-- Assumes nothing.
use mathlib.Core.Path.{◌≡◌, refl, sym, ap, ◌∙◌, subst}
use mathlib.Core.List.{List, [], ◌∷◌, ◌++◌}
use Prim.Native.Nat.{ℕ, zero, suc, ◌+◌, ◌-◌, ◌*◌, ◌≤◌, ◌<◌}
use native.Mathlib.Omega.{arith}
use lib.Dec.{ltb}
use lib.ListN.{length, get_or, take, drop, length-append, length-drop, take-append-drop}
use lib.Seq.{take-append-le, drop-append-le, length-take-le}
use borrow.Author.Tests.{ltb-true, ltb-false}
use Rattle.ground.proofs.Laws.Cases.{by_bool}
use Rattle.ground.specs.Replies.{cut}
use Rattle.bits.specs.Bits.{bits_of}
use Rattle.bits.specs.Codings.{Answer, got, no}
use Rattle.prefix.specs.Sizes.{length_bytes, mode_bytes}
use Rattle.prefix.proofs.Laws.Sizes.{a2_between}
use Rattle.prefix.specs.Prefix.{prefix_of, prefix_byte}
use Rattle.prefix.proofs.Laws.Prefix.{read_none, read_some, prefix_data}
use Rattle.prefix.specs.declared.Prefix.{Prefix}
use Rattle.prefix.specs.declared.Prefix.TheVariants.{Data, NoData, NoByte, Marked, Reserved}
use Rattle.prefix.specs.declared.Length.{Length}
use Rattle.frame.specs.Layout.{Frame, frame}
use Rattle.frame.specs.Answers.{Outcome, refused, empty, sound, outcome, read_body, body_of, started}
use Rattle.frame.proofs.Laws.Reads.{data_cut, data_whole}
use Rattle.recording.specs.Walk.{stored_at, stops, passes, step_of, frame_step}
use Rattle.recording.proofs.Laws.Walk.{stored_started, Fits, stored_fits}
use Rattle.recording.proofs.Laws.Units.{LawfulUnit}
use Rattle.recording.specs.Frames.{Stored, bare, full}

-- ---- the prefix byte decides how many bytes are read

pub same_prefix : (s t : List ℕ) → 0 < length s → 0 < length t → get_or s 0 0 ≡ get_or t 0 0 → prefix_of s ≡ prefix_of t
same_prefix s t hs ht e = read_some s hs ∙ ap prefix_byte e ∙ sym (read_some t ht)

-- a prefix of data, and the bytes that it says
pub record Says (s : List ℕ) (m : ℕ) : Type 0 where
  pub field : Length
  pub says : prefix_of s ≡ Data field
  pub bytes : length_bytes field.0 ≡ mode_bytes m
  pub long : mode_bytes m < length s

body_mode : (k m : ℕ) (x : Frame) (body : List ℕ) → read_body k body ≡ sound m x → k ≡ m
unfolding read_body
body_mode k m x body e = go ((frame (length body * 8)).read (bits_of body)) e
  where
    go : (a : Answer Frame) → outcome k a ≡ sound m x → k ≡ m
    go (got y r) q = cc
    go (no y) q = absurd (let z : ◌≡◌ {A = ℕ} 0 1 = cc in omega arith)

started_says : (s : List ℕ) (m : ℕ) (x : Frame) (p : Prefix) → prefix_of s ≡ p → started p s ≡ sound m x → Says s m
started_says s m x NoByte q e = absurd (let z : ◌≡◌ {A = ℕ} 0 1 = cc in omega arith)
started_says s m x Marked q e = absurd (let z : ◌≡◌ {A = ℕ} 0 1 = cc in omega arith)
started_says s m x Reserved q e = absurd (let z : ◌≡◌ {A = ℕ} 0 1 = cc in omega arith)
started_says s m x NoData q e = absurd (let z : ◌≡◌ {A = ℕ} 0 1 = cc in omega arith)
started_says s m x (Data f) q e =
    let d = prefix_data s f q in
    let n = length_bytes f.0 in
    by_bool (ltb n (length s))
    (λ t.
    let l = ltb-true n (length s) t in
    let k : f.0 - 8 ≡ m = body_mode (f.0 - 8) m x (body_of n s) (sym (data_whole s f n refl l) ∙ e) in
    let b : n ≡ mode_bytes m = (a2_between f.0 d.0 d.1).0 ∙ ap mode_bytes k in
    record { field = f; says = q; bytes = b; long = omega arith })
    (λ t.
    let c = sym (data_cut s f n refl (ltb-false n (length s) t)) ∙ e in
    absurd (let z : ◌≡◌ {A = ℕ} 0 1 = cc in omega arith))

pub sound_says : (s : List ℕ) (m : ℕ) (x : Frame) → stored_at s ≡ sound m x → Says s m
sound_says s m x e = started_says s m x (prefix_of s) refl (sym (stored_started s) ∙ e)

body_bare : (k : ℕ) (body : List ℕ) → read_body k body ≡ empty → ⊥
unfolding read_body
body_bare k body e = go ((frame (length body * 8)).read (bits_of body)) e
  where
    go : (a : Answer Frame) → outcome k a ≡ empty → ⊥
    go (got y r) q = let z : ◌≡◌ {A = ℕ} 0 1 = cc in omega arith
    go (no y) q = let z : ◌≡◌ {A = ℕ} 0 1 = cc in omega arith

started_bare : (s : List ℕ) (p : Prefix) → prefix_of s ≡ p → started p s ≡ empty → p ≡ NoData
started_bare s NoByte q e = absurd (let z : ◌≡◌ {A = ℕ} 0 1 = cc in omega arith)
started_bare s Marked q e = absurd (let z : ◌≡◌ {A = ℕ} 0 1 = cc in omega arith)
started_bare s Reserved q e = absurd (let z : ◌≡◌ {A = ℕ} 0 1 = cc in omega arith)
started_bare s NoData q e = refl
started_bare s (Data f) q e =
    let n = length_bytes f.0 in
    absurd (by_bool (ltb n (length s))
    (λ t. body_bare (f.0 - 8) (body_of n s) (sym (data_whole s f n refl (ltb-true n (length s) t)) ∙ e))
    (λ t.
    let c = sym (data_cut s f n refl (ltb-false n (length s) t)) ∙ e in
    let z : ◌≡◌ {A = ℕ} 0 1 = cc in omega arith))

pub bare_says : (s : List ℕ) → stored_at s ≡ empty → prefix_of s ≡ NoData
bare_says s e = started_bare s (prefix_of s) refl (sym (stored_started s) ∙ e)

-- ---- a stored frame followed by anything

-- bytes past those that the prefix byte says are not looked at
front_data : (f rest : List ℕ) (l : Length) → length_bytes l.0 < length f → started (Data l) (f ++ rest) ≡ started (Data l) f
front_data f rest l h =
    let n = length_bytes l.0 in
    let d = drop-append-le 1 f rest (omega arith) in
    let t = take-append-le n (drop 1 f) rest (omega (arith, length-drop 1 f)) in
    data_whole (f ++ rest) l n refl (omega (arith, length-append f rest))
    ∙ ap (read_body (l.0 - 8)) (ap (take n) d ∙ t)
    ∙ sym (data_whole f l n refl h)

front_prefix : (f rest : List ℕ) → 0 < length f → prefix_of (f ++ rest) ≡ prefix_of f
front_prefix [] rest h = absurd (omega arith)
front_prefix (b ∷ f) rest h = same_prefix (b ∷ f ++ rest) (b ∷ f) (omega arith) h refl

front_stored : (f rest : List ℕ) (p : Prefix) → 0 < length f → prefix_of f ≡ p → started p (f ++ rest) ≡ started p f → stored_at (f ++ rest) ≡ stored_at f
front_stored f rest p h q e =
    stored_started (f ++ rest)
    ∙ ap (λ (z : Prefix). started z (f ++ rest)) (front_prefix f rest h ∙ q) ∙ e ∙ ap (λ (z : Prefix). started z f) (sym q)
    ∙ sym (stored_started f)

front_sound : (f rest : List ℕ) (m : ℕ) → Says f m → stored_at (f ++ rest) ≡ stored_at f
front_sound f rest m y =
    front_stored f rest (Data y.field) (omega (arith, y.long)) y.says (front_data f rest y.field (omega (arith, y.bytes, y.long)))

-- a stored frame followed by anything reads the same
pub stored_front : (f rest : List ℕ) → Stored f → stored_at (f ++ rest) ≡ stored_at f
stored_front f rest (bare e l) = front_stored f rest NoData (omega arith) (bare_says f e) refl
stored_front f rest (full m x e l) = front_sound f rest m (sound_says f m x e)

-- ---- a frame at the start of a source

module _ (s : List ℕ) (m : ℕ) (x : Frame) (e : stored_at s ≡ sound m x) where
  y : Says s m
  y = sound_says s m x e

  first_byte : (j : ℕ) → 0 < j → prefix_of (take j s) ≡ Data y.field
  first_byte j h = go s y.long j h ∙ y.says
    where
      go : (t : List ℕ) → mode_bytes m < length t → (j : ℕ) → 0 < j → prefix_of (take j t) ≡ prefix_of t
      go [] l j h = absurd (omega arith)
      go (b ∷ t) l zero h = absurd (omega arith)
      go (b ∷ t) l (suc j) h = same_prefix (b ∷ take j t) (b ∷ t) (omega arith) (omega arith) refl

  -- its own bytes read the same
  pub first_sound : stored_at (take (mode_bytes m + 1) s) ≡ sound m x
  first_sound =
      let n = mode_bytes m + 1 in
      let l : length (take n s) ≡ n = length-take-le n s (omega (arith, y.long)) in
      let w : Says (take n s) m = record { field = y.field; says = first_byte n (omega arith); bytes = y.bytes; long = omega arith } in
      sym (front_sound (take n s) (drop n s) m w) ∙ ap stored_at (take-append-drop n s) ∙ e

  -- fewer are cut, by the prefix byte alone
  pub first_cut : (j : ℕ) → 0 < j → j ≤ mode_bytes m → stored_at (take j s) ≡ refused cut
  first_cut j h l =
      let k : length (take j s) ≡ j = length-take-le j s (omega (arith, y.long)) in
      stored_started (take j s) ∙ ap (λ (z : Prefix). started z (take j s)) (first_byte j h)
      ∙ data_cut (take j s) y.field (mode_bytes m) (sym y.bytes) (omega arith)

-- a byte of no data alone reads the same
pub first_bare : (s : List ℕ) → stored_at s ≡ empty → (0 < length s) × (stored_at (take 1 s) ≡ empty) × (length (take 1 s) ≡ 1)
first_bare s e = go s (bare_says s e)
  where
    go : (t : List ℕ) → prefix_of t ≡ NoData → (0 < length t) × (stored_at (take 1 t) ≡ empty) × (length (take 1 t) ≡ 1)
    go [] q = absurd (let c = sym (read_none [] refl) ∙ q in let z : ◌≡◌ {A = ℕ} 0 1 = cc in omega arith)
    go (b ∷ t) q = (
      omega arith,
      stored_started (b ∷ []) ∙ ap (λ (z : Prefix). started z (b ∷ [])) (same_prefix (b ∷ []) (b ∷ t) (omega arith) (omega arith) refl ∙ q),
      refl,
    )

-- ---- a frame is a lawful unit

stored_some : (f : List ℕ) → Stored f → 0 < length f
stored_some f (bare e l) = omega arith
stored_some f (full m x e l) = omega arith

stored_passes : (f rest : List ℕ) → Stored f → frame_step (f ++ rest) ≡ passes (length f)
stored_passes f rest (bare e l) = ap step_of (stored_front f rest (bare e l) ∙ e) ∙ ap passes (sym l)
stored_passes f rest (full m x e l) = ap step_of (stored_front f rest (full m x e l) ∙ e) ∙ ap passes (sym l)

frame_told : (s : List ℕ) (k : ℕ) (o : Outcome) → stored_at s ≡ o → step_of o ≡ passes k → Stored (take k s) × (k ≤ length s)
frame_told s k (refused x) e q = absurd (let z : ◌≡◌ {A = ℕ} 0 1 = cc in omega arith)
frame_told s k empty e q =
    let n : 1 ≡ k = cc in
    let b = first_bare s e in
    subst (λ (j : ℕ). Stored (take j s) × (j ≤ length s)) n (bare b.1 b.2, b.0)
frame_told s k (sound m x) e q =
    let n : mode_bytes m + 1 ≡ k = cc in
    let y = sound_says s m x e in
    subst (λ (j : ℕ). Stored (take j s) × (j ≤ length s)) n
    (full m x (first_sound s m x e) (length-take-le (mode_bytes m + 1) s (omega (arith, y.long))), omega (arith, y.long))

frame_number : (s : List ℕ) (x : ℕ) (o : Outcome) → Fits s o → step_of o ≡ stops x → (2 ≤ x) × (x ≤ 7)
frame_number s x (refused y) f q = let n : y ≡ x = cc in subst (λ (z : ℕ). (2 ≤ z) × (z ≤ 7)) n f
frame_number s x empty f q = absurd (let z : ◌≡◌ {A = ℕ} 0 1 = cc in omega arith)
frame_number s x (sound m y) f q = absurd (let z : ◌≡◌ {A = ℕ} 0 1 = cc in omega arith)

pub frame_unit : LawfulUnit frame_step Stored
frame_unit =
    record {
      some = stored_some;
      front = stored_passes;
      told = λ s k e. frame_told s k (stored_at s) refl e;
      number = λ s x h e. frame_number s x (stored_at s) (stored_fits s h) e;
    }
