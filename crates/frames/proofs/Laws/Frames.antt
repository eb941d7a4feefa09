-- A sound recording is its stored frames one behind the other, and no other list of stored frames.
-- Assumes nothing.
use mathlib.Core.Path.{◌≡◌, refl, sym, ap, ap₂, ◌∙◌, subst}
use mathlib.Core.List.{List, [], ◌∷◌, ◌++◌, append_assoc, append-nil}
use Prim.Native.Nat.{ℕ, zero, suc, ◌+◌, ◌-◌, ◌*◌, ◌≤◌, ◌<◌}
use native.Mathlib.Nat.{add-zero, zero-add, suc-mul, zero-mul}
use native.Mathlib.Omega.{arith}
use lib.ListN.{length, take, drop, get_or, length-append}
use lib.Seq.{drop-append-add, take_at}
use Rattle.ground.specs.ListsByRule.{table, from}
use Rattle.ground.proofs.Laws.ListsByRule.{filled}
use Rattle.ground.proofs.Laws.ListsByRule.{table_same}
use Rattle.ground.specs.Runs.{runs}
use Rattle.ground.proofs.Laws.Runs.{runs_none, runs_add, runs_front, runs_same}
use Rattle.ground.specs.Replies.{done}
use Rattle.prefix.specs.Sizes.{mode_bytes}
use Rattle.frame.specs.Answers.{Outcome, refused, empty, sound}
use Rattle.recording.specs.Walk.{passes, step_of, frame_step, stored_at, walk, ahead}
use Rattle.recording.proofs.Laws.Walk.{walk_end, ahead_stopped}
use Rattle.recording.specs.Units.{none, more}
use Rattle.recording.proofs.Laws.Units.{walk_units}
use Rattle.recording.specs.Frames.{Stored, Frames}
use Rattle.recording.proofs.Laws.Frames.{frame_unit, sound_says, bare_says, first_bare}
use Rattle.recording.specs.Blocks.{Blocks}
use Rattle.recording.specs.declared.answer.Check.{Check}
use Rattle.frames.specs.Places.{said_bytes, size_at, place_from, place_of, frame_at, frames_of, concatenated}
use Rattle.frames.proofs.Laws.Places.{size_said, place_add}

-- ---- the frame at the start

size_of : (s : List ℕ) (k : ℕ) (o : Outcome) → stored_at s ≡ o → step_of o ≡ passes k → size_at s ≡ k
size_of s k (refused x) e q = absurd (let z : ◌≡◌ {A = ℕ} 0 1 = cc in omega arith)
size_of s k empty e q =
    let n : 1 ≡ k = cc in
    let b = first_bare s e in
    sym (size_said s 1 (sym (ap said_bytes (bare_says s e))) (omega (arith, b.0))) ∙ n
size_of s k (sound m x) e q =
    let n : mode_bytes m + 1 ≡ k = cc in
    let y = sound_says s m x e in
    sym (size_said s (mode_bytes m + 1) (sym (ap said_bytes y.says ∙ ap (λ (j : ℕ). j + 1) y.bytes)) (omega (arith, y.long))) ∙ n

-- a frame that is read with so many bytes has them by its prefix byte
pub frame_size : (s : List ℕ) (k : ℕ) → frame_step s ≡ passes k → size_at s ≡ k
frame_size s k e = size_of s k (stored_at s) refl e

pub stored_size : (f rest : List ℕ) → Stored f → size_at (f ++ rest) ≡ length f
stored_size f rest a = frame_size (f ++ rest) (length f) (frame_unit.front f rest a)

pub frame_first : (f s : List ℕ) → Stored f → frame_at (f ++ s) 0 ≡ f
unfolding place_from
frame_first f s a = ap (λ (k : ℕ). take k (f ++ s)) (stored_size f s a) ∙ take_at f s (length f) refl

-- ---- bytes in front shift every place

pub place_shift : (a s : List ℕ) (at n : ℕ) → place_from (a ++ s) (length a + at) n ≡ length a + place_from s at n
unfolding place_from
place_shift a s at zero = refl
place_shift a s at (suc n) =
    let p = place_from s at n in
    let e = place_shift a s at n in
    ap (λ (q : ℕ). q + size_at (drop q (a ++ s))) e ∙ ap (λ (t : List ℕ). length a + p + size_at t) (drop-append-add a s p) ∙ (omega arith)

module _ (f s : List ℕ) (a : Stored f) where
  place_one : place_of (f ++ s) 1 ≡ length f
  unfolding place_from
  place_one = zero-add (size_at (f ++ s)) ∙ stored_size f s a

  pub place_next : (i : ℕ) → place_of (f ++ s) (1 + i) ≡ length f + place_of s i
  place_next i =
      place_add (f ++ s) 0 1 i
      ∙ ap (λ (p : ℕ). place_from (f ++ s) p i) (place_one ∙ sym (add-zero (length f)))
      ∙ place_shift f s 0 i

-- so many sound frames in front: the next begins behind them
pub placed : {k : ℕ} {a : List ℕ} (s : List ℕ) → Frames k a → place_of (a ++ s) k ≡ length a
unfolding place_from
placed s none = refl
placed s (more {k} {f} {s = a} w fs) =
    ap (λ (t : List ℕ). place_of t (1 + k)) (append_assoc f a s) ∙ place_next f (a ++ s) w k ∙ ap (λ (p : ℕ). length f + p) (placed s fs)
    ∙ sym (length-append f a)

pub placed_all : {k : ℕ} {s : List ℕ} → Frames k s → place_of s k ≡ length s
placed_all {k} {s} fs = ap (λ (t : List ℕ). place_of t k) (sym (append-nil s)) ∙ placed [] fs

-- and frame i of what follows is frame k + i of the whole
pub frame_behind : {k : ℕ} {a : List ℕ} (s : List ℕ) (i : ℕ) → Frames k a → frame_at (a ++ s) (k + i) ≡ frame_at s i
frame_behind {k} {a} s i fs =
    let p : place_of (a ++ s) (k + i) ≡ length a + place_of s i =
    place_add (a ++ s) 0 k i ∙ ap (λ (q : ℕ). place_from (a ++ s) q i) (placed s fs ∙ sym (add-zero (length a))) ∙ place_shift a s 0 i in
    ap (λ (q : ℕ). take (size_at (drop q (a ++ s))) (drop q (a ++ s))) p
    ∙ ap (λ (t : List ℕ). take (size_at t) t) (drop-append-add a s (place_of s i))

frame_next : (f s : List ℕ) (i : ℕ) → Stored f → frame_at (f ++ s) (suc i) ≡ frame_at s i
frame_next f s i a =
    let e : suc i ≡ 1 + i = omega arith in
    let one : Frames 1 f = subst (λ (t : List ℕ). Frames 1 t) (append-nil f) (more a none) in
    ap (frame_at (f ++ s)) e ∙ frame_behind s i one

-- ---- a recording and its frames

-- the frames of a sound recording, one behind the other, are the recording
pub frames_back : {k : ℕ} {s : List ℕ} → Frames k s → runs k (frame_at s) ≡ s
frames_back none = runs_none _
frames_back (more {k} {f} {s} a fs) =
    let e : 1 + k ≡ suc k = omega arith in
    ap (λ (n : ℕ). runs n (frame_at (f ++ s))) e ∙ runs_front (frame_at (f ++ s)) k
    ∙ ap₂ (λ (x y : List ℕ). x ++ y) (frame_first f s a) (runs_same _ (frame_at s) k (λ i b. frame_next f s i a) ∙ frames_back fs)

pub frame_stored : {k : ℕ} {s : List ℕ} → Frames k s → (i : ℕ) → i < k → Stored (frame_at s i)
frame_stored none i h = absurd (omega arith)
frame_stored (more {k} {f} {s} a fs) zero h = subst Stored (sym (frame_first f s a)) a
frame_stored (more {k} {f} {s} a fs) (suc i) h = subst Stored (sym (frame_next f s i a)) (frame_stored fs i (omega arith))

pub frames_append : {j k : ℕ} {a b : List ℕ} → Frames j a → Frames k b → Frames (j + k) (a ++ b)
frames_append {j} {k} {a} {b} none g = let e : k ≡ 0 + k = omega arith in subst (λ (n : ℕ). Frames n b) e g
frames_append {j} {k} {a} {b} (more {k = i} {f} {s} w fs) g =
    let e : 1 + (i + k) ≡ 1 + i + k = omega arith in
    subst (λ (n : ℕ). Frames n ((f ++ s) ++ b)) e (subst (λ (t : List ℕ). Frames (1 + (i + k)) t) (sym (append_assoc f s b)) (more w (frames_append fs g)))

one_frame : {f : List ℕ} → Stored f → Frames 1 f
one_frame {f} a = subst (λ (t : List ℕ). Frames 1 t) (append-nil f) (more a none)

-- stored frames one behind the other are a sound recording, and they are its frames
pub frames_made : (f : ℕ → List ℕ) (k : ℕ) → ((i : ℕ) → i < k → Stored (f i)) → Frames k (runs k f)
unfolding runs
frames_made f zero h = none
frames_made f (suc k) h =
    let e : k + 1 ≡ suc k = omega arith in
    subst (λ (n : ℕ). Frames n (runs k f ++ f k)) e (frames_append (frames_made f k (λ i b. h i (omega arith))) (one_frame (h k (omega arith))))

-- frame i of frames one behind the other, whatever follows them
pub frame_in : (f : ℕ → List ℕ) (k i : ℕ) (rest : List ℕ) → ((j : ℕ) → j < k → Stored (f j)) → i < k → frame_at (runs k f ++ rest) i ≡ f i
frame_in f k i rest h b =
    let m = k - (i + 1) in
    let e : k ≡ i + suc m = omega arith in
    let z : i ≡ i + 0 = sym (add-zero i) in
    let g : ℕ → List ℕ = λ j. f (i + j) in
    let t = runs m (λ j. g (suc j)) ++ rest in
    let q : runs k f ++ rest ≡ runs i f ++ (g 0 ++ t) =
    ap (λ (n : ℕ). runs n f ++ rest) e ∙ ap (λ (x : List ℕ). x ++ rest) (runs_add f i (suc m) ∙ ap (λ (x : List ℕ). runs i f ++ x) (runs_front g m))
    ∙ append_assoc (runs i f) (g 0 ++ runs m (λ j. g (suc j))) rest ∙ ap (λ (x : List ℕ). runs i f ++ x) (append_assoc (g 0) (runs m (λ j. g (suc j))) rest) in
    ap (λ (x : List ℕ). frame_at x i) q
    ∙ ap (frame_at (runs i f ++ (g 0 ++ t))) z
    ∙ frame_behind (g 0 ++ t) 0 (frames_made f i (λ j c. h j (omega arith)))
    ∙ frame_first (g 0) t (subst (λ (n : ℕ). Stored (f n)) z (h i b))
    ∙ ap f (sym z)

pub frame_made : (f : ℕ → List ℕ) (k i : ℕ) → ((j : ℕ) → j < k → Stored (f j)) → i < k → frame_at (runs k f) i ≡ f i
frame_made f k i h b = ap (λ (x : List ℕ). frame_at x i) (sym (append-nil (runs k f))) ∙ frame_in f k i [] h b

one_plus : (k : ℕ) → 1 + k ≡ suc k
one_plus k = omega arith

-- ---- frames_of

frames_long : {k : ℕ} {s : List ℕ} → Frames k s → k ≤ length s
frames_long none = omega arith
frames_long (more {k} {f} {s} a fs) = omega (arith, frames_long fs, frame_unit.some f a, length-append f s)

pub frames_of_lem : {k : ℕ} {s : List ℕ} → Frames k s → frames_of s ≡ table k (frame_at s)
unfolding frames_of
frames_of_lem {k} {s} fs =
    let w : walk (length s) s ≡ ahead k (length s) (walk (length s - k) []) = ap (walk (length s)) (sym (append-nil s))
    ∙ walk_units frame_unit (length s) [] fs (frames_long fs) in
    let c : (walk (length s) s).count ≡ k =
    ap (λ (x : Check). x.count) (w ∙ ap (ahead k (length s)) (walk_end frame_step (length s - k) [] refl) ∙ ahead_stopped k (length s) done) in
    ap (λ (n : ℕ). table n (frame_at s)) c

table_flat : (g : ℕ → List ℕ) (n i : ℕ) → concatenated (from g n i) ≡ runs n (λ k. g (i + k))
unfolding from concatenated
table_flat g zero i = sym (runs_none _)
table_flat g (suc n) i =
    ap₂ (λ (x y : List ℕ). x ++ y) (ap g (sym (add-zero i)))
    (table_flat g n (suc i) ∙ runs_same _ _ n (λ k b. let e : suc i + k ≡ i + suc k = omega arith in ap g e))
    ∙ sym (runs_front (λ k. g (i + k)) n)

flat_runs : (fs : List (List ℕ)) → concatenated fs ≡ runs (length fs) (λ i. get_or fs i [])
unfolding concatenated
flat_runs [] = sym (runs_none _)
flat_runs (f ∷ fs) = ap (λ (t : List ℕ). f ++ t) (flat_runs fs) ∙ sym (runs_front (λ i. get_or (f ∷ fs) i []) (length fs))

-- the frames of sound frames one behind the other are those frames
pub frames_of_flat : (fs : List (List ℕ)) → ((i : ℕ) → i < length fs → Stored (get_or fs i [])) → frames_of (concatenated fs) ≡ fs
frames_of_flat fs h =
    let g : ℕ → List ℕ = λ i. get_or fs i [] in
    let k = length fs in
    ap frames_of (flat_runs fs) ∙ frames_of_lem (frames_made g k h) ∙ table_same (frame_at (runs k g)) g k 0 (λ i a b. frame_made g k i h (omega arith))
    ∙ sym (filled g k [] fs refl (λ i b. refl))

-- and a sound recording is its frames one behind the other
pub flat_of_frames : {k : ℕ} {s : List ℕ} → Frames k s → concatenated (frames_of s) ≡ s
flat_of_frames {k} {s} fs =
    ap concatenated (frames_of_lem fs) ∙ table_flat (frame_at s) k 0 ∙ runs_same _ (frame_at s) k (λ i b. ap (frame_at s) (zero-add i)) ∙ frames_back fs

-- ---- blocks are n frames at a time

pub blocks_frames : {n k : ℕ} {s : List ℕ} → Blocks n k s → Frames (k * n) s
blocks_frames {n} {k} {s} none = subst (λ (m : ℕ). Frames m []) (sym (zero-mul n)) none
blocks_frames {n} {k} {s} (more {k = j} {f} {s = t} a bs) =
    let e : n + j * n ≡ (1 + j) * n = omega (arith, suc-mul j n, ap (λ (m : ℕ). m * n) (one_plus j)) in
    subst (λ (m : ℕ). Frames m (f ++ t)) e (frames_append a (blocks_frames bs))

record Split (m n : ℕ) (s : List ℕ) : Type 0 where
  front : List ℕ
  rest : List ℕ
  whole : s ≡ front ++ rest
  fronts : Frames m front
  rests : Frames n rest

split_at : (m n j : ℕ) (s : List ℕ) → j ≡ m + n → Frames j s → Split m n s
split_at zero n j s e fs =
    let q : j ≡ n = omega (arith, e) in
    record { front = []; rest = s; whole = refl; fronts = none; rests = subst (λ (i : ℕ). Frames i s) q fs }
split_at (suc m) n j s e none = absurd (omega arith)
split_at (suc m) n j s e (more {k = i} {f} {s = t} a fs) =
    let r = split_at m n i t (omega (arith, e)) fs in
    let q : 1 + m ≡ suc m = omega arith in
    record {
      front = f ++ r.front;
      rest = r.rest;
      whole = ap (λ (x : List ℕ). f ++ x) r.whole ∙ sym (append_assoc f r.front r.rest);
      fronts = subst (λ (x : ℕ). Frames x (f ++ r.front)) q (more a r.fronts);
      rests = r.rests;
    }

pub frames_blocks : (n k : ℕ) (s : List ℕ) → Frames (k * n) s → Blocks n k s
frames_blocks n zero s fs = none_of (zero-mul n) fs
  where
    none_of : {j : ℕ} {t : List ℕ} → j ≡ 0 → Frames j t → Blocks n 0 t
    none_of e none = none
    none_of e (more a gs) = absurd (omega arith)
frames_blocks n (suc k) s fs =
    let r = split_at n (k * n) (suc k * n) s (omega (arith, suc-mul k n)) fs in
    let q : 1 + k ≡ suc k = omega arith in
    subst (λ (x : ℕ). Blocks n x s) q (subst (λ (t : List ℕ). Blocks n (1 + k) t) (sym r.whole) (more r.fronts (frames_blocks n k r.rest r.rests)))

-- blocks of n frames one behind the other
pub blocks_made : (F : ℕ → List ℕ) (n k : ℕ) → ((b : ℕ) → b < k → Frames n (F b)) → Frames (k * n) (runs k F)
unfolding runs
blocks_made F n zero h = subst (λ (m : ℕ). Frames m []) (sym (zero-mul n)) none
blocks_made F n (suc k) h =
    let e : k * n + n ≡ suc k * n = omega (arith, suc-mul k n) in
    subst (λ (m : ℕ). Frames m (runs k F ++ F k)) e (frames_append (blocks_made F n k (λ b c. h b (omega arith))) (h k (omega arith)))

-- frame c of block b
pub frame_in_block : (f : ℕ → ℕ → List ℕ) (n k b c : ℕ) → ((j i : ℕ) → j < k → i < n → Stored (f j i)) → b < k → c < n
    → frame_at (runs k (λ j. runs n (f j))) (b * n + c) ≡ f b c
frame_in_block f n k b c h hb hc =
    let F : ℕ → List ℕ = λ j. runs n (f j) in
    let m = k - (b + 1) in
    let e : k ≡ b + suc m = omega arith in
    let z : b ≡ b + 0 = sym (add-zero b) in
    let rest = runs m (λ j. F (b + suc j)) in
    let q : runs k F ≡ runs b F ++ (F (b + 0) ++ rest) =
    ap (λ (j : ℕ). runs j F) e ∙ runs_add F b (suc m) ∙ ap (λ (x : List ℕ). runs b F ++ x) (runs_front (λ j. F (b + j)) m) in
    ap (λ (x : List ℕ). frame_at x (b * n + c)) q
    ∙ frame_behind (F (b + 0) ++ rest) c (blocks_made F n b (λ j l. frames_made (f j) n (λ i d. h j i (omega arith) d)))
    ∙ ap (λ (j : ℕ). frame_at (F j ++ rest) c) (sym z)
    ∙ frame_in (f b) n c rest (λ i d. h b i hb d) hc

-- k blocks of n runs are k × n runs
pub runs_blocks : (f : ℕ → List ℕ) (n k : ℕ) → runs k (λ b. runs n (λ c. f (b * n + c))) ≡ runs (k * n) f
unfolding runs
runs_blocks f n zero = ap (λ (m : ℕ). runs m f) (sym (zero-mul n))
runs_blocks f n (suc k) =
    let e : k * n + n ≡ suc k * n = omega (arith, suc-mul k n) in
    ap (λ (x : List ℕ). x ++ runs n (λ c. f (k * n + c))) (runs_blocks f n k) ∙ sym (runs_add f (k * n) n) ∙ ap (λ (m : ℕ). runs m f) e
