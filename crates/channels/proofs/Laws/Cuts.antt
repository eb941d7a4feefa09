-- A recording that stops inside a block: the block is cut off, 4 at its own place, whatever the booking.
-- Assumes nothing.
use mathlib.Core.Path.{◌≡◌, refl, ap, ap₂, ◌∙◌}
use mathlib.Core.List.{List, [], ◌++◌}
use Prim.Native.Nat.{ℕ, zero, suc, ◌+◌, ◌-◌, ◌≤◌, ◌<◌}
use native.Mathlib.Omega.{arith}
use lib.Dec.{ltb}
use lib.ListN.{length, take, drop, length-append}
use lib.Seq.{take-append-le, take-append-add, drop_at, length-take-le}
use borrow.Author.Tests.{ltb-true, ltb-false}
use Rattle.ground.proofs.Laws.Cases.{by_bool}
use Rattle.ground.specs.Replies.{no_byte, cut, too_many}
use Rattle.prefix.proofs.Laws.Prefix.{read_none}
use Rattle.prefix.specs.declared.Prefix.{Prefix}
use Rattle.frame.specs.Answers.{started}
use Rattle.recording.specs.Walk.{Step, stops, step_of, frame_step, most_frames}
use Rattle.recording.proofs.Laws.Walk.{stored_started}
use Rattle.recording.specs.Units.{none, more}
use Rattle.recording.specs.Frames.{Stored, bare, full, Frames}
use Rattle.recording.proofs.Laws.Frames.{first_cut, frame_unit}
use Rattle.recording.specs.Blocks.{further, in_block, block_step, check_blocks, Blocks}
use Rattle.recording.proofs.Laws.Checked.{refused_behind, byte_behind}
use Rattle.recording.proofs.Laws.Blocks.{block_first, block_passed, block_unit}

-- no byte, no frame
no_frame : (k : ℕ) → block_step (suc k) [] ≡ stops no_byte
no_frame k = block_first k [] (stops no_byte) (ap step_of (stored_started [] ∙ ap (λ (p : Prefix). started p []) (read_none [] refl)))

missing : {k : ℕ} {s : List ℕ} → Frames k s → 0 < length s → in_block (block_step k []) ≡ stops cut
missing none h = absurd (omega arith)
missing (more {k} {f} {s} a fs) h =
    let e : 1 + k ≡ suc k = omega arith in
    ap in_block (ap (λ (n : ℕ). block_step n []) e ∙ no_frame k)

stored_cut : (f : List ℕ) (p : ℕ) → Stored f → 0 < p → p < length f → frame_step (take p f) ≡ stops cut
stored_cut f p (bare e l) h b = absurd (omega arith)
stored_cut f p (full m x e l) h b = ap step_of (first_cut f m x e p h (omega arith))

-- behind its first frame the rest of a block is cut
rest_cut : {k : ℕ} {s : List ℕ} (q n : ℕ) → Frames k s → q < length s → (0 < q → block_step k (take q s) ≡ stops cut)
    → further n (in_block (block_step k (take q s))) ≡ stops cut
rest_cut zero n fs h g = ap (further n) (missing fs h)
rest_cut (suc q) n fs h g = ap (λ (x : Step). further n (in_block x)) (g (omega arith))

-- a part of a block, at least a byte of it and not the whole
pub block_cut : {n : ℕ} {f : List ℕ} (p : ℕ) → Frames n f → 0 < p → p < length f → block_step n (take p f) ≡ stops cut
block_cut p none h b = absurd (omega arith)
block_cut p (more {k} {f} {s} a fs) h b =
    let e : 1 + k ≡ suc k = omega arith in
    by_bool (ltb p (length f))
    (λ t.
    let l = ltb-true p (length f) t in
    ap₂ block_step e (take-append-le p f s (omega arith)) ∙ block_first k (take p f) (stops cut) (stored_cut f p a h l))
    (λ t.
    let l = ltb-false p (length f) t in
    let q = p - length f in
    let z : p ≡ length f + q = omega arith in
    let part : take p (f ++ s) ≡ f ++ take q s = ap (λ (j : ℕ). take j (f ++ s)) z ∙ take-append-add f s q in
    let rest : drop (length f) (f ++ take q s) ≡ take q s = drop_at f (take q s) (length f) refl in
    let c : q < length s = omega (arith, length-append f s) in
    ap₂ block_step e part ∙ block_passed k (f ++ take q s) (length f) (frame_unit.front f (take q s) a) (block_step k (take q s)) (ap (block_step k) rest)
    ∙ rest_cut q (length f) fs c (λ g. block_cut q fs g c))

-- so many sound blocks, then such a part: 4 at its place; behind 3,000 blocks, where no byte is read any more, 15
pub cut_in_block : {n k : ℕ} {s f : List ℕ} → 1 ≤ n → Blocks n k s → Frames n f → (p : ℕ) → 0 < p → p < length f → (booking : ℕ)
    → (k < most_frames → check_blocks n (s ++ take p f) booking ≡ record { reply = cut; count = k; place = length s })
    × (k ≡ most_frames → check_blocks n (s ++ take p f) booking ≡ record { reply = too_many; count = most_frames; place = length s })
cut_in_block {n} {k} {s} {f} one B fs p h b booking =
    let l : length (take p f) ≡ p = length-take-le p f (omega arith) in
    let L = block_unit n one in
    (λ t. refused_behind L B booking (take p f) cut t (omega arith) (block_cut p fs h b), λ t. byte_behind L B booking (take p f) t (omega arith))
