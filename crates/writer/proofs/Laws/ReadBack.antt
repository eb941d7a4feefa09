-- Read a record that was written: that record returns, with its codes and its tail.
-- Assumes nothing.
use mathlib.Core.Path.{◌≡◌, refl, sym, ap, ap₂, ◌∙◌}
use mathlib.Core.Bool.{Bool, true, false}
use mathlib.Core.List.{List, [], ◌∷◌, ◌++◌, append-nil}
use Prim.Native.Nat.{ℕ, ◌+◌, ◌-◌, ◌*◌, ◌≤◌, ◌<◌, zero-le}
use native.Mathlib.Nat.{zero-add}
use native.Mathlib.Omega.{arith}
use lib.ListN.{length, take, drop, replicate, length-append, take-append-drop}
use lib.Seq.{take_at, length-take-le}
use borrow.Author.Tests.{lt-ltb, le-ltb}
use Rattle.ground.specs.Replies.{done}
use Rattle.bits.specs.Bits.{view, bits_of, bytes_of, Bytes}
use Rattle.bits.proofs.Laws.Bytes.{length_bytes_lem, bits_bytes, bytes_bits, length_bits, view_part}
use Rattle.bits.proofs.Laws.LaidBits.{bits_append}
use Rattle.bits.proofs.Laws.Views.{length_view, view_add}
use Rattle.prefix.specs.Sizes.{mode_bytes}
use Rattle.prefix.proofs.Laws.Sizes.{mode_bounds}
use Rattle.prefix.specs.Prefix.{byte_with}
use Rattle.prefix.proofs.Laws.Prefix.{read_written}
use Rattle.prefix.specs.declared.Prefix.{Prefix}
use Rattle.frame.specs.Layout.{frame, budget_of}
use Rattle.frame.proofs.Laws.Layout.{frame_lawful}
use Rattle.frame.specs.Answers.{sound, outcome, read_body, started, read_answer, reading_of, codes_after, tail_after}
use Rattle.tails.specs.Tails.{tail_bytes, clear}
use Rattle.frame.specs.declared.Record.{Record}
use Rattle.layout.specs.Parts.{total}
use Rattle.writer.specs.Writes.{frame_of, bytes_for}
use Rattle.writer.specs.Bodies.{Passed}
use Rattle.writer.proofs.Laws.Bodies.{meant, meant_long}

-- clear bits are a run of 0
clear_zeros : (b : List Bool) → clear b ≡ true → b ≡ replicate (length b) false
unfolding clear
clear_zeros [] e = refl
clear_zeros (true ∷ b) e = absurd (let z : ◌≡◌ {A = ℕ} 0 1 = cc in omega arith)
clear_zeros (false ∷ b) e = ap (λ (l : List Bool). false ∷ l) (clear_zeros b e)

-- the first n bytes are the bytes of their bits
bytes_view : (s : List ℕ) (n : ℕ) → Bytes (take n s) → n ≤ length s → bytes_of n (view s 0 (n * 8)) ≡ take n s
bytes_view s n h l =
    let k = length-take-le n s l in
    let p : view s 0 (n * 8) ≡ bits_of (take n s) =
    view_part s 0 (n * 8) (omega arith) ∙ ap (λ (x : List ℕ). take (n * 8) (bits_of x)) (sym (take-append-drop n s))
    ∙ ap (take (n * 8)) (bits_append (take n s) (drop n s)) ∙ take_at (bits_of (take n s)) (bits_of (drop n s)) (n * 8) (omega (arith, length_bits (take n s))) in
    ap (bytes_of n) p ∙ ap (λ (x : ℕ). bytes_of x (bits_of (take n s))) (sym k) ∙ bytes_bits (take n s) h

-- a tail that is clear behind its bits is their bytes
tail_back : (ts : List ℕ) (t : ℕ) → Bytes (take 320 ts) → 320 ≤ length ts → t ≤ 2560 → clear (view ts t (2560 - t)) ≡ true
    → tail_bytes (view ts 0 t) ≡ take 320 ts
unfolding tail_bytes
tail_back ts t h l u e =
    let n : 2560 - length (view ts 0 t) ≡ length (view ts t (2560 - t)) = ap (λ (k : ℕ). 2560 - k) (length_view ts 0 t) ∙ sym (length_view ts t (2560 - t)) in
    let m : t + (2560 - t) ≡ 2560 = omega arith in
    ap (λ (x : List Bool). bytes_of 320 (view ts 0 t ++ x)) (ap (λ (k : ℕ). replicate k false) n ∙ sym (clear_zeros (view ts t (2560 - t)) e))
    ∙ ap (bytes_of 320) (ap (λ (p : ℕ). view ts 0 t ++ view ts p (2560 - t)) (sym (zero-add t)) ∙ sym (view_add ts 0 t (2560 - t)) ∙ ap (view ts 0) m)
    ∙ bytes_view ts 320 h l

module _ (r : Record) (cs ts : List ℕ) (room : ℕ) (l : length r.norms ≡ 44) (P : Passed r cs ts room) where
  body_back : read_body r.mode (bytes_of (mode_bytes r.mode) ((frame (total r)).write (frame_of r cs ts))) ≡ sound r.mode (frame_of r cs ts)
  unfolding read_body
  body_back =
      let n = mode_bytes r.mode in
      let x = frame_of r cs ts in
      let w = (frame (total r)).write x in
      ap₂ (λ (k : ℕ) (b : List Bool). outcome r.mode ((frame (k * 8)).read b)) (length_bytes_lem n w) (bits_bytes n w (meant_long r cs ts room l P)
      ∙ sym (append-nil w))
      ∙ ap (outcome r.mode) ((frame_lawful (total r)).back x [] (meant r cs ts room l P) zero-le)

  -- the bytes written, with anything behind them, are read as the frame
  pub answer_back : (rest : List ℕ) (codes tail : ℕ) → 800 ≤ codes → 320 ≤ tail
      → read_answer (bytes_for r cs ts ++ rest) codes tail ≡ sound r.mode (frame_of r cs ts)
  unfolding read_answer bytes_for
  answer_back rest codes tail hc ht =
      let m = r.mode in
      let hm : m < 20 = omega (arith, P.rooms.mode) in
      let n = mode_bytes m in
      let b = bytes_of n ((frame (total r)).write (frame_of r cs ts)) in
      let src = byte_with 0 (m + 8) 0 ∷ (b ++ rest) in
      let lb = length_bytes_lem n ((frame (total r)).write (frame_of r cs ts)) in
      let s : n < length src = omega (arith, length-append b rest, lb) in
      let e : m + 8 - 8 ≡ m = omega arith in
      rw (le-ltb codes 800 hc, le-ltb tail 320 ht) (ap (λ (p : Prefix). started p src) (read_written m (b ++ rest) hm)
      ∙ rw (Rattle.prefix.proofs.Laws.Sizes.length_bytes_lem m hm, lt-ltb n (length src) s) (ap₂ read_body e (take_at b rest n lb) ∙ body_back))

  few : r.tail_bits ≤ 2560
  unfolding budget_of
  few = omega (arith, P.count, (mode_bounds r.mode (omega (arith, P.rooms.mode))).1)

  pub read_back : (rest codes tail : List ℕ) → Bytes (take 320 ts) → 800 ≤ length codes → 320 ≤ length tail
      → (reading_of (read_answer (bytes_for r cs ts ++ rest) (length codes) (length tail)) ≡ record { reply = done; next = mode_bytes r.mode + 1; «record» = r })
      × (codes_after codes (read_answer (bytes_for r cs ts ++ rest) (length codes) (length tail)) ≡ take 800 cs ++ drop 800 codes)
      × (tail_after tail (read_answer (bytes_for r cs ts ++ rest) (length codes) (length tail)) ≡ take 320 ts ++ drop 320 tail)
  read_back rest codes tail h hc ht =
      let a = answer_back rest (length codes) (length tail) hc ht in (
        ap reading_of a
            ∙ ap (λ (t : ℕ). record {
              reply = done;
              next = mode_bytes r.mode + 1;
              «record» = record {
                mode = r.mode;
                transient = r.transient;
                flag_l = r.flag_l;
                flag_n = r.flag_n;
                flag_c = r.flag_c;
                norms = r.norms;
                noise = r.noise;
                tail_bits = t;
              };
            }) (length_view ts 0 r.tail_bits),
        ap (codes_after codes) a,
        ap (tail_after tail) a ∙ ap (λ (x : List ℕ). x ++ drop 320 tail) (tail_back ts r.tail_bits h P.rooms.tail few P.pad),
      )
