-- A listing in its room: the lines and the total line behind them, or the one line for an input that is too long; or no room.
-- Assumes nothing.
use mathlib.Core.Path.{◌≡◌, sym, ap, ◌∙◌, subst}
use mathlib.Core.List.{List, ◌++◌}
use Prim.Native.Nat.{ℕ, ◌+◌, ◌≤◌, ◌<◌}
use native.Mathlib.Omega.{arith}
use borrow.Author.Tests.{lt-ltb, le-ltb, ltb-false}
use lib.Dec.{ltb}
use lib.ListN.{length}
use Rattle.ground.proofs.Laws.Cases.{by_bool}
use Rattle.recording.specs.Walk.{walk, most_frames}
use Rattle.listing.specs.Text.{too_long}
use Rattle.ground.specs.Laying.{laid_text, TextLaid}
use Rattle.ground.proofs.Laws.Laying.{then, laid_front, length_laid}
use Rattle.listing.specs.Listing.{lines, total_of, most_bytes, listing_of, room, Listing, answer_of, listed_in, out_after}
use Rattle.listing.proofs.Laws.Lengths.{lines_short, total_short, listing_short}
use Rattle.listing.specs.Inner.{Complete}
use Rattle.recording.specs.declared.answer.Check.{Check}
use Rattle.ground.specs.declared.replies.Reply.{Reply}
use Rattle.ground.specs.declared.replies.Reply.TheVariants.{ShortRoom}
use Rattle.std.specs.declared.result.Result.{Result}
use Rattle.std.specs.declared.result.Result.TheVariants.{Ok, Err}

-- what the call promises of its answer and of its output
abbrev pub Kept : List ℕ → List ℕ → List ℕ → Result ℕ Reply → Type 0
Kept src out out' r = (answer_of r ≡ listed_in src (length out)) × (out' ≡ out_after src out)

pub no_room : (src out : List ℕ) → length out < room → Kept src out out (Err ShortRoom)
unfolding listed_in out_after
no_room src out h = (rw (lt-ltb (length out) room h), rw (lt-ltb (length out) room h))

-- the length that is answered lies within the output
pub listed_within : (src : List ℕ) (n : ℕ) {r : Result ℕ Reply} {m : ℕ} → answer_of r ≡ listed_in src n → r ≡ Ok m → m ≤ n
unfolding listed_in
listed_within src n {r} {m} e q =
    let l : m ≡ (listed_in src n).length = ap (λ (z : Result ℕ Reply). (answer_of z).length) (sym q) ∙ ap (λ (z : Listing). z.length) e in
    by_bool (ltb n room)
    (λ t. let l' = rw t at l in omega arith)
    (λ t. let h = ltb-false n room t in let l' = rw t at l in omega (arith, listing_short src))

-- the equations of a listing: one line for an input that is too long, else the lines and the total line
listing_long : (src : List ℕ) → most_bytes < length src → listing_of src ≡ too_long
unfolding listing_of
listing_long src h = rw (lt-ltb most_bytes (length src) h)

pub listing_lines : (src : List ℕ) → length src ≤ most_bytes → listing_of src ≡ lines most_frames 0 src ++ total_of (walk most_frames src)
unfolding listing_of
listing_lines src h = rw (le-ltb most_bytes (length src) h)

module _ (src out : List ℕ) (q : room ≤ length out) where
  all_laid : {t out' : List ℕ} {n : ℕ} → listing_of src ≡ t → TextLaid out 0 t out' n → Kept src out out' (Ok n)
  unfolding listed_in out_after
  all_laid {t} e l = (
    rw (le-ltb (length out) room q) (ap (λ (k : ℕ). answer_of (Ok k)) (omega (arith, l.after, ap length e))),
    rw (le-ltb (length out) room q) (l.bytes ∙ ap (laid_text out 0) (sym e) ∙ laid_front out (listing_of src) (omega (arith, listing_short src))),
  )

  pub long_laid : {out' : List ℕ} {n : ℕ} → most_bytes < length src → TextLaid out 0 too_long out' n → Kept src out out' (Ok n)
  long_laid h l = all_laid (listing_long src h) l

-- the lines are put, and the total line has room behind them
module _ {src out out₁ : List ℕ} {r : Check × ℕ} (k : Complete src out out₁ r) (h : length src ≤ most_bytes) (q : room ≤ length out) where
  pub total_room : r.1 + length (total_of r.0) ≤ length out₁
  total_room =
      let t : length (total_of r.0) ≡ length (total_of (walk most_frames src)) = ap (λ (w : Check). length (total_of w)) k.answer in
      omega (arith, k.after, t, total_short src h, lines_short most_frames 0 src, ap length k.bytes, length_laid out 0 (lines most_frames 0 src))

  pub total_laid : {out₂ : List ℕ} {n : ℕ} → TextLaid out₁ r.1 (total_of r.0) out₂ n → Kept src out out₂ (Ok n)
  total_laid {out₂} {n} l =
      let m = subst (λ (w : Check). TextLaid out₁ r.1 (total_of w) out₂ n) k.answer l in
      let f : TextLaid out 0 (lines most_frames 0 src) out₁ r.1 = record { after = omega (arith, k.after); bytes = k.bytes } in
      all_laid src out q (listing_lines src h) (then f m)
