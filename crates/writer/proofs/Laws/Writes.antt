-- The causes of writing by their tests, in 01's order: the rooms and the noise, the norms and the codes, the tail.
-- Assumes nothing.
use mathlib.Core.Path.{◌≡◌, refl, sym, ap, ◌∙◌}
use mathlib.Core.Bool.{true}
use mathlib.Core.List.{List, ◌++◌}
use Prim.Native.Nat.{ℕ, ◌+◌, ◌-◌, ◌≤◌, ◌<◌}
use native.Mathlib.Omega.{arith}
use lib.Dec.{T, ltb}
use lib.ListN.{length, take}
use borrow.Author.Tests.{le-ltb, ltb-false, not-false}
use Rattle.ground.proofs.Laws.Cases.{by_bool}
use Rattle.ground.specs.Replies.{done}
use Rattle.ground.specs.Refusals.{Cause, first, not_done}
use Rattle.ground.proofs.Laws.Refusals.{numbers, by_rows, row_fails, first_none, front_first, back_first}
use Rattle.bits.specs.Bits.{view}
use Rattle.prefix.specs.Sizes.{mode_bytes}
use Rattle.prefix.proofs.Laws.Sizes.{mode_bounds}
use Rattle.norms.specs.Answers.{norm_causes}
use Rattle.frame.specs.declared.Record.{Record}
use Rattle.tails.specs.Tails.{clear}
use Rattle.layout.specs.Parts.{budget_for, kinds_for, codes_long, start_causes, code_causes, layout_causes, layout_of, plan_of, parts_in}
use Rattle.layout.specs.declared.Plan.{Plan}
use Rattle.layout.proofs.Laws.Parts.{layout_numbered, layout_planned, layout_left, start_first, codes_first}
use Rattle.layout.specs.declared.Parts.{Parts}
use Rattle.writer.specs.Writes.{room_causes, tail_causes, write_causes, write_reply, Roomy}

-- ---- the rooms

module _ (r : Record) (c t room : ℕ) where
  pub rooms_told : first (room_causes r c t room) ≡ 0 → Roomy r c t room
  unfolding room_causes
  rooms_told e =
      let q = first_none (room_causes r c t room) tt e in
      record {
        mode = omega (arith, ltb-false);
        codes = omega (arith, ltb-false);
        tail = omega (arith, ltb-false);
        out = omega (arith, ltb-false);
        quiet = not-false _ (search);
      }

  pub rooms_enough : Roomy r c t room → first (room_causes r c t room) ≡ 0
  unfolding room_causes
  rooms_enough R = let o : mode_bytes r.mode + 1 ≤ room = omega arith in sym (search by_rows depth 7)

-- ---- the tail's 13

pub tail_none : (ts : List ℕ) (left count : ℕ) → count ≡ left → clear (view ts count (2560 - count)) ≡ true → first (tail_causes ts left count) ≡ 0
unfolding tail_causes
tail_none ts left count e p = sym (search by_rows)

-- ---- the reply

module _ (r : Record) (cs ts : List ℕ) (room : ℕ) where
  tails : List Cause
  tails = tail_causes ts (budget_for r - codes_long (kinds_for r) (take 800 cs)) r.tail_bits

  pub reply_early : {x : ℕ} → x ≡ first (room_causes r (length cs) (length ts) room) → (x ≡ 0 → ⊥) → x ≡ write_reply r cs ts room
  unfolding write_causes
  reply_early e n = front_first _ _ (front_first _ _ (front_first _ _ e n) n) n

  module _ (e : done ≡ first (room_causes r (length cs) (length ts) room)) where
    -- behind the rooms and the noise the layout's causes decide, then the tail's
    rooms_passed : first (layout_causes r cs ++ tails) ≡ write_reply r cs ts room
    unfolding write_causes room_causes layout_causes start_causes tails
    rooms_passed =
        let R = rooms_told r (length cs) (length ts) room (sym e) in
        sym (row_fails _ _ (le-ltb 19 r.mode R.mode) (row_fails _ _ (le-ltb (length cs) 800 R.codes) refl))
        ∙ back_first (room_causes r (length cs) (length ts) room) _ tt (sym e) refl

    pub reply_layout : {x : ℕ} → x ≡ first (layout_causes r cs) → (x ≡ 0 → ⊥) → x ≡ write_reply r cs ts room
    reply_layout ex n = front_first (layout_causes r cs) tails ex n ∙ rooms_passed

    pub reply_tail : {x : ℕ} {p : Parts} → done ≡ first (layout_causes r cs) → p ≡ layout_of r cs → x ≡ first (tail_causes ts p.tail_bits r.tail_bits)
        → x ≡ write_reply r cs ts room
    unfolding tails
    reply_tail z ep ex =
        back_first (layout_causes r cs) tails (layout_numbered r cs) (sym z)
        (ex ∙ ap (λ (n : ℕ). first (tail_causes ts n r.tail_bits)) (layout_left r cs z ep))
        ∙ rooms_passed

    -- the same by the plan and its parts
    pub reply_planned : {x : ℕ} {pl : Plan} {p : Parts} → done ≡ first (start_causes r (length cs)) → pl ≡ plan_of r
        → done ≡ first (code_causes pl.budget pl.kinds (take 800 cs)) → p ≡ parts_in pl.budget pl.rates pl.kinds (take 800 cs)
        → x ≡ first (tail_causes ts p.tail_bits r.tail_bits) → x ≡ write_reply r cs ts room
    reply_planned es el ec ep ex = reply_tail (codes_first r cs _ es refl el ec) (ep ∙ layout_planned r cs _ es refl _ el) ex

    -- and what the codes refuse
    pub reply_codes : {x : ℕ} {pl : Plan} → done ≡ first (start_causes r (length cs)) → pl ≡ plan_of r → x ≡ first (code_causes pl.budget pl.kinds (take 800 cs))
        → (x ≡ 0 → ⊥) → x ≡ write_reply r cs ts room
    reply_codes es el ex n = reply_layout (codes_first r cs _ es refl el ex) n

    -- and what the start refuses
    pub reply_start : {x : ℕ} → x ≡ first (start_causes r (length cs)) → (x ≡ 0 → ⊥) → x ≡ write_reply r cs ts room
    reply_start ex n = reply_layout (start_first r cs _ ex n) n

pub write_numbered : (r : Record) (cs ts : List ℕ) → T (numbers not_done (write_causes r cs ts 321))
unfolding write_causes room_causes norm_causes code_causes tail_causes
write_numbered r cs ts = tt

-- room past the body is as good as room for the longest frame
pub reply_roomy : (r : Record) (cs ts : List ℕ) (room : ℕ) → mode_bytes r.mode < room → write_reply r cs ts 321 ≡ write_reply r cs ts room
unfolding first write_causes room_causes
reply_roomy r cs ts room h =
    by_bool (ltb 19 r.mode) (λ a. rw a)
    (λ a.
    let b = mode_bounds r.mode (omega (arith, ltb-false 19 r.mode a)) in
    rw (a, le-ltb 321 (mode_bytes r.mode + 1) (omega (arith, b.1)), le-ltb room (mode_bytes r.mode + 1) (omega arith)))
