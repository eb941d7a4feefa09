-- The plan of a record, its causes by their tests, and what a layout of 0 tells.
-- Assumes nothing.
use mathlib.Core.Path.{◌≡◌, refl, sym, ap, ap₂, ◌∙◌}
use mathlib.Core.Bool.{Bool, true}
use mathlib.Core.List.{List, map}
use Prim.Native.Nat.{ℕ, ◌+◌, ◌-◌, ◌*◌, ◌≤◌}
use native.Mathlib.Omega.{arith}
use lib.Dec.{T, ltb, eqb}
use lib.ListN.{length, take}
use lib.Seq.{length-take-le}
use borrow.Author.Tests.{eq-eqb, ne_eqb, not-false, ltb-true, ltb-false, eqb-true}
use Rattle.ground.proofs.Laws.Cases.{by_bool}
use Rattle.ground.specs.Replies.{done}
use Rattle.ground.specs.Refusals.{first, not_done}
use Rattle.ground.proofs.Laws.Refusals.{numbers, by_rows, none_first, first_none, front_first, back_first, neither_first, both_first}
use Rattle.words.specs.Tables.{coding}
use Rattle.prefix.specs.Sizes.{mode_bytes}
use Rattle.prefix.proofs.Laws.Sizes.{mode_bounds, mode_past}
use Rattle.norms.specs.Answers.{norm_causes, norm_reply}
use Rattle.norms.specs.Part.{norm_bits}
use Rattle.norms.proofs.Laws.Part.{bits_few}
use Rattle.allotment.specs.Allotment.{shares_of}
use Rattle.kinds.specs.Kinds.{kinds}
use Rattle.kinds.proofs.Laws.Kinds.{length_kinds}
use Rattle.kinds.specs.Budget.{noise_bits, all_compete, kinds_at}
use Rattle.frame.specs.Layout.{budget_of, kinds_of}
use Rattle.frame.specs.Answers.{flags_of}
use Rattle.frame.specs.declared.Record.{Record}
use Rattle.kinds.specs.declared.Flags.{Flags}
use Rattle.layout.specs.Fits.{fits}
use Rattle.layout.specs.declared.Plan.{Plan}
use Rattle.layout.specs.declared.Parts.{Parts}
use Rattle.layout.specs.Parts.{flag_bits, total, budget_for, rates_for, kinds_for, plan_of, start_causes, codes_long, code_causes, layout_causes}
use Rattle.layout.specs.Parts.{no_parts, parts_with, parts_by, parts_in, layout_of}

-- ---- the plan

plan_made : (r : Record) (n b e : ℕ) (rs ks : List ℕ) → n ≡ length (norm_bits r.transient r.flag_n r.norms) → e ≡ total r
    → b ≡ e - (4 + n) - noise_bits r.transient → rs ≡ (shares_of r.transient (all_compete e r.flag_l) r.norms b).rates → ks ≡ kinds r.flag_c rs
    → record { budget = b; rates = rs; kinds = ks } ≡ plan_of r
unfolding plan_of budget_of kinds_of kinds_at
plan_made r n b e rs ks en ee eb er ek =
    let m : b ≡ budget_for r = eb ∙ ap₂ (λ (x y : ℕ). x - (4 + y) - noise_bits r.transient) ee en in
    let q : rs ≡ rates_for r = er ∙ ap₂ (λ (x y : ℕ). (shares_of r.transient (all_compete x r.flag_l) r.norms y).rates) ee m in
    let k : ks ≡ kinds_for r = ek ∙ ap (kinds r.flag_c) q in
    ap (λ (x : ℕ). record { budget = x; rates = rs; kinds = ks }) m ∙ ap₂ (λ (x y : List ℕ). record { budget = budget_for r; rates = x; kinds = y }) q k

-- the plan as the code makes it: bytes, norm bits, budget, rates, kinds
pub plan_code : {bytes wide n left k b : ℕ} {f : Flags} {rs ks : List ℕ} (r : Record) → bytes ≡ mode_bytes r.mode → wide ≡ bytes
    → n ≡ length (norm_bits r.transient r.flag_n r.norms) → k ≡ noise_bits r.transient → left ≡ wide * 8 - (4 + n) → b ≡ left - k
    → f ≡ flags_of (flag_bits r) → rs ≡ (shares_of f.transient (all_compete (wide * 8) f.l) r.norms b).rates → ks ≡ kinds r.flag_c rs
    → record { budget = b; rates = rs; kinds = ks } ≡ plan_of r
plan_code {wide = wide} {b = b} r ey ew en ek el eb ef er es =
    plan_made r _ _ _ _ _ en (ap (λ (x : ℕ). x * 8) (ew ∙ ey)) (eb ∙ ap₂ (λ (x y : ℕ). x - y) el ek)
    (er ∙ ap (λ (x : Flags). (shares_of x.transient (all_compete (wide * 8) x.l) r.norms b).rates) ef) es

pub norm_room : (t f : Bool) (norms : List ℕ) (n : ℕ) → n ≡ length (norm_bits t f norms) → n ≤ 704
norm_room t f norms n e = omega (arith, bits_few t f norms)

pub length_kinds_for : (r : Record) → length (kinds_for r) ≡ 800
unfolding kinds_of kinds_at
length_kinds_for r = length_kinds r.flag_c _

-- what a plan holds
pub record Planned (r : Record) (p : Plan) : Type 0 where
  pub budget : p.budget ≡ budget_for r
  pub rates : p.rates ≡ rates_for r
  pub kinds : p.kinds ≡ kinds_for r
  pub long : length p.kinds ≡ 800

pub planned : (r : Record) (p : Plan) → p ≡ plan_of r → Planned r p
unfolding plan_of
planned r p e =
    record {
      budget = ap (λ (x : Plan). x.budget) e;
      rates = ap (λ (x : Plan). x.rates) e;
      kinds = ap (λ (x : Plan). x.kinds) e;
      long = ap (λ (x : Plan). length x.kinds) e ∙ length_kinds_for r;
    }

-- Ψ is a number of 16 bits, whatever the mode
pub budget_small : (r : Record) → budget_for r ≤ 2560
unfolding budget_of
budget_small r =
    by_bool (ltb r.mode 20)
    (λ t. omega (arith, (mode_bounds r.mode (ltb-true r.mode 20 t)).1))
    (λ t. omega (arith, mode_past r.mode (ltb-false r.mode 20 t)))

-- ---- the start

-- what a start of 0 tells
pub record Started (r : Record) (c : ℕ) : Type 0 where
  pub mode : r.mode ≤ 19
  pub codes : 800 ≤ c
  pub norms : norm_reply r.transient r.norms ≡ done

module _ (r : Record) (c : ℕ) where
  pub started : first (start_causes r c) ≡ 0 → Started r c
  unfolding start_causes norm_causes
  started e =
      let q = first_none (start_causes r c) tt e in
      record { mode = omega (arith, ltb-false); codes = omega (arith, ltb-false); norms = none_first (norm_causes r.transient r.norms) (search) }

  pub start_none : Started r c → first (start_causes r c) ≡ 0
  unfolding start_causes
  start_none S = sym (search (by_rows, sym))

  pub start_numbered : T (numbers not_done (start_causes r c))
  unfolding start_causes norm_causes
  start_numbered = tt

-- 800 of its numbers are taken
pub room_800 : (r : Record) (cs : List ℕ) (x : ℕ) → x ≡ first (start_causes r (length cs)) → x ≡ 0 → length (take 800 cs) ≡ 800
room_800 r cs x ex z = length-take-le 800 cs (started r (length cs) (sym ex ∙ z)).codes

pub parts_ready : {x : ℕ} {p : Plan} (r : Record) (cs : List ℕ) → x ≡ first (start_causes r (length cs)) → x ≡ 0 → p ≡ plan_of r
    → (length p.kinds ≡ length (take 800 cs)) × (length p.kinds ≤ 800) × (p.budget ≤ 2560)
parts_ready {x} {p} r cs ex z ep =
    let P = planned r p ep in
    (P.long ∙ sym (room_800 r cs x ex z), omega (arith, P.long), omega (arith, P.budget, budget_small r))

-- codes that fit their kinds and the budget have no cause
pub codes_none : (budget : ℕ) (kinds vs : List ℕ) → fits (map coding kinds) vs ≡ true → codes_long kinds vs ≤ budget → first (code_causes budget kinds vs) ≡ 0
unfolding code_causes
codes_none budget kinds vs f p = sym (search by_rows)

-- ---- the parts, by the reply

module _ (x budget : ℕ) (rates : List ℕ) (n : ℕ) where
  by_no : (x ≡ 0 → ⊥) → no_parts x ≡ parts_by x budget rates n
  by_no q = rw (ne_eqb x 0 q)

  by_yes : x ≡ 0 → parts_with budget rates n ≡ parts_by x budget rates n
  by_yes z = rw (eq-eqb x 0 z)

  by_reply : (parts_by x budget rates n).reply ≡ x
  by_reply = by_bool (eqb x 0) (λ t. rw t (sym (eqb-true x 0 t))) (λ t. rw t)

module _ (budget : ℕ) (rates kinds vs : List ℕ) where
  pub parts_no : {x : ℕ} → x ≡ first (code_causes budget kinds vs) → (x ≡ 0 → ⊥) → no_parts x ≡ parts_in budget rates kinds vs
  unfolding parts_in
  parts_no {x} e q = by_no x budget rates (codes_long kinds vs) q ∙ ap (λ (y : ℕ). parts_by y budget rates (codes_long kinds vs)) e

  pub parts_yes : {n : ℕ} → done ≡ first (code_causes budget kinds vs) → n ≡ codes_long kinds vs → parts_with budget rates n ≡ parts_in budget rates kinds vs
  unfolding parts_in
  parts_yes e q = ap (parts_with budget rates) q ∙ by_yes _ budget rates (codes_long kinds vs) (sym e)

-- ---- the layout

module _ (r : Record) (cs : List ℕ) (x : ℕ) (ex : x ≡ first (start_causes r (length cs))) where
  -- a refusal of the start is the layout's
  pub start_first : (x ≡ 0 → ⊥) → x ≡ first (layout_causes r cs)
  unfolding layout_causes
  start_first n = front_first _ _ ex n

  -- behind the start the codes decide
  pub codes_first : {y : ℕ} {p : Plan} → x ≡ 0 → p ≡ plan_of r → y ≡ first (code_causes p.budget p.kinds (take 800 cs)) → y ≡ first (layout_causes r cs)
  unfolding plan_of layout_causes
  codes_first z ep ey =
      back_first _ _ (start_numbered r (length cs)) (sym ex ∙ z) (ey ∙ ap (λ (p : Plan). first (code_causes p.budget p.kinds (take 800 cs))) ep)

  pub layout_start : (x ≡ 0 → ⊥) → no_parts x ≡ layout_of r cs
  unfolding layout_of layout_causes
  layout_start n =
      by_no x (budget_for r) (rates_for r) _ n
      ∙ ap (λ (y : ℕ). parts_by y (budget_for r) (rates_for r) (codes_long (kinds_for r) (take 800 cs))) (front_first _ _ ex n)

  pub layout_planned : x ≡ 0 → (p : Plan) → p ≡ plan_of r → parts_in p.budget p.rates p.kinds (take 800 cs) ≡ layout_of r cs
  unfolding plan_of parts_in layout_of layout_causes
  layout_planned z p e =
      ap (λ (y : Plan). parts_in y.budget y.rates y.kinds (take 800 cs)) e
      ∙ ap (λ (y : ℕ). parts_by y (budget_for r) (rates_for r) (codes_long (kinds_for r) (take 800 cs)))
      (back_first _ _ (start_numbered r (length cs)) (sym ex ∙ z) refl)

-- what a layout of reply 0 tells
pub record LaidOut (r : Record) (cs : List ℕ) : Type 0 where
  pub start : Started r (length cs)
  pub fit : fits (map coding (kinds_for r)) (take 800 cs) ≡ true
  pub paid : codes_long (kinds_for r) (take 800 cs) ≤ budget_for r

pub layout_reply : (r : Record) (cs : List ℕ) → (layout_of r cs).reply ≡ first (layout_causes r cs)
unfolding layout_of
layout_reply r cs = by_reply _ _ _ _

module _ (r : Record) (cs : List ℕ) where
  pub layout_numbered : T (numbers not_done (layout_causes r cs))
  unfolding layout_causes start_causes norm_causes code_causes
  layout_numbered = tt

  pub layout_none : LaidOut r cs → first (layout_causes r cs) ≡ 0
  unfolding layout_causes
  layout_none L = neither_first _ _ (start_none r (length cs) L.start) (codes_none _ _ _ L.fit L.paid)

  pub laid_out : LaidOut r cs → layout_of r cs ≡ parts_with (budget_for r) (rates_for r) (codes_long (kinds_for r) (take 800 cs))
  unfolding layout_of
  laid_out L = sym (by_yes _ (budget_for r) (rates_for r) _ (layout_none L))

  -- and what it leaves for the tail
  pub layout_left : {p : Parts} → done ≡ first (layout_causes r cs) → p ≡ layout_of r cs
      → p.tail_bits ≡ budget_for r - codes_long (kinds_for r) (take 800 cs)
  unfolding layout_of
  layout_left e ep = ap (λ (p : Parts). p.tail_bits) (ep ∙ sym (by_yes _ (budget_for r) (rates_for r) _ (sym e)))

  pub laid_told : (layout_of r cs).reply ≡ 0 → LaidOut r cs
  unfolding layout_causes code_causes
  laid_told e =
      let b = both_first _ (code_causes (budget_for r) (kinds_for r) (take 800 cs)) (start_numbered r (length cs)) (sym (layout_reply r cs) ∙ e) in
      let q = first_none (code_causes (budget_for r) (kinds_for r) (take 800 cs)) tt b.1 in
      record { start = started r (length cs) b.0; fit = not-false _ (search); paid = omega (arith, ltb-false) }
