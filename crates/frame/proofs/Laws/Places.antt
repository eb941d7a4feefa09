-- The reading of a body by places: what the code finds at each place, and what that makes of the frame.
-- Assumes nothing.
use mathlib.Core.Path.{◌≡◌, refl, sym, ap, ◌∙◌, subst⁻¹}
use mathlib.Core.Bool.{Bool}
use mathlib.Core.List.{List, [], ◌++◌, map}
use Prim.Native.Nat.{ℕ, ◌+◌, ◌-◌, ◌≤◌}
use native.Mathlib.Nat.{zero-add}
use native.Mathlib.Omega.{arith}
use lib.ListN.{length}
use borrow.Author.Tests.{le-leb}
use Rattle.bits.specs.Bits.{val, view}
use Rattle.bits.proofs.Laws.Views.{length_view, view_add, take_view, drop_view, view_rest}
use Rattle.bits.specs.Codings.{got, no, fixed, unword}
use Rattle.bits.proofs.Laws.Codings.{fixed_fine}
use Rattle.bits.specs.Codecs.{Codec, and_then, within, raw, raw_read, words, read_all, write_all}
use Rattle.bits.specs.declared.Refusal.{Refusal}
use Rattle.words.specs.Tables.{coding}
use Rattle.runs.specs.Runs.{run_at}
use Rattle.norms.specs.Part.{norm_part, norm_bits}
use Rattle.norms.proofs.Laws.Codec.{norms_there}
use Rattle.frame.specs.Layout.{is_transient, flag_n, budget_of, kinds_of, code_bits, tail_left, codes_part, ending_part, frame}
use Rattle.kinds.specs.Budget.{noise_bits}

-- ---- parts of codecs at a place

view_none : (s : List ℕ) (p : ℕ) → view s p 0 ≡ []
unfolding view
view_none s p = refl

raw_at : (s : List ℕ) (p n m : ℕ) → n ≤ m → (raw n).read (view s p m) ≡ got (view s p n) (view s (p + n) (m - n))
unfolding raw raw_read
raw_at s p n m h = rw (length_view s p m, le-leb n m h, take_view s p n m h, drop_view s p n m h)

module _ {A : Type 0} (s : List ℕ) (k p end : ℕ) (c : Codec A) (h : p + k ≤ end) where
  within_at : (within k c).read (view s p (end - p)) ≡ and_then (c.read (view s p (end - k - p))) (λ a r. got a (r ++ view s (end - k) k))
  within_at =
      let m : end - p - k ≡ end - k - p = omega arith in
      let e : p + (end - k - p) ≡ end - k = omega arith in
      let d : end - p - (end - k - p) ≡ k = omega arith in
      rw (length_view s p (end - p), m, take_view s p (end - k - p) (end - p) (omega arith), drop_view s p (end - k - p) (end - p) (omega arith), e, d)

  within_no : (x : Refusal) → c.read (view s p (end - k - p)) ≡ no x → (within k c).read (view s p (end - p)) ≡ no x
  within_no x e = within_at ∙ rw e

  within_got : (a : A) (q : ℕ) → q + k ≤ end → c.read (view s p (end - k - p)) ≡ got a (view s q (end - k - q))
      → (within k c).read (view s p (end - p)) ≡ got a (view s q (end - q))
  within_got a q l e =
      let f : q + (end - k - q) ≡ end - k = omega arith in
      let g : end - k - q + k ≡ end - q = omega arith in
      within_at ∙ (rw e)
      ∙ ap (λ (b : List Bool). got a b) (ap (λ (x : ℕ). view s q (end - k - q) ++ view s x k) (sym f) ∙ sym (view_add s q (end - k - q) k) ∙ ap (view s q) g)

-- ---- the frame at the start of a body of `end` bits

module _ (s : List ℕ) (end : ℕ) (four : 4 ≤ end) where
  flags_at : (raw 4).read (view s 0 end) ≡ got (view s 0 4) (view s 4 (end - 4))
  flags_at = raw_at s 0 4 end four ∙ ap (λ (p : ℕ). got (view s 0 4) (view s p (end - 4))) (zero-add 4)

  t : Bool
  t = is_transient (view s 0 4)

  -- the norms are refused
  pub frame_no : (x : Refusal) → (norm_part (is_transient (view s 0 4)) (flag_n (view s 0 4))).read (view s 4 (end - 4)) ≡ no x
      → (frame end).read (view s 0 end) ≡ no x
  unfolding frame
  frame_no x e = rw (flags_at, e)

  module _ (ns : List ℕ) (p : ℕ) (e : (norm_part (is_transient (view s 0 4)) (flag_n (view s 0 4))).read (view s 4 (end - 4)) ≡ got ns (view s p (end - p)))
      (far : 4 ≤ p) (inside : p ≤ end) where
    -- the norm bits end at p
    pub norms_end : 4 + length (norm_bits (is_transient (view s 0 4)) (flag_n (view s 0 4)) ns) ≡ p
    norms_end =
        let w = norms_there (is_transient (view s 0 4)) (flag_n (view s 0 4)) (view s 4 (end - 4)) ns (view s p (end - p)) e in
        let l = (view_rest s 4 (end - 4) (norm_bits (is_transient (view s 0 4)) (flag_n (view s 0 4)) ns) (view s p (end - p)) w.0).1 in
        omega (arith, length_view s p (end - p))

    pub budget_is : end - p - noise_bits (is_transient (view s 0 4)) ≡ budget_of end (view s 0 4) ns
    unfolding budget_of
    budget_is = ap (λ (n : ℕ). end - n - noise_bits (is_transient (view s 0 4))) (sym norms_end)

    -- with k noise_bits bits
    module _ (k : ℕ) (ks : List ℕ) (es : ks ≡ kinds_of end (view s 0 4) ns) (room : p + k ≤ end) where
      codes_at : (codes_part end (view s 0 4) ns).read (view s p (end - k - p)) ≡ run_at s p (end - k) ks
      unfolding codes_part words run_at
      codes_at = ap (λ (l : List ℕ). read_all (map coding l) (view s p (end - k - p))) (sym es)

      rest_not : (x : Refusal) → run_at s p (end - k) ks ≡ no x → (within k (codes_part end (view s 0 4) ns)).read (view s p (end - p)) ≡ no x
      rest_not x g = within_no s k p end (codes_part end (view s 0 4) ns) room x (codes_at ∙ g)

      module _ (vs : List ℕ) (q : ℕ) (g : run_at s p (end - k) ks ≡ got vs (view s q (end - k - q))) (in_end : q + k ≤ end) where
        codes_got : (within k (codes_part end (view s 0 4) ns)).read (view s p (end - p)) ≡ got vs (view s q (end - q))
        codes_got = within_got s k p end (codes_part end (view s 0 4) ns) room vs q in_end (codes_at ∙ g)

        noise_at : unword (fixed k) (view s q (end - q)) ≡ got (val (view s q k)) (view s (q + k) (end - (q + k)))
        noise_at =
            let z : end - q - k ≡ end - (q + k) = omega arith in
            fixed_fine s q k (end - q) (omega arith) ∙ ap (λ (n : ℕ). got (val (view s q k)) (view s (q + k) n)) z

    abbrev K : ℕ
    K = noise_bits (is_transient (view s 0 4))

    module _ (ks : List ℕ) (es : ks ≡ kinds_of end (view s 0 4) ns) (room : p + K ≤ end) where
      not_K : (x : Refusal) → run_at s p (end - K) ks ≡ no x → (frame end).read (view s 0 end) ≡ no x
      unfolding frame
      not_K x g = rw (flags_at, e, rest_not K ks es room x g)

      module _ (vs : List ℕ) (q : ℕ) (g : run_at s p (end - K) ks ≡ got vs (view s q (end - K - q))) (in_end : q + K ≤ end)
          (many : p + length (write_all (map coding ks) vs) ≡ q) where
        tail_is : tail_left end (view s 0 4) ns vs ≡ end - (q + K)
        unfolding tail_left code_bits
        tail_is =
            let z : length (write_all (map coding (kinds_of end (view s 0 4) ns)) vs) ≡ length (write_all (map coding ks) vs) = ap
            (λ (l : List ℕ). length (write_all (map coding l) vs)) (sym es) in
            omega (arith, budget_is)

        tail_at : (raw (tail_left end (view s 0 4) ns vs)).read (view s (q + K) (end - (q + K))) ≡ got (view s (q + K) (end - (q + K))) []
        tail_at =
            let m = end - (q + K) in
            let z : m - m ≡ 0 = omega arith in
            ap (λ (n : ℕ). (raw n).read (view s (q + K) m)) tail_is
            ∙ raw_at s (q + K) m m (omega arith)
            ∙ ap (got (view s (q + K) m)) (ap (view s (q + K + m)) z ∙ view_none s (q + K + m))

        ending_at : (ending_part end (view s 0 4) ns vs).read (view s q (end - q)) ≡ got (val (view s q K), view s (q + K) (end - (q + K))) []
        ending_at = rw (noise_at K ks es room vs q g in_end, tail_at)

        got_K : (frame end).read (view s 0 end) ≡ got (view s 0 4, (ns, (vs, (val (view s q K), view s (q + K) (end - (q + K)))))) []
        unfolding frame
        got_K = rw (flags_at, e, codes_got K ks es room vs q g in_end, ending_at)

    -- the codes are refused
    abbrev Not : ℕ → Type 0
    Not k =
        (ks : List ℕ) → ks ≡ kinds_of end (view s 0 4) ns → p + k ≤ end → (x : Refusal) → run_at s p (end - k) ks ≡ no x → (frame end).read (view s 0 end) ≡ no x

    pub frame_not : (k : ℕ) → k ≡ noise_bits (is_transient (view s 0 4)) → Not k
    frame_not k ek = subst⁻¹ Not ek not_K

    -- the whole frame
    abbrev Got : ℕ → Type 0
    Got k =
        (ks : List ℕ) → ks ≡ kinds_of end (view s 0 4) ns → p + k ≤ end → (vs : List ℕ) (q : ℕ) → run_at s p (end - k) ks ≡ got vs (view s q (end - k - q))
        → q + k ≤ end → p + length (write_all (map coding ks) vs) ≡ q
        → (frame end).read (view s 0 end) ≡ got (view s 0 4, (ns, (vs, (val (view s q k), view s (q + k) (end - (q + k)))))) []

    pub frame_got : (k : ℕ) → k ≡ noise_bits (is_transient (view s 0 4)) → Got k
    frame_got k ek = subst⁻¹ Got ek got_K
