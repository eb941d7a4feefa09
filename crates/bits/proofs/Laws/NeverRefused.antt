-- Readings that cannot be refused. A coding is sure of n bits if whatever n bits begin with one of its words, and the word has no more than n bits:
-- fixed codes are, and so is each table whose words leave no bits without a word.
-- Assumes nothing.
use mathlib.Core.Path.{◌≡◌, refl, sym, ap, ◌∙◌}
use mathlib.Core.Bool.{Bool, true, false, ◌&&◌}
use mathlib.Core.List.{List, [], ◌∷◌, ◌++◌, append_assoc, map}
use Prim.Native.Nat.{ℕ, zero, suc, ◌+◌, ◌-◌, ◌≤◌}
use native.Mathlib.Omega.{arith}
use lib.Dec.{T}
use lib.ListN.{length, take, drop, length-append, length-drop, take-append-drop}
use lib.Seq.{length-take-le}
use borrow.Author.Tests.{le-leb}
use Rattle.ground.proofs.Laws.Cases.{and_T}
use Rattle.ground.proofs.Laws.Sums.{sum_of}
use Rattle.bits.specs.Bits.{word, val}
use Rattle.bits.proofs.Laws.NumbersAsBits.{length_word}
use Rattle.bits.specs.Codings.{Coding, fixed, Answer, got, no, unword, word_of}
use Rattle.bits.proofs.Laws.Codings.{Good, unword_word, word_unword}
use Rattle.bits.specs.Codecs.{Codec, and_then, read_all, write_all, after, pair, within, glue, raw, raw_read}
use Rattle.bits.specs.declared.Refusal.{Refusal}
use Rattle.bits.specs.declared.Refusal.TheVariants.{Outside}

-- ---- one coding

abbrev pub NeverRefused : ℕ → Coding → Type 0
NeverRefused n c = (b : List Bool) → n ≤ length b → (v : ℕ) × (r : List Bool) × (unword c b ≡ got v r) × (length b ≤ n + length r)

pub fixed_never_refused : (n : ℕ) → NeverRefused n (fixed n)
unfolding unword
fixed_never_refused n b h = (val (take n b), drop n b, rw (le-leb n (length b) h), omega (arith, length-drop n b))

-- a test that is computed: it passes for whatever n bits
unfoldable pub any_bits : ℕ → (List Bool → Bool) → Bool
any_bits zero f = f []
any_bits (suc n) f = any_bits n (λ w. f (false ∷ w)) && any_bits n (λ w. f (true ∷ w))

pub any_at : (n : ℕ) (f : List Bool → Bool) (w : List Bool) → length w ≡ n → T (any_bits n f) → T (f w)
unfolding any_bits
any_at zero f [] l t = t
any_at zero f (x ∷ w) l t = absurd (omega arith)
any_at (suc n) f [] l t = absurd (omega arith)
any_at (suc n) f (false ∷ w) l t = any_at n (λ u. f (false ∷ u)) w (omega arith) (and_T (any_bits n (λ u. f (false ∷ u))) (any_bits n (λ u. f (true ∷ u))) t).0
any_at (suc n) f (true ∷ w) l t = any_at n (λ u. f (true ∷ u)) w (omega arith) (and_T (any_bits n (λ u. f (false ∷ u))) (any_bits n (λ u. f (true ∷ u))) t).1

abbrev pub found : Answer ℕ → Bool
found (got v r) = true
found (no x) = false

found_got : (a : Answer ℕ) → T (found a) → (v : ℕ) × (r : List Bool) × (a ≡ got v r)
found_got (got v r) t = (v, r, refl)
found_got (no x) t = absurd t

-- bits after a word that was read change nothing
pub unword_more : (c : Coding) (b : List Bool) (v : ℕ) (r z : List Bool) → Good c → unword c b ≡ got v r → unword c (b ++ z) ≡ got v (r ++ z)
unword_more c b v r z g e =
    let w = word_unword c b v r e in
    ap (unword c) (ap (λ (l : List Bool). l ++ z) w.0 ∙ append_assoc (word_of c v) r z) ∙ unword_word c v (r ++ z) g w.1

pub never_refused_tested : (n : ℕ) (c : Coding) → Good c → T (any_bits n (λ w. found (unword c w))) → NeverRefused n c
never_refused_tested n c g t b h =
    let w = take n b in
    let z = drop n b in
    let (v, r, e) = found_got (unword c w) (any_at n (λ u. found (unword c u)) w (length-take-le n b h) t) in
    (v, r ++ z, ap (unword c) (sym (take-append-drop n b)) ∙ unword_more c w v r z g e, omega (arith, length-append r z, length-drop n b))

-- ---- words of several codings

abbrev pub NeverRefusedAll : List ℕ → List Coding → Type 0
NeverRefusedAll [] [] = Unit {0}
NeverRefusedAll [] (c ∷ cs) = ⊥
NeverRefusedAll (n ∷ ns) [] = ⊥
NeverRefusedAll (n ∷ ns) (c ∷ cs) = NeverRefused n c × NeverRefusedAll ns cs

pub read_never_refused : (ns : List ℕ) (cs : List Coding) → NeverRefusedAll ns cs → (b : List Bool) → sum_of ns ≤ length b
    → (vs : List ℕ) × (r : List Bool) × (read_all cs b ≡ got vs r)
unfolding read_all sum_of
read_never_refused [] [] s b h = ([], b, refl)
read_never_refused [] (c ∷ cs) s b h = absurd s
read_never_refused (n ∷ ns) [] s b h = absurd s
read_never_refused (n ∷ ns) (c ∷ cs) s b h =
    let (v, r, e, l) = s.0 b (omega arith) in
    let (vs, q, f) = read_never_refused ns cs s.1 r (omega arith) in
    (v ∷ vs, q, rw (e, f))

pub all_fixed : (ns : List ℕ) → NeverRefusedAll ns (map fixed ns)
all_fixed [] = tt
all_fixed (n ∷ ns) = (fixed_never_refused n, all_fixed ns)

-- fixed codes have the bits of their widths, whatever the numbers
pub fixed_bits : (ns vs : List ℕ) → length vs ≡ length ns → length (write_all (map fixed ns) vs) ≡ sum_of ns
unfolding write_all word_of sum_of
fixed_bits [] vs l = refl
fixed_bits (n ∷ ns) [] l = absurd (omega arith)
fixed_bits (n ∷ ns) (v ∷ vs) l = omega (arith, length-append (word n v) (write_all (map fixed ns) vs), length_word n v, fixed_bits ns vs (omega arith))

-- ---- answers that are refused for a norm outside 0 to 39 alone

abbrev pub NormAlone : {A : Type 0} → Answer A → Type 0
NormAlone a = (x : Refusal) → a ≡ no x → x ≡ Outside

pub got_alone : {A : Type 0} (a : A) (r : List Bool) → NormAlone (got a r)
got_alone a r x e = absurd (let z : ◌≡◌ {A = ℕ} 0 1 = cc in omega arith)

pub then_alone : {A B : Type 0} (m : Answer A) (f : A → List Bool → Answer B) → NormAlone m → ((a : A) (r : List Bool) → m ≡ got a r → NormAlone (f a r))
    → NormAlone (and_then m f)
then_alone (got a r) f h k x e = k a r refl x e
then_alone (no y) f h k x e = let q : y ≡ x = cc in sym q ∙ h y refl

-- a reading that is not refused
pub sound_alone : {A : Type 0} (m : Answer A) (a : A) (r : List Bool) → m ≡ got a r → NormAlone m
sound_alone m a r g x e = got_alone a r x (sym g ∙ e)

pub coded_alone : (n : ℕ) (c : Coding) → NeverRefused n c → (b : List Bool) → n ≤ length b → NormAlone (unword c b)
coded_alone n c s b h = let (v, r, e, l) = s b h in sound_alone (unword c b) v r e

pub raw_alone : (n : ℕ) (b : List Bool) → n ≤ length b → NormAlone ((raw n).read b)
unfolding raw raw_read
raw_alone n b h = sound_alone ((raw n).read b) (take n b) (drop n b) (rw (le-leb n (length b) h))

pub pair_alone : {A B : Type 0} (c : Codec A) (d : A → Codec B) (b : List Bool) → NormAlone (c.read b)
    → ((a : A) (r : List Bool) → c.read b ≡ got a r → NormAlone ((d a).read r)) → NormAlone ((pair c d).read b)
pair_alone c d b h g =
    then_alone (c.read b) (after d) h (λ a r e. then_alone ((d a).read r) (λ y q. got (a, y) q) (g a r e) (λ y q f. got_alone (a, y) q))

pub within_alone : {A : Type 0} (k : ℕ) (c : Codec A) (b : List Bool) → NormAlone (c.read (take (length b - k) b)) → NormAlone ((within k c).read b)
within_alone k c b h =
    let z = drop (length b - k) b in
    then_alone (c.read (take (length b - k) b)) (glue z) h (λ a r e. got_alone a (r ++ z))
