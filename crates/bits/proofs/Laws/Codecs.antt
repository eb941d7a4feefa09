-- The two laws of a codec, and that each way of joining codecs keeps them.
-- Assumes nothing.
use mathlib.Core.Path.{◌≡◌, refl, sym, ap, ap₂, ◌∙◌, subst}
use mathlib.Core.Bool.{Bool, true, false}
use mathlib.Core.List.{List, [], ◌∷◌, ◌++◌, append_assoc}
use Prim.Native.Nat.{ℕ, suc, ◌+◌, ◌-◌, ◌≤◌, zero-le}
use native.Mathlib.Omega.{arith}
use lib.Dec.{leb}
use lib.ListN.{length, take, drop, length-append, take-append-drop}
use lib.Seq.{take_at, drop_at, length-take-le, take-append-add, drop-append-add}
use borrow.Author.Tests.{le-leb, leb-true}
use Rattle.bits.specs.Codings.{Coding, Answer, got, no, unword, word_of}
use Rattle.bits.proofs.Laws.Codings.{Good, unword_word, word_unword}
use Rattle.bits.specs.Codecs.{Codec, and_then, coded, write_all, read_all, FitAll, words, after, pair, raw_got, raw_read, raw, glue, within}
use Rattle.bits.specs.Codecs.{Verdict, fine, bad, settle, checked}

-- `spare`: how many bits must stand after a value that is read. back: read after write. there: write after read
pub record Lawful (spare : ℕ) {A : Type 0} (c : Codec A) : Type 0 where
  pub back : (a : A) (r : List Bool) → c.Ok a → spare ≤ length r → c.read (c.write a ++ r) ≡ got a r
  pub there : (b : List Bool) (a : A) (r : List Bool) → c.read b ≡ got a r → (b ≡ c.write a ++ r) × c.Ok a

-- a second reading that came to its end tells what the first one gave
pub and_then_got : {A B : Type 0} (m : Answer A) (f : A → List Bool → Answer B) (y : B) (q : List Bool) → and_then m f ≡ got y q
    → (a : A) × (r : List Bool) × (m ≡ got a r) × (f a r ≡ got y q)
and_then_got (got a r) f y q e = (a, r, refl, e)
and_then_got (no x) f y q e = absurd (let z : ◌≡◌ {A = ℕ} 0 1 = cc in omega arith)

-- ---- the word of one coding

pub coded_lawful : (c : Coding) → Good c → Lawful 0 (coded c)
coded_lawful c g = record { back = λ v r f l. unword_word c v r g f; there = word_unword c }

-- ---- words of several codings

abbrev pub GoodAll : List Coding → Type 0
GoodAll [] = Unit {0}
GoodAll (c ∷ cs) = Good c × GoodAll cs

pub read_written : (cs : List Coding) (vs : List ℕ) (r : List Bool) → GoodAll cs → FitAll cs vs → read_all cs (write_all cs vs ++ r) ≡ got vs r
unfolding read_all write_all
read_written [] [] r g f = refl
read_written [] (v ∷ vs) r g f = absurd f
read_written (c ∷ cs) [] r g f = absurd f
read_written (c ∷ cs) (v ∷ vs) r g f =
    rw (append_assoc (word_of c v) (write_all cs vs) r, unword_word c v (write_all cs vs ++ r) g.0 f.0, read_written cs vs r g.1 f.1)

pub written_read : (cs : List Coding) (b : List Bool) (vs : List ℕ) (r : List Bool) → read_all cs b ≡ got vs r → (b ≡ write_all cs vs ++ r) × FitAll cs vs
unfolding read_all write_all
written_read [] b vs r e =
    let ev : ◌≡◌ {A = List ℕ} [] vs = cc in
    let er : b ≡ r = cc in
    (er, subst (λ (l : List ℕ). FitAll [] l) ev tt)
written_read (c ∷ cs) b vs r e =
    let (v, r₁, e₁, e₂) = and_then_got (unword c b) (λ v r. and_then (read_all cs r) (λ vs q. got (v ∷ vs) q)) vs r e in
    let (ws, q, e₃, e₄) = and_then_got (read_all cs r₁) (λ vs q. got (v ∷ vs) q) vs r e₂ in
    let one = word_unword c b v r₁ e₁ in
    let more = written_read cs r₁ ws q e₃ in
    let ev : v ∷ ws ≡ vs = cc in
    let er : q ≡ r = cc in (
      subst (λ (l : List ℕ). b ≡ write_all (c ∷ cs) l ++ r) ev
          (one.0 ∙ ap (λ (l : List Bool). word_of c v ++ l) (more.0 ∙ ap (λ (l : List Bool). write_all cs ws ++ l) er)
          ∙ sym (append_assoc (word_of c v) (write_all cs ws) r)),
      subst (λ (l : List ℕ). FitAll (c ∷ cs) l) ev (one.1, more.1),
    )

-- as many numbers as codings
pub fit_length : (cs : List Coding) (vs : List ℕ) → FitAll cs vs → length vs ≡ length cs
fit_length [] [] f = refl
fit_length [] (v ∷ vs) f = absurd f
fit_length (c ∷ cs) [] f = absurd f
fit_length (c ∷ cs) (v ∷ vs) f = ap suc (fit_length cs vs f.1)

pub words_lawful : (cs : List Coding) → GoodAll cs → Lawful 0 (words cs)
unfolding words
words_lawful cs g = record { back = λ vs r f l. read_written cs vs r g f; there = written_read cs }

-- ---- one codec after another: what is written after the first is long enough for it

module _ {A B : Type 0} {k : ℕ} {c : Codec A} {d : A → Codec B} (C : Lawful k c) (D : (a : A) → Lawful 0 (d a))
    (long : (a : A) (b : B) → (d a).Ok b → k ≤ length ((d a).write b)) where
  pair_back : (p : A × B) (r : List Bool) → (pair c d).Ok p → (pair c d).read ((pair c d).write p ++ r) ≡ got p r
  pair_back p r f =
      let w = (d p.0).write p.1 in
      let room : k ≤ length (w ++ r) = omega (arith, length-append w r, long p.0 p.1 f.1) in
      rw (append_assoc (c.write p.0) w r, C.back p.0 (w ++ r) f.0 room, (D p.0).back p.1 r f.1 zero-le)

  pair_there : (b : List Bool) (p : A × B) (r : List Bool) → (pair c d).read b ≡ got p r → (b ≡ (pair c d).write p ++ r) × (pair c d).Ok p
  pair_there b p r e =
      let (x, r₁, e₁, e₂) = and_then_got (c.read b) (after d) p r e in
      let (y, q, e₃, e₄) = and_then_got ((d x).read r₁) (λ b q. got (x, b) q) p r e₂ in
      let one = C.there b x r₁ e₁ in
      let more = (D x).there r₁ y q e₃ in
      let ep : ◌≡◌ {A = A × B} (x, y) p = cc in
      let er : q ≡ r = cc in
      subst (λ (z : A × B). (b ≡ (pair c d).write z ++ r) × (pair c d).Ok z) ep (
        one.0 ∙ ap (λ (l : List Bool). c.write x ++ l) (more.0 ∙ ap (λ (l : List Bool). (d x).write y ++ l) er)
            ∙ sym (append_assoc (c.write x) ((d x).write y) r),
        (one.1, more.1),
      )

  pub pair_lawful : Lawful 0 (pair c d)
  pair_lawful = record { back = λ p r f l. pair_back p r f; there = pair_there }

-- ---- n bits as they are

module _ (n : ℕ) where
  raw_back : (a r : List Bool) → length a ≡ n → raw_read n (a ++ r) ≡ got a r
  unfolding raw_read
  raw_back a r h =
      rw (le-leb n (length (a ++ r)) (omega (arith, length-append a r)), take_at a r n h, drop_at a r n h)

  raw_there : (b a r : List Bool) (t : Bool) → leb n (length b) ≡ t → raw_got t n b ≡ got a r → (b ≡ a ++ r) × (length a ≡ n)
  raw_there b a r true l e =
      let ea : take n b ≡ a = cc in
      let er : drop n b ≡ r = cc in
      (rw (← ea, ← er) (sym (take-append-drop n b)), rw (← ea) (length-take-le n b (leb-true n (length b) l)))
  raw_there b a r false l e = absurd (let z : ◌≡◌ {A = ℕ} 0 1 = cc in omega arith)

  pub raw_lawful : Lawful 0 (raw n)
  unfolding raw raw_read
  raw_lawful = record { back = λ a r f l. raw_back a r f; there = λ b a r e. raw_there b a r (leb n (length b)) refl e }

-- ---- the last k bits untouched

module _ {A : Type 0} (k : ℕ) {c : Codec A} (C : Lawful 0 c) where
  within_back : (a : A) (r : List Bool) → c.Ok a → k ≤ length r → (within k c).read (c.write a ++ r) ≡ got a r
  within_back a r f h =
      let w = c.write a in
      let e : length (w ++ r) - k ≡ length w + (length r - k) = omega (arith, length-append w r) in
      rw (
        e,
        take-append-add w r (length r - k),
        drop-append-add w r (length r - k),
        C.back a (take (length r - k) r) f zero-le,
        take-append-drop (length r - k) r,
      )

  within_there : (b : List Bool) (a : A) (r : List Bool) → (within k c).read b ≡ got a r → (b ≡ c.write a ++ r) × c.Ok a
  within_there b a r e =
      let m = length b - k in
      let (x, q, e₁, e₂) = and_then_got (c.read (take m b)) (glue (drop m b)) a r e in
      let one = C.there (take m b) x q e₁ in
      let ea : x ≡ a = cc in
      let er : q ++ drop m b ≡ r = cc in (
        sym (take-append-drop m b) ∙ ap (λ (l : List Bool). l ++ drop m b) one.0 ∙ append_assoc (c.write x) q (drop m b)
            ∙ ap₂ (λ (y : A) (l : List Bool). c.write y ++ l) ea er,
        subst (λ (y : A). c.Ok y) ea one.1,
      )

  pub within_lawful : Lawful k (within k c)
  within_lawful = record { back = within_back; there = within_there }

-- ---- the value in another form: what is read and passes comes of it, and what may be written passes

module _ {A B : Type 0} {k : ℕ} {c : Codec A} {to : A → Verdict B} {from : B → A} {Okay : B → Type 0} (C : Lawful k c)
    (sound : (a : A) (b : B) → c.Ok a → to a ≡ fine b → (from b ≡ a) × Okay b)
    (whole : (b : B) → Okay b → (to (from b) ≡ fine b) × c.Ok (from b)) where
  settle_got : (z : Verdict B) (r q : List Bool) (b : B) → settle z r ≡ got b q → (z ≡ fine b) × (r ≡ q)
  settle_got (fine x) r q b e = (let h : x ≡ b = cc in ap fine h, (cc))
  settle_got (bad x) r q b e = absurd (let z : ◌≡◌ {A = ℕ} 0 1 = cc in omega arith)

  checked_there : (l : List Bool) (b : B) (r : List Bool) → (checked c to from Okay).read l ≡ got b r → (l ≡ c.write (from b) ++ r) × Okay b
  checked_there l b r e =
      let (x, q, e₁, e₂) = and_then_got (c.read l) (λ a q. settle (to a) q) b r e in
      let one = C.there l x q e₁ in
      let two = settle_got (to x) q r b e₂ in
      let s = sound x b one.1 two.0 in
      (one.0 ∙ ap₂ (λ (y : A) (l : List Bool). c.write y ++ l) (sym s.0) two.1, s.1)

  pub checked_lawful : Lawful k (checked c to from Okay)
  checked_lawful = record { back = λ b r f l. rw (C.back (from b) r (whole b f).1 l, (whole b f).0); there = checked_there }
