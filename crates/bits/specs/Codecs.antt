-- A codec: how a value is written as bits and read off the front of bits, and which values are written. Codecs are joined: one after
-- another, where the second may depend on what the first read; a list of codings; bits as they are; a codec that must leave some bits
-- untouched; a checked change of form.
-- Assumes nothing.
use Rattle.std.specs.Prelude.{◌≡◌, Bool, true, false, List, [], ◌∷◌, ◌++◌, ℕ, ◌-◌, leb, length, take, drop}
use Rattle.bits.specs.Codings.{Coding, Answer, got, no, unword, word_of, Fit}
use Rattle.bits.specs.declared.Refusal.{Refusal}
use Rattle.bits.specs.declared.Refusal.TheVariants.{Past}

pub record Codec (A : Type 0) : Type 1 where
  pub write : A → List Bool
  pub read : List Bool → Answer A
  pub Ok : A → Type 0

-- what is read next, unless the first reading was refused
abbrev pub and_then : {A B : Type 0} → Answer A → (A → List Bool → Answer B) → Answer B
and_then (got a r) f = f a r
and_then (no x) f = no x

-- ---- the word of one coding

abbrev pub coded : Coding → Codec ℕ
coded c = record { write = word_of c; read = unword c; Ok = Fit c }

-- ---- words of several codings, one after the other

unfoldable pub write_all : List Coding → List ℕ → List Bool
write_all [] vs = []
write_all (c ∷ cs) [] = []
write_all (c ∷ cs) (v ∷ vs) = word_of c v ++ write_all cs vs

unfoldable pub read_all : List Coding → List Bool → Answer (List ℕ)
read_all [] b = got [] b
read_all (c ∷ cs) b = and_then (unword c b) (λ v r. and_then (read_all cs r) (λ vs q. got (v ∷ vs) q))

abbrev pub FitAll : List Coding → List ℕ → Type 0
FitAll [] [] = Unit {0}
FitAll [] (v ∷ vs) = ⊥
FitAll (c ∷ cs) [] = ⊥
FitAll (c ∷ cs) (v ∷ vs) = Fit c v × FitAll cs vs

unfoldable pub words : List Coding → Codec (List ℕ)
words cs = record { write = write_all cs; read = read_all cs; Ok = FitAll cs }

-- ---- one codec after another, which may depend on the first one's value

abbrev pub after : {A B : Type 0} → (A → Codec B) → A → List Bool → Answer (A × B)
after d a r = and_then ((d a).read r) (λ b q. got (a, b) q)

abbrev pub pair : {A B : Type 0} → Codec A → (A → Codec B) → Codec (A × B)
pair c d =
    record {
      write = λ p. c.write p.0 ++ (d p.0).write p.1;
      read = λ b. and_then (c.read b) (after d);
      Ok = λ p. c.Ok p.0 × (d p.0).Ok p.1;
    }

-- ---- n bits as they are

abbrev pub raw_got : Bool → ℕ → List Bool → Answer (List Bool)
raw_got true n b = got (take n b) (drop n b)
raw_got false n b = no Past

unfoldable pub raw_read : ℕ → List Bool → Answer (List Bool)
raw_read n b = raw_got (leb n (length b)) n b

unfoldable pub raw : ℕ → Codec (List Bool)
raw n = record { write = λ a. a; read = raw_read n; Ok = λ a. length a ≡ n }

-- ---- the same codec, which must leave the last k bits untouched

abbrev pub glue : {A : Type 0} → List Bool → A → List Bool → Answer A
glue z a r = got a (r ++ z)

abbrev pub within : {A : Type 0} → ℕ → Codec A → Codec A
within k c =
    record {
      write = c.write;
      read = λ b. and_then (c.read (take (length b - k) b)) (glue (drop (length b - k) b));
      Ok = c.Ok;
    }

-- ---- the value in another form, where the reading may be refused

pub data Verdict (B : Type 0) : Type 0 where
  fine : B → Verdict B
  bad : Refusal → Verdict B

abbrev pub settle : {B : Type 0} → Verdict B → List Bool → Answer B
settle (fine b) r = got b r
settle (bad x) r = no x

abbrev pub checked : {A B : Type 0} → Codec A → (A → Verdict B) → (B → A) → (B → Type 0) → Codec B
checked c to from Okay = record { write = λ b. c.write (from b); read = λ l. and_then (c.read l) (λ a q. settle (to a) q); Ok = Okay }
