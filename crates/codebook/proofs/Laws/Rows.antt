-- The rows that the code keeps, packed, are the repaired Table 18; what their codes tell of them.
-- Assumes nothing.
use mathlib.Core.Path.{◌≡◌, refl, sym, ap, ◌∙◌}
use mathlib.Core.Bool.{Bool, true, false, cond, ◌&&◌}
use mathlib.Core.List.{List, [], ◌∷◌, ◌++◌, map}
use Prim.Native.Nat.{ℕ, zero, suc, ◌+◌, ◌*◌, ◌-◌, ◌/◌, ◌%◌, ◌<◌, ◌≤◌}
use lib.Dec.{T, eqb, ltb, leb, eqb→eq, ltb→lt, leb→le}
use lib.ListN.{length, get_or}
use native.Mathlib.Nat.{add-zero, zero-add, add-suc, suc-add, le_of_suc-le-suc, not-suc-le-zero}
use native.Mathlib.Omega.{arith}
use borrow.Author.Tests.{eq-eqb, ne_eqb}
use lib.Count.{ones, ones_in}
use lib.IntN.{ℤ}
use Rattle.ground.specs.Sums.{sum_to}
use Rattle.ground.specs.ListsByRule.{from, table}
use Rattle.ground.proofs.Laws.ListsByRule.{length_from}
use Rattle.ground.proofs.Laws.Cases.{and_true}
use Rattle.ground.proofs.Laws.Cases.{and_T}
use Rattle.ground.proofs.Laws.PrintedTables.{every, every_at}
use Rattle.points.specs.Answers.{eq_z}
use Rattle.points.proofs.Laws.Points.{eq_z_eq, eq_z_refl}
use Rattle.codebook.specs.Table18.{printed}
use Rattle.codebook.specs.Codebook.{book, row, eq_row}
use Rattle.codebook.specs.Packed.{code, entry, sign_class}
use Rattle.codebook.specs.Inner.{digit}
use Rattle.codebook.specs.Rows.{twos, signs}

-- a byte of signs as a code: a place that is not below 0 is above
abbrev pub signed : ℕ → ℕ
signed s = (255 - s) * 256 + s

unfoldable pub codes : List ℕ
codes = twos ++ map signed signs

-- the row that a code stands for
abbrev pub unpack : Bool → ℕ → List ℤ
unpack t c = table 8 (λ (i : ℕ). entry t (digit (c / 256) i) (digit (c % 256) i))

-- the rows of these codes, the first of which is row n
unfoldable pub rows_from : ℕ → List ℕ → List (List ℤ)
rows_from n [] = []
rows_from n (c ∷ cs) = unpack (ltb n 128) c ∷ rows_from (suc n) cs

-- ---- equal rows

pub eq_row_eq : (v w : List ℤ) → eq_row v w ≡ true → v ≡ w
eq_row_eq [] [] e = refl
eq_row_eq [] (w ∷ ws) e = cc
eq_row_eq (v ∷ vs) [] e = cc
eq_row_eq (v ∷ vs) (w ∷ ws) e = let b = and_true (eq_z v w) (eq_row vs ws) e in rw (eq_z_eq v w b.0, eq_row_eq vs ws b.1)

pub eq_row_refl : (v : List ℤ) → eq_row v v ≡ true
eq_row_refl [] = refl
eq_row_refl (z ∷ v) = rw (eq_z_refl z) (eq_row_refl v)

-- ---- the rows are the book's

same_rows : List (List ℤ) → List (List ℤ) → Bool
same_rows [] [] = true
same_rows [] (w ∷ ws) = false
same_rows (v ∷ vs) [] = false
same_rows (v ∷ vs) (w ∷ ws) = eq_row v w && same_rows vs ws

same_rows_eq : (vs ws : List (List ℤ)) → same_rows vs ws ≡ true → vs ≡ ws
unfolding same_rows
same_rows_eq [] [] e = refl
same_rows_eq [] (w ∷ ws) e = cc
same_rows_eq (v ∷ vs) [] e = cc
same_rows_eq (v ∷ vs) (w ∷ ws) e = let b = and_true (eq_row v w) (same_rows vs ws) e in rw (eq_row_eq v w b.0, same_rows_eq vs ws b.1)

same : same_rows book (rows_from 0 codes) ≡ true
unfolding same_rows rows_from codes twos signs book printed from
same = refl

-- the rows that the code keeps are exactly what 01's rule makes of the print
pub book_rows : book ≡ rows_from 0 codes
book_rows = same_rows_eq book (rows_from 0 codes) same

-- ---- what the computed tests say of a row

get_d_rows : (n : ℕ) (cs : List ℕ) (k : ℕ) → k < length cs → get_or (rows_from n cs) k [] ≡ unpack (ltb (n + k) 128) (get_or cs k 0)
unfolding rows_from
get_d_rows n [] k l = absurd (not-suc-le-zero l)
get_d_rows n (c ∷ cs) zero l = ap (λ (m : ℕ). unpack (ltb m 128) c) (sym (add-zero n))
get_d_rows n (c ∷ cs) (suc k) l =
    get_d_rows (suc n) cs k (le_of_suc-le-suc l) ∙ ap (λ (m : ℕ). unpack (ltb m 128) (get_or cs k 0)) (suc-add n k ∙ sym (add-suc n k))

long : length codes ≡ 256
unfolding codes twos signs
long = refl

rows_long : (n : ℕ) (cs : List ℕ) → length (rows_from n cs) ≡ length cs
unfolding rows_from
rows_long n [] = refl
rows_long n (c ∷ cs) = ap suc (rows_long (suc n) cs)

pub book_long : length book ≡ 256
book_long = ap length book_rows ∙ rows_long 0 codes ∙ long

pub row_unpacked : (n : ℕ) → n < 256 → row n ≡ unpack (ltb n 128) (get_or codes n 0)
unfolding row
row_unpacked n l =
    ap (λ (b : List (List ℤ)). get_or b n []) book_rows ∙ get_d_rows 0 codes n (omega (arith, long))
    ∙ ap (λ (m : ℕ). unpack (ltb m 128) (get_or codes n 0)) (zero-add n)

pub row_long : (n : ℕ) → n < 256 → length (row n) ≡ 8
row_long n l = rw (row_unpacked n l) (length_from _ 8 0)

-- a code is the code of the row that it stands for
packs : ℕ → ℕ → Bool
packs n c = eqb (code (unpack (ltb n 128) c)) c

all_pack : T (every packs 0 codes)
unfolding packs codes twos signs code from sum_to
all_pack = tt

pub row_code : (n : ℕ) → n < 256 → code (row n) ≡ get_or codes n 0
unfolding packs
row_code n l =
    rw (row_unpacked n l) (eqb→eq (code (unpack (ltb n 128) (get_or codes n 0))) (get_or codes n 0) (every_at packs codes 0 all_pack n (omega (arith, long))))

-- the first place of c
first_of : ℕ → List ℕ → ℕ
first_of c [] = 0
first_of c (d ∷ ds) = cond (eqb c d) 0 (suc (first_of c ds))

apart : ℕ → ℕ → Bool
apart n c = eqb (first_of c codes) n

all_apart : T (every apart 0 codes)
unfolding apart first_of codes twos signs
all_apart = tt

-- no two rows have one code
pub code_apart : (m n : ℕ) → m < 256 → n < 256 → code (row m) ≡ code (row n) → m ≡ n
unfolding apart
code_apart m n l h e =
    let p = eqb→eq (first_of (get_or codes m 0) codes) m (every_at apart codes 0 all_apart m (omega (arith, long))) in
    let q = eqb→eq (first_of (get_or codes n 0) codes) n (every_at apart codes 0 all_apart n (omega (arith, long))) in
    sym p ∙ ap (λ (c : ℕ). first_of c codes) (sym (row_code m l) ∙ e ∙ row_code n h) ∙ q

-- a row of ±1 is in the class that the ones of its byte tell; any other is in the first half
spot : ℕ → ℕ → Bool
spot n c =
    cond (eqb (c / 256 + c % 256) 255) (leb (sign_class (ones (c % 256))).from n && ltb n (sign_class (ones (c % 256))).to) (ltb n 128)

all_spot : T (every spot 0 codes)
unfolding spot codes twos signs sign_class ones ones_in
all_spot = tt

spotted : (n : ℕ) → n < 256 → T (spot n (code (row n)))
spotted n l = rw (row_code n l) (every_at spot codes 0 all_spot n (omega (arith, long)))

module _ (n : ℕ) (l : n < 256) where
  abbrev byte : ℕ
  byte = code (row n) % 256

  pub in_class : code (row n) / 256 + byte ≡ 255 → ((sign_class (ones byte)).from ≤ n) × (n < (sign_class (ones byte)).to)
  unfolding spot
  in_class e =
      let c = sign_class (ones (code (row n) % 256)) in
      let b = and_T (leb c.from n) (ltb n c.to) (rw (eq-eqb (code (row n) / 256 + code (row n) % 256) 255 e) at (spotted n l)) in
      (leb→le c.from n b.0, ltb→lt n c.to b.1)

  pub in_half : (code (row n) / 256 + byte ≡ 255 → ⊥) → n < 128
  unfolding spot
  in_half e = ltb→lt n 128 (rw (ne_eqb (code (row n) / 256 + code (row n) % 256) 255 e) at (spotted n l))

-- ---- the two tables

two_there : ℕ → ℕ → Bool
two_there k c = eqb (get_or codes k 0) c && ltb c 65536

all_twos : T (every two_there 0 twos)
unfolding two_there codes twos signs
all_twos = tt

pub two_code : (n : ℕ) → n < 128 → (get_or codes n 0 ≡ get_or twos n 0) × (get_or twos n 0 < 65536)
unfolding two_there twos
two_code n l =
    let b = and_T (eqb (get_or codes n 0) (get_or twos n 0)) (ltb (get_or twos n 0) 65536) (every_at two_there twos 0 all_twos n l) in
    (eqb→eq (get_or codes n 0) (get_or twos n 0) b.0, ltb→lt (get_or twos n 0) 65536 b.1)

sign_there : ℕ → ℕ → Bool
sign_there k s = eqb (get_or codes (128 + k) 0) (signed s) && ltb s 256

all_signs : T (every sign_there 0 signs)
unfolding sign_there codes twos signs
all_signs = tt

pub sign_code : (n : ℕ) → n < 128 → (get_or codes (128 + n) 0 ≡ signed (get_or signs n 0)) × (get_or signs n 0 < 256)
unfolding sign_there signs
sign_code n l =
    let s = get_or signs n 0 in
    let b = and_T (eqb (get_or codes (128 + n) 0) (signed s)) (ltb s 256) (every_at sign_there signs 0 all_signs n l) in
    (eqb→eq (get_or codes (128 + n) 0) (signed s) b.0, ltb→lt s 256 b.1)

-- ---- what the code reads and makes

pub code_two : {n m c : ℕ} {low : List ℕ} → low ≡ twos → n < 128 → m ≡ n → c ≡ get_or low m 0 → (c ≡ code (row n)) × (c < 65536)
code_two {n} {m} {c} {low} p l g e =
    let q = two_code n l in
    let r : c ≡ get_or twos n 0 = e ∙ ap (λ (k : ℕ). get_or low k 0) g ∙ ap (λ (l : List ℕ). get_or l n 0) p in
    (r ∙ sym q.0 ∙ sym (row_code n (omega arith)), omega (arith, q.1))

pub code_sign : {n m s : ℕ} {high : List ℕ} → high ≡ signs → 128 ≤ n → n < 256 → m ≡ n - 128 → s ≡ get_or high m 0
    → ((255 - s) * 256 + s ≡ code (row n)) × ((255 - s) * 256 + s < 65536)
code_sign {n} {m} {s} p l h g e =
    let q = sign_code m (omega arith) in
    let r : s ≡ get_or signs m 0 = e ∙ ap (λ (l : List ℕ). get_or l m 0) p in
    let a : 128 + m ≡ n = omega arith in
    (ap signed r ∙ sym q.0 ∙ ap (λ (k : ℕ). get_or codes k 0) a ∙ sym (row_code n h), omega (arith, q.1))

pub row_made : {n c : ℕ} {v : List ℤ} → n < 256 → c ≡ code (row n) → v ≡ unpack (ltb n 128) c → v ≡ row n
row_made {n} l e q = q ∙ ap (unpack (ltb n 128)) (e ∙ row_code n l) ∙ sym (row_unpacked n l)
