-- Whole numbers by the two naturals whose difference they are: sums, differences, halves, remainders; signed numbers raised to naturals.
-- Assumes nothing.
use mathlib.Core.Path.{◌≡◌, refl, sym, ap, ◌∙◌}
use mathlib.Core.Bool.{Bool, true, false, cond}
use Prim.Native.Nat.{ℕ, zero, suc, ◌+◌, ◌*◌, ◌-◌, ◌/◌, ◌%◌, ◌<◌, ◌≤◌}
use native.Mathlib.Nat.{add-mul-mod_self_left, mod-eq_of_lt, mod-lt, div-add-mod}
use native.Mathlib.Omega.{arith}
use borrow.Author.Tests.{ltb-true, ltb-false}
use lib.Dec.{ltb}
use lib.IntN.{ℤ, pos, negsuc, nat_abs, neg_ℤ, sub_ℕ, ◌+ℤ◌, ◌-ℤ◌}
use lib.Signed.{shr_z, mag}
use Rattle.ground.specs.Differences.{Is, mod_z}

pub is_pos : (n : ℕ) → Is (pos n) n 0
is_pos n = omega arith

pub is_unique : {z w : ℤ} {a b : ℕ} → Is z a b → Is w a b → z ≡ w
is_unique {z = pos m} {w = pos n} p q = ap pos (omega arith)
is_unique {z = pos m} {w = negsuc n} p q = absurd (omega arith)
is_unique {z = negsuc m} {w = pos n} p q = absurd (omega arith)
is_unique {z = negsuc m} {w = negsuc n} p q = ap negsuc (omega arith)

-- the minuend is determined by the number and what is taken away
pub is_top : {z : ℤ} {a b c : ℕ} → Is z a b → Is z c b → a ≡ c
is_top {z = pos n} p q = omega arith
is_top {z = negsuc n} p q = omega arith

-- the same difference, written otherwise
pub is_same : {z : ℤ} {a b : ℕ} (c d : ℕ) → Is z a b → a + d ≡ c + b → Is z c d
is_same {z = pos n} c d p q = omega arith
is_same {z = negsuc n} c d p q = omega arith

pub is_subℕ : (a b : ℕ) → Is (sub_ℕ a b) a b
is_subℕ a b = go (ltb a b) refl
  where
    go : (t : Bool) → ltb a b ≡ t → Is (cond t (negsuc (b - suc a)) (pos (a - b))) a b
    go true e = let h = ltb-true a b e in omega arith
    go false e = let h = ltb-false a b e in omega arith

pub is_neg : {z : ℤ} {a b : ℕ} → Is z a b → Is (neg_ℤ z) b a
is_neg {z = pos zero} p = omega arith
is_neg {z = pos (suc n)} p = omega arith
is_neg {z = negsuc n} p = omega arith

pub is_add : {z w : ℤ} {a b c d : ℕ} → Is z a b → Is w c d → Is (z +ℤ w) (a + c) (b + d)
is_add {z = pos m} {w = pos n} p q = omega arith
is_add {z = pos m} {w = negsuc n} p q = is_same _ _ (is_subℕ m (suc n)) (omega arith)
is_add {z = negsuc m} {w = pos n} p q = is_same _ _ (is_subℕ n (suc m)) (omega arith)
is_add {z = negsuc m} {w = negsuc n} p q = omega arith

pub is_sub : {z w : ℤ} {a b c d : ℕ} → Is z a b → Is w c d → Is (z -ℤ w) (a + d) (b + c)
is_sub p q = is_add p (is_neg q)

-- half of it, rounded down
pub is_half : {z : ℤ} (a b : ℕ) → Is z a (2 * b) → Is (shr_z z 2) (a / 2) b
is_half {z = pos n} a b p = omega arith
is_half {z = negsuc n} a b p = omega arith

-- two numbers that differ by multiples of r leave the same remainder
pub mod_same : (a b r m n : ℕ) → a + r * m ≡ b + r * n → a % r ≡ b % r
mod_same a b r m n p = sym (add-mul-mod_self_left a r m) ∙ ap (λ (k : ℕ). k % r) p ∙ add-mul-mod_self_left b r n

pub is_mod : {z : ℤ} (a r n : ℕ) → 0 < r → Is z a (r * n) → mod_z z r ≡ a % r
is_mod {z = pos c} a r n h p = mod_same c a r n 0 (omega arith)
is_mod {z = negsuc c} a r n h p =
    let ha = mod-lt a h in
    let hc = mod-lt c h in
    let da = div-add-mod a r in
    let e : c % r ≡ (r - suc (a % r)) % r = mod_same _ _ r (suc (a / r)) n (omega arith) in
    let f : (r - suc (a % r)) % r ≡ r - suc (a % r) = mod-eq_of_lt (omega arith) in
    omega arith

-- a difference of less than h either way fits a signed width whose half is h
pub is_mag : {z : ℤ} {a b : ℕ} (h : ℕ) → Is z a b → a < b + h → b ≤ a + h → mag z < h
is_mag {z = pos n} h p q r = omega arith
is_mag {z = negsuc n} h p q r = omega arith

-- v raised by h, where v is not below −h
pub raised : (h : ℕ) (v : ℤ) → mag v < h → Is v (nat_abs (v +ℤ pos h)) h
raised h (pos n) l = omega arith
raised h (negsuc n) l = go (ltb h (suc n)) refl
  where
    go : (t : Bool) → ltb h (suc n) ≡ t → Is (negsuc n) (nat_abs (cond t (negsuc (suc n - suc h)) (pos (h - suc n)))) h
    go true e = let f = ltb-true h (suc n) e in absurd (omega arith)
    go false e = let f = ltb-false h (suc n) e in omega arith

pub raised_pos : (h : ℕ) (v : ℤ) → mag v < h → v +ℤ pos h ≡ pos (nat_abs (v +ℤ pos h))
raised_pos h v l = is_unique (is_add (raised h v l) (is_pos h)) (is_same _ _ (is_pos _) (omega arith))

pub raised_small : (h : ℕ) (v : ℤ) → mag v < h → nat_abs (v +ℤ pos h) < h + h
raised_small h (pos n) l = omega arith
raised_small h (negsuc n) l = let i = raised h (negsuc n) l in omega arith
