-- The larger and the smaller of two whole numbers, and their multiples and quotients, by the naturals that they are the difference of.
-- Assumes nothing.
use mathlib.Core.Path.{◌≡◌, sym, ap, ◌∙◌}
use Prim.Native.Nat.{ℕ, suc, ◌+◌, ◌*◌, ◌/◌, ◌<◌, ◌≤◌, max, min}
use native.Mathlib.Nat.{mod-lt, div-add-mod, add-mul-div_left, lt_of_mul-lt-mul_left, mul-add}
use native.Mathlib.Omega.{arith}
use borrow.Author.Tests.{ltb-true, ltb-false, lt-ltb, le-ltb}
use lib.Dec.{ltb}
use lib.IntN.{ℤ, pos, negsuc, ◌*ℤ◌}
use lib.Signed.{lt_z, shr_z}
use Rattle.ground.proofs.Laws.Cases.{by_bool}
use Rattle.ground.specs.Differences.{Is}
use Rattle.ground.proofs.Laws.Differences.{is_neg}
use Rattle.ground.specs.LargerSmaller.{max_z, min_z}

same_ltb : (a b c d : ℕ) → (a < b → c < d) → (b ≤ a → d ≤ c) → ltb a b ≡ ltb c d
same_ltb a b c d up down =
    by_bool (ltb a b) (λ t. t ∙ sym (lt-ltb c d (up (ltb-true a b t)))) (λ t. t ∙ sym (le-ltb c d (down (ltb-false a b t))))

pub is_lt : {z w : ℤ} {a b k : ℕ} → Is z a k → Is w b k → lt_z z w ≡ ltb a b
is_lt {z = pos m} {w = pos n} {a = a} {b = b} p q = same_ltb m n a b (λ h. omega arith) (λ h. omega arith)
is_lt {z = pos m} {w = negsuc n} {a = a} {b = b} p q = sym (le-ltb a b (omega arith))
is_lt {z = negsuc m} {w = pos n} {a = a} {b = b} p q = sym (lt-ltb a b (omega arith))
is_lt {z = negsuc m} {w = negsuc n} {a = a} {b = b} p q = same_ltb n m a b (λ h. omega arith) (λ h. omega arith)

pub is_max : {z w : ℤ} {a b k : ℕ} → Is z a k → Is w b k → Is (max_z z w) (max a b) k
is_max {z = z} {w = w} {a = a} {b = b} p q =
    by_bool (ltb a b)
    (λ t. let h : a < b = ltb-true a b t in let m : max a b ≡ b = omega arith in rw (is_lt p q, t, m) q)
    (λ t. let h : b ≤ a = ltb-false a b t in let m : max a b ≡ a = omega arith in rw (is_lt p q, t, m) p)

pub is_min : {z w : ℤ} {a b k : ℕ} → Is z a k → Is w b k → Is (min_z z w) (min a b) k
is_min {z = z} {w = w} {a = a} {b = b} p q =
    by_bool (ltb a b)
    (λ t. let h : a < b = ltb-true a b t in let m : min a b ≡ a = omega arith in rw (is_lt p q, t, m) p)
    (λ t. let h : b ≤ a = ltb-false a b t in let m : min a b ≡ b = omega arith in rw (is_lt p q, t, m) q)

pub is_scale : (r : ℕ) {z : ℤ} {a b : ℕ} → Is z a b → Is (pos r *ℤ z) (r * a) (r * b)
is_scale r {z = pos n} p = let e = ap (λ (m : ℕ). r * m) p.is in omega arith
is_scale r {z = negsuc n} p = is_neg {z = pos (r * suc n)} (let e = ap (λ (m : ℕ). r * m) p.is in omega arith)

-- division by a natural, rounded down
pub is_div : (h : ℕ) {z : ℤ} (a b : ℕ) → 0 < h → Is z a (h * b) → Is (shr_z z h) (a / h) b
is_div h {z = pos n} a b l p = record { is = sym (add-mul-div_left n b l) ∙ ap (λ (m : ℕ). m / h) p.is }
is_div h {z = negsuc n} a b l p =
    let q = a / h in
    let s = n / h in
    let da = div-add-mod a h in
    let dn = div-add-mod n h in
    let ra = mod-lt a l in
    let rn = mod-lt n l in
    let d : h * (q + s) ≡ h * q + h * s = mul-add h q s in
    let d' : h * (q + s + 2) ≡ h * (q + s) + h * 2 = mul-add h (q + s) 2 in
    let up : q + s < b = lt_of_mul-lt-mul_left h (omega arith) in
    let down : b < q + s + 2 = lt_of_mul-lt-mul_left h (omega arith) in
    omega arith
