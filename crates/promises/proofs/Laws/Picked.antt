-- What holds for both arms of a test holds for the one that is picked; and the reply of an answer that is made by its reply.
-- Assumes nothing.
use mathlib.Core.Path.{◌≡◌, sym, ◌∙◌}
use mathlib.Core.Bool.{Bool, true, false, cond}
use Prim.Native.Nat.{ℕ}
use lib.Dec.{eqb}
use borrow.Author.Tests.{eqb-true}
use Rattle.ground.proofs.Laws.Cases.{by_bool}

pub picked : {A : Type 0} (P : A → Type 0) (b : Bool) (x y : A) → P x → P y → P (cond b x y)
picked P true x y p q = p
picked P false x y p q = q

-- one answer where the reply is 0, the other with any other
pub made_reply : {A : Type 0} (reply : A → ℕ) (x : ℕ) (fine other : A) → reply fine ≡ 0 → reply other ≡ x → reply (cond (eqb x 0) fine other) ≡ x
made_reply reply x fine other f o = by_bool (eqb x 0) (λ t. rw t (f ∙ sym (eqb-true x 0 t))) (λ t. rw t o)
