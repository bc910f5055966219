-- The statement at a place of a block.
use Rattle.std.proofs.Common.{◌≡◌, ◌+◌, ◌<◌, ◌≤◌, List, [], ◌∷◌, ℕ, zero, suc, drop, length, refl, ap, ◌∙◌, arith, slice_get, Some, None}
use Rattle.class_defs.specs.declared.statements.Stmt.{Stmt}
use Rattle.lang_small_steps.specs.Placed.{stmt_at}

pub stmt_there : (ss : List Stmt) (i : ℕ) (s : Stmt) → slice_get ss i ≡ Some s → s ≡ stmt_at ss i
stmt_there [] i s h = cc
stmt_there (t ∷ ts) zero s h = cc
stmt_there (t ∷ ts) (suc i) s h = stmt_there ts i s h

-- within a block there is one
pub some_there : {X : Type 0} (xs : List X) (i : ℕ) → i < length xs → slice_get xs i ≡ None → ⊥
some_there [] i lt h = omega (arith, lt)
some_there (y ∷ ys) zero lt h = cc
some_there (y ∷ ys) (suc i) lt h = some_there ys i (omega (arith, lt)) h

pub first_placed : (ss : List Stmt) (i : ℕ) → i < length ss → drop i ss ≡ stmt_at ss i ∷ drop (i + 1) ss
first_placed [] i lt = absurd (omega (arith, lt))
first_placed (t ∷ ts) zero lt = refl
first_placed (t ∷ ts) (suc i) lt = first_placed ts i (omega (arith, lt)) ∙ ap (λ k. stmt_at ts i ∷ drop k (t ∷ ts)) (let e : suc (i + 1) ≡ suc i + 1 = omega arith in e)
