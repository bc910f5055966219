-- What a meaning is at a depth above 0, and what a loop does in one turn.
use Rattle.std.proofs.Common.{◌≡◌, ℕ, suc, ◌+◌, ◌-◌, ◌<◌, ◌≤◌, List, Err, ap, arith}
use Rattle.thor_value.specs.declared.values.Fault.TheVariants.{Steps}
use Rattle.thor_value.specs.declared.values.Value.{Value}
use Rattle.class_defs.specs.Expressions as expressions
use Rattle.class_defs.specs.Run.{meaning}
use Rattle.class_defs.specs.Statements as statements
use Rattle.class_defs.specs.Statements.{repeat, turn, block_of}
use Rattle.class_defs.specs.Steps.{World, Action, step, ◌>>=◌, ◌>>◌}
use Rattle.class_defs.specs.declared.expressions.Expr.{Expr}
use Rattle.class_defs.specs.declared.machine.Flow.{Flow}
use Rattle.class_defs.specs.declared.machine.Machine.{Machine}
use Rattle.class_defs.specs.declared.machine.Stop.TheVariants.{Fault}
use Rattle.class_defs.specs.declared.statements.Stmt.{Stmt}
use Rattle.lang_bounded_eval.specs.declared.limits.TheConstants.{RECURSION_END}

-- how many nodes more may be open by plain recursion, where nodes may stand n deep
abbrev pub depth_left : ℕ → ℕ
depth_left n = n - RECURSION_END

deeper : {X : Type 0} (f : ℕ → X) (n : ℕ) → 0 < n → f n ≡ f (suc (n - 1))
deeper f n some = let e : n ≡ suc (n - 1) = omega arith in ap f e

pub value_of-deeper : (w : World) (n : ℕ) (e : Expr) (m : Machine) → 0 < n
    → (meaning w n).value_of e m ≡ expressions.expression w (meaning w (n - 1)).value_of (block_of (meaning w (n - 1)).execute) e m
unfolding meaning
value_of-deeper w n e m some = deeper (λ k. (meaning w k).value_of e m) n some

pub execute-deeper : (w : World) (n : ℕ) (s : Stmt) (m : Machine) → 0 < n
    → (meaning w n).execute s m ≡ statements.statement w (meaning w (n - 1)).value_of (block_of (meaning w (n - 1)).execute) s m
unfolding meaning
execute-deeper w n s m some = deeper (λ k. (meaning w k).execute s m) n some

module _ (w : World) (value_of : Expr → Action Value) (block : List Stmt → Action Flow) where
  pub one_turn : (at : ℕ) (c : Expr) (b : List Stmt) (m : Machine) → at < 100001
      → repeat w value_of block (100001 - at) c b m ≡ (step >> value_of c >>= (λ v. turn w value_of block v b (repeat w value_of block (100001 - (at + 1)) c b))) m
  unfolding repeat
  one_turn at c b m below = let e : 100001 - at ≡ suc (100001 - (at + 1)) = omega arith in ap (λ k. repeat w value_of block k c b m) e

  pub no_turn : (at : ℕ) (c : Expr) (b : List Stmt) (m : Machine) → 100001 ≤ at → repeat w value_of block (100001 - at) c b m ≡ (Err (Fault Steps), m)
  unfolding repeat
  no_turn at c b m over = let e : 100001 - at ≡ 0 = omega arith in ap (λ k. repeat w value_of block k c b m) e

pub ruleset at_depth = (value_of-deeper, execute-deeper)

pub ruleset turns = (one_turn, no_turn)
