-- A node at depth 0, and at a depth above it.
use Rattle.std.proofs.Common.{◌≡◌, ℕ, suc, ◌-◌, ◌<◌, List, Err, ap, arith}
use Rattle.thor_value.specs.declared.values.Fault.TheVariants.{Steps}
use Rattle.class_defs.specs.Steps.{World, step, ◌>>◌}
use Rattle.class_defs.specs.declared.expressions.Expr.{Expr, out-Expr}
use Rattle.class_defs.specs.declared.machine.Machine.{Machine}
use Rattle.class_defs.specs.declared.machine.Stop.TheVariants.{Fault}
use Rattle.class_defs.specs.declared.statements.Stmt.{Stmt, out-Stmt}
use Rattle.lang_small_steps.specs.Resume.{move, start, begin}
use Rattle.lang_small_steps.specs.declared.frames.Doing.TheVariants as doing
use Rattle.lang_small_steps.specs.declared.frames.Frame.{Frame}

pub evaluate-none : (w : World) (n : ℕ) (e : Expr) (fs : List Frame) (m : Machine) → n ≡ 0 → move w (doing.Evaluate n e) fs m ≡ (Err (Fault Steps), m)
evaluate-none w n e fs m h = ap (λ k. move w (doing.Evaluate k e) fs m) h

pub execute-none : (w : World) (n : ℕ) (s : Stmt) (fs : List Frame) (m : Machine) → n ≡ 0 → move w (doing.Execute n s) fs m ≡ (Err (Fault Steps), m)
execute-none w n s fs m h = ap (λ k. move w (doing.Execute k s) fs m) h

deeper : {X : Type 0} (f : ℕ → X) (n : ℕ) → 0 < n → f n ≡ f (suc (n - 1))
deeper f n some = let e : n ≡ suc (n - 1) = omega arith in ap f e

pub evaluate-deeper : (w : World) (n : ℕ) (e : Expr) (fs : List Frame) → 0 < n → move w (doing.Evaluate n e) fs ≡ (step >> start w (n - 1) (out-Expr e) fs)
evaluate-deeper w n e fs some = deeper (λ k. move w (doing.Evaluate k e) fs) n some

pub execute-deeper : (w : World) (n : ℕ) (s : Stmt) (fs : List Frame) → 0 < n → move w (doing.Execute n s) fs ≡ (step >> begin w (n - 1) (out-Stmt s) fs)
execute-deeper w n s fs some = deeper (λ k. move w (doing.Execute k s) fs) n some

pub ruleset nested = (evaluate-none, execute-none, evaluate-deeper, execute-deeper)
