use Rattle.std.proofs.Common.{◌≡◌, arith, ℕ, [], Some, ap, ◌∙◌}
use Rattle.std.specs.Prelude.{◌+◌, ◌*◌}
use Rattle.rows_language.proofs.CountedLoop.{Out, counts, one_step_too_many}
use Rattle.class_defs.specs.Run.{ran_by, run}
use Rattle.rows_language.specs.RunRows.{steps_at, store}
use Rattle.rows_language.proofs.run_rows.loops.Goals as goal

as_written : (n : ℕ) → 2 + 8 * n + 4 + 1 + 1 ≡ 2 + 4 * (n + 1) + 4 * n + 2
as_written n = omega arith

pub returns : goal.returns
unfolding run
returns c = record {
  steps = λ n few. ap (λ (r : Out). steps_at r.0 r.1) (counts n few) ∙ ap Some (as_written n);
  counted = λ n few. ap (λ (r : Out). ran_by store [] r.0 r.1) (counts n few);
  as_many_as_are_allowed = ap (λ (r : Out). steps_at r.0 r.1) (counts 12499 (omega arith));
  one_too_many = ap (λ (r : Out). ran_by store [] r.0 r.1) one_step_too_many;
}
