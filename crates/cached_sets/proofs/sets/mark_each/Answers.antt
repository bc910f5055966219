use Rattle.cached_sets.proofs.Touching.{fewer, marks_on, tells_on}
use Rattle.cached_sets.proofs.sets.mark_each.Goals as goal
use Rattle.cached_sets.specs.Invalid.{Invalids}
use Rattle.cached_sets.specs.Sets.{marked, others, told_of}
use Rattle.std.proofs.Common.{List, ap, arith, drop, map, ◌+◌, ◌++◌, ◌∙◌, ℕ}
use Rattle.thor_value.specs.declared.names.Oref.{Oref}

pub returns-in_err-mark_other-clause-undone : goal.returns-in_err-mark_other-clause-undone
returns-in_err-mark_other-clause-undone g c = λ N e. c.mark_other.ensures.undone N (c.loop-session.invariant.undone N e)

pub returns-in_err-mark_other-clause-bound : goal.returns-in_err-mark_other-clause-bound
returns-in_err-mark_other-clause-bound g c =
    let less = fewer c.args.sessions.now c.loop-session.session-index 0 c.loop-session-test.true in
    omega (arith, less, c.tick.ensures, c.loop-session.invariant.cost)

pub loop-session-preserved : goal.loop-session-preserved
loop-session-preserved g c =
    let xs : List ℕ = c.args.sessions.now in
    let i : ℕ = c.loop-session.session-index in
    let rest : List (ℕ × Oref) = others c.args.writer c.args.oref (drop (i + 1) xs) in
    let less = fewer xs i 0 c.loop-session-test.true in
    record {
      left =
          ap (λ (N : Invalids). marked N rest c.args.place) c.in_ok-mark_other.ensures.ok
          ∙ marks_on c.loop-session.invalid c.args.writer c.args.oref c.args.place xs i _ c.loop-session-test.true
          ∙ c.loop-session.invariant.left;
      told =
          ap (λ (ts : List (ℕ × Oref)). ts ++ rest) c.in_ok-mark_other.ensures.told
          ∙ tells_on (map told_of c.loop-session.done.items) c.args.writer c.args.oref xs i _ c.loop-session-test.true
          ∙ c.loop-session.invariant.told;
      undone = λ N f. c.mark_other.ensures.undone N (c.loop-session.invariant.undone N f);
      cost = omega (arith, less, c.tick.ensures, c.loop-session.invariant.cost);
      marks = omega (arith, c.mark_other.ensures.one, c.tick.ensures, c.loop-session.invariant.marks);
    }
