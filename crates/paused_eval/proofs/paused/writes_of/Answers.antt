use Rattle.std.proofs.Common.{List, [], rules, drop, refl, subst, sym, ap, ◌∙◌, ◌+◌, ◌++◌, ◌∷◌, ◌≡◌}
use Rattle.std.specs.Prelude.{slice_get, Some}
use Rattle.client_cache.specs.Copies.{changed}
use Rattle.method_eval.specs.Answers.{stored_at}
use Rattle.paused_eval.proofs.Names.{next_there, none_left}
use Rattle.paused_eval.proofs.Writes.{Dating, all_listed, begins, ends, goes_on, one_more}
use Rattle.paused_eval.proofs.paused.writes_of.Goals as goal
use Rattle.paused_eval.specs.Copies.{entries}
use Rattle.thor_value.specs.declared.names.Oref.{Oref}

pub loop-place-init : goal.loop-place-init
loop-place-init c = (search rules, (begins c.args.epoch c.args.cache.now c.requires, refl))

pub loop-place-preserved : goal.loop-place-preserved
loop-place-preserved c =
    let epoch = c.args.epoch in
    let names = c.args.cache.now.written in
    let i = c.loop-place.place in
    let oref = c.in-Some.oref in
    let rest = drop (i + 1) names in
    let there : slice_get names i ≡ Some oref = ap (λ (xs : List Oref). slice_get xs i) (sym c.loop-place.invariant.1.1) ∙ (sym c.written_at.ensures ∙ c.in-Some.is) in
    let step : drop i names ≡ oref ∷ rest = next_there names i oref there in
    let dating : Dating epoch c.args.cache.now c.loop-place.cache (oref ∷ rest) = subst (λ (xs : List Oref). Dating epoch c.args.cache.now c.loop-place.cache xs) step c.loop-place.invariant.1.0 in (
      one_more epoch c.args.cache.now c.loop-place.cache oref rest c.loop-place.writes c.push_written.new.writes _ dating.same c.in_ok-push_written-in-Some.ensures.writes
          (subst (λ (xs : List Oref). c.loop-place.writes ++ stored_at epoch (entries (changed c.args.cache.now) xs) ≡ stored_at epoch (entries (changed c.args.cache.now) names)) step c.loop-place.invariant.0),
      (
        goes_on epoch c.args.cache.now c.loop-place.cache c.push_written.new.cache oref rest dating c.push_written.ensures.changed c.push_written.ensures.kept,
        c.push_written.ensures.names ∙ c.loop-place.invariant.1.1,
      ),
    )

pub returns-in-None-clause-writes : goal.returns-in-None-clause-writes
returns-in-None-clause-writes c =
    let names = c.args.cache.now.written in
    let i = c.loop-place.place in
    let none : drop i names ≡ [] = none_left names i (ap (λ (xs : List Oref). slice_get xs i) (sym c.loop-place.invariant.1.1) ∙ (sym c.written_at.ensures ∙ c.in-None.is)) in
    all_listed c.args.epoch (changed c.args.cache.now) (drop i names) c.loop-place.writes _ none c.loop-place.invariant.0

pub returns-in-None-clause-dated : goal.returns-in-None-clause-dated
returns-in-None-clause-dated c =
    let names = c.args.cache.now.written in
    let i = c.loop-place.place in
    let none : drop i names ≡ [] = none_left names i (ap (λ (xs : List Oref). slice_get xs i) (sym c.loop-place.invariant.1.1) ∙ (sym c.written_at.ensures ∙ c.in-None.is)) in
    ends c.args.epoch c.args.cache.now c.loop-place.cache (subst (λ (xs : List Oref). Dating c.args.epoch c.args.cache.now c.loop-place.cache xs) none c.loop-place.invariant.1.0)
