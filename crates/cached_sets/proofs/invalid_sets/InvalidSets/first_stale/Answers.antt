use Rattle.cached_sets.proofs.Finding.{nothing}
use Rattle.cached_sets.proofs.invalid_sets.InvalidSets.first_stale.Goals as goal
use Rattle.cached_sets.specs.Invalid.{Invalids}
use Rattle.std.proofs.Common.{ap, sym, ◌∙◌, ◌≡◌}
use Rattle.std.specs.Option.{option_copied}
use Rattle.std.specs.Prelude.{None}
use Rattle.thor_value.specs.FiniteMap.{get}

pub returns-in-None-clause-value : goal.returns-in-None-clause-value
returns-in-None-clause-value g c =
    let N : Invalids = record { pairs = c.self.inside.sets.entries } in
    let none : get N c.args.session ≡ None = sym c.get.ensures.value ∙ ap option_copied c.in-None.is in
    rw (← c.self.view_is, none) (sym (nothing c.args.upto c.args.names.now))
