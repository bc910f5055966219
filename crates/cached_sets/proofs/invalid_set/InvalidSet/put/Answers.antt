use Rattle.cached_sets.proofs.Marking.{put_undone}
use Rattle.cached_sets.proofs.invalid_set.InvalidSet.put.Goals as goal
use Rattle.cached_sets.specs.Invalid.{Invalid}
use Rattle.cached_sets.specs.Undoing.{put_back}
use Rattle.std.proofs.Common.{List, ap, sym, ◌∙◌, ℕ}
use Rattle.thor_value.specs.declared.names.Oref.{Oref}

pub returns-clause-undone : goal.returns-clause-undone
returns-clause-undone c =
    let m : Invalid = record { pairs = c.self.inside.places.entries } in
    rw (← c.self.view_is) (ap (λ (es : List (Oref × ℕ)). put_back (record { pairs = es }) c.args.oref c.in_ok-before.before) c.in_ok-before.ensures.entries ∙ put_undone m c.args.oref c.args.place c.insert.ensures.was_ordered c.in_ok-before.before (sym c.in_ok-before.ensures.old))
