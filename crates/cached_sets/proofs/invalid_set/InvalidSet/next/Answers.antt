use Rattle.cached_sets.proofs.Finding.{next_is}
use Rattle.cached_sets.proofs.invalid_set.InvalidSet.next.Goals as goal
use Rattle.cached_sets.specs.Bounds.{bound_behind}
use Rattle.cached_sets.specs.Invalid.{Invalid}
use Rattle.link_table.specs.Pairs.{first}
use Rattle.std.proofs.Common.{ap, sym, ◌∙◌, ◌≡◌}
use Rattle.std.specs.BTreeMap.Range.{entries_between}
use Rattle.std.specs.declared.ops.Bound.TheVariants.{Unbounded}
use Rattle.thor_value.specs.Names.{oref_cmp}

pub returns-in-Some : goal.returns-in-Some
returns-in-Some c =
    let m : Invalid = record { pairs = c.self.inside.places.entries } in
    let e : c.range.result ≡ entries_between oref_cmp (bound_behind c.args.after) Unbounded m.pairs = c.range.ensures.between tt ∙ ap (λ b. entries_between oref_cmp b Unbounded m.pairs) c.behind.ensures in
    rw (← c.self.view_is) (sym (ap first c.in-Some.ensures.steps) ∙ next_is m c.args.after c.range.result e)

pub returns-in-None : goal.returns-in-None
returns-in-None c =
    let m : Invalid = record { pairs = c.self.inside.places.entries } in
    let e : c.range.result ≡ entries_between oref_cmp (bound_behind c.args.after) Unbounded m.pairs = c.range.ensures.between tt ∙ ap (λ b. entries_between oref_cmp b Unbounded m.pairs) c.behind.ensures in
    rw (← c.self.view_is) (sym (ap first c.in-None.ensures.steps.0) ∙ next_is m c.args.after c.range.result e)
