use Rattle.disk_trait.specs.Fused.{fell_of, parts_of}
use Rattle.repo_core.proofs.Unbegun.{no_fall, shown_of}
use Rattle.repo_core.specs.Shown.{Shown, count_at}
use Rattle.repo_durable.proofs.Failing.{fell_inside}
use Rattle.repo_durable.specs.Failing.{NoneFell}
use Rattle.repo_durable.specs.Kept.{disks_of, parts_in}
use Rattle.std.proofs.Common.{ap, subst, sym, ◌∙◌}
use Rattle.repo_core.proofs.repo.Repo.into_parts.Goals as goal

pub returns : goal.returns
returns g c = λ none.
    let disks = g.P.Parts.disks in
    let i = c.self.inside in
    let inside = parts_in i.stable in
    let told = fell_inside disks inside (sym (c.fell-has_fallen.ensures ∙ ap fell_of c.parts.ensures) ∙ no_fall c.fell-has_fallen.result none) in
    let counted = shown_of (disks_of disks i.stable) (disks (parts_of inside)).faults told in
    subst (λ p. NoneFell (count_at c.args.self.faults) (disks p).faults) (sym c.into_parts.ensures)
    (subst (λ (s : Shown). NoneFell (count_at s.faults) (disks (parts_of inside)).faults) c.self.view_is counted)
