use Rattle.repo_opening.specs.Same.{Same}
use Rattle.std.proofs.Common.{subst, sym}
use Rattle.store_opening.specs.Seated.{HasPart, IsSeated}
use Rattle.store_opening.proofs.closed.Closed.into_parts.Goals as goal

pub returns-in-Fresh-clause-gives : goal.returns-in-Fresh-clause-gives
returns-in-Fresh-clause-gives g c = λ part seated.
    let at = subst (λ x. IsSeated g.P.Parts.disks part x) c.in-Fresh.is seated in
    subst (λ p. Same (g.P.Parts.disks part) (g.P.Parts.disks p)) (sym c.into_parts.ensures.parts) at.0

pub returns-in-Known-clause-gives : goal.returns-in-Known-clause-gives
returns-in-Known-clause-gives g c = λ part seated.
    let at = subst (λ x. IsSeated g.P.Parts.disks part x) c.in-Known.is seated in
    subst (λ p. Same (g.P.Parts.disks part) (g.P.Parts.disks p)) (sym c.into_parts-in-Known.ensures) at

pub returns-in-Fresh-clause-part : goal.returns-in-Fresh-clause-part
returns-in-Fresh-clause-part g c = subst (λ x. HasPart x c.into_parts.result) (sym c.in-Fresh.is) c.into_parts.ensures.parts

pub returns-in-Known-clause-part : goal.returns-in-Known-clause-part
returns-in-Known-clause-part g c = subst (λ x. HasPart x c.into_parts-in-Known.result) (sym c.in-Known.is) c.into_parts-in-Known.ensures
