use Rattle.repo_state.specs.Said.{said}
use Rattle.repo_state.specs.declared.held.Held.{Held}
use Rattle.repo_durable.proofs.Saying.{says_moved}
use Rattle.repo_durable.specs.Kept.{disks_of}
use Rattle.repo_durable.specs.Remembering.{Remembers}
use Rattle.std.proofs.Common.{ap, subst, sym}
use Rattle.repo_durable.proofs.Readable.{moved_has}
use Rattle.repo_durable.proofs.stable.Stable.grant_from.Goals as goal

pub returns-clause-says : goal.returns-clause-says
returns-clause-says g c = λ up is.
    let h = c.args.self.now in
    record { says = says_moved (disks_of g.P.Parts.disks h) h.held c.grant_from.new.self h.phase up is.says (λ s r. subst (λ (k : Held). Remembers s (said k)) (sym c.grant_from.ensures.held) r) }

pub returns-clause-readable : goal.returns-clause-readable
returns-clause-readable g c = λ has. moved_has g.P.Parts.disks c.args.self.now c.grant_from.new.self (ap (λ (h : Held). h.objects.pages.sides) c.grant_from.ensures.held) has
