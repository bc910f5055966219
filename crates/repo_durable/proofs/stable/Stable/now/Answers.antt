use Rattle.disk_trait.specs.Fused.{fused_disks}
use Rattle.repo_durable.proofs.Saying.{says_same}
use Rattle.repo_durable.proofs.Staying.{stands_same}
use Rattle.repo_durable.specs.Kept.{disks_of}
use Rattle.repo_durable.proofs.Readable.{still_has}
use Rattle.std.proofs.Common.{ap, is_some, refl}
use Rattle.repo_durable.proofs.stable.Stable.now.Goals as goal

pub returns-clause-kept : goal.returns-clause-kept
returns-clause-kept g c = record { stands = stands_same (disks_of g.P.Parts.disks c.args.self.now) (fused_disks g.P.Parts.disks c.now.new.self) c.args.self.now.held c.args.self.now.phase c.requires.kept.stands c.now.ensures.disks }

pub returns-clause-says : goal.returns-clause-says
returns-clause-says g c = λ is. record { says = says_same (disks_of g.P.Parts.disks c.args.self.now) (fused_disks g.P.Parts.disks c.now.new.self) c.args.self.now.held c.args.self.now.phase is.says c.now.ensures.disks }

pub returns-clause-readable : goal.returns-clause-readable
returns-clause-readable g c = λ has.
    still_has g.P.Parts.disks c.args.self.now (record c.args.self.now { parts = c.now.new.self }) (λ d. ap is_some (c.now.ensures.disks.content d)) (c.now.ensures.disks.content 2) refl (λ whole. whole) has
