use Rattle.repo_durable.proofs.Saying.{says_entered}
use Rattle.page_store.specs.Store.{Store}
use Rattle.repo_durable.specs.Kept.{disks_of}
use Rattle.std.proofs.Common.{ap}
use Rattle.repo_durable.proofs.Readable.{fails_has, moved_has}
use Rattle.repo_durable.proofs.Mapping.{moves_entered}
use Rattle.repo_durable.specs.Kept.{is_torn}
use Rattle.repo_durable.specs.Pages.{HasPages}
use Rattle.std.proofs.Common.{refl}
use Rattle.repo_durable.proofs.stable.Stable.enter.Goals as goal

pub returns-in-Ok-clause-says : goal.returns-in-Ok-clause-says
returns-in-Ok-clause-says g c = λ ahead. record { says = says_entered (disks_of g.P.Parts.disks c.args.self.now) c.args.self.now.held c.enter.new.self c.args.self.now.phase c.args.entry c.in-Ok.ensures.said ahead.ahead }

pub returns-in-Ok-clause-readable : goal.returns-in-Ok-clause-readable
returns-in-Ok-clause-readable g c = λ has. moved_has g.P.Parts.disks c.args.self.now c.enter.new.self (ap (λ (p : Store). p.sides) c.in-Ok.ensures.pages) has

pub returns-in-Err-clause-readable : goal.returns-in-Err-clause-readable
returns-in-Err-clause-readable g c = λ has. fails_has g.P.Parts.disks c.args.self.now c.fail_with.new.self c.enter.new.self c.args.entry c.fail_with.ensures.new has

pub returns-in-Ok-clause-map : goal.returns-in-Ok-clause-map
returns-in-Ok-clause-map g c =
    let store = c.args.self.now in
    let pages = (disks_of g.P.Parts.disks store).content 2 in
    moves_entered (HasPages g.P.Parts.disks store) (is_torn (record store { held = c.enter.new.self })) pages pages store.held c.enter.new.self c.args.entry refl c.in-Ok.ensures.held
