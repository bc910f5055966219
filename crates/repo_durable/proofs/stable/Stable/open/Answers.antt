use Rattle.disk_trait.proofs.Several.{content_stays, goes_one}
use Rattle.mob_flusher.specs.Map.{Kept}
use Rattle.page_store.specs.Store.{Store}
use Rattle.repo_state.specs.Said.{said}
use Rattle.repo_durable.proofs.Openings.{opened_where, stands_where}
use Rattle.repo_durable.proofs.Saying.{log_just}
use Rattle.std.proofs.Common.{ap, arith, rules, sym, ◌∙◌}
use Rattle.repo_durable.proofs.Failing.{failed_on, fell_alone, fell_then}
use Rattle.repo_durable.proofs.Pages.{tells_on}
use Rattle.repo_durable.specs.Kept.{disks_of}
use Rattle.repo_durable.proofs.stable.Stable.open.Goals as goal

pub new-requires : goal.new-requires
new-requires g c =
    let same = c.sides.ensures ∙ ap (λ (p : Store). p.sides) c.pages.ensures ∙ ap (λ (k : Kept). k.pages.sides) c.objects.ensures in
    opened_where (g.P.Parts.disks c.args.parts) (g.P.Parts.disks c.reaches.new.parts) c.args.recovered.log c.args.recovered.state c.sides.result.now c.in-Ok-true.field-0 c.requires.holds c.requires.keeps c.requires.pages c.reaches.ensures.alone c.reaches.ensures.content c.reaches.ensures.crash same c.in-Ok-true.ensures.answer c.in-Ok-true.field-0-test

pub returns-in-Ok-true-clause-says : goal.returns-in-Ok-true-clause-says
returns-in-Ok-true-clause-says g c = λ holds.
    let s = said c.args.recovered.state in
    let old = g.P.Parts.disks c.args.parts in
    let now = g.P.Parts.disks c.reaches.new.parts in
    c.new.ensures.says (log_just now c.args.recovered.log s (stands_where old now c.args.recovered.log s holds c.reaches.ensures.alone c.reaches.ensures.content c.reaches.ensures.crash))

pub returns-in-Ok-true-clause-content : goal.returns-in-Ok-true-clause-content
returns-in-Ok-true-clause-content g c = λ d. c.new.ensures.content d ∙ content_stays (g.P.Parts.disks c.args.parts) (g.P.Parts.disks c.reaches.new.parts) 2 c.reaches.ensures.alone c.reaches.ensures.content d

pub returns-in-Ok-true-clause-readable : goal.returns-in-Ok-true-clause-readable
returns-in-Ok-true-clause-readable g c = λ tells are.
    let old = g.P.Parts.disks c.args.parts in
    let now = g.P.Parts.disks c.reaches.new.parts in
    c.new.ensures.readable (tells_on old now (goes_one old now 2 c.reaches.ensures.alone) tells) (λ disk told. are disk (sym c.reaches.ensures.content ∙ told))

pub returns-in-Ok-true-clause-fell : goal.returns-in-Ok-true-clause-fell
returns-in-Ok-true-clause-fell g c =
    let old = g.P.Parts.disks c.args.parts in
    let now = g.P.Parts.disks c.reaches.new.parts in
    fell_then old.faults now.faults (disks_of g.P.Parts.disks c.new.result).faults (fell_alone old now 2 c.reaches.ensures.alone) c.new.ensures.fell

pub returns-in-Ok-false-clause-failed : goal.returns-in-Ok-false-clause-failed
returns-in-Ok-false-clause-failed g c = λ is. absurd (cc)

pub returns-in-Err-Failed-clause-failed : goal.returns-in-Err-Failed-clause-failed
returns-in-Err-Failed-clause-failed g c = λ is. failed_on (g.P.Parts.disks c.args.parts) (g.P.Parts.disks c.reaches.new.parts) 2 (omega arith) (c.reaches.ensures.failed (search rules))
