use Rattle.disk_trait.specs.Fused.{fused_disks}
use Rattle.repo_state.specs.Said.{said}
use Rattle.log_codec.specs.declared.body.Body.TheVariants.{Installed}
use Rattle.log_codec.specs.declared.state.State.{State}
use Rattle.repo_durable.proofs.Opened.{opened_more, opened_moved, repo_of}
use Rattle.repo_durable.proofs.Pages.{reach_flushed, reach_open, reach_still}
use Rattle.repo_durable.proofs.Saying.{images_installing, images_of_log, log_more, log_same}
use Rattle.repo_durable.specs.Flushes.{IsLastFlush}
use Rattle.repo_durable.specs.Kept.{disks_of}
use Rattle.commit_log.specs.Recovered.{after}
use Rattle.std.proofs.Common.{ap, refl, subst}
use Rattle.std.specs.BTreeMap.{insert_entry}
use Rattle.std.specs.Ordering.{nat_cmp}
use Rattle.repo_durable.proofs.Counting.{log_quiet}
use Rattle.std.proofs.Common.{sym, ◌∙◌}
use Rattle.repo_durable.proofs.Pages.{agrees_still, page_still}
use Rattle.repo_durable.proofs.Readable.{put_has, still_has}
use Rattle.repo_durable.proofs.Mapping.{moves_read, put_moves}
use Rattle.repo_durable.proofs.stable.Stable.put_flushed.Goals as goal

pub returns-clause-opened : goal.returns-clause-opened
returns-clause-opened g c =
    let now = fused_disks g.P.Parts.disks c.installed.new.parts in
    let stood = opened_more (disks_of g.P.Parts.disks c.args.self.now) now c.args.log.now c.installed.new.self c.args.self.now.held (Installed c.in-Installed.page c.in-Installed.side) c.requires.opened c.in_default-installed.ensures.appended c.installed.ensures.pages in
    opened_moved now c.installed.new.self c.args.self.now.held c.settle.new.self stood c.settle.ensures.agrees (ap repo_of c.settle.ensures.held) c.settle.ensures.keeps

pub returns-clause-log : goal.returns-clause-log
returns-clause-log g c = λ says.
    let now = fused_disks g.P.Parts.disks c.installed.new.parts in
    let old = disks_of g.P.Parts.disks c.args.self.now in
    let held = c.args.self.now.held in
    log_same now c.installed.new.self (after (said held) (Installed c.in-Installed.page c.in-Installed.side)) (said c.settle.new.self)
    (log_more old now c.args.log.now c.installed.new.self (said held) (Installed c.in-Installed.page c.in-Installed.side) says c.installed.ensures.goes c.in_default-installed.ensures.appended) c.settle.ensures.said

pub returns-in-Err-clause-images : goal.returns-in-Err-clause-images
returns-in-Err-clause-images g c = λ says.
    let now = fused_disks g.P.Parts.disks c.installed.new.parts in
    let old = disks_of g.P.Parts.disks c.args.self.now in
    let last = subst (IsLastFlush c.args.self.now.held) c.in-Installed.is c.requires.last in
    images_installing old now c.args.log.now c.args.self.now.held c.in-Installed.page c.in-Installed.side last.0 says last.1 c.installed.ensures.goes c.installed.ensures.any_moment
    (reach_still old now c.args.self.now.held.objects.pages.sides c.installed.ensures.goes c.installed.ensures.still c.installed.ensures.pages (reach_open old c.args.log.now c.args.self.now.held c.requires.opened))
    (reach_still old now (insert_entry nat_cmp c.args.self.now.held.objects.pages.sides c.in-Installed.page c.in-Installed.side) c.installed.ensures.goes c.installed.ensures.still c.installed.ensures.pages
    (reach_flushed old c.args.log.now c.args.self.now.held last.0 c.in-Installed.page c.in-Installed.side c.requires.opened last.1))
    (page_still old now c.args.log.now c.args.self.now.held last.0 c.in-Installed.page c.in-Installed.side c.requires.opened last.1 c.installed.ensures.goes c.installed.ensures.still)
    (agrees_still old now c.args.log.now c.args.self.now.held c.requires.opened c.installed.ensures.goes c.installed.ensures.still)

pub returns-then-side-ge-SIDES-clause-images : goal.returns-then-side-ge-SIDES-clause-images
returns-then-side-ge-SIDES-clause-images g c = λ says. images_of_log (disks_of g.P.Parts.disks c.args.self.now) c.args.log.now c.args.self.now.held c.args.self.now.held says refl (reach_open (disks_of g.P.Parts.disks c.args.self.now) c.args.log.now c.args.self.now.held c.requires.opened)

pub returns-clause-buffer : goal.returns-clause-buffer
returns-clause-buffer g c = ap (λ (s : State). s.mob) c.settle.ensures.said

pub returns-in-Err-clause-quiet : goal.returns-in-Err-clause-quiet
returns-in-Err-clause-quiet g c = λ other. log_quiet c.installed.result c.in-Err.fault _ c.in-Err.is c.installed.ensures.wanting (λ place w. absurd (c.installed.ensures.damaged place w)) (sym c.of_log.ensures.stops ∙ other)

pub returns-clause-readable : goal.returns-clause-readable
returns-clause-readable g c = λ has.
    let last = subst (IsLastFlush c.args.self.now.held) c.in-Installed.is c.requires.last in
    put_has g.P.Parts.disks c.args.self.now c.installed.new.parts c.settle.new.self c.args.log.now last.0 c.in-Installed.page c.in-Installed.side c.installed.ensures.goes.told c.installed.ensures.pages c.requires.opened last.1 c.settle.ensures.said has

pub returns-in-Err-clause-readable : goal.returns-in-Err-clause-readable
returns-in-Err-clause-readable g c = λ has.
    still_has g.P.Parts.disks c.args.self.now (record c.args.self.now { parts = c.installed.new.parts }) c.installed.ensures.goes.told c.installed.ensures.pages refl (λ whole. whole) has

pub returns-clause-map : goal.returns-clause-map
returns-clause-map g c =
    let last = subst (IsLastFlush c.args.self.now.held) c.in-Installed.is c.requires.last in
    put_moves g.P.Parts.disks c.args.self.now c.installed.new.parts c.settle.new.self c.args.log.now last.0 c.in-Installed.page c.in-Installed.side c.installed.ensures.pages c.requires.opened last.1 c.settle.ensures.said

pub returns-in-Err-clause-map : goal.returns-in-Err-clause-map
returns-in-Err-clause-map g c =
    let store = c.args.self.now in
    moves_read g.P.Parts.disks store c.installed.new.parts store.held c.installed.ensures.pages refl
