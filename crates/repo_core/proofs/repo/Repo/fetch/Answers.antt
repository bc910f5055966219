use Rattle.repo_durable.specs.Kept.{disks_of}
use Rattle.std.proofs.Common.{IsErrOf, ap, refl, rules}
use Rattle.repo_core.proofs.Damage.{damage_shown, damaged_memory}
use Rattle.repo_core.proofs.Failing.{failed_between, fewer_between, fewer_same, fewer_shown, stopped_memory}
use Rattle.repo_refusals.specs.declared.refusal.Refusal.TheVariants.{Damaged as IsDamaged, Stopped as IsStopped}
use Rattle.repo_core.proofs.Refused.{if_err_on, leaves_read}
use Rattle.repo_core.specs.Shown.{Shown, shown}
use Rattle.std.specs.Prelude.{None}
use Rattle.repo_core.proofs.Failing.{counts_between, err_shown}
use Rattle.repo_durable.proofs.Counting.{err_through, if_err_any}
use Rattle.repo_durable.proofs.Returning.{on_ok_any}
use Rattle.std.proofs.Common.{◌∙◌}
use Rattle.repo_core.proofs.Readable.{shown_has}
use Rattle.repo_core.proofs.Objects.{objects_on, objects_shown, whole_up}
use Rattle.repo_state.specs.declared.held.Held.{Held}
use Rattle.std.proofs.Common.{[]}
use Rattle.page_format.specs.Pages.{page_bytes}
use Rattle.repo_core.proofs.Falls.{keeps_up}
use Rattle.repo_core.proofs.Objects.{image_has, on_told}
use Rattle.repo_core.proofs.Told.{on_ok}
use Rattle.repo_core.specs.Objects.{SendsObjects}
use Rattle.repo_durable.specs.Kept.{is_up}
use Rattle.repo_sessions.specs.Sessions.{acknowledged, sent}
use Rattle.session_outbox.specs.declared.message.Message.TheVariants.{Page as APage}
use Rattle.std.proofs.Common.{OnOk, subst, true, ◌≡◌, ℕ}
use Rattle.repo_core.proofs.repo.Repo.fetch.Goals as goal

pub returns-clause-left : goal.returns-clause-left
returns-clause-left g c =
    let i = c.self.inside in
    let s = c.page_image.new.self in
    let x : Shown = shown g.P.Parts.disks i.stable i.memory i.trace i.opened_in in
    let y : Shown = shown g.P.Parts.disks s c.send_page-sent.new.self i.trace i.opened_in in
    if_err_on c.mark.result _ _ (λ r falls. leaves_read x c.args.self.now y c.mark.new.self None r falls c.self.view_is c.in_ok-check_up.ensures.up c.page_image.ensures.held c.page_image.ensures.limit c.send_page-sent.ensures.lasts) c.mark.ensures.falls

pub returns-in_err-image-clause-stopped : goal.returns-in_err-image-clause-stopped
returns-in_err-image-clause-stopped g c = λ n is.
    let i = c.self.inside in
    let wrong : IsErrOf c.page_image.result (IsStopped n) = search rules in
    failed_between (disks_of g.P.Parts.disks i.stable) (disks_of g.P.Parts.disks c.page_image.new.self) c.args.self.now (shown g.P.Parts.disks c.page_image.new.self i.memory i.trace i.opened_in)
    (ap (λ (s : Shown). s.faults) c.self.view_is) refl (c.page_image.ensures.stopped n wrong)

pub returns-clause-stopped : goal.returns-clause-stopped
returns-clause-stopped g c = λ n is. stopped_memory c.mark.result n _ c.mark.ensures.refusal is

pub returns-in_err-image-clause-damaged : goal.returns-in_err-image-clause-damaged
returns-in_err-image-clause-damaged g c = λ n place is.
    let i = c.self.inside in
    let wrong : IsErrOf c.page_image.result (IsDamaged n place) = search rules in
    damage_shown g.P.Parts.disks i.stable i.memory i.trace i.opened_in c.args.self.now c.args.page place c.self.view_is (c.page_image.ensures.damaged n place wrong)

pub returns-clause-damaged : goal.returns-clause-damaged
returns-clause-damaged g c = λ n place is. damaged_memory c.mark.result n place _ c.mark.ensures.refusal is

pub returns-in_err-image-clause-quiet : goal.returns-in_err-image-clause-quiet
returns-in_err-image-clause-quiet g c =
    let i = c.self.inside in
    err_shown c.from_residual-in_err-image.result (disks_of g.P.Parts.disks i.stable) (disks_of g.P.Parts.disks c.page_image.new.self) c.args.self.now (shown g.P.Parts.disks c.page_image.new.self i.memory i.trace i.opened_in) (ap (λ (s : Shown). s.faults) c.self.view_is) refl (err_through c.page_image.result c.from_residual-in_err-image.result _ (λ r wrong. search rules) c.page_image.ensures.quiet)

pub returns-clause-steady : goal.returns-clause-steady
returns-clause-steady g c =
    let i = c.self.inside in
    on_ok_any c.mark.result _ (c.mark.ensures.faults ∙ counts_between (disks_of g.P.Parts.disks i.stable) (disks_of g.P.Parts.disks c.page_image.new.self) c.args.self.now (shown g.P.Parts.disks c.page_image.new.self c.send_page-sent.new.self i.trace i.opened_in) (ap (λ (s : Shown). s.faults) c.self.view_is) refl (c.in_ok-image.ensures.steady))

pub returns-clause-quiet : goal.returns-clause-quiet
returns-clause-quiet g c =
    let i = c.self.inside in
    if_err_any c.mark.result _ (c.mark.ensures.faults ∙ counts_between (disks_of g.P.Parts.disks i.stable) (disks_of g.P.Parts.disks c.page_image.new.self) c.args.self.now (shown g.P.Parts.disks c.page_image.new.self c.send_page-sent.new.self i.trace i.opened_in) (ap (λ (s : Shown). s.faults) c.self.view_is) refl (c.in_ok-image.ensures.steady))

pub returns-in_err-image-clause-readable : goal.returns-in_err-image-clause-readable
returns-in_err-image-clause-readable g c = λ has.
    let i = c.self.inside in
    c.page_image.ensures.readable (shown_has g.P.Parts.disks i.stable i.memory i.trace i.opened_in c.args.self.now c.self.view_is has)

pub returns-clause-readable : goal.returns-clause-readable
returns-clause-readable g c = λ has.
    let i = c.self.inside in
    c.mark.ensures.readable (c.page_image.ensures.readable (shown_has g.P.Parts.disks i.stable i.memory i.trace i.opened_in c.args.self.now c.self.view_is has))

pub returns-in_err-image-clause-never : goal.returns-in_err-image-clause-never
returns-in_err-image-clause-never g c = λ n place is has.
    let i = c.self.inside in
    let wrong : IsErrOf c.page_image.result (IsDamaged n place) = search rules in
    c.page_image.ensures.never n place wrong (shown_has g.P.Parts.disks i.stable i.memory i.trace i.opened_in c.args.self.now c.self.view_is has)

pub returns-clause-never : goal.returns-clause-never
returns-clause-never g c = λ n place is has. damaged_memory c.mark.result n place _ c.mark.ensures.refusal is

pub returns-in_err-image-clause-counts : goal.returns-in_err-image-clause-counts
returns-in_err-image-clause-counts g c =
    let i = c.self.inside in
    fewer_between (disks_of g.P.Parts.disks i.stable) (disks_of g.P.Parts.disks c.page_image.new.self) c.args.self.now (shown g.P.Parts.disks c.page_image.new.self i.memory i.trace i.opened_in) (ap (λ (s : Shown). s.faults) c.self.view_is) refl c.page_image.ensures.goes.faults

pub returns-clause-counts : goal.returns-clause-counts
returns-clause-counts g c =
    let i = c.self.inside in
    let y : Shown = shown g.P.Parts.disks c.page_image.new.self c.send_page-sent.new.self i.trace i.opened_in in
    fewer_shown c.args.self.now y c.mark.new.self
    (fewer_between (disks_of g.P.Parts.disks i.stable) (disks_of g.P.Parts.disks c.page_image.new.self) c.args.self.now y (ap (λ (s : Shown). s.faults) c.self.view_is) refl c.page_image.ensures.goes.faults)
    (fewer_same y c.mark.new.self c.mark.ensures.faults)

pub returns-in_err-image-clause-objects : goal.returns-in_err-image-clause-objects
returns-in_err-image-clause-objects g c =
    let i = c.self.inside in
    objects_shown g.P.Parts.disks [] i.stable i.memory i.trace i.opened_in c.args.self.now (shown g.P.Parts.disks c.page_image.new.self i.memory i.trace i.opened_in) c.self.view_is c.page_image.ensures.map

pub returns-clause-objects : goal.returns-clause-objects
returns-clause-objects g c =
    let i = c.self.inside in
    let y : Shown = shown g.P.Parts.disks c.page_image.new.self c.send_page-sent.new.self i.trace i.opened_in in
    objects_on [] c.args.self.now y c.mark.new.self (whole_up c.page_image.new.self c.in_ok-image.ensures.ok.stays_up)
    (objects_shown g.P.Parts.disks [] i.stable i.memory i.trace i.opened_in c.args.self.now y c.self.view_is c.page_image.ensures.map) c.mark.ensures.pages (ap (λ (h : Held). h.objects) c.mark.ensures.held)

pub returns-clause-image : goal.returns-clause-image
returns-clause-image g c =
    let i = c.self.inside in
    let image = c.in_ok-image.image in
    let up : is_up i.stable ≡ true = ap (λ (s : Shown). s.is_up) c.self.view_is ∙ c.in_ok-check_up.ensures.up in
    let keeps = keeps_up g.P.Parts.disks i.stable c.self.invariant.0 up in
    subst (λ (s : Shown). OnOk c.mark.result (SendsObjects s c.args.session c.args.page c.args.upto c.mark.new.self)) c.self.view_is
    (on_ok c.mark.result _ _ (λ told. record {
      image = image;
      number = c.in_ok-image.ensures.number;
      objects = λ disk is o answer own at fits has. image_has disk i.stable.held.objects c.args.page i.stable.held.repo image keeps.objects (c.in_ok-image.ensures.image disk is) o answer own at fits has;
      sends = c.mark.ensures.memory ∙ (told ∙ (
          ap (λ (n : ℕ). record i.memory { sessions = acknowledged (sent i.memory.sessions c.args.session n (APage n (page_bytes image) c.place-place.result)) c.args.session c.args.upto }) c.in_ok-image.ensures.number
          ∙ ap (λ (n : ℕ). record i.memory { sessions = acknowledged (sent i.memory.sessions c.args.session c.args.page (APage c.args.page (page_bytes image) n)) c.args.session c.args.upto }) c.place-place.ensures));
    })
    (on_told c.mark.result c.send_page-sent.result _ c.mark.ensures.happened c.send_page-sent.ensures.ok))
