use Rattle.disk_trait.specs.Fused.{fused_disks}
use Rattle.mob_flusher.specs.Map.{Kept}
use Rattle.page_store.specs.Store.{Store}
use Rattle.repo_state.specs.Said.{said}
use Rattle.repo_durable.proofs.Openings.{opened_where, stands_where}
use Rattle.page_store.specs.Sides.{ReachesSides}
use Rattle.repo_durable.specs.Kept.{disks_of}
use Rattle.disk_trait.specs.declared.parts.Outage.{Outage}
use Rattle.repo_durable.proofs.Failing.{failed_on}
use Rattle.repo_durable.proofs.Returning.{same_err}
use Rattle.repo_refusals.specs.declared.refusal.Refusal.TheVariants.{Stopped as IsStopped}
use Rattle.std.proofs.Common.{Err, List, Ok, Bool, ap, arith, refl, subst, sym, ℕ, ◌∙◌}
use Rattle.repo_durable.proofs.Counting.{outage_quiet, stays_on}
use Rattle.disk_trait.proofs.Several.{content_stays}
use Rattle.repo_durable.proofs.stable.Stable.reached.Goals as goal

pub returns-in-Ok-true-clause-opened : goal.returns-in-Ok-true-clause-opened
returns-in-Ok-true-clause-opened g c =
    let same = c.sides.ensures ∙ ap (λ (p : Store). p.sides) c.pages.ensures ∙ ap (λ (k : Kept). k.pages.sides) c.objects.ensures in
    opened_where (disks_of g.P.Parts.disks c.args.self.now) (fused_disks g.P.Parts.disks c.reaches.new.parts) c.args.recovered.log c.args.recovered.state c.sides.result.now c.in-Ok-true.field-0 c.requires.stands c.requires.keeps c.requires.pages c.reaches.ensures.alone c.reaches.ensures.content c.reaches.ensures.crash same c.in-Ok-true.ensures.answer c.in-Ok-true.field-0-test

pub returns-in-Ok-true-clause-stands : goal.returns-in-Ok-true-clause-stands
returns-in-Ok-true-clause-stands g c =
    stands_where (disks_of g.P.Parts.disks c.args.self.now) (fused_disks g.P.Parts.disks c.reaches.new.parts) c.args.recovered.log (said c.args.recovered.state) c.requires.stands c.reaches.ensures.alone c.reaches.ensures.content c.reaches.ensures.crash

pub returns-in-Ok-false-clause-damaged : goal.returns-in-Ok-false-clause-damaged
returns-in-Ok-false-clause-damaged g c = λ r place wrong bytes told reaches.
    let same = c.sides.ensures ∙ ap (λ (p : Store). p.sides) c.pages.ensures ∙ ap (λ (k : Kept). k.pages.sides) c.objects.ensures in
    c.reaches.ensures.lacks (c.in-Ok-false.is ∙ ap (λ (b : Bool). Ok b) c.in-Ok-false.field-0-test) bytes told (subst (λ (ps : List (ℕ × ℕ)). ReachesSides ps bytes) (sym same) reaches)

pub returns-in-Err-clause-stopped : goal.returns-in-Err-clause-stopped
returns-in-Err-clause-stopped g c = λ r wrong.
    failed_on (disks_of g.P.Parts.disks c.args.self.now) (fused_disks g.P.Parts.disks c.reaches.new.parts) 2 (omega arith)
    (c.reaches.ensures.failed (c.in-Err.is ∙ ap (λ (o : Outage). Err o) (c.of_outage.ensures.stopped r (same_err _ c.of_outage.result (IsStopped r) refl wrong))))

pub returns-in-Ok-true-clause-steady : goal.returns-in-Ok-true-clause-steady
returns-in-Ok-true-clause-steady g c =
    let old = disks_of g.P.Parts.disks c.args.self.now in
    let now = fused_disks g.P.Parts.disks c.reaches.new.parts in
    stays_on old now 2 c.reaches.ensures.alone c.in-Ok-true.ensures.steady

pub returns-in-Ok-false-clause-quiet : goal.returns-in-Ok-false-clause-quiet
returns-in-Ok-false-clause-quiet g c = λ other.
    let old = disks_of g.P.Parts.disks c.args.self.now in
    let now = fused_disks g.P.Parts.disks c.reaches.new.parts in
    stays_on old now 2 c.reaches.ensures.alone c.in-Ok-false.ensures.steady

pub returns-in-Err-clause-quiet : goal.returns-in-Err-clause-quiet
returns-in-Err-clause-quiet g c = λ other.
    let old = disks_of g.P.Parts.disks c.args.self.now in
    let now = fused_disks g.P.Parts.disks c.reaches.new.parts in
    outage_quiet c.reaches.result c.in-Err.outage _ c.in-Err.is (λ w. stays_on old now 2 c.reaches.ensures.alone (c.reaches.ensures.wanting w)) (sym c.of_outage.ensures.stops ∙ other)

pub returns-in-Ok-true-clause-content : goal.returns-in-Ok-true-clause-content
returns-in-Ok-true-clause-content g c = content_stays (disks_of g.P.Parts.disks c.args.self.now) (fused_disks g.P.Parts.disks c.reaches.new.parts) 2 c.reaches.ensures.alone c.reaches.ensures.content

pub returns-in-Ok-false-clause-content : goal.returns-in-Ok-false-clause-content
returns-in-Ok-false-clause-content g c = content_stays (disks_of g.P.Parts.disks c.args.self.now) (fused_disks g.P.Parts.disks c.reaches.new.parts) 2 c.reaches.ensures.alone c.reaches.ensures.content

pub returns-in-Err-clause-content : goal.returns-in-Err-clause-content
returns-in-Err-clause-content g c = content_stays (disks_of g.P.Parts.disks c.args.self.now) (fused_disks g.P.Parts.disks c.reaches.new.parts) 2 c.reaches.ensures.alone c.reaches.ensures.content
