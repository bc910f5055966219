use Rattle.std.proofs.Common.{◌≡◌, arith, ap, refl, subst, sym, ◌∙◌}
use Rattle.commit_log.specs.Recovered.{in_format}
use Rattle.commit_log.specs.Values.{migrated}
use Rattle.disk_trait.specs.Disks.{WhereTold}
use Rattle.log_codec.specs.declared.state.State.{State}
use Rattle.mob_buffer.specs.Buffer.{AreOf}
use Rattle.page_format.specs.declared.format.StoreFormat.TheVariants.{One}
use Rattle.recovery.proofs.Migrated.{migrated_same, moved_is}
use Rattle.recovery.proofs.Moving.{err_at}
use Rattle.recovery.specs.Migrating.{IsMigrated}
use Rattle.recovery.specs.Paged.{ArePaged, AreObjectPages, HasSides}
use Rattle.recovery.specs.declared.fault.RecoverFault.TheVariants.{Damaged}
use Rattle.repo_state.specs.Said.{said, spelled}
use Rattle.recovery.proofs.migrating.moved_state.Goals as goal

pub read_paged-requires : goal.read_paged-requires
read_paged-requires g c = record { told = subst (λ (s : State). WhereTold (g.P.Parts.disks c.args.parts.now) 2 (HasSides One s.installed)) (sym c.in_ok-before.ensures.spelled) c.requires.sides }

pub with_objects-requires-clause-paged : goal.with_objects-requires-clause-paged
with_objects-requires-clause-paged g c = c.in-Ok.ensures.own c.in_ok-before.ensures.few

pub with_objects-requires-clause-buffer : goal.with_objects-requires-clause-buffer
with_objects-requires-clause-buffer g c = subst (λ (s : State). AreOf s.repo s.mob) (sym c.in_ok-before.ensures.spelled) c.requires.keeps.objects

pub returns-in_ok-state-in-Ok-clause-same : goal.returns-in_ok-state-in-Ok-clause-same
returns-in_ok-state-in-Ok-clause-same g c = migrated_same c.args.held.now c.in-Ok.paged c.in_ok-state-in-Ok.state (c.in_ok-state-in-Ok.ensures.moved ∙ ap (λ (s : State). migrated c.in-Ok.paged s) c.in_ok-before.ensures.spelled)

pub returns-in_ok-state-in-Ok-clause-moved : goal.returns-in_ok-state-in-Ok-clause-moved
returns-in_ok-state-in-Ok-clause-moved g c = λ images reads.
    let held = c.args.held.now in
    let is : c.in_ok-state-in-Ok.state ≡ migrated c.in-Ok.paged (spelled held) = c.in_ok-state-in-Ok.ensures.moved ∙ ap (λ (s : State). migrated c.in-Ok.paged s) c.in_ok-before.ensures.spelled in
    let on : ArePaged One held.repo (images 2) held.objects.pages.sides c.in-Ok.paged = subst (λ (s : State). ArePaged One s.repo (images 2) s.installed c.in-Ok.paged) c.in_ok-before.ensures.spelled (c.in-Ok.ensures.paged (images 2) (reads 2 (omega arith))) in
    subst (λ (s : State). IsMigrated (in_format One (said held)) (images 2) s) (sym is) (moved_is held (images 2) c.in-Ok.paged c.requires.keeps on)

pub returns-in-Err-clause-damaged : goal.returns-in-Err-clause-damaged
returns-in-Err-clause-damaged g c = λ d place is tells.
    let told = tells 2 (omega arith) in
    c.read_paged.ensures.damaged d place (err_at c.read_paged.result _ c.in-Err.fault (Damaged d place) c.in-Err.is refl is) told.0 told.1 (subst (λ (s : State). AreObjectPages One s.repo s.installed told.0) (sym c.in_ok-before.ensures.spelled) (c.requires.paged told.0 told.1))
