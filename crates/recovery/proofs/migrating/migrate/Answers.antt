use Rattle.std.proofs.Common.{◌≡◌, IfOk, inl, refl, subst, sym, ℕ}
use Rattle.commit_log.proofs.Holding.{holds_says}
use Rattle.commit_log.specs.Holds.{Holds}
use Rattle.commit_log.specs.Recovered.{in_format}
use Rattle.disk_trait.proofs.Several.{all_none, goes_none}
use Rattle.disk_trait.specs.Disks.{WhereTold}
use Rattle.page_format.specs.declared.format.StoreFormat.{StoreFormat}
use Rattle.recovery.specs.Found.{recorded}
use Rattle.recovery.specs.Migrating.{Becomes, SaysMigrated}
use Rattle.recovery.specs.Paged.{AreObjectPages, HasSides}
use Rattle.repo_state.specs.Said.{said}
use Rattle.recovery.proofs.migrating.migrate.Goals as goal

pub returns-in-Two-clause-goes : goal.returns-in-Two-clause-goes
returns-in-Two-clause-goes g c = goes_none (g.P.Parts.disks c.args.parts.now)

pub returns-in-Two-clause-any_moment : goal.returns-in-Two-clause-any_moment
returns-in-Two-clause-any_moment g c = λ tells images reads. all_none (g.P.Parts.disks c.args.parts.now) (SaysMigrated (recorded c.args.recovered) (images 2)) (λ now left. inl (holds_says (g.P.Parts.disks c.args.parts.now) c.args.recovered.log (recorded c.args.recovered) c.requires.holds tells now left))

pub returns-in-Two-clause-holds : goal.returns-in-Two-clause-holds
returns-in-Two-clause-holds g c = subst (λ (f : StoreFormat). Holds (g.P.Parts.disks c.args.parts.now) c.args.recovered.log (in_format f (said c.args.recovered.state))) c.in-Two.is c.requires.holds

pub returns-in-Two-clause-becomes : goal.returns-in-Two-clause-becomes
returns-in-Two-clause-becomes g c = λ images reads. subst (λ (f : StoreFormat). Becomes f (in_format f (said c.args.recovered.state)) (images 2) (said c.args.recovered.state)) (sym c.in-Two.is) refl

pub move_older-requires-clause-sides : goal.move_older-requires-clause-sides
move_older-requires-clause-sides g c = subst (λ (f : StoreFormat). WhereTold (g.P.Parts.disks c.args.parts.now) 2 (HasSides f c.args.recovered.state.objects.pages.sides)) c.in-One.is c.requires.sides

pub move_older-requires-clause-paged : goal.move_older-requires-clause-paged
move_older-requires-clause-paged g c = subst (λ (f : StoreFormat). WhereTold (g.P.Parts.disks c.args.parts.now) 2 (AreObjectPages f c.args.recovered.state.repo c.args.recovered.state.objects.pages.sides)) c.in-One.is c.requires.paged

pub returns-in-One-clause-becomes : goal.returns-in-One-clause-becomes
returns-in-One-clause-becomes g c = λ images reads. subst (λ (f : StoreFormat). IfOk c.move_older.result (λ r. Becomes f (recorded c.args.recovered) (images 2) (said r.state))) (sym c.in-One.is) (c.move_older.ensures.becomes images reads)
