use Rattle.std.proofs.Common.{ap, refl, ◌∙◌}
use Rattle.log_codec.specs.Format.{value_of}
use Rattle.log_codec.specs.Grammar.{body_format}
use Rattle.log_codec.specs.declared.body.Body.TheVariants.{Installed as AnInstalled}
use Rattle.commit_log.proofs.Holding.{append_holds, append_says, none_says, ok_of_three, pages_stay, pages_still}
use Rattle.disk_trait.proofs.Several.{no_fault_beside}
use Rattle.commit_log.proofs.Holding.{ok_then}
use Rattle.commit_log.proofs.open_log.CommitLog.installed.Goals as goal

pub returns-in_err-body-clause-any_moment : goal.returns-in_err-body-clause-any_moment
returns-in_err-body-clause-any_moment g c = λ s holds tells. none_says _ _ s (AnInstalled c.args.page c.args.side) holds tells

pub returns-clause-any_moment : goal.returns-clause-any_moment
returns-clause-any_moment g c = rw (← c.self.view_is) (λ s holds tells.
    let had = rw (← c.self.view_is) at c.requires.holds in
    append_says (g.P.Parts.disks c.args.parts.now) (g.P.Parts.disks c.append.new.parts) c.self.inside.log s had.0 (AnInstalled c.args.page c.args.side) c.as_slice.result.now holds had.1 refl (ap (value_of body_format) c.as_slice.ensures ∙ c.in_ok-body.ensures.read)
    tells c.append.ensures.any_moment)

pub returns-clause-appended : goal.returns-clause-appended
returns-clause-appended g c = rw (← c.self.view_is)
    (ok_of_three c.append.result (λ appended settled agrees s holds.
    let had = rw (← c.self.view_is) at c.requires.holds in
    append_holds (g.P.Parts.disks c.args.parts.now) (g.P.Parts.disks c.append.new.parts) c.self.inside.log c.append.new.self s had.0 (AnInstalled c.args.page c.args.side) c.as_slice.result.now holds had.1 refl (ap (value_of body_format) c.as_slice.ensures ∙ c.in_ok-body.ensures.read)
    c.append.ensures.alone settled c.append.ensures.disk agrees appended)
    c.append.ensures.appended c.append.ensures.settled c.append.ensures.agrees)

pub returns-clause-pages : goal.returns-clause-pages
returns-clause-pages g c =
    let holds = rw (← c.self.view_is) at c.requires.holds in
    pages_stay (g.P.Parts.disks c.args.parts.now) (g.P.Parts.disks c.append.new.parts) c.self.inside.log.disk c.self.inside.log.disk refl holds.1.within c.append.ensures.alone

pub returns-clause-still : goal.returns-clause-still
returns-clause-still g c =
    let holds = rw (← c.self.view_is) at c.requires.holds in
    pages_still (g.P.Parts.disks c.args.parts.now) (g.P.Parts.disks c.append.new.parts) c.self.inside.log.disk c.self.inside.log.disk refl holds.1.within c.append.ensures.alone

pub returns-clause-steady : goal.returns-clause-steady
returns-clause-steady g c = ok_then c.append.result (no_fault_beside (g.P.Parts.disks c.args.parts.now) (g.P.Parts.disks c.append.new.parts) c.self.inside.log.disk c.append.ensures.alone) c.append.ensures.steady

pub returns-clause-wanting : goal.returns-clause-wanting
returns-clause-wanting g c = λ wrong. no_fault_beside (g.P.Parts.disks c.args.parts.now) (g.P.Parts.disks c.append.new.parts) c.self.inside.log.disk c.append.ensures.alone (c.append.ensures.wanting wrong)
