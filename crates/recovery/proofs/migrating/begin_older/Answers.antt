use Rattle.std.proofs.Common.{◌≡◌, ap, refl, subst, sym, ◌∙◌}
use Rattle.commit_log.specs.Holds.{Holds}
use Rattle.log_codec.specs.declared.state.State.{State}
use Rattle.recovery.proofs.Moving.{taken_repo, taken_said}
use Rattle.repo_state.specs.Keeps.{IsUnread}
use Rattle.repo_state.specs.Said.{said}
use Rattle.repo_state.specs.declared.held.Held.{Held}
use Rattle.recovery.proofs.migrating.begin_older.Goals as goal

pub begin-requires-clause-format : goal.begin-requires-clause-format
begin-requires-clause-format g c = ap (λ (s : State). s.format) c.requires.same

pub taken-requires : goal.taken-requires
taken-requires g c = taken_repo c.args.held c.in-Ok.moved c.args.state c.requires.same c.in-Ok.ensures.said

pub returns-in-Ok-clause-said : goal.returns-in-Ok-clause-said
returns-in-Ok-clause-said g c = ap (λ (h : Held). said h) c.taken.ensures.held ∙ taken_said c.args.held c.in-Ok.moved c.args.state c.requires.same c.in-Ok.ensures.said

pub returns-in-Ok-clause-holds : goal.returns-in-Ok-clause-holds
returns-in-Ok-clause-holds g c =
    let is : said c.taken.result ≡ c.args.state = ap (λ (h : Held). said h) c.taken.ensures.held ∙ taken_said c.args.held c.in-Ok.moved c.args.state c.requires.same c.in-Ok.ensures.said in
    subst (λ (s : State). Holds (g.P.Parts.disks c.begin.new.parts) c.in-Ok.log s) (sym is) c.in-Ok.ensures.holds

pub returns-in-Ok-clause-keeps : goal.returns-in-Ok-clause-keeps
returns-in-Ok-clause-keeps g c = c.taken.ensures.keeps c.in-Ok.ensures.keeps c.requires.keeps

pub returns-in-Ok-clause-unread : goal.returns-in-Ok-clause-unread
returns-in-Ok-clause-unread g c = subst (λ (h : Held). IsUnread h.objects.pages) (sym c.taken.ensures.held) c.in-Ok.ensures.unread

pub returns-in-Ok-clause-stays : goal.returns-in-Ok-clause-stays
returns-in-Ok-clause-stays g c = subst (λ (h : Held). h ≡ record c.args.held { objects = h.objects; next_page = h.next_page }) (sym c.taken.ensures.held) refl
