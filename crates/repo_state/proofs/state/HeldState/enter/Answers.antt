use Rattle.std.proofs.Common.{◌≡◌, ap, subst, sym, ◌∙◌}
use Rattle.repo_state.proofs.Ends.{on_ok}
use Rattle.repo_state.proofs.Entries.{can_move, keeps_entered, pages_entered, said_entered}
use Rattle.repo_state.specs.Entering.{CanMove, entered}
use Rattle.repo_state.specs.Keeps.{Keeps}
use Rattle.repo_state.specs.Said.{said}
use Rattle.repo_state.specs.declared.held.Held.{Held}
use Rattle.repo_state.proofs.state.HeldState.enter.Goals as goal

pub enter-requires : goal.enter-requires
enter-requires c = subst (λ (h : Held). CanMove h c.args.entry.now) (sym c.self.view_is) (can_move c.args.self.now c.requires.keeps c.args.entry.now c.requires.fits c.requires.takes)

pub returns-clause-keeps : goal.returns-clause-keeps
returns-clause-keeps c =
    on_ok (c.enter.new.self ≡ entered c.self.inside.held c.args.entry.now) _ c.enter.result (λ e.
    subst Keeps (sym (e ∙ ap (λ (h : Held). entered h c.args.entry.now) c.self.view_is)) (keeps_entered c.args.self.now c.requires.keeps c.args.entry.now c.requires.fits c.requires.takes)) c.enter.ensures

pub returns-clause-said : goal.returns-clause-said
returns-clause-said c =
    on_ok (c.enter.new.self ≡ entered c.self.inside.held c.args.entry.now) _ c.enter.result (λ e.
    ap said (e ∙ ap (λ (h : Held). entered h c.args.entry.now) c.self.view_is) ∙ said_entered c.args.self.now c.requires.keeps c.args.entry.now c.requires.takes) c.enter.ensures

pub returns-clause-pages : goal.returns-clause-pages
returns-clause-pages c =
    on_ok (c.enter.new.self ≡ entered c.self.inside.held c.args.entry.now) _ c.enter.result (λ e.
    ap (λ (h : Held). h.objects.pages) (e ∙ ap (λ (h : Held). entered h c.args.entry.now) c.self.view_is) ∙ pages_entered c.args.self.now c.args.entry.now) c.enter.ensures
