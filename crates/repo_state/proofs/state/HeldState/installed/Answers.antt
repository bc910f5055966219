use Rattle.std.proofs.Common.{◌≡◌, ap, subst, sym, ◌∙◌}
use Rattle.repo_state.proofs.Ends.{on_ok}
use Rattle.repo_state.proofs.Entries.{keeps_installed, unread_installed}
use Rattle.repo_state.specs.Entering.{installed_in}
use Rattle.repo_state.specs.Keeps.{IsUnread, Keeps}
use Rattle.repo_state.specs.declared.held.Held.{Held}
use Rattle.repo_state.proofs.state.HeldState.installed.Goals as goal

pub returns-clause-keeps : goal.returns-clause-keeps
returns-clause-keeps c = λ keeps.
    on_ok (c.installed.new.self ≡ installed_in c.self.inside.held c.args.page c.args.side) _ c.installed.result (λ e.
    subst Keeps (sym (e ∙ ap (λ (h : Held). installed_in h c.args.page c.args.side) c.self.view_is)) (keeps_installed c.args.self.now c.args.page c.args.side keeps)) c.installed.ensures

pub returns-clause-unread : goal.returns-clause-unread
returns-clause-unread c = λ unread.
    on_ok (c.installed.new.self ≡ installed_in c.self.inside.held c.args.page c.args.side) _ c.installed.result (λ e.
    subst (λ (h : Held). IsUnread h.objects.pages) (sym (e ∙ ap (λ (h : Held). installed_in h c.args.page c.args.side) c.self.view_is)) (unread_installed c.args.self.now c.args.page c.args.side unread)) c.installed.ensures
