use Rattle.commit_log.specs.Holds.{Holds}
use Rattle.log_codec.specs.declared.state.State.{State}
use Rattle.repo_format.specs.Fresh.{first_state}
use Rattle.std.proofs.Common.{List, ap, subst, sym, ℕ, ◌∙◌, ◌≡◌}
use Rattle.repo_format.proofs.formatting.begin_log.Goals as goal

pub returns-in-Ok-clause-sides : goal.returns-in-Ok-clause-sides
returns-in-Ok-clause-sides g c = ap (λ (s : State). s.installed) c.in-Ok.ensures.said ∙ ap (λ (s : State). s.installed) c.in_ok-state.ensures.state

pub returns-in-Ok-clause-holds : goal.returns-in-Ok-clause-holds
returns-in-Ok-clause-holds g c = subst (λ (s : State). Holds (g.P.Parts.disks c.format.new.parts) c.in_ok-log.log s) (sym (c.in-Ok.ensures.same (ap (λ (s : State). s.format) c.in_ok-state.ensures.state))) c.in_ok-log.ensures.holds

pub returns-in-Ok-clause-fresh : goal.returns-in-Ok-clause-fresh
returns-in-Ok-clause-fresh g c =
    let sides : c.in-Ok.state.objects.pages.sides ≡ c.args.installed = ap (λ (s : State). s.installed) c.in-Ok.ensures.said ∙ ap (λ (s : State). s.installed) c.in_ok-state.ensures.state in
    record {
      said = c.in-Ok.ensures.same (ap (λ (s : State). s.format) c.in_ok-state.ensures.state) ∙ (c.in_ok-state.ensures.state ∙ ap (λ (i : List (ℕ × ℕ)). first_state c.args.repo c.args.repos c.args.setup.now i) (sym sides));
      granted = c.in-Ok.ensures.granted ∙ ap (λ (s : State). s.next_page) c.in_ok-state.ensures.state;
      limit = c.in-Ok.ensures.limit;
    }
