use Rattle.std.proofs.Common.{subst, sym}
use Rattle.repo_state.proofs.Entries.{keeps_objects, of_without}
use Rattle.repo_state.specs.Keeps.{Keeps}
use Rattle.repo_state.specs.declared.held.Held.{Held}
use Rattle.mob_buffer.specs.Buffer.{AreOf, Buffer}
use Rattle.page_store.specs.Store.{Agrees}
use Rattle.repo_state.proofs.state.HeldState.settle.Goals as goal

pub returns-clause-keeps : goal.returns-clause-keeps
returns-clause-keeps c = λ keeps.
    let h = c.self.inside.held in
    let inside : Keeps h = subst Keeps (sym c.self.view_is) keeps in
    keeps_objects h c.settle.new.self inside (subst (λ (m : Buffer). AreOf h.repo m.objects) (sym c.settle.ensures.mob) (of_without h.repo c.args.page h.objects.mob.objects inside.objects))

pub returns-clause-agrees : goal.returns-clause-agrees
returns-clause-agrees c = λ disk agrees. c.settle.ensures.agrees disk (subst (λ (h : Held). Agrees h.objects.pages disk) (sym c.self.view_is) agrees)
