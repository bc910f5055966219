use Rattle.std.proofs.Common.{◌≡◌, Err, IfOk, Ok, OnOk, Result, subst, sym}
use Rattle.repo_state.proofs.Unfit.{spelled_whole}
use Rattle.repo_state.proofs.Written.{state_fits}
use Rattle.repo_state.specs.Keeps.{Keeps}
use Rattle.repo_state.specs.Said.{spelled}
use Rattle.repo_state.specs.declared.held.Held.{Held}
use Rattle.log_codec.specs.Checkpoint.{StateFits}
use Rattle.log_codec.specs.declared.state.State.{State}
use Rattle.mob_buffer.specs.Buffer.{AreDistinct}
use Rattle.page_format.specs.Sides.{SidesFit}
use Rattle.commit_log.specs.Recovered.{is_whole}
use Rattle.std.specs.Prelude.{IsTrue, ◌<◌, ◌^◌}
use Rattle.repo_state.proofs.state.HeldState.state.Goals as goal

by_end : {E : Type 0} (r : Result State E) (h : Held) → Keeps h → h.count < 2 ^ 62 → IfOk r (λ s. s ≡ spelled h) → OnOk r (AreDistinct h.objects.mob.objects) → OnOk r (SidesFit h.objects.pages.sides) → IfOk r StateFits
by_end (Ok s) h keeps count is distinct sides = subst StateFits (sym is) (state_fits h keeps count sides distinct)
by_end (Err e) h keeps count is distinct sides = tt

pub returns-clause-fits : goal.returns-clause-fits
returns-clause-fits c = λ keeps count.
    by_end c.state.result c.self.inside.held (subst Keeps (sym c.self.view_is) keeps) (subst (λ (h : Held). h.count < 2 ^ 62) (sym c.self.view_is) count) c.state.ensures.spelled c.state.ensures.distinct c.state.ensures.sides

whole_end : {E : Type 0} (r : Result State E) (h : Held) → Keeps h → IfOk r (λ s. s ≡ spelled h) → IfOk r (λ s. IsTrue (is_whole s))
whole_end (Ok s) h keeps is = subst (λ (t : State). IsTrue (is_whole t)) (sym is) (spelled_whole h keeps)
whole_end (Err e) h keeps is = tt

pub returns-clause-whole : goal.returns-clause-whole
returns-clause-whole c = λ keeps. whole_end c.state.result c.self.inside.held (subst Keeps (sym c.self.view_is) keeps) c.state.ensures.spelled
