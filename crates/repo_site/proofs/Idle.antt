-- A verdict comes where nothing of its transaction is undecided.
use Rattle.client_port.specs.Works.{FinishWork}
use Rattle.law_repo_calls.proofs.Stepping.{runs_same}
use Rattle.repo_core.specs.Shown.{Shown}
use Rattle.repo_site.proofs.Leaving.{calm}
use Rattle.repo_site.proofs.RequestWorks.{open_is}
use Rattle.repo_site.specs.Working.{AnyBase, RunsBy, WorksBy}
use Rattle.std.proofs.Common.{Bool, Ok, false, refl, sym, true, ◌∙◌, ◌≡◌}
use Rattle.std.specs.Prelude.{None, is_some}
use Rattle.thor_value.specs.declared.names.Ts.{Ts}
use Rattle.two_phase.specs.Contents.{open_at}

module _ (x : Shown) where
  pub idle_runs : RunsBy AnyBase x x
  idle_runs = record { runs = λ b q k. runs_same b x x refl }

  pub finish_idle : (t : Ts) (c : Bool) → x.is_up ≡ true → is_some (open_at x.held.table t) ≡ false → WorksBy AnyBase x x (FinishWork t c (Ok None))
  finish_idle t c up none = record { works = λ b u q k m. (sym (open_is b x x u k k up m t) ∙ none, (refl, calm x u m up)) }
