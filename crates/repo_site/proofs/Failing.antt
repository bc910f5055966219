-- What a call promises that fails its test: nothing is done, and the repository is down.
use Rattle.client_port.specs.Works.{AskWork, CommitWork, ConnectWork, DecideWork, FetchWork, FinishWork, ForgetWork, PrepareWork, alone_entry, is_prepared_by}
use Rattle.law_repo_calls.proofs.Phases.{down_phase}
use Rattle.law_repo_memory.specs.Agreeing.{trace_of}
use Rattle.law_repo_runs.specs.Standing.{Phase}
use Rattle.log_entries.specs.declared.entry.Entry.TheVariants.{Decided, Finished, Prepared}
use Rattle.log_entries.specs.declared.request.Request.{Request}
use Rattle.repo_core.specs.Shown.{Shown}
use Rattle.repo_refusals.specs.declared.refusal.Refusal.TheVariants as refused
use Rattle.repo_site.proofs.Leaving.{have_halted}
use Rattle.repo_site.specs.Working.{AnyBase, Halts, MayLeave, RunsBy, WorksBy}
use Rattle.session_outbox.specs.declared.answers.Asked as answer
use Rattle.spec_history.specs.History.{Base, is_undecided, known_by}
use Rattle.spec_trace.specs.Trace.{entries}
use Rattle.spec_trace.specs.Verdict.{verdict}
use Rattle.std.proofs.Common.{Bool, Err, ap, false, subst, true, ℕ, ◌≡◌}
use Rattle.std.specs.Prelude.{None}
use Rattle.thor_value.specs.declared.names.Ts.{Ts}

pub halted_so : (x y : Shown) → y.is_up ≡ false → y.is_torn ≡ false → y.pending ≡ None → y.trace ≡ x.trace → Halts x y
halted_so x y down whole none same = record { halts = λ u m. (ap trace_of same, subst (λ (p : Phase). MayLeave p u) (down_phase y None down whole none) m) }

module _ (Q : Base → Type 0) (x y : Shown) where
  pub any_runs : RunsBy AnyBase x y → RunsBy Q x y
  any_runs r = record { runs = λ b q k. r.runs b tt k }

  pub connect_fails : (client : ℕ) → Halts x y → WorksBy Q x y (ConnectWork client (Err refused.NoMemory))
  connect_fails client h = record { works = λ b u q k m. (tt, h.halts u m) }

  pub fetch_fails : (s page upto : ℕ) → Halts x y → WorksBy Q x y (FetchWork s page upto (Err refused.NoMemory))
  fetch_fails s page upto h = record { works = λ b u q k m. (tt, h.halts u m) }

  pub prepare_fails : (s : ℕ) (q : Request) → Halts x y → WorksBy Q x y (PrepareWork s q (Err refused.NoMemory))
  prepare_fails s q h = record { works = λ b u p k m. ((h.halts u m).0, have_halted (Prepared q) (verdict b (trace_of x.trace) s q ≡ None) u (h.halts u m).1) }

  pub commit_fails : (s : ℕ) (q : Request) → Halts x y → WorksBy Q x y (CommitWork s q (Err refused.NoMemory))
  commit_fails s q h = record { works = λ b u p k m. ((h.halts u m).0, have_halted (alone_entry q) (verdict b (trace_of x.trace) s q ≡ None) u (h.halts u m).1) }

  pub decide_fails : (s : ℕ) (t : Ts) (c : Bool) → Halts x y → WorksBy Q x y (DecideWork s t c (Err refused.NoMemory))
  decide_fails s t c h = record { works = λ b u p k m. ((h.halts u m).0, have_halted (Decided t c) (is_prepared_by s (known_by b (entries (trace_of x.trace)) t) ≡ true) u (h.halts u m).1) }

  pub finish_fails : (t : Ts) (c : Bool) → Halts x y → WorksBy Q x y (FinishWork t c (Err refused.NoMemory))
  finish_fails t c h = record { works = λ b u p k m. ((h.halts u m).0, have_halted (Finished t c) (is_undecided (known_by b (entries (trace_of x.trace)) t) ≡ true) u (h.halts u m).1) }

  pub forget_fails : (t : Ts) → Halts x y → WorksBy Q x y (ForgetWork t (Err refused.NoMemory))
  forget_fails t h = record { works = λ b u p k m. (tt, h.halts u m) }

  pub ask_fails : (t : Ts) → Halts x y → WorksBy Q x y (AskWork t (Err refused.NoMemory))
  ask_fails t h = record { works = λ b u p k m. (tt, h.halts u m) }
