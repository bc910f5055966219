-- An entry that is made may come next, and the repository is as its trace says behind it.
use Rattle.log_entries.specs.declared.entry.Entry.TheVariants.{Decided, Finished, Life, One, Prepared, Upgraded}
use Rattle.log_entries.specs.declared.entry.Entry.{Entry}
use Rattle.repo_state.specs.Entering.{entered}
use Rattle.repo_state.specs.declared.held.Held.{Held}
use Rattle.spec_history.specs.History.{Base}
use Rattle.law_repo_memory.proofs.Accepted.{owes-decided, owes-finished, owes-one, owes-prepared, owes-upgraded}
use Rattle.law_repo_memory.proofs.Answering.{session-answers}
use Rattle.law_repo_memory.proofs.Exactness.{comes-exact, decided-exact}
use Rattle.law_repo_memory.proofs.Owed.{trace-behind}
use Rattle.law_repo_memory.specs.Agreeing.{Agrees, trace_of}
use Rattle.law_repo_memory.specs.Judging.{SessionsAnswer}
use Rattle.law_repo_memory.specs.Running.{IsInAgreement, Repository}
use Rattle.law_repo_runs.proofs.Next.{agrees-next, moved-agrees, moved-moves, moved-next}
use Rattle.law_repo_runs.proofs.Recording.{behind-entry}
use Rattle.law_repo_runs.proofs.Telling.{has-come, no-life}
use Rattle.law_repo_runs.specs.Happening.{DecisionIsLearnt, DecisionIsMade, EntryIsMade, MayMake, RequestIsMade}
use Rattle.law_repo_runs.specs.Standing.{IsRecorded, IsRight, MayBeNext, Up}
use Rattle.law_repo_sessions.proofs.Came.{entry_agrees}
use Rattle.law_repo_sessions.specs.Agreeing.{SessionsAgree}
use Rattle.spec_trace.specs.Trace.{Item}
use Rattle.std.proofs.Common.{List, refl, subst, sym, ◌≡◌}
use Rattle.std.specs.Option.{IsSome}
use Rattle.std.specs.Prelude.{None, Option, Some}
use Rattle.repo_trace.specs.Recorded.{Recorded, with_entry}
use Rattle.two_phase.specs.Contents.{open_at}

some-there : {A : Type 0} (o : Option A) (x : A) → o ≡ Some x → IsSome o
some-there None x e = cc
some-there (Some y) x e = refl

module _ (b : Base) (x : Repository) (a : IsInAgreement b x) (ss : SessionsAgree b (trace_of x.trace) x.memory.sessions) where
  answers : SessionsAnswer b (trace_of x.trace) x.memory.sessions
  answers = session-answers b (trace_of x.trace) x.memory.sessions ss

  pub may-be-next : (e : Entry) → MayMake b x e → MayBeNext b x.trace x.held e
  may-be-next (Life n) may = absurd may
  may-be-next (One q) may =
      let c : RequestIsMade b x q = may.0 in
      record {
        owes = owes-one b x.trace x.held x.memory q.session q a answers c.accepted c.vouched.vouched may.1 may.2;
        exact = comes-exact b x.trace x.held x.memory q a answers c.accepted c.client c.upto c.vouched.granted c.paged;
        fits = record { unkept = c.accepted.unkept; granted = c.vouched.granted };
      }
  may-be-next (Prepared q) may =
      let c : RequestIsMade b x q = may.0 in
      record {
        owes = owes-prepared b x.trace x.held x.memory q.session q a answers c.accepted c.vouched.vouched may.1;
        exact = comes-exact b x.trace x.held x.memory q a answers c.accepted c.client c.upto c.vouched.granted c.paged;
        fits = record { unkept = c.accepted.unkept; granted = c.vouched.granted };
      }
  may-be-next (Upgraded q) may =
      let c : RequestIsMade b x q = may.0 in
      record {
        owes = owes-upgraded b x.trace x.held x.memory q.session q a answers c.accepted c.vouched.vouched may.1 may.2;
        exact = comes-exact b x.trace x.held x.memory q a answers c.accepted c.client c.upto c.vouched.granted c.paged;
        fits = record { unkept = c.accepted.unkept; granted = c.vouched.granted };
      }
  may-be-next (Decided t c) may =
      let d : DecisionIsMade b x t = may in
      record {
        owes = owes-decided b x.trace x.held x.memory.requested t d.request a.held d.prepared c d.here;
        exact = decided-exact b x.trace x.held x.memory t d.request c a answers d.prepared d.unended;
        fits = some-there (open_at x.held.table t) d.request d.prepared;
      }
  may-be-next (Finished t c) may =
      let d : DecisionIsLearnt b x t = may in
      record {
        owes = owes-finished b x.trace x.held x.memory.requested t d.request a.held d.prepared c d.elsewhere;
        exact = tt;
        fits = some-there (open_at x.held.table t) d.request d.prepared;
      }

  pub made : (k : IsRecorded b x.trace) (e : Entry) (y : Repository) → EntryIsMade b x e y → IsRight b y Up
  made k e y m =
      let n : MayBeNext b x.trace x.held e = may-be-next e m.may in
      let agrees : Agrees b (with_entry x.trace e) (entered m.between e) y.memory = agrees-next b x.trace m.between x.memory y.memory (moved-agrees b x.trace x.held m.between x.memory m.moves a) e (moved-next b x.trace x.held m.between e m.moves n) (moved-moves x.held m.between x.memory y.memory e m.moves m.memory) in
      let told : SessionsAgree b (trace_of (with_entry x.trace e)) y.memory.sessions = subst (λ (T : List Item). SessionsAgree b T y.memory.sessions) (sym (trace-behind b x.trace a.held.owed e n.owes)) (entry_agrees b (trace_of x.trace) e x.memory.sessions y.memory.sessions (no-life b x e m.may) ss (has-come b x y.memory.sessions e a.held m.may m.tells)) in
      record {
        recorded = subst (IsRecorded b) (sym m.trace) (behind-entry b x.trace a.held.owed k e n.owes n.exact);
        stands = (
          subst (λ (r : Recorded). Agrees b r y.held y.memory) (sym m.trace) (subst (λ (h : Held). Agrees b (with_entry x.trace e) h y.memory) (sym m.held) agrees),
          subst (λ (r : Recorded). SessionsAgree b (trace_of r) y.memory.sessions) (sym m.trace) told,
        );
      }
