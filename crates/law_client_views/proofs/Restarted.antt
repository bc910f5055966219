-- The restarts of a repository, as what they make of its trace.
use Rattle.law_client_views.specs.Standing.{ComesUp, FailsBehind, Restarts, TakesNone}
use Rattle.law_repo_memory.specs.Agreeing.{trace_of}
use Rattle.law_repo_memory.specs.Running.{Repository, recorded_with}
use Rattle.law_repo_runs.specs.Restarting as runs
use Rattle.law_repo_runs.specs.Standing.{Phase, Up}
use Rattle.log_entries.specs.declared.entry.Entry.TheVariants.{Life}
use Rattle.log_entries.specs.declared.entry.Entry.{Entry}
use Rattle.repo_trace.specs.Recorded.{Recorded}
use Rattle.spec_history.specs.History.{Base}
use Rattle.spec_trace.proofs.Traces.{items-entry, trace-end}
use Rattle.spec_trace.specs.Trace.{E, IsTrace, Item, item_at}
use Rattle.std.proofs.Common.{List, [], ap, inl, inr, subst, sym, ◌++◌, ◌+◌, ◌∙◌, ◌∷◌, ◌≡◌}
use Rattle.std.proofs.lemmas.List.{append-nil}
use Rattle.std.specs.Prelude.{None, Option, Some, ◌⊎◌}

-- the trace behind what was taken
behind_taken : (r : Recorded) (o : Option Entry) → IsTrace r.history r.marks → trace_of (recorded_with r o) ≡ trace_of r ++ item_at o
behind_taken r None h = sym (append-nil (trace_of r))
behind_taken r (Some e) h = items-entry r.history r.marks e h

still_trace : (r : Recorded) (o : Option Entry) → IsTrace r.history r.marks → IsTrace (recorded_with r o).history (recorded_with r o).marks
still_trace r None h = h
still_trace r (Some e) h = trace-end r.history r.marks e h

module _ (b : Base) (x : Repository) (p : Phase) (h : IsTrace x.trace.history x.trace.marks) where
  module _ (z : Repository) (f : runs.Recovers b x p z) where
    recovered : trace_of z.trace ≡ trace_of x.trace ++ item_at f.taken
    recovered = ap trace_of f.trace ∙ behind_taken x.trace f.taken h

    is_trace : IsTrace z.trace.history z.trace.marks
    is_trace = subst (λ (r : Recorded). IsTrace r.history r.marks) (sym f.trace) (still_trace x.trace f.taken h)

  pub comes_up : (y : Repository) (q : Phase) → q ≡ Up → runs.ComesUp b x p y → Restarts p (trace_of x.trace) q (trace_of y.trace)
  comes_up y q up c =
      let z : Repository = c.between in
      ComesUp c.recovers.taken (z.held.life + 1) c.recovers.may up
      (ap trace_of c.begins.trace ∙ items-entry z.trace.history z.trace.marks (Life (z.held.life + 1)) (is_trace z c.recovers)
      ∙ ap (λ (T : List Item). T ++ E (Life (z.held.life + 1)) ∷ []) (recovered z c.recovers))

  pub fails : (y : Repository) (q : Phase) → runs.TakesNone x p y q ⊎ runs.FailsBehind b x p y q → Restarts p (trace_of x.trace) q (trace_of y.trace)
  fails y q (inl none) = TakesNone none.phase (ap trace_of none.down.trace)
  fails y q (inr c) = FailsBehind c.recovers.taken (c.between.held.life + 1) c.recovers.may c.phase (ap trace_of c.down.trace ∙ recovered c.between c.recovers)
