-- A request that isn't too old is above all that committed in earlier runs.
use Rattle.log_entries.specs.declared.entry.Entry.{Entry}
use Rattle.log_entries.specs.declared.request.Request.{Request}
use Rattle.spec_history.proofs.Listed.{some_and}
use Rattle.spec_history.proofs.Prefixes.{above_base}
use Rattle.spec_history.proofs.Stamps.{at_most_before, at_most_itself, before_at_most}
use Rattle.spec_history.specs.History.{Base, IsCommitted, known_by}
use Rattle.spec_history.specs.Sound.{sound}
use Rattle.spec_trace.proofs.Thresholds.{thresholds}
use Rattle.spec_trace.specs.Epochs.{IsOfCommit}
use Rattle.std.proofs.Common.{List, inl, inr, subst, sym, ◌≡◌}
use Rattle.std.specs.Prelude.{None}
use Rattle.thor_value.specs.Names.{AtMost, Before}
use Rattle.thor_value.specs.declared.names.Ts.{Ts}
use Rattle.repo_refusals.proofs.Validated.{above_threshold}
use Rattle.repo_refusals.specs.Refusals.{too_old}
use Rattle.repo_refusals.specs.Window.{window}

module _ (b : Base) (H : List Entry) (sd : sound b H) where
  of-commit : (t : Ts) → IsOfCommit b H t → AtMost b.top t
  of-commit t (inl base) = subst (AtMost b.top) (sym base) (at_most_itself b.top)
  of-commit t (inr h) = let y = some_and (known_by b H t) (λ o. IsCommitted o.fate) h in before_at_most b.top t (above_base b H sd t y.0 y.1)

  -- the threshold isn't below what committed in earlier runs
  pub threshold-above : AtMost b.top (window b H).threshold
  threshold-above = of-commit (window b H).threshold (thresholds b H sd).threshold

  -- and a request that isn't too old is above that
  pub request-above : (q : Request) → too_old (window b H) q ≡ None → Before b.top q.tx
  request-above q e = at_most_before b.top (window b H).threshold q.tx threshold-above (above_threshold (window b H) q e)
