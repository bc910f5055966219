use Rattle.law_cache_coherence.proofs.doomed.what_is_doomed.Goals as goal
use Rattle.law_cache_coherence.specs.Examples.{prepared}
use Rattle.spec_history.specs.Examples.{home}
use Rattle.spec_history.specs.History.{Fate, IsCommitted, Known, Open}
use Rattle.spec_trace.specs.Gaps.{client_in}
use Rattle.std.proofs.Common.{ap, false, refl, subst, true, ◌∙◌, ◌≡◌, ℕ}
use Rattle.std.specs.Prelude.{None, Option, Some}

fate_in : Option Known → Fate
fate_in None = Open
fate_in (Some o) = o.fate

session_in : Option Known → ℕ
session_in None = 0
session_in (Some o) = o.request.session

pub returns : goal.returns
unfolding fate_in session_in
returns c = record {
  prepared = record { o = _; there = refl; own = refl; uncommitted = λ done. done; coming = tt };
  aborting = record { o = _; there = refl; own = refl; uncommitted = λ done. done; coming = refl };
  lost = record { o = _; there = refl; own = refl; uncommitted = λ done. done; coming = tt };
  committing = λ d. let e : true ≡ false = d.coming in cc;
  decided = λ d. d.uncommitted (subst IsCommitted (ap fate_in d.there) tt);
  other = λ d. let e : Some 1 ≡ Some 2 = ap (λ (k : Option Known). client_in home prepared (session_in k)) d.there ∙ d.own in cc;
}
