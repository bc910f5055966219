-- Two-phase commit as a computation: each clause of IsAtomic as a test that goes over what is known.
use Rattle.spec_history.specs.Checking.{if_then, is_committed}
use Rattle.spec_history.specs.History.{Aborted, Committed, Fate, Open, Known, or_lost, state}
use Rattle.law_atomic_commit.specs.Several.{Several, committed, part}
use Rattle.spec_history.specs.Participants.{takes_part}
use Rattle.std.specs.List.{list_all, range_with_len}
use Rattle.std.specs.Option.{is_some}
use Rattle.std.specs.Prelude.{Bool, None, Option, Some, false, true, ℕ}
use Rattle.thor_value.specs.declared.names.Ts.{Ts}

abbrev pub is_aborted : Fate → Bool
is_aborted Open = false
is_aborted (Committed at) = false
is_aborted Aborted = true

abbrev pub is_aborted_part : Option Known → Bool
is_aborted_part None = false
is_aborted_part (Some o) = is_aborted o.fate

-- whether the test holds of each transaction at each repository, as it stands there
abbrev pub each_part : Several → (ℕ → Ts → Known → Bool) → Bool
each_part S test = list_all (λ r. list_all (λ e. test r e.0 (or_lost (S.base r) (state (S.base r) (S.history r)) e.0 e.1)) (state (S.base r) (S.history r)).known.pairs) (range_with_len 0 S.repos)

abbrev pub is_known_there : Several → Bool
is_known_there S = each_part S (λ r t o. is_some (part S t.repo t))

abbrev pub is_everywhere : Several → Bool
is_everywhere S = each_part S (λ r t o. if_then (committed S t) (list_all (λ n. if_then (takes_part r o.request n) (is_some (part S n t))) (range_with_len 0 S.repos)))

abbrev pub is_agreed : Several → Bool
is_agreed S = each_part S (λ r t o. if_then (is_committed o.fate) (committed S t))

abbrev pub is_given_up : Several → Bool
is_given_up S = each_part S (λ r t o. if_then (is_aborted o.fate) (is_aborted_part (part S t.repo t)))
