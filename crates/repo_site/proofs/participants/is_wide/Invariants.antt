use Rattle.spec_history.specs.Participants.{takes_part}
use Rattle.std.specs.Prelude.{true, ℕ, ◌<◌, ◌≡◌}
use Rattle.repo_site.proofs.participants.is_wide.Given as goal

-- those so far take part
abbrev pub invariant-loop-repo : goal.invariant-loop-repo
invariant-loop-repo l = (r : ℕ) → r < l.repo → takes_part l.number l.request r ≡ true
