use Rattle.spec_history.proofs.Listed.{commits_listed, recorded}
use Rattle.spec_history.proofs.Prefixes.{above_base, one_at_a_place}
use Rattle.spec_history.proofs.history_laws.requests_are_recorded.Goals as goal

pub returns : goal.returns
returns c = record { recorded = recorded; apart = one_at_a_place; commits = commits_listed; above = above_base }
