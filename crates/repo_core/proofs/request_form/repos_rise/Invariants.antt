use Rattle.std.proofs.Common.{◌≡◌, drop}
use Rattle.std.specs.Ordering.{nat_cmp}
use Rattle.log_codec.specs.Grammar.{rise, rise_from}
use Rattle.repo_core.proofs.request_form.repos_rise.Given as goal

-- the rest decides
abbrev pub invariant-loop-repo : goal.invariant-loop-repo
invariant-loop-repo l = rise_from nat_cmp l.last (drop l.repo-index l.repos) ≡ rise nat_cmp l.repos
