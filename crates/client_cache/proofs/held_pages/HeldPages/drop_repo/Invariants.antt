use Rattle.std.proofs.Common.{◌≡◌, length}
use Rattle.client_cache.specs.Copies.{elsewhere}
use Rattle.client_cache.proofs.held_pages.HeldPages.drop_repo.Given as goal

abbrev pub invariant-loop-page : goal.invariant-loop-page
invariant-loop-page l = elsewhere l.repo l.self ≡ elsewhere l.fn.repo l.fn.self

abbrev pub decreases-loop-page : goal.decreases-loop-page
decreases-loop-page l = length l.self
