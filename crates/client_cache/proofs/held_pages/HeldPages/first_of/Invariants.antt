use Rattle.std.proofs.Common.{◌≡◌, true}
use Rattle.client_cache.specs.Copies.{elsewhere, holds}
use Rattle.client_cache.specs.declared.page_name.PageName.{PageName}
use Rattle.client_cache.proofs.held_pages.HeldPages.first_of.Given as goal

abbrev pub invariant-loop-page : goal.invariant-loop-page
invariant-loop-page l =
    (goal.iterator-loop-page).can_next l.page-iterator ×
    (goal.iterator-loop-page).is_finite l.page-iterator ×
    (elsewhere l.fn.repo l.page-iterator ≡ l.page-iterator → elsewhere l.fn.repo l.fn.self ≡ l.fn.self) ×
    ((p : PageName) → holds l.page-iterator p ≡ true → holds l.fn.self p ≡ true)
