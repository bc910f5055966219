use Rattle.std.specs.Map.{lookup}
use Rattle.client_cache.specs.Changes.{kept_behind}
use Rattle.client_cache.specs.Pages.{on, same_page}
use Rattle.client_cache.proofs.Brought.{found_kept}
use Rattle.client_cache.proofs.cache.Cache.place.Goals as goal

pub returns-in_ok-place_changes-in-Some-clause-kept : goal.returns-in_ok-place_changes-in-Some-clause-kept
returns-in_ok-place_changes-in-Some-clause-kept c = λ objects b x.
    let placed = rw (← c.self.view_is) at (c.in_ok-place_changes-in-Some.ensures.kept x) in
    rw (← c.self.view_is, ← found_kept (λ changes. kept_behind changes (lookup (same_page (on c.args.repo c.args.page)) c.self.inside.pages)) c.in_ok-changes.field-0 c.in-Some.changes c.args.bytes.now c.args.page c.in-Some.is c.in_ok-changes.ensures.kept objects b x.slot) placed
