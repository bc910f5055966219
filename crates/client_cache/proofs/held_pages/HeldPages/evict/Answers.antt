use Rattle.std.proofs.Common.{ap}
use native.Mathlib.Omega.{arith}
use Rattle.std.specs.NonZero.{non_zero_usize_get}
use Rattle.client_cache.proofs.PageOrder.{taken-twice}
use Rattle.client_cache.proofs.held_pages.HeldPages.evict.Goals as goal

pub returns-in-Some : goal.returns-in-Some
returns-in-Some c =
    rw (← c.self.view_is, ← c.in-Some.ensures) (taken-twice 18446744073709551615 (non_zero_usize_get c.in-Some.limit) c.self.inside.pages.entries c.resize.new.self.entries c.resize-in-Some.new.self.entries (omega (arith, c.in-Some.ensures, c.ranges.limit.fits)) (ap (λ l. l.entries) c.resize.ensures) (ap (λ l. l.entries) c.resize-in-Some.ensures))
