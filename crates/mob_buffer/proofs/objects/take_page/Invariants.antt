use Rattle.std.proofs.Common.{◌≡◌, ◌+◌}
use Rattle.lru.specs.LruCache.{lru_cache}
use Rattle.mob_buffer.specs.Buffer.{bytes_of}
use Rattle.mob_buffer.proofs.Pages.{without_slots}
use Rattle.mob_buffer.proofs.objects.take_page.Given as goal

-- the objects in the slots below this one were taken
abbrev pub invariant-loop-slot : goal.invariant-loop-slot
invariant-loop-slot l = (l.objects ≡ lru_cache (without_slots l.fn.objects.entries l.page l.slot) l.fn.objects.cap) × (l.bytes + bytes_of (without_slots l.fn.objects.entries l.page l.slot) ≡ bytes_of l.fn.objects.entries)
