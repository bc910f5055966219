use Rattle.std.proofs.Common.{◌≡◌, ◌++◌}
use Rattle.std.specs.Vec.Iter.{into_iter_items}
use Rattle.lru.specs.LruCache.{lru_cache}
use Rattle.mob_buffer.specs.Kept.{with_values}
use Rattle.mob_buffer.proofs.objects.replace_all.Given as goal

-- the objects so far were put
abbrev pub invariant-loop-oref : goal.invariant-loop-oref
invariant-loop-oref l = (l.yielded ++ into_iter_items l.oref-iterator ≡ l.fn.writes.items) × (l.objects ≡ lru_cache (with_values l.fn.objects.entries l.yielded) l.fn.objects.cap)
