use Rattle.std.proofs.Common.{ap, sym}
use Rattle.lru.specs.LruCache.{lru_cache}
use Rattle.mob_buffer.specs.Buffer.{Objects}
use Rattle.mob_buffer.proofs.Places.{set_none}
use Rattle.mob_buffer.proofs.objects.replace.Goals as goal

pub returns-in-None : goal.returns-in-None
returns-in-None c = ap (λ (r : Objects). lru_cache r c.args.objects.now.cap) (sym (set_none c.args.objects.now.entries c.args.oref c.args.object (sym c.in-None.ensures.value)))
