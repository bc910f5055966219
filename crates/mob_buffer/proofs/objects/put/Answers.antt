use Rattle.std.proofs.Common.{◌∙◌, ap, sym}
use Rattle.lru.specs.LruCache.{lru_cache}
use Rattle.mob_buffer.specs.Buffer.{Objects}
use Rattle.mob_buffer.proofs.Places.{set_held}
use Rattle.mob_buffer.proofs.objects.put.Goals as goal

pub returns-then-contains-clause-ok : goal.returns-then-contains-clause-ok
returns-then-contains-clause-ok c =
    c.replace.ensures
    ∙ ap (λ (r : Objects). lru_cache r c.args.objects.now.cap) (set_held c.args.objects.now.entries c.args.oref c.args.object (sym (sym c.if-contains.true ∙ c.contains.ensures)))
