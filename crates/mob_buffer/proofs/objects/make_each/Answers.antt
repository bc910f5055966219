use Rattle.std.proofs.Common.{◌∙◌, ap, length, take}
use Rattle.lru.specs.LruCache.{LruCache}
use Rattle.thor_value.specs.declared.names.Oref.{Oref}
use Rattle.thor_value.specs.declared.values.Obj.{Obj}
use Rattle.mob_buffer.proofs.Places.{places_kept}
use Rattle.mob_buffer.proofs.objects.make_each.Goals as goal

pub returns-in_err-make_place-clause-kept : goal.returns-in_err-make_place-clause-kept
returns-in_err-make_place-clause-kept c =
    ap (λ (o : LruCache Oref Obj). take (length c.args.objects.now.entries) o.entries) (c.in_err-make_place.ensures.err ∙ c.loop-write.invariant)
    ∙ places_kept (take c.loop-write.write-index c.args.writes.now) c.args.objects.now.entries

pub returns-clause-kept : goal.returns-clause-kept
returns-clause-kept c =
    ap (λ (o : LruCache Oref Obj). take (length c.args.objects.now.entries) o.entries) c.loop-write.invariant
    ∙ places_kept (take c.loop-write.write-index c.args.writes.now) c.args.objects.now.entries
