use Rattle.std.proofs.Common.{◌∙◌, ap, arith}
use Rattle.lru.specs.LruCache.{LruCache, demoted, lru_cache}
use Rattle.thor_value.specs.declared.names.Oref.{Oref}
use Rattle.thor_value.specs.declared.values.Obj.{Obj}
use Rattle.mob_buffer.specs.Buffer.{Objects, same_name}
use Rattle.mob_buffer.proofs.Places.{put_demoted}
use Rattle.mob_buffer.proofs.objects.put_last.Goals as goal

pub returns-clause-ok : goal.returns-clause-ok
returns-clause-ok c =
    c.demote.ensures.entries
    ∙ ap (λ (s : LruCache Oref Obj). lru_cache (demoted (same_name c.args.oref) s.entries) s.cap) c.in_ok-put.ensures.entries
    ∙ ap (λ (r : Objects). lru_cache r c.args.objects.now.cap) (put_demoted c.args.objects.now c.args.oref c.args.object c.requires.unbounded (omega (arith, c.len.ensures.len, c.len.ensures.fits)) c.requires.fresh)
