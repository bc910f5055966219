use Rattle.std.proofs.Common.{rules, ◌≡◌, ◌<◌, ◌^◌, ◌∙◌, ap, arith, subst, sym}
use Rattle.lru.specs.LruCache.{LruCache, lru_cache}
use Rattle.thor_value.specs.declared.names.Oref.{Oref}
use Rattle.thor_value.specs.declared.values.Obj.{Obj}
use Rattle.mob_buffer.specs.Buffer.{AreOf, Objects, bytes_of, with_all}
use Rattle.mob_buffer.specs.Kept.{with_places}
use Rattle.mob_buffer.proofs.Places.{loaded}
use Rattle.mob_buffer.proofs.mob.Mob.load_all.Goals as goal

pub invariant_of-self-2 : goal.invariant_of-self-2
invariant_of-self-2 c =
    let items : c.into_vec.result.items ≡ c.args.writes.now = search rules in
    let places : c.make_places.new.objects ≡ lru_cache (with_places c.self.inside.objects.entries c.args.writes.now) c.self.inside.objects.cap = c.in_ok-make_places.ensures.ok ∙ ap (λ (writes : Objects). lru_cache (with_places c.self.inside.objects.entries writes) c.self.inside.objects.cap) c.as_slice.ensures in
    let is = loaded c.self.inside.objects c.make_places.new.objects c.replace_all.new.objects c.args.writes.now c.into_vec.result.items places c.replace_all.ensures items in
    let entries : c.replace_all.new.objects.entries ≡ with_all c.self.inside.objects.entries c.args.writes.now = ap (λ (o : LruCache Oref Obj). o.entries) is in
    let total : c.in-Ok.total ≡ c.bytes_with.result = search rules in
    let few : c.in-Ok.total < 2 ^ 32 = search rules in
    record {
      counted = total ∙ (rw (← c.self.view_is) at c.bytes_with.ensures.exact (omega (arith, total, few))) ∙ ap bytes_of (sym entries);
      one_repo = subst (AreOf c.repo_with-repo.result) (sym entries) (rw (← c.self.view_is) at c.repo_with-repo.ensures);
      unbounded = ap (λ (o : LruCache Oref Obj). o.cap) is ∙ c.self.invariant.unbounded;
    }

pub returns-clause-ok : goal.returns-clause-ok
returns-clause-ok c =
    let items : c.into_vec.result.items ≡ c.args.writes.now = search rules in
    let places : c.make_places.new.objects ≡ lru_cache (with_places c.self.inside.objects.entries c.args.writes.now) c.self.inside.objects.cap = c.in_ok-make_places.ensures.ok ∙ ap (λ (writes : Objects). lru_cache (with_places c.self.inside.objects.entries writes) c.self.inside.objects.cap) c.as_slice.ensures in
    let is = loaded c.self.inside.objects c.make_places.new.objects c.replace_all.new.objects c.args.writes.now c.into_vec.result.items places c.replace_all.ensures items in
    rw (← c.self.view_is) (ap (λ (o : LruCache Oref Obj). record { limit = c.self.inside.limit; objects = o.entries }) is)
