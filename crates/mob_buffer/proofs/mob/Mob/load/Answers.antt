use Rattle.std.proofs.Common.{rules, ◌≡◌, ◌∙◌, sym, ap, subst, refl}
use Rattle.lru.specs.LruCache.{LruCache}
use Rattle.thor_value.specs.declared.names.Oref.{Oref}
use Rattle.thor_value.specs.declared.values.Obj.{Obj}
use Rattle.mob_buffer.specs.Buffer.{AreOf, bytes_of, with_object}
use Rattle.mob_buffer.proofs.Sizes.{of_put}
use Rattle.mob_buffer.proofs.mob.Mob.load.Goals as goal

pub invariant_of-self-2 : goal.invariant_of-self-2
invariant_of-self-2 c =
    let all = rw (← c.self.view_is) at c.requires.one_repo in
    let total : c.in-Ok.total ≡ c.bytes_with_one.result = search rules in
    let entries : c.put.new.objects.entries ≡ with_object c.self.inside.objects.entries c.args.oref c.args.object = ap (λ (o : LruCache Oref Obj). o.entries) c.in_ok-put.ensures.ok in
    record {
      counted = total ∙ (rw (← c.self.view_is) at c.bytes_with_one.ensures) ∙ ap bytes_of (sym entries);
      one_repo = subst (AreOf c.args.oref.repo) (sym entries) (of_put c.args.oref.repo c.self.inside.objects.entries c.args.oref c.args.object all (record { repo_is = refl; name = c.requires.name; object = c.requires.object }));
      unbounded = ap (λ (o : LruCache Oref Obj). o.cap) c.in_ok-put.ensures.ok ∙ c.self.invariant.unbounded;
    }
