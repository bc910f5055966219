use Rattle.std.proofs.Common.{◌≡◌, ◌∙◌, ap, arith, subst, sym}
use Rattle.lru.specs.LruCache.{LruCache}
use Rattle.thor_value.specs.declared.names.Oref.{Oref}
use Rattle.thor_value.specs.declared.values.Obj.{Obj}
use Rattle.mob_buffer.specs.Buffer.{AreOf, bytes_of, without_page}
use Rattle.mob_buffer.proofs.Sizes.{of_kept}
use Rattle.mob_buffer.proofs.mob.Mob.remove_page.Goals as goal

pub invariant_of-self : goal.invariant_of-self
invariant_of-self c =
    let entries : c.take_page-taken.new.objects.entries ≡ without_page c.self.inside.objects.entries c.args.page = ap (λ (o : LruCache Oref Obj). o.entries) c.take_page-taken.ensures.objects in
    record {
      counted = omega (arith, c.take_page-taken.ensures.bytes, ap bytes_of entries, c.self.invariant.counted);
      one_repo = subst (AreOf c.self.inside.repo) (sym entries) (of_kept c.self.inside.repo c.self.inside.objects.entries c.args.page c.self.invariant.one_repo);
      unbounded = ap (λ (o : LruCache Oref Obj). o.cap) c.take_page-taken.ensures.objects ∙ c.self.invariant.unbounded;
    }
