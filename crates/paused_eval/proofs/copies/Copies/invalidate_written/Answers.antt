use Rattle.std.specs.List.{list_any}
use Rattle.client_cache.specs.Pages.{same_name}
use Rattle.paused_eval.proofs.Hands.{others_tied}
use Rattle.paused_eval.proofs.copies.Copies.invalidate_written.Goals as goal

pub invariant_of-self : goal.invariant_of-self
invariant_of-self c = record {
  tied = others_tied (λ x. list_any (λ y. same_name y x) c.args.orefs.now) c.args.self.now.cache c.invalidate_written.new.self c.args.self.now.tied c.invalidate_written.ensures.changed c.invalidate_written.ensures.written;
}
