use Rattle.std.proofs.Common.{rules, ◌≡◌, ◌∷◌, [], refl}
use Rattle.lang_small_steps.specs.declared.frames.Frame.TheVariants as frame
use Rattle.paused_eval.proofs.Standing.{begins_standing}
use Rattle.paused_eval.proofs.paused.Paused.begin.Goals as goal

pub returns : goal.returns
returns c = record {
  stands = λ s copies names e.
      let whole : c.push-2.new.self ≡ frame.Rest 100001 c.args.text.now ∷ frame.BlockEnd 0 ∷ [] = search rules in
      rw (whole, c.begun.ensures) (begins_standing s c.args.text.now copies.cache names.names e names.from_pages);
  begun = rw c.begun.ensures refl;
}
