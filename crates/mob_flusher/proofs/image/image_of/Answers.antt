use Rattle.std.proofs.Common.{◌∙◌, ap, ℕ}
use Rattle.mob_buffer.specs.Buffer.{object_of}
use Rattle.mob_flusher.specs.Images.{name_of, overlaid}
use Rattle.mob_flusher.proofs.Overlays.{image_more}
use Rattle.mob_flusher.proofs.image.image_of.Goals as goal

pub loop-slot-preserved : goal.loop-slot-preserved
loop-slot-preserved c = (
  image_more c.args.mob.now.objects c.args.repo c.args.base.now c.loop-slot.image c.put_over.new.image c.loop-slot.slot c.loop-slot.invariant.0
      (c.in_ok-put_over.ensures.ok ∙ ap (λ (n : ℕ). overlaid c.loop-slot.image c.loop-slot.slot (object_of c.args.mob.now.objects (name_of c.args.repo n c.loop-slot.slot))) c.number.ensures),
  c.put_over.ensures.objects,
)
