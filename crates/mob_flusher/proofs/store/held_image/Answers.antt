use Rattle.std.proofs.Common.{sym}
use Rattle.std.proofs.lemmas.Result.{IfOk-weaker}
use Rattle.mob_flusher.specs.Images.{IsHeldImage}
use Rattle.mob_flusher.specs.KeptImages.{IsImageOver}
use Rattle.mob_flusher.proofs.ImagesKept.{held_over, show_at, show_kept}
use Rattle.mob_flusher.proofs.store.held_image.Goals as goal

pub image_over-requires-clause-shown : goal.image_over-requires-clause-shown
image_over-requires-clause-shown c = show_at (record { pages = c.args.pages.now; mob = c.args.mob.now }) c.args.images.now c.args.page c.in-Some.base.now c.requires (sym c.in-Some.ensures.value) c.in-Some.ensures.number

pub returns-in-Some-clause-image : goal.returns-in-Some-clause-image
returns-in-Some-clause-image c =
    IfOk-weaker c.image_over.result (IsImageOver c.args.mob.now.objects c.in-Some.base.now) (IsHeldImage (record { pages = c.args.pages.now; mob = c.args.mob.now }) c.args.page)
    (λ image is. held_over (record { pages = c.args.pages.now; mob = c.args.mob.now }) c.args.page c.in-Some.base.now image (sym c.in-Some.ensures.value) c.in-Some.ensures.number is) c.image_over.ensures.image

pub returns-in-Some-clause-show : goal.returns-in-Some-clause-show
returns-in-Some-clause-show c = show_kept (record { pages = c.args.pages.now; mob = c.args.mob.now }) c.args.images.now c.image_over.new.images c.args.page c.in-Some.base.now (sym c.in-Some.ensures.value) c.in-Some.ensures.number c.image_over.ensures.kept c.requires
