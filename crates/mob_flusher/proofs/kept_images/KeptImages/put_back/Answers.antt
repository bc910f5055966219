use Rattle.std.proofs.Common.{◌≡◌, ◌∙◌, ap}
use Rattle.page_format.specs.Pages.{Contents}
use Rattle.page_store.specs.Objects.{HasObjects}
use Rattle.mob_flusher.proofs.ImagesKept.{put_back_is, this_one}
use Rattle.mob_flusher.proofs.kept_images.KeptImages.put_back.Goals as goal

pub swap-requires-clause-objects : goal.swap-requires-clause-objects
swap-requires-clause-objects c = λ w is. this_one HasObjects c.put_object.new.image w c.put_object.ensures.objects is

pub swap-requires-clause-number : goal.swap-requires-clause-number
swap-requires-clause-number c = λ w is. this_one (λ (d : Contents). d.number ≡ c.args.oref.page) c.put_object.new.image w (ap (λ (d : Contents). d.number) c.in-Ok.ensures.ok ∙ c.requires.number) is

pub returns-in-Ok : goal.returns-in-Ok
returns-in-Ok c = rw (← c.self.view_is) (put_back_is c.args.oref c.args.object.now c.self.inside.places.items c.swap.new.self c.args.image c.put_object.new.image c.in-Ok.ensures.ok c.swap.ensures.here c.swap.ensures.others)
