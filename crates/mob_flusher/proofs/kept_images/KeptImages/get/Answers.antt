use Rattle.std.proofs.Common.{◌∙◌, ap, sym}
use Rattle.std.specs.Prelude.{option_and_then}
use Rattle.mob_flusher.specs.KeptImages.{at_place, of_page}
use Rattle.mob_flusher.proofs.kept_images.KeptImages.get.Goals as goal

pub of_page-requires : goal.of_page-requires
of_page-requires c = c.self.invariant c.place_of.result c.in-Some.image.now (sym (rw c.as_slice.ensures.value at c.in-Some.ensures))

pub returns-in-Some-clause-image : goal.returns-in-Some-clause-image
returns-in-Some-clause-image c =
    let there = rw c.as_slice.ensures.value at c.in-Some.ensures in
    rw (← c.self.view_is) (c.of_page.ensures.image ∙ ap (option_and_then (of_page c.args.page)) (there ∙ ap (at_place c.self.inside.places.items) c.place_of.ensures))

pub returns-in-None-clause-image : goal.returns-in-None-clause-image
returns-in-None-clause-image c =
    let there = rw c.as_slice.ensures.value at c.in-None.ensures in
    rw (← c.self.view_is) (ap (option_and_then (of_page c.args.page)) (there ∙ ap (at_place c.self.inside.places.items) c.place_of.ensures))
