use Rattle.mob_flusher.proofs.ImagesKept.{had, have_swapped, swapped_here, swapped_others, swapped_was}
use Rattle.mob_flusher.proofs.kept_images.KeptImages.swap.Goals as goal

pub invariant_of-self : goal.invariant_of-self
invariant_of-self c = have_swapped c.self.inside.places.items c.swap_place.new.places.items c.place_of.result c.args.image c.args.page c.place_of.ensures c.swap_place.ensures.items c.self.invariant c.requires.objects

pub returns-clause-here : goal.returns-clause-here
returns-clause-here c = swapped_here c.self.inside.places.items c.swap_place.new.places.items c.place_of.result c.args.image c.args.page c.place_of.ensures c.swap_place.ensures.items

pub returns-clause-others : goal.returns-clause-others
returns-clause-others c = rw (← c.self.view_is) (swapped_others c.self.inside.places.items c.swap_place.new.places.items c.place_of.result c.args.image c.args.page c.place_of.ensures c.swap_place.ensures.items c.requires.number)

pub returns-clause-taken : goal.returns-clause-taken
returns-clause-taken c = rw (← c.self.view_is) (swapped_was c.self.inside.places.items c.swap_place.new.places.items c.place_of.result c.args.image c.args.page c.place_of.ensures c.swap_place.ensures.items c.swap_place.result c.swap_place.ensures.was)

pub returns-clause-had : goal.returns-clause-had
returns-clause-had c = had c.self.inside.places.items c.place_of.result c.swap_place.result c.self.invariant c.swap_place.ensures.was
