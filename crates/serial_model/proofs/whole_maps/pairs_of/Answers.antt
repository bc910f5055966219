use Rattle.std.proofs.Common.{◌∙◌, refl}
use Rattle.serial_model.proofs.SortedMaps.{found_more, found_each}
use Rattle.serial_model.proofs.whole_maps.pairs_of.Goals as goal

pub loop-name-preserved : goal.loop-name-preserved
loop-name-preserved g c =
    found_more c.names_are_ordered.ensures.total c.args.objects.now c.as_slice-name-items.result.now c.loop-name.name-index _ _ c.loop-name.pairs c.push_found.new.pairs c.loop-name-test.true refl c.loop-name.invariant c.in_ok-push_found.ensures

pub returns : goal.returns
returns g c =
    found_each c.names_are_ordered.ensures.total c.args.objects.now c.as_slice-name-items.result.now c.loop-name.name-index c.loop-name.pairs c.requires (c.as_slice-name-items.ensures ∙ c.in_ok-names.ensures) c.loop-name-test.false c.loop-name.invariant
