use Rattle.std.proofs.Common.{ap, ◌∙◌}
use Rattle.thor_value.specs.FiniteMap.{Map, overwrite}
use Rattle.thor_value.specs.Names.{oref_cmp}
use Rattle.serial_model.proofs.SortedMaps.{put_all}
use Rattle.serial_model.proofs.whole_maps.map_of.Goals as goal

pub returns : goal.returns
returns g c =
    ap (λ (m : Map oref_cmp g.row.T.Denot). m.pairs)
    (c.in_ok-overwrite.ensures ∙ ap (λ (m : Map oref_cmp g.row.T.Denot). overwrite m c.args.pairs) c.new-objects.ensures ∙ put_all c.names_are_ordered.ensures.total c.args.pairs c.requires)
