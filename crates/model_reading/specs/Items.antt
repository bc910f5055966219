-- A repository's list of items as its trace (this project's).
use Rattle.spec_trace.specs.Trace.{E, Item, M}
use Rattle.std.specs.Prelude.{List, map}
use Rattle.model_reading.specs.declared.item.Item as item
use Rattle.model_reading.specs.declared.item.Item.TheVariants as items

abbrev pub read : item.Item → Item
read (items.Entry e) = E e
read (items.Mark m) = M m

-- the trace that the items are
abbrev pub trace_of : List item.Item → List Item
trace_of is = map read is
