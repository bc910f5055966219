-- The items of a trace as the board has them, and as the history's definitions have them.
use Rattle.std.specs.Prelude.{List, map}
use Rattle.spec_trace.specs.Trace.{E, Item, M}
use Rattle.law_board_calls.specs.declared.items.TraceItem.{TraceItem}
use Rattle.law_board_calls.specs.declared.items.TraceItem.TheVariants as board

abbrev pub recorded : Item → TraceItem
recorded (E e) = board.Entry e
recorded (M m) = board.Mark m

abbrev pub read : TraceItem → Item
read (board.Entry e) = E e
read (board.Mark m) = M m

abbrev pub trace : List TraceItem → List Item
trace l = map read l
