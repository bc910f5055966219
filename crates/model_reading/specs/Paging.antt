-- The bytes of the pages that a plain repository sends.
use Rattle.spec_history.specs.History.{Base, State, put, start, state}
use Rattle.object_codec.specs.Spelling.{obj_bytes}
use Rattle.page_format.specs.Pages.{Contents, page_bytes}
use Rattle.spec_trace.specs.Trace.{E, Item, M, entries}
use Rattle.std.specs.List.{fold, slice_get}
use Rattle.std.specs.Option.{unwrap_or}
use Rattle.std.specs.Prelude.{List, [], cond, nat_eq, nat_lt, ℕ, ◌-◌}
use Rattle.thor_value.specs.FiniteMap.{empty, insert}
use Rattle.thor_value.specs.declared.names.Oref.{Oref}
use Rattle.thor_value.specs.declared.values.Obj.{Obj}

-- a page with one object more, where that stands on it
abbrev pub with_object : Contents → Oref × Obj → Contents
with_object c e = cond (nat_eq e.0.page c.number) (record c { objects = insert c.objects e.0.slot (obj_bytes e.1) }) c

abbrev pub with_objects : Contents → List (Oref × Obj) → Contents
with_objects c es = fold with_object c es

-- the page of this number with those of some objects that stand on it
abbrev pub contents_of : ℕ → List (Oref × Obj) → Contents
contents_of number es = with_objects (record { number = number; objects = empty }) es

-- the state behind one more item, of which only entries below the place k count
abbrev pub put_below : Base → ℕ → State → Item → State
put_below b k S (E e) = cond (nat_lt S.length k) (put b S e) S
put_below b k S (M m) = S

-- the state that the entries below the place k make
abbrev pub state_below : Base → ℕ → List Item → State
state_below b k T = fold (put_below b k) (start b) T

-- the bytes of a page, as the entries below a place make it
abbrev pub page_at : Base → List Item → ℕ → ℕ → List ℕ
page_at b T page k = page_bytes (contents_of page (state_below b k T).objects.pairs)

-- the text of an upgrade, by its number from 1
abbrev pub text_at : Base → List Item → ℕ → List ℕ
text_at b T number = unwrap_or (slice_get (state b (entries T)).texts (number - 1)) []
