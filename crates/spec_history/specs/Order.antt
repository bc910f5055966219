-- Local order: the condition on one repository's history that makes the histories of all of them one
-- serial history in the order of the timestamps.
use Rattle.log_entries.specs.declared.entry.Entry.{Entry}
use Rattle.spec_history.specs.History.{Base, CommittedBelow, Lives, Known, known_by}
use Rattle.spec_history.specs.Requests.{has_read, has_written}
use Rattle.std.specs.Prelude.{◌≡◌, ◌≢◌, IsTrue, List, Some, ◌<◌}
use Rattle.thor_value.specs.Names.{Before}
use Rattle.thor_value.specs.declared.names.Oref.{Oref}
use Rattle.thor_value.specs.declared.names.Ts.{Ts}

-- In H the transaction t stands as o and the other transaction s as w, neither is aborted, and s
-- wrote the object x, which t read.
pub record ReadsFrom (b : Base) (H : List Entry) (t s : Ts) (o w : Known) (x : Oref) : Type 0 where
  pub reader : known_by b H t ≡ Some o
  pub writer : known_by b H s ≡ Some w
  pub other : s ≢ t
  pub reader_lives : Lives o.fate
  pub writer_lives : Lives w.fate
  pub read : IsTrue (has_read o.request x)
  pub wrote : IsTrue (has_written w.request x)

-- The history H has local order: where t read x, and s is another transaction that wrote x, and
-- neither is aborted, then
pub record HasOrder (b : Base) (H : List Entry) : Type 0 where
  -- if the request of s stands below that of t, s is before t
  pub rises : (t s : Ts) (o w : Known) (x : Oref) → ReadsFrom b H t s o w x → w.place < o.place → Before s t
  -- if s is before t, it committed below the request of t
  pub settled : (t s : Ts) (o w : Known) (x : Oref) → ReadsFrom b H t s o w x → Before s t → CommittedBelow o.place w.fate
