-- What a repository's disks have to stand for so that it can be opened: an opening tests the limits, and
-- what sound histories of earlier runs leave has the rest.
use Rattle.log_entries.specs.declared.request.Request.{Request}
use Rattle.spec_history.specs.Opening.{Recovered, left_by, with_left_texts}
use Rattle.std.specs.List.{AllByRecursion}
use Rattle.std.specs.Prelude.{Bool, IsTrue, length, ◌<◌, ◌^◌, ◌≡◌, ◌≤◌}
use Rattle.thor_value.specs.FiniteMap.{IsSorted, has}
use Rattle.thor_value.specs.Names.{AtMost}
use Rattle.thor_value.specs.declared.names.Oref.{Oref}
use Rattle.thor_value.specs.declared.names.Ts.{Ts}
use Rattle.thor_value.specs.declared.values.Obj.{Obj}

-- an object that is stored, or that a prepared request writes: it is this repository's, on a page that was
-- granted, and no upgrade is missing to its version
pub record IsStored (R : Recovered) (e : Oref × Obj) : Type 0 where
  pub here : e.0.repo ≡ R.repo
  pub page : e.0.page < R.next_page
  pub version : e.1.ver ≤ length R.texts

-- a prepared request: it stands under its transaction, and what it writes could be stored
pub record IsPrepared (R : Recovered) (e : Ts × Request) : Type 0 where
  pub named : e.1.tx ≡ e.0
  pub writes : AllByRecursion (IsStored R) e.1.writes

pub record CanOpen (R : Recovered) (commits : Ts → Bool) : Type 0 where
  -- its number is one of those that there are
  pub number : R.repo < R.repos
  pub repos : R.repos ≤ 8
  -- the limits: how often it was opened, its entries, its upgrades with those that are left, its pages
  pub life : R.life ≤ 4290000000
  pub count : R.count ≤ 2 ^ 61
  pub epoch : length (with_left_texts R.texts (left_by R.repo commits R.prepared)) ≤ 1000
  pub pages : R.next_page ≤ 65536
  -- its objects, and the roots that it has
  pub sorted : IsSorted R.objects
  pub objects : AllByRecursion (IsStored R) R.objects.pairs
  pub roots : AllByRecursion (λ x. x.repo ≡ R.repo → IsTrue (has R.objects x)) R.roots
  -- nothing that committed alone is above the greatest timestamp
  pub alone : AllByRecursion (λ e. AtMost e.1 R.top) R.alone.pairs
  pub prepared : AllByRecursion (IsPrepared R) R.prepared.pairs
