-- What an opening makes of what a repository's disks stand for: it settles the transactions that earlier
-- runs left prepared, each as its coordinator has decided. (That a participant keeps a prepared
-- transaction until it learns the outcome is two-phase commit's; that a run begins with all of them
-- settled is this project's.)
use Rattle.log_entries.specs.declared.request.Request.{Request}
use Rattle.spec_history.specs.History.{Base, LeftOver}
use Rattle.spec_history.specs.Requests.{text_of}
use Rattle.std.specs.List.{AllByRecursion, flat_map, fold}
use Rattle.std.specs.Ordering.{nat_cmp}
use Rattle.std.specs.Prelude.{Bool, IsTrue, List, Option, [], cond, length, nat_eq, true, ℕ, ◌++◌, ◌<◌, ◌^◌, ◌≡◌, ◌≢◌, ◌≤◌, ◌∷◌}
use Rattle.thor_value.specs.FiniteMap.{IsSorted, Map, has, overwrite}
use Rattle.thor_value.specs.Names.{AtMost, later_of, oref_cmp, ts_cmp}
use Rattle.thor_value.specs.declared.names.Oref.{Oref}
use Rattle.thor_value.specs.declared.names.Ts.{Ts}
use Rattle.thor_value.specs.declared.values.Obj.{Obj}

-- What the disks of a repository stand for before its opening has written anything.
pub record Recovered : Type 0 where
  pub repo : ℕ
  pub repos : ℕ
  pub life : ℕ
  pub count : ℕ
  pub objects : Map oref_cmp Obj
  pub top : Ts
  pub roots : List Oref
  pub texts : List (List ℕ)
  pub next_page : ℕ
  pub alone : Map nat_cmp Ts
  -- the transactions that are prepared and not decided
  pub prepared : Map ts_cmp Request

-- The transactions that the opening of a repository settles, where `commits` says which its coordinator
-- kept the decision to commit. Those that it coordinates itself end with its Life.
abbrev pub left_by : ℕ → (Ts → Bool) → Map ts_cmp Request → Map ts_cmp LeftOver
left_by repo commits m = record { pairs = flat_map (λ e. cond (nat_eq e.0.repo repo) [] ((e.0, record { request = e.1; commits = commits e.0 }) ∷ [])) m.pairs }

-- what the left transactions that commit make of objects, of the texts of upgrades, and of the greatest
-- timestamp that committed
abbrev pub with_left_writes : Map oref_cmp Obj → Map ts_cmp LeftOver → Map oref_cmp Obj
with_left_writes m left = fold (λ n e. cond e.1.commits (overwrite n e.1.request.writes) n) m left.pairs

abbrev pub with_left_texts : List (List ℕ) → Map ts_cmp LeftOver → List (List ℕ)
with_left_texts ts left = fold (λ us e. cond e.1.commits (us ++ text_of e.1.request.kind) us) ts left.pairs

abbrev pub with_left_stamps : Ts → Map ts_cmp LeftOver → Ts
with_left_stamps t left = fold (λ u e. cond e.1.commits (later_of u e.0) u) t left.pairs

-- The base of a run that begins with what was recovered: with this limit of the buffer of modified
-- objects, this bound on unacknowledged messages, and a disk of pages that tells its content or doesn't.
abbrev pub opened : Recovered → ℕ → Option ℕ → Bool → (Ts → Bool) → Base
opened R limit silence tells commits =
    let left = left_by R.repo commits R.prepared in
    record {
      repo = R.repo;
      repos = R.repos;
      life = R.life;
      count = R.count;
      limit = limit;
      objects = with_left_writes R.objects left;
      top = with_left_stamps R.top left;
      roots = R.roots;
      texts = with_left_texts R.texts left;
      next_page = R.next_page;
      alone = R.alone;
      left = left;
      silence = silence;
      tells = tells;
    }

-- an object of a base: it is this repository's, on a page that was granted, and no upgrade is missing to
-- its version
pub record IsAtBase (b : Base) (e : Oref × Obj) : Type 0 where
  pub here : e.0.repo ≡ b.repo
  pub page : e.0.page < b.next_page
  pub version : e.1.ver ≤ length b.texts

-- a transaction that an earlier run left prepared: another repository coordinates it, and where it commits
-- the base counts it
pub record IsLeftAtBase (b : Base) (e : Ts × LeftOver) : Type 0 where
  pub named : e.1.request.tx ≡ e.0
  pub elsewhere : e.0.repo ≢ b.repo
  pub counted : e.1.commits ≡ true → AtMost e.0 b.top

-- What a base is, whatever came before.
pub record IsBase (b : Base) : Type 0 where
  -- its number is one of those that there are
  pub number : b.repo < b.repos
  pub repos : b.repos ≤ 8
  -- it can be opened: how often it was, its entries, its upgrades and its pages are within their limits
  pub life : b.life ≤ 4290000000
  pub count : b.count ≤ 2 ^ 61
  pub epoch : length b.texts ≤ 1000
  pub pages : b.next_page ≤ 65536
  -- its objects
  pub sorted : IsSorted b.objects
  pub objects : AllByRecursion (IsAtBase b) b.objects.pairs
  -- the roots that it has are there
  pub roots : AllByRecursion (λ x. x.repo ≡ b.repo → IsTrue (has b.objects x)) b.roots
  -- nothing that committed alone is above the greatest timestamp, and nothing that was left and commits
  pub alone : AllByRecursion (λ e. AtMost e.1 b.top) b.alone.pairs
  pub left : AllByRecursion (IsLeftAtBase b) b.left.pairs
