-- With what a repository begins over what was recovered of its disks.
use Rattle.cached_sets.specs.Noted.{most_noted}
use Rattle.class_defs.specs.declared.store.Setup.{Setup}
use Rattle.repo_format.specs.Fresh.{first_ts, page_count}
use Rattle.repo_state.specs.declared.held.Held.{Held}
use Rattle.spec_history.specs.History.{Base}
use Rattle.std.specs.List.{list_all}
use Rattle.std.specs.Prelude.{Bool, Some, [], false, nat_eq, nat_le, ℕ, ◌&&◌}
use Rattle.thor_value.specs.FiniteMap.{empty}
use Rattle.thor_value.specs.declared.names.Ts.{Ts}
use Rattle.two_phase.specs.declared.transaction.Transaction.TheVariants as kept
use Rattle.two_phase.specs.declared.transaction.Transaction.{Transaction}

-- A transaction that is open here is coordinated by this repository; a decision that is kept was made in a life up to this one.
abbrev pub is_own : ℕ → ℕ → Ts → Transaction → Bool
is_own repo life t (kept.Open q) = nat_eq t.repo repo
is_own repo life t kept.Kept = nat_le t.life life

-- Nothing has still to be settled of what was recovered of the repository of this number: the log is its own, no transaction of
-- another coordinator is prepared, and no decision is kept of a life to come.
abbrev pub is_settled : ℕ → Held → Bool
is_settled number h = nat_eq h.repo number && list_all (λ e. is_own h.repo h.life e.0 e.1) h.table.transactions.pairs

-- Its base, as one of so many repositories. Of its objects the base says nothing.
abbrev pub base_of : ℕ → Held → Base
base_of repos h = record {
  repo = h.repo;
  repos = repos;
  life = h.life;
  count = h.count;
  limit = h.objects.mob.limit;
  objects = empty;
  top = h.threshold;
  roots = [];
  texts = h.upgrades;
  next_page = h.next_grant;
  alone = h.table.alone;
  left = empty;
  silence = Some most_noted;
  tells = false;
}

-- The base of one of so many new repositories, by the store's setup, with a buffer of so many bytes. Of its objects it says nothing.
abbrev pub new_base : ℕ → ℕ → Setup → ℕ → Base
new_base number repos setup mob = record {
  repo = number;
  repos = repos;
  life = 0;
  count = 0;
  limit = mob;
  objects = empty;
  top = first_ts;
  roots = [];
  texts = [];
  next_page = page_count number setup.roots;
  alone = empty;
  left = empty;
  silence = Some most_noted;
  tells = false;
}
