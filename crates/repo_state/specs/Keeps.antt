-- What holds of all that is kept in memory.
use Rattle.std.specs.List.{AllByRecursion}
use Rattle.std.specs.Prelude.{None, [], ℕ, ◌<◌, ◌^◌, ◌≡◌, ◌≤◌}
use Rattle.log_entries.specs.RequestForm.{RequestFits}
use Rattle.log_codec.specs.Checkpoint.{RootFits, StampFits}
use Rattle.mob_buffer.specs.Buffer.{AreOf}
use Rattle.page_store.specs.Store.{Store}
use Rattle.thor_value.specs.FiniteMap.{IsSorted}
use Rattle.thor_value.specs.Spelling.{TsFits}
use Rattle.thor_value.specs.declared.names.Ts.{Ts}
use Rattle.two_phase.specs.Contents.{Contents}
use Rattle.two_phase.specs.declared.transaction.Transaction.TheVariants as kept
use Rattle.two_phase.specs.declared.transaction.Transaction.{Transaction}
use Rattle.repo_state.specs.declared.held.Held.{Held}

-- an open request stands under its own timestamp and writes objects of this repository
abbrev pub OpenFits : ℕ → Ts → Transaction → Type 0
OpenFits repo t (kept.Open q) = (q.tx ≡ t) × (RequestFits q × AreOf repo q.writes)
OpenFits repo t kept.Kept = Unit {0}

abbrev pub Stands : ℕ → Ts × Transaction → Type 0
Stands repo e = TsFits e.0 × OpenFits repo e.0 e.1

-- what is known of transactions stands in order
pub record TableFits (repo : ℕ) (c : Contents) : Type 0 where
  pub sorted : IsSorted c.transactions
  pub each : AllByRecursion (Stands repo) c.transactions.pairs
  pub alone_sorted : IsSorted c.alone
  pub alone : AllByRecursion StampFits c.alone.pairs

-- The objects are of this repository, each number is one that a checkpoint spells, and no page is
-- granted below the log's next page.
pub record Keeps (h : Held) : Type 0 where
  pub table : TableFits h.repo h.table
  pub objects : AreOf h.repo h.objects.mob.objects
  pub life : h.life < 2 ^ 32
  pub threshold : TsFits h.threshold
  pub next : h.next_page ≤ h.next_grant
  pub pages : h.next_grant ≤ 65536
  pub roots : AllByRecursion RootFits h.roots

-- pages of which none was read yet, and none written: they agree with each disk that has their sides
pub record IsUnread (pages : Store) : Type 0 where
  pub none_held : pages.held ≡ []
  pub none_staged : pages.staged ≡ None
