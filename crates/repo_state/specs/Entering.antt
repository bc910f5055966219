-- What an entry changes of what is kept in memory.
use Rattle.std.specs.List.{fold}
use Rattle.std.specs.Prelude.{Bool, List, None, Option, Some, [], cond, false, max, true, ℕ, ◌+◌, ◌≡◌}
use Rattle.mob_buffer.specs.Buffer.{AreOneRepo}
use Rattle.commit_log.specs.Values.{writes_if}
use Rattle.log_entries.specs.declared.entry.Entry.TheVariants.{Decided, Finished, Life, One, Prepared, Upgraded}
use Rattle.log_entries.specs.declared.entry.Entry.{Entry}
use Rattle.log_entries.specs.declared.request.Request.{Request}
use Rattle.log_codec.specs.Grammar.{BodyFits}
use Rattle.log_codec.specs.declared.body.Body.TheVariants.{Entry as AnEntry}
use Rattle.mob_flusher.specs.Map.{with_installed, with_writes}
use Rattle.commit_log.specs.Recovered.{is_of, page_above, texts_after, threshold_after}
use Rattle.thor_value.specs.FiniteMap.{get, has, insert}
use Rattle.thor_value.specs.declared.names.Oref.{Oref}
use Rattle.thor_value.specs.declared.names.Ts.{Ts}
use Rattle.thor_value.specs.declared.values.Obj.{Obj}
use Rattle.two_phase.specs.Contents.{Contents, decided, finished, keeping, keeps, open_at, without}
use Rattle.two_phase.specs.Lists.{aborted_of}
use Rattle.two_phase.specs.declared.transaction.Transaction.TheVariants.{Open}
use Rattle.repo_state.specs.declared.held.Held.{Held}

-- the pages that a request writes are below the next page, and below the page that is granted next
abbrev pub reached : Held → Request → Held
reached h q = record h { next_page = fold page_above h.next_page q.writes; next_grant = max h.next_grant (fold page_above h.next_page q.writes) }

-- a request's transaction commits
abbrev pub committed_in : Held → Request → Held
committed_in h q = record h { objects = with_writes h.objects q.writes; threshold = threshold_after h.threshold q.kind q.tx; upgrades = texts_after h.upgrades q.kind }

-- with no other participant
abbrev pub alone_in : Held → Request → Held
alone_in h q = record (committed_in (reached h q) q) { table = record h.table { alone = insert h.table.alone q.who.client q.tx } }

-- a request is prepared, in the place of what was known of its transaction
abbrev pub opened_in : Contents → Request → Contents
opened_in c q = record c { transactions = insert c.transactions q.tx (Open q) }

abbrev pub prepared_in : Held → Request → Held
prepared_in h q = record (reached h q) { table = opened_in (finished h.table q.tx (open_at h.table q.tx)) q }

-- the decision on a transaction isn't kept any more
abbrev pub undecided : Contents → Ts → Contents
undecided c t = cond (keeps (get c.transactions t)) (without c t) c

-- the decision to commit what isn't open is kept
abbrev pub kept_in : Contents → Ts → Contents
kept_in c t = cond (has c.transactions t) c (keeping c t)

-- a transaction is decided, of which this request is open
abbrev pub decided_by : Held → Ts → Bool → Option Request → Held
decided_by h t false o = record h { table = decided h.table t false o }
decided_by h t true None = record h { table = kept_in h.table t }
decided_by h t true (Some q) = committed_in (record h { table = keeping h.table t }) q

-- and finished
abbrev pub finished_by : Held → Ts → Bool → Option Request → Held
finished_by h t commit None = h
finished_by h t false (Some q) = record h { table = without h.table t }
finished_by h t true (Some q) = committed_in (record h { table = without h.table t }) q

-- an entry comes, its count aside
abbrev pub moved : Held → Entry → Held
moved h (Life n) = record h { life = n; table = aborted_of h.table h.repo }
moved h (One q) = alone_in h q
moved h (Upgraded q) = alone_in h q
moved h (Prepared q) = prepared_in h q
moved h (Decided t commit) = decided_by h t commit (open_at h.table t)
moved h (Finished t commit) = finished_by h t commit (open_at h.table t)

-- an entry comes
abbrev pub entered : Held → Entry → Held
entered h e = record (moved h e) { count = h.count + 1 }

-- whether an entry can come next: what it writes is of this repository
abbrev pub can_enter : Held → Entry → Bool
can_enter h e = is_of h.repo e

-- a side of a page comes into use
abbrev pub installed_in : Held → ℕ → ℕ → Held
installed_in h page side = record h { objects = with_installed h.objects page side }

-- ---- what it takes

-- the writes that an entry commits
abbrev pub loaded : Held → Entry → List (Oref × Obj)
loaded h (Life n) = []
loaded h (One q) = q.writes
loaded h (Prepared q) = []
loaded h (Decided t commit) = writes_if commit (open_at h.table t)
loaded h (Finished t commit) = writes_if commit (open_at h.table t)
loaded h (Upgraded q) = q.writes

-- a table in which no decision on a transaction is kept, and none of its requests is open
abbrev pub cleared : Contents → Ts → Contents
cleared c t = finished (undecided c t) t (open_at (undecided c t) t)

-- A request is opened where nothing is known of its transaction, and stands in the place of what was.
pub record CanOpen (c : Contents) (q : Request) : Type 0 where
  pub none : get (cleared c q.tx).transactions q.tx ≡ None
  pub same : opened_in (cleared c q.tx) q ≡ opened_in (finished c q.tx (open_at c q.tx)) q

abbrev pub IsNew : Held → Entry → Type 0
IsNew h (Prepared q) = CanOpen h.table q
IsNew h (Life n) = Unit {0}
IsNew h (One q) = Unit {0}
IsNew h (Upgraded q) = Unit {0}
IsNew h (Decided t commit) = Unit {0}
IsNew h (Finished t commit) = Unit {0}

-- an entry can be put into what is kept
pub record CanMove (h : Held) (e : Entry) : Type 0 where
  pub fits : BodyFits (AnEntry e)
  pub one_repo : AreOneRepo h.objects.mob.objects (loaded h e)
  pub is_new : IsNew h e
