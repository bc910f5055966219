-- Which items a call makes. A call that is refused with a mark makes that mark.
use Rattle.log_entries.specs.declared.entry.Entry.TheVariants.{Decided, Finished, One, Prepared, Upgraded}
use Rattle.log_entries.specs.declared.entry.Entry.{Entry}
use Rattle.log_entries.specs.declared.request.Request.{Request}
use Rattle.spec_history.specs.Requests.{is_upgrade}
use Rattle.spec_trace.specs.Trace.{E, Item, M}
use Rattle.spec_trace.specs.declared.mark.Mark.TheVariants as the
use Rattle.repo_refusals.specs.declared.refusal.Refusal.{Refusal}
use Rattle.std.specs.Prelude.{None, Some, cond, ℕ, ◌≡◌, ◌⊎◌}
use Rattle.thor_value.specs.declared.names.Ts.{Ts}
use Rattle.law_board_calls.specs.declared.calls.Call.{Call}
use Rattle.law_board_calls.specs.declared.calls.CallKind.{CallKind}
use Rattle.law_board_calls.specs.declared.calls.CallKind.TheVariants as call

-- the entry of a transaction that commits at once
abbrev pub committed : Request → Entry
committed q = cond (is_upgrade q) (Upgraded q) (One q)

-- the client's call of this kind makes the item
abbrev pub KindMakes : ℕ → CallKind → Item → Type 0
KindMakes client call.Connect i = (s : ℕ) × (i ≡ M (the.Connected s client))
KindMakes client (call.Fetch s page upto) i = i ≡ M (the.Fetched s page upto)
KindMakes client (call.Grant s) i = ((page : ℕ) × (i ≡ M (the.Granted s page))) ⊎ ((r : Refusal) × (i ≡ M (the.Refused s None r)))
KindMakes client (call.Receive s) i = (place : ℕ) × (i ≡ M (the.Took s place))
KindMakes client (call.Draw s) i = ((t : Ts) × (i ≡ M (the.Drew s t))) ⊎ ((r : Refusal) × (i ≡ M (the.Refused s None r)))
KindMakes client (call.Prepare s q) i = (i ≡ E (Prepared q.value)) ⊎ ((r : Refusal) × (i ≡ M (the.Refused s (Some q.value) r)))
KindMakes client (call.CommitOne s q) i = (i ≡ E (committed q.value)) ⊎ ((r : Refusal) × (i ≡ M (the.Refused s (Some q.value) r)))
KindMakes client (call.Decide s t commit) i = i ≡ E (Decided t commit)
KindMakes client (call.Finish t commit) i = i ≡ E (Finished t commit)
KindMakes client (call.Forget t) i = i ≡ M (the.Forgot t)

-- the call makes the item at this place of this repository's trace: where it was made, and nowhere else
pub record Makes (c : Call) (repo place : ℕ) (i : Item) : Type 0 where
  pub there : c.repo ≡ repo
  pub behind : c.place ≡ place
  pub item : KindMakes c.client c.kind i
