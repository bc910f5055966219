-- A plain repository that is out of order: what it answers, what may still come, and what a restart adds.
use Rattle.log_entries.specs.declared.entry.Entry.TheVariants.{Life}
use Rattle.log_entries.specs.declared.entry.Entry.{Entry}
use Rattle.spec_history.specs.History.{Base, state}
use Rattle.client_port.specs.Views.{Halted, MayCome, Unsettled, View}
use Rattle.spec_trace.specs.Trace.{E, Item, entries}
use Rattle.std.specs.Prelude.{Bool, Err, List, Result, [], cond, nat_eq, ℕ, ◌+◌, ◌++◌, ◌∷◌}
use Rattle.repo_refusals.specs.declared.refusal.Refusal.TheVariants as refused
use Rattle.repo_refusals.specs.declared.refusal.Refusal.{Refusal}

-- an answer, the trace behind the call, and what is unsettled then
pub record Outage (X : Type 0) : Type 0 where
  pub answer : Result X Refusal
  pub trace : List Item
  pub unsettled : Unsettled

-- the repository is out of order, and nothing is done: it is down, its disk is damaged, it stops before it writes, or it
-- has no memory
abbrev pub idle : {X : Type 0} → List Item → Refusal → Outage X
idle T r = record { answer = Err r; trace = T; unsettled = Halted }

-- it stops while it writes the entry, which may still come where it is valid
abbrev pub stopped : {X : Type 0} → List Item → ℕ → Bool → Entry → Outage X
stopped T r valid e = record { answer = Err (refused.Stopped r); trace = T; unsettled = cond valid (MayCome e) Halted }

-- a restart ends the life, with no entry before it, or with the one that was being written
abbrev pub next_life : Base → List Item → Item
next_life b T = E (Life ((state b (entries T)).life + 1))

abbrev pub restarted : Base → List Item → List Item
restarted b T = T ++ next_life b T ∷ []

abbrev pub restarted_with : Base → List Item → Entry → List Item
restarted_with b T e = restarted b (T ++ E e ∷ [])

-- ---- a port to plain repositories, whose client alone acts

-- the view behind a call on the repository r
abbrev pub with_seen : View → ℕ → List Item → Unsettled → View
with_seen port r T u = record {
  opened = port.opened;
  seen = λ n. cond (nat_eq n r) T (port.seen n);
  unsettled = λ n. cond (nat_eq n r) u (port.unsettled n);
}
