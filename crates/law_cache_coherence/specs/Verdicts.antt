-- What is told between of transactions that have committed at their coordinators, and what a client has to hold of its own
-- transaction then.
use Rattle.law_cache_coherence.specs.Fitting.{Copies, HoldsNone, NoneToFinish, SameCopies, with_writes}
use Rattle.client_state.specs.Links.{is_reply}
use Rattle.client_state.specs.declared.link.Link.TheVariants.{Apart, Joined, Unsettled}
use Rattle.client_state.specs.declared.link.Link.{Link}
use Rattle.client_state.specs.declared.link.Waits.{Waits}
use Rattle.spec_history.specs.History.{Base, Known, Open, known_by}
use Rattle.client_port.specs.Views.{Calm, View}
use Rattle.client_port.specs.Works.{is_prepared_by}
use Rattle.spec_trace.specs.Notices.{lives}
use Rattle.spec_trace.specs.Session.{session}
use Rattle.spec_trace.specs.Trace.{Item, entries}
use Rattle.spec_trace.specs.Exact.{WritesOnPages}
use Rattle.std.specs.List.{slice_get}
use Rattle.std.specs.Prelude.{Bool, List, None, Option, Some, false, true, ℕ, ◌<◌, ◌≡◌, ◌⊎◌}
use Rattle.thor_value.specs.declared.names.Ts.{Ts}

-- What had committed still has. Of what is undecided in the live sessions of these links, while nothing is unsettled, no more has
-- committed, but for the transaction of the verdict that the client is told, where it is told one.
pub record OutcomesTold (port : View) (links : List Link) (verdict : Option Ts) (committed later : Ts → Bool) : Type 0 where
  pub more : (t : Ts) → committed t ≡ true → later t ≡ true
  pub own : (r s upto : ℕ) (waits : Waits) (t : Ts) (o : Known) → r < port.opened.repos → slice_get links r ≡ Some (Joined s upto waits)
      → port.unsettled r ≡ Calm → lives (session (port.opened.base r) (port.seen r) s) ≡ true
      → known_by (port.opened.base r) (entries (port.seen r)) t ≡ Some o → o.fate ≡ Open → o.request.session ≡ s → later t ≡ true → (committed t ≡ true) ⊎ (verdict ≡ Some t)

-- The client is told that its transaction t has committed. Where its session s has prepared it at the repository and it is
-- undecided there, the copies of the repository's objects become what it wrote, and else they stay.
pub data TakesWrites (b : Base) (T : List Item) (s : ℕ) (awaits : Bool) (committed : Ts → Bool) (t : Ts) (copies left : Copies) : Type 0 where
  Elsewhere : is_prepared_by s (known_by b (entries T) t) ≡ false → (b.tells ≡ true → SameCopies b left copies) → TakesWrites b T s awaits committed t copies left
  Here : (o : Known) → known_by b (entries T) t ≡ Some o → is_prepared_by s (Some o) ≡ true → awaits ≡ false → NoneToFinish b (entries T) s committed → WritesOnPages b T s o.request
      → (b.tells ≡ true → SameCopies b left (with_writes o.request copies)) → TakesWrites b T s awaits committed t copies left

-- The same of a link: nothing is asked where its session isn't live, and without a session nothing is held.
abbrev pub LinkTakes : View → ℕ → (Ts → Bool) → Ts → Option Link → Copies → Copies → Type 0
LinkTakes port r committed t None copies left = Unit {0}
LinkTakes port r committed t (Some Apart) copies left = HoldsNone (port.opened.base r) left
LinkTakes port r committed t (Some (Joined s upto waits)) copies left =
    port.unsettled r ≡ Calm → lives (session (port.opened.base r) (port.seen r) s) ≡ true → TakesWrites (port.opened.base r) (port.seen r) s (is_reply waits) committed t copies left
LinkTakes port r committed t (Some (Unsettled sent index)) copies left = HoldsNone (port.opened.base r) left

-- The client is told that its transaction t has committed, which it didn't know.
pub record TakesAll (port : View) (links : List Link) (committed later : Ts → Bool) (t : Ts) (copies left : Copies) : Type 0 where
  pub new : committed t ≡ false
  pub told : later t ≡ true
  pub each : (r : ℕ) → r < port.opened.repos → LinkTakes port r committed t (slice_get links r) copies left
