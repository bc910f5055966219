-- What a client keeps of a repository, by its link there and its copies as the running system has them.
use Rattle.client_cache.specs.Pages.{on, page_of, same_name, same_page}
use Rattle.law_cache_coherence.specs.Fitting.{Copies, FitsAt, HoldsNone, Kept}
use Rattle.client_state.specs.Links.{is_reply}
use Rattle.client_state.specs.declared.link.Link.TheVariants.{Apart, Joined, Unsettled}
use Rattle.client_state.specs.declared.link.Link.{Link}
use Rattle.spec_history.specs.History.{Base, objects_at}
use Rattle.log_entries.specs.declared.entry.Entry.{Entry}
use Rattle.session_outbox.specs.declared.message.Message.TheVariants.{Grant, Invalid, Page, Upgrade}
use Rattle.session_outbox.specs.declared.message.Message.{Message}
use Rattle.client_port.specs.Views as views
use Rattle.spec_trace.specs.Trace.{Item}
use Rattle.std.specs.List.{list_any}
use Rattle.std.specs.Prelude.{Bool, List, None, Option, Some, cond, ℕ, ◌≡◌}
use Rattle.thor_value.specs.FiniteMap.{get}
use Rattle.thor_value.specs.declared.names.Oref.{Oref}
use Rattle.thor_value.specs.declared.names.Ts.{Ts}
use Rattle.thor_value.specs.declared.values.Obj.{Obj}

-- nothing is kept without a session
abbrev pub kept_by : Link → Copies → Option Kept
kept_by Apart copies = None
kept_by (Joined s upto waits) copies = Some (record { session = s; upto = upto; awaits = is_reply waits; copies = copies })
kept_by (Unsettled sent index) copies = None

-- what is kept fits the trace, and without a session nothing is held
abbrev pub FitsOrNone : ℕ → Base → views.Unsettled → List Item → (Ts → Bool) → Copies → Option Kept → Type 0
FitsOrNone c b u T committed copies None = HoldsNone b copies
FitsOrNone c b u T committed copies (Some kept) = FitsAt c b u T committed kept

-- The client c, with this link and these copies, fits what it has seen of a repository.
abbrev pub LinkFits : ℕ → Base → views.Unsettled → List Item → (Ts → Bool) → Link → Copies → Type 0
LinkFits c b u T committed link copies = FitsOrNone c b u T committed copies (kept_by link copies)

-- What becomes of the copies of a repository's objects by a message of it, as the client's functions say it: a page's objects
-- come in the place of the copies of it (no objects where it is a page of names), and what a message names is dropped.
abbrev pub Becomes : ℕ → (ℕ → Option Obj) → Message → Copies → Copies → Type 0
Becomes repo objects (Page page bytes k) old new = (x : Oref) → x.repo ≡ repo → new x ≡ cond (same_page (on repo page) (page_of x)) (objects x.slot) (old x)
Becomes repo objects (Grant page k) old new = (x : Oref) → x.repo ≡ repo → new x ≡ cond (same_page (on repo page) (page_of x)) None (old x)
Becomes repo objects (Invalid names k) old new = (x : Oref) → x.repo ≡ repo → new x ≡ cond (list_any (λ y. same_name y x) names) None (old x)
Becomes repo objects (Upgrade number text k) old new = (x : Oref) → x.repo ≡ repo → new x ≡ old x

-- A page brings what stood there at its place, by slots.
abbrev pub BringsContent : Base → List Entry → (ℕ → Option Obj) → Message → Type 0
BringsContent b H objects (Page page bytes k) = (x : Oref) → x.repo ≡ b.repo → x.page ≡ page → objects x.slot ≡ get (objects_at b H k) x
BringsContent b H objects (Grant page k) = Unit {0}
BringsContent b H objects (Invalid names k) = Unit {0}
BringsContent b H objects (Upgrade number text k) = Unit {0}
