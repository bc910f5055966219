-- What a client makes of a message that it has taken (this project's).
use Rattle.client_cache.specs.Copies.{changed, kept}
use Rattle.client_cache.specs.Pages.{on, page_of, same_name, same_page}
use Rattle.client_cache.specs.Placing.{IsPageOf}
use Rattle.client_cache.specs.Copies.{Contents}
use Rattle.client_state.specs.Links.{acknowledged, answered, at_repo}
use Rattle.client_state.specs.declared.link.Link.{Link}
use Rattle.session_outbox.specs.declared.message.Message.TheVariants.{Grant, Invalid, Page, Upgrade}
use Rattle.session_outbox.specs.declared.message.Message.{Message}
use Rattle.std.specs.List.{list_any}
use Rattle.std.specs.Prelude.{List, None, Option, Result, Err, Ok, Some, cond, min, ℕ, ◌+◌, ◌-◌, ◌^◌, ◌≡◌}
use Rattle.thor_value.specs.declared.names.Oref.{Oref}
use Rattle.thor_value.specs.declared.values.Obj.{Obj}
use Rattle.repo_refusals.specs.declared.refusal.Refusal.{Refusal}

-- the place behind the entry at a place
abbrev pub next_place : ℕ → ℕ
next_place place = min (place + 1) (2 ^ 64 - 1)

-- The link behind a message. What a page shows ends below its place; what names objects, or an upgrade, is the entry
-- at its place.
abbrev pub took : Message → Link → Link
took (Page page bytes place) link = answered (acknowledged place link)
took (Grant page place) link = answered (acknowledged place link)
took (Invalid names place) link = acknowledged (next_place place) link
took (Upgrade number text place) link = acknowledged (next_place place) link

-- the links behind a call that takes a message: they change by a message that came, and by nothing else
abbrev pub links_behind : Result (Option Message) Refusal → ℕ → List Link → List Link
links_behind (Ok None) repo links = links
links_behind (Ok (Some message)) repo links = at_repo links repo (took message)
links_behind (Err refusal) repo links = links

-- no copy is left of these objects, and all others stay
abbrev pub Without : List Oref → Contents → Contents → Type 0
Without names old new = (x : Oref) → kept new x ≡ cond (list_any (λ y. same_name y x) names) None (kept old x)

-- nothing is left of what the try has written of these objects, and all else that it has written stays
abbrev pub WrittenWithout : List Oref → Contents → Contents → Type 0
WrittenWithout names old new = (x : Oref) → changed new x ≡ cond (list_any (λ y. same_name y x) names) None (changed old x)

-- a page's objects come in the place of the copies of it, where its bytes spell a page of objects
abbrev pub BringsPage : ℕ → ℕ → List ℕ → Contents → Contents → Type 0
BringsPage repo page bytes old new = (objects : ℕ → Option Obj) → IsPageOf bytes page objects → (x : Oref) → kept new x ≡ cond (same_page (on repo page) (page_of x)) (objects x.slot) (kept old x)
