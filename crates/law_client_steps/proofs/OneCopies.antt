-- What the copies of a client are that fits a store's only repository.
use Rattle.client_cache.specs.Copies.{kept}
use Rattle.law_cache_coherence.specs.Fitting.{FitsAt, KeepsUp, Kept}
use Rattle.law_cache_coherence.specs.Seen.{LinkAt}
use Rattle.client_state.specs.Links.{is_reply}
use Rattle.client_state.specs.declared.link.Link.TheVariants.{Joined}
use Rattle.client_state.specs.declared.link.Link.{Link}
use Rattle.client_state.specs.declared.link.Waits.{Waits}
use Rattle.law_client_steps.proofs.Alone.{none_open}
use Rattle.law_client_steps.specs.OneRepository.{FitsOne, IsRightOrTold, committed_there}
use Rattle.law_client_steps.specs.Positions.{Position}
use Rattle.spec_history.proofs.Listed.{is_some_and}
use Rattle.spec_history.specs.History.{Base}
use Rattle.client_port.specs.Views.{Calm}
use Rattle.spec_trace.proofs.Copies.{current-cases}
use Rattle.spec_trace.specs.Notices.{lives}
use Rattle.spec_trace.specs.Session.{invalid, session, session_lives}
use Rattle.spec_trace.specs.Trace.{Item, entries}
use Rattle.std.proofs.Common.{List, ap, arith, inl, inr, subst, sym, true, ◌∙◌, ◌≡◌, ℕ}
use Rattle.std.specs.List.{slice_get}
use Rattle.std.specs.Option.{IsSomeAnd}
use Rattle.std.specs.Prelude.{Option, Some, ◌<◌, ◌≤◌}
use Rattle.thor_value.specs.declared.names.Oref.{Oref}
use Rattle.thor_value.specs.declared.values.Obj.{Obj}

pub right_or_told : (p : Position) (s upto : ℕ) (waits : Waits) (x : Oref) (o : Obj) → FitsOne p → slice_get p.held.links.items 0 ≡ Some (Joined s upto waits) → p.port.unsettled 0 ≡ Calm → lives (session (p.port.opened.base 0) (p.port.seen 0) s) ≡ true
    → (p.port.opened.base 0).tells ≡ true → x.repo ≡ 0 → kept p.held.cache.cache x ≡ Some o → IsRightOrTold p.port s upto x o
right_or_told p s upto waits x o f link calm live tells here copy = elim (current-cases b (entries T) s h.v (committed_there p.port) x o live' k.step ((k.copies tells).current x o (here ∙ sym f.only.numbered) copy).0) [
  | inl right ↦ inl right
  | inr more ↦ elim more [
    | inl told ↦ inr (is_some_and (session b T s) (λ v. IsSomeAnd (invalid b (entries T) s v x) (λ n. upto ≤ n)) h.v h.there (subst (λ (n : ℕ). IsSomeAnd (invalid b (entries T) s h.v x) (λ m. n ≤ m)) (sym k.known) told))
    | inr own ↦ absurd (none_open b f.only.counted f.only.numbered (entries T) f.only.owed own.0 own.1 own.2.there own.2.open')
  ]
]
  where
    b : Base
    b = p.port.opened.base 0

    T : List Item
    T = p.port.seen 0

    holding : Kept
    holding = record { session = s; upto = upto; awaits = is_reply waits; copies = kept p.held.cache.cache }

    first : 0 < p.port.opened.repos
    first = subst (λ (n : ℕ). 0 < n) (sym f.only.one) (omega arith)

    h : FitsAt p.port.opened.client b (p.port.unsettled 0) T (committed_there p.port) holding
    h = subst (λ (l : Option Link). LinkAt p.port 0 (committed_there p.port) l (kept p.held.cache.cache)) link (f.fits.links.each 0 first)

    live' : session_lives h.v ≡ true
    live' = sym (ap lives h.there) ∙ live

    k : KeepsUp b T (committed_there p.port) h.v holding
    k = h.keeps calm live'
