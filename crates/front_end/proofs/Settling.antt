-- An Unknown item that is taken out of its link, and is settled or put back.
use Rattle.client_cache.specs.Copies.{kept}
use Rattle.client_items.specs.Courses.{is_committed}
use Rattle.client_items.specs.Meanings.{settled_as}
use Rattle.client_items.specs.declared.news.Settled.{Settled}
use Rattle.client_state.proofs.Stopping.{put_back, unsettled_there}
use Rattle.client_state.specs.Links.{at_repo, link_in}
use Rattle.client_state.specs.Moving.{HoldsLess, IsSettled}
use Rattle.client_state.specs.Settling.{SettlesAsSent}
use Rattle.client_state.specs.declared.held.Held.{Held}
use Rattle.client_state.specs.declared.link.Link.TheVariants.{Apart, Unsettled}
use Rattle.client_state.specs.declared.link.Link.{Link}
use Rattle.client_state.specs.declared.transaction.Sent.{Sent}
use Rattle.front_end.specs.Moving.{TakesUnsettled}
use Rattle.std.proofs.Common.{Bool, List, ap, inl, subst, sym, ℕ, ◌≡◌, ◌∙◌}
use Rattle.std.specs.Prelude.{Some, slice_get}

module _ (repo : ℕ) (a b : Held) (rest : b ≡ record a { links = b.links }) (apart : b.links.items ≡ at_repo a.links.items repo (λ l. Apart)) where
  pub takes_it : (sent : Sent) (index : ℕ) (link : Link) → link ≡ link_in (slice_get a.links.items repo) → link ≡ Unsettled sent index → TakesUnsettled repo sent index a b
  takes_it sent index link taken is = record { there = unsettled_there (slice_get a.links.items repo) sent index (sym is ∙ taken); links = apart; rest = rest }

  pub back_less : (c : Held) (link : Link) → link ≡ link_in (slice_get a.links.items repo) → c ≡ record b { links = c.links } → c.links.items ≡ at_repo b.links.items repo (λ l. link) → HoldsLess a c
  back_less c link taken then back = (
    ap (λ (h : Held). h.client) then ∙ ap (λ (h : Held). h.client) rest,
    put_back a.links.items b.links.items c.links.items repo link taken apart back,
    λ x. inl (ap (λ (h : Held). kept h.cache.cache x) then ∙ ap (λ (h : Held). kept h.cache.cache x) rest),
  )

module _ (repo : ℕ) (sent : Sent) (index : ℕ) (a b c : Held) (takes : TakesUnsettled repo sent index a b) where
  -- the item is settled
  pub settled_then : c ≡ record b { floor = c.floor; learnt = c.learnt } → IsSettled repo a c
  settled_then then = record {
    sent = sent;
    index = index;
    there = takes.there;
    links = ap (λ (h : Held). h.links.items) then ∙ takes.links;
    client = ap (λ (h : Held). h.client) then ∙ ap (λ (h : Held). h.client) takes.rest;
    fewer = λ x. inl (ap (λ (h : Held). kept h.cache.cache x) then ∙ ap (λ (h : Held). kept h.cache.cache x) takes.rest);
  }

  -- it is put back
  pub back_then : c ≡ record b { links = c.links } → c.links.items ≡ at_repo b.links.items repo (λ l. Unsettled sent index) → HoldsLess a c
  back_then then back = back_less repo a b takes.rest takes.links c (Unsettled sent index) (sym (ap link_in takes.there)) then back

-- an item that is settled by its link's repository has ended as it was sent
pub settled_sent : (links : List Link) (repo : ℕ) (sent : Sent) (index : ℕ) (commit : Bool) (s : Settled) → slice_get links repo ≡ Some (Unsettled sent index) → s.index ≡ index → s.ts ≡ sent.ts → is_committed s.outcome ≡ commit
    → s.outcome ≡ settled_as sent.ts commit repo sent.meaning → SettlesAsSent links s
settled_sent links repo sent index commit s there is tx stands own = record {
  coordinator = repo;
  sent = sent;
  kept = subst (λ (n : ℕ). slice_get links repo ≡ Some (Unsettled sent n)) (sym is) there;
  tx = tx;
  own = subst (λ (b : Bool). s.outcome ≡ settled_as sent.ts b repo sent.meaning) (sym stands) own;
}
