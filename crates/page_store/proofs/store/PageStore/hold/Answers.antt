use Rattle.std.proofs.Common.{◌≡◌, ◌∙◌, ap, sym, ℕ}
use Rattle.lru.specs.LruCache.{lru_cache}
use Rattle.page_format.specs.Pages.{Contents}
use Rattle.page_format.specs.Sides.{side_in_use}
use Rattle.page_store.specs.Sides.{Shows}
use Rattle.page_store.specs.Store.{page_in}
use Rattle.page_store.proofs.Stores.{Held, some_of, promote_is, keeps_now, agrees_now, there_now, shows_now, held_now, again_now, not_held}
use Rattle.page_store.proofs.store.PageStore.hold.Goals as goal

pub invariant_of-self : goal.invariant_of-self
invariant_of-self g c =
    let there = some_of (page_in c.self.inside.held.entries c.args.page) c.holds.result (rw (← c.self.view_is) at c.holds.ensures) c.if-holds.true in
    let put = c.promote.ensures.entries ∙ ap (λ (es : Held). lru_cache es c.self.inside.held.cap) (promote_is c.self.inside.held.entries c.self.inside.held.cap c.args.page there.0 there.1) in
    let kept = c.self.invariant.pages.held c.args.page there.0 there.1 in
    keeps_now c.self.inside.sides c.self.inside.staged c.self.inside.held c.promote.new.self c.args.page there.0 c.self.invariant.cap_is put c.self.inside.room c.self.invariant kept.0 kept.1

pub returns-then-holds-clause-there : goal.returns-then-holds-clause-there
returns-then-holds-clause-there g c =
    let there = some_of (page_in c.self.inside.held.entries c.args.page) c.holds.result (rw (← c.self.view_is) at c.holds.ensures) c.if-holds.true in
    let put = c.promote.ensures.entries ∙ ap (λ (es : Held). lru_cache es c.self.inside.held.cap) (promote_is c.self.inside.held.entries c.self.inside.held.cap c.args.page there.0 there.1) in
    there_now c.self.inside.sides c.self.inside.staged c.self.inside.held c.promote.new.self c.args.page there.0 c.self.invariant.cap_is put

pub returns-then-holds-clause-page : goal.returns-then-holds-clause-page
returns-then-holds-clause-page g c = λ found here disk told.
    let there = some_of (page_in c.self.inside.held.entries c.args.page) c.holds.result (rw (← c.self.view_is) at c.holds.ensures) c.if-holds.true in
    let put = c.promote.ensures.entries ∙ ap (λ (es : Held). lru_cache es c.self.inside.held.cap) (promote_is c.self.inside.held.entries c.self.inside.held.cap c.args.page there.0 there.1) in
    let agrees = rw (← c.self.view_is) at c.requires.agrees in
    rw (← c.self.view_is) (shows_now c.self.inside.sides c.self.inside.staged c.self.inside.held c.promote.new.self c.args.page there.0 c.self.invariant.cap_is put (λ (p : Contents). Shows disk (side_in_use c.self.inside.sides c.args.page) c.args.page p) ((agrees disk told).held c.args.page there.0 there.1) found here)

pub returns-then-holds-clause-held : goal.returns-then-holds-clause-held
returns-then-holds-clause-held g c = λ found here.
    let there = some_of (page_in c.self.inside.held.entries c.args.page) c.holds.result (rw (← c.self.view_is) at c.holds.ensures) c.if-holds.true in
    let put = c.promote.ensures.entries ∙ ap (λ (es : Held). lru_cache es c.self.inside.held.cap) (promote_is c.self.inside.held.entries c.self.inside.held.cap c.args.page there.0 there.1) in
    rw (← c.self.view_is) (held_now c.self.inside.sides c.self.inside.staged c.self.inside.held c.promote.new.self c.args.page there.0 c.self.invariant.cap_is put found here)

pub returns-then-holds-clause-agrees : goal.returns-then-holds-clause-agrees
returns-then-holds-clause-agrees g c = λ disk told.
    let there = some_of (page_in c.self.inside.held.entries c.args.page) c.holds.result (rw (← c.self.view_is) at c.holds.ensures) c.if-holds.true in
    let put = c.promote.ensures.entries ∙ ap (λ (es : Held). lru_cache es c.self.inside.held.cap) (promote_is c.self.inside.held.entries c.self.inside.held.cap c.args.page there.0 there.1) in
    let agrees = rw (← c.self.view_is) at c.requires.agrees in
    agrees_now c.self.inside.sides c.self.inside.staged c.self.inside.held c.promote.new.self c.args.page there.0 c.self.invariant.cap_is put disk (agrees disk told) ((agrees disk told).held c.args.page there.0 there.1)

pub returns-then-holds-clause-again : goal.returns-then-holds-clause-again
returns-then-holds-clause-again g c = λ found here.
    let there = some_of (page_in c.self.inside.held.entries c.args.page) c.holds.result (rw (← c.self.view_is) at c.holds.ensures) c.if-holds.true in
    let put = c.promote.ensures.entries ∙ ap (λ (es : Held). lru_cache es c.self.inside.held.cap) (promote_is c.self.inside.held.entries c.self.inside.held.cap c.args.page there.0 there.1) in
    again_now c.self.inside.sides c.self.inside.staged c.self.inside.held c.promote.new.self c.args.page there.0 c.self.invariant.cap_is put there.1 found (rw (← c.self.view_is) at here)

pub fetch-requires : goal.fetch-requires
fetch-requires g c = record {
  within = λ side is disk told.
      let agrees = rw (← c.self.view_is) at c.requires.agrees in
      (agrees disk told).reaches c.args.page side (sym c.in_use.ensures.value ∙ is);
}

pub invariant_of-self-2 : goal.invariant_of-self-2
invariant_of-self-2 g c =
    keeps_now c.self.inside.sides c.self.inside.staged c.self.inside.held c.put.new.self c.args.page c.in_ok-found.found c.self.invariant.cap_is c.in_ok-put.ensures.entries c.self.inside.room c.self.invariant c.in_ok-found.ensures.objects c.in_ok-found.ensures.number

pub returns-clause-there : goal.returns-clause-there
returns-clause-there g c =
    there_now c.self.inside.sides c.self.inside.staged c.self.inside.held c.put.new.self c.args.page c.in_ok-found.found c.self.invariant.cap_is c.in_ok-put.ensures.entries

pub returns-clause-page : goal.returns-clause-page
returns-clause-page g c = λ found here disk told.
    rw (← c.self.view_is) (shows_now c.self.inside.sides c.self.inside.staged c.self.inside.held c.put.new.self c.args.page c.in_ok-found.found c.self.invariant.cap_is c.in_ok-put.ensures.entries (λ (p : Contents). Shows disk (side_in_use c.self.inside.sides c.args.page) c.args.page p) (rw c.in_use.ensures.value at (c.in_ok-found.ensures.page disk told)) found here)

pub returns-clause-held : goal.returns-clause-held
returns-clause-held g c = λ found here.
    rw (← c.self.view_is) (held_now c.self.inside.sides c.self.inside.staged c.self.inside.held c.put.new.self c.args.page c.in_ok-found.found c.self.invariant.cap_is c.in_ok-put.ensures.entries found here)

pub returns-clause-agrees : goal.returns-clause-agrees
returns-clause-agrees g c = λ disk told.
    let agrees = rw (← c.self.view_is) at c.requires.agrees in
    let was = sym c.fetch.ensures.content ∙ told in
    agrees_now c.self.inside.sides c.self.inside.staged c.self.inside.held c.put.new.self c.args.page c.in_ok-found.found c.self.invariant.cap_is c.in_ok-put.ensures.entries disk (agrees disk was) (rw c.in_use.ensures.value at (c.in_ok-found.ensures.page disk was))

pub returns-clause-again : goal.returns-clause-again
returns-clause-again g c = λ found here. absurd (not_held (page_in c.self.inside.held.entries c.args.page) c.holds.result (rw (← c.self.view_is) at c.holds.ensures) c.if-holds.false found (rw (← c.self.view_is) at here))
