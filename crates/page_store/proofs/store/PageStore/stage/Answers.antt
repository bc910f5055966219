use Rattle.std.proofs.Common.{◌≡◌, ◌∙◌, ap, sym, subst, arith, None, nat_eq, is_some, length, ℕ, cond, ◌<◌}
use Rattle.std.specs.Map.{lookup}
use Rattle.lru.specs.LruCache.{lru_cache, put_entries}
use Rattle.page_format.specs.Pages.{Contents}
use Rattle.page_store.specs.Objects.{HasObjects}
use Rattle.page_store.proofs.Stores.{placed_is, keeps_staged}
use Rattle.page_store.proofs.store.PageStore.stage.Goals as goal

pub invariant_of-self-2 : goal.invariant_of-self-2
invariant_of-self-2 c =
    let was = c.self.inside.held in
    let copy_is : c.in_ok-copy.copy ≡ c.args.page.now = c.in_ok-copy.ensures in
    let number : c.number-number.result ≡ c.in_ok-copy.copy.number = c.number-number.ensures ∙ ap (λ (p : Contents). p.number) (sym copy_is) in
    let put = subst (λ (n : ℕ). c.make_place.new.held ≡ lru_cache (cond (is_some (lookup (nat_eq n) was.entries)) was.entries (put_entries nat_eq was n None)) was.cap) number c.in_ok-make_place.ensures.ok in
    let long : length c.self.inside.sides < c.grow.new.self = omega (arith, ap length c.as_slice.ensures.value, c.in_ok-grow.ensures.ok) in
    keeps_staged c.self.inside.sides c.self.inside.staged was c.make_place.new.held c.in_ok-copy.copy c.next_side-side.result c.self.inside.room c.grow.new.self c.self.invariant put (subst HasObjects (sym copy_is) c.requires.objects) long c.next_side-side.ensures.side

pub returns-clause-held : goal.returns-clause-held
returns-clause-held c =
    let was = c.self.inside.held in
    let put = subst (λ (n : ℕ). c.make_place.new.held ≡ lru_cache (cond (is_some (lookup (nat_eq n) was.entries)) was.entries (put_entries nat_eq was n None)) was.cap) c.number-number.ensures c.in_ok-make_place.ensures.ok in
    rw (← c.self.view_is) (placed_is was c.make_place.new.held c.args.page.now.number c.self.invariant.cap_is put).0
