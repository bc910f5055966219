-- What a client holds behind its leaving of repositories.
use Rattle.client_cache.specs.Copies.{kept}
use Rattle.client_state.proofs.Moving.{fewer_among}
use Rattle.client_state.proofs.Stopping.{among_none, leaves_more, leaves_none, leaves_unsettled}
use Rattle.client_state.specs.Links.{at_repo}
use Rattle.client_state.specs.Moving.{HoldsLess, LeavesLess, LeavesSome}
use Rattle.client_state.specs.declared.held.Held.{Held}
use Rattle.client_state.specs.declared.link.Link.TheVariants.{Unsettled}
use Rattle.client_state.specs.declared.transaction.Sent.{Sent}
use Rattle.paused_eval.specs.Copies.{AreAmong}
use Rattle.std.proofs.Common.{ap, inl, refl, ℕ, ◌≡◌, ◌∙◌}
use Rattle.std.specs.Prelude.{None}
use Rattle.thor_value.specs.declared.names.Oref.{Oref}

pub leaves_itself : (a : Held) → LeavesLess a a
leaves_itself a = (refl, (λ n. inl refl), λ x. inl refl)

pub leaves_then : (a b c : Held) → LeavesLess a b → c.client ≡ b.client → LeavesSome b c → AreAmong (kept b.cache.cache) (kept c.cache.cache) → LeavesLess a c
leaves_then a b c f client some fewer = (client ∙ f.0, leaves_more a b c fewer f.1 some, fewer_among (kept a.cache.cache) (kept b.cache.cache) (kept c.cache.cache) f.2 fewer)

-- the coordinator is left last, and the verdict is to be learnt there
pub held_unknown : (repo : ℕ) (sent : Sent) (index : ℕ) (a b c d e : Held) → LeavesLess a b → c.client ≡ b.client → LeavesSome b c → ((x : Oref) → x.repo ≡ repo → kept c.cache.cache x ≡ None) → AreAmong (kept b.cache.cache) (kept c.cache.cache)
    → HoldsLess c d → e ≡ record d { links = e.links } → e.links.items ≡ at_repo d.links.items repo (λ l. Unsettled sent index) → LeavesLess a e
held_unknown repo sent index a b c d e f client some none fewer less rest links =
    let ac : LeavesLess a c = leaves_then a b c f client some fewer in
    let ad : LeavesLess a d = leaves_then a c d ac less.0 (leaves_none c d less.1) less.2 in
    let gone : (x : Oref) → x.repo ≡ repo → kept e.cache.cache x ≡ None = (λ x here. ap (λ (h : Held). kept h.cache.cache x) rest ∙ among_none (kept c.cache.cache x) (kept d.cache.cache x) (less.2 x) (none x here)) in
    leaves_then a d e ad (ap (λ (h : Held). h.client) rest) (leaves_unsettled repo sent index d e gone links) (λ x. inl (ap (λ (h : Held). kept h.cache.cache x) rest))
