-- What happens at one place of a list.
use Rattle.cluster_port.proofs.Placing.{past, set_here, some_same}
use Rattle.cluster_port.specs.Happening.{HappenedAt}
use Rattle.repo_site.specs.Shown.{Shown}
use Rattle.repo_site.specs.Sited.{Sited}
use Rattle.std.proofs.Common.{List, false, get_or, length, slice_set, subst, sym, true, ℕ, ◌<◌, ◌∙◌, ◌≡◌}
use Rattle.std.proofs.lemmas.Option.{slice_get_read}
use Rattle.std.specs.List.{slice_get}
use Rattle.std.specs.Prelude.{None, Some}

pub happened_at : (Does : Shown → Shown → Type 0) (sites : List Sited) (i n : ℕ) (old new : Sited) → n ≡ length sites → i < n → old ≡ get_or sites i old → Does old.shown new.shown → HappenedAt Does i sites (slice_set sites i new)
happened_at Does sites i n old new count within found did =
    let there : slice_get sites i ≡ Some old = slice_get_read sites n i old count within found in
    λ x is. (new, set_here sites i old new there, subst (λ (o : Sited). Does o.shown new.shown) (some_same old x (sym there ∙ is)) did)

pub none_happened : (Does : Shown → Shown → Type 0) (sites : List Sited) (i n : ℕ) → n ≡ length sites → (i < n → false ≡ true) → HappenedAt Does i sites sites
none_happened Does sites i n count out = λ x is. absurd (let no : None ≡ Some x = sym (past sites i n count out) ∙ is in cc)
