-- Sides that end within the length of a disk.
use Rattle.page_format.specs.Pages.{Rises}
use Rattle.page_format.specs.Sides.{SidesFit, side_in_use}
use Rattle.page_store.specs.Sides.{ReachesSides}
use Rattle.repo_durable.specs.Reach.{are_within, end_of, is_within}
use Rattle.std.proofs.Common.{Bool, List, refl, Option, Some, [], ap, arith, cond, false, length, subst, suc, sym, true, ◌&&◌, ◌∷◌, ◌≡◌, ◌≤◌, ℕ}
use Rattle.std.proofs.lemmas.Bool.Decides.{nat_tests}
use Rattle.std.specs.BTreeMap.{is_at}
use Rattle.std.specs.Cmp.{nat_cmp_is}
use Rattle.std.specs.FinMap.{nat_cmp-IsAntisymmetric}
use Rattle.std.specs.Map.{lookup}
use Rattle.std.specs.Ordering.{is_eq, nat_cmp}
use Rattle.std.specs.declared.cmp.Ordering.TheVariants.{Equal, Greater, Less}
use Rattle.std.specs.declared.cmp.Ordering.{Ordering}

first : (a b : Bool) → a && b ≡ true → a ≡ true
first true b both = refl
first false b both = both

second : (a b : Bool) → a && b ≡ true → b ≡ true
second true b both = both
second false b both = cc

-- the side that is found ends within the length
found : (n page side : ℕ) (p : ℕ × ℕ) (rest : Option ℕ) (o : Ordering) → nat_cmp page p.0 ≡ o → is_within n p ≡ true → (rest ≡ Some side → end_of page side ≤ n) → cond (is_eq o) (Some p.1) rest ≡ Some side → end_of page side ≤ n
found n page side p rest Less is within more same = more same
found n page side p rest Greater is within more same = more same
found n page side p rest Equal is within more same =
    let there : page ≡ p.0 = nat_cmp-IsAntisymmetric page p.0 is in
    let here : p.1 ≡ side = cc in
    let below : end_of p.0 p.1 ≤ n = grind (arith, nat_tests) in
    subst (λ (s : ℕ). end_of page s ≤ n) here (subst (λ (q : ℕ). end_of q p.1 ≤ n) (sym there) below)

ends : (n : ℕ) (sides : List (ℕ × ℕ)) (page side : ℕ) → are_within n sides ≡ true → side_in_use sides page ≡ Some side → end_of page side ≤ n
ends n [] page side within is = cc
ends n (p ∷ ps) page side within is = found n page side p (lookup (is_at (nat_cmp page)) ps) (nat_cmp page p.0) refl (first (is_within n p) (are_within n ps) within) (λ there. ends n ps page side (second (is_within n p) (are_within n ps) within) there) is

-- a disk of this length reaches sides that end within it
pub reached : (sides : List (ℕ × ℕ)) (disk : List ℕ) (n : ℕ) → n ≡ length disk → are_within n sides ≡ true → ReachesSides sides disk
reached sides disk n is within = λ page side used. let end : end_of page side ≤ n = ends n sides page side within used in omega (arith, end, is)

-- ---- and the other way

both : (a b : Bool) → a ≡ true → b ≡ true → a && b ≡ true
both true b one other = other
both false b one other = cc

ends_within : (n page side : ℕ) → end_of page side ≤ n → is_within n (page, side) ≡ true
ends_within n page side below = grind (arith, nat_tests, below)

-- what is found in a list that rises is no lower
none_lower : (low : ℕ) (sides : List (ℕ × ℕ)) (page side : ℕ) → Rises low sides → side_in_use sides page ≡ Some side → low ≤ page
none_lower low [] page side rises is = cc
none_lower low (p ∷ ps) page side rises is = by (nat_cmp page p.0) refl is (λ more. none_lower (suc p.0) ps page side rises.1 more)
  where
    by : (o : Ordering) → nat_cmp page p.0 ≡ o → cond (is_eq o) (Some p.1) (side_in_use ps page) ≡ Some side → (side_in_use ps page ≡ Some side → suc p.0 ≤ page) → low ≤ page
    by Less at more rest = let above = rest more in omega (arith, above, rises.0)
    by Greater at more rest = let above = rest more in omega (arith, above, rises.0)
    by Equal at more rest = let there : page ≡ p.0 = nat_cmp-IsAntisymmetric page p.0 at in omega (arith, there, rises.0)

first_found : (p : ℕ × ℕ) (ps : List (ℕ × ℕ)) → side_in_use (p ∷ ps) p.0 ≡ Some p.1
first_found p ps = ap (λ (o : Ordering). cond (is_eq o) (Some p.1) (side_in_use ps p.0)) (sym (nat_cmp_is p.0 p.0 Equal refl))

later_found : (p : ℕ × ℕ) (ps : List (ℕ × ℕ)) (page side : ℕ) → Rises (suc p.0) ps → side_in_use ps page ≡ Some side → side_in_use (p ∷ ps) page ≡ Some side
later_found p ps page side rises is = by (nat_cmp page p.0) refl
  where
    by : (o : Ordering) → nat_cmp page p.0 ≡ o → cond (is_eq o) (Some p.1) (side_in_use ps page) ≡ Some side
    by Less at = is
    by Greater at = is
    by Equal at =
        let there : page ≡ p.0 = nat_cmp-IsAntisymmetric page p.0 at in
        let above = none_lower (suc p.0) ps page side rises is in
        absurd (omega (arith, there, above))

all_end : (n low : ℕ) (sides : List (ℕ × ℕ)) → Rises low sides → ((page side : ℕ) → side_in_use sides page ≡ Some side → end_of page side ≤ n) → are_within n sides ≡ true
all_end n low [] rises each = refl
all_end n low (p ∷ ps) rises each =
    both (is_within n p) (are_within n ps) (ends_within n p.0 p.1 (each p.0 p.1 (first_found p ps)))
    (all_end n (suc p.0) ps rises.1 (λ page side is. each page side (later_found p ps page side rises.1 is)))

-- sides that don't all end within the length of a disk it doesn't reach
pub not_reached : (sides : List (ℕ × ℕ)) (disk : List ℕ) (answer : Bool) → SidesFit sides → answer ≡ are_within (length disk) sides → answer ≡ false → ReachesSides sides disk → ⊥
not_reached sides disk answer fit is isnt reaches =
    let within : are_within (length disk) sides ≡ true = all_end (length disk) 0 sides fit.rising (λ page side used. let end = reaches page side used in omega (arith, end)) in
    cc
