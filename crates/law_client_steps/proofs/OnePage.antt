-- A page of the small run brings what stood at its place.
use Rattle.law_client_steps.specs.OneExample.{first_page, seeing, whole}
use Rattle.law_client_steps.specs.Owed.{PageOwed}
use Rattle.spec_history.specs.Examples.{box, only, x, y}
use Rattle.spec_history.specs.History.{objects_at}
use Rattle.object_codec.specs.Spelling.{ObjFits, obj_bytes}
use Rattle.page_format.specs.Pages as page
use Rattle.spec_trace.specs.Trace.{entries}
use Rattle.std.proofs.Common.{rules, Bool, Equal, Greater, Less, Ordering, ap, arith, cond, false, is_eq, refl, subst, sym, take, true, ◌<◌, ◌∙◌, ◌≡◌, ℕ}
use Rattle.std.proofs.lemmas.Map.Lookups.{exact_unsigned}
use Rattle.std.proofs.lemmas.Option.{same_Some}
use Rattle.std.specs.Cmp.{nat_cmp_total}
use Rattle.std.specs.Option.{option_map}
use Rattle.std.specs.Ordering.{eq_by_cmp, nat_cmp}
use Rattle.std.specs.Prelude.{None, Option, Some}
use Rattle.thor_value.proofs.FiniteMap.{get-insert}
use Rattle.thor_value.proofs.NameOrders.{oref_total}
use Rattle.thor_value.specs.FiniteMap.{empty, get, insert}
use Rattle.thor_value.specs.Names.{oref_cmp}
use Rattle.thor_value.specs.declared.names.Oref.{Oref}
use Rattle.thor_value.specs.declared.values.Obj.{Obj}

abbrev two : {X : Type 0} → X → Bool → Bool → Option X
two v t u = cond t (Some v) (cond u (Some v) None)

-- the objects of the page, by slots
abbrev in_slot : ℕ → Option Obj
in_slot s = two (box 0) (eq_by_cmp nat_cmp s 1) (eq_by_cmp nat_cmp s 0)

equal : (r : Ordering) → is_eq r ≡ true → r ≡ Equal
equal Equal h = refl
equal Less h = cc
equal Greater h = cc

box_fits : ObjFits (box 0)
box_fits = search rules

page_fits : page.PageFits first_page
page_fits = record { number = omega arith; objects = record { rising = (omega arith, (omega arith, tt)); each = ((omega arith, omega arith), ((omega arith, omega arith), tt)); count = omega arith; room = omega arith } }

slots : (s : ℕ) → get first_page.objects s ≡ option_map obj_bytes (in_slot s)
slots s = get-insert nat_cmp_total (insert empty 0 (obj_bytes (box 0))) 1 (obj_bytes (box 0)) s ∙ ap (cond (eq_by_cmp nat_cmp s 1) (Some (obj_bytes (box 0)))) (get-insert nat_cmp_total empty 0 (obj_bytes (box 0)) s) ∙ by (eq_by_cmp nat_cmp s 1) (eq_by_cmp nat_cmp s 0)
  where
    by : (t u : Bool) → two (obj_bytes (box 0)) t u ≡ option_map obj_bytes (two (box 0) t u)
    by true u = refl
    by false true = refl
    by false false = refl

low : (n m : ℕ) → n ≡ m → m < 12 → n < 12
low n m e l = omega arith

fits : (s : ℕ) (o : Obj) → in_slot s ≡ Some o → (s < 12) × ObjFits o
fits s o is = by (eq_by_cmp nat_cmp s 1) (eq_by_cmp nat_cmp s 0) refl refl is
  where
    by : (t u : Bool) → eq_by_cmp nat_cmp s 1 ≡ t → eq_by_cmp nat_cmp s 0 ≡ u → two (box 0) t u ≡ Some o → (s < 12) × ObjFits o
    by true u e f g = (low s 1 (exact_unsigned s 1 (equal (nat_cmp s 1) e)) (omega arith), subst ObjFits (same_Some (box 0) o g) box_fits)
    by false true e f g = (low s 0 (exact_unsigned s 0 (equal (nat_cmp s 0) f)) (omega arith), subst ObjFits (same_Some (box 0) o g) box_fits)
    by false false e f g = cc

stood : (z : Oref) → z.repo ≡ 0 → z.page ≡ 0 → in_slot z.slot ≡ get (objects_at only (entries (take 1 whole)) 1) z
stood z here on = sym (get-insert oref_total (insert empty x (box 0)) y (box 0) z ∙ ap (cond (eq_by_cmp oref_cmp z y) (Some (box 0))) (get-insert oref_total empty x (box 0) z) ∙ both (eq_by_cmp oref_cmp z y) (eq_by_cmp nat_cmp z.slot 1) (eq_by_cmp oref_cmp z x) (eq_by_cmp nat_cmp z.slot 0) (same y refl refl) (same x refl refl))
  where
    same : (w : Oref) → w.repo ≡ 0 → w.page ≡ 0 → eq_by_cmp oref_cmp z w ≡ eq_by_cmp nat_cmp z.slot w.slot
    same w a b = rw (here, on, a, b) refl

    both : (t t' u u' : Bool) → t ≡ t' → u ≡ u' → two (box 0) t u ≡ two (box 0) t' u'
    both t t' u u' e f = ap (λ (a : Bool). two (box 0) a u) e ∙ ap (λ (a : Bool). two (box 0) t' a) f

pub brings : PageOwed (seeing (take 1 whole)) 0 0 (page.page_bytes first_page) 1
brings = record {
  objects = in_slot;
  spelled = record { contents = first_page; fits = page_fits; spelled = refl; number_is = refl; brings = record { slots = slots; fits = fits } };
  brings = λ tells z here on. stood z here on;
}
