-- A page with the buffer's objects put into its slots one after the other.
use Rattle.std.proofs.Common.{◌≡◌, ℕ, ◌+◌, Bool, false, cond, List, Option, Some, None, refl, ap, sym, subst, ◌∙◌, arith, inl, inr}
use Rattle.std.specs.Ordering.{nat_cmp, is_eq}
use Rattle.std.specs.Option.{option_map_or}
use Rattle.std.specs.declared.cmp.Ordering.{Ordering}
use Rattle.std.specs.declared.cmp.Ordering.TheVariants.{Less, Equal, Greater}
use Rattle.std.specs.Cmp.{nat_cmp_is}
use Rattle.std.proofs.lemmas.Cmp.{nat_cmp_total, ranked}
use Rattle.std.proofs.lemmas.Bool.{cases_lt}
use Rattle.thor_value.specs.FiniteMap.{get, insert}
use Rattle.thor_value.proofs.FiniteMap.{get-insert}
use Rattle.thor_value.specs.declared.values.Obj.{Obj}
use Rattle.object_codec.specs.Spelling.{obj_bytes}
use Rattle.page_format.specs.Pages.{Contents}
use Rattle.mob_buffer.specs.Buffer.{Objects, object_of}
use Rattle.mob_flusher.specs.Images.{IsImageTo, name_of, over, overlaid}

apart_by : (o : Ordering) (x y : ℕ) → o ≡ nat_cmp x y → (x ≡ y → ⊥) → is_eq o ≡ false
apart_by Less x y e n = refl
apart_by Equal x y e n = absurd (n (ranked x y Equal e))
apart_by Greater x y e n = refl

get_here : (page : Contents) (slot : ℕ) (bytes : List ℕ) → get (insert page.objects slot bytes) slot ≡ Some bytes
get_here page slot bytes = get-insert nat_cmp_total page.objects slot bytes slot ∙ ap (λ (o : Ordering). cond (is_eq o) (Some bytes) (get page.objects slot)) (sym (nat_cmp_is slot slot Equal refl))

get_other : (page : Contents) (slot other : ℕ) (bytes : List ℕ) → (other ≡ slot → ⊥) → get (insert page.objects slot bytes) other ≡ get page.objects other
get_other page slot other bytes apart = get-insert nat_cmp_total page.objects slot bytes other ∙ ap (λ (b : Bool). cond b (Some bytes) (get page.objects other)) (apart_by (nat_cmp other slot) other slot refl apart)

-- what the slot has that an object was put over, and what another has
pub overlaid_here : (page : Contents) (slot : ℕ) (o : Option Obj) → get (overlaid page slot o).objects slot ≡ option_map_or (λ object. Some (obj_bytes object)) o (get page.objects slot)
overlaid_here page slot None = refl
overlaid_here page slot (Some object) = get_here page slot (obj_bytes object)

pub overlaid_other : (page : Contents) (slot other : ℕ) (o : Option Obj) → (other ≡ slot → ⊥) → get (overlaid page slot o).objects other ≡ get page.objects other
overlaid_other page slot other None apart = refl
overlaid_other page slot other (Some object) apart = get_other page slot other (obj_bytes object) apart

overlaid_number : (page : Contents) (slot : ℕ) (o : Option Obj) → (overlaid page slot o).number ≡ page.number
overlaid_number page slot None = refl
overlaid_number page slot (Some object) = refl

pub image_none : (objects : Objects) (repo : ℕ) (base : Contents) → IsImageTo objects repo base base 0
image_none objects repo base = record { number = refl; below = λ slot lt. absurd (omega (arith, lt)); rest = λ slot le. refl }

pub image_more : (objects : Objects) (repo : ℕ) (base image now : Contents) (end : ℕ) → IsImageTo objects repo base image end → now ≡ overlaid image end (object_of objects (name_of repo base.number end)) → IsImageTo objects repo base now (end + 1)
image_more objects repo base image now end so_far is =
    let o = object_of objects (name_of repo base.number end) in
    subst (λ (c : Contents). IsImageTo objects repo base c (end + 1)) (sym is) (record {
      number = overlaid_number image end o ∙ so_far.number;
      below = λ slot lt. elim (cases_lt slot end) [
        | inl before ↦ overlaid_other image end slot o (λ same. absurd (omega (arith, before, same))) ∙ so_far.below slot before
        | inr at ↦ (let e : end ≡ slot = omega arith in
            subst (λ (s : ℕ). get (overlaid image end o).objects s ≡ over objects repo base s) e
            (overlaid_here image end o ∙ ap (λ (d : Option (List ℕ)). option_map_or (λ object. Some (obj_bytes object)) o d) (so_far.rest end (omega arith))))
      ];
      rest = λ slot le. overlaid_other image end slot o (λ same. absurd (omega (arith, le, same))) ∙ so_far.rest slot (omega (arith, le));
    })
