-- Images that are kept, through calls.
use Rattle.std.proofs.Common.{◌≡◌, ℕ, zero, suc, ◌+◌, ◌<◌, ◌⊎◌, ◌&&◌, ◌==◌, IsSome, Bool, true, false, cond, nat_eq, List, [], ◌∷◌, ◌++◌, length, take, Option, Some, None, get_or, refl, ap, sym, subst, ◌∙◌, arith, inl, inr}
use Rattle.std.specs.Prelude.{IfSome, is_some, option_and_then, slice_get, slice_set}
use Rattle.std.specs.Option.{option_map_or, unwrap_or}
use Rattle.std.proofs.lemmas.Bool.{cases_eq, eq-eqb}
use Rattle.std.proofs.lemmas.Bool.Decides.{eqb_tells}
use Rattle.std.proofs.lemmas.List.{get_or-set_other, get_or-set_same}
use Rattle.std.proofs.lemmas.Option.{same_Some, slice_get_within, unwrap_or-slice_get}
use Rattle.thor_value.specs.FiniteMap.{get}
use Rattle.thor_value.specs.declared.names.Oref.{Oref}
use Rattle.thor_value.specs.declared.values.Obj.{Obj}
use Rattle.object_codec.specs.Spelling.{obj_bytes}
use Rattle.page_format.specs.Pages.{Contents}
use Rattle.page_store.specs.Objects.{HasObjects}
use Rattle.page_store.specs.Store.{Store, held_page, page_in, with_held}
use Rattle.page_store.proofs.Stores.{held_put}
use Rattle.mob_buffer.specs.Buffer.{AreOf, AreOneRepo, Buffer, IsOf, Objects, object_of, same_name, with_all, with_object}
use Rattle.mob_buffer.proofs.Writes.{all_next, object_after, of_all}
use Rattle.mob_flusher.specs.Images.{IsHeldImage, IsImage, name_of, over, overlaid}
use Rattle.mob_flusher.specs.KeptImages.{AreImages, AreKept, AreKeptBut, HaveObjects, IsHeldStill, IsImageOver, IsKeptOr, IsKeptOrThis, IsPut, IsPutBack, Places, ShowHeld, at_place, image_in, of_page, place_of, placed}
use Rattle.mob_flusher.specs.Map.{Kept}
use Rattle.mob_flusher.proofs.Overlays.{overlaid_here, overlaid_other}

-- ---- the image at a place

of_by : (b : Bool) (image now : Contents) → cond b (Some image) None ≡ Some now → (b ≡ true) × (image ≡ now)
of_by true image now is = (refl, same_Some image now is)
of_by false image now is = cc

page_equal : (a b : ℕ) → nat_eq a b ≡ true → a ≡ b
page_equal a b is = elim (eqb_tells a b) [ inl same ↦ same.1 | inr apart ↦ (let no = sym apart.0 ∙ is in cc) ]

-- an image of a page has its number
of_is : (page : ℕ) (image now : Contents) → of_page page image ≡ Some now → (image.number ≡ page) × (image ≡ now)
of_is page image now is = let h = of_by (nat_eq image.number page) image now is in (page_equal image.number page h.0, h.1)

at_is : (place : Option Contents) (page : ℕ) (now : Contents) → option_and_then (of_page page) place ≡ Some now → (place ≡ Some now) × (now.number ≡ page)
at_is (Some image) page now is = let h = of_is page image now is in (ap Some h.1, sym (ap (λ (c : Contents). c.number) h.1) ∙ h.0)
at_is None page now is = cc

pub image_number : (places : Places) (page : ℕ) (image : Contents) → image_in places page ≡ Some image → image.number ≡ page
image_number places page image is = (at_is (at_place places (place_of page)) page image is).1

-- ---- another image at a place

module _ (places : Places) (i : ℕ) (v : Option Contents) where
  at_same : (place : ℕ) → i < length places → i ≡ place → at_place (slice_set places i v) place ≡ v
  at_same place below at = ap (at_place (slice_set places i v)) (sym at) ∙ unwrap_or-slice_get (slice_set places i v) i None ∙ get_or-set_same places i v None below

  at_other : (place : ℕ) → (i ≡ place → ⊥) → at_place (slice_set places i v) place ≡ at_place places place
  at_other place apart = unwrap_or-slice_get (slice_set places i v) place None ∙ get_or-set_other places i place v None (λ e. apart (sym e)) ∙ sym (unwrap_or-slice_get places place None)

  pub have_set : HaveObjects places → i < length places → ((image : Contents) → v ≡ Some image → HasObjects image) → HaveObjects (slice_set places i v)
  have_set have below here place image is = elim (cases_eq i place) [
    | inl same ↦ here image (sym (at_same place below same) ∙ is)
    | inr other ↦ have place image (sym (at_other place other) ∙ is)
  ]

  set_same : (page : ℕ) → i < length places → i ≡ place_of page → image_in (slice_set places i v) page ≡ option_and_then (of_page page) v
  set_same page below at = ap (option_and_then (of_page page)) (at_same (place_of page) below at)

  set_other : (page : ℕ) → (i ≡ place_of page → ⊥) → image_in (slice_set places i v) page ≡ image_in places page
  set_other page apart = ap (option_and_then (of_page page)) (at_other (place_of page) apart)

  -- what is kept of another page than the one whose place it is was kept before
  set_others : (page p : ℕ) (now : Contents) → i < length places → ((w : Contents) → v ≡ Some w → w.number ≡ page) → (p ≡ page → ⊥) → image_in (slice_set places i v) p ≡ Some now → image_in places p ≡ Some now
  set_others page p now below number apart is = elim (cases_eq i (place_of p)) [
    | inl same ↦ (let h = at_is v p now (sym (set_same p below same) ∙ is) in absurd (apart (sym h.1 ∙ number now h.0)))
    | inr other ↦ sym (set_other p other) ∙ is
  ]

  set_here : (page : ℕ) (now : Contents) → i < length places → i ≡ place_of page → image_in (slice_set places i v) page ≡ Some now → v ≡ Some now
  set_here page now below at is = (at_is v page now (sym (set_same page below at) ∙ is)).0

-- the same where the place may not be there
module _ (places now : Places) (i : ℕ) (v : Option Contents) (page : ℕ) (at : i ≡ place_of page) (is : now ≡ placed v places i (slice_get places i)) where
  kept_by : (o : Option (Option Contents)) → slice_get places i ≡ o → (w : Contents) → image_in (placed v places i o) page ≡ Some w → v ≡ Some w
  kept_by (Some was) there w here = set_here places i v page w (slice_get_within places i was there) at here
  kept_by None none w here =
      let gone : at_place places (place_of page) ≡ None = ap (at_place places) (sym at) ∙ ap (λ (o : Option (Option Contents)). unwrap_or o None) none in
      let no : None ≡ Some w = sym (ap (option_and_then (of_page page)) gone) ∙ here in
      cc

  pub swapped_here : (w : Contents) → image_in now page ≡ Some w → v ≡ Some w
  swapped_here w here = kept_by (slice_get places i) refl w (sym (ap (λ (l : Places). image_in l page) is) ∙ here)

  others_by : ((w : Contents) → v ≡ Some w → w.number ≡ page) → (o : Option (Option Contents)) → slice_get places i ≡ o → (p : ℕ) (w : Contents) → (p ≡ page → ⊥) → image_in (placed v places i o) p ≡ Some w → image_in places p ≡ Some w
  others_by number (Some was) there p w apart here = set_others places i v page p w (slice_get_within places i was there) number apart here
  others_by number None none p w apart here = here

  pub swapped_others : ((w : Contents) → v ≡ Some w → w.number ≡ page) → (p : ℕ) (w : Contents) → (p ≡ page → ⊥) → image_in now p ≡ Some w → image_in places p ≡ Some w
  swapped_others number p w apart here = others_by number (slice_get places i) refl p w apart (sym (ap (λ (l : Places). image_in l p) is) ∙ here)

  have_by : HaveObjects places → ((w : Contents) → v ≡ Some w → HasObjects w) → (o : Option (Option Contents)) → slice_get places i ≡ o → HaveObjects (placed v places i o)
  have_by have objects (Some was) there = have_set places i v have (slice_get_within places i was there) objects
  have_by have objects None none = have

  pub have_swapped : HaveObjects places → ((w : Contents) → v ≡ Some w → HasObjects w) → HaveObjects now
  have_swapped have objects = subst HaveObjects (sym is) (have_by have objects (slice_get places i) refl)

  pub swapped_was : (result : Option Contents) → result ≡ at_place places i → (was : Contents) → image_in places page ≡ Some was → result ≡ Some was
  swapped_was result got was here = got ∙ ap (at_place places) at ∙ (at_is (at_place places (place_of page)) page was here).0

-- what was at a place is a page of objects
had_by : (places : Places) (i : ℕ) → HaveObjects places → (o : Option Contents) → at_place places i ≡ o → IfSome o HasObjects
had_by places i have (Some image) is = have i image is
had_by places i have None is = tt

pub had : (places : Places) (i : ℕ) (result : Option Contents) → HaveObjects places → result ≡ at_place places i → IfSome result HasObjects
had places i result have is = had_by places i have result (sym is)

-- no image stands anywhere
pub none_in : (places : Places) → ((place : ℕ) (image : Contents) → at_place places place ≡ Some image → ⊥) → (page : ℕ) (now : Contents) → image_in places page ≡ Some now → ⊥
none_in places none page now is = none (place_of page) now (at_is (at_place places (place_of page)) page now is).0

-- ---- an image is taken out, and put back with an object in it

some_apart : (o : Option Contents) (w : Contents) → false ≡ is_some o → o ≡ Some w → ⊥
some_apart (Some c) w none is = cc
some_apart None w none is = cc

pub not_kept_but : (places : Places) (page : ℕ) → false ≡ is_some (image_in places page) → AreKeptBut page places places
not_kept_but places page none p w here = (here, λ at. some_apart (image_in places page) w none (sym (ap (image_in places) at) ∙ here))

pub swapped_none : (before now : Places) (page : ℕ) → ((w : Contents) → image_in now page ≡ Some w → None ≡ Some w) → ((p : ℕ) (w : Contents) → (p ≡ page → ⊥) → image_in now p ≡ Some w → image_in before p ≡ Some w) → AreKeptBut page now before
swapped_none before now page none others p w here = elim (cases_eq p page) [
  | inl same ↦ (let no = none w (sym (ap (image_in now) same) ∙ here) in cc)
  | inr apart ↦ (others p w apart here, apart)
]

took_by : (places : Places) (page : ℕ) (result o : Option Contents) → image_in places page ≡ o → true ≡ is_some o → ((was : Contents) → image_in places page ≡ Some was → result ≡ Some was) → IfSome result (λ image. image_in places page ≡ Some image)
took_by places page result (Some was) is some taken = subst (λ (r : Option Contents). IfSome r (λ image. image_in places page ≡ Some image)) (sym (taken was is)) is
took_by places page result None is some taken = cc

pub took : (places : Places) (page : ℕ) (result : Option Contents) → true ≡ is_some (image_in places page) → ((was : Contents) → image_in places page ≡ Some was → result ≡ Some was) → IfSome result (λ image. image_in places page ≡ Some image)
took places page result some taken = took_by places page result (image_in places page) refl some taken

pub this_one : (P : Contents → Type 0) (image w : Contents) → P image → Some image ≡ Some w → P w
this_one P image w holds is = subst P (same_Some image w is) holds

pub kept_or_this : (before mid now : Places) (image : Contents) → AreKept mid before → ((w : Contents) → image_in now image.number ≡ Some w → Some image ≡ Some w)
    → ((p : ℕ) (w : Contents) → (p ≡ image.number → ⊥) → image_in now p ≡ Some w → image_in mid p ≡ Some w) → (p : ℕ) (w : Contents) → image_in now p ≡ Some w → IsKeptOrThis before image p w
kept_or_this before mid now image kept this others p w here = elim (cases_eq p image.number) [
  | inl same ↦ inr (same, sym (same_Some image w (this w (sym (ap (image_in now) same) ∙ here))))
  | inr apart ↦ inl (kept p w (others p w apart here))
]

module _ (x : Oref) (o : Obj) where
  pub put_back_is : (before now : Places) (image put : Contents) → put ≡ overlaid image x.slot (Some o) → ((w : Contents) → image_in now x.page ≡ Some w → Some put ≡ Some w)
      → ((p : ℕ) (w : Contents) → (p ≡ x.page → ⊥) → image_in now p ≡ Some w → image_in before p ≡ Some w) → (p : ℕ) (w : Contents) → image_in now p ≡ Some w → IsPutBack before image x o p w
  put_back_is before now image put is this others p w here = elim (cases_eq p x.page) [
    | inl same ↦ inr (same, sym (same_Some put w (this w (sym (ap (image_in now) same) ∙ here))) ∙ is)
    | inr apart ↦ inl (others p w apart here)
  ]

  pub put_some : (before mid now : Places) (image : Contents) → image_in before x.page ≡ Some image → AreKeptBut x.page mid before → ((p : ℕ) (w : Contents) → image_in now p ≡ Some w → IsPutBack mid image x o p w)
      → (p : ℕ) (w : Contents) → image_in now p ≡ Some w → IsPut before x o p w
  put_some before mid now image taken kept put p w here = elim (put p w here) [
    | inl was ↦ inl (kept p w was)
    | inr back ↦ inr (image, ap (image_in before) back.0 ∙ taken, back.0, back.1)
  ]

  pub put_none : (before now : Places) → AreKeptBut x.page now before → (p : ℕ) (w : Contents) → image_in now p ≡ Some w → IsPut before x o p w
  put_none before now kept p w here = inl (kept p w here)

-- ---- images behind a write

and_false : (a b c : Bool) → b ≡ false → (a && (b && c)) ≡ false
and_false true b c is = ap (λ x. x && c) is
and_false false b c is = refl

and_last : (a b c : Bool) → c ≡ false → (a && (b && c)) ≡ false
and_last true true c is = is
and_last true false c is = refl
and_last false b c is = refl

tells_no : (a b : ℕ) → (a ≡ b → ⊥) → (a == b) ≡ false
tells_no a b apart = elim (eqb_tells a b) [ inl same ↦ absurd (apart same.1) | inr off ↦ off.0 ]

module _ (objects : Objects) (repo : ℕ) (base : Contents) (x : Oref) (o : Obj) where
  over_is : (slot : ℕ) (b : Bool) → same_name (name_of repo base.number slot) x ≡ b → over (with_object objects x o) repo base slot ≡ cond b (Some (obj_bytes o)) (over objects repo base slot)
  over_is slot true is = ap (λ (p : Option Obj). option_map_or (λ object. Some (obj_bytes object)) p (get base.objects slot)) (object_after objects x o (name_of repo base.number slot) ∙ ap (λ (b : Bool). cond b (Some o) (object_of objects (name_of repo base.number slot))) is)
  over_is slot false is = ap (λ (p : Option Obj). option_map_or (λ object. Some (obj_bytes object)) p (get base.objects slot)) (object_after objects x o (name_of repo base.number slot) ∙ ap (λ (b : Bool). cond b (Some o) (object_of objects (name_of repo base.number slot))) is)

  -- a write on another page
  image_still : (image : Contents) → (base.number ≡ x.page → ⊥) → IsImage objects repo base image → IsImage (with_object objects x o) repo base image
  image_still image apart so_far = record {
    number = so_far.number;
    below = λ slot lt. so_far.below slot lt ∙ sym (over_is slot false (and_false (repo == x.repo) (base.number == x.page) (slot == x.slot) (tells_no base.number x.page apart)));
    rest = so_far.rest;
  }

  -- a write on this one
  image_put : (image : Contents) → repo ≡ x.repo → base.number ≡ x.page → x.slot < 12 → IsImage objects repo base image → IsImage (with_object objects x o) repo base (overlaid image x.slot (Some o))
  image_put image of_repo at fits so_far = record {
    number = so_far.number;
    below = λ slot lt. elim (cases_eq x.slot slot) [
      | inl same ↦ (let named : same_name (name_of repo base.number slot) x ≡ true =
          ap (λ (b : Bool). b && ((base.number == x.page) && (slot == x.slot))) (eq-eqb repo x.repo of_repo)
          ∙ ap (λ (b : Bool). b && (slot == x.slot)) (eq-eqb base.number x.page at)
          ∙ eq-eqb slot x.slot (sym same) in
          subst (λ (s : ℕ). get (overlaid image x.slot (Some o)).objects s ≡ Some (obj_bytes o)) same (overlaid_here image x.slot (Some o)) ∙ sym (over_is slot true named))
      | inr other ↦ overlaid_other image x.slot slot (Some o) (λ e. other (sym e)) ∙ so_far.below slot lt
          ∙ sym (over_is slot false (and_last (repo == x.repo) (base.number == x.page) (slot == x.slot) (tells_no slot x.slot (λ e. other (sym e)))))
    ];
    rest = λ slot le. overlaid_other image x.slot slot (Some o) (λ e. absurd (omega (arith, le, e, fits))) ∙ so_far.rest slot le;
  }

  images_put : (before now : Places) → repo ≡ x.repo → x.slot < 12 → AreImages before objects repo base → ((page : ℕ) (image : Contents) → image_in now page ≡ Some image → IsPut before x o page image) → AreImages now (with_object objects x o) repo base
  images_put before now of_repo fits so_far put image is = elim (put base.number image is) [
    | inl was ↦ image_still image was.1 (so_far image was.0)
    | inr there ↦ (let old = there.0 in subst (λ (c : Contents). IsImage (with_object objects x o) repo base c) (sym there.3) (image_put old of_repo there.2 fits (so_far old there.1)))
  ]

is_of : (repo : ℕ) (writes : List (Oref × Obj)) (n : ℕ) (d : Oref × Obj) → AreOf repo writes → n < length writes → IsOf repo (get_or writes n d)
is_of repo [] n d all within = absurd (omega arith)
is_of repo (w ∷ writes) zero d all within = all.0
is_of repo (w ∷ writes) (suc n) d all within = is_of repo writes n d all.1 (omega (arith, within))

pub is_of_at : (repo : ℕ) (writes : List (Oref × Obj)) (n : ℕ) (w : Oref × Obj) → AreOf repo writes → n < length writes → w ≡ get_or writes n w → IsOf repo w
is_of_at repo writes n w all within is = subst (IsOf repo) (sym is) (is_of repo writes n w all within)

-- one write more
pub images_next : (objects : Objects) (repo : ℕ) (base : Contents) (writes : List (Oref × Obj)) (n : ℕ) (w : Oref × Obj) (before now : Places) → n < length writes → w ≡ get_or writes n w → AreOf repo writes → AreImages before (with_all objects (take n writes)) repo base
    → ((page : ℕ) (image : Contents) → image_in now page ≡ Some image → IsPut before w.0 w.1 page image) → AreImages now (with_all objects (take (n + 1) writes)) repo base
images_next objects repo base writes n w before now within is all so_far put =
    let of = is_of_at repo writes n w all within is in
    subst (λ (l : Objects). AreImages now l repo base) (sym (all_next objects writes n w within is)) (images_put (with_all objects (take n writes)) repo base w.0 w.1 before now (sym of.repo_is) of.name.slot so_far put)

-- ---- images and what is held

-- over a buffer of two repositories a page has one image
other_repo : (objects : Objects) (r s : ℕ) (base image : Contents) → AreOf r objects → AreOf s objects → IsImage objects s base image → IsImage objects r base image
other_repo [] r s base image all also so_far = record { number = so_far.number; below = λ slot lt. so_far.below slot lt; rest = so_far.rest }
other_repo (q ∷ objects) r s base image all also so_far = subst (λ (n : ℕ). IsImage (q ∷ objects) n base image) (sym also.0.repo_is ∙ all.0.repo_is) so_far

pub show_writes : (kept : Kept) (writes : List (Oref × Obj)) (before now : Places) (mob : Buffer) → AreOneRepo kept.mob.objects writes → mob ≡ record kept.mob { objects = with_all kept.mob.objects writes }
    → ((objects : Objects) (repo : ℕ) (base : Contents) → AreOf repo writes → AreImages before objects repo base → AreImages now (with_all objects writes) repo base)
    → ShowHeld before kept → ShowHeld now (record { pages = kept.pages; mob = mob })
show_writes kept writes before now mob one is put show base image held here =
    let objects = kept.mob.objects in
    let r = one.0 in
    let so_far : AreImages before objects r base = λ old was. (let h = show base old held was in other_repo objects r h.repo base old one.1 h.one_repo h.is_image) in
    let over_now : IsImageOver (with_all objects writes) base image = record {
      repo = r;
      one_repo = of_all r objects writes one.1 one.2;
      is_image = put objects r base one.2 so_far image here;
    } in
    subst (λ (b : Buffer). IsImageOver b.objects base image) (sym is) over_now

pub show_none : (places : Places) (kept : Kept) → ((page : ℕ) (image : Contents) → image_in places page ≡ Some image → ⊥) → ShowHeld places kept
show_none places kept none base image held here = absurd (none base.number image here)

-- behind a call that held a page
pub show_held : (old now : Store) (mob : Buffer) (before after : Places) (page : ℕ) → ShowHeld before (record { pages = old; mob = mob }) → AreKept after before → (held_page old page ≡ None → (image : Contents) → image_in after page ≡ Some image → ⊥)
    → ((p : ℕ) (found : Contents) → held_page now p ≡ Some found → IsHeldStill old page p found) → ShowHeld after (record { pages = now; mob = mob })
show_held old now mob before after page show kept gone still base image held here = elim (still base.number base held) [
  | inl was ↦ show base image was (kept base.number image here)
  | inr first ↦ absurd (gone first.1 image (subst (λ (n : ℕ). image_in after n ≡ Some image) first.0 here))
]

some_page : (o : Option Contents) → IsSome o → (found : Contents) × (o ≡ Some found)
some_page (Some found) there = (found, refl)
some_page None there = cc

-- what is held behind `hold`
pub still_held : (old now : Store) (page : ℕ) → IsSome (held_page now page) → ((found : Contents) → held_page now page ≡ Some found → now.held ≡ with_held old.held page (Some found)) → ((found : Contents) → held_page old page ≡ Some found → held_page now page ≡ Some found)
    → (p : ℕ) (found : Contents) → held_page now p ≡ Some found → IsHeldStill old page p found
still_held old now page there held again p found here = by (held_page old page) refl
  where
    by : (o : Option Contents) → held_page old page ≡ o → IsHeldStill old page p found
    by o was =
        let first = some_page (held_page now page) there in
        elim (held_put old.held page (Some first.0) p found (sym (ap (λ (h : List (ℕ × Option Contents)). page_in h p) (held first.0 first.1)) ∙ here)) [
          | inl before ↦ inl before.0
          | inr put ↦ one put.0 o was
        ]
      where
        one : p ≡ page → (o : Option Contents) → held_page old page ≡ o → IsHeldStill old page p found
        one at None none = inr (at, none)
        one at (Some that) some = inl (ap (held_page old) at ∙ some ∙ sym (again that some) ∙ sym (ap (held_page now) at) ∙ here)

-- an image is kept
pub kept_over : (before now : Places) (objects : Objects) (repo : ℕ) (base image copy : Contents) → AreOf repo objects → IsImage objects repo base image → copy ≡ image
    → ((page : ℕ) (other : Contents) → image_in now page ≡ Some other → (image_in before page ≡ Some other) ⊎ ((page ≡ copy.number) × (other ≡ copy)))
    → (page : ℕ) (other : Contents) → image_in now page ≡ Some other → IsKeptOr before objects base page other
kept_over before now objects repo base image copy one is_image same keeps page other here = elim (keeps page other here) [
  | inl was ↦ inl was
  | inr new ↦ inr (new.0 ∙ ap (λ (c : Contents). c.number) same ∙ is_image.number, record { repo = repo; one_repo = one; is_image = subst (λ (c : Contents). IsImage objects repo base c) (sym (new.1 ∙ same)) is_image })
]

pub show_kept : (kept : Kept) (before now : Places) (page : ℕ) (base : Contents) → held_page kept.pages page ≡ Some base → base.number ≡ page → ((p : ℕ) (other : Contents) → image_in now p ≡ Some other → IsKeptOr before kept.mob.objects base p other)
    → ShowHeld before kept → ShowHeld now kept
show_kept kept before now page base held number keeps show other_base other other_held here = elim (keeps other_base.number other here) [
  | inl was ↦ show other_base other other_held was
  | inr new ↦ (let same : base ≡ other_base = same_Some base other_base (sym held ∙ ap (held_page kept.pages) (sym number ∙ sym new.0) ∙ other_held) in
      subst (λ (b : Contents). IsImageOver kept.mob.objects b other) same new.1)
]

-- a page that is held with its image
pub show_at : (kept : Kept) (places : Places) (page : ℕ) (base : Contents) → ShowHeld places kept → held_page kept.pages page ≡ Some base → base.number ≡ page → (image : Contents) → image_in places base.number ≡ Some image → IsImageOver kept.mob.objects base image
show_at kept places page base show held number image here = show base image (ap (held_page kept.pages) number ∙ held) here

pub held_over : (kept : Kept) (page : ℕ) (base image : Contents) → held_page kept.pages page ≡ Some base → base.number ≡ page → IsImageOver kept.mob.objects base image → IsHeldImage kept page image
held_over kept page base image held number h = record { base = base; number = number; held = held; repo = h.repo; one_repo = h.one_repo; is_image = h.is_image }

-- fewer images
pub show_fewer : (kept : Kept) (before after : Places) → AreKept after before → ShowHeld before kept → ShowHeld after kept
show_fewer kept before after kept_too show base image held here = show base image held (kept_too base.number image here)

-- one more place without an image
pub none_pushed : (places : Places) → ((place : ℕ) (image : Contents) → at_place places place ≡ Some image → ⊥) → (place : ℕ) (image : Contents) → at_place (places ++ (None ∷ [])) place ≡ Some image → ⊥
none_pushed [] none zero image is = cc
none_pushed [] none (suc place) image is = cc
none_pushed (p ∷ places) none zero image is = none zero image is
none_pushed (p ∷ places) none (suc place) image is = none_pushed places (λ n i here. none (suc n) i here) place image is
