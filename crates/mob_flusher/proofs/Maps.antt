-- The map stays through a flush and its settling.
use Rattle.std.proofs.Common.{◌≡◌, ℕ, ◌<◌, Bool, true, false, cond, not, ◌&&◌, ◌==◌, List, [], ◌∷◌, Option, Some, None, Result, Ok, Err, IfOk, OnOk, slice_get, is_some, nat_eq, refl, ap, sym, subst, ◌∙◌, arith, inl, inr, ◌⊎◌}
use Rattle.std.proofs.lemmas.Bool.Decides.{eqb_tells}
use Rattle.std.specs.Option.{option_map, option_map_or, unwrap_or}
use Rattle.std.specs.Ordering.{nat_cmp}
use Rattle.std.specs.BTreeMap.{insert_entry}
use Rattle.thor_value.specs.FiniteMap.{get}
use Rattle.thor_value.specs.declared.names.Oref.{Oref}
use Rattle.thor_value.specs.declared.values.Obj.{Obj}
use Rattle.object_codec.specs.Spelling.{obj_bytes}
use Rattle.disk_trait.specs.Disks.{Disks, Leaves, MayLeave, IsSettled}
use Rattle.disk_trait.proofs.Runs.{leaves_weaker}
use Rattle.page_format.specs.Pages.{Contents}
use Rattle.page_format.specs.Sides.{side_in_use}
use Rattle.page_format.proofs.Pages.{one_page}
use Rattle.page_store.specs.Objects.{Spells}
use Rattle.page_store.specs.Sides.{KeepsSides, Shows, next_side, side_bytes}
use Rattle.page_store.specs.Store.{Agrees, page_in, with_held, with_place}
use Rattle.std.specs.Map.{lookup}
use Rattle.page_store.proofs.Stores.{in_use_here, in_use_other}
use Rattle.mob_buffer.specs.Buffer.{Buffer, Objects, object_of, same_name, without_page}
use Rattle.mob_buffer.proofs.Sizes.{found_fits}
use Rattle.mob_flusher.specs.Map.{DiskHas, Has, HasOver, Kept, PageHas, SameMap}
use Rattle.mob_flusher.specs.Images.{IsFlushed, name_of}

-- ---- the buffer without a page

and_false : (a b c : Bool) → b ≡ false → (a && (b && c)) ≡ false
and_false true b c is = ap (λ x. x && c) is
and_false false b c is = refl

not_same : (x y : Oref) → (x.page == y.page) ≡ false → same_name x y ≡ false
not_same x y apart = and_false (x.repo == y.repo) (x.page == y.page) (x.slot == y.slot) apart

gone_by : (q : Oref × Obj) (rest : Objects) (x : Oref) (page : ℕ) → x.page ≡ page → object_of rest x ≡ None → (q.0.page ≡ page) × ((q.0.page == page) ≡ true) ⊎ ((q.0.page ≡ page → ⊥) × ((q.0.page == page) ≡ false)) → object_of (cond (not (q.0.page == page)) (q ∷ rest) rest) x ≡ None
gone_by q rest x page same more (inl here) = ap (λ (b : Bool). object_of (cond (not b) (q ∷ rest) rest) x) here.1 ∙ more
gone_by q rest x page same more (inr apart) =
    let other : (x.page == q.0.page) ≡ false = elim (eqb_tells x.page q.0.page) [ inl e ↦ absurd (apart.0 (sym e.1 ∙ same)) | inr off ↦ off.0 ] in
    ap (λ (b : Bool). object_of (cond (not b) (q ∷ rest) rest) x) apart.1 ∙ ap (λ (b : Bool). cond b (Some q.1) (object_of rest x)) (not_same x q.0 other) ∙ more

told_page : (a b : ℕ) → (a ≡ b) × ((a == b) ≡ true) ⊎ ((a ≡ b → ⊥) × ((a == b) ≡ false))
told_page a b = elim (eqb_tells a b) [ inl same ↦ inl (same.1, same.0) | inr apart ↦ inr (apart.1, apart.0) ]

pub gone : (objects : Objects) (x : Oref) (page : ℕ) → x.page ≡ page → object_of (without_page objects page) x ≡ None
gone [] x page same = refl
gone (q ∷ objects) x page same = gone_by q (without_page objects page) x page same (gone objects x page same) (told_page q.0.page page)

left_by : (q : Oref × Obj) (rest all : Objects) (x : Oref) (page : ℕ) → (x.page ≡ page → ⊥) → object_of rest x ≡ object_of all x → (q.0.page ≡ page) × ((q.0.page == page) ≡ true) ⊎ ((q.0.page ≡ page → ⊥) × ((q.0.page == page) ≡ false)) → object_of (cond (not (q.0.page == page)) (q ∷ rest) rest) x ≡ cond (same_name x q.0) (Some q.1) (object_of all x)
left_by q rest all x page apart more (inl here) =
    let other : (x.page == q.0.page) ≡ false = elim (eqb_tells x.page q.0.page) [ inl e ↦ absurd (apart (e.1 ∙ here.0)) | inr off ↦ off.0 ] in
    ap (λ (b : Bool). object_of (cond (not b) (q ∷ rest) rest) x) here.1 ∙ more ∙ sym (ap (λ (b : Bool). cond b (Some q.1) (object_of all x)) (not_same x q.0 other))
left_by q rest all x page apart more (inr there) =
    ap (λ (b : Bool). object_of (cond (not b) (q ∷ rest) rest) x) there.1 ∙ ap (λ (o : Option Obj). cond (same_name x q.0) (Some q.1) o) more

pub left : (objects : Objects) (x : Oref) (page : ℕ) → (x.page ≡ page → ⊥) → object_of (without_page objects page) x ≡ object_of objects x
left [] x page apart = refl
left (q ∷ objects) x page apart = left_by q (without_page objects page) objects x page apart (left objects x page apart) (told_page q.0.page page)

-- ---- pages

page_has : (p q : Contents) (slot : ℕ) (answer : Option Obj) → get q.objects slot ≡ get p.objects slot → PageHas p slot answer → PageHas q slot answer
page_has p q slot (Some object) same has = (same ∙ has.0, has.1)
page_has p q slot None same has = same ∙ has

one_shown : (disk : List ℕ) (in_use : Option ℕ) (page : ℕ) (p q : Contents) → Shows disk in_use page p → Shows disk in_use page q → p ≡ q
one_shown disk (Some side) page p q a b = one_page p q a.objects.fits b.objects.fits (sym a.is ∙ b.is)
one_shown disk None page p q a b = a ∙ sym b

shows_kept : (sides : List (ℕ × ℕ)) (before after : List ℕ) (page : ℕ) (p : Contents) (in_use : Option ℕ) → KeepsSides sides before after → side_in_use sides page ≡ in_use → Shows before in_use page p → Shows after in_use page p
shows_kept sides before after page p None keeps is shows = shows
shows_kept sides before after page p (Some side) keeps is shows = subst (λ (bytes : List ℕ). Spells bytes page p) (sym (keeps page side is)) shows

-- ---- a flush leaves the map as it was

over_kept : (sides : List (ℕ × ℕ)) (before after : List ℕ) (x : Oref) (answer : Option Obj) (o : Option Obj) → KeepsSides sides before after → HasOver o before sides x answer → HasOver o after sides x answer
over_kept sides before after x answer (Some object) keeps has = has
over_kept sides before after x answer None keeps has = (has.0, shows_kept sides before after x.page has.0 (side_in_use sides x.page) keeps refl has.1, has.2)

pub map_kept : (before after : List ℕ) (old new : Kept) (repo : ℕ) → new.mob ≡ old.mob → new.pages.sides ≡ old.pages.sides → KeepsSides old.pages.sides before after → SameMap before old after new repo
map_kept before after old new repo mob sides keeps x answer same fits has =
    subst (λ (b : Buffer). HasOver (object_of b.objects x) after new.pages.sides x answer) (sym mob)
    (subst (λ (s : List (ℕ × ℕ)). HasOver (object_of old.mob.objects x) after s x answer) (sym sides)
    (over_kept old.pages.sides before after x answer (object_of old.mob.objects x) keeps has))

-- ---- and its settling

module _ (kept : Kept) (repo page side : ℕ) (last : IsFlushed kept repo page side) (disk : List ℕ) (agrees : Agrees kept.pages disk) where
  stands : Shows disk (Some side) page last.image
  stands = subst (λ (n : ℕ). Spells (side_bytes disk n side) n last.image) (last.is_image.number ∙ last.number) (agrees.staged last.image side last.staged)

  -- what the page has under the buffer stands in the image
  over_by : (x : Oref) (answer : Option Obj) (o : Option Obj) → x.page ≡ page → object_of kept.mob.objects x ≡ o → get last.image.objects x.slot ≡ option_map_or (λ object. Some (obj_bytes object)) o (get last.base.objects x.slot) → HasOver o disk kept.pages.sides x answer → PageHas last.image x.slot answer
  over_by x answer (Some object) at is slot has = subst (λ (a : Option Obj). PageHas last.image x.slot a) (sym has) (slot, found_fits repo kept.mob.objects x object last.one_repo is)
  over_by x answer None at is slot has =
      let shown = subst (λ (n : ℕ). Shows disk (side_in_use kept.pages.sides n) n has.0) at has.1 in
      let one = one_shown disk (side_in_use kept.pages.sides page) page has.0 last.base shown (agrees.held page last.base last.held) in
      page_has has.0 last.image x.slot answer (slot ∙ sym (ap (λ (c : Contents). get c.objects x.slot) one)) has.2

  in_image : (x : Oref) (answer : Option Obj) → x.repo ≡ repo → x.slot < 12 → x.page ≡ page → Has disk kept x answer → PageHas last.image x.slot answer
  in_image x answer of_repo fits at has =
      let name : name_of repo last.base.number x.slot ≡ x = ap (λ (r : ℕ). name_of r last.base.number x.slot) (sym of_repo) ∙ ap (λ (p : ℕ). name_of x.repo p x.slot) (last.number ∙ sym at) in
      let slot = last.is_image.below x.slot fits ∙ ap (λ (y : Oref). option_map_or (λ object. Some (obj_bytes object)) (object_of kept.mob.objects y) (get last.base.objects x.slot)) name in
      over_by x answer (object_of kept.mob.objects x) at refl slot has

  module _ (new : Kept) (sides : new.pages.sides ≡ insert_entry nat_cmp kept.pages.sides page side) (objects : new.mob.objects ≡ without_page kept.mob.objects page) where
    settled_by : (x : Oref) (answer : Option Obj) → x.repo ≡ repo → x.slot < 12 → (x.page ≡ page) × ((x.page == page) ≡ true) ⊎ ((x.page ≡ page → ⊥) × ((x.page == page) ≡ false)) → Has disk kept x answer → HasOver (object_of (without_page kept.mob.objects page) x) disk (insert_entry nat_cmp kept.pages.sides page side) x answer
    settled_by x answer of_repo fits (inl here) has =
        let shown = subst (λ (u : Option ℕ). Shows disk u page last.image) (sym (in_use_here kept.pages.sides page side)) stands in
        subst (λ (o : Option Obj). HasOver o disk (insert_entry nat_cmp kept.pages.sides page side) x answer) (sym (gone kept.mob.objects x page here.0))
        (last.image, subst (λ (n : ℕ). Shows disk (side_in_use (insert_entry nat_cmp kept.pages.sides page side) n) n last.image) (sym here.0) shown, in_image x answer of_repo fits here.0 has)
    settled_by x answer of_repo fits (inr there) has =
        subst (λ (o : Option Obj). HasOver o disk (insert_entry nat_cmp kept.pages.sides page side) x answer) (sym (left kept.mob.objects x page there.0))
        (other_by x answer (object_of kept.mob.objects x) there.0 has)
      where
        other_by : (x : Oref) (answer : Option Obj) (o : Option Obj) → (x.page ≡ page → ⊥) → HasOver o disk kept.pages.sides x answer → HasOver o disk (insert_entry nat_cmp kept.pages.sides page side) x answer
        other_by x answer (Some object) apart has = has
        other_by x answer None apart has = (has.0, subst (λ (u : Option ℕ). Shows disk u x.page has.0) (sym (in_use_other kept.pages.sides page side x.page apart)) has.1, has.2)

    pub map_settled : SameMap disk kept disk new repo
    map_settled x answer of_repo fits has =
        subst (λ (l : Objects). HasOver (object_of l x) disk new.pages.sides x answer) (sym objects)
        (subst (λ (s : List (ℕ × ℕ)). HasOver (object_of (without_page kept.mob.objects page) x) disk s x answer) (sym sides)
        (settled_by x answer of_repo fits (told_page x.page page) has))

-- ---- for the calls

pub has_none : (o : Option Obj) (disk : List ℕ) (sides : List (ℕ × ℕ)) (x : Oref) (answer : Option Obj) → o ≡ None → DiskHas disk sides x answer → HasOver o disk sides x answer
has_none o disk sides x answer none has = subst (λ (p : Option Obj). HasOver p disk sides x answer) (sym none) has

pub none_first : (objects : Objects) → None ≡ option_map (λ q. q.0) (slice_get objects 0) → objects ≡ []
none_first [] is = refl
none_first (q ∷ objects) is = cc

pub some_first : (objects : Objects) (x : Oref) → Some x ≡ option_map (λ q. q.0) (slice_get objects 0) → objects ≡ [] → ⊥
some_first [] x is none = cc
some_first (q ∷ objects) x is none = cc

pub next_below : (in_use : Option ℕ) → next_side in_use < 2
next_below (Some side) = omega arith
next_below None = omega arith

pub still_keeps : (old new : Disks) (sides : List (ℕ × ℕ)) (disk : List ℕ) → Leaves old new 2 (MayLeave old 2) → IsSettled old 2 → old.content 2 ≡ Some disk → Leaves old new 2 (KeepsSides sides disk)
still_keeps old new sides disk still settled told =
    leaves_weaker old new 2 (MayLeave old 2) (KeepsSides sides disk) (λ image left. subst (KeepsSides sides disk) (sym (settled disk told image left)) (λ page side is. refl)) still

pub if_ok_both : {T E : Type 0} (r : Result T E) (P R : T → Type 0) (Q : Type 0) → ((x : T) → P x → Q → R x) → IfOk r P → OnOk r Q → IfOk r R
if_ok_both (Ok x) P R Q more p q = more x p q
if_ok_both (Err e) P R Q more p q = tt

some_there : (o : Option (Option Contents)) (base : Contents) → unwrap_or o None ≡ Some base → is_some o ≡ true
some_there None base is = cc
some_there (Some contents) base is = refl

-- a page that is held has its place already
pub held_placed : (held now : List (ℕ × Option Contents)) (page number : ℕ) (base : Contents) → number ≡ page → page_in held page ≡ Some base → now ≡ with_place held number → page_in now page ≡ Some base
held_placed held now page number base same is placed =
    let there = some_there (lookup (nat_eq page) held) base is in
    ap (λ (h : List (ℕ × Option Contents)). page_in h page) (placed ∙ ap (with_place held) same)
    ∙ ap (λ (b : Bool). page_in (cond b held (with_held held page None)) page) there ∙ is
