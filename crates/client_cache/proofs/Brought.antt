-- The slots of a page, read one after the other.
use Rattle.std.proofs.Common.{◌≡◌, ◌<◌, ◌≤◌, ◌+◌, ℕ, zero, suc, true, false, cond, nat_eq, nat_lt, List, [], ◌∷◌, ◌++◌, Option, Some, None, Result, Ok, Err, refl, sym, ap, subst, ◌∙◌, length, append-nil}
use native.Mathlib.Omega.{arith}
use Rattle.std.specs.List.{AllByRecursion}
use Rattle.std.specs.Option.{option_map}
use Rattle.std.proofs.lemmas.Bool.{eqb-false, eqb-true, ltb-false, ltb-true}
use Rattle.std.proofs.lemmas.List.{take_all}
use Rattle.std.proofs.lemmas.Option.{same_Some}
use Rattle.object_codec.specs.declared.fault.ObjFault.{ObjFault}
use Rattle.object_codec.specs.declared.fault.ObjFault.TheVariants.{Short, BadTag, TooLarge, NoMemory}
use Rattle.object_codec.specs.Spelling.{Answered, ObjFits, obj_bytes}
use Rattle.page_format.specs.Pages as page
use Rattle.thor_value.specs.FiniteMap.{get}
use Rattle.thor_value.specs.Formats.{AreApart, IsAtFront}
use Rattle.thor_value.specs.declared.values.Obj.{Obj}
use Rattle.client_cache.specs.Placing.{Brings, HasName, IsObject, IsObjectPage, IsPageOf}
use Rattle.client_cache.specs.Changes.{AreOf, behind, change_in, copy_in, kept_behind}
use Rattle.client_cache.specs.declared.changes.Change.{Change}
use Rattle.client_cache.specs.declared.page_copies.Slot.{Slot}
use Rattle.thor_value.specs.declared.memory.NoMemory.{NoMemory as OutOfMemory}
use Rattle.std.specs.Prelude.{IfOk, IfSome}
use Rattle.client_cache.proofs.Named.{past_named}

-- ---- one object

pub one_object : (bytes : List ℕ) (o : Obj) (count : ℕ) → IsAtFront ObjFits obj_bytes bytes o count → count ≡ length bytes → IsObject bytes o
one_object bytes o count front whole = record { fits = front.has; spelled = sym (take_all count bytes (omega (arith, whole))) ∙ front.front }

abbrev read_as : Obj × ℕ → Result (Obj × ℕ) ObjFault
read_as p = Ok p

ok_is : (p q : Obj × ℕ) → read_as p ≡ read_as q → p ≡ q
ok_is p q e = cc

-- what the reader says of each object that the bytes begin with
abbrev Only : List ℕ → Result (Obj × ℕ) ObjFault → Type 0
Only bytes answer = (o : Obj) (rest : List ℕ) → ObjFits o → bytes ≡ obj_bytes o ++ rest → Answered {X = Obj × ℕ} answer (Ok (o, length (obj_bytes o)))

pub too_few : (bytes : List ℕ) (read : Obj) (count : ℕ) → Only bytes (Ok (read, count)) → (count ≡ length bytes → ⊥) → (o : Obj) → IsObject bytes o → ⊥
too_few bytes read count only other o is =
    let got : Obj × ℕ = (read, count) in
    let want : Obj × ℕ = (o, length (obj_bytes o)) in
    let same : got ≡ want = ok_is got want (only o [] is.fits (is.spelled ∙ sym (append-nil (obj_bytes o)))) in
    other (ap (λ (p : Obj × ℕ). p.1) same ∙ ap length (sym is.spelled))

pub no_object : (bytes : List ℕ) (fault : ObjFault) → (fault ≡ NoMemory → ⊥) → Only bytes (Err fault) → (o : Obj) → IsObject bytes o → ⊥
no_object bytes NoMemory other only o is = other refl
no_object bytes Short other only o is = let same = only o [] is.fits (is.spelled ∙ sym (append-nil (obj_bytes o))) in cc
no_object bytes BadTag other only o is = let same = only o [] is.fits (is.spelled ∙ sym (append-nil (obj_bytes o))) in cc
no_object bytes (TooLarge count) other only o is = let same = only o [] is.fits (is.spelled ∙ sym (append-nil (obj_bytes o))) in cc

-- ---- the slots below an end

-- these are the objects of the slots below an end, and no others
pub record BroughtTo (c : page.Contents) (objects : ℕ → Option Obj) (end : ℕ) : Type 0 where
  pub slots : (s : ℕ) → s < end → get c.objects s ≡ option_map obj_bytes (objects s)
  pub rest : (s : ℕ) → end ≤ s → objects s ≡ None
  pub fits : (s : ℕ) (o : Obj) → objects s ≡ Some o → (s < 12) × ObjFits o

pub none_brought : (c : page.Contents) (f : ℕ → Option Obj) → ((s : ℕ) → f s ≡ None) → BroughtTo c f 0
none_brought c f none = record {
  slots = λ s below. absurd (omega (arith, below));
  rest = λ s _. none s;
  fits = λ s o e. let h = none s in cc;
}

below_or_at : (s k : ℕ) → s < k + 1 → (s ≡ k → ⊥) → s < k
below_or_at s k below off = omega (arith, below, off)

-- one more slot has what its bytes spell
pub one_more : (c : page.Contents) (f g : ℕ → Option Obj) (k : ℕ) → BroughtTo c f k → k < 12 → AreOf (get c.objects k) (g k)
    → ((s : ℕ) → g s ≡ cond {A = Option Obj} (nat_eq k s) (g k) (f s)) → BroughtTo c g (k + 1)
one_more c f g k b named are kept = record {
  slots = λ s below. (elim (nat_eq k s) as (λ t. nat_eq k s ≡ t → get c.objects s ≡ option_map obj_bytes (g s)) [
    | true ↦ λ t. let e : k ≡ s = eqb-true k s t in subst (λ (n : ℕ). get c.objects n ≡ option_map obj_bytes (g n)) e are.spelled
    | false ↦ λ t. let now : g s ≡ f s = rw t at (kept s) in b.slots s (below_or_at s k below (λ e. eqb-false k s t (sym e))) ∙ ap (option_map obj_bytes) (sym now)
  ]) refl;
  rest = λ s past. (elim (nat_eq k s) as (λ t. nat_eq k s ≡ t → g s ≡ None) [
    | true ↦ λ t. let e : k ≡ s = eqb-true k s t in absurd (omega (arith, e, past))
    | false ↦ λ t. let now : g s ≡ f s = rw t at (kept s) in now ∙ b.rest s (omega (arith, past))
  ]) refl;
  fits = λ s x e. (elim (nat_eq k s) as (λ t. nat_eq k s ≡ t → (s < 12) × ObjFits x) [
    | true ↦ λ t. let at : k ≡ s = eqb-true k s t in (subst (λ (n : ℕ). n < 12) at named, are.fits x (ap g at ∙ e))
    | false ↦ λ t. let now : g s ≡ f s = rw t at (kept s) in b.fits s x (sym now ∙ e)
  ]) refl;
}

-- all slots were read
pub all_brought : (c : page.Contents) (f : ℕ → Option Obj) (k : ℕ) → AllByRecursion HasName c.objects.pairs → BroughtTo c f k → 12 ≤ k → Brings c f
all_brought c f k named b past = record {
  slots = λ s. (elim (nat_lt s 12) as (λ t. nat_lt s 12 ≡ t → get c.objects s ≡ option_map obj_bytes (f s)) [
    | true ↦ λ t. let below : s < 12 = ltb-true s 12 t in b.slots s (omega (arith, below, past))
    | false ↦ λ t. let far : 12 ≤ s = ltb-false s 12 t in past_named c.objects.pairs s named far ∙ ap (option_map obj_bytes) (sym (nothing s far (f s) refl))
  ]) refl;
  fits = b.fits;
}
  where
    nothing : (s : ℕ) → 12 ≤ s → (o : Option Obj) → f s ≡ o → f s ≡ None
    nothing s far None e = e
    nothing s far (Some o) e = let below = (b.fits s o e).0 in absurd (omega (arith, below, far))

-- a slot with bytes that are no object
pub not_brought : (c : page.Contents) (k : ℕ) (bytes : Option (List ℕ)) → bytes ≡ get c.objects k → ((o : Option Obj) → AreOf bytes o → ⊥) → (objects : ℕ → Option Obj) → Brings c objects → ⊥
not_brought c k bytes here none objects b = none (objects k) (record { spelled = here ∙ b.slots k; fits = λ o e. (b.fits k o e).1 })

-- the bytes of an object, and no object where there are none
pub no_bytes : AreOf None None
no_bytes = record { spelled = refl; fits = λ o e. cc }

pub are_one : (bytes : List ℕ) (o : Obj) → IsObject bytes o → AreOf (Some bytes) (Some o)
are_one bytes o is = record { spelled = ap Some is.spelled; fits = λ p e. subst ObjFits (same_Some o p e) is.fits }

-- bytes that are no object
pub not_one : (bytes : List ℕ) → ((o : Obj) → IsObject bytes o → ⊥) → (object : Option Obj) → AreOf (Some bytes) object → ⊥
not_one bytes none (Some o) are = none o (record { fits = are.fits o refl; spelled = same_Some bytes (obj_bytes o) are.spelled })
not_one bytes none None are = let h = are.spelled in cc

-- ---- changes, one after the other

-- one more change
pub at_last : (cs : List Change) (c : Change) → change_in (cs ++ (c ∷ [])) (length cs) ≡ c
at_last [] c = refl
at_last (x ∷ cs) c = at_last cs c

pub at_others : (cs : List Change) (c : Change) (s : ℕ) → (s ≡ length cs → ⊥) → change_in (cs ++ (c ∷ [])) s ≡ change_in cs s
at_others [] c zero apart = absurd (apart refl)
at_others [] c (suc s) apart = refl
at_others (x ∷ cs) c zero apart = refl
at_others (x ∷ cs) c (suc s) apart = at_others cs c s (λ e. apart (ap suc e))

module _ (held : Option (List Slot)) where
  -- the change of one more slot
  pub one_change : (p : page.Contents) (cs : List Change) (c : Change) (k : ℕ) (bytes : Option (List ℕ)) (copy : Option Obj) → length cs ≡ k → k < 12 → bytes ≡ get p.objects k → copy ≡ copy_in held k → AreOf bytes (behind c copy)
      → BroughtTo p (kept_behind cs held) k → BroughtTo p (kept_behind (cs ++ (c ∷ [])) held) (k + 1)
  one_change p cs c k bytes copy long named there held_there are b =
      let g : ℕ → Option Obj = kept_behind (cs ++ (c ∷ [])) held in
      let last : change_in (cs ++ (c ∷ [])) k ≡ c = ap (change_in (cs ++ (c ∷ []))) (sym long) ∙ at_last cs c in
      let here : behind c copy ≡ g k = ap (behind c) held_there ∙ sym (ap (λ (x : Change). behind x (copy_in held k)) last) in
      one_more p (kept_behind cs held) g k b named (subst (λ (o : Option Obj). AreOf (get p.objects k) o) here (subst (λ (d : Option (List ℕ)). AreOf d (behind c copy)) there are))
      (λ s. (elim (nat_eq k s) as (λ t. nat_eq k s ≡ t → g s ≡ cond {A = Option Obj} t (g k) (kept_behind cs held s)) [
        | true ↦ λ t. ap g (sym (eqb-true k s t))
        | false ↦ λ t. ap (λ (x : Change). behind x (copy_in held s)) (at_others cs c s (λ e. eqb-false k s t (sym (e ∙ long))))
      ]) refl)

-- a page brings one object to a slot at most
pub same_brought : AreApart ObjFits obj_bytes → (c : page.Contents) (f g : ℕ → Option Obj) → Brings c f → Brings c g → (s : ℕ) → f s ≡ g s
same_brought apart c f g bf bg s = by (f s) (g s) refl refl
  where
    by : (a b : Option Obj) → f s ≡ a → g s ≡ b → f s ≡ g s
    by None None ef eg = ef ∙ sym eg
    by None (Some p) ef eg = let h : option_map obj_bytes None ≡ Some (obj_bytes p) = ap (option_map obj_bytes) (sym ef) ∙ sym (bf.slots s) ∙ bg.slots s ∙ ap (option_map obj_bytes) eg in cc
    by (Some o) None ef eg = let h : Some (obj_bytes o) ≡ option_map obj_bytes None = ap (option_map obj_bytes) (sym ef) ∙ sym (bf.slots s) ∙ bg.slots s ∙ ap (option_map obj_bytes) eg in cc
    by (Some o) (Some p) ef eg =
        let h : Some (obj_bytes o) ≡ Some (obj_bytes p) = ap (option_map obj_bytes) (sym ef) ∙ sym (bf.slots s) ∙ bg.slots s ∙ ap (option_map obj_bytes) eg in
        ef ∙ ap Some (apart o p [] [] (bf.fits s o ef).1 (bg.fits s p eg).1 (ap (λ (t : List ℕ). t ++ []) (same_Some (obj_bytes o) (obj_bytes p) h))).0 ∙ sym eg

-- bytes of a page bring just the objects that were read from it
pub told_kept : {X : Type 0} (told : X → ℕ → Option Obj) (r : Result (Option X) OutOfMemory) (p : page.Contents) (bytes : List ℕ) (number : ℕ) → AreApart ObjFits obj_bytes → ((c : page.Contents) → page.PageFits c → bytes ≡ page.page_bytes c → p ≡ c)
    → IfOk r (λ found. IfSome found (λ x. Brings p (told x))) → IfOk r (λ found. IfSome found (λ x. (objects : ℕ → Option Obj) → IsPageOf bytes number objects → (s : ℕ) → told x s ≡ objects s))
told_kept told (Ok (Some x)) p bytes number apart only b = λ objects is s. same_brought apart p (told x) objects b (subst (λ (c : page.Contents). Brings c objects) (sym (only is.contents is.fits is.spelled)) is.brings) s
told_kept told (Ok None) p bytes number apart only b = tt
told_kept told (Err e) p bytes number apart only b = tt

-- where nothing was read from it the bytes are no page of objects
pub told_none : {X : Type 0} (r : Result (Option X) OutOfMemory) (p : page.Contents) (bytes : List ℕ) (number : ℕ) → ((c : page.Contents) → page.PageFits c → bytes ≡ page.page_bytes c → p ≡ c)
    → IfOk r (λ found. found ≡ None → (objects : ℕ → Option Obj) → Brings p objects → ⊥) → IfOk r (λ found. found ≡ None → IsObjectPage bytes number → ⊥)
told_none (Ok found) p bytes number only none = λ e is. none e is.0 (subst (λ (c : page.Contents). Brings c is.0) (sym (only is.1.contents is.1.fits is.1.spelled)) is.1.brings)
told_none (Err e) p bytes number only none = tt

-- the same of the changes that were found
pub found_kept : {X : Type 0} (told : X → ℕ → Option Obj) (found : Option X) (changes : X) (bytes : List ℕ) (number : ℕ) → found ≡ Some changes → IfSome found (λ x. (objects : ℕ → Option Obj) → IsPageOf bytes number objects → (s : ℕ) → told x s ≡ objects s)
    → (objects : ℕ → Option Obj) → IsPageOf bytes number objects → (s : ℕ) → told changes s ≡ objects s
found_kept {X = X} told found changes bytes number is h = subst (λ (f : Option X). IfSome f (λ x. (objects : ℕ → Option Obj) → IsPageOf bytes number objects → (s : ℕ) → told x s ≡ objects s)) is h
