-- That a supply whose names are new gives a new name, and keeps names that are new.
use Rattle.std.proofs.Common.{◌≡◌, arith, Bool, true, false, cond, List, [], ◌∷◌, Option, Some, None, refl, ap, sym, subst, true≢false, ◌∙◌, ℕ, zero, suc, length}
use Rattle.std.specs.List.{AllByRecursion, IsDistinct, position_or_len}
use Rattle.std.specs.Prelude.{◌+◌, ◌≤◌, ◌==◌, is_some, nat_lt, option_map, position, remove, slice_get}
use Rattle.thor_value.specs.Names.{same_oref}
use Rattle.thor_value.specs.declared.names.Oref.{Oref}
use Rattle.class_defs.proofs.SameNames.{same_itself}
use Rattle.class_defs.proofs.StandIns.{one_count}
use Rattle.law_type_soundness.proofs.FitValues.{put, none_put}
use Rattle.law_type_soundness.specs.Fits.{IsNew, StandInsFit, NamesFit}
use Rattle.class_defs.specs.Objects.{name_at, stand_in_from, stand_in_name, take_name}
use Rattle.class_defs.specs.declared.limits.TheConstants.{CREATE_LIMIT, STAND_IN_LIMIT}
use Rattle.class_defs.specs.declared.machine.NameSupply.{NameSupply}
use Rattle.class_defs.specs.declared.store.Object.{Object}

-- ---- one of several is taken out

pub placed : (b : Bool) (i n : ℕ) → cond b (Some i) None ≡ Some n → (b ≡ true) × (i ≡ n)
placed true i n h = (refl, cc)
placed false i n h = cc

module _ {A : Type 0} where
  pub all_but : (P : A → Type 0) (ws : List A) (i : ℕ) (x : A) → AllByRecursion P ws → slice_get ws i ≡ Some x → AllByRecursion P (remove ws i)
  all_but P [] i x h is = cc
  all_but P (w ∷ ws) zero x h is = h.1
  all_but P (w ∷ ws) (suc i) x h is = (h.0, all_but P ws i x h.1 is)

  pub one_of : (P : A → Type 0) (ws : List A) (i : ℕ) (x : A) → AllByRecursion P ws → slice_get ws i ≡ Some x → P x
  one_of P [] i x h is = cc
  one_of P (w ∷ ws) zero x h is = let e : w ≡ x = cc in subst P e h.0
  one_of P (w ∷ ws) (suc i) x h is = one_of P ws i x h.1 is

  pub each_so : (P Q : A → Type 0) → ((x : A) → P x → Q x) → (ws : List A) → AllByRecursion P ws → AllByRecursion Q ws
  each_so P Q f [] h = tt
  each_so P Q f (w ∷ ws) h = (f w h.0, each_so P Q f ws h.1)

  pub each_both : (P Q R : A → Type 0) → ((x : A) → P x → Q x → R x) → (ws : List A) → AllByRecursion P ws → AllByRecursion Q ws → AllByRecursion R ws
  each_both P Q R f [] h k = tt
  each_both P Q R f (w ∷ ws) h k = (f w h.0 k.0, each_both P Q R f ws h.1 k.1)

  within : (ws : List A) (i : ℕ) → nat_lt i (length ws) ≡ true → is_some (slice_get ws i) ≡ true
  within [] i h = grind (arith)
  within (w ∷ ws) zero h = refl
  within (w ∷ ws) (suc i) h = within ws i (grind (arith))

  -- where a place is told, something stands there
  pub stands_there : (test : A → Bool) (ws : List A) (i : ℕ) → position test ws ≡ Some i → is_some (slice_get ws i) ≡ true
  stands_there test ws i h =
      let p = placed (nat_lt (position_or_len test ws) (length ws)) (position_or_len test ws) i h in
      subst (λ k. is_some (slice_get ws k) ≡ true) p.1 (within ws (position_or_len test ws) p.0)

distinct_but : (ws : List Oref) (i : ℕ) (x : Oref) → IsDistinct same_oref ws → slice_get ws i ≡ Some x → IsDistinct same_oref (remove ws i)
unfolding IsDistinct
distinct_but [] i x h is = cc
distinct_but (w ∷ ws) zero x h is = h.1
distinct_but (w ∷ ws) (suc i) x h is = (all_but (λ y. same_oref w y ≡ false) ws i x h.0 is, distinct_but ws i x h.1 is)

differ : (x y : Oref) → same_oref x y ≡ false → y ≡ x → ⊥
differ x y h e = true≢false (sym (same_itself x) ∙ subst (λ z. same_oref x z ≡ false) e h)

differ_back : (x y : Oref) → same_oref x y ≡ false → x ≡ y → ⊥
differ_back x y h e = differ x y h (sym e)

apart : (ws : List Oref) (i : ℕ) (x : Oref) → IsDistinct same_oref ws → slice_get ws i ≡ Some x → AllByRecursion (λ y. y ≡ x → ⊥) (remove ws i)
unfolding IsDistinct
apart [] i x h is = cc
apart (w ∷ ws) zero x h is =
    let e : w ≡ x = cc in
    subst (λ z. AllByRecursion (λ y. y ≡ z → ⊥) ws) e (each_so (λ y. same_oref w y ≡ false) (λ y. y ≡ w → ⊥) (λ y k. differ w y k) ws h.0)
apart (w ∷ ws) (suc i) x h is = (differ_back w x (one_of (λ y. same_oref w y ≡ false) ws i x h.0 is), apart ws i x h.1 is)

-- ---- a name is taken

-- what a supply that is left says of the objects, where a new one took the name
pub record Taken (f : Oref → Option Object) (made : ℕ) (before : NameSupply) (o : Object) (n : Oref × NameSupply) : Type 0 where
  pub new : f n.0 ≡ None
  pub names : NamesFit (put f n.0 o) (made + 1) n.1
  pub stands : is_some before.stand_in ≡ true → is_some n.1.stand_in ≡ true

module _ (f : Oref → Option Object) (made : ℕ) (o : Object) where
  new_still : (x y : Oref) → IsNew f y → (y ≡ x → ⊥) → IsNew (put f x o) y
  new_still x y h k = (none_put f x y o h.0 k, h.1)

  stand_ins_still : (x : Oref) (s : Option ℕ) → (x.repo ≡ 255 → ⊥) → StandInsFit f made s → StandInsFit (put f x o) (made + 1) s
  stand_ins_still x None h k = tt
  stand_ins_still x (Some n) h k =
      (omega (arith, k.0), λ j le. none_put f x (stand_in_name j) o (k.1 j le) (λ e. h (sym (ap (λ (y : Oref). y.repo) e))))

  from_waiting : (names : NameSupply) (i : ℕ) (x : Oref) → NamesFit f made names → slice_get names.waiting i ≡ Some x
      → Taken f made names o (x, record names { waiting = remove names.waiting i })
  from_waiting names i x h is =
      let new = one_of (IsNew f) names.waiting i x h.waiting is in
      record {
        new = new.0;
        names = record {
          waiting = each_both (IsNew f) (λ y. y ≡ x → ⊥) (IsNew (put f x o)) (new_still x) (remove names.waiting i)
              (all_but (IsNew f) names.waiting i x h.waiting is) (apart names.waiting i x h.distinct is);
          distinct = distinct_but names.waiting i x h.distinct is;
          stand_ins = stand_ins_still x names.stand_in new.1 h.stand_ins;
        };
        stands = λ s. s;
      }

  next_new : (x : Oref) (k : ℕ) → IsNew f x → IsNew (put f (stand_in_name k) o) x
  next_new x k h = new_still (stand_in_name k) x h (λ e. h.1 (ap (λ (y : Oref). y.repo) e))

  next_apart : (k j : ℕ) → k + 1 ≤ j → stand_in_name j ≡ stand_in_name k → ⊥
  next_apart k j le e = let d : j ≡ k = one_count j k e in absurd (omega (arith, d, le))

  from_stand_ins : (names : NameSupply) (k : ℕ) → NamesFit f made names → StandInsFit f made (Some k)
      → Taken f made names o (stand_in_name k, record names { stand_in = Some (k + 1) })
  from_stand_ins names k h s = record {
    new = s.1 k (omega arith);
    names = record {
      waiting = each_so (IsNew f) (IsNew (put f (stand_in_name k) o)) (λ x n. next_new x k n) names.waiting h.waiting;
      distinct = h.distinct;
      stand_ins = (omega (arith, s.0), λ j le. none_put f (stand_in_name k) (stand_in_name j) o (s.1 j (omega (arith, le))) (next_apart k j le));
    };
    stands = λ e. refl;
  }

  took_waiting : (names : NameSupply) (i : ℕ) (x : Option Oref) (n : Oref × NameSupply) → NamesFit f made names → slice_get names.waiting i ≡ x
      → option_map (λ (y : Oref). (y, record names { waiting = remove names.waiting i })) x ≡ Some n → Taken f made names o n
  took_waiting names i (Some x) n h is taken =
      let e : (x, record names { waiting = remove names.waiting i }) ≡ n = cc in subst (Taken f made names o) e (from_waiting names i x h is)
  took_waiting names i None n h is taken = cc

  took_next : (b : Bool) (names : NameSupply) (k : ℕ) (n : Oref × NameSupply) → NamesFit f made names → StandInsFit f made (Some k)
      → cond b (Some (stand_in_name k, record names { stand_in = Some (k + 1) })) None ≡ Some n → Taken f made names o n
  took_next true names k n h s taken =
      let e : (stand_in_name k, record names { stand_in = Some (k + 1) }) ≡ n = cc in subst (Taken f made names o) e (from_stand_ins names k h s)
  took_next false names k n h s taken = cc

  took_stand_in : (names : NameSupply) (s : Option ℕ) (n : Oref × NameSupply) → NamesFit f made names → StandInsFit f made s
      → stand_in_from names s ≡ Some n → Taken f made names o n
  took_stand_in names None n h s taken = cc
  took_stand_in names (Some k) n h s taken = took_next (nat_lt k STAND_IN_LIMIT) names k n h s taken

  took : (names : NameSupply) (i : Option ℕ) (n : Oref × NameSupply) → NamesFit f made names → name_at names i ≡ Some n → Taken f made names o n
  took names (Some i) n h taken = took_waiting names i _ n h refl taken
  took names None n h taken = took_stand_in names names.stand_in n h h.stand_ins taken

  -- the name that a new object takes
  pub taken : (repo : ℕ) (names : NameSupply) (n : Oref × NameSupply) → NamesFit f made names → take_name repo names ≡ Some n → Taken f made names o n
  unfolding take_name
  taken repo names n h is = took names (position (λ y. y.repo == repo) names.waiting) n h is

  -- ---- a name is there

  mapped : {A B : Type 0} (g : A → B) (x : Option A) → is_some x ≡ true → is_some (option_map g x) ≡ true
  mapped g (Some x) h = refl
  mapped g None h = cc

  next_there : (names : NameSupply) (s : Option ℕ) → is_some s ≡ true → StandInsFit f made s → nat_lt made CREATE_LIMIT ≡ true
      → is_some (stand_in_from names s) ≡ true
  next_there names None h s few = cc
  next_there names (Some k) h s few = let e : nat_lt k STAND_IN_LIMIT ≡ true = grind (arith, s.0) in rw e refl

  name_there : (names : NameSupply) (i : Option ℕ) → (((n : ℕ) → i ≡ Some n → is_some (slice_get names.waiting n) ≡ true))
      → is_some names.stand_in ≡ true → NamesFit f made names → nat_lt made CREATE_LIMIT ≡ true
      → is_some (name_at names i) ≡ true
  name_there names (Some i) at s h few = mapped _ _ (at i refl)
  name_there names None at s h few = next_there names names.stand_in s h.stand_ins few

  -- where stand-in names stand behind the others, there is a name for each object that may be made
  pub never_short : (repo : ℕ) (names : NameSupply) → is_some names.stand_in ≡ true → NamesFit f made names → nat_lt made CREATE_LIMIT ≡ true
      → is_some (take_name repo names) ≡ true
  unfolding take_name
  never_short repo names s h few = name_there names _ (λ n e. stands_there (λ y. y.repo == repo) names.waiting n e) s h few
