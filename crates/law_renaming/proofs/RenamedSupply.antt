-- What a supply of names gives to new objects: each name once; and when it gives the names of a list in its order.
use Rattle.std.proofs.Common.{◌≡◌, ◌⊎◌, ◌≤◌, ◌<◌, arith, Bool, true, false, cond, T, List, [], ◌∷◌, Option, Some, None, refl, ap, sym, ◌∙◌, subst, ℕ, zero, suc, inl, inr, length, slice_get}
use Rattle.std.proofs.lemmas.Bool.Decides.{nat_tests}
use Rattle.std.proofs.lemmas.List.Folds.{find_at}
use Rattle.std.proofs.lemmas.Option.{same_Some}
use Rattle.std.specs.List.{AllByRecursion, IsDistinct, position_or_len}
use Rattle.std.specs.Prelude.{find, position, remove, nat_lt, option_map, ◌==◌, ◌+◌}
use Rattle.thor_value.specs.Names.{same_oref}
use Rattle.thor_value.specs.declared.names.Oref.{Oref}
use Rattle.class_defs.proofs.SameNames.{same_itself}
use Rattle.class_defs.proofs.StandIns.{count_is, count_of, named_by}
use Rattle.class_defs.specs.Objects.{name_at, stand_in_name, stand_in_from, take_name}
use Rattle.class_defs.specs.declared.limits.TheConstants.{CREATE_LIMIT, STAND_IN_LIMIT}
use Rattle.class_defs.specs.declared.machine.NameSupply.{NameSupply}

-- ---- lists from which one is taken

abbrev pub In : List Oref → Oref → Type 0
In [] x = ⊥
In (a ∷ xs) x = (x ≡ a) ⊎ In xs x

pub all_in : (P : Oref → Type 0) (xs : List Oref) (x : Oref) → AllByRecursion P xs → In xs x → P x
all_in P [] x h i = absurd i
all_in P (a ∷ xs) x h (inl e) = subst P (sym e) h.0
all_in P (a ∷ xs) x h (inr i) = all_in P xs x h.1 i

at_in : (xs : List Oref) (i : ℕ) (x : Oref) → slice_get xs i ≡ Some x → In xs x
at_in [] i x e = cc
at_in (a ∷ xs) zero x e = inl (sym (same_Some a x e))
at_in (a ∷ xs) (suc i) x e = inr (at_in xs i x e)

still_in : (xs : List Oref) (i : ℕ) (y : Oref) → In (remove xs i) y → In xs y
still_in [] zero y h = absurd h
still_in [] (suc i) y h = absurd h
still_in (a ∷ xs) zero y h = inr h
still_in (a ∷ xs) (suc i) y (inl e) = inl e
still_in (a ∷ xs) (suc i) y (inr h) = inr (still_in xs i y h)

clash : (a x y : Oref) → same_oref a y ≡ false → a ≡ x → y ≡ x → ⊥
clash a x y d e f = let g : y ≡ a = f ∙ sym e in let h : same_oref a a ≡ false = subst (λ z. same_oref a z ≡ false) g d in let k = same_itself a in cc

gone_in : (xs : List Oref) (i : ℕ) (x y : Oref) → IsDistinct same_oref xs → slice_get xs i ≡ Some x → In (remove xs i) y → ¬ (y ≡ x)
unfolding IsDistinct
gone_in [] i x y d is h e = cc
gone_in (a ∷ xs) zero x y d is h e = clash a x y (all_in (λ z. same_oref a z ≡ false) xs y d.0 h) (same_Some a x is) e
gone_in (a ∷ xs) (suc i) x y d is (inl f) e = clash a x x (all_in (λ z. same_oref a z ≡ false) xs x d.0 (at_in xs i x is)) (sym f ∙ e) refl
gone_in (a ∷ xs) (suc i) x y d is (inr h) e = gone_in xs i x y d.1 is h e

all_but : (P : Oref → Type 0) (xs : List Oref) (i : ℕ) → AllByRecursion P xs → AllByRecursion P (remove xs i)
all_but P [] zero h = tt
all_but P [] (suc i) h = tt
all_but P (a ∷ xs) zero h = h.1
all_but P (a ∷ xs) (suc i) h = (h.0, all_but P xs i h.1)

once_but : (xs : List Oref) (i : ℕ) → IsDistinct same_oref xs → IsDistinct same_oref (remove xs i)
unfolding IsDistinct
once_but [] zero h = tt
once_but [] (suc i) h = tt
once_but (a ∷ xs) zero h = h.1
once_but (a ∷ xs) (suc i) h = (all_but (λ z. same_oref a z ≡ false) xs i h.0, once_but xs i h.1)

within : (xs : List Oref) (i : ℕ) → i < length xs → ¬ (slice_get xs i ≡ None)
within [] i l e = absurd (omega arith)
within (a ∷ xs) zero l e = cc
within (a ∷ xs) (suc i) l e = within xs i (omega arith) e

-- ---- the first that passes a test

record First (p : Oref → Bool) (xs : List Oref) (i : ℕ) : Type 0 where
  place : i ≡ position_or_len p xs
  below : i < length xs

first_by : (b : Bool) (p : Oref → Bool) (xs : List Oref) (i : ℕ) → nat_lt (position_or_len p xs) (length xs) ≡ b
    → cond b (Some (position_or_len p xs)) None ≡ Some i → First p xs i
first_by true p xs i l e =
    let f : i ≡ position_or_len p xs = sym (same_Some _ _ e) in
    record { place = f; below = rw f (grind (arith, nat_tests)) }
first_by false p xs i l e = cc

first_is : (p : Oref → Bool) (xs : List Oref) (i : ℕ) → position p xs ≡ Some i → First p xs i
first_is p xs i e = first_by (nat_lt (position_or_len p xs) (length xs)) p xs i refl e

found_passes : (p : Oref → Bool) (xs : List Oref) (x : Oref) → find p xs ≡ Some x → p x ≡ true
found_passes p [] x e = cc
found_passes p (a ∷ xs) x e = by (p a) refl (found_passes p xs x) e
  where
    by : (b : Bool) → p a ≡ b → (find p xs ≡ Some x → p x ≡ true) → cond b (Some a) (find p xs) ≡ Some x → p x ≡ true
    by true t rest f = subst (λ z. p z ≡ true) (same_Some a x f) t
    by false t rest f = rest f

passes : (p : Oref → Bool) (xs : List Oref) (i : ℕ) (x : Oref) → position p xs ≡ Some i → slice_get xs i ≡ Some x → p x ≡ true
passes p xs i x e is = found_passes p xs x (find_at p xs ∙ ap (slice_get xs) (sym (first_is p xs i e).place) ∙ is)

none_before : (n : ℕ) (b : Bool) → nat_lt 0 (suc n) ≡ b → cond {A = Option ℕ} b (Some 0) None ≡ Some 0
none_before n true e = refl
none_before n false e = absurd (grind (arith, nat_tests))

at_front : (p : Oref → Bool) (x : Oref) (xs : List Oref) → p x ≡ true → position p (x ∷ xs) ≡ Some 0
at_front p x xs h = rw h (none_before (length xs) (nat_lt 0 (suc (length xs))) refl)

-- ---- a supply

abbrev pub ByStandIn : Option ℕ → Oref → Type 0
ByStandIn None x = ⊥
ByStandIn (Some k) x = (x ≡ stand_in_name (count_of x)) × (k ≤ count_of x)

-- the supply can still give the name
abbrev pub Left : NameSupply → Oref → Type 0
Left n x = In n.waiting x ⊎ ByStandIn n.stand_in x

-- A supply that never ends has stand-in names, and has given no more of them than there are new objects.
abbrev pub Endless : Bool → Option ℕ → ℕ → Type 0
Endless false o count = Unit {0}
Endless true None count = ⊥
Endless true (Some k) count = k ≤ count

pub record Stock (endless : Bool) (count : ℕ) (n : NameSupply) : Type 0 where
  pub once : IsDistinct same_oref n.waiting
  pub placed : AllByRecursion (λ (x : Oref). (x.repo == 255) ≡ false) n.waiting
  pub stays : Endless endless n.stand_in count

-- a name was given to an object in this repository
pub record Given (endless : Bool) (count repo : ℕ) (n : NameSupply) (t : Oref × NameSupply) : Type 0 where
  pub left : Left n t.0
  pub still : (y : Oref) → Left t.1 y → Left n y
  pub gone : (y : Oref) → Left t.1 y → ¬ (y ≡ t.0)
  pub stock : Stock endless (suc count) t.1
  pub without : t.1.stand_in ≡ None → n.stand_in ≡ None
  pub still_without : n.stand_in ≡ None → t.1.stand_in ≡ None
  pub placed : n.stand_in ≡ None → (t.0.repo == repo) ≡ true

module _ (endless : Bool) (count repo : ℕ) where
  abbrev here : Oref → Bool
  here y = y.repo == repo

  stays_on : (e : Bool) (o : Option ℕ) → Endless e o count → Endless e o (suc count)
  stays_on false o h = tt
  stays_on true None h = h
  stays_on true (Some k) h = omega arith

  off : (n : NameSupply) (x y : Oref) → Stock endless count n → In n.waiting x → (k : Option ℕ) → ByStandIn k y → ¬ (y ≡ x)
  off n x y s i None h e = absurd h
  off n x y s i (Some k) h e =
      let p = all_in (λ (z : Oref). (z.repo == 255) ≡ false) n.waiting x s.placed i in
      let f : y.repo ≡ 255 = ap (λ (z : Oref). z.repo) h.0 in
      let g : x.repo ≡ 255 = ap (λ (z : Oref). z.repo) (sym e) ∙ f in
      let q : (255 == 255) ≡ false = subst (λ r. (r == 255) ≡ false) g p in absurd cc

  by_place : (n : NameSupply) (i : ℕ) (x : Oref) → Stock endless count n → position here n.waiting ≡ Some i → slice_get n.waiting i ≡ Some x
      → Given endless count repo n (x, record n { waiting = remove n.waiting i })
  by_place n i x s p is = record {
    left = inl (at_in n.waiting i x is);
    still = still;
    gone = gone;
    stock = record { once = once_but n.waiting i s.once; placed = all_but _ n.waiting i s.placed; stays = stays_on endless n.stand_in s.stays };
    without = λ e. e;
    still_without = λ e. e;
    placed = λ e. passes here n.waiting i x p is;
  }
    where
      still : (y : Oref) → In (remove n.waiting i) y ⊎ ByStandIn n.stand_in y → Left n y
      still y (inl h) = inl (still_in n.waiting i y h)
      still y (inr h) = inr h

      gone : (y : Oref) → In (remove n.waiting i) y ⊎ ByStandIn n.stand_in y → ¬ (y ≡ x)
      gone y (inl h) = gone_in n.waiting i x y s.once is h
      gone y (inr h) = off n x y s (at_in n.waiting i x is) n.stand_in h

  next_stays : (e : Bool) (k : ℕ) → Endless e (Some k) count → Endless e (Some (k + 1)) (suc count)
  next_stays false k h = tt
  next_stays true k h = omega arith

  by_stand_in : (n : NameSupply) (k : ℕ) → Stock endless count n → n.stand_in ≡ Some k
      → Given endless count repo n (stand_in_name k, record n { stand_in = Some (k + 1) })
  by_stand_in n k s is = record {
    left = inr (rw is given);
    still = still;
    gone = gone;
    stock = record { once = s.once; placed = s.placed; stays = next_stays endless k (subst (λ o. Endless endless o count) is s.stays) };
    without = λ e. cc;
    still_without = λ e. cc;
    placed = λ e. cc;
  }
    where
      given : ByStandIn (Some k) (stand_in_name k)
      given = let i : count_of (stand_in_name k) ≡ k = count_is k in (ap stand_in_name (sym i), subst (λ c. k ≤ c) (sym i) (omega arith))

      still : (y : Oref) → In n.waiting y ⊎ ByStandIn (Some (k + 1)) y → Left n y
      still y (inl h) = inl h
      still y (inr h) = inr (rw is (h.0, omega arith))

      gone : (y : Oref) → In n.waiting y ⊎ ByStandIn (Some (k + 1)) y → ¬ (y ≡ stand_in_name k)
      gone y (inl h) e = off n y y s h (Some 0) (e ∙ ap stand_in_name (sym (named_by y k e)), omega arith) refl
      gone y (inr h) e = let f : count_of y ≡ k = named_by y k e in let le : k + 1 ≤ count_of y = h.1 in absurd (omega (arith, f, le))

  waiting_given : (n : NameSupply) (t : Oref × NameSupply) (i : ℕ) → Stock endless count n → position here n.waiting ≡ Some i
      → (v : Option Oref) → slice_get n.waiting i ≡ v → option_map {U = Oref × NameSupply}
      (λ x. (x, record n { waiting = remove n.waiting i })) v ≡ Some t → Given endless count repo n t
  waiting_given n t i s p None is e = cc
  waiting_given n t i s p (Some x) is e = subst (Given endless count repo n) (same_Some _ t e) (by_place n i x s p is)

  below_given : (n : NameSupply) (t : Oref × NameSupply) (k : ℕ) (b : Bool) → Stock endless count n → n.stand_in ≡ Some k
      → cond {A = Option (Oref × NameSupply)} b (Some (stand_in_name k, record n { stand_in = Some (k + 1) })) None ≡ Some t
      → Given endless count repo n t
  below_given n t k true s is e = subst (Given endless count repo n) (same_Some _ t e) (by_stand_in n k s is)
  below_given n t k false s is e = cc

  stand_in_given : (n : NameSupply) (t : Oref × NameSupply) → Stock endless count n → (o : Option ℕ) → n.stand_in ≡ o → stand_in_from n o ≡ Some t
      → Given endless count repo n t
  stand_in_given n t s None is e = cc
  stand_in_given n t s (Some k) is e = below_given n t k (nat_lt k STAND_IN_LIMIT) s is e

  at_given : (n : NameSupply) (t : Oref × NameSupply) → Stock endless count n → (o : Option ℕ) → position here n.waiting ≡ o → name_at n o ≡ Some t
      → Given endless count repo n t
  at_given n t s (Some i) p e = waiting_given n t i s p (slice_get n.waiting i) refl e
  at_given n t s None p e = stand_in_given n t s n.stand_in refl e

  pub name_given : (n : NameSupply) (t : Oref × NameSupply) → Stock endless count n → take_name repo n ≡ Some t → Given endless count repo n t
  unfolding take_name
  name_given n t s e = at_given n t s (position here n.waiting) refl e

  -- ---- an endless supply always gives one

  slot_left : (e : Bool) → T e → (n : NameSupply) (o : Option ℕ) → Endless e o count → nat_lt count CREATE_LIMIT ≡ true → stand_in_from n o ≡ None → ⊥
  slot_left true t n None h l e = h
  slot_left true t n (Some k) h l e = by (nat_lt k STAND_IN_LIMIT) refl e
    where
      by : (b : Bool) → nat_lt k STAND_IN_LIMIT ≡ b → cond {A = Option (Oref × NameSupply)} b
          (Some (stand_in_name k, record n { stand_in = Some (k + 1) })) None ≡ None → ⊥
      by true f g = cc
      by false f g = absurd (grind (arith, nat_tests))
  slot_left false t n o h l e = t

  none_at : (n : NameSupply) (i : ℕ) → position here n.waiting ≡ Some i → (v : Option Oref) → slice_get n.waiting i ≡ v
      → option_map {U = Oref × NameSupply} (λ x. (x, record n { waiting = remove n.waiting i })) v ≡ None → ⊥
  none_at n i p (Some x) is e = cc
  none_at n i p None is e = within n.waiting i (first_is here n.waiting i p).below is

  never_at : T endless → (n : NameSupply) → Stock endless count n → nat_lt count CREATE_LIMIT ≡ true → (o : Option ℕ) → position here n.waiting ≡ o
      → name_at n o ≡ None → ⊥
  never_at t n s l (Some i) p e = none_at n i p (slice_get n.waiting i) refl e
  never_at t n s l None p e = slot_left endless t n n.stand_in s.stays l e

  pub never_ends : T endless → (n : NameSupply) → Stock endless count n → nat_lt count CREATE_LIMIT ≡ true → take_name repo n ≡ None → ⊥
  unfolding take_name
  never_ends t n s l e = never_at t n s l (position here n.waiting) refl e

-- ---- the names of a list in its order

-- the first waiting name is taken where it lies in the repository
pub takes_first : (repo : ℕ) (n : NameSupply) (t : Oref × NameSupply) (x : Oref) (rest : List Oref) → n.waiting ≡ x ∷ rest → (x.repo == repo) ≡ true
    → take_name repo n ≡ Some t → (t.0 ≡ x) × (t.1.waiting ≡ rest)
unfolding take_name
takes_first repo n t x rest w r e =
    let p : position (λ (y : Oref). y.repo == repo) n.waiting ≡ Some 0 =
    ap (position (λ (y : Oref). y.repo == repo)) w ∙ at_front (λ (y : Oref). y.repo == repo) x rest r in
    let g : slice_get n.waiting 0 ≡ Some x = ap (λ xs. slice_get xs 0) w in
    let f : name_at n (Some 0) ≡ Some (x, record n { waiting = remove n.waiting 0 }) =
    ap (option_map (λ z. (z, record n { waiting = remove n.waiting 0 }))) g in
    let h : (x, record n { waiting = remove n.waiting 0 }) ≡ t = same_Some _ t (sym f ∙ ap (name_at n) (sym p) ∙ e) in
    (sym (ap (λ (q : Oref × NameSupply). q.0) h), sym (ap (λ (q : Oref × NameSupply). q.1.waiting) h) ∙ ap (λ xs. remove xs 0) w)

front_by : (repo : ℕ) (r : ℕ) (n : NameSupply) (t : Oref × NameSupply) (ws : List Oref) → n.waiting ≡ ws
    → AllByRecursion (λ (x : Oref). x.repo ≡ r) ws
    → In ws t.0 → (t.0.repo == repo) ≡ true → take_name repo n ≡ Some t → n.waiting ≡ t.0 ∷ t.1.waiting
front_by repo r n t [] w a i p e = absurd i
front_by repo r n t (x ∷ rest) w a i p e =
    let f : t.0.repo ≡ x.repo = all_in (λ (x : Oref). x.repo ≡ r) (x ∷ rest) t.0 a i ∙ sym a.0 in
    let g = takes_first repo n t x rest w (subst (λ k. (k == repo) ≡ true) f p) e in
    w ∙ sym (rw (g.0, g.1) refl)

-- where all lie in one repository, so is the first taken
pub takes_in_order : (repo : ℕ) (r : ℕ) (n : NameSupply) (t : Oref × NameSupply) → n.stand_in ≡ None
    → AllByRecursion (λ (x : Oref). x.repo ≡ r) n.waiting
    → Left n t.0 → (t.0.repo == repo) ≡ true → take_name repo n ≡ Some t → n.waiting ≡ t.0 ∷ t.1.waiting
takes_in_order repo r n t none a (inl i) p e = front_by repo r n t n.waiting refl a i p e
takes_in_order repo r n t none a (inr s) p e = absurd (subst (λ o. ByStandIn o t.0) none s)
