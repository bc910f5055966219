-- That the ways which are computed are those to the owners, and that one which is long enough never ends.
use Rattle.class_defs.proofs.Levels.{due_is, greatest_within, lags_early, undue_level}
use Rattle.class_defs.specs.Levels.{lags, level}
use Rattle.class_defs.specs.Stored.{Objects}
use Rattle.class_defs.specs.declared.store.Schemas.{Schemas}
use Rattle.store_check.proofs.Chains.{at_most_all, ended, go, onto}
use Rattle.store_check.proofs.Summing.{is_owner, owner_is}
use Rattle.store_check.specs.Fits.{LeadsTo}
use Rattle.store_check.specs.Naming.{Namings, namings, sole}
use Rattle.store_check.specs.Reached.{AreWays, IsKey}
use Rattle.store_check.specs.Ways.{Ways, through_owner, level_of, longer, one_step, onward, stepped, way, way_or_none, ways_for}
use Rattle.store_check.specs.declared.ways.Way.{Way}
use Rattle.std.proofs.Common.{◌≡◌, ◌⊎◌, ◌≤◌, ◌<◌, ◌+◌, ◌-◌, ◌||◌, ℕ, zero, suc, Bool, true, false, cond, not, List, [], ◌∷◌, length, min, Option, Some, None, inl, inr, is_some, nat_lt, refl, sym, ap, subst, arith, ◌∙◌}
use Rattle.std.proofs.lemmas.Bool.{ltb-false, ltb-true, both_ways, or_cases}
use Rattle.std.proofs.lemmas.Map.Made.{is_some-lookup}
use Rattle.std.proofs.lemmas.Map.Views.{tells_apart}
use Rattle.std.proofs.lemmas.Option.{same_Some}
use Rattle.std.specs.List.{fold, list_any}
use Rattle.thor_value.proofs.FiniteMap.{get-insert}
use Rattle.thor_value.proofs.NameOrders.{oref_exact, oref_total}
use Rattle.thor_value.specs.FiniteMap.{Map, empty, get, insert, keys, len}
use Rattle.thor_value.specs.Names.{oref_cmp, same_oref}
use Rattle.thor_value.specs.declared.names.Oref.{Oref}
use Rattle.thor_value.specs.declared.values.Obj.{Obj}

some_not_none : {X : Type 0} {x : X} → Some x ≡ None → ⊥
some_not_none h = cc

-- ---- levels

pub level_within : (s : Schemas) (w : Option Obj) → level_of s w ≤ length s.upgraded
level_within s (Some o) = greatest_within (λ k. not (lags s o k)) (length s.upgraded)
level_within s None = omega arith

-- an object of a later epoch has the store's epoch as its level, as if it had been written in that
pub level_capped : (s : Schemas) (e : ℕ) (o : Obj) → level s e (record { class = o.class; ver = min o.ver e; fields = o.fields }) ≡ level s e o
level_capped s e o = by_place (nat_lt e o.ver) refl
  where
    at_end : (p : Obj) → e ≤ p.ver → level s e p ≡ e
    at_end p h = undue_level s e p (due_is s e p ∙ lags_early s p e h)

    by_place : (b : Bool) → nat_lt e o.ver ≡ b → level s e (record { class = o.class; ver = min o.ver e; fields = o.fields }) ≡ level s e o
    by_place true h = let past = ltb-true e o.ver h in at_end _ (omega (arith, past)) ∙ sym (at_end o (omega (arith, past)))
    by_place false h =
        let low = ltb-false e o.ver h in
        let same : min o.ver e ≡ o.ver = omega (arith, low) in
        ap (λ v. level s e (record { class = o.class; ver = v; fields = o.fields })) same

pub capped : (s : Schemas) (o : Obj) (e v r : ℕ) → e ≡ length s.upgraded → v ≡ min o.ver e
    → r ≡ level s e (record { class = o.class; ver = v; fields = o.fields }) → r ≡ level_of s (Some o)
capped s o e v r epoch least is =
    is ∙ ap (λ u. level s e (record { class = o.class; ver = u; fields = o.fields })) least ∙ level_capped s e o ∙ ap (λ k. level s k o) epoch

-- ---- a map that has a value for each of these names

module _ {X : Type 0} (f : Oref → X) where
  abbrev put : Map oref_cmp X → Oref → Map oref_cmp X
  put m y = insert m y (f y)

  put_at : (m : Map oref_cmp X) (y x : Oref) (b : Bool) → same_oref x y ≡ b → (b ≡ true) ⊎ (get m x ≡ Some (f x)) → get (put m y) x ≡ Some (f x)
  put_at m y x true same h = get-insert oref_total m y (f y) x ∙ ap (λ b. cond b (Some (f y)) (get m x)) same ∙ ap (λ z. Some (f z)) (sym (tells_apart oref_exact x y same))
  put_at m y x false same (inl h) = absurd (both_ways _ refl h)
  put_at m y x false same (inr h) = get-insert oref_total m y (f y) x ∙ ap (λ b. cond b (Some (f y)) (get m x)) same ∙ h

  put_all : (names : List Oref) (m : Map oref_cmp X) (x : Oref) → (list_any (same_oref x) names ≡ true) ⊎ (get m x ≡ Some (f x))
      → get (fold put m names) x ≡ Some (f x)
  put_all [] m x (inl h) = absurd (both_ways _ refl h)
  put_all [] m x (inr h) = h
  put_all (y ∷ names) m x h = put_all names (put m y) x (by_place h)
    where
      by_either : (same_oref x y ≡ true) ⊎ (list_any (same_oref x) names ≡ true) → (list_any (same_oref x) names ≡ true) ⊎ (get (put m y) x ≡ Some (f x))
      by_either (inl same) = inr (put_at m y x true same (inl refl))
      by_either (inr later) = inl later

      by_place : (list_any (same_oref x) (y ∷ names) ≡ true) ⊎ (get m x ≡ Some (f x)) → (list_any (same_oref x) names ≡ true) ⊎ (get (put m y) x ≡ Some (f x))
      by_place (inl k) = by_either (or_cases (same_oref x y) (list_any (same_oref x) names) k)
      by_place (inr g) = inr (put_at m y x (same_oref x y) refl (inr g))

-- ---- the ways

module _ (s : Schemas) (m : Objects) where
  abbrev n : Namings
  n = namings s m

  abbrev epoch : ℕ
  epoch = length s.upgraded

  abbrev owner : Oref → Option Oref
  owner x = sole (get n x)

  rest : ℕ → Oref → Way
  rest k a = through_owner (level_of s (get m a)) (way s m n k a)

  -- where the owners are of those that have one
  owned_key : (x a : Oref) → owner x ≡ Some a → is_some (get m a) ≡ true
  owned_key x a is = ap is_some (owner_is s m x a is).owns.reference.stored

  pub way_next : (k : ℕ) (x : Oref) → (way s m n k x).next ≡ go owner k x
  unfolding way
  way_next zero x = refl
  way_next (suc k) x = by_step (λ a. way_next k a) (owner x)
    where
      by_step : ((a : Oref) → (way s m n k a).next ≡ go owner k a) → (w : Option Oref) → (stepped s w (λ a. through_owner (level_of s (get m a)) (way s m n k a))).next ≡ onto w (λ a. go owner k a)
      by_step ih None = refl
      by_step ih (Some a) = ih a

  go_leads : (k : ℕ) (x a : Oref) → go owner k x ≡ Some a → LeadsTo s m k x a
  go_leads zero x a h = same_Some _ _ h
  go_leads (suc k) x a h = by_step (λ b g. go_leads k b a g) (owner x) refl h
    where
      by_step : ((b : Oref) → go owner k b ≡ Some a → LeadsTo s m k b a) → (w : Option Oref) → owner x ≡ w → onto w (λ b. go owner k b) ≡ Some a → LeadsTo s m (suc k) x a
      by_step ih None is g = absurd (some_not_none (sym g))
      by_step ih (Some b) is g = (b, (owner_is s m x b is, ih b g))

  leads_go : (k : ℕ) (x a : Oref) → LeadsTo s m k x a → go owner k x ≡ Some a
  leads_go zero x a h = ap Some h
  leads_go (suc k) x a h = ap (λ w. onto w (λ b. go owner k b)) (is_owner s m x h.0 h.1.0) ∙ leads_go k h.0 a h.1.1

  pub ends_none : (k : ℕ) (x : Oref) → ((a : Oref) → ¬ LeadsTo s m k x a) → go owner k x ≡ None
  ends_none k x never = by_next (go owner k x) refl
    where
      by_next : (w : Option Oref) → go owner k x ≡ w → go owner k x ≡ None
      by_next None e = e
      by_next (Some a) e = absurd (never a (go_leads k x a e))

  pub none_ends : (k : ℕ) (x : Oref) → go owner k x ≡ None → (a : Oref) → ¬ LeadsTo s m k x a
  none_ends k x h a leads = some_not_none (sym (leads_go k x a leads) ∙ h)

  ended_later : (d k : ℕ) (x : Oref) → go owner k x ≡ None → go owner (d + k) x ≡ None
  ended_later zero k x h = let e : zero + k ≡ k = omega arith in ap (λ j. go owner j x) e ∙ h
  ended_later (suc d) k x h = let e : suc d + k ≡ suc (d + k) = omega arith in ap (λ j. go owner j x) e ∙ ended owner (d + k) x (ended_later d k x h)

  -- where k steps lead nowhere, fewer lead to each owner
  pub leads_steps : (k : ℕ) (x : Oref) → go owner k x ≡ None → (j : ℕ) (a : Oref) → LeadsTo s m (suc j) x a → j < k
  leads_steps k x h j a leads = by_place (nat_lt j k) refl
    where
      by_place : (b : Bool) → nat_lt j k ≡ b → j < k
      by_place true e = ltb-true j k e
      by_place false e =
          let high = ltb-false j k e in
          let g : (suc j - k) + k ≡ suc j = omega (arith, high) in
          absurd (some_not_none (sym (leads_go (suc j) x a leads) ∙ sym (ap (λ i. go owner i x) g) ∙ ended_later (suc j - k) k x h))

  -- a way that hasn't ended after more steps than there are objects never ends
  pub never_ends : (k : ℕ) (x a : Oref) → len m < k → go owner k x ≡ Some a → (j : ℕ) → ((b : Oref) → ¬ LeadsTo s m j x b) → ⊥
  never_ends k x a above is j never =
      let most = at_most_all owner m.pairs owned_key j k x a (ends_none j x never) is in
      absurd (omega (arith, most, above))

  -- ---- the least level on the way

  pub least_within : (k : ℕ) (x : Oref) → (way s m n k x).least ≤ epoch
  unfolding way
  least_within zero x = omega arith
  least_within (suc k) x = by_step (λ a. least_within k a) (owner x)
    where
      by_step : ((a : Oref) → (way s m n k a).least ≤ epoch) → (w : Option Oref) → (stepped s w (λ a. through_owner (level_of s (get m a)) (way s m n k a))).least ≤ epoch
      by_step ih None = omega arith
      by_step ih (Some a) = let h = ih a in omega (arith, h)

  level_at : (w : Option Obj) (p : Obj) → w ≡ Some p → level_of s w ≡ level s epoch p
  level_at w p h = ap (level_of s) h

  pub levels_hold : (k : ℕ) (x : Oref) (v : ℕ) → v ≤ (way s m n k x).least → (j : ℕ) → j < k → (a : Oref) (p : Obj) → LeadsTo s m (suc j) x a → get m a ≡ Some p
      → v ≤ level s epoch p
  unfolding way
  levels_hold zero x v h j low a p leads is = absurd (omega (arith, low))
  levels_hold (suc k) x v h j low a p leads is =
      let b = leads.0 in
      let e : way s m n (suc k) x ≡ through_owner (level_of s (get m b)) (way s m n k b) = ap (λ w. stepped s w (λ c. through_owner (level_of s (get m c)) (way s m n k c))) (is_owner s m x b leads.1.0) in
      let g : v ≤ min (level_of s (get m b)) (way s m n k b).least = subst (λ w. v ≤ w.least) e h in
      by_place (λ c less i under to. levels_hold k c v less i under a p to is) j low b leads.1.1 (omega (arith, g)) (omega (arith, g))
    where
      by_place : ((c : Oref) → v ≤ (way s m n k c).least → (i : ℕ) → i < k → LeadsTo s m (suc i) c a → v ≤ level s epoch p) → (i : ℕ) → i < suc k → (b : Oref) → LeadsTo s m i b a → v ≤ level_of s (get m b) → v ≤ (way s m n k b).least → v ≤ level s epoch p
      by_place ih zero under b to here later = subst (λ q. v ≤ q) (level_at (get m b) p (subst (λ c. get m c ≡ Some p) (sym to) is)) here
      by_place ih (suc i) under b to here later = ih b later i (omega (arith, under)) to

  pub hold_levels : (k : ℕ) (x : Oref) (v : ℕ) → v ≤ epoch → ((j : ℕ) (a : Oref) (p : Obj) → LeadsTo s m (suc j) x a → get m a ≡ Some p → v ≤ level s epoch p)
      → v ≤ (way s m n k x).least
  unfolding way
  hold_levels zero x v low h = low
  hold_levels (suc k) x v low h = by_step (λ b g. hold_levels k b v low g) (owner x) refl
    where
      by_step : ((b : Oref) → ((j : ℕ) (a : Oref) (p : Obj) → LeadsTo s m (suc j) b a → get m a ≡ Some p → v ≤ level s epoch p) → v ≤ (way s m n k b).least) → (w : Option Oref) → owner x ≡ w → v ≤ (stepped s w (λ a. through_owner (level_of s (get m a)) (way s m n k a))).least
      by_step ih None is = low
      by_step ih (Some b) is =
          let own = owner_is s m x b is in
          let stored = own.owns.reference.stored in
          let here : v ≤ level s epoch own.owns.reference.object = h 0 b own.owns.reference.object (b, (own, refl)) stored in
          let same = level_at (get m b) own.owns.reference.object stored in
          let later : v ≤ (way s m n k b).least = ih b (λ j a p to is. h (suc j) a p (b, (own, to)) is) in
          omega (arith, here, same, later)

  -- ---- twice as many steps

  fewer : (w : Way) → w.least ≤ epoch → through_owner epoch w ≡ w
  fewer w h = let e : min epoch w.least ≡ w.least = omega (arith, h) in ap (λ l. let v : Way = record { next = w.next; least = l } in v) e

  behind_onward : (l : ℕ) (to : Option Oref) (least : ℕ) (f : Oref → Way) → through_owner l (onward to least f) ≡ onward to (min l least) f
  behind_onward l None least f = refl
  behind_onward l (Some a) least f =
      let e : min l (min least (f a).least) ≡ min (min l least) (f a).least = omega arith in
      ap (λ k. let v : Way = record { next = (f a).next; least = k } in v) e

  pub in_turn : (k j : ℕ) (x : Oref) → way s m n (k + j) x ≡ onward (way s m n k x).next (way s m n k x).least (λ a. way s m n j a)
  unfolding way
  in_turn zero j x =
      let e : zero + j ≡ j = omega arith in
      ap (λ i. way s m n i x) e ∙ sym (fewer (way s m n j x) (least_within j x))
  in_turn (suc k) j x =
      let e : suc k + j ≡ suc (k + j) = omega arith in
      ap (λ i. way s m n i x) e ∙ by_step (λ b. in_turn k j b) (owner x)
    where
      by_step : ((b : Oref) → way s m n (k + j) b ≡ onward (way s m n k b).next (way s m n k b).least (λ a. way s m n j a)) → (w : Option Oref) → stepped s w (λ a. through_owner (level_of s (get m a)) (way s m n (k + j) a))
          ≡ onward (stepped s w (λ a. through_owner (level_of s (get m a)) (way s m n k a))).next (stepped s w (λ a. through_owner (level_of s (get m a)) (way s m n k a))).least (λ a. way s m n j a)
      by_step ih None = refl
      by_step ih (Some b) =
          ap (through_owner (level_of s (get m b))) (ih b)
          ∙ behind_onward (level_of s (get m b)) (way s m n k b).next (way s m n k b).least (λ a. way s m n j a)

  step_is : (x : Oref) → one_step s m n x ≡ way s m n 1 x
  unfolding way
  step_is x = by_step (owner x)
    where
      by_step : (w : Option Oref) → stepped s w (λ a. record { next = Some a; least = level_of s (get m a) }) ≡ stepped s w (λ a. through_owner (level_of s (get m a)) (way s m n zero a))
      by_step None = refl
      by_step (Some a) =
          let h = level_within s (get m a) in
          let e : level_of s (get m a) ≡ min (level_of s (get m a)) epoch = omega (arith, h) in
          ap (λ l. let v : Way = record { next = Some a; least = l } in v) e

  key_of : (x : Oref) → is_some (get m x) ≡ true → IsKey m x
  key_of x h = sym (is_some-lookup (same_oref x) m.pairs) ∙ h

  pub first_are_ways : AreWays s m n 1 (ways_for (one_step s m n) (keys m))
  first_are_ways x known = put_all (one_step s m n) (keys m) empty x (inl known) ∙ ap Some (step_is x)

  go_key : (k : ℕ) (x a : Oref) → IsKey m x → go owner k x ≡ Some a → IsKey m a
  go_key zero x a known h = subst (IsKey m) (same_Some _ _ h) known
  go_key (suc k) x a known h = by_step (λ b g t. go_key k b a g t) (owner x) refl h
    where
      by_step : ((b : Oref) → IsKey m b → go owner k b ≡ Some a → IsKey m a) → (w : Option Oref) → owner x ≡ w → onto w (λ b. go owner k b) ≡ Some a → IsKey m a
      by_step ih None is g = absurd (some_not_none (sym g))
      by_step ih (Some b) is g = ih b (key_of b (owned_key x b is)) g

  pub longer_are_ways : (k : ℕ) (ws : Ways) → AreWays s m n k ws → AreWays s m n (k + k) (ways_for (longer ws) (keys m))
  longer_are_ways k ws are x known = put_all (longer ws) (keys m) empty x (inl known) ∙ ap Some (twice ∙ sym (in_turn k k x))
    where
      at : way_or_none (get ws x) ≡ way s m n k x
      at = ap way_or_none (are x known)

      by_next : (to : Option Oref) → (way s m n k x).next ≡ to → (least : ℕ) → onward to least (λ a. way_or_none (get ws a)) ≡ onward to least (λ a. way s m n k a)
      by_next None is least = refl
      by_next (Some a) is least = ap (λ w. through_owner least w) (ap way_or_none (are a (go_key k x a known (sym (way_next k x) ∙ is))))

      twice : longer ws x ≡ onward (way s m n k x).next (way s m n k x).least (λ a. way s m n k a)
      twice = ap (λ (w : Way). onward w.next w.least (λ a. way_or_none (get ws a))) at ∙ by_next (way s m n k x).next refl (way s m n k x).least
