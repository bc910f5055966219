-- The relation that the entries of a table spell, by the keys of its pairs.
use Rattle.link_table.proofs.Around.{Misses, flip}
use Rattle.link_table.proofs.Linking.{one_pair}
use Rattle.link_table.proofs.Members.{all_from, drop_key}
use Rattle.link_table.specs.Pairs.{next_after, first, is_linked, is_pair, unlink}
use Rattle.link_table.specs.Tables.{Entries, entry_at}
use Rattle.std.proofs.Common.{ap, refl, sym, ◌∙◌}
use Rattle.std.proofs.lemmas.Bool.{eq-eqb, eqb-true, or_right}
use Rattle.std.specs.List.{AllByRecursion, IsDistinct}
use Rattle.std.specs.Map.{keys_of, values_of}
use Rattle.std.specs.Option.{option_and_then, option_map}
use Rattle.std.specs.Prelude.{Bool, List, None, Option, Some, [], cond, false, map, nat_eq, not, true, ℕ, ◌∷◌, ◌≡◌, ◌||◌}

-- ---- each entry is found by its pair, and by its key

abbrev pub Found : (ℕ × ℕ → Option ℕ) → Entries → Type 0
Found K E = AllByRecursion (λ e. K e.1 ≡ Some e.0) E

abbrev pub Shown : (ℕ → Option (ℕ × ℕ)) → Entries → Type 0
Shown f E = AllByRecursion (λ e. f e.0 ≡ Some e.1) E

later : (e : ℕ × (ℕ × ℕ)) (es : Entries) (k : ℕ) (v : ℕ × ℕ) → AllByRecursion (λ y. nat_eq e.0 y ≡ false) (keys_of es) → entry_at es k ≡ Some v → entry_at (e ∷ es) k ≡ Some v
later e es k v d g = by (nat_eq k e.0) refl
  where
    none : (fs : Entries) → Misses k (keys_of fs) → entry_at fs k ≡ None
    none fs m = Rattle.link_table.proofs.Walks.no_entry fs k m

    by : (t : Bool) → nat_eq k e.0 ≡ t → cond t (Some e.1) (entry_at es k) ≡ Some v
    by true f = let n : entry_at es k ≡ None = none es (all_from e.0 k (keys_of es) f d) in cc
    by false f = g

pub listed : (K : ℕ × ℕ → Option ℕ) (E : Entries) → IsDistinct nat_eq (keys_of E) → ((v : ℕ × ℕ) (k : ℕ) → entry_at E k ≡ Some v → K v ≡ Some k) → Found K E
unfolding IsDistinct
listed K [] d h = tt
listed K (e ∷ es) d h =
    let own : nat_eq e.0 e.0 ≡ true = eq-eqb e.0 e.0 refl in
    (h e.1 e.0 (rw own refl), listed K es d.1 (λ v k g. h v k (later e es k v d.0 g)))

pub shown : (f : ℕ → Option (ℕ × ℕ)) (E : Entries) → IsDistinct nat_eq (keys_of E) → ((v : ℕ × ℕ) (k : ℕ) → entry_at E k ≡ Some v → f k ≡ Some v) → Shown f E
unfolding IsDistinct
shown f [] d h = tt
shown f (e ∷ es) d h =
    let own : nat_eq e.0 e.0 ≡ true = eq-eqb e.0 e.0 refl in
    (h e.1 e.0 (rw own refl), shown f es d.1 (λ v k g. h v k (later e es k v d.0 g)))

-- ---- whether two are linked

same_true : (l r : ℕ) (p : ℕ × ℕ) → is_pair l r p ≡ true → p ≡ (l, r)
same_true l r p h = one_pair p (l, r) h

pub not_linked : (K : ℕ × ℕ → Option ℕ) (l r : ℕ) (E : Entries) → Found K E → K (l, r) ≡ None → is_linked (values_of E) l r ≡ false
not_linked K l r [] h n = refl
not_linked K l r (e ∷ es) h n = by (is_pair l r e.1) refl (not_linked K l r es h.1 n)
  where
    by : (t : Bool) → is_pair l r e.1 ≡ t → is_linked (values_of es) l r ≡ false → (t || is_linked (values_of es) l r) ≡ false
    by true f more = let a : e.1 ≡ (l, r) = same_true l r e.1 f in let b : K (l, r) ≡ Some e.0 = ap K (sym a) ∙ h.0 in cc
    by false f more = more

pub linked_at : (l r k : ℕ) (E : Entries) → entry_at E k ≡ Some (l, r) → is_linked (values_of E) l r ≡ true
linked_at l r k [] h = cc
linked_at l r k (e ∷ es) h = by (nat_eq k e.0) h (linked_at l r k es)
  where
    by : (t : Bool) → cond t (Some e.1) (entry_at es k) ≡ Some (l, r) → (entry_at es k ≡ Some (l, r) → is_linked (values_of es) l r ≡ true) → (is_pair l r e.1 || is_linked (values_of es) l r) ≡ true
    by true g more =
        let a : e.1 ≡ (l, r) = cc in
        let b : nat_eq e.1.0 l ≡ true = eq-eqb e.1.0 l (ap (λ (p : ℕ × ℕ). p.0) a) in
        let c : nat_eq e.1.1 r ≡ true = eq-eqb e.1.1 r (ap (λ (p : ℕ × ℕ). p.1) a) in
        rw (b, c) refl
    by false g more = let a : is_linked (values_of es) l r ≡ true = more g in rw a (or_right (is_pair l r e.1) true refl)

-- ---- one pair leaves

pub unlinked : (K : ℕ × ℕ → Option ℕ) (l r n : ℕ) (E : Entries) → Found K E → K (l, r) ≡ Some n → ((v : ℕ × ℕ) → K v ≡ Some n → v ≡ (l, r)) → values_of (drop_key E n) ≡ unlink (values_of E) l r
unlinked K l r n [] h k one = refl
unlinked K l r n (e ∷ es) h k one = by (nat_eq e.0 n) (is_pair l r e.1) refl refl (unlinked K l r n es h.1 k one)
  where
    by : (s t : Bool) → nat_eq e.0 n ≡ s → is_pair l r e.1 ≡ t → values_of (drop_key es n) ≡ unlink (values_of es) l r
        → values_of (cond (not s) (e ∷ drop_key es n) (drop_key es n)) ≡ cond (not t) (e.1 ∷ unlink (values_of es) l r) (unlink (values_of es) l r)
    by true true f g more = more
    by false false f g more = ap (λ (ps : List (ℕ × ℕ)). e.1 ∷ ps) more
    by true false f g more =
        let a : e.0 ≡ n = eqb-true e.0 n f in
        let b : e.1 ≡ (l, r) = one e.1 (h.0 ∙ ap Some a) in
        let c : nat_eq e.1.0 l ≡ true = eq-eqb e.1.0 l (ap (λ (p : ℕ × ℕ). p.0) b) in
        let d : nat_eq e.1.1 r ≡ true = eq-eqb e.1.1 r (ap (λ (p : ℕ × ℕ). p.1) b) in
        let i : is_pair l r e.1 ≡ true = rw (c, d) refl in
        cc
    by false true f g more =
        let a : e.1 ≡ (l, r) = same_true l r e.1 g in
        let b : K (l, r) ≡ Some e.0 = ap K (sym a) ∙ h.0 in
        let c : e.0 ≡ n = cc in
        let d : nat_eq e.0 n ≡ true = eq-eqb e.0 n c in
        cc

pub nothing_unlinked : (l r : ℕ) (R : List (ℕ × ℕ)) → is_linked R l r ≡ false → unlink R l r ≡ R
nothing_unlinked l r [] h = refl
nothing_unlinked l r (p ∷ ps) h = by (is_pair l r p) h (nothing_unlinked l r ps)
  where
    by : (t : Bool) → (t || is_linked ps l r) ≡ false → (is_linked ps l r ≡ false → unlink ps l r ≡ ps) → cond (not t) (p ∷ unlink ps l r) (unlink ps l r) ≡ p ∷ ps
    by true g more = cc
    by false g more = ap (λ (qs : List (ℕ × ℕ)). p ∷ qs) (more g)

-- ---- the walks

-- what the entries of one list show of their pairs
module _ {X : Type 0} (side : ℕ × ℕ → X) (f : ℕ → Option (ℕ × ℕ)) where
  abbrev pub sides : Entries → List X
  sides G = map (λ e. side e.1) G

  abbrev pub side_at : Option ℕ → Option X
  side_at o = option_and_then (λ k. option_map side (f k)) o

  pub first_side : (G : Entries) → Shown f G → first (sides G) ≡ side_at (first (keys_of G))
  first_side [] h = refl
  first_side (e ∷ es) h = rw h.0 refl

module _ (side : ℕ × ℕ → ℕ) (f : ℕ → Option (ℕ × ℕ)) where
  missing : (x : ℕ) (xs : List ℕ) → AllByRecursion (λ y. nat_eq x y ≡ false) xs → (y : ℕ) → nat_eq y x ≡ true → Misses y xs
  missing x xs h y e = all_from x y xs e h

  never : (G : Entries) (k : ℕ) (p : ℕ × ℕ) → entry_at G k ≡ Some p → Misses (side p) (sides side f G) → nat_eq (side p) (side p) ≡ false
  never [] k p g m = cc
  never (e ∷ es) k p g m = by (nat_eq k e.0) g (λ h. never es k p h m.1)
    where
      by : (t : Bool) → cond t (Some e.1) (entry_at es k) ≡ Some p → (entry_at es k ≡ Some p → nat_eq (side p) (side p) ≡ false) → nat_eq (side p) (side p) ≡ false
      by true h more = let a : e.1 ≡ p = cc in rw (ap side a) at m.0
      by false h more = more h

  pub behind_side : (G : Entries) → Shown f G → IsDistinct nat_eq (keys_of G) → IsDistinct nat_eq (sides side f G) → (k : ℕ) (p : ℕ × ℕ) → entry_at G k ≡ Some p → next_after (sides side f G) (side p) ≡ side_at side f (next_after (keys_of G) k)
  unfolding IsDistinct
  behind_side [] h d s k p g = refl
  behind_side (e ∷ es) h d s k p g = by (nat_eq k e.0) refl g (behind_side es h.1 d.1 s.1 k p)
    where
      by : (t : Bool) → nat_eq k e.0 ≡ t → cond t (Some e.1) (entry_at es k) ≡ Some p
          → (entry_at es k ≡ Some p → next_after (sides side f es) (side p) ≡ side_at side f (next_after (keys_of es) k))
          → cond (nat_eq (side e.1) (side p)) (first (sides side f es)) (next_after (sides side f es) (side p)) ≡ side_at side f (cond (nat_eq e.0 k) (first (keys_of es)) (next_after (keys_of es) k))
      by true a b more =
          let c : e.1 ≡ p = cc in
          let i : nat_eq (side e.1) (side p) ≡ true = eq-eqb (side e.1) (side p) (ap side c) in
          let j : nat_eq e.0 k ≡ true = eq-eqb e.0 k (sym (eqb-true k e.0 a)) in
          rw (i, j) (first_side side f es h.1)
      by false a b more = other (nat_eq (side e.1) (side p)) refl
        where
          other : (t : Bool) → nat_eq (side e.1) (side p) ≡ t → cond t (first (sides side f es)) (next_after (sides side f es) (side p)) ≡ side_at side f (cond (nat_eq e.0 k) (first (keys_of es)) (next_after (keys_of es) k))
          other true c =
              let i : nat_eq (side p) (side e.1) ≡ true = eq-eqb (side p) (side e.1) (sym (eqb-true (side e.1) (side p) c)) in
              let j : nat_eq (side p) (side p) ≡ false = never es k p b (missing (side e.1) (sides side f es) s.0 (side p) i) in
              let l : nat_eq (side p) (side p) ≡ true = eq-eqb (side p) (side p) refl in
              cc
          other false c = let i : nat_eq e.0 k ≡ false = flip k e.0 a in rw i (more b)
