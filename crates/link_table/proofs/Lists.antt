-- A relation as a list of pairs: what its walks and its changes say of one another.
use Rattle.link_table.proofs.Around.{Misses, flip, none_last, without_none}
use Rattle.link_table.specs.Nodes.{is_key}
use Rattle.link_table.specs.Pairs.{first, next, rights, unlink, unlink_left}
use Rattle.link_table.specs.Tables.{without}
use Rattle.std.proofs.Common.{ap, arith, refl}
use Rattle.std.proofs.lemmas.Bool.{eq-eqb}
use Rattle.std.specs.List.{AllByRecursion, IsDistinct, filter, last_or}
use Rattle.std.specs.Prelude.{Bool, List, None, Option, Some, [], cond, false, length, map, nat_eq, not, true, ℕ, ◌&&◌, ◌+◌, ◌++◌, ◌∷◌, ◌≡◌}

-- ---- a walk goes on

next_from : (d : ℕ) (ds rest : List ℕ) → IsDistinct nat_eq (d ∷ (ds ++ rest)) → next (d ∷ (ds ++ rest)) (last_or (Some d) ds) ≡ first rest
unfolding IsDistinct
next_from d [] rest h = let own : nat_eq d d ≡ true = eq-eqb d d refl in rw own refl
next_from d (e ∷ es) rest h = by (last_or (Some e) es) refl (next_from e es rest h.1)
  where
    flipped : (ys : List ℕ) → AllByRecursion (λ y. nat_eq d y ≡ false) (ys ++ rest) → Misses d ys
    flipped [] a = tt
    flipped (y ∷ ys) a = (flip d y a.0, flipped ys a.1)

    by : (o : Option ℕ) → last_or (Some e) es ≡ o → next (e ∷ (es ++ rest)) o ≡ first rest → next (d ∷ (e ∷ (es ++ rest))) o ≡ first rest
    by None f more = more_none es e f
      where
        more_none : (es : List ℕ) (e : ℕ) → last_or (Some e) es ≡ None → Some d ≡ first rest
        more_none [] e g = cc
        more_none (x ∷ xs) e g = more_none xs x g
    by (Some y) f more =
        let m : Misses d (e ∷ es) = flipped (e ∷ es) h.0 in
        let a : is_key (last_or (Some e) es) d ≡ false = none_last d (Some e) es m.0 m.1 in
        let b : nat_eq y d ≡ false = rw f at a in
        let c : nat_eq d y ≡ false = flip y d b in
        rw c more

pub goes_on : (xs : List ℕ) → IsDistinct nat_eq xs → (o : Option ℕ) (done rest : List ℕ) → xs ≡ done ++ rest → o ≡ last_or None done → next xs o ≡ first rest
goes_on xs h o [] rest e f = rw (f, e) refl
goes_on xs h o (d ∷ ds) rest e f = rw (f, e) (next_from d ds rest (rw e at h))

-- ---- the pairs of a left leave one by one

pub left_stays : (l r : ℕ) (R : List (ℕ × ℕ)) → unlink_left (unlink R l r) l ≡ unlink_left R l
left_stays l r [] = refl
left_stays l r (p ∷ ps) = by (nat_eq p.0 l) refl (nat_eq p.1 r) (left_stays l r ps)
  where
    by : (s : Bool) → nat_eq p.0 l ≡ s → (t : Bool) → unlink_left (unlink ps l r) l ≡ unlink_left ps l
        → unlink_left (cond (not (s && t)) (p ∷ unlink ps l r) (unlink ps l r)) l ≡ cond (not s) (p ∷ unlink_left ps l) (unlink_left ps l)
    by true f true more = more
    by true f false more = rw f more
    by false f t more = rw f (ap (λ (qs : List (ℕ × ℕ)). p ∷ qs) more)

rights_rest : (l r : ℕ) (R : List (ℕ × ℕ)) → rights (unlink R l r) l ≡ without (rights R l) r
rights_rest l r [] = refl
rights_rest l r (p ∷ ps) = by (nat_eq p.0 l) refl (nat_eq p.1 r) refl (rights_rest l r ps)
  where
    by : (s : Bool) → nat_eq p.0 l ≡ s → (t : Bool) → nat_eq p.1 r ≡ t → rights (unlink ps l r) l ≡ without (rights ps l) r
        → rights (cond (not (s && t)) (p ∷ unlink ps l r) (unlink ps l r)) l ≡ without (map (λ q. q.1) (cond s (p ∷ filter (λ q. nat_eq q.0 l) ps) (filter (λ q. nat_eq q.0 l) ps))) r
    by true f true g more = rw g more
    by true f false g more = rw (f, g) (ap (λ (xs : List ℕ). p.1 ∷ xs) more)
    by false f t g more = rw f more

pub one_less : (l r : ℕ) (R : List (ℕ × ℕ)) → IsDistinct nat_eq (rights R l) → first (rights R l) ≡ Some r → length (rights (unlink R l r) l) + 1 ≡ length (rights R l)
unfolding IsDistinct
one_less l r R d f = rw (rights_rest l r R) (by (rights R l) d f)
  where
    by : (xs : List ℕ) → IsDistinct nat_eq xs → first xs ≡ Some r → length (without xs r) + 1 ≡ length xs
    by [] d f = cc
    by (x ∷ xs) d f =
        let a : x ≡ r = cc in
        let b : nat_eq x r ≡ true = eq-eqb x r a in
        let m : Misses r xs = missed xs (rw a at d.0) in
        let e : without xs r ≡ xs = without_none xs r m in
        rw (b, e) (omega arith)
      where
        missed : (ys : List ℕ) → AllByRecursion (λ y. nat_eq r y ≡ false) ys → Misses r ys
        missed [] h = tt
        missed (y ∷ ys) h = (flip r y h.0, missed ys h.1)

pub none_left : (l : ℕ) (R : List (ℕ × ℕ)) → first (rights R l) ≡ None → (unlink_left R l ≡ R) × (length (rights R l) ≡ 0)
none_left l [] h = (refl, refl)
none_left l (p ∷ ps) h = by (nat_eq p.0 l) h (none_left l ps)
  where
    by : (t : Bool) → first (map (λ q. q.1) (cond t (p ∷ filter (λ q. nat_eq q.0 l) ps) (filter (λ q. nat_eq q.0 l) ps))) ≡ None
        → (first (rights ps l) ≡ None → (unlink_left ps l ≡ ps) × (length (rights ps l) ≡ 0))
        → (cond (not t) (p ∷ unlink_left ps l) (unlink_left ps l) ≡ p ∷ ps) × (length (map (λ q. q.1) (cond t (p ∷ filter (λ q. nat_eq q.0 l) ps) (filter (λ q. nat_eq q.0 l) ps))) ≡ 0)
    by true g more = cc
    by false g more = (ap (λ (qs : List (ℕ × ℕ)). p ∷ qs) (more g).0, (more g).1)
