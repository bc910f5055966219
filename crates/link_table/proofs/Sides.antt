-- The rights of a left and the lefts of a right, as the nodes of their list show them.
use Rattle.link_table.proofs.Around.{Misses, first_of_ends}
use Rattle.link_table.proofs.Linking.{stands_itself}
use Rattle.link_table.proofs.Members.{distinct_members}
use Rattle.link_table.proofs.Relation.{Found, Shown, behind_side, first_side, listed, shown, side_at}
use Rattle.link_table.proofs.Walks.{all_members}
use Rattle.link_table.specs.Nodes.{neighbors}
use Rattle.link_table.specs.Pairs.{next_after, first}
use Rattle.link_table.specs.Tables.{Entries, Keeps, State, around, behind_at, ends_at, entry_at, first_key, members, pair_at, pair_of, stands_with}
use Rattle.link_table.specs.declared.node.Chain.TheVariants.{All, Left, Right}
use Rattle.link_table.specs.declared.node.Chain.{Chain}
use Rattle.link_table.specs.declared.node.Neighbors.{Neighbors}
use Rattle.link_table.specs.declared.node.Node.{Node}
use Rattle.std.proofs.Common.{ap, refl, sym, ◌∙◌}
use Rattle.std.proofs.lemmas.Bool.{eq-eqb, eqb-true}
use Rattle.std.specs.List.{AllByRecursion, IsDistinct, filter}
use Rattle.std.specs.Map.{keys_of, values_of}
use Rattle.std.specs.Option.{option_and_then, option_map}
use Rattle.std.specs.Prelude.{Bool, List, None, Option, Some, [], cond, false, map, nat_eq, true, ℕ, ◌∷◌, ◌≡◌}

-- the entries of one list
abbrev pub listing : Chain → ℕ × ℕ → Entries → Entries
listing c p E = filter (λ e. stands_with c p e.1) E

pub sides_of : {X : Type 0} (side : ℕ × ℕ → X) (test : ℕ × ℕ → Bool) (E : Entries) → map side (filter test (values_of E)) ≡ map (λ e. side e.1) (filter (λ e. test e.1) E)
sides_of side test [] = refl
sides_of side test (e ∷ es) = by (test e.1) (sides_of side test es)
  where
    by : (t : Bool) → map side (filter test (values_of es)) ≡ map (λ e. side e.1) (filter (λ e. test e.1) es)
        → map side (cond t (e.1 ∷ filter test (values_of es)) (filter test (values_of es))) ≡ map (λ e. side e.1) (cond t (e ∷ filter (λ e. test e.1) es) (filter (λ e. test e.1) es))
    by true more = ap (λ xs. side e.1 ∷ xs) more
    by false more = more

pub shown_in : (f : ℕ → Option (ℕ × ℕ)) (c : Chain) (p : ℕ × ℕ) (E : Entries) → Shown f E → Shown f (listing c p E)
shown_in f c p [] h = tt
shown_in f c p (e ∷ es) h = by (stands_with c p e.1) (shown_in f c p es h.1)
  where
    by : (t : Bool) → Shown f (listing c p es) → Shown f (cond t (e ∷ listing c p es) (listing c p es))
    by true more = (h.0, more)
    by false more = more

entry_in : (c : Chain) (p v : ℕ × ℕ) (E : Entries) (k : ℕ) → IsDistinct nat_eq (keys_of E) → entry_at E k ≡ Some v → stands_with c p v ≡ true → entry_at (listing c p E) k ≡ Some v
unfolding IsDistinct
entry_in c p v [] k d g s = cc
entry_in c p v (e ∷ es) k d g s = by (nat_eq k e.0) (stands_with c p e.1) refl refl g (λ h. entry_in c p v es k d.1 h s)
  where
    by : (a b : Bool) → nat_eq k e.0 ≡ a → stands_with c p e.1 ≡ b → cond a (Some e.1) (entry_at es k) ≡ Some v → (entry_at es k ≡ Some v → entry_at (listing c p es) k ≡ Some v)
        → entry_at (cond b (e ∷ listing c p es) (listing c p es)) k ≡ Some v
    by true true i j h more = rw i h
    by true false i j h more = let a : e.1 ≡ v = cc in let b : stands_with c p v ≡ false = rw a at j in cc
    by false true i j h more = rw i (more h)
    by false false i j h more = more h

-- ---- no number stands twice in such a list

-- two pairs of one list with one other side are one
abbrev pub Tells : (ℕ × ℕ → ℕ) → Chain → ℕ × ℕ → Type 0
Tells side c p = (v w : ℕ × ℕ) → stands_with c p v ≡ true → stands_with c p w ≡ true → nat_eq (side v) (side w) ≡ true → v ≡ w

pub rights_tell : (p : ℕ × ℕ) → Tells (λ v. v.1) Left p
rights_tell p v w a b e =
    let x : v.0 ≡ w.0 = eqb-true v.0 p.0 a ∙ sym (eqb-true w.0 p.0 b) in
    let y : v.1 ≡ w.1 = eqb-true v.1 w.1 e in
    ap (λ (m : ℕ). (m, v.1)) x ∙ ap (λ (m : ℕ). (w.0, m)) y

pub lefts_tell : (p : ℕ × ℕ) → Tells (λ v. v.0) Right p
lefts_tell p v w a b e =
    let x : v.0 ≡ w.0 = eqb-true v.0 w.0 e in
    let y : v.1 ≡ w.1 = eqb-true v.1 p.1 a ∙ sym (eqb-true w.1 p.1 b) in
    ap (λ (m : ℕ). (m, v.1)) x ∙ ap (λ (m : ℕ). (w.0, m)) y

module _ (side : ℕ × ℕ → ℕ) (c : Chain) (p : ℕ × ℕ) (tells : Tells side c p) (K : ℕ × ℕ → Option ℕ) where
  abbrev shows : Entries → List ℕ
  shows G = map (λ (e : ℕ × (ℕ × ℕ)). side e.1) G

  apart_from : (e : ℕ × (ℕ × ℕ)) (es : Entries) → stands_with c p e.1 ≡ true → K e.1 ≡ Some e.0 → AllByRecursion (λ y. nat_eq e.0 y ≡ false) (keys_of es) → Found K es → AllByRecursion (λ y. nat_eq (side e.1) y ≡ false) (shows (listing c p es))
  apart_from e [] s k d h = tt
  apart_from e (g ∷ gs) s k d h = by (stands_with c p g.1) refl (apart_from e gs s k d.1 h.1)
    where
      differ : stands_with c p g.1 ≡ true → (t : Bool) → nat_eq (side e.1) (side g.1) ≡ t → t ≡ false
      differ f true i =
          let a : e.1 ≡ g.1 = tells e.1 g.1 s f i in
          let b : K e.1 ≡ Some g.0 = ap K a ∙ h.0 in
          let j : e.0 ≡ g.0 = cc in
          let l : nat_eq e.0 g.0 ≡ true = eq-eqb e.0 g.0 j in
          let m : nat_eq e.0 g.0 ≡ false = d.0 in
          cc
      differ f false i = refl

      by : (t : Bool) → stands_with c p g.1 ≡ t → AllByRecursion (λ y. nat_eq (side e.1) y ≡ false) (shows (listing c p gs)) → AllByRecursion (λ y. nat_eq (side e.1) y ≡ false) (shows (cond t (g ∷ listing c p gs) (listing c p gs)))
      by true f more = (differ f (nat_eq (side e.1) (side g.1)) refl, more)
      by false f more = more

  distinct_shows : (E : Entries) → IsDistinct nat_eq (keys_of E) → Found K E → IsDistinct nat_eq (shows (listing c p E))
  unfolding IsDistinct
  distinct_shows [] d h = tt
  distinct_shows (e ∷ es) d h = by (stands_with c p e.1) refl (distinct_shows es d.1 h.1)
    where
      by : (t : Bool) → stands_with c p e.1 ≡ t → IsDistinct nat_eq (shows (listing c p es)) → IsDistinct nat_eq (shows (cond t (e ∷ listing c p es) (listing c p es)))
      by true f more = (apart_from e es f h.0 d.0 h.1, more)
      by false f more = more

-- ---- one step of a walk

-- the key behind that of a pair in one of its lists
module _ (S : State) (E : Entries) (h : Keeps S E) where
  abbrev pair : ℕ → Option (ℕ × ℕ)
  pair k = option_map pair_of (S.nodes k)

  found : Found S.keys E
  found = listed S.keys E h.apart h.kept

  visible : Shown pair E
  visible = shown pair E h.apart (λ v k g. h.pairs k ∙ g)

  pub first_pair : first (values_of E) ≡ pair_at S (first_key S.all)
  first_pair =
      let no : ℕ × ℕ = (0, 0) in
      let a : first_key S.all ≡ first (keys_of E) = ap first_key (h.ends All no) ∙ first_of_ends (members All no E) ∙ ap first (all_members no E) in
      rw a (same (first (keys_of E)) (first_side (λ v. v) pair E visible))
    where
      same : (o : Option ℕ) → {x : Option (ℕ × ℕ)} → x ≡ side_at (λ v. v) pair o → x ≡ pair_at S o
      same None e = e
      same (Some k) e = e ∙ id (S.nodes k)
        where
          id : (o : Option Node) → option_map (λ (v : ℕ × ℕ). v) (option_map pair_of o) ≡ option_map pair_of o
          id None = refl
          id (Some n) = refl

  module _ (side : ℕ × ℕ → ℕ) (c : Chain) (tells : (p : ℕ × ℕ) → Tells side c p) where
    abbrev walked : ℕ × ℕ → List ℕ
    walked p = map (λ (e : ℕ × (ℕ × ℕ)). side e.1) (listing c p E)

    pub distinct_walk : (p : ℕ × ℕ) → IsDistinct nat_eq (walked p)
    distinct_walk p = distinct_shows side c p (tells p) S.keys E h.apart found

    seen : (o : Option ℕ) → side_at side pair o ≡ option_map side (pair_at S o)
    seen None = refl
    seen (Some k) = refl

    pub walk_first : (p : ℕ × ℕ) → first (walked p) ≡ option_map side (pair_at S (first_key (ends_at S c p)))
    walk_first p =
        let a : first_key (ends_at S c p) ≡ first (members c p E) = ap first_key (h.ends c p) ∙ first_of_ends (members c p E) in
        rw a (first_side side pair (listing c p E) (shown_in pair c p E visible) ∙ seen (first (members c p E)))

    pub walk_behind : (p : ℕ × ℕ) → next_after (walked p) (side p) ≡ option_map side (pair_at S (behind_at S c p))
    walk_behind p = by (S.keys p) refl
      where
        absent : S.keys p ≡ None → Misses (side p) (walked p)
        absent f = none E found
          where
            none : (G : Entries) → Found S.keys G → Misses (side p) (map (λ (e : ℕ × (ℕ × ℕ)). side e.1) (listing c p G))
            none [] g = tt
            none (e ∷ es) g = each (stands_with c p e.1) refl (none es g.1)
              where
                differ : stands_with c p e.1 ≡ true → (t : Bool) → nat_eq (side e.1) (side p) ≡ t → t ≡ false
                differ i true j =
                    let a : e.1 ≡ p = tells p e.1 p i (stands_itself c p) j in
                    let b : S.keys p ≡ Some e.0 = ap S.keys (sym a) ∙ g.0 in
                    cc
                differ i false j = refl

                each : (t : Bool) → stands_with c p e.1 ≡ t → Misses (side p) (map (λ (e : ℕ × (ℕ × ℕ)). side e.1) (listing c p es)) → Misses (side p) (map (λ (e : ℕ × (ℕ × ℕ)). side e.1) (cond t (e ∷ listing c p es) (listing c p es)))
                each true i more = (differ i (nat_eq (side e.1) (side p)) refl, more)
                each false i more = more

        nothing : (xs : List ℕ) (x : ℕ) → Misses x xs → next_after xs x ≡ None
        nothing [] x m = refl
        nothing (y ∷ ys) x m = rw m.0 (nothing ys x m.1)

        at : (k : ℕ) → S.keys p ≡ Some k → (o : Option Node) → S.nodes k ≡ o → next_after (walked p) (side p) ≡ option_map side (pair_at S (option_and_then (λ (n : Node). (neighbors c n).after) o))
        at k f None i = let a : option_map pair_of (S.nodes k) ≡ Some p = h.pairs k ∙ h.found p k f in let b : option_map pair_of None ≡ Some p = rw i at a in cc
        at k f (Some n) i =
            let g : entry_at E k ≡ Some p = h.found p k f in
            let a : option_map (neighbors c) (S.nodes k) ≡ Some (around (members c p E) k) = h.places c k p g in
            let b : option_map (neighbors c) (Some n) ≡ Some (around (members c p E) k) = rw i at a in
            let j : neighbors c n ≡ around (members c p E) k = cc in
            let l : (neighbors c n).after ≡ next_after (members c p E) k = ap (λ (m : Neighbors). m.after) j in
            let m : entry_at (listing c p E) k ≡ Some p = entry_in c p p E k h.apart g (stands_itself c p) in
            rw l (behind_side side pair (listing c p E) (shown_in pair c p E visible) (distinct_members c p E h.apart) (distinct_walk p) k p m ∙ seen (next_after (members c p E) k))

        by : (o : Option ℕ) → S.keys p ≡ o → next_after (walked p) (side p) ≡ option_map side (pair_at S (option_and_then (λ k. option_and_then (λ n. (neighbors c n).after) (S.nodes k)) o))
        by None f = nothing (walked p) (side p) (absent f)
        by (Some k) f = at k f (S.nodes k) refl
