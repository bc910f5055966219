-- A table with a new pair keeps it behind the others.
use Rattle.link_table.proofs.Around.{Misses, before_new, before_old, behind_new, behind_old, flip, joined_ends, last_of_ends, no_last}
use Rattle.link_table.proofs.Members.{distinct_members, distinct_push, elsewhere, entry_new, entry_push, members_push, missed_by, misses, together}
use Rattle.link_table.specs.Nodes.{is_key, neighbors, with_after}
use Rattle.link_table.specs.Pairs.{next_after}
use Rattle.link_table.specs.Tables.{Entries, Keeps, Puts, State, around, at_end, before_from, ends_at, ends_of, entry_at, followed, joined, last_key, members, new_node, pair_of, place, same_pair, stands_with, with_last}
use Rattle.link_table.specs.declared.node.Chain.TheVariants.{All, Left, Right}
use Rattle.link_table.specs.declared.node.Chain.{Chain}
use Rattle.link_table.specs.declared.node.Neighbors.{Neighbors}
use Rattle.link_table.specs.declared.node.Node.{Node}
use Rattle.std.proofs.Common.{ap, length-append, refl, sym, ◌∙◌}
use Rattle.std.proofs.lemmas.Bool.{eq-eqb, eqb-true, and_parts}
use Rattle.std.specs.List.{last_or}
use Rattle.std.specs.Map.{keys_of}
use Rattle.std.specs.Option.{option_map}
use Rattle.std.specs.Prelude.{Bool, List, None, Option, Some, [], cond, false, nat_eq, true, ℕ, ◌+◌, ◌++◌, ◌∷◌, ◌≡◌}

-- ---- pairs

pub same_itself : (p : ℕ × ℕ) → same_pair p p ≡ true
same_itself p =
    let a : nat_eq p.0 p.0 ≡ true = eq-eqb p.0 p.0 refl in
    let b : nat_eq p.1 p.1 ≡ true = eq-eqb p.1 p.1 refl in
    rw (a, b) refl

pub one_pair : (p q : ℕ × ℕ) → same_pair p q ≡ true → p ≡ q
one_pair p q h =
    let both = and_parts (nat_eq p.0 q.0) (nat_eq p.1 q.1) h in
    let a : p.0 ≡ q.0 = eqb-true p.0 q.0 both.0 in
    let b : p.1 ≡ q.1 = eqb-true p.1 q.1 both.1 in
    ap (λ (x : ℕ). (x, p.1)) a ∙ ap (λ (y : ℕ). (q.0, y)) b

pub stands_itself : (c : Chain) (p : ℕ × ℕ) → stands_with c p p ≡ true
stands_itself All p = refl
stands_itself Left p = eq-eqb p.0 p.0 refl
stands_itself Right p = eq-eqb p.1 p.1 refl

pub stands_not_back : (c : Chain) (p q : ℕ × ℕ) → stands_with c p q ≡ false → stands_with c q p ≡ false
stands_not_back All p q h = cc
stands_not_back Left p q h = flip q.0 p.0 h
stands_not_back Right p q h = flip q.1 p.1 h

-- ---- what one change leaves

-- a place, where n comes behind j
abbrev pub place_followed : Option ℕ → ℕ → ℕ → Option Neighbors → Option Neighbors
place_followed j n k a = cond (is_key j k) (option_map (λ (m : Neighbors). record m { after = Some n }) a) a

same : (c : Chain) (j : Option ℕ) (n k : ℕ) (o : Option Node) → option_map (neighbors c) (followed c j n k o) ≡ place_followed j n k (option_map (neighbors c) o)
same c j n k o = by c (is_key j k) o
  where
    by : (c : Chain) (t : Bool) (o : Option Node) → option_map (neighbors c) (cond t (option_map (with_after c (Some n)) o) o) ≡ cond t (option_map (λ (m : Neighbors). record m { after = Some n }) (option_map (neighbors c) o)) (option_map (neighbors c) o)
    by c false o = refl
    by c true None = refl
    by All true (Some m) = refl
    by Left true (Some m) = refl
    by Right true (Some m) = refl

-- one list isn't changed by another
abbrev Apart : Chain → Chain → Type 0
Apart c d = (x : Option ℕ) (m : Node) → neighbors c (with_after d x m) ≡ neighbors c m

other : (c d : Chain) → Apart c d → (j : Option ℕ) (n k : ℕ) (o : Option Node) → option_map (neighbors c) (followed d j n k o) ≡ option_map (neighbors c) o
other c d h j n k o = by (is_key j k) o
  where
    by : (t : Bool) (o : Option Node) → option_map (neighbors c) (cond t (option_map (with_after d (Some n)) o) o) ≡ option_map (neighbors c) o
    by false o = refl
    by true None = refl
    by true (Some m) = ap Some (h (Some n) m)

pair_after : (d : Chain) (x : Option ℕ) (m : Node) → pair_of (with_after d x m) ≡ pair_of m
pair_after All x m = refl
pair_after Left x m = refl
pair_after Right x m = refl

pair_stays : (d : Chain) (j : Option ℕ) (n k : ℕ) (o : Option Node) → option_map pair_of (followed d j n k o) ≡ option_map pair_of o
pair_stays d j n k o = by (is_key j k) o
  where
    by : (t : Bool) (o : Option Node) → option_map pair_of (cond t (option_map (with_after d (Some n)) o) o) ≡ option_map pair_of o
    by false o = refl
    by true None = refl
    by true (Some m) = ap Some (pair_after d (Some n) m)

-- ---- the whole

module _ (S T : State) (l r : ℕ) (E : Entries) (h : Keeps S E) (p : Puts S T l r) (new : S.keys (l, r) ≡ None) where
  abbrev q : ℕ × ℕ
  q = (l, r)

  abbrev n : ℕ
  n = p.key

  abbrev F : Entries
  F = E ++ (n, q) ∷ []

  -- the node k before its lists are mended
  abbrev raw : ℕ → Option Node
  raw k = cond (nat_eq n k) (Some (new_node S l r)) (S.nodes k)

  absent : entry_at E n ≡ None
  absent = sym (h.pairs n) ∙ ap (option_map pair_of) p.vacant

  missed : Misses n (keys_of E)
  missed = misses E n absent

  own : nat_eq n n ≡ true
  own = eq-eqb n n refl

  -- the key of an entry that was there isn't the new one
  apart_from : (k : ℕ) (v : ℕ × ℕ) → entry_at E k ≡ Some v → nat_eq k n ≡ false
  apart_from k v g = by (nat_eq k n) refl
    where
      by : (t : Bool) → nat_eq k n ≡ t → t ≡ false
      by false e = refl
      by true e = let a : k ≡ n = eqb-true k n e in let b : entry_at E n ≡ Some v = rw a at g in let c : entry_at E n ≡ None = absent in cc

  pairs_at : (k : ℕ) → option_map pair_of (T.nodes k) ≡ option_map pair_of (raw k)
  pairs_at k =
      let all : Option Node = followed All (last_key S.all) n k (raw k) in
      let left : Option Node = followed Left (last_key (S.lefts l)) n k all in
      ap (option_map pair_of) (p.nodes k)
      ∙ pair_stays Right (last_key (S.rights r)) n k left
      ∙ pair_stays Left (last_key (S.lefts l)) n k all
      ∙ pair_stays All (last_key S.all) n k (raw k)

  pairs : (k : ℕ) → option_map pair_of (T.nodes k) ≡ entry_at F k
  pairs k = pairs_at k ∙ by (nat_eq n k) refl
    where
      by : (t : Bool) → nat_eq n k ≡ t → option_map pair_of (cond t (Some (new_node S l r)) (S.nodes k)) ≡ entry_at F k
      by true e = let a : n ≡ k = eqb-true n k e in rw (← a) (sym (entry_new E n q missed))
      by false e = h.pairs k ∙ sym (entry_push E n q k (flip n k e))

  found : (v : ℕ × ℕ) (k : ℕ) → T.keys v ≡ Some k → entry_at F k ≡ Some v
  found v k g = by (same_pair q v) refl (sym (p.keys v) ∙ g)
    where
      by : (t : Bool) → same_pair q v ≡ t → cond t (Some n) (S.keys v) ≡ Some k → entry_at F k ≡ Some v
      by true e f = let a : q ≡ v = one_pair q v e in let b : n ≡ k = cc in rw (← b, ← a) (entry_new E n q missed)
      by false e f = let a : entry_at E k ≡ Some v = h.found v k f in entry_push E n q k (apart_from k v a) ∙ a

  kept : (v : ℕ × ℕ) (k : ℕ) → entry_at F k ≡ Some v → T.keys v ≡ Some k
  kept v k g = p.keys v ∙ by (nat_eq k n) refl
    where
      old : entry_at E k ≡ Some v → (t : Bool) → same_pair q v ≡ t → cond t (Some n) (S.keys v) ≡ Some k
      old f true e =
          let a : q ≡ v = one_pair q v e in
          let b : S.keys v ≡ Some k = h.kept v k f in
          let c : S.keys q ≡ Some k = rw (← a) at b in
          let d : S.keys q ≡ None = new in
          cc
      old f false e = h.kept v k f

      by : (t : Bool) → nat_eq k n ≡ t → cond (same_pair q v) (Some n) (S.keys v) ≡ Some k
      by true e =
          let a : k ≡ n = eqb-true k n e in
          let b : entry_at F n ≡ Some v = rw a at g in
          let c : entry_at F n ≡ Some q = entry_new E n q missed in
          let d : q ≡ v = cc in
          let f : same_pair q v ≡ true = rw (← d) (same_itself q) in
          rw (f, a) refl
      by false e = old (sym (entry_push E n q k e) ∙ g) (same_pair q v) refl

  ends_were : (c : Chain) → last_key (ends_at S c q) ≡ last_or None (members c q E)
  ends_were c = ap last_key (h.ends c q) ∙ last_of_ends (members c q E)

  place_at : (c : Chain) (k : ℕ) → place T c k ≡ place_followed (last_key (ends_at S c q)) n k (option_map (neighbors c) (raw k))
  place_at c k = ap (option_map (neighbors c)) (p.nodes k) ∙ by c
    where
      all : Option Node
      all = followed All (last_key S.all) n k (raw k)

      by : (c : Chain) → option_map (neighbors c) (with_last S n l r k) ≡ place_followed (last_key (ends_at S c q)) n k (option_map (neighbors c) (raw k))
      by All =
          other All Right (λ _ _. refl) (last_key (S.rights r)) n k (followed Left (last_key (S.lefts l)) n k (followed All (last_key S.all) n k (raw k)))
          ∙ other All Left (λ _ _. refl) (last_key (S.lefts l)) n k (followed All (last_key S.all) n k (raw k))
          ∙ same All (last_key S.all) n k (raw k)
      by Left =
          other Left Right (λ _ _. refl) (last_key (S.rights r)) n k (followed Left (last_key (S.lefts l)) n k (followed All (last_key S.all) n k (raw k)))
          ∙ same Left (last_key (S.lefts l)) n k (followed All (last_key S.all) n k (raw k))
          ∙ ap (place_followed (last_key (S.lefts l)) n k) (other Left All (λ _ _. refl) (last_key S.all) n k (raw k))
      by Right =
          same Right (last_key (S.rights r)) n k (followed Left (last_key (S.lefts l)) n k (followed All (last_key S.all) n k (raw k)))
          ∙ ap (place_followed (last_key (S.rights r)) n k)
          (other Right Left (λ _ _. refl) (last_key (S.lefts l)) n k (followed All (last_key S.all) n k (raw k))
          ∙ other Right All (λ _ _. refl) (last_key S.all) n k (raw k))

  new_place : (c : Chain) → neighbors c (new_node S l r) ≡ at_end (ends_at S c q)
  new_place All = refl
  new_place Left = refl
  new_place Right = refl

  placed_new : (c : Chain) → place T c n ≡ Some (around (members c q F) n)
  placed_new c =
      let m : Misses n (members c q E) = missed_by c q E n missed in
      let last : is_key (last_key (ends_at S c q)) n ≡ false = ap (λ (o : Option ℕ). is_key o n) (ends_were c) ∙ no_last n (members c q E) m in
      let list : members c q F ≡ members c q E ++ n ∷ [] = members_push c q q E n ∙ ap (λ (t : Bool). cond t (members c q E ++ n ∷ []) (members c q E)) (stands_itself c q) in
      place_at c n ∙ rw (own, last, list, new_place c, before_new (members c q E) n m, behind_new (members c q E) n m, ends_were c) refl

  -- a node that was there
  joined_by : (c : Chain) (k : ℕ) (v : ℕ × ℕ) → entry_at E k ≡ Some v → (t : Bool) → stands_with c v q ≡ t
      → place_followed (last_or None (members c q E)) n k (Some (around (members c v E) k)) ≡ Some (around (cond t (members c v E ++ n ∷ []) (members c v E)) k)
  joined_by c k v g true f = rw together_now (by (is_key (last_or None C) k) refl)
    where
      C : List ℕ
      C = members c v E

      together_now : members c q E ≡ members c v E
      together_now = together c v q E f

      by : (t : Bool) → is_key (last_or None (members c v E)) k ≡ t
          → cond t (Some (record { before = before_from None (members c v E) k; after = Some n })) (Some (around (members c v E) k)) ≡ Some (around (members c v E ++ n ∷ []) k)
      by t e =
          let k_apart : nat_eq n k ≡ false = flip k n (apart_from k v g) in
          let a : before_from None (members c v E ++ n ∷ []) k ≡ before_from None (members c v E) k = before_old (members c v E) n k k_apart in
          let b : next_after (members c v E ++ n ∷ []) k ≡ cond t (Some n) (next_after (members c v E) k) = behind_old (members c v E) n k (distinct_members c v E h.apart) k_apart ∙ ap (λ (s : Bool). cond s (Some n) (next_after (members c v E) k)) e in
          rw (a, b) (each t)
        where
          each : (t : Bool) → cond t (Some (record { before = before_from None (members c v E) k; after = Some n })) (Some (around (members c v E) k)) ≡ Some (record { before = before_from None (members c v E) k; after = cond t (Some n) (next_after (members c v E) k) })
          each true = refl
          each false = refl
  joined_by c k v g false f =
      let m : Misses k (members c q E) = elsewhere c q v E k h.apart g (stands_not_back c v q f) in
      let last : is_key (last_or None (members c q E)) k ≡ false = no_last k (members c q E) m in
      rw last refl

  placed_old : (c : Chain) (k : ℕ) (v : ℕ × ℕ) → entry_at E k ≡ Some v → place T c k ≡ Some (around (members c v F) k)
  placed_old c k v g =
      let k_apart : nat_eq n k ≡ false = flip k n (apart_from k v g) in
      let was : place S c k ≡ Some (around (members c v E) k) = h.places c k v g in
      let at : place T c k ≡ place_followed (last_or None (members c q E)) n k (Some (around (members c v E) k)) = place_at c k ∙ rw (k_apart, was, ends_were c) refl in
      at ∙ joined_by c k v g (stands_with c v q) refl ∙ ap (λ (ks : List ℕ). Some (around ks k)) (sym (members_push c v q E n))

  places : (c : Chain) (k : ℕ) (v : ℕ × ℕ) → entry_at F k ≡ Some v → place T c k ≡ Some (around (members c v F) k)
  places c k v g = by (nat_eq k n) refl
    where
      by : (t : Bool) → nat_eq k n ≡ t → place T c k ≡ Some (around (members c v F) k)
      by true e =
          let a : k ≡ n = eqb-true k n e in
          let b : entry_at F n ≡ Some v = rw a at g in
          let d : entry_at F n ≡ Some q = entry_new E n q missed in
          let f : q ≡ v = cc in
          rw (a, ← f) (placed_new c)
      by false e = placed_old c k v (sym (entry_push E n q k e) ∙ g)

  ends_are : (c : Chain) (v : ℕ × ℕ) → ends_at T c v ≡ cond (stands_with c v q) (Some (joined (ends_at S c q) n)) (ends_at S c v)
  ends_are All v = p.all
  ends_are Left v = p.lefts v.0
  ends_are Right v = p.rights v.1

  ends_now : (c : Chain) (v : ℕ × ℕ) → ends_at T c v ≡ ends_of (members c v F)
  ends_now c v = ends_are c v ∙ by (stands_with c v q) refl ∙ ap ends_of (sym (members_push c v q E n))
    where
      by : (t : Bool) → stands_with c v q ≡ t → cond t (Some (joined (ends_at S c q) n)) (ends_at S c v) ≡ ends_of (cond t (members c v E ++ n ∷ []) (members c v E))
      by true f =
          let a : ends_at S c q ≡ ends_of (members c v E) = h.ends c q ∙ ap ends_of (together c v q E f) in
          rw a (joined_ends (members c v E) n)
      by false f = h.ends c v

  pub linked : Keeps T (E ++ (p.key, (l, r)) ∷ [])
  linked = record {
    apart = distinct_push E n q h.apart missed;
    count = length-append E ((n, q) ∷ []) ∙ ap (λ (m : ℕ). m + 1) h.count ∙ sym p.count;
    pairs = pairs;
    found = found;
    kept = kept;
    places = places;
    ends = ends_now;
  }
