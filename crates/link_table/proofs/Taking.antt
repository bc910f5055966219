-- A table from which a node was taken keeps the others.
use Rattle.link_table.proofs.Around.{Misses, before_rest, behind_rest, first_of_ends, first_rest, flip, last_of_ends, last_rest, no_before, none_behind, without_none}
use Rattle.link_table.proofs.Linking.{one_pair, same_itself, stands_not_back}
use Rattle.link_table.proofs.Members.{distinct_members, distinct_rest, drop_key, elsewhere, entry_gone, entry_rest, length_rest, members_rest, stands_there, together}
use Rattle.link_table.specs.Nodes.{is_key, neighbors, taken_out, with_after, with_before}
use Rattle.link_table.specs.Pairs.{next_after, first}
use Rattle.link_table.specs.Tables.{Entries, Keeps, State, Takes, around, before_from, ends_at, ends_of, entry_at, if_there, left_over, members, pair_of, place, same_pair, stands_with, with_gap, without}
use Rattle.link_table.specs.declared.node.Chain.TheVariants.{All, Left, Right}
use Rattle.link_table.specs.declared.node.Chain.{Chain}
use Rattle.link_table.specs.declared.node.Neighbors.{Neighbors}
use Rattle.link_table.specs.declared.node.Node.{Node}
use Rattle.std.proofs.Common.{ap, arith, refl, sym, ◌∙◌}
use Rattle.std.proofs.lemmas.Bool.{eq-eqb, eqb-true}
use Rattle.std.specs.List.{last_or}
use Rattle.std.specs.Option.{option_map}
use Rattle.std.specs.Prelude.{Bool, List, None, Option, Some, cond, false, length, nat_eq, true, ℕ, ◌+◌, ◌≡◌}

-- ---- what one change leaves

abbrev pub with_next : Option ℕ → Neighbors → Neighbors
with_next x m = record m { after = x }

abbrev pub with_last : Option ℕ → Neighbors → Neighbors
with_last x m = record m { before = x }

-- the place of the key k, where one is taken out of the list
abbrev pub place_mended : Neighbors → ℕ → Option Neighbors → Option Neighbors
place_mended gone k a =
    let once = cond (is_key gone.before k) (option_map (with_next gone.after) a) a in
    cond (is_key gone.after k) (option_map (with_last gone.before) once) once

after_here : (c : Chain) (x : Option ℕ) (m : Node) → neighbors c (with_after c x m) ≡ with_next x (neighbors c m)
after_here All x m = refl
after_here Left x m = refl
after_here Right x m = refl

before_here : (c : Chain) (x : Option ℕ) (m : Node) → neighbors c (with_before c x m) ≡ with_last x (neighbors c m)
before_here All x m = refl
before_here Left x m = refl
before_here Right x m = refl

same : (c : Chain) (gone : Neighbors) (k : ℕ) (o : Option Node) → option_map (neighbors c) (taken_out c gone k o) ≡ place_mended gone k (option_map (neighbors c) o)
same c gone k o = by (is_key gone.before k) (is_key gone.after k) o
  where
    by : (s t : Bool) (o : Option Node)
        → option_map (neighbors c) (cond t (option_map (with_before c gone.before) (cond s (option_map (with_after c gone.after) o) o)) (cond s (option_map (with_after c gone.after) o) o))
        ≡ cond t (option_map (with_last gone.before) (cond s (option_map (with_next gone.after) (option_map (neighbors c) o)) (option_map (neighbors c) o))) (cond s (option_map (with_next gone.after) (option_map (neighbors c) o)) (option_map (neighbors c) o))
    by false false o = refl
    by true false None = refl
    by false true None = refl
    by true true None = refl
    by true false (Some m) = ap Some (after_here c gone.after m)
    by false true (Some m) = ap Some (before_here c gone.before m)
    by true true (Some m) = ap Some (before_here c gone.before (with_after c gone.after m) ∙ ap (with_last gone.before) (after_here c gone.after m))

-- one list isn't changed by another
pub record Apart (c d : Chain) : Type 0 where
  pub after : (x : Option ℕ) (m : Node) → neighbors c (with_after d x m) ≡ neighbors c m
  pub before : (x : Option ℕ) (m : Node) → neighbors c (with_before d x m) ≡ neighbors c m

other : (c d : Chain) → Apart c d → (gone : Neighbors) (k : ℕ) (o : Option Node) → option_map (neighbors c) (taken_out d gone k o) ≡ option_map (neighbors c) o
other c d h gone k o = by (is_key gone.before k) (is_key gone.after k) o
  where
    by : (s t : Bool) (o : Option Node)
        → option_map (neighbors c) (cond t (option_map (with_before d gone.before) (cond s (option_map (with_after d gone.after) o) o)) (cond s (option_map (with_after d gone.after) o) o))
        ≡ option_map (neighbors c) o
    by false false o = refl
    by true false None = refl
    by false true None = refl
    by true true None = refl
    by true false (Some m) = ap Some (h.after gone.after m)
    by false true (Some m) = ap Some (h.before gone.before m)
    by true true (Some m) = ap Some (h.before gone.before (with_after d gone.after m) ∙ h.after gone.after m)

pair_after : (d : Chain) (x : Option ℕ) (m : Node) → pair_of (with_after d x m) ≡ pair_of m
pair_after All x m = refl
pair_after Left x m = refl
pair_after Right x m = refl

pair_before : (d : Chain) (x : Option ℕ) (m : Node) → pair_of (with_before d x m) ≡ pair_of m
pair_before All x m = refl
pair_before Left x m = refl
pair_before Right x m = refl

pair_stays : (d : Chain) (gone : Neighbors) (k : ℕ) (o : Option Node) → option_map pair_of (taken_out d gone k o) ≡ option_map pair_of o
pair_stays d gone k o = by (is_key gone.before k) (is_key gone.after k) o
  where
    by : (s t : Bool) (o : Option Node)
        → option_map pair_of (cond t (option_map (with_before d gone.before) (cond s (option_map (with_after d gone.after) o) o)) (cond s (option_map (with_after d gone.after) o) o))
        ≡ option_map pair_of o
    by false false o = refl
    by true false None = refl
    by false true None = refl
    by true true None = refl
    by true false (Some m) = ap Some (pair_after d gone.after m)
    by false true (Some m) = ap Some (pair_before d gone.before m)
    by true true (Some m) = ap Some (pair_before d gone.before (with_after d gone.after m) ∙ pair_after d gone.after m)

-- the ends of a list without a key
ends_rest : (ks : List ℕ) (a : Neighbors) (n : ℕ) → a ≡ around ks n → first (without ks n) ≡ if_there (before_from None ks n) (first ks) (next_after ks n) → last_or None (without ks n) ≡ if_there (next_after ks n) (last_or None ks) (before_from None ks n) → left_over (ends_of ks) a ≡ ends_of (without ks n)
ends_rest ks a n is f l = rw (is, f, l, first_of_ends ks, last_of_ends ks) refl

-- ---- the whole

module _ (S T : State) (n : ℕ) (node : Node) (E : Entries) (h : Keeps S E) (there : S.nodes n ≡ Some node) (p : Takes S T n node) where
  abbrev q : ℕ × ℕ
  q = pair_of node

  abbrev F : Entries
  F = drop_key E n

  abbrev raw : ℕ → Option Node
  raw k = cond (nat_eq n k) None (S.nodes k)

  entry : entry_at E n ≡ Some q
  entry = sym (h.pairs n) ∙ ap (option_map pair_of) there

  own : nat_eq n n ≡ true
  own = eq-eqb n n refl

  gone_at : (c : Chain) → neighbors c node ≡ around (members c q E) n
  gone_at c =
      let a : option_map (neighbors c) (S.nodes n) ≡ Some (around (members c q E) n) = h.places c n q entry in
      let b : option_map (neighbors c) (Some node) ≡ Some (around (members c q E) n) = rw there at a in
      cc

  -- the key of an entry that stays isn't that one
  apart_from : (k : ℕ) (v : ℕ × ℕ) → entry_at F k ≡ Some v → nat_eq k n ≡ false
  apart_from k v g = by (nat_eq k n) refl
    where
      by : (t : Bool) → nat_eq k n ≡ t → t ≡ false
      by false e = refl
      by true e = let a : k ≡ n = eqb-true k n e in let b : entry_at F n ≡ Some v = rw a at g in let c : entry_at F n ≡ None = entry_gone E n in cc

  stayed : (k : ℕ) (v : ℕ × ℕ) → entry_at F k ≡ Some v → entry_at E k ≡ Some v
  stayed k v g = sym (entry_rest E n k (apart_from k v g)) ∙ g

  pairs : (k : ℕ) → option_map pair_of (T.nodes k) ≡ entry_at F k
  pairs k =
      let all : Option Node = taken_out All node.of_all k (raw k) in
      let left : Option Node = taken_out Left node.of_left k all in
      ap (option_map pair_of) (p.nodes k)
      ∙ pair_stays Right node.of_right k left
      ∙ pair_stays Left node.of_left k all
      ∙ pair_stays All node.of_all k (raw k)
      ∙ by (nat_eq n k) refl
    where
      by : (t : Bool) → nat_eq n k ≡ t → option_map pair_of (cond t None (S.nodes k)) ≡ entry_at F k
      by true e = let a : n ≡ k = eqb-true n k e in rw (← a) (sym (entry_gone E n))
      by false e = h.pairs k ∙ sym (entry_rest E n k (flip n k e))

  found : (v : ℕ × ℕ) (k : ℕ) → T.keys v ≡ Some k → entry_at F k ≡ Some v
  found v k g = by (same_pair q v) refl (sym (p.keys v) ∙ g)
    where
      old : same_pair q v ≡ false → entry_at E k ≡ Some v → (t : Bool) → nat_eq k n ≡ t → entry_at F k ≡ Some v
      old f a true e =
          let b : k ≡ n = eqb-true k n e in
          let c : entry_at E n ≡ Some v = rw b at a in
          let d : entry_at E n ≡ Some q = entry in
          let i : q ≡ v = cc in
          let j : same_pair q v ≡ true = rw (← i) (same_itself q) in
          cc
      old f a false e = entry_rest E n k e ∙ a

      by : (t : Bool) → same_pair q v ≡ t → cond t None (S.keys v) ≡ Some k → entry_at F k ≡ Some v
      by true e f = cc
      by false e f = old e (h.found v k f) (nat_eq k n) refl

  kept : (v : ℕ × ℕ) (k : ℕ) → entry_at F k ≡ Some v → T.keys v ≡ Some k
  kept v k g = p.keys v ∙ by (same_pair q v) refl
    where
      by : (t : Bool) → same_pair q v ≡ t → cond t None (S.keys v) ≡ Some k
      by true e =
          let a : q ≡ v = one_pair q v e in
          let b : S.keys v ≡ Some k = h.kept v k (stayed k v g) in
          let c : S.keys q ≡ Some n = h.kept q n entry in
          let d : S.keys q ≡ Some k = rw (← a) at b in
          let i : n ≡ k = cc in
          let j : nat_eq k n ≡ false = apart_from k v g in
          let l : nat_eq n n ≡ false = rw (← i) at j in
          let m : nat_eq n n ≡ true = own in
          cc
      by false e = h.kept v k (stayed k v g)

  place_at : (c : Chain) (k : ℕ) → place T c k ≡ place_mended (neighbors c node) k (option_map (neighbors c) (raw k))
  place_at c k = ap (option_map (neighbors c)) (p.nodes k) ∙ by c
    where
      by : (c : Chain) → option_map (neighbors c) (with_gap S n node k) ≡ place_mended (neighbors c node) k (option_map (neighbors c) (raw k))
      by All =
          other All Right (record { after = λ _ _. refl; before = λ _ _. refl }) node.of_right k (taken_out Left node.of_left k (taken_out All node.of_all k (raw k)))
          ∙ other All Left (record { after = λ _ _. refl; before = λ _ _. refl }) node.of_left k (taken_out All node.of_all k (raw k))
          ∙ same All node.of_all k (raw k)
      by Left =
          other Left Right (record { after = λ _ _. refl; before = λ _ _. refl }) node.of_right k (taken_out Left node.of_left k (taken_out All node.of_all k (raw k)))
          ∙ same Left node.of_left k (taken_out All node.of_all k (raw k))
          ∙ ap (place_mended node.of_left k) (other Left All (record { after = λ _ _. refl; before = λ _ _. refl }) node.of_all k (raw k))
      by Right =
          same Right node.of_right k (taken_out Left node.of_left k (taken_out All node.of_all k (raw k)))
          ∙ ap (place_mended node.of_right k)
          (other Right Left (record { after = λ _ _. refl; before = λ _ _. refl }) node.of_left k (taken_out All node.of_all k (raw k))
          ∙ other Right All (record { after = λ _ _. refl; before = λ _ _. refl }) node.of_all k (raw k))

  -- the list of a node that stays
  mended : (c : Chain) (k : ℕ) (v : ℕ × ℕ) → entry_at E k ≡ Some v → nat_eq k n ≡ false → (t : Bool) → stands_with c v q ≡ t
      → place_mended (around (members c q E) n) k (Some (around (members c v E) k)) ≡ Some (around (without (members c v E) n) k)
  mended c k v g f true e =
      let a : members c q E ≡ members c v E = together c v q E e in
      let d = distinct_members c v E h.apart in
      let i : before_from None (without (members c v E) n) k ≡ cond (is_key (next_after (members c v E) n) k) (before_from None (members c v E) n) (before_from None (members c v E) k) = before_rest (members c v E) n k d (flip k n f) in
      let j : next_after (without (members c v E) n) k ≡ cond (is_key (before_from None (members c v E) n) k) (next_after (members c v E) n) (next_after (members c v E) k) = behind_rest (members c v E) n k d (flip k n f) in
      rw (a, i, j) (each (is_key (before_from None (members c v E) n) k) (is_key (next_after (members c v E) n) k))
    where
      each : (s t : Bool) → cond t (option_map (with_last (before_from None (members c v E) n)) (cond s (option_map (with_next (next_after (members c v E) n)) (Some (around (members c v E) k))) (Some (around (members c v E) k)))) (cond s (option_map (with_next (next_after (members c v E) n)) (Some (around (members c v E) k))) (Some (around (members c v E) k)))
          ≡ Some (record { before = cond t (before_from None (members c v E) n) (before_from None (members c v E) k); after = cond s (next_after (members c v E) n) (next_after (members c v E) k) })
      each true true = refl
      each true false = refl
      each false true = refl
      each false false = refl
  mended c k v g f false e =
      let m : Misses k (members c q E) = elsewhere c q v E k h.apart g (stands_not_back c v q e) in
      let a : is_key (before_from None (members c q E) n) k ≡ false = no_before k n (members c q E) m in
      let b : is_key (next_after (members c q E) n) k ≡ false = none_behind k n (members c q E) m in
      let i : without (members c v E) n ≡ members c v E = without_none (members c v E) n (elsewhere c v q E n h.apart entry e) in
      rw (a, b, i) refl

  places : (c : Chain) (k : ℕ) (v : ℕ × ℕ) → entry_at F k ≡ Some v → place T c k ≡ Some (around (members c v F) k)
  places c k v g =
      let e : entry_at E k ≡ Some v = stayed k v g in
      let f : nat_eq k n ≡ false = apart_from k v g in
      let i : nat_eq n k ≡ false = flip k n f in
      let was : place S c k ≡ Some (around (members c v E) k) = h.places c k v e in
      let at : place T c k ≡ place_mended (around (members c q E) n) k (Some (around (members c v E) k)) = place_at c k ∙ rw (i, was, gone_at c) refl in
      at ∙ mended c k v e f (stands_with c v q) refl ∙ ap (λ (ks : List ℕ). Some (around ks k)) (sym (members_rest c v E n))

  ends_are : (c : Chain) (v : ℕ × ℕ) → ends_at T c v ≡ cond (stands_with c v q) (left_over (ends_at S c q) (neighbors c node)) (ends_at S c v)
  ends_are All v = p.all
  ends_are Left v = p.lefts v.0
  ends_are Right v = p.rights v.1

  ends_now : (c : Chain) (v : ℕ × ℕ) → ends_at T c v ≡ ends_of (members c v F)
  ends_now c v = ends_are c v ∙ by (stands_with c v q) refl ∙ ap ends_of (sym (members_rest c v E n))
    where
      by : (t : Bool) → stands_with c v q ≡ t → cond t (left_over (ends_at S c q) (neighbors c node)) (ends_at S c v) ≡ ends_of (without (members c v E) n)
      by true f =
          let a : members c q E ≡ members c v E = together c v q E f in
          let b : ends_at S c q ≡ ends_of (members c v E) = h.ends c q ∙ ap ends_of a in
          let i : neighbors c node ≡ around (members c v E) n = gone_at c ∙ ap (λ (ks : List ℕ). around ks n) a in
          let d = distinct_members c v E h.apart in
          let s = stands_there c v q E n entry f in
          rw b (ends_rest (members c v E) (neighbors c node) n i (first_rest (members c v E) n d s) (last_rest (members c v E) n d s))
      by false f = h.ends c v ∙ ap ends_of (sym (without_none (members c v E) n (elsewhere c v q E n h.apart entry f)))

  pub taken : Keeps T (drop_key E n)
  taken = record {
    apart = distinct_rest E n h.apart;
    count = let a : length (drop_key E n) + 1 ≡ length E = length_rest E n q h.apart entry in omega (arith, a, p.count, h.count);
    pairs = pairs;
    found = found;
    kept = kept;
    places = places;
    ends = ends_now;
  }
