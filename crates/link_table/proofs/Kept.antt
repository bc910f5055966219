-- What a table that keeps its entries says of its pairs.
use Rattle.link_table.proofs.Linking.{linked}
use Rattle.link_table.proofs.Relation.{linked_at, listed, not_linked, nothing_unlinked, unlinked}
use Rattle.link_table.proofs.Sides.{distinct_walk, lefts_tell, rights_tell, sides_of, walk_behind, walk_first}
use Rattle.link_table.proofs.Taking.{taken}
use Rattle.link_table.proofs.Walks.{spelled}
use Rattle.link_table.specs.Pairs.{is_linked, lefts, next, rights, unlink}
use Rattle.link_table.specs.Tables.{Entries, Keeps, Puts, Same, State, Takes, ends_at, entries, entry_at, left_after, pair_at, pair_of, pairs, right_after}
use Rattle.link_table.specs.declared.node.Chain.TheVariants.{All, Left, Right}
use Rattle.link_table.specs.declared.node.Chain.{Chain}
use Rattle.link_table.specs.declared.node.Node.{Node}
use Rattle.std.proofs.Common.{ap, refl, subst, sym, ◌∙◌}
use Rattle.std.proofs.lemmas.List.{map-append}
use Rattle.std.specs.List.{IsDistinct}
use Rattle.std.specs.Map.{values_of}
use Rattle.std.specs.Option.{is_some, option_map}
use Rattle.std.specs.Prelude.{List, None, Option, Some, [], false, nat_eq, ℕ, ◌++◌, ◌∷◌, ◌≡◌}

-- a table that keeps what it spells
abbrev pub Sound : State → Type 0
Sound S = Keeps S (entries S)

-- a table that keeps E spells it
pub sound : (S : State) (E : Entries) → Keeps S E → Sound S
sound S E h = subst (Keeps S) (sym (spelled S E h)) h

pub pairs_are : (S : State) (E : Entries) → Keeps S E → pairs S ≡ values_of E
pairs_are S E h = ap values_of (spelled S E h)

-- ---- the same content

ends_same : (S T : State) → Same S T → (c : Chain) (p : ℕ × ℕ) → ends_at T c p ≡ ends_at S c p
ends_same S T s All p = s.all
ends_same S T s Left p = s.lefts p.0
ends_same S T s Right p = s.rights p.1

pub keeps_too : (S T : State) (E : Entries) → Same S T → Keeps S E → Keeps T E
keeps_too S T E s h = record {
  apart = h.apart;
  count = h.count ∙ sym s.count;
  pairs = λ k. ap (option_map pair_of) (s.nodes k) ∙ h.pairs k;
  found = λ p k g. h.found p k (sym (s.keys p) ∙ g);
  kept = λ p k g. s.keys p ∙ h.kept p k g;
  places = λ c k p g. ap (option_map (Rattle.link_table.specs.Nodes.neighbors c)) (s.nodes k) ∙ h.places c k p g;
  ends = λ c p. ends_same S T s c p ∙ h.ends c p;
}

pub sound_too : (S T : State) → Same S T → Sound S → Sound T
sound_too S T s h = sound T (entries S) (keeps_too S T (entries S) s h)

pub same_pairs : (S T : State) → Same S T → Sound S → pairs T ≡ pairs S
same_pairs S T s h = pairs_are T (entries S) (keeps_too S T (entries S) s h)

-- ---- whether two are linked

pub knows : (S : State) (l r : ℕ) → Sound S → is_some (S.keys (l, r)) ≡ is_linked (pairs S) l r
knows S l r h = by (S.keys (l, r)) refl
  where
    by : (o : Option ℕ) → S.keys (l, r) ≡ o → is_some o ≡ is_linked (pairs S) l r
    by None f = sym (not_linked S.keys l r (entries S) (listed S.keys (entries S) h.apart h.kept) f)
    by (Some k) f = sym (linked_at l r k (entries S) (h.found (l, r) k f))

pub not_there : (S : State) (l r : ℕ) → Sound S → is_linked (pairs S) l r ≡ false → S.keys (l, r) ≡ None
not_there S l r h e = by (S.keys (l, r)) refl
  where
    by : (o : Option ℕ) → S.keys (l, r) ≡ o → o ≡ None
    by None f = refl
    by (Some k) f = let a : is_some (S.keys (l, r)) ≡ is_linked (pairs S) l r = knows S l r h in let b : is_some (Some k) ≡ is_linked (pairs S) l r = rw f at a in cc

-- ---- a new pair

pub sound_with : (S T : State) (l r : ℕ) → Sound S → Puts S T l r → S.keys (l, r) ≡ None → Sound T
sound_with S T l r h p new = sound T _ (linked S T l r (entries S) h p new)

pub pairs_with : (S T : State) (l r : ℕ) → Sound S → Puts S T l r → S.keys (l, r) ≡ None → pairs T ≡ pairs S ++ (l, r) ∷ []
pairs_with S T l r h p new = pairs_are T _ (linked S T l r (entries S) h p new) ∙ map-append (λ (e : ℕ × (ℕ × ℕ)). e.1) (entries S) ((p.key, (l, r)) ∷ [])

-- ---- a pair less

pub is_there : (S : State) (l r k : ℕ) → Sound S → S.keys (l, r) ≡ Some k → (n : Node) × (S.nodes k ≡ Some n)
is_there S l r k h f = by (S.nodes k) refl
  where
    by : (o : Option Node) → S.nodes k ≡ o → (n : Node) × (S.nodes k ≡ Some n)
    by None g = let a : option_map pair_of (S.nodes k) ≡ Some (l, r) = h.pairs k ∙ h.found (l, r) k f in let b : option_map pair_of None ≡ Some (l, r) = rw g at a in absurd cc
    by (Some n) g = (n, g)

pub sound_without : (S T : State) (k : ℕ) (n : Node) → Sound S → S.nodes k ≡ Some n → Takes S T k n → Sound T
sound_without S T k n h g p = sound T _ (taken S T k n (entries S) h g p)

pub pairs_without : (S T : State) (l r k : ℕ) (n : Node) → Sound S → S.keys (l, r) ≡ Some k → S.nodes k ≡ Some n → Takes S T k n → pairs T ≡ unlink (pairs S) l r
pairs_without S T l r k n h f g p =
    pairs_are T _ (taken S T k n (entries S) h g p)
    ∙ unlinked S.keys l r k (entries S) (listed S.keys (entries S) h.apart h.kept) f (λ v e. only v (h.found v k e))
  where
    only : (v : ℕ × ℕ) → entry_at (entries S) k ≡ Some v → v ≡ (l, r)
    only v e = let a : entry_at (entries S) k ≡ Some (l, r) = h.found (l, r) k f in cc

pub pairs_stay : (S : State) (l r : ℕ) → Sound S → S.keys (l, r) ≡ None → pairs S ≡ unlink (pairs S) l r
pairs_stay S l r h f = sym (nothing_unlinked l r (pairs S) (not_linked S.keys l r (entries S) (listed S.keys (entries S) h.apart h.kept) f))

-- ---- the walks

pub next_right_is : (S : State) (l : ℕ) (o : Option ℕ) → Sound S → option_map (λ p. p.1) (pair_at S (right_after S l o)) ≡ next (rights (pairs S) l) o
next_right_is S l None h = sym (ap (λ (xs : List ℕ). next xs None) (sides_of (λ p. p.1) (λ p. nat_eq p.0 l) (entries S)) ∙ walk_first S (entries S) h (λ p. p.1) Left rights_tell (l, 0))
next_right_is S l (Some r) h = sym (ap (λ (xs : List ℕ). next xs (Some r)) (sides_of (λ p. p.1) (λ p. nat_eq p.0 l) (entries S)) ∙ walk_behind S (entries S) h (λ p. p.1) Left rights_tell (l, r))

pub next_left_is : (S : State) (r : ℕ) (o : Option ℕ) → Sound S → option_map (λ p. p.0) (pair_at S (left_after S r o)) ≡ next (lefts (pairs S) r) o
next_left_is S r None h = sym (ap (λ (xs : List ℕ). next xs None) (sides_of (λ p. p.0) (λ p. nat_eq p.1 r) (entries S)) ∙ walk_first S (entries S) h (λ p. p.0) Right lefts_tell (0, r))
next_left_is S r (Some l) h = sym (ap (λ (xs : List ℕ). next xs (Some l)) (sides_of (λ p. p.0) (λ p. nat_eq p.1 r) (entries S)) ∙ walk_behind S (entries S) h (λ p. p.0) Right lefts_tell (l, r))

pub distinct_rights : (S : State) (l : ℕ) → Sound S → IsDistinct nat_eq (rights (pairs S) l)
distinct_rights S l h = subst (IsDistinct nat_eq) (sym (sides_of (λ p. p.1) (λ p. nat_eq p.0 l) (entries S))) (distinct_walk S (entries S) h (λ p. p.1) Left rights_tell (l, 0))

pub distinct_lefts : (S : State) (r : ℕ) → Sound S → IsDistinct nat_eq (lefts (pairs S) r)
distinct_lefts S r h = subst (IsDistinct nat_eq) (sym (sides_of (λ p. p.0) (λ p. nat_eq p.1 r) (entries S))) (distinct_walk S (entries S) h (λ p. p.0) Right lefts_tell (0, r))

pub none_if : (o : Option ℕ) → is_some o ≡ false → o ≡ None
none_if None h = refl
none_if (Some k) h = cc
