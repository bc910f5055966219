-- The nodes of a table spell its entries, in the order of linking.
use Rattle.link_table.proofs.Around.{Misses, first_of_ends, flip}
use Rattle.link_table.proofs.Members.{all_from}
use Rattle.link_table.specs.Pairs.{next_after, first}
use Rattle.link_table.specs.Tables.{Entries, Keeps, State, around, ends_of, entries, entry_at, first_key, members, pair_of, walk}
use Rattle.link_table.specs.declared.node.Chain.TheVariants.{All}
use Rattle.link_table.specs.declared.node.Neighbors.{Neighbors}
use Rattle.link_table.specs.declared.node.Node.{Node}
use Rattle.std.proofs.Common.{ap, refl, sym, ◌∙◌}
use Rattle.std.proofs.lemmas.Bool.{eq-eqb, eqb-true}
use Rattle.std.specs.List.{IsDistinct}
use Rattle.std.specs.Map.{keys_of}
use Rattle.std.specs.Option.{option_map}
use Rattle.std.specs.Prelude.{Bool, List, None, Option, Some, [], cond, false, length, nat_eq, true, ℕ, ◌∷◌, ◌≡◌}

-- the node of an entry, which names the next one
pub record Spells (nodes : ℕ → Option Node) (k : ℕ) (p : ℕ × ℕ) (next : Option ℕ) : Type 0 where
  pub node : Node
  pub is : nodes k ≡ Some node
  pub pair : pair_of node ≡ p
  pub after : node.of_all.after ≡ next

pub no_entry : (E : Entries) (k : ℕ) → Misses k (keys_of E) → entry_at E k ≡ None
no_entry [] k h = refl
no_entry (e ∷ es) k h = by (nat_eq k e.0) refl (no_entry es k h.1)
  where
    by : (t : Bool) → nat_eq k e.0 ≡ t → entry_at es k ≡ None → cond t (Some e.1) (entry_at es k) ≡ None
    by true g more = let a : nat_eq e.0 k ≡ true = eq-eqb e.0 k (sym (eqb-true k e.0 g)) in let b : nat_eq e.0 k ≡ false = h.0 in cc
    by false g more = more

spelled_from : (nodes : ℕ → Option Node) (E : Entries) → IsDistinct nat_eq (keys_of E) → ((k : ℕ) (p : ℕ × ℕ) → entry_at E k ≡ Some p → Spells nodes k p (next_after (keys_of E) k)) → walk nodes (length E) (first (keys_of E)) ≡ E
unfolding IsDistinct
spelled_from nodes [] d h = refl
spelled_from nodes (e ∷ es) d h =
    let own : nat_eq e.0 e.0 ≡ true = eq-eqb e.0 e.0 refl in
    let s : Spells nodes e.0 e.1 (next_after (keys_of (e ∷ es)) e.0) = h e.0 e.1 (rw own refl) in
    let next : s.node.of_all.after ≡ first (keys_of es) = s.after ∙ ap (λ (t : Bool). cond t (first (keys_of es)) (next_after (keys_of es) e.0)) own in
    let rest : walk nodes (length es) (first (keys_of es)) ≡ es = spelled_from nodes es d.1 (λ k p g. by k p g (nat_eq k e.0) refl (h k p)) in
    rw (s.is, s.pair, next) (ap (λ (fs : Entries). e ∷ fs) rest)
  where
    by : (k : ℕ) (p : ℕ × ℕ) → entry_at es k ≡ Some p → (t : Bool) → nat_eq k e.0 ≡ t → (entry_at (e ∷ es) k ≡ Some p → Spells nodes k p (next_after (keys_of (e ∷ es)) k)) → Spells nodes k p (next_after (keys_of es) k)
    by k p g true f more = let n : entry_at es k ≡ None = no_entry es k (all_from e.0 k (keys_of es) f d.0) in cc
    by k p g false f more =
        let s = more (rw f g) in
        let a : nat_eq e.0 k ≡ false = flip k e.0 f in
        record { node = s.node; is = s.is; pair = s.pair; after = s.after ∙ ap (λ (t : Bool). cond t (first (keys_of es)) (next_after (keys_of es) k)) a }

pub all_members : (p : ℕ × ℕ) (E : Entries) → members All p E ≡ keys_of E
all_members p [] = refl
all_members p (e ∷ es) = ap (λ (ks : List ℕ). e.0 ∷ ks) (all_members p es)

-- the entries that a table keeps are those that it spells
pub spelled : (S : State) (E : Entries) → Keeps S E → entries S ≡ E
spelled S E h =
    let no : ℕ × ℕ = (0, 0) in
    let all : S.all ≡ ends_of (keys_of E) = h.ends All no ∙ ap ends_of (all_members no E) in
    let at : first_key S.all ≡ first (keys_of E) = ap first_key all ∙ first_of_ends (keys_of E) in
    rw (at, ← h.count) (spelled_from S.nodes E h.apart (λ k p g. by k p g (S.nodes k) refl))
  where
    by : (k : ℕ) (p : ℕ × ℕ) → entry_at E k ≡ Some p → (o : Option Node) → S.nodes k ≡ o → Spells S.nodes k p (next_after (keys_of E) k)
    by k p g None f = let a : option_map pair_of (S.nodes k) ≡ Some p = h.pairs k ∙ g in let b : option_map pair_of None ≡ Some p = rw f at a in cc
    by k p g (Some n) f =
        let a : option_map pair_of (S.nodes k) ≡ Some p = h.pairs k ∙ g in
        let b : option_map pair_of (Some n) ≡ Some p = rw f at a in
        let c : option_map (λ (m : Node). m.of_all) (S.nodes k) ≡ Some (around (members All p E) k) = h.places All k p g in
        let d : option_map (λ (m : Node). m.of_all) (Some n) ≡ Some (around (members All p E) k) = rw f at c in
        let e : n.of_all ≡ around (members All p E) k = cc in
        let i : pair_of n ≡ p = cc in
        record { node = n; is = f; pair = i; after = ap (λ (m : Neighbors). m.after) e ∙ ap (λ (ks : List ℕ). next_after ks k) (all_members p E) }
