-- The nodes of the lefts of a right lead from one to the next.
use Rattle.link_table.proofs.Kept.{Sound}
use Rattle.link_table.proofs.Around.{first_of_ends}
use Rattle.link_table.proofs.Lists.{goes_on}
use Rattle.link_table.proofs.Members.{distinct_members, together}
use Rattle.link_table.proofs.Relation.{shown}
use Rattle.link_table.proofs.Sides.{listing, shown_in, sides_of}
use Rattle.link_table.specs.Nodes.{neighbors}
use Rattle.link_table.specs.Pairs.{first, lefts, next_after}
use Rattle.link_table.specs.Tables.{Entries, Keeps, State, around, entries, entry_at, first_key, left_at, members, pair_of, pairs, stands_with}
use Rattle.link_table.specs.declared.node.Chain.TheVariants.{Right}
use Rattle.link_table.specs.declared.node.Chain.{Chain}
use Rattle.link_table.specs.declared.node.Neighbors.{Neighbors}
use Rattle.link_table.specs.declared.node.Node.{Node}
use Rattle.std.proofs.Common.{ap, append_assoc, refl, subst, sym, ◌∙◌}
use Rattle.std.specs.List.{AllByRecursion, IsDistinct, last_or}
use Rattle.std.specs.Map.{keys_of}
use Rattle.std.specs.Option.{option_map}
use Rattle.std.specs.Prelude.{Bool, List, None, Option, Some, [], cond, false, map, nat_eq, true, ℕ, ◌++◌, ◌∷◌, ◌≡◌}

-- from a key on the nodes have these lefts
abbrev pub Leads : (ℕ → Option Node) → Option ℕ → List ℕ → Type 0
Leads nodes o [] = left_at nodes o ≡ None
Leads nodes o (x ∷ xs) = (next : Option ℕ) × (left_at nodes o ≡ Some (x, next)) × Leads nodes next xs

-- there is no further one
pub led : (nodes : ℕ → Option Node) (o : Option ℕ) (xs : List ℕ) → Leads nodes o xs → left_at nodes o ≡ None → xs ≡ []
led nodes o [] h e = refl
led nodes o (x ∷ xs) h e = let a : left_at nodes o ≡ Some (x, h.0) = h.1 in cc

-- there is one more
pub leads_on : (nodes : ℕ → Option Node) (o next : Option ℕ) (x : ℕ) (xs : List ℕ) → Leads nodes o xs → left_at nodes o ≡ Some (x, next) → (rest : List ℕ) × (xs ≡ x ∷ rest) × Leads nodes next rest
leads_on nodes o next x [] h e = let a : left_at nodes o ≡ None = h in absurd cc
leads_on nodes o next x (y ∷ ys) h e =
    let a : left_at nodes o ≡ Some (y, h.0) = h.1 in
    let both : (y, h.0) ≡ (x, next) = cc in
    let b : y ≡ x = ap (λ (p : ℕ × Option ℕ). p.0) both in
    let c : h.0 ≡ next = ap (λ (p : ℕ × Option ℕ). p.1) both in
    (ys, ap (λ (n : ℕ). n ∷ ys) b, subst (λ (p : Option ℕ). Leads nodes p ys) c h.2)

last_of : (ks : List ℕ) (k : ℕ) (o : Option ℕ) → last_or o (ks ++ k ∷ []) ≡ Some k
last_of [] k o = refl
last_of (j ∷ ks) k o = last_of ks k (Some j)

keys_append : (D : Entries) (e : ℕ × (ℕ × ℕ)) (es : Entries) → keys_of (D ++ e ∷ es) ≡ (keys_of D ++ e.0 ∷ []) ++ keys_of es
keys_append [] e es = refl
keys_append (d ∷ ds) e es = ap (λ (ks : List ℕ). d.0 ∷ ks) (keys_append ds e es)

-- those of a list stand in it
all_stand : (c : Chain) (p : ℕ × ℕ) (E : Entries) → AllByRecursion (λ e. stands_with c p e.1 ≡ true) (listing c p E)
all_stand c p [] = tt
all_stand c p (e ∷ es) = by (stands_with c p e.1) refl (all_stand c p es)
  where
    by : (t : Bool) → stands_with c p e.1 ≡ t → AllByRecursion (λ f. stands_with c p f.1 ≡ true) (listing c p es) → AllByRecursion (λ f. stands_with c p f.1 ≡ true) (cond t (e ∷ listing c p es) (listing c p es))
    by true g more = (g, more)
    by false g more = more

module _ (S : State) (E : Entries) (h : Keeps S E) (r : ℕ) where
  abbrev L : Entries
  L = listing Right (0, r) E

  apart : IsDistinct nat_eq (keys_of L)
  apart = distinct_members Right (0, r) E h.apart

  -- what a node of the list says
  step : (D : Entries) (e : ℕ × (ℕ × ℕ)) (es : Entries) → L ≡ D ++ e ∷ es → entry_at E e.0 ≡ Some e.1 → stands_with Right (0, r) e.1 ≡ true → left_at S.nodes (Some e.0) ≡ Some (e.1.0, first (keys_of es))
  step D e es parts at stands = by (S.nodes e.0) refl
    where
      behind : next_after (members Right e.1 E) e.0 ≡ first (keys_of es)
      behind =
          ap (λ (ks : List ℕ). next_after ks e.0) (together Right (0, r) e.1 E stands)
          ∙ goes_on (keys_of L) apart (Some e.0) (keys_of D ++ e.0 ∷ []) (keys_of es) (ap (λ (F : Entries). keys_of F) parts ∙ keys_append D e es) (sym (last_of (keys_of D) e.0 None))

      by : (o : Option Node) → S.nodes e.0 ≡ o → option_map {U = ℕ × Option ℕ} (λ (n : Node). (n.left, n.of_right.after)) o ≡ Some (e.1.0, first (keys_of es))
      by None f = let a : option_map pair_of (S.nodes e.0) ≡ Some e.1 = h.pairs e.0 ∙ at in let b : option_map pair_of None ≡ Some e.1 = rw f at a in absurd cc
      by (Some n) f =
          let a : option_map pair_of (S.nodes e.0) ≡ Some e.1 = h.pairs e.0 ∙ at in
          let b : option_map pair_of (Some n) ≡ Some e.1 = rw f at a in
          let c : option_map (neighbors Right) (S.nodes e.0) ≡ Some (around (members Right e.1 E) e.0) = h.places Right e.0 e.1 at in
          let d : option_map (neighbors Right) (Some n) ≡ Some (around (members Right e.1 E) e.0) = rw f at c in
          let i : pair_of n ≡ e.1 = cc in
          let j : neighbors Right n ≡ around (members Right e.1 E) e.0 = cc in
          let l : n.left ≡ e.1.0 = ap (λ (p : ℕ × ℕ). p.0) i in
          let m : n.of_right.after ≡ first (keys_of es) = ap (λ (a : Neighbors). a.after) j ∙ behind in
          rw (l, m) refl

  from : (D es : Entries) → L ≡ D ++ es → AllByRecursion (λ e. entry_at E e.0 ≡ Some e.1) es → AllByRecursion (λ e. stands_with Right (0, r) e.1 ≡ true) es → Leads S.nodes (first (keys_of es)) (map (λ e. e.1.0) es)
  from D [] parts ats stand = refl
  from D (e ∷ es) parts ats stand = (first (keys_of es), step D e es parts ats.0 stand.0, from (D ++ e ∷ []) es (parts ∙ sym (append_assoc D (e ∷ []) es)) ats.1 stand.1)

  all_lead : Leads S.nodes (first_key (S.rights r)) (map (λ e. e.1.0) L)
  all_lead =
      let a : first_key (S.rights r) ≡ first (keys_of L) = ap first_key (h.ends Right (0, r)) ∙ first_of_ends (keys_of L) in
      rw a (from [] L refl (shown_in (entry_at E) Right (0, r) E (shown (entry_at E) E h.apart (λ v k g. g))) (all_stand Right (0, r) E))

-- the nodes from the first left of a right on have all its lefts
pub lefts_lead : (S : State) (r : ℕ) → Sound S → Leads S.nodes (first_key (S.rights r)) (lefts (pairs S) r)
lefts_lead S r h = subst (Leads S.nodes (first_key (S.rights r))) (sym (sides_of (λ p. p.0) (λ p. nat_eq p.1 r) (entries S))) (all_lead S (entries S) h r)
