-- What was opened fits, and the code breaks no rule.
use Rattle.class_defs.proofs.RuleForms.{the_forms}
use Rattle.class_defs.specs.Accepted.{IsAccepted}
use Rattle.class_defs.specs.Applied.{applied}
use Rattle.class_defs.specs.Epochs.{classes_of, schema_at}
use Rattle.class_defs.specs.KeptOwnership.{AllKeepClasses}
use Rattle.class_defs.specs.Ownership.{IsAbove, IsPart, Names, Owns, type_at}
use Rattle.class_defs.specs.SchemaRules.{class_rules, item_rules, method_rules, schema_rules}
use Rattle.class_defs.specs.Steps.{fitted}
use Rattle.class_defs.specs.Stored.{Stored, bare}
use Rattle.class_defs.specs.UpgradeOrder.{inside_rules, outside_rules, own_fault}
use Rattle.class_defs.specs.UpgradeRules.{first_line, gives_int, reads_parts, upgrade_rules}
use Rattle.class_defs.specs.WellOwned.{IsOfItsClass, IsWellOwned}
use Rattle.class_defs.specs.declared.statements.Stmt.{Stmt}
use Rattle.class_defs.specs.declared.store.Root.{Root}
use Rattle.class_defs.specs.declared.store.Schema.{Schema}
use Rattle.class_defs.specs.declared.types.ExprType.TheVariants as type
use Rattle.class_defs.specs.declared.types.ExprType.{ExprType}
use Rattle.law_serializability.specs.Resting.{AreChecked, AreHere, IsOpening, OpeningFits}
use Rattle.law_serializability.specs.WholeHistory.{stored_map}
use Rattle.serial_model.specs.declared.entries.What.TheVariants.{Tx, Upgrade as UpgradeItem}
use Rattle.rows_serial.specs.Rows.{a, a_box, a_part, adding, an_owner, asking, base_of, first, items, o, opening, p, roots, run, schemas, second, upgrade}
use Rattle.std.proofs.Common.{Bool, List, [], ap, arith, cond, false, length, refl, subst, suc, sym, true, zero, ℕ, ◌<◌, ◌≡◌, ◌≤◌, ◌∙◌, ◌∷◌}
use Rattle.std.proofs.lemmas.Map.Views.{tells_apart}
use Rattle.std.proofs.lemmas.Option.{same_Some}
use Rattle.std.specs.BTreeMap.{is_at}
use Rattle.std.specs.List.Sorted.{IsStrictlySortedBy}
use Rattle.std.specs.List.{AllByRecursion}
use Rattle.std.specs.Map.{lookup}
use Rattle.std.specs.Option.{IsSomeAnd}
use Rattle.std.specs.Prelude.{Some, is_some, nat_eq, pos, slice_get}
use Rattle.law_lazy_history.proofs.Runs.{sorted-left}
use Rattle.law_lazy_history.specs.Standing.{MapFits}
use Rattle.thor_value.proofs.NameOrders.{oref_exact}
use Rattle.thor_value.specs.FiniteMap.{empty, get}
use Rattle.thor_value.specs.Names.{oref_cmp, same_oref}
use Rattle.thor_value.specs.declared.names.Oref.{Oref}
use Rattle.thor_value.specs.declared.values.Obj.{Obj}
use Rattle.thor_value.specs.declared.values.Value.TheVariants as value
use Rattle.thor_value.specs.declared.values.Value.{Value}
use Rattle.thor_value.specs.declared.values.Who.{Who}
use Rattle.law_upgrade_rules.proofs.KeptByRules.{all_keep}
use Rattle.rows_language.proofs.UpgradeForms.{upgrade_forms}

abbrev pub N : Stored
N = stored_map roots opening

-- what holds of each of the three objects
pub of-each : (P : Oref → Obj → Type 0) → P o an_owner → P p (a_part 0 7) → P a (a_box 5) → (x : Oref) (v : Obj) → get opening.objects x ≡ Some v → P x v
of-each P q1 q2 q3 x v h = in-all opening.objects.pairs (q1, (q2, (q3, tt))) h
  where
    in-all : (es : List (Oref × Obj)) → AllByRecursion (λ e. P e.0 e.1) es → lookup (is_at (oref_cmp x)) es ≡ Some v → P x v
    in-all [] all k = cc
    in-all (e ∷ es) all k = by (same_oref x e.0) refl k (in-all es all.1)
      where
        by : (b : Bool) → same_oref x e.0 ≡ b → cond b (Some e.1) (lookup (is_at (oref_cmp x)) es) ≡ Some v → (lookup (is_at (oref_cmp x)) es ≡ Some v → P x v) → P x v
        by true is g rest = subst (λ y. P y v) (sym (tells_apart oref_exact x e.0 is)) (subst (P e.0) (same_Some _ _ g) all.0)
        by false is g rest = rest g

-- ---- the one reference

abbrev IsReference : Oref → Obj → ℕ → Oref → Type 0
IsReference x v i z = (x ≡ o) × ((i ≡ 0) × ((z ≡ p) × (v ≡ an_owner)))

reference : (x : Oref) (v : Obj) → get opening.objects x ≡ Some v → (i : ℕ) (z : Oref) → slice_get v.fields i ≡ Some (value.Ref z) → IsReference x v i z
reference = of-each (λ x v. (i : ℕ) (z : Oref) → slice_get v.fields i ≡ Some (value.Ref z) → IsReference x v i z) owners parts boxes
  where
    named : {y z : Oref} → Some (value.Ref y) ≡ Some (value.Ref z) → z ≡ y
    named h = cc

    owners : (i : ℕ) (z : Oref) → slice_get an_owner.fields i ≡ Some (value.Ref z) → IsReference o an_owner i z
    owners zero z h = (refl, (refl, (named h, refl)))
    owners (suc i) z h = cc

    parts : (i : ℕ) (z : Oref) → slice_get (a_part 0 7).fields i ≡ Some (value.Ref z) → IsReference p (a_part 0 7) i z
    parts zero z h = cc
    parts (suc i) z h = cc

    boxes : (i : ℕ) (z : Oref) → slice_get (a_box 5).fields i ≡ Some (value.Ref z) → IsReference a (a_box 5) i z
    boxes zero z h = cc
    boxes (suc i) z h = cc

-- who names what
edge : (x : Oref) (i d : ℕ) (z : Oref) (n : Names schemas opening.objects x i d z) → (x ≡ o) × ((i ≡ 0) × ((z ≡ p) × (d ≡ 1)))
edge x i d z n =
    let k = reference x n.object n.stored i z n.refers.names in
    let at : type_at (classes_of schemas 0) 0 0 ≡ Some (type.Class d) = subst (λ j. type_at (classes_of schemas 0) 0 j ≡ Some (type.Class d)) k.1.0 (subst (λ (v : Obj). type_at (classes_of schemas v.ver) v.class i ≡ Some (type.Class d)) k.1.1.1 n.refers.declared) in
    (k.0, (k.1.0, (k.1.1.0, is at)))
  where
    is : Some (type.Class 1) ≡ Some (type.Class d) → d ≡ 1
    is h = cc

owner : (x : Oref) (i : ℕ) (z : Oref) → Owns schemas opening.objects x i z → (x ≡ o) × (z ≡ p)
owner x i z own = let k = edge x i own.class z own.reference in (k.0, k.1.1.0)

apart : p ≡ o → ⊥
apart h = let e : 1 ≡ 0 = ap (λ (w : Oref). w.slot) h in absurd (omega (arith, e))

-- nobody is two steps above
top : (n : ℕ) (x z : Oref) → IsAbove schemas opening.objects (suc n) x z → (x ≡ o) × ((n ≡ 0) × (z ≡ p))
top zero x z h = let k = owner x h.1.0 h.0 h.1.1.0 in (k.0, (refl, sym h.1.1.1 ∙ k.1))
top (suc n) x z h =
    let k = owner x h.1.0 h.0 h.1.1.0 in
    let m = top n h.0 z h.1.1.1 in
    absurd (apart (sym k.1 ∙ m.0))

well-owned : IsWellOwned schemas N
well-owned = record {
  versions = of-each (λ x v. v.ver ≤ 0) (omega arith) (omega arith) (omega arith);
  only = λ x v i z is h. let k = reference x v is i z h in (1, subst (λ (u : Obj). type_at (classes_of schemas u.ver) u.class i ≡ Some (type.Class 1)) (sym k.1.1.1) (subst (λ j. type_at (classes_of schemas 0) 0 j ≡ Some (type.Class 1)) (sym k.1.0) refl));
  declared = λ x i d z n. let k = edge x i d z n in subst (λ y. IsSomeAnd (get opening.objects y) (λ v. v.class ≡ d)) (sym k.1.1.0) (sym k.1.1.1);
  once = λ x y i j z m n. let k = edge x i m.class z m.reference in let l = edge y j n.class z n.reference in (k.0 ∙ sym l.0, k.1.0 ∙ sym l.1.0);
  near = λ x i z own. let k = owner x i z own in ap (λ (y : Oref). y.repo) k.0 ∙ sym (ap (λ (y : Oref). y.repo) k.1);
  roots = root_fits;
  ends = λ z. (2, λ x h. let k = top 1 x z h in let wrong : 1 ≡ 0 = k.1.0 in absurd (omega (arith, wrong)));
  levels = λ n x z v w above is it. let low : w.ver ≤ 0 = of-each (λ x v. v.ver ≤ 0) (omega arith) (omega arith) (omega arith) z w it in omega (arith, low);
}
  where
    root_fits : (i : ℕ) (r : Root) → slice_get roots i ≡ Some r → (¬ IsPart schemas r.class) × IsSomeAnd (get opening.objects r.oref) (λ v. v.class ≡ r.class)
    root_fits zero r h = subst (λ (k : Root). (¬ IsPart schemas k.class) × IsSomeAnd (get opening.objects k.oref) (λ v. v.class ≡ k.class)) (same_Some _ _ h) ((λ e. cc), refl)
    root_fits (suc zero) r h = subst (λ (k : Root). (¬ IsPart schemas k.class) × IsSomeAnd (get opening.objects k.oref) (λ v. v.class ≡ k.class)) (same_Some _ _ h) ((λ e. cc), refl)
    root_fits (suc (suc i)) r h = cc

-- ---- kinds

fits : (t u : ExprType) (v w : Value) → fitted t v ≡ v → Some t ≡ Some u → Some v ≡ Some w → fitted u w ≡ w
fits t u v w h e f = subst (λ k. fitted k w ≡ w) (same_Some _ _ e) (subst (λ x. fitted t x ≡ x) (same_Some _ _ f) h)

one-field : (c : ℕ) (t : ExprType) (v : Value) → is_some (slice_get (classes_of schemas 0) c) ≡ true → type_at (classes_of schemas 0) c 0 ≡ Some t → 1 ≡ length (Rattle.class_defs.specs.Types.fields_of (classes_of schemas 0) c) → fitted t v ≡ v
    → IsOfItsClass (classes_of schemas 0) (record { class = c; fields = v ∷ [] })
one-field c t v there at count fit = record { class = there; count = count; kinds = kinds }
  where
    kinds : (i : ℕ) (u : ExprType) (w : Value) → type_at (classes_of schemas 0) c i ≡ Some u → slice_get (v ∷ []) i ≡ Some w → fitted u w ≡ w
    kinds zero u w h g = fits t u v w fit (sym at ∙ h) g
    kinds (suc i) u w h g = cc

map-fits : MapFits schemas N
map-fits = record {
  owned = well-owned;
  kinds = of-each (λ x v. IsOfItsClass (classes_of schemas v.ver) (bare v)) (one-field 0 (type.Class 1) (value.Ref p) refl refl refl refl) (one-field 1 type.Int (value.Int (pos 7)) refl refl refl refl) (one-field 2 type.Int (value.Int (pos 5)) refl refl refl refl);
}

-- ---- what was opened

is-empty : IsStrictlySortedBy oref_cmp []
unfolding IsStrictlySortedBy
is-empty = tt

pub is-opening : IsOpening run opening
is-opening = record { objects = λ x l. joins x.repo x.page x.slot l; sorted = sorted-left {X = Obj} empty ((o, an_owner) ∷ (p, a_part 0 7) ∷ (a, a_box 5) ∷ []) is-empty; texts = λ r l. refl }
  where
    joins : (r page slot : ℕ) → r < 2 → get opening.objects (record { repo = r; page = page; slot = slot }) ≡ get (base_of r).objects (record { repo = r; page = page; slot = slot })
    joins zero page slot l = refl
    joins (suc zero) page slot l = refl
    joins (suc (suc n)) page slot l = absurd (omega (arith, l))

pub are-here : AreHere run opening
are-here = of-each (λ x v. x.repo < 2) (omega arith) (omega arith) (omega arith)

-- ---- the code

ruleset forms = (the_forms, upgrade_forms)

schema-accepted : schema_rules first 2 ≡ []
unfolding schema_rules class_rules method_rules
schema-accepted = simp the_forms refl

adding-accepted : item_rules first 2 adding ≡ []
unfolding item_rules
adding-accepted = simp the_forms refl

asking-accepted : item_rules first 2 asking ≡ []
unfolding item_rules
asking-accepted = simp the_forms refl

later-accepted : schema_rules second 2 ≡ []
unfolding schema_rules class_rules method_rules
later-accepted = simp the_forms refl

later-adding : item_rules second 2 adding ≡ []
unfolding item_rules
later-adding = simp the_forms refl

later-asking : item_rules second 2 asking ≡ []
unfolding item_rules
later-asking = simp the_forms refl

upgrade-accepted : (k : ℕ) → k < 1 → IsAccepted schemas 2 [] k
unfolding own_fault upgrade_rules first_line gives_int reads_parts inside_rules outside_rules applied class_rules item_rules method_rules
upgrade-accepted zero h = record { upgrade = upgrade; leads = refl; keeps = simp forms refl; behind = refl }
upgrade-accepted (suc k) h = absurd (omega (arith, h))

keeps : AllKeepClasses schemas 1
keeps = all_keep schemas 2 [] 1 schema-accepted upgrade-accepted

pub opening-fits : OpeningFits schemas roots opening
opening-fits = record { keeps = keeps; installed = omega arith; fits = map-fits }

tx-is : {t u : List Stmt} → Tx t ≡ Tx u → t ≡ u
tx-is h = cc

not-upgrade : {A : Type 0} {t : List Stmt} → UpgradeItem upgrade ≡ Tx t → A
not-upgrade h = cc

-- an item is one of two
of-items : (P : List Stmt → Type 0) → P adding → P asking → (who : Who) (tx : List Stmt) → items who ≡ Tx tx → P tx
of-items P k l who tx h = by (nat_eq who.index 1) (nat_eq who.index 2) h
  where
    by : (x y : Bool) → cond x (Tx adding) (cond y (UpgradeItem upgrade) (Tx asking)) ≡ Tx tx → P tx
    by true y g = subst P (tx-is g) k
    by false true g = not-upgrade g
    by false false g = subst P (tx-is g) l

-- a schema is one of two
of-schemas : (P : Schema → Type 0) → P first → P second → (k : ℕ) (c : Schema) → schema_at schemas k ≡ Some c → P c
of-schemas P x y zero c h = subst P (same_Some _ _ h) x
of-schemas P x y (suc zero) c h = subst P (same_Some _ _ h) y
of-schemas P x y (suc (suc n)) c h = cc

pub are-checked : AreChecked schemas items roots 2
are-checked = record {
  schemas_keep = of-schemas (λ c. schema_rules c 2 ≡ []) schema-accepted later-accepted;
  items_keep = λ who tx k c is at. of-schemas (λ c. item_rules c 2 tx ≡ [])
      (of-items (λ t. item_rules first 2 t ≡ []) adding-accepted asking-accepted who tx is)
      (of-items (λ t. item_rules second 2 t ≡ []) later-adding later-asking who tx is) k c at;
  roots_stand = of-schemas (λ c. Rattle.law_ownership.specs.Checked.RootsStand c roots) ((0, _, refl, refl, refl), ((1, _, refl, refl, refl), tt)) ((0, _, refl, refl, refl), ((1, _, refl, refl, refl), tt));
  few = omega arith;
}
