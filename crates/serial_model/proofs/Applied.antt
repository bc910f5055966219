-- What the application of one entry to the store of a view tells of the entry.
use Rattle.std.proofs.Common.{◌≡◌, ◌↔◌, ◌≤◌, ℕ, zero, suc, Bool, true, false, List, [], ◌∷◌, slice_get, Option, Some, None, option_and_then, option_map, unwrap_or, IsSomeAnd, IsTrue, refl, ap, sym, subst, ◌∙◌}
use Rattle.std.specs.List.{AllByRecursion}
use Rattle.thor_value.specs.declared.names.Oref.{Oref}
use Rattle.thor_value.specs.declared.values.Answer.{Answer}
use Rattle.thor_value.specs.declared.values.Obj.{Obj}
use Rattle.class_defs.specs.Applied.{number_of}
use Rattle.class_defs.specs.Epochs.{no_schema, schema_at, schema_of, upgrade_to}
use Rattle.class_defs.specs.Run.{Ran, run}
use Rattle.class_defs.specs.UpgradeLinesAside.{upgrade_on_line_1}
use Rattle.class_defs.specs.Upgrades.{up}
use Rattle.class_defs.specs.declared.classes.Class.{Class}
use Rattle.class_defs.specs.declared.statements.Stmt.{Stmt}
use Rattle.class_defs.specs.declared.store.Plain.{Plain}
use Rattle.class_defs.specs.declared.store.Root.{Root}
use Rattle.class_defs.specs.declared.store.Schema.{Schema}
use Rattle.class_defs.specs.declared.store.Schemas.{Schemas}
use Rattle.class_defs.specs.declared.store.UpgradedSchema.{UpgradedSchema}
use Rattle.class_defs.specs.declared.upgrades.Upgrade.{Upgrade}
use Rattle.method_eval.specs.declared.view.View.{View}
use Rattle.serial_model.specs.History.{are_fresh, run_on, IsLegalTx}
use Rattle.serial_model.specs.Replaying.{effect, effect_of}
use Rattle.serial_model.specs.Replays.{AppliesDoing, AreMade}
use Rattle.serial_model.specs.Whole.{plain, IsOfItsEpoch, NoneDue}
use Rattle.serial_model.specs.declared.entries.Did.{Did}
use Rattle.serial_model.specs.declared.entries.What.TheVariants.{Tx}

-- ---- no object of the epoch is due

all_current : (schema : Schema) (epoch : ℕ) → ((c : ℕ) → number_of schema.upgraded c ≤ epoch) → (es : List (Oref × Obj)) → AllByRecursion (λ p. p.1.ver ≡ epoch) es → AllByRecursion (λ p. number_of schema.upgraded p.1.class ≤ p.1.ver) es
all_current schema epoch past [] h = tt
all_current schema epoch past (e ∷ es) h = (subst (λ (n : ℕ). number_of schema.upgraded e.1.class ≤ n) (sym h.0) (past e.1.class), all_current schema epoch past es h.1)

-- the schema of an epoch that has one
pub at_epoch : (s : Schemas) (schema : Schema) (n : ℕ) → schema_at s n ≡ Some schema → schema_of s n ≡ schema
at_epoch s schema n is = ap (λ (o : Option Schema). unwrap_or o no_schema) is

pub of_epoch_none_due : (s : Schemas) (schema : Schema) (view : View) → AreMade s → schema_at s view.epoch ≡ Some schema → IsOfItsEpoch view → NoneDue schema view
of_epoch_none_due s schema view made is h = all_current schema view.epoch (subst (λ (k : Schema). (c : ℕ) → number_of k.upgraded c ≤ view.epoch) (at_epoch s schema view.epoch is) (made.past view.epoch)) view.objects.pairs h

-- ---- transactions

the_effect : (r : Ran) (a : Answer) (store : Plain) → (let o : Option (Answer × Plain) = Some (effect r) in o ≡ Some (a, store)) → effect r ≡ (a, store)
the_effect r a store e = ap (λ (o : Option (Answer × Plain)). unwrap_or o (a, store)) e

some_answer : (o : Option Ran) (a b : Answer) (new : Plain) → option_map effect o ≡ Some (a, new) → a ≡ b → IsSomeAnd o (λ r. r.answer ≡ b)
some_answer None a b new e is = cc
some_answer (Some r) a b new e is = ap (λ (p : Answer × Plain). p.0) (the_effect r a new e) ∙ is

some_store : (o : Option Ran) (a : Answer) (old new : Plain) → option_map effect o ≡ Some (a, new) → new ≡ unwrap_or (option_map (λ r. r.store) o) old
some_store None a old new e = cc
some_store (Some r) a old new e = sym (ap (λ (p : Answer × Plain). p.1) (the_effect r a new e))

other_answer : (o : Option Ran) (a b : Answer) (new : Plain) → option_map effect o ≡ Some (a, new) → ¬ (a ≡ b) → ¬ IsSomeAnd o (λ r. r.answer ≡ b)
other_answer None a b new e other h = h
other_answer (Some r) a b new e other h = other (sym (ap (λ (p : Answer × Plain). p.0) (the_effect r a new e)) ∙ h)

no_answer : (o : Option Ran) (b : Answer) → option_map effect o ≡ None → ¬ IsSomeAnd o (λ r. r.answer ≡ b)
no_answer None b e h = h
no_answer (Some r) b e h = cc

-- what a transaction does on a store whose epoch has this schema
effect_at : (s : Schemas) (schema : Schema) (store : Plain) (tx : List Stmt) (names : List Oref) → schema_at s store.epoch ≡ Some schema
    → option_map effect (run_on s store tx names) ≡ effect_of schema tx store names
effect_at s schema store tx names is = ap (λ (o : Option Schema). option_map effect (option_and_then (λ k. run k tx store names) o)) is

-- a transaction whose run gave an answer was applied where that is the entry's
pub tx_by_answer : (s : Schemas) (schema : Schema) (d : Did) (tx : List Stmt) (roots : List Root) (old new : View) (a : Answer) (b : Bool)
    → schema_at s old.epoch ≡ Some schema → d.number ≡ 0 → are_fresh (plain roots old) d.fresh ≡ true → effect_of schema tx (plain roots old) d.fresh ≡ Some (a, plain roots new) → (IsTrue b ↔ (a ≡ d.answer)) → IsOfItsEpoch new → AppliesDoing s d (Tx tx) roots old b new
tx_by_answer s schema d tx roots old new a true is number fresh e same versions =
    let o = run_on s (plain roots old) tx d.fresh in
    let e : option_map effect o ≡ Some (a, plain roots new) = effect_at s schema (plain roots old) tx d.fresh is ∙ e in
    (record { number = number; fresh = fresh; answer = some_answer o a d.answer (plain roots new) e (same.0 refl) }, some_store o a (plain roots old) (plain roots new) e, versions)
tx_by_answer s schema d tx roots old new a false is number fresh e same versions = λ legal.
    let o = run_on s (plain roots old) tx d.fresh in
    let e : option_map effect o ≡ Some (a, plain roots new) = effect_at s schema (plain roots old) tx d.fresh is ∙ e in
    other_answer o a d.answer (plain roots new) e (λ (h : a ≡ d.answer). let t : false ≡ true = same.1 h in cc) legal.answer

-- and one whose run is undefined isn't legal
pub tx_undefined : (s : Schemas) (schema : Schema) (d : Did) (tx : List Stmt) (roots : List Root) (old : View)
    → schema_at s old.epoch ≡ Some schema → effect_of schema tx (plain roots old) d.fresh ≡ None → ¬ IsLegalTx s (plain roots old) d tx
tx_undefined s schema d tx roots old is e legal =
    no_answer (run_on s (plain roots old) tx d.fresh) d.answer (effect_at s schema (plain roots old) tx d.fresh is ∙ e) legal.answer

-- where the epoch has no schema, there is no run
pub tx_past : (s : Schemas) (d : Did) (tx : List Stmt) (roots : List Root) (old : View) → schema_at s old.epoch ≡ None → ¬ IsLegalTx s (plain roots old) d tx
tx_past s d tx roots old is legal =
    no_answer (run_on s (plain roots old) tx d.fresh) d.answer
    (ap (λ (o : Option Schema). option_map effect (option_and_then (λ k. run k tx (plain roots old) d.fresh) o)) is) legal.answer

-- ---- upgrades

-- where an upgrade leads to the next epoch, this epoch has a schema, and so has the next
entry_before : {X : Type 0} (xs : List X) (n : ℕ) (x : X) → slice_get xs (suc n) ≡ Some x → (y : X) × (slice_get xs n ≡ Some y)
entry_before [] n x e = cc
entry_before (y ∷ xs) zero x e = (y, refl)
entry_before (y ∷ xs) (suc n) x e = entry_before xs n x e

schema_before : (s : Schemas) (n : ℕ) (u : UpgradedSchema) → slice_get s.upgraded n ≡ Some u → (schema : Schema) × (schema_at s n ≡ Some schema)
schema_before s zero u e = (s.first, refl)
schema_before s (suc n) u e =
    let v = entry_before s.upgraded n u e in
    (v.0.schema, ap (option_map (λ (w : UpgradedSchema). w.schema)) v.1)

pub epoch_goes_on : (s : Schemas) (n : ℕ) (u : Upgrade) → option_map upgrade_on_line_1 (upgrade_to s (suc n)) ≡ Some u
    → ((schema : Schema) × (schema_at s n ≡ Some schema)) × ((schema : Schema) × (schema_at s (suc n) ≡ Some schema))
epoch_goes_on s n u e = by (slice_get s.upgraded n) refl e
  where
    by : (o : Option UpgradedSchema) → slice_get s.upgraded n ≡ o → option_map upgrade_on_line_1 (option_map (λ (w : UpgradedSchema). w.upgrade) o) ≡ Some u
        → ((schema : Schema) × (schema_at s n ≡ Some schema)) × ((schema : Schema) × (schema_at s (suc n) ≡ Some schema))
    by None is f = cc
    by (Some w) is f = (schema_before s n w is, (w.schema, ap (option_map (λ (v : UpgradedSchema). v.schema)) is))

roots_kept : (old new : List Class) (u : Upgrade) (store : Plain) → (up old new u store).roots ≡ store.roots
unfolding up
roots_kept old new u store = refl

-- the view of the upgraded store has the eager upgrade of the store of the old view
pub upgraded : (old new : List Class) (u : Upgrade) (roots : List Root) (before after : View) (store behind : Plain)
    → store ≡ plain roots before → behind ≡ up old new u store → plain behind.roots after ≡ behind → plain roots after ≡ up old new u (plain roots before)
upgraded old new u roots before after store behind was is has =
    let r : behind.roots ≡ roots = ap (λ (p : Plain). p.roots) is ∙ roots_kept old new u store ∙ ap (λ (p : Plain). p.roots) was in
    subst (λ (rs : List Root). plain rs after ≡ behind) r has ∙ is ∙ ap (up old new u) was
