-- A run of a checked transaction that touched nothing due commutes with what the map stands for.
use Rattle.class_defs.proofs.Levels.{due_is}
use Rattle.class_defs.specs.Eager.{eager, value}
use Rattle.class_defs.specs.Levels.{is_due}
use Rattle.class_defs.specs.Ownership.{IsAbove}
use Rattle.class_defs.specs.Run.{Ran, changed, run}
use Rattle.class_defs.specs.Stored.{Stored, bare, in_epoch}
use Rattle.class_defs.specs.Touched.{on_store}
use Rattle.class_defs.specs.declared.statements.Stmt.{Stmt}
use Rattle.class_defs.specs.declared.store.Object.{Object}
use Rattle.class_defs.specs.declared.store.Plain.{Plain}
use Rattle.class_defs.specs.declared.store.Schema.{Schema}
use Rattle.class_defs.specs.declared.store.Schemas.{Schemas}
use Rattle.law_lazy_upgrade.proofs.Values.{get-each, value_stays}
use Rattle.law_ownership.proofs.Closed.{owners_touched}
use Rattle.law_ownership.proofs.Plainly.{parts_kept, some_and}
use Rattle.law_ownership.specs.Checked.{AreItsWrites, CheckedRun, TouchedUndue}
use Rattle.law_frame.proofs.TouchedStores.{store_alike}
use Rattle.std.proofs.Common.{List, ap, inl, inr, refl, sym, subst, true, ℕ, zero, suc, ◌≡◌, ◌∙◌}
use Rattle.std.proofs.lemmas.Bool.{both_ways}
use Rattle.std.proofs.lemmas.Option.{none-some}
use Rattle.std.specs.List.{Contains}
use Rattle.std.specs.Option.{option_and_then, option_map}
use Rattle.std.specs.Prelude.{None, Option, Some, is_some}
use Rattle.law_lazy_history.proofs.Runs.{eager_changed, ran_changed, same_apart}
use Rattle.law_lazy_history.specs.Standing.{MapFits, WritesApart, left_at}
use Rattle.thor_value.specs.FiniteMap.{IsSorted, get, overwrite}
use Rattle.thor_value.specs.declared.names.Oref.{Oref}
use Rattle.thor_value.specs.declared.values.Obj.{Obj}

pub none_some : {A X : Type 0} (o : Option X) (v : X) → o ≡ None → o ≡ Some v → A
none_some o v h k = absurd (none-some v (sym h ∙ k))

-- what is owned is there
above_there : (s : Schemas) (N : Stored) → MapFits s N → (n : ℕ) (a x : Oref) (o : Obj) → get N.objects a ≡ Some o → IsAbove s N.objects n a x → (p : Obj) × (get N.objects x ≡ Some p)
above_there s N fits zero a x o at above = (o, subst (λ y. get N.objects y ≡ Some o) above at)
above_there s N fits (suc n) a x o at above =
    let own = above.1.1.0 in
    let k = some_and (get N.objects above.0) (λ q. q.class ≡ own.class) (fits.owned.declared a above.1.0 own.class above.0 own.reference) in
    above_there s N fits n above.0 x k.0 k.1 above.1.1.1

module _ (s : Schemas) (N : Stored) (schema : Schema) (repos : ℕ) (tx : List Stmt) (names : List Oref) (r : Ran) (h : CheckedRun s N schema repos tx names r) (undue : TouchedUndue s N r) where
  -- what it touched is, in what the map stands for, as it is stored
  stored-at : (x : Oref) → Contains r.touched x → get (eager s N).objects x ≡ option_map bare (get N.objects x)
  stored-at x touched = get-each (value s N.objects N.epoch) N.objects x ∙ by (get N.objects x) refl
    where
      by : (o : Option Obj) → get N.objects x ≡ o → option_map (value s N.objects N.epoch) o ≡ option_map bare o
      by None is = refl
      by (Some o) is = ap Some (value_stays s N.objects N.epoch o (sym (due_is s N.epoch o) ∙ undue x o touched is))

  -- so it runs alike where that stands
  pub runs_alike : (M : Plain) → ((x : Oref) → Contains r.touched x → get M.objects x ≡ option_map bare (get N.objects x)) → run schema tx M names ≡ Some (on_store M r)
  runs_alike M same = store_alike schema tx (eager s N) M names r h.ran (λ x touched. same x touched ∙ sym (stored-at x touched))

  module _ (ws : List (Oref × Obj)) (is : AreItsWrites N r ws) where
    pub apart : WritesApart s N ws
    apart n a x o v there due above wrote =
        elim ((parts_kept s N schema repos tx names r h).wrote x (written (left_at r.written x) (sym (is x) ∙ wrote))) [
          | inl touched ↦ both_ways (is_due s N.epoch o) (undue a o (owners_touched s N schema repos tx names r h n a x touched above) there) due
          | inr none ↦
              let k = above_there s N h.fits n a x o there above in
              none_some (get (eager s N).objects x) (value s N.objects N.epoch k.0) none (get-each (value s N.objects N.epoch) N.objects x ∙ ap (option_map (value s N.objects N.epoch)) k.1)
        ]
      where
        written : (g : Option Object) → option_map (in_epoch N.epoch) g ≡ Some v → is_some g ≡ true
        written None e = none_some None v refl e
        written (Some u) e = refl

    -- the map with its writes stands for the store behind it
    pub commutes : IsSorted N.objects → eager s (record N { objects = overwrite N.objects ws }) ≡ r.store
    commutes sorted =
        let changes : r.store ≡ changed (eager s N) r.written = ran_changed s (eager s N) tx names r (ap (option_and_then (λ (c : Schema). run c tx (eager s N) names)) h.epoch ∙ h.ran) in
        sym (changes ∙ eager_changed s N sorted ws r.written is (same_apart s N sorted ws r.written is h.keeps h.fits.owned apart))
