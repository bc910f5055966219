-- Each change that stands is legal on the store that the map stands for, and leads to that for which the map behind it
-- stands.
use Rattle.class_defs.specs.Eager.{eager}
use Rattle.class_defs.specs.Epochs.{classes_of, upgrade_to}
use Rattle.class_defs.specs.KeptOwnership.{AllKeepClasses}
use Rattle.class_defs.specs.Run.{Ran as RanOn, changed}
use Rattle.class_defs.specs.Stored.{Stored}
use Rattle.class_defs.specs.UpgradeLinesAside.{upgrade_on_line_1}
use Rattle.class_defs.specs.declared.store.Schemas.{Schemas}
use Rattle.class_defs.specs.declared.store.UpgradedSchema.{UpgradedSchema}
use Rattle.class_defs.specs.declared.upgrades.Upgrade.{Upgrade}
use Rattle.law_lazy_upgrade.proofs.Moving.{moves_up}
use Rattle.law_lazy_upgrade.proofs.OwnedMaps.{next_owned, one_kinds, one_owned}
use Rattle.law_lazy_upgrade.proofs.Unseen.{unseen}
use Rattle.serial_model.specs.History.{AreLegal, IsLegalDoing, IsLegalEntry, after, after_doing, after_entry, run_on}
use Rattle.serial_model.specs.declared.entries.Did.{Did}
use Rattle.std.proofs.Common.{List, [], ap, arith, refl, subst, sym, zero, ℕ, suc, ◌+◌, ◌<◌, ◌≡◌, ◌≤◌, ◌∙◌, ◌∷◌}
use Rattle.std.proofs.lemmas.Option.{same_Some}
use Rattle.std.specs.Option.{IsSomeAnd, option_map, unwrap_or}
use Rattle.std.specs.Prelude.{None, Option, Some, length, slice_get}
use Rattle.law_lazy_history.proofs.Aside.{up-aside}
use Rattle.law_lazy_history.proofs.Runs.{eager_changed, ran_changed, same_apart, same_at_first}
use Rattle.law_lazy_history.specs.Changes.{Brought, Change, Installed, Ran, changed_by, entry_of}
use Rattle.law_lazy_history.specs.Standing.{Brings, Gave, Installs, MapFits, Runs, RunsOn}
use Rattle.thor_value.specs.FiniteMap.{IsSorted}
use Rattle.thor_value.specs.declared.names.Oref.{Oref}
use Rattle.thor_value.specs.declared.values.Obj.{Obj}

-- The change is legal on what the one map stands for, and leads to what the other stands for.
pub record Leads (s : Schemas) (N : Stored) (c : Change) : Type 0 where
  pub legal : AreLegal s (entry_of c) (eager s N)
  pub behind : after s (entry_of c) (eager s N) ≡ eager s (changed_by N c)

there : (o : Option RanOn) (P : RanOn → Type 0) → IsSomeAnd o P → (r : RanOn) × (o ≡ Some r) × P r
there None P h = absurd h
there (Some r) P h = (r, refl, h)

some_and : (o : Option RanOn) (P : RanOn → Type 0) (r : RanOn) → o ≡ Some r → P r → IsSomeAnd o P
some_and o P r is p = subst (λ o. IsSomeAnd o P) (sym is) p

-- ---- transactions

module _ (s : Schemas) (N : Stored) (sorted : IsSorted N.objects) (d : Did) (ws : List (Oref × Obj)) (h : RunsOn s N d ws) where
  ran : (r : RanOn) × (run_on s (eager s N) h.tx d.fresh ≡ Some r) × Gave N.epoch d ws r
  ran = there (run_on s (eager s N) h.tx d.fresh) (Gave N.epoch d ws) h.ran

  legal_run : IsLegalEntry s (eager s N) d
  legal_run = subst (IsLegalDoing s (eager s N) d) (sym h.item) (record {
    number = h.number;
    fresh = h.fresh;
    answer = some_and (run_on s (eager s N) h.tx d.fresh) (λ r. r.answer ≡ d.answer) ran.0 ran.1 ran.2.answer;
  })

  behind_run : after_entry s (eager s N) d ≡ changed (eager s N) ran.0.written
  behind_run =
      ap (after_doing s (eager s N) d) h.item
      ∙ ap (λ o. unwrap_or (option_map (λ (r : RanOn). r.store) o) (eager s N)) ran.1
      ∙ ran_changed s (eager s N) h.tx d.fresh ran.0 ran.1

  pub leads_first : N.epoch ≡ 0 → Leads s N (Ran d ws)
  leads_first first = record {
    legal = (legal_run, tt);
    behind = behind_run ∙ eager_changed s N sorted ws ran.0.written ran.2.writes (same_at_first s N sorted ws ran.0.written ran.2.writes first);
  }

  pub leads_run : AllKeepClasses s N.epoch → Runs s N d ws → MapFits s N → Leads s N (Ran d ws)
  leads_run keeps all fits = record {
    legal = (legal_run, tt);
    behind = behind_run ∙ eager_changed s N sorted ws ran.0.written ran.2.writes (same_apart s N sorted ws ran.0.written ran.2.writes keeps fits.owned all.apart);
  }

-- ---- transforms

module _ (s : Schemas) (N : Stored) (keeps : AllKeepClasses s N.epoch) (fits : MapFits s N) (ws : List (Oref × Obj)) (h : Brings s N ws) where
  pub leads_brought : IsSorted N.objects → Leads s N (Brought ws)
  leads_brought sorted = record {
    legal = tt;
    behind = subst (λ (vs : List (Oref × Obj)). eager s N ≡ eager s (changed_by N (Brought vs))) (sym h.writes) (sym (unseen s N h.x h.object keeps fits.owned h.there h.undue sorted));
  }

  pub fits_brought : MapFits s (changed_by N (Brought ws))
  fits_brought = subst (λ (vs : List (Oref × Obj)). MapFits s (changed_by N (Brought vs))) (sym h.writes) (record {
    owned = one_owned s N h.x h.object keeps fits.owned h.there h.undue;
    kinds = one_kinds s N h.x h.object keeps fits.owned h.there fits.kinds;
  })

-- ---- upgrades

module _ (s : Schemas) (N : Stored) (sorted : IsSorted N.objects) (fits : MapFits s N) (d : Did) (h : Installs s N d) where
  leads_on : (o : Option Upgrade) → upgrade_to s (N.epoch + 1) ≡ o → option_map upgrade_on_line_1 o ≡ Some (upgrade_on_line_1 h.upgrade)
      → (u : Upgrade) × (upgrade_to s (N.epoch + 1) ≡ Some u) × (upgrade_on_line_1 u ≡ upgrade_on_line_1 h.upgrade)
  leads_on None is e = cc
  leads_on (Some u) is e = (u, is, same_Some (upgrade_on_line_1 u) (upgrade_on_line_1 h.upgrade) e)

  next : (u : Upgrade) × (upgrade_to s (N.epoch + 1) ≡ Some u) × (upgrade_on_line_1 u ≡ upgrade_on_line_1 h.upgrade)
  next = leads_on (upgrade_to s (N.epoch + 1)) refl h.leads

  legal_upgrade : IsLegalEntry s (eager s N) d
  legal_upgrade = subst (IsLegalDoing s (eager s N) d) (sym h.item) (record {
    number = h.number;
    fresh = h.fresh;
    answer = h.answer;
    upgrade = ap (λ n. option_map upgrade_on_line_1 (upgrade_to s n)) h.number ∙ h.leads;
  })

  pub leads_installed : Leads s N (Installed d)
  leads_installed = record {
    legal = (legal_upgrade, tt);
    behind =
        ap (after_doing s (eager s N) d) h.item
        ∙ up-aside (classes_of s N.epoch) (classes_of s (N.epoch + 1)) h.upgrade next.0 (eager s N) (sym next.2)
        ∙ sym (moves_up s N next.0 next.1 sorted fits.owned.versions);
  }

  pub fits_installed : MapFits s (changed_by N (Installed d))
  fits_installed = record { owned = next_owned s N fits.owned; kinds = fits.kinds }

  -- the next epoch has a schema
  there_is : (us : List UpgradedSchema) (n : ℕ) (u : Upgrade) → option_map (λ (w : UpgradedSchema). w.upgrade) (slice_get us n) ≡ Some u → n < length us
  there_is [] n u e = cc
  there_is (w ∷ us) zero u e = omega arith
  there_is (w ∷ us) (suc n) u e = let l = there_is us n u e in omega (arith, l)

  plus_one : N.epoch + 1 ≡ suc N.epoch
  plus_one = omega arith

  pub within : N.epoch + 1 ≤ length s.upgraded
  within =
      let l : N.epoch < length s.upgraded = there_is s.upgraded N.epoch next.0 (subst (λ n. upgrade_to s n ≡ Some next.0) plus_one next.1) in
      omega (arith, l)
