-- All changes, one behind the other.
use Rattle.class_defs.specs.Eager.{eager}
use Rattle.class_defs.specs.KeptOwnership.{AllKeepClasses}
use Rattle.class_defs.specs.Stored.{Stored}
use Rattle.class_defs.specs.declared.store.Plain.{Plain}
use Rattle.class_defs.specs.declared.store.Schemas.{Schemas}
use Rattle.serial_model.specs.History.{AreLegal, after, after_entry}
use Rattle.serial_model.specs.declared.entries.Did.{Did}
use Rattle.std.proofs.Common.{List, [], ap, arith, refl, subst, sym, ℕ, ◌++◌, ◌+◌, ◌<◌, ◌≡◌, ◌≤◌, ◌∙◌, ◌∷◌}
use Rattle.std.specs.Prelude.{length}
use Rattle.law_lazy_history.proofs.Runs.{sorted-left}
use Rattle.law_lazy_history.proofs.Steps.{Leads, fits_brought, fits_installed, leads_brought, leads_first, leads_installed, leads_run, within}
use Rattle.law_lazy_history.specs.Changes.{Brought, Change, Installed, Ran, changed_by, changed_by_all, entries_of, entry_of}
use Rattle.law_lazy_history.specs.Standing.{AllRun, AllStand, MapFits, Stands}
use Rattle.thor_value.specs.FiniteMap.{IsSorted}

after-append : (s : Schemas) (ds es : List Did) (store : Plain) → after s (ds ++ es) store ≡ after s es (after s ds store)
after-append s [] es store = refl
after-append s (d ∷ ds) es store = after-append s ds es (after_entry s store d)

legal-append : (s : Schemas) (ds es : List Did) (store : Plain) → AreLegal s ds store → AreLegal s es (after s ds store) → AreLegal s (ds ++ es) store
legal-append s [] es store h k = k
legal-append s (d ∷ ds) es store h k = (h.0, legal-append s ds es (after_entry s store d) h.1 k)

-- what all changes lead to
pub record LeadAll (s : Schemas) (N : Stored) (cs : List Change) : Type 0 where
  pub legal : AreLegal s (entries_of cs) (eager s N)
  pub behind : after s (entries_of cs) (eager s N) ≡ eager s (changed_by_all N cs)

none-lead : (s : Schemas) (N : Stored) → LeadAll s N []
none-lead s N = record { legal = tt; behind = refl }

one-more : (s : Schemas) (N : Stored) (c : Change) (cs : List Change) → Leads s N c → LeadAll s (changed_by N c) cs → LeadAll s N (c ∷ cs)
one-more s N c cs first rest = record {
  legal = legal-append s (entry_of c) (entries_of cs) (eager s N) first.legal (subst (AreLegal s (entries_of cs)) (sym first.behind) rest.legal);
  behind = after-append s (entry_of c) (entries_of cs) (eager s N) ∙ ap (after s (entries_of cs)) first.behind ∙ rest.behind;
}

-- ---- with upgrades

-- what holds of the map before each change
record Kept (s : Schemas) (N : Stored) : Type 0 where
  within : N.epoch ≤ length s.upgraded
  sorted : IsSorted N.objects
  fits : MapFits s N

module _ (s : Schemas) (all : AllKeepClasses s (length s.upgraded)) where
  keeps : (N : Stored) → N.epoch ≤ length s.upgraded → AllKeepClasses s N.epoch
  keeps N l k below = all k (omega (arith, l, below))

  leads : (N : Stored) (c : Change) → Kept s N → Stands s N c → Leads s N c
  leads N (Ran d ws) k h = leads_run s N k.sorted d ws h.runs (keeps N k.within) h k.fits
  leads N (Brought ws) k h = leads_brought s N (keeps N k.within) k.fits ws h k.sorted
  leads N (Installed d) k h = leads_installed s N k.sorted k.fits d h

  kept : (N : Stored) (c : Change) → Kept s N → Stands s N c → Kept s (changed_by N c)
  kept N (Ran d ws) k h = record { within = k.within; sorted = sorted-left N.objects ws k.sorted; fits = h.fits }
  kept N (Brought ws) k h = record { within = k.within; sorted = sorted-left N.objects ws k.sorted; fits = fits_brought s N (keeps N k.within) k.fits ws h }
  kept N (Installed d) k h = record { within = within s N k.sorted k.fits d h; sorted = k.sorted; fits = fits_installed s N k.sorted k.fits d h }

  lead-all : (N : Stored) (cs : List Change) → Kept s N → AllStand s N cs → LeadAll s N cs × MapFits s (changed_by_all N cs)
  lead-all N [] k h = (none-lead s N, k.fits)
  lead-all N (c ∷ cs) k h =
      let st : Stands s N c = h.0 k.fits in
      let rest = lead-all (changed_by N c) cs (kept N c k st) h.1 in
      (one-more s N c cs (leads N c k st) rest.0, rest.1)

  pub all-lead : (N : Stored) (cs : List Change) → N.epoch ≤ length s.upgraded → IsSorted N.objects → MapFits s N → AllStand s N cs → LeadAll s N cs × MapFits s (changed_by_all N cs)
  all-lead N cs l sorted fits h = lead-all N cs (record { within = l; sorted = sorted; fits = fits }) h

-- ---- without upgrades

pub all-lead-first : (s : Schemas) (N : Stored) (cs : List Change) → N.epoch ≡ 0 → IsSorted N.objects → AllRun s N cs → LeadAll s N cs
all-lead-first s N [] first sorted h = none-lead s N
all-lead-first s N (Ran d ws ∷ cs) first sorted h =
    one-more s N (Ran d ws) cs (leads_first s N sorted d ws h.0 first) (all-lead-first s (changed_by N (Ran d ws)) cs first (sorted-left N.objects ws sorted) h.1)
all-lead-first s N (Brought ws ∷ cs) first sorted h = absurd h.0
all-lead-first s N (Installed d ∷ cs) first sorted h = absurd h.0
