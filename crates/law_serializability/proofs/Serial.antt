-- All commits, one behind the other: each stands on the stored map behind those before it.
use Rattle.law_atomic_commit.specs.Several.{Alike, AreSound, HasCommitted, IsAtomic, Several}
use Rattle.class_defs.specs.Eager.{eager}
use Rattle.class_defs.specs.Epochs.{upgrade_to}
use Rattle.class_defs.specs.Stored.{Stored}
use Rattle.class_defs.specs.UpgradeLinesAside.{upgrade_on_line_1}
use Rattle.class_defs.specs.declared.store.Root.{Root}
use Rattle.class_defs.specs.declared.store.Schemas.{Schemas}
use Rattle.log_entries.specs.declared.request.Kind.TheVariants.{App, Transform, Upgrade}
use Rattle.log_entries.specs.declared.request.Kind.{Kind}
use Rattle.log_entries.specs.declared.request.Request.{Request}
use Rattle.spec_history.specs.History.{Known}
use Rattle.spec_history.specs.Requests.{is_upgrade, is_upgrade_kind}
use Rattle.law_serializability.proofs.Changes.{bare_part, entries_rise, stored_behind, stored_next, upgrades_write_nothing}
use Rattle.law_serializability.proofs.Turns.{epoch_is, runs_on, stored_met}
use Rattle.law_serializability.specs.Resting.{EachIsTx, EachRests, IsOpening, OpeningFits, RestsAs, TxRests}
use Rattle.law_serializability.specs.WholeHistory.{change_by, change_of, did, stored_map}
use Rattle.serial_model.specs.History.{IsLegal, after}
use Rattle.serial_model.specs.declared.entries.What.{What}
use Rattle.std.proofs.Common.{List, [], ap, append_assoc, length, map, refl, subst, sym, true, ◌++◌, ◌+◌, ◌≡◌, ◌∙◌, ◌∷◌}
use Rattle.std.specs.Prelude.{Some, option_map}
use Rattle.law_lazy_history.proofs.Histories.{LeadAll, all-lead, all-lead-first}
use Rattle.law_lazy_history.specs.Changes.{changed_by, changed_by_all, entries_of}
use Rattle.law_lazy_history.specs.Standing.{AllRun, AllStand, Installs, IsRun, MapFits, Runs, Stands}
use Rattle.thor_value.specs.declared.names.Ts.{Ts}
use Rattle.thor_value.specs.declared.values.Who.{Who}
use Rattle.law_global_order.proofs.Lists.{Es, Lists, here}
use Rattle.law_global_order.proofs.Serial.{behind-end}
use Rattle.law_global_order.specs.Serial.{Joined, after_commits}
use Rattle.law_global_order.specs.Whole.{Commit, whole}

module _ (s : Schemas) (items : Who → What) (roots : List Root) (S : Several) (sd : AreSound S) (at : IsAtomic S) (al : Alike S) (L : Joined) (opening : IsOpening S L) where
  abbrev map_at : Es → Stored
  map_at done = stored_map roots (after_commits L done)

  bare_commit : (e : Commit) (w : Known) → HasCommitted S e.0 w → e.1 ≡ whole S e.0 w.request → is_upgrade e.1 ≡ true → e.1.writes ≡ []
  bare_commit e w h is up = ap (λ (q : Request). q.writes) is ∙ upgrades_write_nothing S sd al e.0 w h (ap is_upgrade (sym is) ∙ up)

  -- the next turn
  turn_next : (done rest : Es) (e : Commit) → Lists S (done ++ e ∷ rest) → changed_by (map_at done) (change_of items e) ≡ map_at (done ++ e ∷ [])
  turn_next done rest e c =
      let k = c.stand e (here done rest e) in
      stored_next items roots (after_commits L done) e (bare_commit e k.0 k.1 k.2) ∙ ap (stored_map roots) (sym (behind-end L done e))

  go_on : (done rest : Es) (e : Commit) → Lists S (done ++ e ∷ rest) → Lists S ((done ++ e ∷ []) ++ rest)
  go_on done rest e c = subst (Lists S) (sym (append_assoc done (e ∷ []) rest)) c

  all_behind : (es : Es) → Lists S es → changed_by_all (stored_map roots L) (map (change_of items) es) ≡ stored_map roots (after_commits L es)
  all_behind es c = stored_behind items roots L es (λ e i. let k = c.stand e i in bare_commit e k.0 k.1 k.2)

  -- ---- without upgrades

  module _ (each : EachIsTx s items S) where
    is_run : (done rest : Es) (t : Ts) (w : Known) → Lists S (done ++ (t, whole S t w.request) ∷ rest) → HasCommitted S t w → IsRun s (map_at done) (change_of items (t, whole S t w.request))
    is_run done rest t w c h =
        let k = each t w h in
        subst (λ (kind : Kind). IsRun s (map_at done) (change_by items (t, whole S t w.request) kind)) (sym k.0)
        (runs_on s items roots S sd at al L opening done rest t w c h k.1)

    runs_from : (done rest : Es) → Lists S (done ++ rest) → AllRun s (map_at done) (map (change_of items) rest)
    runs_from done [] c = tt
    runs_from done (e ∷ rest) c =
        let k = c.stand e (here done rest e) in
        let w : Known = k.0 in
        let run : IsRun s (map_at done) (change_of items e) = subst (λ (q : Request). IsRun s (map_at done) (change_of items (e.0, q))) (sym k.2)
        (is_run done rest e.0 w (subst (λ (q : Request). Lists S (done ++ (e.0, q) ∷ rest)) k.2 c) k.1) in
        (run, subst (λ (N : Stored). AllRun s N (map (change_of items) rest)) (sym (turn_next done rest e c)) (runs_from (done ++ e ∷ []) rest (go_on done rest e c)))

    pub serial_first : L.texts ≡ [] → (es : Es) → Lists S es
        → IsLegal s (entries_of (map (change_of items) es)) (eager s (stored_map roots L))
        × (after s (entries_of (map (change_of items) es)) (eager s (stored_map roots L)) ≡ eager s (stored_map roots (after_commits L es)))
    serial_first none es c =
        let all : LeadAll s (stored_map roots L) (map (change_of items) es) = all-lead-first s (stored_map roots L) (map (change_of items) es) (ap length none) opening.sorted (runs_from [] es c) in
        (record { rising = entries_rise items es c.rise; each = all.legal }, all.behind ∙ ap (eager s) (all_behind es c))

  -- ---- with upgrades

  -- each application transaction runs at its turn, where the map fits
  abbrev pub EachRuns : Type 0
  EachRuns = (done rest : Es) (t : Ts) (w : Known) → Lists S (done ++ (t, whole S t w.request) ∷ rest) → HasCommitted S t w → w.request.kind ≡ App → TxRests s items S t w.request
      → MapFits s (map_at done) → Runs s (map_at done) (did items (t, whole S t w.request) 0) (whole S t w.request).writes

  module _ (rests : EachRests s items roots S) (each : EachRuns) where
    installs : (done rest : Es) (t : Ts) (w : Known) (c : Lists S (done ++ (t, whole S t w.request) ∷ rest)) (h : HasCommitted S t w) → is_upgrade w.request ≡ true
        → Rattle.law_serializability.specs.Resting.UpgradeRests s items w.request → Installs s (map_at done) (did items (t, whole S t w.request) (w.request.epoch + 1))
    installs done rest t w c h up r =
        let same : w.request.epoch ≡ (map_at done).epoch = epoch_is s items roots S sd at al L opening done rest t w c h in
        let none = bare_part S sd al t w h t.repo w h.there up in
        record {
          upgrade = r.upgrade;
          item = r.item;
          number = ap (λ n. n + 1) same;
          fresh = none.creates;
          answer = none.answers;
          leads = subst (λ n. option_map upgrade_on_line_1 (upgrade_to s (n + 1)) ≡ Some (upgrade_on_line_1 r.upgrade)) same r.leads;
        }

    stands_by : (done rest : Es) (t : Ts) (w : Known) (c : Lists S (done ++ (t, whole S t w.request) ∷ rest)) (h : HasCommitted S t w) (k : Kind) → w.request.kind ≡ k → RestsAs s items roots S t w.request k
        → MapFits s (map_at done) → Stands s (map_at done) (change_by items (t, whole S t w.request) k)
    stands_by done rest t w c h App is r fits = each done rest t w c h is r fits
    stands_by done rest t w c h Transform is r fits = r (map_at done) fits refl (stored_met s items roots S sd at al L opening done rest t w c h)
    stands_by done rest t w c h (Upgrade text) is r fits = installs done rest t w c h (ap is_upgrade_kind is) r

    stand_from : (done rest : Es) → Lists S (done ++ rest) → AllStand s (map_at done) (map (change_of items) rest)
    stand_from done [] c = tt
    stand_from done (e ∷ rest) c =
        let k = c.stand e (here done rest e) in
        let w : Known = k.0 in
        let there : Lists S (done ++ (e.0, whole S e.0 w.request) ∷ rest) = subst (λ (q : Request). Lists S (done ++ (e.0, q) ∷ rest)) k.2 c in
        let stands : MapFits s (map_at done) → Stands s (map_at done) (change_of items e) = λ fits. subst (λ (q : Request). Stands s (map_at done) (change_of items (e.0, q))) (sym k.2)
        (stands_by done rest e.0 w there k.1 w.request.kind refl (rests e.0 w k.1) fits) in
        (stands, subst (λ (N : Stored). AllStand s N (map (change_of items) rest)) (sym (turn_next done rest e c)) (stand_from (done ++ e ∷ []) rest (go_on done rest e c)))

    pub serial_all : OpeningFits s roots L → (es : Es) → Lists S es
        → IsLegal s (entries_of (map (change_of items) es)) (eager s (stored_map roots L))
        × (after s (entries_of (map (change_of items) es)) (eager s (stored_map roots L)) ≡ eager s (stored_map roots (after_commits L es)))
        × MapFits s (stored_map roots (after_commits L es))
    serial_all first es c =
        let all = all-lead s first.keeps (stored_map roots L) (map (change_of items) es) first.installed opening.sorted first.fits (stand_from [] es c) in
        let lead : LeadAll s (stored_map roots L) (map (change_of items) es) = all.0 in
        (record { rising = entries_rise items es c.rise; each = lead.legal }, lead.behind ∙ ap (eager s) (all_behind es c), subst (MapFits s) (all_behind es c) all.1)
