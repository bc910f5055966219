-- A commit of a checked transaction at its turn keeps ownership.
use Rattle.law_atomic_commit.specs.Several.{Alike, AreSound, HasCommitted, IsAtomic, Several, part}
use Rattle.class_defs.specs.Eager.{eager}
use Rattle.class_defs.specs.Epochs.{schema_at}
use Rattle.class_defs.specs.KeptOwnership.{AllKeepClasses}
use Rattle.class_defs.specs.Levels.{is_due}
use Rattle.class_defs.specs.Run.{Ran as RanOn, run}
use Rattle.class_defs.specs.Stored.{Objects, Stored}
use Rattle.class_defs.specs.declared.store.Root.{Root}
use Rattle.class_defs.specs.declared.store.Schema.{Schema}
use Rattle.class_defs.specs.declared.store.Schemas.{Schemas}
use Rattle.class_defs.specs.declared.store.UpgradedSchema.{UpgradedSchema}
use Rattle.log_entries.specs.declared.request.Request.{Request}
use Rattle.spec_history.specs.History.{Known}
use Rattle.law_ownership.proofs.Apart.{apart, none_some}
use Rattle.law_ownership.proofs.Behind.{fits_behind}
use Rattle.law_ownership.specs.Checked.{CheckedRun, TouchedUndue}
use Rattle.law_serializability.proofs.Turns.{epoch_is, gave, has_met, ran, runs_on}
use Rattle.law_serializability.specs.Resting.{AreChecked, AreHere, IsOpening, RanAs, TxRests}
use Rattle.law_serializability.specs.WholeHistory.{did, stored_map}
use Rattle.serial_model.specs.History.{run_on}
use Rattle.serial_model.specs.declared.entries.What.{What}
use Rattle.std.proofs.Common.{List, [], ap, arith, false, inl, inr, refl, subst, sym, ℕ, zero, suc, ◌++◌, ◌<◌, ◌≡◌, ◌≢◌, ◌≤◌, ◌∙◌, ◌∷◌}
use Rattle.std.proofs.lemmas.Option.{slice_get_within}
use Rattle.std.specs.Option.{option_and_then, option_map, option_or}
use Rattle.std.specs.Prelude.{None, Option, Some, is_some, length, slice_get}
use Rattle.law_lazy_history.specs.Standing.{MapFits, Runs, left_at}
use Rattle.thor_value.specs.FiniteMap.{get, overwrite}
use Rattle.thor_value.specs.declared.names.Oref.{Oref}
use Rattle.thor_value.specs.declared.names.Ts.{Ts}
use Rattle.thor_value.specs.declared.values.Obj.{Obj}
use Rattle.thor_value.specs.declared.values.Who.{Who}
use Rattle.law_global_order.proofs.Chain.{AreWhole, after, whole-at}
use Rattle.law_global_order.proofs.Lists.{Es, Lists, in-all}
use Rattle.law_global_order.proofs.Serial.{behind-objects}
use Rattle.law_global_order.proofs.Turns.{in-range, wrote-there}
use Rattle.law_global_order.specs.Serial.{Joined, after_commits}
use Rattle.law_global_order.specs.Whole.{Commit, whole, writes_in}

-- ---- where objects lie

module _ (S : Several) (sd : AreSound S) (al : Alike S) where
  or_none : (o : Option Obj) → option_or o None ≡ o
  or_none None = refl
  or_none (Some v) = refl

  here_then : (e : Commit) (w : Known) → HasCommitted S e.0 w → e.1 ≡ whole S e.0 w.request → (M : Objects) → ((x : Oref) (o : Obj) → get M x ≡ Some o → x.repo < S.repos) → (x : Oref) (o : Obj) → get (overwrite M e.1.writes) x ≡ Some o → x.repo < S.repos
  here_then e w h is M here x o at = by (left_at (writes_in (part S x.repo e.0)) x) refl
    where
      by : (p : Option Obj) → left_at (writes_in (part S x.repo e.0)) x ≡ p → x.repo < S.repos
      by (Some v) k = let g = wrote-there (part S x.repo e.0) x (ap is_some k) in in-range S sd x.repo e.0 g.0 g.1
      by None k = here x o (sym (ap (λ p. option_or p (get M x)) k) ∙ sym (whole-at S sd al e.0 w x M h) ∙ ap (λ (q : Request). get (overwrite M q.writes) x) (sym is) ∙ at)

  pub here_after : (es : Es) → AreWhole S sd al es → (M : Objects) → ((x : Oref) (o : Obj) → get M x ≡ Some o → x.repo < S.repos) → (x : Oref) (o : Obj) → get (after M es) x ≡ Some o → x.repo < S.repos
  here_after [] c M here = here
  here_after (e ∷ es) c M here =
      let k = c e (inl refl) in
      here_after es (λ f i. c f (inr i)) (overwrite M e.1.writes) (here_then e k.0 k.1 k.2 M here)

schema_there : (s : Schemas) (k : ℕ) (o : Option Schema) (f : Schema → Option RanOn) (r : RanOn) → option_and_then f o ≡ Some r → (schema : Schema) × (o ≡ Some schema) × (f schema ≡ Some r)
schema_there s k None f r e = none_some None r refl e
schema_there s k (Some schema) f r e = (schema, refl, e)

epoch_within : (s : Schemas) (k : ℕ) (schema : Schema) → schema_at s k ≡ Some schema → k ≤ length s.upgraded
epoch_within s zero schema is = omega arith
epoch_within s (suc k) schema is = by (slice_get s.upgraded k) refl is
  where
    by : (o : Option UpgradedSchema) → slice_get s.upgraded k ≡ o → option_map (λ (u : UpgradedSchema). u.schema) o ≡ Some schema → suc k ≤ length s.upgraded
    by None at e = none_some None schema refl e
    by (Some u) at e = let l = slice_get_within s.upgraded k u at in omega (arith, l)

module _ (s : Schemas) (items : Who → What) (roots : List Root) (S : Several) (sd : AreSound S) (at : IsAtomic S) (al : Alike S) (L : Joined) (opening : IsOpening S L)
    (checked : AreChecked s items roots S.repos) (here : AreHere S L)
    (done rest : Es) (t : Ts) (w : Known) (c : Lists S (done ++ (t, whole S t w.request) ∷ rest)) (h : HasCommitted S t w)
    (rests : TxRests s items S t w.request) (all : AllKeepClasses s (length s.upgraded)) (fits : MapFits s (stored_map roots (after_commits L done))) where
  abbrev q : Request
  q = w.request

  abbrev N : Stored
  N = stored_map roots (after_commits L done)

  abbrev run_it : (r : RanOn) × (run_on s (eager s N) rests.tx q.fresh ≡ Some r) × RanAs S t q r
  run_it = ran s items roots S sd at al L opening done rest t w c h rests

  schema_is : (schema : Schema) × (schema_at s N.epoch ≡ Some schema) × (run schema rests.tx (eager s N) q.fresh ≡ Some run_it.0)
  schema_is = schema_there s N.epoch (schema_at s N.epoch) (λ schema. run schema rests.tx (eager s N) q.fresh) run_it.0 run_it.1

  keeps : AllKeepClasses s N.epoch
  keeps k below = let l = epoch_within s N.epoch schema_is.0 schema_is.1 in all k (omega (arith, below, l))

  placed : (x : Oref) (o : Obj) → get N.objects x ≡ Some o → x.repo ≢ 255
  placed x o is wrong =
      let l : x.repo < S.repos = here_after S sd al done (λ f i. c.stand f (in-all done ((t, whole S t q) ∷ rest) f i)) L.objects here x o (ap (λ M. get M x) (sym (behind-objects L done)) ∙ is) in
      let few = checked.few in
      absurd (omega (arith, l, wrong, few))

  the_run : CheckedRun s N schema_is.0 S.repos rests.tx q.fresh run_it.0
  the_run = record {
    epoch = schema_is.1;
    rules = checked.schemas_keep N.epoch schema_is.0 schema_is.1;
    item = checked.items_keep q.who rests.tx N.epoch schema_is.0 rests.item schema_is.1;
    keeps = keeps;
    fits = fits;
    roots = checked.roots_stand N.epoch schema_is.0 schema_is.1;
    placed = placed;
    fresh = (runs_on s items roots S sd at al L opening done rest t w c h rests).fresh;
    ran = schema_is.2;
  }

  -- what it touched isn't due
  undue : TouchedUndue s N run_it.0
  undue x o touched there =
      let k = (run_it.2.reads x).1 (inl touched) in
      subst (λ n. is_due s n o ≡ false) (epoch_is s items roots S sd at al L opening done rest t w c h)
      (rests.undue k.0 k.1 x o k.2 k.3 (sym ((has_met s items roots S sd at al L opening done rest t w c h).objects k.0 k.1 x k.2 k.3) ∙ there))

  pub runs_checked : Runs s N (did items (t, whole S t q) 0) (whole S t q).writes
  runs_checked = record {
    runs = runs_on s items roots S sd at al L opening done rest t w c h rests;
    apart = apart s N schema_is.0 S.repos rests.tx q.fresh run_it.0 the_run undue (whole S t q).writes (gave s items roots S sd at al L opening done rest t w c h rests).writes;
    fits = fits_behind s N schema_is.0 S.repos rests.tx q.fresh run_it.0 the_run (whole S t q).writes undue (gave s items roots S sd at al L opening done rest t w c h rests).writes;
  }
