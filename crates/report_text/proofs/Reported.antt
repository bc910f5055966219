-- A report of a legal history whose numbers have 64 bits tells its outcomes and its history.
use Rattle.std.proofs.Common.{◌≡◌, ◌≢◌, ℕ, zero, suc, Bool, true, false, cond, List, [], ◌∷◌, length, All, refl, ap, sym, subst, ◌∙◌, Option, Some, None, Result, Ok, Err, arith}
use Rattle.std.specs.Int.{w64}
use Rattle.std.specs.Prelude.{FitsSigned, IsSomeAnd, ℤ, option_and_then, ◌==◌}
use Rattle.std.proofs.lemmas.Bool.Decides.{nat_tests}
use Rattle.std.proofs.lemmas.List.Elements.{All-cons, All-head, All-nil, All-tail}
use Rattle.thor_value.specs.declared.names.Oref.{Oref}
use Rattle.thor_value.specs.declared.values.Answer.{Answer}
use Rattle.thor_value.specs.declared.values.Answer.TheVariants.{Ints, Fault}
use Rattle.thor_value.specs.declared.values.Fault.{Fault as FaultKind}
use Rattle.class_defs.specs.Epochs.{schema_at}
use Rattle.class_defs.specs.Run.{Ran, begun, execute_all, ran_by, run, takes, world_of}
use Rattle.class_defs.specs.declared.machine.Flow.{Flow}
use Rattle.class_defs.specs.declared.machine.Machine.{Machine}
use Rattle.class_defs.specs.declared.machine.Stop.{Stop}
use Rattle.class_defs.specs.declared.machine.Stop.TheVariants as stop
use Rattle.class_defs.specs.declared.statements.Stmt.{Stmt}
use Rattle.class_defs.specs.declared.store.Plain.{Plain}
use Rattle.class_defs.specs.declared.store.Schema.{Schema}
use Rattle.class_defs.specs.declared.store.Schemas.{Schemas}
use Rattle.serial_model.specs.History.{AreLegal, IsLegal, IsLegalDoing, IsLegalEntry, after_entry, run_on}
use Rattle.serial_model.specs.declared.entries.Did.{Did}
use Rattle.serial_model.specs.declared.entries.What.{What}
use Rattle.serial_model.specs.declared.entries.What.TheVariants.{Tx, Upgrade as UpgradeItem}
use Rattle.serial_model.specs.declared.outcomes.Ended.{Ended}
use Rattle.report_text.specs.Fits.{FitsAnswer, FitsOref}
use Rattle.report_text.specs.Report.{report_text}
use Rattle.report_text.specs.Shown.{FitsEffect, FitsEntry, FitsLine, FitsReport, IsReported, TellsReport}
use Rattle.report_text.proofs.ReportTells.{text_tells}

-- ---- a run that ends in a fault takes no name

no_ran : {A : Type 0} (r : Ran) → ◌≡◌ {A = Option Ran} None (Some r) → A
no_ran r e = cc

same_ran : (q r : Ran) → ◌≡◌ {A = Option Ran} (Some q) (Some r) → q ≡ r
same_ran q r e = cc

no_fault : {A : Type 0} (fault : FaultKind) (ints : List ℤ) → Ints ints ≡ Fault fault → A
no_fault fault ints e = cc

none_named : (b : Bool) (names : List Oref) → (length names == 0) ≡ b → (q r : Ran) → cond b (Some q) None ≡ Some r → names ≡ []
none_named true [] is q r e = refl
none_named true (x ∷ xs) is q r e = absurd (grind (arith, nat_tests))
none_named false names is q r e = no_ran r e

printed : (b : Bool) (q r : Ran) (fault : FaultKind) (ints : List ℤ) → q.answer ≡ Ints ints → cond b (Some q) None ≡ Some r → r.answer ≡ Fault fault → {A : Type 0} → A
printed true q r fault ints is e f = no_fault fault ints (sym is ∙ ap (λ (p : Ran). p.answer) (same_ran q r e) ∙ f)
printed false q r fault ints is e f = no_ran r e

ran_fault : (store : Plain) (names : List Oref) (o : Result Flow Stop) (m : Machine) (r : Ran) (fault : FaultKind) → ran_by store names o m ≡ Some r → r.answer ≡ Fault fault → names ≡ []
ran_fault store names (Ok flow) m r fault e f = printed (takes m.created names) _ r fault m.printed refl e f
ran_fault store names (Err (stop.Fault g)) m r fault e f = none_named (length names == 0) names refl _ r e
ran_fault store names (Err (stop.Need x owners)) m r fault e f = no_ran r e
ran_fault store names (Err (stop.NeedName repo)) m r fault e f = no_ran r e

run_fault : (schema : Schema) (tx : List Stmt) (store : Plain) (names : List Oref) (r : Ran) (fault : FaultKind) → run schema tx store names ≡ Some r → r.answer ≡ Fault fault → names ≡ []
unfolding run
run_fault schema tx store names r fault e f =
    let ended = execute_all (world_of schema store) tx (begun names (Some 0)) in ran_fault store names ended.0 ended.1 r fault e f

on_fault : (s : Schemas) (store : Plain) (tx : List Stmt) (names : List Oref) (a : Answer) (fault : FaultKind) → IsSomeAnd (run_on s store tx names) (λ r. r.answer ≡ a) → a ≡ Fault fault → names ≡ []
on_fault s store tx names a fault h is = by (schema_at s store.epoch) h
  where
    gave : (schema : Schema) (o : Option Ran) → run schema tx store names ≡ o → IsSomeAnd o (λ r. r.answer ≡ a) → names ≡ []
    gave schema None e k = absurd k
    gave schema (Some r) e k = run_fault schema tx store names r fault e (k ∙ is)

    by : (o : Option Schema) → IsSomeAnd (option_and_then (λ schema. run schema tx store names) o) (λ r. r.answer ≡ a) → names ≡ []
    by None k = absurd k
    by (Some schema) k = gave schema (run schema tx store names) refl k

-- ---- one entry

effect_fits : (number : ℕ) (fresh : List Oref) (a : Answer) → FitsEffect number fresh a → (number ≢ 0 → (fresh ≡ []) × (a ≡ Ints [])) → ((fault : FaultKind) → a ≡ Fault fault → fresh ≡ [])
    → All FitsOref fresh × FitsAnswer a
effect_fits zero fresh (Ints values) h upgrade fault = (h.0, h.1)
effect_fits zero fresh (Fault f) h upgrade fault = (subst (All FitsOref) (sym (fault f refl)) (All-nil FitsOref), tt)
effect_fits (suc n) fresh a h upgrade fault = let k = upgrade (λ e. cc) in (subst (All FitsOref) (sym k.0) (All-nil FitsOref), subst FitsAnswer (sym k.1) (All-nil (FitsSigned w64)))

entry_fits : (s : Schemas) (store : Plain) (d : Did) → IsLegalEntry s store d → FitsLine d → FitsEntry d
entry_fits s store d legal fits =
    let k = by d.what legal in
    let both = effect_fits d.number d.fresh d.answer fits.effect k.0 k.1 in
    record { upgrade = k.0; fault = k.1; ts = fits.ts; who = fits.who; number = fits.number; fresh = both.0; answer = both.1 }
  where
    by : (w : What) → IsLegalDoing s store d w → (d.number ≢ 0 → (d.fresh ≡ []) × (d.answer ≡ Ints [])) × ((fault : FaultKind) → d.answer ≡ Fault fault → d.fresh ≡ [])
    by (Tx tx) h = (λ other. absurd (other h.number), λ fault is. on_fault s store tx d.fresh d.answer fault h.answer is)
    by (UpgradeItem u) h = (λ other. (h.fresh, h.answer), λ fault is. no_fault fault [] (sym h.answer ∙ is))

entries_fit : (s : Schemas) (history : List Did) (store : Plain) → AreLegal s history store → All FitsLine history → All FitsEntry history
entries_fit s [] store legal fits = All-nil FitsEntry
entries_fit s (d ∷ ds) store legal fits =
    All-cons FitsEntry d ds (entry_fits s store d legal.0 (All-head FitsLine d ds fits)) (entries_fit s ds (after_entry s store d) legal.1 (All-tail FitsLine d ds fits))

-- ---- the report

reported : (s : Schemas) (ends : List Ended) (history : List Did) (store : Plain) → IsLegal s history store → FitsReport ends history → IsReported ends history
reported s ends history store legal fits = record { items = fits.items; entries = entries_fit s history store legal.each fits.lines; count = fits.count }

pub report_tells : (s : Schemas) (ends : List Ended) (history : List Did) (store : Plain) (text : List ℕ) → IsLegal s history store → FitsReport ends history → text ≡ report_text ends history → TellsReport ends history text
report_tells s ends history store text legal fits is =
    let told = reported s ends history store legal fits in
    record { printed = is; reported = told; only = λ others other k e. text_tells others other ends history k told (sym e ∙ is) }
