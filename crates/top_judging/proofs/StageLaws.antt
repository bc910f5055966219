-- What is replied at one stage is replied at the next.
use Rattle.class_defs.specs.declared.declarations.Declarations.{Declarations}
use Rattle.class_defs.specs.declared.store.Plain.{Plain}
use Rattle.class_defs.specs.declared.store.Schemas.{Schemas}
use Rattle.script_parse.specs.Script.{HasFew, IsWritten}
use Rattle.script_parse.specs.declared.refusal.Refusal.TheVariants as refusals
use Rattle.script_parse.specs.declared.script.Script.{Script}
use Rattle.std.proofs.Common.{◌≡◌, ◌≤◌, Err, IfOk, List, Ok, Option, Result, Some, None, inl, inr, length, refl, subst, sym, ℕ}
use Rattle.std.proofs.lemmas.Option.{same_Some}
use Rattle.std.specs.Prelude.{IfErr, IfSome}
use Rattle.outside.specs.Faults.{Rose}
use Rattle.outside.specs.Streams.{IsMoreThan}
use Rattle.script_bank.specs.Bank.{script_text}
use Rattle.store_opening.specs.Reading.{AreSpelledOn, IsOpened, IsOpenedIn, IsStoredIn, schemas_in}
use Rattle.store_opening.specs.declared.found.Store.TheVariants.{Fresh, Open}
use Rattle.store_opening.specs.declared.found.Store.{Store}
use Rattle.thor_value.specs.declared.memory.NoMemory.{NoMemory}
use Rattle.top_judging.specs.Audits.{RepliesAccepted, RepliesAudit, RepliesAudited, RepliesReport, RepliesSource}
use Rattle.top_judging.specs.Origins.{IsScriptFor, RepliesUnreadFor}
use Rattle.top_judging.specs.Stages.{FitsStore, HasSchemas, IsOpenedAs, IsRead, IsReadFrom, MisfitsStore, RepliesOver, RepliesRefused, RepliesRule, RepliesText, RepliesUnjudged, RepliesUnread, RepliesUnsettled, RepliesWhy}
use Rattle.repo_opening.specs.declared.unopened.Unopened.TheVariants as why
use Rattle.repo_opening.specs.declared.unopened.Unopened.{Unopened}
use Rattle.top_reply.specs.declared.reply.Reply.{Reply}
use Rattle.top_reply.specs.declared.reply.Reply.TheVariants as reply
use Rattle.top_statement.specs.Audits.{audited_of, report_part, script_part}
use Rattle.top_statement.specs.Opening.{AreSpelledBy, DiskBytes, FitsDisks, FreshBytes, GoesWith, IsAgainst, IsStoredBy, MisfitsDisks}
use Rattle.top_statement.specs.Top.{Front, Generated, HasBytes, HoldNoStore, IsFromSource, IsOverLimit, IsRefusalOf, Origin, Reads, RepliesTo, Says, Told, WasRead, Whole, disks_for, origin_of}
use Rattle.top_words.specs.declared.command.Command.{Command}
use Rattle.top_words.specs.declared.command.Command.TheVariants.{Audit, Check, Gen, Play, Run}
use Rattle.top_words.specs.declared.command.Plan.{Plan}

-- ---- replies

pub ok_map : {A E : Type 0} (r : Result A E) (P Q : A → Type 0) → ((a : A) → P a → Q a) → IfOk r P → IfOk r Q
ok_map (Ok a) P Q f p = f a p
ok_map (Err e) P Q f p = tt

pub err_map : {A E : Type 0} (r : Result A E) (P Q : E → Type 0) → ((e : E) → P e → Q e) → IfErr r P → IfErr r Q
err_map (Ok a) P Q f p = tt
err_map (Err e) P Q f p = f e p

-- this is replied, and so that
pub err_reply_map : {A : Type 0} (r : Result A (Result Reply NoMemory)) (P Q : Reply → Type 0) → ((w : Reply) → P w → Q w)
    → IfErr r (λ q. IfOk q P) → IfErr r (λ q. IfOk q Q)
err_reply_map (Ok a) P Q f p = tt
err_reply_map (Err q) P Q f p = ok_map q P Q f p

-- ---- the script

pub read_within : {E : Type 0} (bytes : List ℕ) (script : Script) (r : Result Script E) → IsWritten bytes script → HasFew script.setup
    → IfOk r (λ within. within ≡ script) → IfOk r (λ within. length within.clients ≤ 64) → IfOk r (λ within. length within.events ≤ 1000000) → IfOk r (IsRead bytes)
read_within bytes script (Ok within) written few is clients events = record {
  written = subst (λ (w : Script). IsWritten bytes w) (sym is) written;
  few = subst (λ (w : Script). HasFew w.setup) (sym is) few;
  clients = clients;
  events = events;
}
read_within bytes script (Err e) written few is clients events = tt

pub over_is_none : (bytes : List ℕ) (script : Script) → IsWritten bytes script → (r : Reply) → RepliesOver script r → RepliesText bytes r
over_is_none bytes script written r over = inr (script, (written, over))

pub read_from : {E : Type 0} (before after : Told) (bytes slice : List ℕ) (r : Result Script E) → WasRead before.left after.left bytes → slice ≡ bytes → IfOk r (IsRead slice) → IfOk r (IsReadFrom before after)
read_from before after bytes slice (Ok script) was same read = record { bytes = bytes; was = was; read = subst (λ (b : List ℕ). IsRead b script) same read }
read_from before after bytes slice (Err e) was same read = tt

pub unread : (before after : Told) (bytes slice : List ℕ) → WasRead before.left after.left bytes → slice ≡ bytes → (r : Reply) → RepliesText slice r → RepliesUnread before after r
unread before after bytes slice was same r none = inl (bytes, (was, subst (λ (b : List ℕ). RepliesText b r) same none))

-- what is true of an old slice is true of the text that it is
pub read_same : {E : Type 0} (slice bytes : List ℕ) (r : Result Script E) → slice ≡ bytes → IfOk r (IsRead slice) → IfOk r (IsRead bytes)
read_same slice bytes r same = subst (λ (b : List ℕ). IfOk r (IsRead b)) same

pub none_same : {A : Type 0} (slice bytes : List ℕ) (r : Result A (Result Reply NoMemory)) → slice ≡ bytes
    → IfErr r (λ q. IfOk q (RepliesText slice)) → IfErr r (λ q. IfOk q (RepliesText bytes))
none_same slice bytes r same = subst (λ (b : List ℕ). IfErr r (λ q. IfOk q (RepliesText b))) same

-- ---- the store

-- what is opened of a store that was found is the one for which the disks stand
pub opened_at : (images : List (ℕ → List ℕ)) (store : Store) (base : Schemas) (opened : Plain) → schemas_in store ≡ Some base → IsOpenedIn images store (Some opened) → IsOpened images base opened
opened_at images Fresh base opened is at = absurd at
opened_at images (Open s) base opened is at = subst (λ (b : Schemas). IsOpened images b opened) (same_Some s.schemas base is) at

pub stored_as : {E : Type 0} (images : List (ℕ → List ℕ)) (setup : Option Declarations) (base : Schemas) (r : Result (Option Plain) E) → setup ≡ None
    → IfOk r (λ store. IfSome store (IsOpened images base)) → IfOk r (λ store. IfSome store (IsOpenedAs images setup base))
stored_as images setup base (Ok (Some store)) is h = subst (λ (s : Option Declarations). IsOpenedAs images s base store) (sym is) h
stored_as images setup base (Ok None) is h = tt
stored_as images setup base (Err e) is h = tt

-- ---- setup and fresh store

goes_with : (setup : Option Declarations) (store : Store) (images : List (ℕ → List ℕ)) → IsStoredIn images store → FitsStore setup store → GoesWith setup images
goes_with (Some s) Fresh images stored fits = stored
goes_with (Some s) (Open store) images stored fits = absurd (let no : Some store.schemas ≡ None = fits in cc)
goes_with None Fresh images stored fits = absurd (let no : None ≡ Some fits.0 = fits.1 in cc)
goes_with None (Open store) images stored fits = record { repositories = stored.repositories; each = stored.each }

is_against : (setup : Option Declarations) (store : Store) (images : List (ℕ → List ℕ)) → IsStoredIn images store → MisfitsStore setup store → IsAgainst setup images
is_against (Some s) Fresh images stored misfits = absurd (let no : None ≡ Some misfits.0 = misfits.1 in cc)
is_against (Some s) (Open store) images stored misfits = record { repositories = stored.repositories; each = stored.each }
is_against None Fresh images stored misfits = stored
is_against None (Open store) images stored misfits = absurd (let no : Some store.schemas ≡ None = misfits in cc)

-- what fits the store that was found fits the disks
pub fits_disks : (D : DiskBytes) (setup : Option Declarations) (store : Store) → IsStoredBy D store → FitsStore setup store → FitsDisks D setup
fits_disks D setup store stored fits = record { each = λ images reads. goes_with setup store images (stored.each images reads) fits }

misfits_disks : (D : DiskBytes) (setup : Option Declarations) (store : Store) → IsStoredBy D store → MisfitsStore setup store → MisfitsDisks D setup
misfits_disks D setup store stored misfits = record { each = λ images reads. is_against setup store images (stored.each images reads) misfits }

-- the schemas of a store that was found are those that its texts spell
pub spelled_by : (D : DiskBytes) (setup : Option Declarations) (store : Store) (base : Schemas) → IsStoredBy D store → HasSchemas setup store base → AreSpelledBy D setup base
spelled_by D (Some s) store base stored has = tt
spelled_by D None Fresh base stored has = absurd (let no : None ≡ Some base = has in cc)
spelled_by D None (Open s) base stored has = record { each = λ images reads. subst (λ (b : Schemas). AreSpelledOn images b) (same_Some s.schemas base has) (stored.spelled images reads) }

-- what is replied by a rule, where the script goes with the store
pub rule_refused : (plan : Plan) (script : Script) (store : Store) (base : Schemas) → FitsStore script.setup store → HasSchemas script.setup store base → (r : Reply) → RepliesRule plan script base r → RepliesRefused plan script store r
rule_refused plan script store base fits has r broken = inr (fits, (base, (has, broken)))

pub refused_unjudged : (D : DiskBytes) (plan : Plan) (script : Script) (store : Store) (r : Reply) → RepliesRefused plan script store r → RepliesUnjudged D plan script store r
refused_unjudged D plan script store r refused = inr refused

-- ---- what is replied to the script

module _ (D : DiskBytes) (plan : Plan) (script : Script) where
  over_replies : (r : Reply) → RepliesOver script r → RepliesTo D plan script r
  over_replies r over = subst (λ (w : Reply). RepliesTo D plan script w) (sym over.1.0) (inl over.1.1)

  pub unjudged_replies : (store : Store) → IsStoredBy D store → length script.clients ≤ 64 → length script.events ≤ 1000000 → (r : Reply) → RepliesUnjudged D plan script store r → RepliesTo D plan script r
  unjudged_replies store stored clients events r (inl over) = subst (λ (w : Reply). RepliesTo D plan script w) (sym over.1.0)
      (inr (record { clients = clients; events = events; store = store; stored = stored; over = over.1.1 }))
  unjudged_replies store stored clients events r (inr (inl setup)) = subst (λ (w : Reply). RepliesTo D plan script w) (sym setup.0)
      (setup.1.0, inl (refl, misfits_disks D script.setup store stored setup.1.1))
  unjudged_replies store stored clients events r (inr (inr rule)) =
      let has = rule.1.1.0 in
      let broken = rule.1.1.1 in
      subst (λ (w : Reply). RepliesTo D plan script w) (sym broken.1.0)
      (broken.1.1.0, inr (fits_disks D script.setup store stored rule.0, (rule.1.0, (spelled_by D script.setup store rule.1.0 stored has, broken.1.1.1))))

  pub unopened_replies : (cause : Unopened) → ((repo disk place : ℕ) → cause ≡ why.Damaged repo disk place → HoldNoStore D repo disk place) → (r : Reply) → RepliesWhy cause r → RepliesTo D plan script r
  unopened_replies (why.Failed repo) none r is = subst (λ (w : Reply). RepliesTo D plan script w) (sym is) tt
  unopened_replies (why.Damaged repo disk place) none r is = subst (λ (w : Reply). RepliesTo D plan script w) (sym is) (none repo disk place refl)
  unopened_replies why.NoMemory none r is = absurd is

  pub unsettled_replies : (r : Reply) → RepliesUnsettled r → RepliesTo D plan script r
  unsettled_replies r failed = subst (λ (w : Reply). RepliesTo D plan script w) (sym failed.1) tt

-- ---- what is said by a plan

module _ (D : DiskBytes) (Like : Plan → Type 0) (NoPlan : Type 0) (plan : Plan) (is : Like plan) (before after : Told) where
  -- its script was read, and this is replied to it on the store to which the command takes it
  replied : ((P : DiskBytes → Type 0) → P D → P (disks_for plan.command D)) → (script : Script) (bytes : List ℕ) → HasBytes (origin_of plan.command) plan.repos before after bytes → IsWritten bytes script → (r : Reply) → RepliesTo D plan script r → Says D Like NoPlan before after r
  replied same script bytes has written (reply.Report finished text) says = record { plan = plan; is = is; says = record { script = script; bytes = bytes; has = has; written = written; says = says } }
  replied same script bytes has written (reply.Summary finished text) says = record { plan = plan; is = is; says = record { script = script; bytes = bytes; has = has; written = written; says = says } }
  replied same script bytes has written reply.Accepted says = record { plan = plan; is = is; says = record { script = script; bytes = bytes; has = has; written = written; says = says } }
  replied same script bytes has written (reply.Refused refusal) says = record { plan = plan; is = is; says = inr (record { script = script; bytes = bytes; has = has; written = written; says = same (λ E. IsRefusalOf E plan script refusal) says }) }
  replied same script bytes has written (reply.Limit limit) says = record { plan = plan; is = is; says = inl (record { script = script; bytes = bytes; has = has; written = written; says = same (λ E. IsOverLimit E script limit) says }) }
  replied same script bytes has written (reply.DiskFault repo) says = record { plan = plan; is = is; says = record { script = script; bytes = bytes; has = has; written = written; says = says } }
  replied same script bytes has written (reply.Damaged repo disk place) says = record { plan = plan; is = is; says = record { script = script; bytes = bytes; has = has; written = written; says = says } }
  replied same script bytes has written reply.Words says = absurd says
  replied same script bytes has written reply.SourceFault says = absurd says
  replied same script bytes has written reply.Legal says = absurd says
  replied same script bytes has written (reply.Disagrees at) says = absurd says
  replied same script bytes has written (reply.NoReport line) says = absurd says

  -- a command that has a script takes it to the store of the parts
  same_disks : (c : Command) (script : Script) → IsScriptFor (origin_of c) plan.repos before after script → (P : DiskBytes → Type 0) → P D → P (disks_for c D)
  same_disks Check script from P p = p
  same_disks Play script from P p = p
  same_disks Run script from P p = p
  same_disks (Gen n) script from P p = p
  same_disks Audit script from P p = absurd from

  pub has_script : (m : Origin) (script : Script) → IsScriptFor m plan.repos before after script → (bytes : List ℕ) × (HasBytes m plan.repos before after bytes × IsWritten bytes script)
  has_script Whole script from = (from.bytes, (from.was, from.read.written))
  has_script Front script from = absurd from
  has_script (Generated n) script from = (script_text n plan.repos, ((from.0, refl), from.1.written))

  pub script_says : (script : Script) → IsScriptFor (origin_of plan.command) plan.repos before after script → (r : Reply) → RepliesTo D plan script r → Says D Like NoPlan before after r
  script_says script from r says = let had = has_script (origin_of plan.command) script from in replied (same_disks plan.command script from) script had.0 had.1.0 had.1.1 r says

  -- it has no script, and this is replied
  text_says : (bytes : List ℕ) → HasBytes (origin_of plan.command) plan.repos before after bytes → (r : Reply) → RepliesText bytes r → Says D Like NoPlan before after r
  text_says bytes has r (inl none) = subst (λ (w : Reply). Says D Like NoPlan before after w) (sym none.1.0) (record { plan = plan; is = is; says = inl (record { bytes = bytes; has = has; says = none.1.1 }) })
  text_says bytes has r (inr over) = subst (λ (w : Reply). Says D Like NoPlan before after w) (sym over.1.1.1.0)
      (record { plan = plan; is = is; says = inl (record { script = over.0; bytes = bytes; has = has; written = over.1.0; says = inl over.1.1.1.1 }) })

  over_says : Reads plan.command → IsMoreThan 8388608 before.left → (r : Reply) → r ≡ reply.Limit 8388608 → Says D Like NoPlan before after r
  over_says reads long r same = subst (λ (w : Reply). Says D Like NoPlan before after w) (sym same) (record { plan = plan; is = is; says = inr (reads, (long, refl)) })

  failed_says : Reads plan.command → Rose before.faults after.faults → (r : Reply) → r ≡ reply.SourceFault → Says D Like NoPlan before after r
  failed_says reads rose r same = subst (λ (w : Reply). Says D Like NoPlan before after w) (sym same) (record { plan = plan; is = is; says = (reads, rose) })

  unread_says : origin_of plan.command ≡ Whole → (r : Reply) → RepliesUnread before after r → Says D Like NoPlan before after r
  unread_says whole r (inl none) = text_says none.0 (subst (λ (m : Origin). HasBytes m plan.repos before after none.0) (sym whole) none.1.0) r none.1.1
  unread_says whole r (inr (inl long)) = over_says (subst IsFromSource (sym whole) tt) long.1 r long.0
  unread_says whole r (inr (inr failed)) = failed_says (subst IsFromSource (sym whole) tt) failed.1 r failed.0

  -- ---- an audit

  module _ (front : origin_of plan.command ≡ Front) where
    has_front : (bytes : List ℕ) → WasRead before.left after.left bytes → HasBytes (origin_of plan.command) plan.repos before after (script_part bytes)
    has_front bytes was = subst (λ (m : Origin). HasBytes m plan.repos before after (script_part bytes)) (sym front) (bytes, (was, refl))

    is_audit : (c : Command) → origin_of c ≡ Front → c ≡ Audit
    is_audit Check e = let bad : Whole ≡ Front = e in cc
    is_audit Play e = let bad : Whole ≡ Front = e in cc
    is_audit Run e = let bad : Whole ≡ Front = e in cc
    is_audit (Gen n) e = let bad : Generated n ≡ Front = e in cc
    is_audit Audit e = refl

    report_says : (bytes : List ℕ) → WasRead before.left after.left bytes → (script : Script) → IsWritten (script_part bytes) script → (r : Reply) → RepliesAccepted plan script (report_part bytes) r → Says D Like NoPlan before after r
    report_says bytes was script written r accepted = by_reply accepted.replies
      where
        by_reply : RepliesReport (audited_of accepted.setup script) (report_part bytes) r → Says D Like NoPlan before after r
        by_reply (inl legal) = subst (λ (w : Reply). Says D Like NoPlan before after w) (sym legal.0) (record { plan = plan; is = is; says = record { audits = is_audit plan.command front; bytes = bytes; was = was; script = script; written = written; within = accepted.within; setup = accepted.setup; has_setup = accepted.has_setup; accepted = accepted.accepted; says = legal.1 } })
        by_reply (inr (inl disagrees)) = subst (λ (w : Reply). Says D Like NoPlan before after w) (sym disagrees.1.0) (record { plan = plan; is = is; says = record { audits = is_audit plan.command front; bytes = bytes; was = was; script = script; written = written; within = accepted.within; setup = accepted.setup; has_setup = accepted.has_setup; accepted = accepted.accepted; says = disagrees.1.1 } })
        by_reply (inr (inr none)) = subst (λ (w : Reply). Says D Like NoPlan before after w) (sym none.1.0) (record { plan = plan; is = is; says = record { audits = is_audit plan.command front; bytes = bytes; was = was; script = script; written = written; within = accepted.within; setup = accepted.setup; has_setup = accepted.has_setup; accepted = accepted.accepted; says = none.1.1 } })

    fresh : IsStoredBy FreshBytes Fresh
    fresh = record { each = λ images reads. reads; spelled = λ images reads. tt }

    unjudged_says : (bytes : List ℕ) → HasBytes (origin_of plan.command) plan.repos before after bytes → (script : Script) → IsRead bytes script → (r : Reply) → RepliesUnjudged FreshBytes plan script Fresh r → Says D Like NoPlan before after r
    unjudged_says bytes has script read r (inl over) = subst (λ (w : Reply). Says D Like NoPlan before after w) (sym over.1.0)
        (record {
          plan = plan;
          is = is;
          says = inl (record {
            script = script;
            bytes = bytes;
            has = has;
            written = read.written;
            says = subst (λ (c : Command). IsOverLimit (disks_for c D) script over.0) (sym (is_audit plan.command front))
                (unjudged_replies FreshBytes plan script Fresh fresh read.clients read.events (reply.Limit over.0) (inl (over.0, (refl, over.1.1))));
          });
        })
    unjudged_says bytes has script read r (inr (inl setup)) = subst (λ (w : Reply). Says D Like NoPlan before after w) (sym setup.0)
        (record {
          plan = plan;
          is = is;
          says = inr (record {
            script = script;
            bytes = bytes;
            has = has;
            written = read.written;
            says = subst (λ (c : Command). IsRefusalOf (disks_for c D) plan script refusals.Setup) (sym (is_audit plan.command front))
                (unjudged_replies FreshBytes plan script Fresh fresh read.clients read.events (reply.Refused refusals.Setup) (inr (inl (refl, setup.1))));
          });
        })
    unjudged_says bytes has script read r (inr (inr rule)) =
        let broken = rule.1.1.1 in
        subst (λ (w : Reply). Says D Like NoPlan before after w) (sym broken.1.0)
        (record {
          plan = plan;
          is = is;
          says = inr (record {
            script = script;
            bytes = bytes;
            has = has;
            written = read.written;
            says = subst (λ (c : Command). IsRefusalOf (disks_for c D) plan script broken.0) (sym (is_audit plan.command front))
                (unjudged_replies FreshBytes plan script Fresh fresh read.clients read.events (reply.Refused broken.0) (inr (inr (rule.0, (rule.1.0, (rule.1.1.0, (broken.0, (refl, broken.1.1))))))));
          });
        })

    audit_says : (bytes : List ℕ) → WasRead before.left after.left bytes → (script : Script) → IsRead (script_part bytes) script → (r : Reply) → RepliesAudit plan script (report_part bytes) r → Says D Like NoPlan before after r
    audit_says bytes was script read r (inl none) = unjudged_says (script_part bytes) (has_front bytes was) script read r none
    audit_says bytes was script read r (inr accepted) = report_says bytes was script read.written r accepted

    parts_say : (bytes : List ℕ) → WasRead before.left after.left bytes → (r : Reply) → RepliesAudited plan bytes r → Says D Like NoPlan before after r
    parts_say bytes was r (inl none) = text_says (script_part bytes) (has_front bytes was) r none
    parts_say bytes was r (inr read) = audit_says bytes was read.0 read.1.0 r read.1.1

    source_says : (r : Reply) → RepliesSource plan before after r → Says D Like NoPlan before after r
    source_says r (inl read) = parts_say read.0 read.1.0 r read.1.1
    source_says r (inr (inl long)) = over_says (subst IsFromSource (sym front) tt) long.1 r long.0
    source_says r (inr (inr failed)) = failed_says (subst IsFromSource (sym front) tt) failed.1 r failed.0

  none_says_at : (m : Origin) → origin_of plan.command ≡ m → (r : Reply) → RepliesUnreadFor m plan before after r → Says D Like NoPlan before after r
  none_says_at Whole made r none = unread_says made r none
  none_says_at Front made r none = source_says made r none
  none_says_at (Generated n) made r none = text_says (script_text n plan.repos) (subst (λ (m : Origin). HasBytes m plan.repos before after (script_text n plan.repos)) (sym made) (none.0, refl)) r none.1

  pub none_says : (r : Reply) → RepliesUnreadFor (origin_of plan.command) plan before after r → Says D Like NoPlan before after r
  none_says r none = none_says_at (origin_of plan.command) refl r none
