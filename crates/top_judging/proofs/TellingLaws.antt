-- What is replied where no run was made tells none.
use Rattle.script_bank.specs.Bank.{script_text}
use Rattle.script_parse.specs.declared.script.Script.{Script}
use Rattle.std.proofs.Common.{Err, IfOk, List, Ok, Option, Result, inl, inr, subst, ℕ}
use Rattle.store_opening.specs.declared.found.Store.TheVariants.{Fresh}
use Rattle.store_opening.specs.declared.found.Store.{Store}
use Rattle.thor_value.specs.declared.memory.NoMemory.{NoMemory}
use Rattle.audit_check.specs.declared.audited.Audited.{Audited}
use Rattle.top_judging.specs.Audits.{RepliesAudit, RepliesAudited, RepliesReport, RepliesSource}
use Rattle.top_judging.specs.Origins.{RepliesUnreadFor}
use Rattle.top_judging.specs.Stages.{RepliesText, RepliesUnjudged, RepliesUnopened, RepliesUnread, RepliesUnsettled}
use Rattle.top_reply.specs.declared.reply.Reply.{Reply}
use Rattle.top_statement.specs.Audits.{audited_of, report_part, script_part}
use Rattle.top_statement.specs.Opening.{DiskBytes, FreshBytes}
use Rattle.top_statement.specs.Telling.{TellsNoRun, TellsRun}
use Rattle.top_statement.specs.Top.{Front, Generated, Origin, Told, Whole}
use Rattle.top_words.specs.declared.command.Plan.{Plan}

-- what is replied tells no run, where no such reply does
pub none_tell : (r : Result Reply NoMemory) (Replies : Reply → Type 0) → ((w : Reply) → Replies w → TellsRun w → ⊥) → IfOk r Replies → TellsNoRun r
none_tell (Ok w) Replies none replied = none w replied
none_tell (Err e) Replies none replied = λ tells. tells

pub unopened_tells : (r : Reply) → RepliesUnopened r → TellsRun r → ⊥
unopened_tells r (inl failed) tells = subst TellsRun failed.1 tells
unopened_tells r (inr damaged) tells = subst TellsRun damaged.3 tells

pub unsettled_tells : (r : Reply) → RepliesUnsettled r → TellsRun r → ⊥
unsettled_tells r failed tells = subst TellsRun failed.1 tells

pub unjudged_tells : (D : DiskBytes) (plan : Plan) (script : Script) (store : Store) (r : Reply) → RepliesUnjudged D plan script store r → TellsRun r → ⊥
unjudged_tells D plan script store r (inl over) tells = subst TellsRun over.1.0 tells
unjudged_tells D plan script store r (inr (inl setup)) tells = subst TellsRun setup.0 tells
unjudged_tells D plan script store r (inr (inr rule)) tells = subst TellsRun rule.1.1.1.1.0 tells

-- ---- the script

text_tells : (bytes : List ℕ) (r : Reply) → RepliesText bytes r → TellsRun r → ⊥
text_tells bytes r (inl none) tells = subst TellsRun none.1.0 tells
text_tells bytes r (inr over) tells = subst TellsRun over.1.1.1.0 tells

unread_tells : (before after : Told) (r : Reply) → RepliesUnread before after r → TellsRun r → ⊥
unread_tells before after r (inl none) tells = text_tells none.0 r none.1.1 tells
unread_tells before after r (inr (inl long)) tells = subst TellsRun long.0 tells
unread_tells before after r (inr (inr failed)) tells = subst TellsRun failed.0 tells

-- ---- an audit

report_tells : (a : Audited) (part : Option (List ℕ)) (r : Reply) → RepliesReport a part r → TellsRun r → ⊥
report_tells a part r (inl legal) tells = subst TellsRun legal.0 tells
report_tells a part r (inr (inl disagrees)) tells = subst TellsRun disagrees.1.0 tells
report_tells a part r (inr (inr none)) tells = subst TellsRun none.1.0 tells

audit_tells : (plan : Plan) (script : Script) (part : Option (List ℕ)) (r : Reply) → RepliesAudit plan script part r → TellsRun r → ⊥
audit_tells plan script part r (inl none) tells = unjudged_tells FreshBytes plan script Fresh r none tells
audit_tells plan script part r (inr accepted) tells = report_tells (audited_of accepted.setup script) part r accepted.replies tells

audited_tells : (plan : Plan) (bytes : List ℕ) (r : Reply) → RepliesAudited plan bytes r → TellsRun r → ⊥
audited_tells plan bytes r (inl none) tells = text_tells (script_part bytes) r none tells
audited_tells plan bytes r (inr read) tells = audit_tells plan read.0 (report_part bytes) r read.1.1 tells

source_tells : (plan : Plan) (before after : Told) (r : Reply) → RepliesSource plan before after r → TellsRun r → ⊥
source_tells plan before after r (inl read) tells = audited_tells plan read.0 r read.1.1 tells
source_tells plan before after r (inr (inl long)) tells = subst TellsRun long.0 tells
source_tells plan before after r (inr (inr failed)) tells = subst TellsRun failed.0 tells

-- nothing that is replied in place of a script tells a run
pub unread_for_tells : (m : Origin) (plan : Plan) (before after : Told) (r : Reply) → RepliesUnreadFor m plan before after r → TellsRun r → ⊥
unread_for_tells Whole plan before after r none tells = unread_tells before after r none tells
unread_for_tells Front plan before after r none tells = source_tells plan before after r none tells
unread_for_tells (Generated n) plan before after r none tells = text_tells (script_text n plan.repos) r none.1 tells
