-- What is replied but where a store was read tells of no disk that failed.
use Rattle.audit_check.specs.declared.audited.Audited.{Audited}
use Rattle.repo_opening.specs.declared.unopened.Unopened.TheVariants as why
use Rattle.repo_opening.specs.declared.unopened.Unopened.{Unopened}
use Rattle.script_bank.specs.Bank.{script_text}
use Rattle.script_parse.specs.declared.script.Script.{Script}
use Rattle.std.proofs.Common.{Err, IfOk, List, Ok, Option, Result, ap, inl, inr, subst, sym, ℕ, ◌∙◌, ◌≡◌}
use Rattle.store_opening.specs.declared.found.Store.TheVariants.{Fresh}
use Rattle.store_opening.specs.declared.found.Store.{Store}
use Rattle.thor_value.specs.declared.memory.NoMemory.{NoMemory}
use Rattle.top_judging.specs.Audits.{RepliesAudit, RepliesAudited, RepliesReport, RepliesSource}
use Rattle.top_judging.specs.Origins.{RepliesUnreadFor}
use Rattle.top_judging.specs.Stages.{RepliesText, RepliesUnjudged, RepliesUnread, RepliesWhy}
use Rattle.top_reply.specs.declared.reply.Reply.TheVariants as reply
use Rattle.top_reply.specs.declared.reply.Reply.{Reply}
use Rattle.top_statement.specs.Audits.{audited_of, report_part, script_part}
use Rattle.top_statement.specs.Opening.{DiskBytes, FreshBytes}
use Rattle.top_statement.specs.Top.{Front, Generated, Origin, Told, Whole}
use Rattle.top_words.specs.declared.command.Plan.{Plan}

-- the reply is of a disk
abbrev pub TellsDisk : Reply → Type 0
TellsDisk (reply.Report finished text) = ⊥
TellsDisk (reply.Summary finished text) = ⊥
TellsDisk reply.Accepted = ⊥
TellsDisk (reply.Refused refusal) = ⊥
TellsDisk (reply.Limit limit) = ⊥
TellsDisk (reply.DiskFault repo) = Unit {0}
TellsDisk (reply.Damaged repo disk place) = ⊥
TellsDisk reply.Words = ⊥
TellsDisk reply.SourceFault = ⊥
TellsDisk reply.Legal = ⊥
TellsDisk (reply.Disagrees at) = ⊥
TellsDisk (reply.NoReport line) = ⊥

-- where no such reply is of one, that of a disk isn't given
pub no_disk : (r : Result Reply NoMemory) (Replies : Reply → Type 0) (repo : ℕ) → ((w : Reply) → Replies w → TellsDisk w → ⊥) → IfOk r Replies → r ≡ Ok (reply.DiskFault repo) → ⊥
no_disk (Ok w) Replies repo none replied is = none w replied (subst TellsDisk (sym (same w is)) tt)
  where
    same : (v : Reply) → ◌≡◌ {A = Result Reply NoMemory} (Ok v) (Ok (reply.DiskFault repo)) → v ≡ reply.DiskFault repo
    same v e = cc
no_disk (Err e) Replies repo none replied is = absurd (cc)

pub other_disk : (r : Result Reply NoMemory) (w : Reply) (repo : ℕ) → r ≡ Ok w → (TellsDisk w → ⊥) → r ≡ Ok (reply.DiskFault repo) → ⊥
other_disk r w repo made none is = none (subst TellsDisk (sym (same w (sym made ∙ is))) tt)
  where
    same : (v : Reply) → ◌≡◌ {A = Result Reply NoMemory} (Ok v) (Ok (reply.DiskFault repo)) → v ≡ reply.DiskFault repo
    same v e = cc

pub err_disk : (r : Result Reply NoMemory) (e : NoMemory) (repo : ℕ) → r ≡ Err e → r ≡ Ok (reply.DiskFault repo) → ⊥
err_disk r e repo made is = by (sym made ∙ is)
  where
    by : ◌≡◌ {A = Result Reply NoMemory} (Err e) (Ok (reply.DiskFault repo)) → ⊥
    by told = cc

-- where the reply tells why a store couldn't be read
pub why_disk : (w : Unopened) (r : Result Reply NoMemory) (repo : ℕ) → IfOk r (RepliesWhy w) → r ≡ Ok (reply.DiskFault repo) → w ≡ why.Failed repo
why_disk w (Ok v) repo told is = by w (subst (RepliesWhy w) (same v is) told)
  where
    same : (v : Reply) → ◌≡◌ {A = Result Reply NoMemory} (Ok v) (Ok (reply.DiskFault repo)) → v ≡ reply.DiskFault repo
    same v e = cc

    one : (a b : ℕ) → reply.DiskFault a ≡ reply.DiskFault b → b ≡ a
    one a b e = cc

    by : (w : Unopened) → RepliesWhy w (reply.DiskFault repo) → w ≡ why.Failed repo
    by (why.Failed n) e = ap (λ (k : ℕ). why.Failed k) (one repo n e)
    by (why.Damaged n d place) e = absurd (subst TellsDisk e tt)
    by why.NoMemory e = absurd e
why_disk w (Err e) repo told is = absurd (cc)

-- ---- a script that was read

pub unjudged_disk : (D : DiskBytes) (plan : Plan) (script : Script) (store : Store) (r : Reply) → RepliesUnjudged D plan script store r → TellsDisk r → ⊥
unjudged_disk D plan script store r (inl over) tells = subst TellsDisk over.1.0 tells
unjudged_disk D plan script store r (inr (inl setup)) tells = subst TellsDisk setup.0 tells
unjudged_disk D plan script store r (inr (inr rule)) tells = subst TellsDisk rule.1.1.1.1.0 tells

-- ---- the script

text_disk : (bytes : List ℕ) (r : Reply) → RepliesText bytes r → TellsDisk r → ⊥
text_disk bytes r (inl none) tells = subst TellsDisk none.1.0 tells
text_disk bytes r (inr over) tells = subst TellsDisk over.1.1.1.0 tells

unread_disk : (before after : Told) (r : Reply) → RepliesUnread before after r → TellsDisk r → ⊥
unread_disk before after r (inl none) tells = text_disk none.0 r none.1.1 tells
unread_disk before after r (inr (inl long)) tells = subst TellsDisk long.0 tells
unread_disk before after r (inr (inr failed)) tells = subst TellsDisk failed.0 tells

-- ---- an audit

report_disk : (a : Audited) (part : Option (List ℕ)) (r : Reply) → RepliesReport a part r → TellsDisk r → ⊥
report_disk a part r (inl legal) tells = subst TellsDisk legal.0 tells
report_disk a part r (inr (inl disagrees)) tells = subst TellsDisk disagrees.1.0 tells
report_disk a part r (inr (inr none)) tells = subst TellsDisk none.1.0 tells

audit_disk : (plan : Plan) (script : Script) (part : Option (List ℕ)) (r : Reply) → RepliesAudit plan script part r → TellsDisk r → ⊥
audit_disk plan script part r (inl none) tells = unjudged_disk FreshBytes plan script Fresh r none tells
audit_disk plan script part r (inr accepted) tells = report_disk (audited_of accepted.setup script) part r accepted.replies tells

audited_disk : (plan : Plan) (bytes : List ℕ) (r : Reply) → RepliesAudited plan bytes r → TellsDisk r → ⊥
audited_disk plan bytes r (inl none) tells = text_disk (script_part bytes) r none tells
audited_disk plan bytes r (inr read) tells = audit_disk plan read.0 (report_part bytes) r read.1.1 tells

source_disk : (plan : Plan) (before after : Told) (r : Reply) → RepliesSource plan before after r → TellsDisk r → ⊥
source_disk plan before after r (inl read) tells = audited_disk plan read.0 r read.1.1 tells
source_disk plan before after r (inr (inl long)) tells = subst TellsDisk long.0 tells
source_disk plan before after r (inr (inr failed)) tells = subst TellsDisk failed.0 tells

-- nothing that is replied in place of a script tells of one
pub unread_for_disk : (m : Origin) (plan : Plan) (before after : Told) (r : Reply) → RepliesUnreadFor m plan before after r → TellsDisk r → ⊥
unread_for_disk Whole plan before after r none tells = unread_disk before after r none tells
unread_for_disk Front plan before after r none tells = source_disk plan before after r none tells
unread_for_disk (Generated n) plan before after r none tells = text_disk (script_text n plan.repos) r none.1 tells
