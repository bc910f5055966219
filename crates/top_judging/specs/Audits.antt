-- What is replied to an audit, stage by stage (this project's).
use Rattle.audit_check.specs.declared.audited.Audited.{Audited}
use Rattle.audit_check.specs.declared.disagreement.Disagreement.{Disagreement}
use Rattle.class_defs.specs.declared.declarations.Declarations.{Declarations}
use Rattle.outside.specs.Faults.{Rose}
use Rattle.outside.specs.Streams.{IsMoreThan}
use Rattle.script_parse.specs.declared.script.Script.{Script}
use Rattle.std.specs.Prelude.{◌≡◌, ◌⊎◌, ℕ, List, Option, Some}
use Rattle.store_opening.specs.declared.found.Store.TheVariants.{Fresh}
use Rattle.top_judging.specs.Stages.{IsRead, RepliesText, RepliesUnjudged}
use Rattle.top_reply.specs.declared.reply.Reply.{Reply}
use Rattle.top_reply.specs.declared.reply.Reply.TheVariants as reply
use Rattle.top_statement.specs.Audits.{DisagreesAt, IsNoReport, IsTrueReport, audited_of, report_part, script_part}
use Rattle.top_statement.specs.Opening.{FreshBytes, IsAccepted, first_schemas}
use Rattle.top_statement.specs.Top.{IsWithinLimits, Told, WasRead}
use Rattle.top_words.specs.declared.command.Plan.{Plan}

-- what is replied of the bytes of a report
abbrev pub RepliesReport : Audited → Option (List ℕ) → Reply → Type 0
RepliesReport a part r =
    ((r ≡ reply.Legal) × IsTrueReport a part)
    ⊎ (((at : Disagreement) × ((r ≡ reply.Disagrees at) × DisagreesAt a part at))
    ⊎ ((line : ℕ) × ((r ≡ reply.NoReport line) × IsNoReport part line)))

-- what is replied of them behind a script that has a setup and breaks no rule
pub record RepliesAccepted (plan : Plan) (script : Script) (part : Option (List ℕ)) (r : Reply) : Type 0 where
  pub within : IsWithinLimits script
  pub setup : Declarations
  pub has_setup : script.setup ≡ Some setup
  pub accepted : IsAccepted plan.repos script (first_schemas setup)
  pub replies : RepliesReport (audited_of setup script) part r

-- what is replied of a script, which is taken to a fresh store, and of the bytes behind it
abbrev pub RepliesAudit : Plan → Script → Option (List ℕ) → Reply → Type 0
RepliesAudit plan script part r = RepliesUnjudged FreshBytes plan script Fresh r ⊎ RepliesAccepted plan script part r

-- what is replied of the bytes of a script, and of those behind it
abbrev pub RepliesParts : Plan → List ℕ → Option (List ℕ) → Reply → Type 0
RepliesParts plan bytes part r = RepliesText bytes r ⊎ ((script : Script) × (IsRead bytes script × RepliesAudit plan script part r))

-- what is replied of all bytes
abbrev pub RepliesAudited : Plan → List ℕ → Reply → Type 0
RepliesAudited plan bytes r = RepliesParts plan (script_part bytes) (report_part bytes) r

-- what is replied of what a source gives
abbrev pub RepliesSource : Plan → Told → Told → Reply → Type 0
RepliesSource plan before after r =
    ((bytes : List ℕ) × (WasRead before.left after.left bytes × RepliesAudited plan bytes r))
    ⊎ (((r ≡ reply.Limit 8388608) × IsMoreThan 8388608 before.left)
    ⊎ ((r ≡ reply.SourceFault) × Rose before.faults after.faults))
