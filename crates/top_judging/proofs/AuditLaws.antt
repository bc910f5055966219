-- What is replied to an audit at one stage is replied at the next.
use Rattle.class_defs.specs.declared.declarations.Declarations.{Declarations}
use Rattle.class_defs.specs.declared.store.Schemas.{Schemas}
use Rattle.script_check.specs.Upgrading.{upgrades_of}
use Rattle.script_parse.specs.declared.refusal.Refusal.TheVariants as refusal
use Rattle.script_parse.specs.declared.script.Script.{Script}
use Rattle.std.proofs.Common.{◌≡◌, ◌∙◌, ◌<◌, ◌≤◌, arith, List, Option, Some, None, inl, inr, length, refl, subst, sym, ℕ}
use Rattle.store_opening.specs.declared.found.Store.TheVariants.{Fresh}
use Rattle.top_judging.specs.Stages.{FitsStore, HasSchemas, MisfitsStore, RepliesRule}
use Rattle.top_judging.specs.Audits.{RepliesAudit, RepliesAudited, RepliesParts, RepliesReport, RepliesSource}
use Rattle.top_reply.specs.declared.reply.Reply.{Reply}
use Rattle.top_reply.specs.declared.reply.Reply.TheVariants as reply
use Rattle.top_statement.specs.Audits.{audited_of, report_part, script_part}
use Rattle.top_statement.specs.Opening.{IsAccepted, first_schemas}
use Rattle.top_statement.specs.Top.{Told, WasRead}
use Rattle.top_words.specs.declared.command.Plan.{Plan}

module _ (plan : Plan) where
  -- a script with too many upgrades
  pub limit_audit : (script : Script) (part : Option (List ℕ)) → 1000 < length (upgrades_of script.clients) → RepliesAudit plan script part (reply.Limit 1000)
  limit_audit script part over = inl (inl (1000, (refl, inl (refl, omega (arith, over)))))

  -- one without a setup
  pub setup_audit : (script : Script) (part : Option (List ℕ)) → script.setup ≡ None → length script.clients ≤ 64 → length script.events ≤ 1000000 → length (upgrades_of script.clients) ≤ 1000 → RepliesAudit plan script part (reply.Refused refusal.Setup)
  setup_audit script part none clients events upgrades =
      inl (inr (inl (refl, (record { clients = clients; events = events; upgrades = upgrades }, subst (λ (s : Option Declarations). MisfitsStore s Fresh) (sym none) refl))))

  -- one that breaks a rule
  pub rule_audit : (script : Script) (part : Option (List ℕ)) (setup : Declarations) (base : Schemas) → script.setup ≡ Some setup → (r : Reply) → RepliesRule plan script base r → RepliesAudit plan script part r
  rule_audit script part setup base has r broken =
      inl (inr (inr (subst (λ (s : Option Declarations). FitsStore s Fresh) (sym has) refl, (base, (subst (λ (s : Option Declarations). HasSchemas s Fresh base) (sym has) tt, broken)))))

  -- one that breaks no rule
  pub accepted_audit : (script : Script) (part : Option (List ℕ)) (setup : Declarations) (base judged : Schemas) → length script.clients ≤ 64 → length script.events ≤ 1000000 → length (upgrades_of script.clients) ≤ 1000 → script.setup ≡ Some setup
      → base ≡ first_schemas setup → judged ≡ base → IsAccepted plan.repos script judged → (r : Reply) → RepliesReport (audited_of setup script) part r → RepliesAudit plan script part r
  accepted_audit script part setup base judged clients events upgrades has is same accepted r replies = inr (record {
    within = record { clients = clients; events = events; upgrades = upgrades };
    setup = setup;
    has_setup = has;
    accepted = subst (λ (s : Schemas). IsAccepted plan.repos script s) (same ∙ is) accepted;
    replies = replies;
  })

  -- the bytes are divided
  pub divided : (bytes script : List ℕ) (part : Option (List ℕ)) → script ≡ script_part bytes → part ≡ report_part bytes → (r : Reply) → RepliesParts plan script part r → RepliesAudited plan bytes r
  divided bytes script part is part_is r replies = subst (λ (p : Option (List ℕ)). RepliesParts plan (script_part bytes) p r) part_is (subst (λ (s : List ℕ). RepliesParts plan s part r) is replies)

  -- all of them were read
  pub read_source : (before after : Told) (bytes slice : List ℕ) → WasRead before.left after.left bytes → slice ≡ bytes → (r : Reply) → RepliesAudited plan slice r → RepliesSource plan before after r
  read_source before after bytes slice was same r replies = inl (bytes, (was, subst (λ (b : List ℕ). RepliesAudited plan b r) same replies))
