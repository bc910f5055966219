-- What a plan comes to first, by where its script comes from (this project's).
use Rattle.script_bank.specs.Bank.{script_text}
use Rattle.script_parse.specs.declared.script.Script.{Script}
use Rattle.std.specs.Prelude.{◌≡◌, ℕ}
use Rattle.top_judging.specs.Audits.{RepliesSource}
use Rattle.top_judging.specs.Stages.{IsRead, IsReadFrom, RepliesText, RepliesUnread}
use Rattle.top_reply.specs.declared.reply.Reply.{Reply}
use Rattle.top_statement.specs.Top.{Origin, Told}
use Rattle.top_statement.specs.Top.{Whole, Front, Generated}
use Rattle.top_words.specs.declared.command.Plan.{Plan}

-- the script of the source, or the generated one of this number; an audit runs none
abbrev pub IsScriptFor : Origin → ℕ → Told → Told → Script → Type 0
IsScriptFor Whole repos before after script = IsReadFrom before after script
IsScriptFor Front repos before after script = ⊥
IsScriptFor (Generated n) repos before after script = (after ≡ before) × IsRead (script_text n repos) script

-- what is replied where there is none, and of an audit
abbrev pub RepliesUnreadFor : Origin → Plan → Told → Told → Reply → Type 0
RepliesUnreadFor Whole plan before after r = RepliesUnread before after r
RepliesUnreadFor Front plan before after r = RepliesSource plan before after r
RepliesUnreadFor (Generated n) plan before after r = (after ≡ before) × RepliesText (script_text n plan.repos) r
