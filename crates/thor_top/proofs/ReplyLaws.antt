-- What is said by a plan is said by the words whose plan it is; and what the promises say of one reply.
use Rattle.std.proofs.Common.{◌≡◌, ◌∙◌, IfOk, List, Ok, Result, ap, inl, inr, subst, sym, ℕ}
use Rattle.std.proofs.lemmas.Option.{same_Some}
use Rattle.std.specs.Prelude.{None, Some}
use Rattle.thor_value.specs.declared.memory.NoMemory.{NoMemory}
use Rattle.top_reply.specs.declared.reply.Reply.{Reply}
use Rattle.top_reply.specs.declared.reply.Reply.TheVariants as reply
use Rattle.top_statement.proofs.WrittenLaws.{said_of}
use Rattle.top_statement.specs.Kept.{RefusesBy, WritesNothing}
use Rattle.top_statement.specs.Opening.{DiskBytes}
use Rattle.top_statement.specs.Top.{ByPlan, IsForOthers, IsHanded, IsNoPlan, IsPlan, Says, Told, form_of}
use Rattle.top_words.specs.Words.{plan_of}
use Rattle.top_words.specs.declared.command.Command.{Command}
use Rattle.top_words.specs.declared.command.Command.TheVariants.{Audit, Check}
use Rattle.top_words.specs.declared.command.Plan.{Plan}

-- ---- the plan

by_other : (L M : Plan → Type 0) (Of : Plan → Type 0) → ((p : Plan) → L p → M p) → ByPlan L Of → ByPlan M Of
by_other L M Of f b = record { plan = b.plan; is = f b.plan b.is; says = b.says }

module _ (D : DiskBytes) (L M : Plan → Type 0) (N O : Type 0) (f : (p : Plan) → L p → M p) (g : N → O) (before after : Told) where
  says_map : (r : Reply) → Says D L N before after r → Says D M O before after r
  says_map (reply.Report finished text) says = by_other L M _ f says
  says_map (reply.Summary finished text) says = by_other L M _ f says
  says_map reply.Accepted says = by_other L M _ f says
  says_map (reply.Refused refusal) says = by_other L M _ f says
  says_map (reply.Limit limit) says = by_other L M _ f says
  says_map (reply.DiskFault repo) says = by_other L M _ f says
  says_map (reply.Damaged repo disk place) says = by_other L M _ f says
  says_map reply.Words says = (g says.0, says.1)
  says_map reply.SourceFault says = by_other L M _ f says
  says_map reply.Legal says = by_other L M _ f says
  says_map (reply.Disagrees at) says = by_other L M _ f says
  says_map (reply.NoReport line) says = by_other L M _ f says

pub handed_is : (words : List (List ℕ)) (count : ℕ) (plan : Plan) → plan_of words ≡ Some plan → (p : Plan) → IsHanded plan count p → IsPlan words count p
handed_is words count plan is p handed = record { words_are = subst (λ (q : Plan). plan_of words ≡ Some q) (sym handed.same) is; repos_are = handed.repos_are }

for_others : (words : List (List ℕ)) (count : ℕ) (plan : Plan) → plan_of words ≡ Some plan → IsForOthers plan count → IsNoPlan words count
for_others words count plan is other = λ q k. other (subst (λ (p : Plan). p.repos ≡ count) (same_Some q plan (sym k.words_are ∙ is)) k.repos_are)

-- what is said by the plan of the words
pub words_say : (D : DiskBytes) (words : List (List ℕ)) (count : ℕ) (plan : Plan) (before after : Told) → plan_of words ≡ Some plan
    → (r : Reply) → Says D (IsHanded plan count) (IsForOthers plan count) before after r → Says D (IsPlan words count) (IsNoPlan words count) before after r
words_say D words count plan before after is = says_map D (IsHanded plan count) (IsPlan words count) (IsForOthers plan count) (IsNoPlan words count) (handed_is words count plan is) (for_others words count plan is) before after

pub no_words : (words : List (List ℕ)) (count : ℕ) → plan_of words ≡ None → IsNoPlan words count
no_words words count none = λ q k. let no : None ≡ Some q = sym none ∙ k.words_are in cc

-- ---- what stays of the disks

pub writes_nothing : (c : Command) (r : Result Reply NoMemory) → RefusesBy r → WritesNothing c r
writes_nothing c r refuses = inr refuses

pub check_writes : (c : Command) (r : Result Reply NoMemory) → c ≡ Check → WritesNothing c r
check_writes c r is = inl (ap (λ (d : Command). form_of d) is)

pub audit_writes : (c : Command) (r : Result Reply NoMemory) → c ≡ Audit → WritesNothing c r
audit_writes c r is = inl (ap (λ (d : Command). form_of d) is)

pub one_audit : (words : List (List ℕ)) (plan p : Plan) → plan_of words ≡ Some plan → plan_of words ≡ Some p → p.command ≡ Audit → plan.command ≡ Audit
one_audit words plan p is is_p audit = subst (λ (q : Plan). q.command ≡ Audit) (same_Some p plan (sym is_p ∙ is)) audit

pub one_check : (words : List (List ℕ)) (plan p : Plan) → plan_of words ≡ Some plan → plan_of words ≡ Some p → p.command ≡ Check → plan.command ≡ Check
one_check words plan p is is_p check = subst (λ (q : Plan). q.command ≡ Check) (same_Some p plan (sym is_p ∙ is)) check

-- ---- one reply

-- what is true of the reply that was written, where it is this one
pub gives : (made written : Result Reply NoMemory) (w : Reply) (Of : Reply → Type 0) → IfOk written (λ r. made ≡ Ok r) → IfOk made Of → written ≡ Ok w → Of w
gives made written w Of same says is = subst (λ (x : Result Reply NoMemory). IfOk x Of) is (said_of made written Of same says)

-- it was made so
pub given_as : (made written : Result Reply NoMemory) (w : Reply) → IfOk written (λ r. made ≡ Ok r) → written ≡ Ok w → made ≡ Ok w
given_as made written w same is = subst (λ (x : Result Reply NoMemory). IfOk x (λ r. made ≡ Ok r)) is same
