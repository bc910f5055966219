use Rattle.std.proofs.Common.{◌≡◌, List, ap, arith, find, not, true}
use Rattle.std.proofs.lemmas.Grind.{common_steps}
use Rattle.std.specs.BTreeMap.{insert_entry}
use Rattle.std.specs.Prelude.{None}
use Rattle.thor_value.specs.FiniteMap.{Map}
use Rattle.thor_value.specs.Names.{ts_cmp}
use Rattle.thor_value.specs.declared.names.Ts.{Ts}
use Rattle.validation_queue.proofs.Decided.{with_decided}
use Rattle.validation_queue.proofs.Entering.{leaving_is_there}
use Rattle.validation_queue.specs.Contents.{Contents, members_of, omit}
use Rattle.validation_queue.specs.declared.member.Member.{Member}
use Rattle.validation_queue.proofs.queue.Queue.add.Goals as goal

pub replace-requires-clause-there : goal.replace-requires-clause-there
replace-requires-clause-there c =
    let Q : Contents = record { threshold = c.self.inside.threshold; members = members_of c.self.inside.members } in
    rw (c.leaving-leaving.ensures, ← c.self.view_is) (leaving_is_there Q)

-- what the queue keeps: its members are as they are told, and where all were decided and a decided one came, all are
pub invariant_of-self-2 : goal.invariant_of-self-2
invariant_of-self-2 c = record { within = grind (arith, common_steps); decided = λ h. all h }
  where
    all : c.stay_decided-self-inside.result ≡ true → find (λ e. not e.1.decided) c.replace.new.members.entries ≡ None
    all h =
        let es : List (Ts × Member) = c.self.inside.members.entries in
        let m : Member = c.in_ok-member.member in
        let is : m.decided ≡ c.args.decided = ap (λ (m : Member). m.decided) c.in_ok-member.ensures in
        let e : c.replace.new.members.entries ≡ insert_entry ts_cmp (omit (record { pairs = es }) c.leaving-leaving.result).pairs c.args.tx m = ap (λ (n : Map ts_cmp Member). n.pairs) c.in_ok-replace.ensures.ok in
        rw e (with_decided es c.leaving-leaving.result c.args.tx m c.self.inside.all_decided c.self.invariant.decided (rw (is, ← c.stay_decided-self-inside.ensures) h))
