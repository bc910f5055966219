use Rattle.log_entries.specs.declared.entry.Entry.{Entry}
use Rattle.repo_state.specs.Entering.{can_enter, entered}
use Rattle.repo_state.specs.declared.held.Held.{Held}
use Rattle.repo_durable.proofs.Returning.{neither_of, none_pending, returned_held, returned_pending}
use Rattle.repo_durable.specs.Agreeing.{numbers_of}
use Rattle.repo_durable.specs.declared.agreement.Agreement.TheVariants.{Neither, WithPending}
use Rattle.std.proofs.Common.{None, Option, rules, subst, sym, ◌≡◌}
use Rattle.std.specs.Option.{IfSome}
use Rattle.std.specs.Prelude.{IsTrue}
use Rattle.repo_durable.proofs.stable.Stable.take_over.Goals.{in_default-via-in-WithPending+in-None-1, in_default-via-in-Neither-1}
use Rattle.repo_durable.proofs.Readable.{found_has, rests_has}
use Rattle.repo_durable.proofs.stable.Stable.take_over.Goals as goal

pub returns-in-AsHeld-default-clause-says : goal.returns-in-AsHeld-default-clause-says
returns-in-AsHeld-default-clause-says g c = λ one.
    returned_held g.P.Parts.disks c.args.self.now c.come_up.new.self c.args.recovered.state c.args.recovered.log c.args.pending c.come_up.ensures.parts c.come_up.ensures.phase c.come_up.ensures.held c.come_up.ensures.objects
    (c.compare-agrees.ensures.held c.in-AsHeld-default.is-0) c.requires.stands one

pub returns-in-WithPending-Some-clause-says : goal.returns-in-WithPending-Some-clause-says
returns-in-WithPending-Some-clause-says g c = λ one.
    let up = c.come_up-in-WithPending-Some in
    let numbers = subst (λ (p : Option Entry). IfSome p (λ e. numbers_of c.args.recovered.state ≡ numbers_of (entered c.args.self.now.held e))) c.in-WithPending-Some.is-1 (c.compare-agrees.ensures.pending c.in-WithPending-Some.is-0) in
    returned_pending g.P.Parts.disks c.args.self.now up.new.self c.args.recovered.state c.args.recovered.log c.args.pending c.in-WithPending-Some.entry c.in-WithPending-Some.is-1 up.ensures.parts up.ensures.phase up.ensures.held up.ensures.objects numbers c.requires.stands one

pub returns-in_default-clause-damaged : goal.returns-in_default-clause-damaged
returns-in_default-clause-damaged g c = λ r place wrong image one. elim c.in_default-1.branch [
  | in_default-via-in-WithPending+in-None-1 w ↦
      (let found : c.compare-agrees.result ≡ WithPending = search rules in
      let none : c.args.pending ≡ None = search rules in
      none_pending c.args.pending (c.compare-agrees.ensures.was_pending found) none)
  | in_default-via-in-Neither-1 w ↦
      (let found : c.compare-agrees.result ≡ Neither = search rules in
      neither_of c.args.recovered.state c.args.self.now.held c.args.pending image c.requires.rests.keeps (c.compare-agrees.ensures.neither found) (c.compare-agrees.ensures.nor_pending found) one)
]

pub returns-in-WithPending-Some-clause-enters : goal.returns-in-WithPending-Some-clause-enters
returns-in-WithPending-Some-clause-enters g c =
    let e = c.in-WithPending-Some.entry in
    let takes = subst (λ (p : Option Entry). IfSome p (λ e. IsTrue (can_enter c.args.self.now.held e))) c.in-WithPending-Some.is-1 c.requires.rests.takes in
    subst (λ (h : Held). IsTrue (can_enter h e)) (sym c.come_up-in-WithPending-Some.ensures.held) takes

pub returns-in-AsHeld-default-clause-readable : goal.returns-in-AsHeld-default-clause-readable
returns-in-AsHeld-default-clause-readable g c = λ found held. found_has g.P.Parts.disks c.args.self.now c.come_up.new.self c.args.recovered.state c.args.recovered.log c.come_up.ensures.parts c.come_up.ensures.phase c.come_up.ensures.objects found

pub returns-in-WithPending-Some-clause-readable : goal.returns-in-WithPending-Some-clause-readable
returns-in-WithPending-Some-clause-readable g c = λ found held.
    let up = c.come_up-in-WithPending-Some in
    found_has g.P.Parts.disks c.args.self.now up.new.self c.args.recovered.state c.args.recovered.log up.ensures.parts up.ensures.phase up.ensures.objects found

pub returns-in_default-clause-readable : goal.returns-in_default-clause-readable
returns-in_default-clause-readable g c = λ found held. rests_has g.P.Parts.disks c.args.self.now c.set_phase.new.self c.args.pending c.set_phase.ensures held

pub returns-in-AsHeld-default-clause-numbers : goal.returns-in-AsHeld-default-clause-numbers
returns-in-AsHeld-default-clause-numbers g c = c.compare-agrees.ensures.held c.in-AsHeld-default.is-0

pub returns-in-WithPending-Some-clause-numbers : goal.returns-in-WithPending-Some-clause-numbers
returns-in-WithPending-Some-clause-numbers g c = subst (λ (p : Option Entry). IfSome p (λ e. numbers_of c.args.recovered.state ≡ numbers_of (entered c.args.self.now.held e))) c.in-WithPending-Some.is-1 (c.compare-agrees.ensures.pending c.in-WithPending-Some.is-0)
