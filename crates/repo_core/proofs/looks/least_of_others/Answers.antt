use Rattle.log_entries.specs.declared.request.Request.{Request}
use Rattle.repo_core.proofs.Others.{found_least, left_falls, passed_all, passed_on}
use Rattle.std.proofs.Common.{ap, false, nat_eq, rules, sym, true, ◌∙◌, ◌≡◌}
use Rattle.std.specs.Option.{option_copied}
use Rattle.std.specs.Prelude.{None, Some}
use Rattle.thor_value.specs.Names.{ts_cmp}
use Rattle.two_phase.specs.Walks.{behind, first_open}
use Rattle.repo_core.proofs.looks.least_of_others.Goals as goal

pub loop-request-preserved : goal.loop-request-preserved
loop-request-preserved c =
    let q : Request = c.in-Some.request.now in
    let found : first_open (behind ts_cmp c.loop-request.after c.args.table.now.transactions.pairs) ≡ Some q = sym c.next_open.ensures ∙ ap option_copied c.in-Some.is in
    let own : nat_eq q.tx.repo c.args.repo ≡ true = search rules in
    passed_on c.args.repo c.args.table.now c.requires c.loop-request.after c.loop-request.invariant q found own

pub loop-request-smaller : goal.loop-request-smaller
loop-request-smaller c =
    let q : Request = c.in-Some.request.now in
    let found : first_open (behind ts_cmp c.loop-request.after c.args.table.now.transactions.pairs) ≡ Some q = sym c.next_open.ensures ∙ ap option_copied c.in-Some.is in
    left_falls c.args.repo c.args.table.now c.requires c.loop-request.after c.loop-request.invariant q found

pub returns-then-request-repo-clause-least : goal.returns-then-request-repo-clause-least
returns-then-request-repo-clause-least c =
    let q : Request = c.in-Some.request.now in
    let found : first_open (behind ts_cmp c.loop-request.after c.args.table.now.transactions.pairs) ≡ Some q = sym c.next_open.ensures ∙ ap option_copied c.in-Some.is in
    let other : nat_eq q.tx.repo c.args.repo ≡ false = search rules in
    found_least c.args.repo c.args.table.now c.requires c.loop-request.after c.loop-request.invariant q found other

pub returns-clause-none : goal.returns-clause-none
returns-clause-none c = λ is.
    let none : first_open (behind ts_cmp c.loop-request.after c.args.table.now.transactions.pairs) ≡ None = sym c.next_open.ensures ∙ ap option_copied c.in_default.is in
    passed_all c.args.repo c.args.table.now c.requires c.loop-request.after c.loop-request.invariant none
