use Rattle.std.proofs.Common.{◌≡◌, Err, rules}
use Rattle.repo_state.specs.declared.fault.HoldFault.TheVariants.{Unfit}
use Rattle.repo_state.proofs.Filled.{opens_all, then_alone, then_keeps}
use Rattle.repo_state.proofs.making.table_of.Goals as goal

pub open_all-requires-clause-to : goal.open_all-requires-clause-to
open_all-requires-clause-to c = opens_all c.args.repo c.args.prepared c.in_ok-table.table c.in_ok-table.ensures c.requires.prepared

pub returns-clause-made : goal.returns-clause-made
returns-clause-made c =
    let keeping = then_keeps c.args.repo c.args.prepared c.requires.prepared_rise c.args.kept c.open_all.new.table c.in_ok-open_all.ensures.all c.requires.kept in
    let kept = c.in_ok-keep_all.ensures.all c.args.prepared keeping in
    c.in_ok-put_all.ensures.all c.args.prepared c.args.kept (then_alone c.args.repo c.args.prepared c.args.kept c.requires.kept_rise c.args.alone c.keep_all.new.table kept c.requires.alone)

pub returns-in_err-keep_all-clause-unfit : goal.returns-in_err-keep_all-clause-unfit
returns-in_err-keep_all-clause-unfit c = λ is.
    let wrong : c.keep_all.result ≡ Err Unfit = search rules in
    c.keep_all.ensures.unfit c.args.prepared (then_keeps c.args.repo c.args.prepared c.requires.prepared_rise c.args.kept c.open_all.new.table c.in_ok-open_all.ensures.all c.requires.kept) wrong

pub returns-in_err-keep_all-clause-broken : goal.returns-in_err-keep_all-clause-broken
returns-in_err-keep_all-clause-broken c = λ is own free.
    let wrong : c.keep_all.result ≡ Err Unfit = search rules in
    c.keep_all.ensures.broken c.args.prepared (then_keeps c.args.repo c.args.prepared c.requires.prepared_rise c.args.kept c.open_all.new.table c.in_ok-open_all.ensures.all c.requires.kept) wrong free
