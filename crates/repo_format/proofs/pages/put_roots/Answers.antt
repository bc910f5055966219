use Rattle.disk_trait.proofs.Runs.{alone_none, alone_then}
use Rattle.std.proofs.Common.{List, ap, arith, subst, sym, ◌∙◌, ◌≡◌, ◌≤◌, ℕ}
use Rattle.page_store.specs.Store.{Store}
use Rattle.repo_format.proofs.Empty.{reaches_none}
use Rattle.repo_format.proofs.Roots.{all_written, none_written, one_written}
use Rattle.repo_durable.proofs.Failing.{failed_after, fell_alone}
use Rattle.repo_durable.specs.declared.fault.OpenCause.TheVariants.{Failed}
use Rattle.std.proofs.Common.{IsErrOf, rules}
use Rattle.repo_format.proofs.pages.put_roots.Goals as goal
use Rattle.repo_format.specs.Fresh.{page_count}
use Rattle.repo_format.specs.Pages.{HasRoots}

pub loop-page-init : goal.loop-page-init
loop-page-init g c = (
  alone_none (g.P.Parts.disks c.args.parts.now) 2,
  c.requires.settled 2 (omega arith),
  λ disk told. c.in_ok-store.ensures.agrees disk (reaches_none _ disk c.new.ensures),
  λ disk told. none_written c.args.repo c.args.setup.now c.in_ok-store.store.sides disk (ap (λ (s : Store). s.sides) c.in_ok-store.ensures.made ∙ c.new.ensures),
)

pub loop-page-preserved : goal.loop-page-preserved
loop-page-preserved g c = (
  alone_then (g.P.Parts.disks c.args.parts.now) (g.P.Parts.disks c.loop-page.parts) (g.P.Parts.disks c.put_page.new.parts) 2 c.loop-page.invariant.0 c.put_page.ensures.alone,
  c.in_ok-put_page.ensures.settled,
  c.in_ok-put_page.ensures.agrees,
  one_written (g.P.Parts.disks c.loop-page.parts) (g.P.Parts.disks c.put_page.new.parts) c.loop-page.store.sides c.put_page.new.store.sides c.loop-page.page c.args.repo c.args.setup.now c.put_page.ensures.alone c.in_ok-put_page.ensures.put c.loop-page.invariant.3,
)

pub returns-clause-roots : goal.returns-clause-roots
returns-clause-roots g c = λ disk told.
    let end : c.page_count-page-end.result ≤ c.loop-page.page = omega (arith, c.loop-page-test.false) in
    let counted : c.page_count-page-end.result ≡ page_count c.args.repo c.args.setup.now.roots = c.page_count-page-end.ensures.count ∙ ap (page_count c.args.repo) c.as_slice.ensures in
    let whole : page_count c.args.repo c.args.setup.now.roots ≤ c.loop-page.page = subst (λ (n : ℕ). n ≤ c.loop-page.page) counted end in
    let sides : c.in_ok-copy.field-0 ≡ c.loop-page.store.sides = c.in_ok-copy.ensures ∙ c.sides.ensures in
    subst (λ (s : List (ℕ × ℕ)). HasRoots c.args.repo c.args.setup.now s disk) (sym sides) (all_written c.loop-page.page c.args.repo c.args.setup.now c.loop-page.store.sides disk whole (c.loop-page.invariant.3 disk told))

pub returns-in_err-put_page-clause-failed : goal.returns-in_err-put_page-clause-failed
returns-in_err-put_page-clause-failed g c = λ wrong.
    let old = g.P.Parts.disks c.args.parts.now in
    let mid = g.P.Parts.disks c.loop-page.parts in
    let is : IsErrOf c.put_page.result Failed = search rules in
    failed_after old.faults mid.faults (g.P.Parts.disks c.put_page.new.parts).faults (fell_alone old mid 2 c.loop-page.invariant.0) (c.put_page.ensures.failed is)
