use Rattle.std.proofs.Common.{◌∙◌, IsErrOf, arith, rules, sym}
use Rattle.disk_trait.proofs.Several.{content_stays, no_fault_beside, settled_still}
use Rattle.commit_log.proofs.Opened.{counted, found_as, found_holds}
use Rattle.commit_log.proofs.finding.open_logs.Goals as goal
use Rattle.commit_log.specs.declared.fault.FindFault.TheVariants.{Damaged, NoMemory}

pub returns-in_err-second-clause-settled : goal.returns-in_err-second-clause-settled
returns-in_err-second-clause-settled g c =
    settled_still _ _ 1 (omega arith) c.open_on-2.ensures.alone c.open_on-2.ensures.content c.open_on-2.ensures.crash
    (settled_still _ _ 0 (omega arith) c.open_on.ensures.alone c.open_on.ensures.content c.open_on.ensures.crash c.requires)

pub returns-in_err-second-clause-content : goal.returns-in_err-second-clause-content
returns-in_err-second-clause-content g c = λ d. content_stays _ _ 1 c.open_on-2.ensures.alone c.open_on-2.ensures.content d ∙ content_stays _ _ 0 c.open_on.ensures.alone c.open_on.ensures.content d

pub returns-clause-holds : goal.returns-clause-holds
returns-clause-holds g c = λ s.
    let first = g.P.Parts.disks c.open_on.new.parts in
    let settled = settled_still _ _ 1 (omega arith) c.open_on-2.ensures.alone c.open_on-2.ensures.content c.open_on-2.ensures.crash
    (settled_still _ _ 0 (omega arith) c.open_on.ensures.alone c.open_on.ensures.content c.open_on.ensures.crash c.requires) in
    found_holds (g.P.Parts.disks c.open_on-2.new.parts) c.in_ok-first.first c.in_ok-second.second s settled c.in_ok-first.ensures.disk c.in_ok-second.ensures.disk
    (λ bytes told. c.in_ok-first.ensures.found bytes (sym (content_stays _ _ 1 c.open_on-2.ensures.alone c.open_on-2.ensures.content 0 ∙ c.open_on.ensures.content) ∙ told))
    (λ bytes told. c.in_ok-second.ensures.found bytes (sym c.open_on-2.ensures.content ∙ told))
    c.choose.result c.choose.ensures

pub returns-clause-found : goal.returns-clause-found
returns-clause-found g c = λ images reads.
    found_as images c.in_ok-first.first c.in_ok-second.second (c.in_ok-first.ensures.found (images 0) (reads 0 (omega arith)))
    (c.in_ok-second.ensures.found (images 1) (content_stays _ _ 0 c.open_on.ensures.alone c.open_on.ensures.content 1 ∙ reads 1 (omega arith)))
    c.choose.result c.choose.ensures

pub returns-clause-counts : goal.returns-clause-counts
returns-clause-counts g c = λ images reads.
    counted images c.in_ok-first.first c.in_ok-second.second (c.in_ok-first.ensures.found (images 0) (reads 0 (omega arith)))
    (c.in_ok-second.ensures.found (images 1) (content_stays _ _ 0 c.open_on.ensures.alone c.open_on.ensures.content 1 ∙ reads 1 (omega arith)))
    c.choose.result c.choose.ensures

-- ---- counts of faults

pub returns-clause-steady : goal.returns-clause-steady
returns-clause-steady g c = λ d. no_fault_beside _ _ 1 c.open_on-2.ensures.alone c.in_ok-second.ensures.steady d ∙ no_fault_beside _ _ 0 c.open_on.ensures.alone c.in_ok-first.ensures.steady d

pub returns-in_err-second-clause-wanting : goal.returns-in_err-second-clause-wanting
returns-in_err-second-clause-wanting g c = λ wrong d.
    let none : IsErrOf c.open_on-2.result NoMemory = search rules in
    no_fault_beside _ _ 1 c.open_on-2.ensures.alone (c.open_on-2.ensures.wanting none) d ∙ no_fault_beside _ _ 0 c.open_on.ensures.alone c.in_ok-first.ensures.steady d

pub returns-in_err-second-clause-harmed : goal.returns-in_err-second-clause-harmed
returns-in_err-second-clause-harmed g c = λ disk place wrong d.
    let harm : IsErrOf c.open_on-2.result (Damaged disk place) = search rules in
    no_fault_beside _ _ 1 c.open_on-2.ensures.alone (c.open_on-2.ensures.harmed disk place harm) d ∙ no_fault_beside _ _ 0 c.open_on.ensures.alone c.in_ok-first.ensures.steady d

pub returns-in_err-first-clause-wanting : goal.returns-in_err-first-clause-wanting
returns-in_err-first-clause-wanting g c = λ wrong d.
    let none : IsErrOf c.open_on.result NoMemory = search rules in
    no_fault_beside _ _ 0 c.open_on.ensures.alone (c.open_on.ensures.wanting none) d

pub returns-in_err-first-clause-harmed : goal.returns-in_err-first-clause-harmed
returns-in_err-first-clause-harmed g c = λ disk place wrong d.
    let harm : IsErrOf c.open_on.result (Damaged disk place) = search rules in
    no_fault_beside _ _ 0 c.open_on.ensures.alone (c.open_on.ensures.harmed disk place harm) d
