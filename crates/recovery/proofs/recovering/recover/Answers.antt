use Rattle.std.proofs.Common.{◌≡◌, Err, Ok, OnOk, Result, ap, inl, refl, sym, ℕ, ◌∙◌}
use Rattle.recovery.proofs.FoundLaws.{if_ok, inner_damaged, recovered_holds, recovered_keeps, recovered_pages, recovered_reopens, recovered_stands}
use Rattle.recovery.proofs.Lost.{inner_lost}
use Rattle.recovery.specs.Faults.{found_fault}
use Rattle.recovery.specs.declared.fault.RecoverFault.TheVariants as recovered
use Rattle.commit_log.proofs.Opened.{torn_none}
use Rattle.commit_log.specs.declared.fault.FindFault.TheVariants as found
use Rattle.commit_log.specs.declared.fault.FindFault.{FindFault}
use Rattle.recovery.proofs.recovering.recover.Goals as goal

same_err : {T E : Type 0} (r : Result T E) (a b : E) → r ≡ Err a → r ≡ Err b → a ≡ b
same_err r a b is e = cc

same_disk : (a b d place : ℕ) → recovered.Damaged a b ≡ recovered.Damaged d place → a ≡ d
same_disk a b d place is = cc

same_place : (a b d place : ℕ) → recovered.Damaged a b ≡ recovered.Damaged d place → b ≡ place
same_place a b d place is = cc

found_damaged : (fault : FindFault) (d place : ℕ) → found_fault fault ≡ recovered.Damaged d place → fault ≡ found.Damaged d place
found_damaged (found.Failed disk) d place is = cc
found_damaged (found.Damaged a b) d place is = ap (λ (x : ℕ). found.Damaged x b) (same_disk a b d place is) ∙ ap (λ (y : ℕ). found.Damaged d y) (same_place a b d place is)
found_damaged found.NoMemory d place is = cc

found_memory : (fault : FindFault) → found_fault fault ≡ recovered.NoMemory → fault ≡ found.NoMemory
found_memory (found.Failed disk) is = cc
found_memory (found.Damaged a b) is = cc
found_memory found.NoMemory is = refl

ok_so : {T E A : Type 0} (r : Result T E) → A → OnOk r A
ok_so (Ok x) a = a
ok_so (Err e) a = tt

pub returns-in-Ok-clause-steady : goal.returns-in-Ok-clause-steady
returns-in-Ok-clause-steady g c = ok_so c.replay_found.result c.in-Ok.ensures.steady

pub returns-in-Ok-clause-wanting : goal.returns-in-Ok-clause-wanting
returns-in-Ok-clause-wanting g c = λ wrong. c.in-Ok.ensures.steady

pub returns-in-Ok-clause-harmed : goal.returns-in-Ok-clause-harmed
returns-in-Ok-clause-harmed g c = λ d place wrong. c.in-Ok.ensures.steady

pub returns-in-Err-clause-wanting : goal.returns-in-Err-clause-wanting
returns-in-Err-clause-wanting g c = λ wrong.
    let e : c.found_fault.result ≡ recovered.NoMemory = same_err _ c.found_fault.result recovered.NoMemory refl wrong in
    c.open_logs.ensures.wanting (c.in-Err.is ∙ ap (λ (f : FindFault). Err f) (found_memory c.in-Err.fault (sym c.found_fault.ensures ∙ e)))

pub returns-in-Err-clause-harmed : goal.returns-in-Err-clause-harmed
returns-in-Err-clause-harmed g c = λ d place wrong.
    let e : c.found_fault.result ≡ recovered.Damaged d place = same_err _ c.found_fault.result (recovered.Damaged d place) refl wrong in
    c.open_logs.ensures.harmed d place (c.in-Err.is ∙ ap (λ (f : FindFault). Err f) (found_damaged c.in-Err.fault d place (sym c.found_fault.ensures ∙ e)))

pub returns-in-Err-clause-damaged : goal.returns-in-Err-clause-damaged
returns-in-Err-clause-damaged g c = λ images d place reads damaged.
    let e : c.found_fault.result ≡ recovered.Damaged d place = same_err _ c.found_fault.result (recovered.Damaged d place) refl damaged in
    let at = found_damaged c.in-Err.fault d place (sym c.found_fault.ensures ∙ e) in
    inl (c.open_logs.ensures.damaged images d place reads (c.in-Err.is ∙ ap (λ (f : FindFault). Err f) at))

pub returns-in-Err-clause-lost : goal.returns-in-Err-clause-lost
returns-in-Err-clause-lost g c = λ images d place reads damaged.
    let e : c.found_fault.result ≡ recovered.Damaged d place = same_err _ c.found_fault.result (recovered.Damaged d place) refl damaged in
    let at = found_damaged c.in-Err.fault d place (sym c.found_fault.ensures ∙ e) in
    torn_none images d place (c.open_logs.ensures.damaged images d place reads (c.in-Err.is ∙ ap (λ (f : FindFault). Err f) at))

pub returns-in-Ok-clause-lost : goal.returns-in-Ok-clause-lost
returns-in-Ok-clause-lost g c = λ images d place reads is.
    inner_lost images c.in-Ok.found d place (c.replay_found.ensures.damaged d place is) (c.replay_found.ensures.damaged_some d place is) (c.in-Ok.ensures.found images reads)

pub returns-in-Ok-clause-keeps : goal.returns-in-Ok-clause-keeps
returns-in-Ok-clause-keeps g c = if_ok _ _ c.replay_found.result (λ r is. recovered_keeps c.in-Ok.found r is) c.replay_found.ensures.recovered

pub returns-in-Ok-clause-holds : goal.returns-in-Ok-clause-holds
returns-in-Ok-clause-holds g c = if_ok _ _ c.replay_found.result (λ r is. recovered_holds (g.P.Parts.disks c.open_logs.new.parts) c.in-Ok.found r is c.in-Ok.ensures.holds) c.replay_found.ensures.recovered

pub returns-in-Ok-clause-found : goal.returns-in-Ok-clause-found
returns-in-Ok-clause-found g c = λ images reads. if_ok _ _ c.replay_found.result (λ r is. recovered_stands images c.in-Ok.found r is (c.in-Ok.ensures.found images reads)) c.replay_found.ensures.recovered

pub returns-in-Ok-clause-damaged : goal.returns-in-Ok-clause-damaged
returns-in-Ok-clause-damaged g c = λ images d place reads is.
    inner_damaged images c.in-Ok.found d place (c.replay_found.ensures.damaged d place is) (c.replay_found.ensures.damaged_some d place is) (c.in-Ok.ensures.log images reads)

pub returns-in-Ok-clause-pages : goal.returns-in-Ok-clause-pages
returns-in-Ok-clause-pages g c = if_ok _ _ c.replay_found.result (λ r is. recovered_pages c.in-Ok.found r is) c.replay_found.ensures.recovered

pub returns-in-Ok-clause-reopens : goal.returns-in-Ok-clause-reopens
returns-in-Ok-clause-reopens g c = λ images reads. if_ok _ _ c.replay_found.result (λ r is. recovered_reopens images c.in-Ok.found r is (c.in-Ok.ensures.counts images reads)) c.replay_found.ensures.recovered
