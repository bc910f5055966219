use Rattle.std.proofs.Common.{◌≡◌, Err, Result, ap, refl, sym, ◌∙◌}
use Rattle.page_store.specs.declared.fault.StoreFault.{StoreFault}
use Rattle.recovery.proofs.Moving.{page_damaged, page_failed, page_memory}
use Rattle.recovery.specs.declared.fault.RecoverFault.TheVariants as recovered
use Rattle.recovery.proofs.migrating.read_page.Goals as goal

same_err : {T E : Type 0} (r : Result T E) (a b : E) → r ≡ Err a → r ≡ Err b → a ≡ b
same_err r a b is e = cc

pub returns-in-Ok-clause-stays : goal.returns-in-Ok-clause-stays
returns-in-Ok-clause-stays g c = record { alone = c.read_objects.ensures.alone; content = c.read_objects.ensures.content; crash = c.read_objects.ensures.crash }

pub returns-in-Err-clause-stays : goal.returns-in-Err-clause-stays
returns-in-Err-clause-stays g c = record { alone = c.read_objects.ensures.alone; content = c.read_objects.ensures.content; crash = c.read_objects.ensures.crash }

pub returns-in-Err-clause-damaged : goal.returns-in-Err-clause-damaged
returns-in-Err-clause-damaged g c = λ d place is.
    let e : c.page_fault.result ≡ recovered.Damaged d place = same_err _ c.page_fault.result (recovered.Damaged d place) refl is in
    c.read_objects.ensures.damaged place (c.in-Err.is ∙ ap (λ (f : StoreFault). Err f) (page_damaged c.in-Err.fault d place (sym c.page_fault.ensures ∙ e)))

pub returns-in-Err-clause-failed : goal.returns-in-Err-clause-failed
returns-in-Err-clause-failed g c = λ d is.
    let e : c.page_fault.result ≡ recovered.Failed d = same_err _ c.page_fault.result (recovered.Failed d) refl is in
    let f = page_failed c.in-Err.fault d (sym c.page_fault.ensures ∙ e) in
    (f.0, c.read_objects.ensures.failed (c.in-Err.is ∙ ap (λ (x : StoreFault). Err x) f.1))

pub returns-in-Err-clause-wanting : goal.returns-in-Err-clause-wanting
returns-in-Err-clause-wanting g c = λ is.
    let e : c.page_fault.result ≡ recovered.NoMemory = same_err _ c.page_fault.result recovered.NoMemory refl is in
    c.read_objects.ensures.wanting (c.in-Err.is ∙ ap (λ (f : StoreFault). Err f) (page_memory c.in-Err.fault (sym c.page_fault.ensures ∙ e)))
