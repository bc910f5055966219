use Rattle.std.proofs.Common.{List, ℕ, ◌∙◌, ap, sym, subst, arith}
use Rattle.page_format.specs.Walking.{pairs_of, parts_at}
use Rattle.page_format.proofs.Pages.{Parted, made, parts_found, parts_are, no_page}
use Rattle.page_format.proofs.page.Page.parse_in.Goals as goal

pub returns-in-None-clause-only : goal.returns-in-None-clause-only
returns-in-None-clause-only c = λ d fits e. no_page c.args.format c.args.bytes.now d c.in-None.ensures fits e

pub returns-in-None-clause-damaged : goal.returns-in-None-clause-damaged
returns-in-None-clause-damaged c = λ _ d fits e. no_page c.args.format c.args.bytes.now d c.in-None.ensures fits e

parted : (c : goal.In-Ok) → Parted c.args.format c.args.bytes.now c.in-Some.number c.in-Some.count c.in-Ok.entries.items
parted c =
    subst (λ (t : List ℕ). Parted c.args.format c.args.bytes.now c.in-Some.number c.in-Some.count t) (sym c.in-Ok.ensures.items)
    (parts_found c.args.format c.args.bytes.now ((c.in-Some.number, c.in-Some.count), c.in-Some.entries.now) (λ i. omega (arith, c.type_inv.bytes i)) c.in-Some.ensures)

pub invariant_of-result : goal.invariant_of-result
invariant_of-result c = (parted c).stored

pub returns-in-Ok-clause-found : goal.returns-in-Ok-clause-found
returns-in-Ok-clause-found c = let p = parted c in (record { fits = p.fits; room = p.room }, p.whole)

pub returns-in-Ok-clause-only : goal.returns-in-Ok-clause-only
returns-in-Ok-clause-only c = λ d fits e.
    ap (λ (t : List ℕ). made c.in-Some.number (pairs_of c.in-Some.count t)) c.in-Ok.ensures.items
    ∙ parts_are c.args.format d ((c.in-Some.number, c.in-Some.count), c.in-Some.entries.now) fits (c.in-Some.ensures ∙ ap (parts_at c.args.format) e)
