use Rattle.std.proofs.Common.{Err, IsErrOf, ap, inl, inr, refl, rules, sym, ◌∙◌, ◌≡◌}
use Rattle.page_store.specs.declared.fault.StoreFault.{StoreFault}
use Rattle.repo_opening.proofs.Reading.{room_is}
use Rattle.repo_opening.proofs.SaidPages.{page_damaged, page_failed, past_end, same_err}
use Rattle.repo_opening.specs.declared.unopened.Unopened.TheVariants.{Damaged, Failed}
use Rattle.repo_opening.proofs.pages.read_side.Goals as goal

pub read_objects-requires : goal.read_objects-requires
read_objects-requires g c = room_is c.args.format (g.P.Parts.disks c.args.parts.now) c.args.installed c.args.size c.requires c.in_ok-check_room.ensures.room

pub returns-in_ok-put_objects-in-Ok-clause-within : goal.returns-in_ok-put_objects-in-Ok-clause-within
returns-in_ok-put_objects-in-Ok-clause-within g c = λ disk told. (room_is c.args.format (g.P.Parts.disks c.args.parts.now) c.args.installed c.args.size c.requires c.in_ok-check_room.ensures.room).told disk (sym c.read_objects.ensures.content ∙ told)

pub returns-in_ok-put_objects-in-Ok-clause-side : goal.returns-in_ok-put_objects-in-Ok-clause-side
returns-in_ok-put_objects-in-Ok-clause-side g c = λ disk told. record { objects = c.in-Ok.found; is = c.in-Ok.ensures.found disk told; put = c.in_ok-put_objects-in-Ok.ensures }

pub returns-in_err-check_room-clause-damaged : goal.returns-in_err-check_room-clause-damaged
returns-in_err-check_room-clause-damaged g c = λ r d place is.
    let wrong : IsErrOf c.check_room.result (Damaged r d place) = search rules in
    let room = c.check_room.ensures.damaged r d place wrong in
    (room.0, room.1, room.2, λ disk told. inl (past_end c.args.format (g.P.Parts.disks c.args.parts.now) c.args.installed c.args.size disk c.requires told room.3))

pub returns-in-Err-clause-damaged : goal.returns-in-Err-clause-damaged
returns-in-Err-clause-damaged g c = λ r d place is.
    let e : c.page_fault_of.result ≡ Damaged r d place = same_err _ c.page_fault_of.result (Damaged r d place) refl is in
    let f = page_damaged c.args.repo c.in-Err.fault r d place (sym c.page_fault_of.ensures ∙ e) in
    let wrong = c.in-Err.is ∙ ap (λ (x : StoreFault). Err x) f.2 in
    (f.0, f.1, c.read_objects.ensures.place place wrong, λ disk told. inr (c.read_objects.ensures.damaged place wrong disk told))

pub returns-in-Err-clause-failed : goal.returns-in-Err-clause-failed
returns-in-Err-clause-failed g c = λ r is.
    let e : c.page_fault_of.result ≡ Failed r = same_err _ c.page_fault_of.result (Failed r) refl is in
    let f = page_failed c.args.repo c.in-Err.fault r (sym c.page_fault_of.ensures ∙ e) in
    (f.0, c.read_objects.ensures.failed (c.in-Err.is ∙ ap (λ (x : StoreFault). Err x) f.1))
