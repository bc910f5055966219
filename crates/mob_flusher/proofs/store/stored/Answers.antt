use Rattle.std.proofs.Common.{sym}
use Rattle.mob_flusher.proofs.ImagesKept.{still_held}
use Rattle.mob_flusher.proofs.store.stored.Goals as goal

pub returns-in_ok-object_in-in-Some-clause-answer : goal.returns-in_ok-object_in-in-Some-clause-answer
returns-in_ok-object_in-in-Some-clause-answer g c = λ disk told.
    (c.in-Some.page.now, c.in_ok-hold.ensures.page c.in-Some.page.now (sym c.in-Some.ensures.value) disk told, c.in_ok-object_in-in-Some.ensures)

pub returns-in_ok-object_in-in-Some-clause-held : goal.returns-in_ok-object_in-in-Some-clause-held
returns-in_ok-object_in-in-Some-clause-held g c = still_held c.args.pages.now c.hold.new.self c.args.oref.page c.in_ok-hold.ensures.there c.in_ok-hold.ensures.held c.in_ok-hold.ensures.again

pub returns-in_err-object_in-in-Some-clause-held : goal.returns-in_err-object_in-in-Some-clause-held
returns-in_err-object_in-in-Some-clause-held g c = still_held c.args.pages.now c.hold.new.self c.args.oref.page c.in_ok-hold.ensures.there c.in_ok-hold.ensures.held c.in_ok-hold.ensures.again

pub returns-in-None-clause-held : goal.returns-in-None-clause-held
returns-in-None-clause-held g c = still_held c.args.pages.now c.hold.new.self c.args.oref.page c.in_ok-hold.ensures.there c.in_ok-hold.ensures.held c.in_ok-hold.ensures.again
