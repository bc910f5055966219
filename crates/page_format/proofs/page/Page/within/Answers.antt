use Rattle.page_format.proofs.page.Page.within.Goals as goal

pub returns : goal.returns
returns c = rw (← c.self.view_is) c.self.invariant.fit
