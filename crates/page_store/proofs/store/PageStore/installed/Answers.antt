use Rattle.std.proofs.Common.{sym}
use Rattle.page_store.proofs.Stores.{agrees_with_side, keeps_side, side_store}
use Rattle.page_store.proofs.store.PageStore.installed.Goals as goal

pub invariant_of-self-2 : goal.invariant_of-self-2
invariant_of-self-2 c = keeps_side c.self.inside.sides c.put.new.self c.self.inside.staged c.self.inside.held c.refresh.new.held c.args.page c.args.side c.self.invariant.cap_is c.in_ok-put.ensures.ok c.refresh.ensures c.self.inside.room c.self.inside.room c.self.invariant

pub returns-clause-ok : goal.returns-clause-ok
returns-clause-ok c = rw (← c.self.view_is) (sym (side_store c.self.inside.sides c.put.new.self c.self.inside.staged c.self.inside.held c.refresh.new.held c.args.page c.args.side c.self.invariant.cap_is c.in_ok-put.ensures.ok c.refresh.ensures))

pub returns-clause-agrees : goal.returns-clause-agrees
returns-clause-agrees c = λ disk within agrees. agrees_with_side c.self.inside.sides c.put.new.self c.self.inside.staged c.self.inside.held c.refresh.new.held c.args.page c.args.side c.self.invariant.cap_is c.in_ok-put.ensures.ok c.refresh.ensures disk within (rw (← c.self.view_is) at agrees)
