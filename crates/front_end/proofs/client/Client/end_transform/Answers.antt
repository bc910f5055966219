use Rattle.client_state.proofs.Writing.{nothing_unsent}
use Rattle.client_state.specs.Drawing.{drawn_in}
use Rattle.client_state.specs.Pending.{pending_in}
use Rattle.front_end.proofs.Requesting.{made_then}
use Rattle.front_end.proofs.client.Client.end_transform.Goals as goal
use Rattle.std.proofs.Common.{ap, refl}

pub returns-clause-keeps : goal.returns-clause-keeps
returns-clause-keeps c = made_then c.args.self.now.held c.raise_floor.new.self (rw (c.raise_floor.ensures) refl) c.args.oref c.args.made c.keep_made.new.self c.begin_anew.new.self.held c.in_ok-keep_made.ensures.keeps c.begin_anew.ensures.less

pub returns-in_err-keep_made-clause-writes : goal.returns-in_err-keep_made-clause-writes
returns-in_err-keep_made-clause-writes c = λ none. nothing_unsent _ _ none

pub returns-in_err-keep_made-clause-free : goal.returns-in_err-keep_made-clause-free
returns-in_err-keep_made-clause-free c = λ none. none

pub returns-clause-free : goal.returns-clause-free
returns-clause-free c = λ none. ap pending_in c.begin_anew.ensures.phase

pub returns-clause-undrawn : goal.returns-clause-undrawn
returns-clause-undrawn c = ap drawn_in c.begin_anew.ensures.phase
