use Rattle.client_state.specs.Participants.{sent_of}
use Rattle.front_end.proofs.Writing.{none_left}
use Rattle.front_end.proofs.client.Client.send_in_session.Goals as goal
use Rattle.std.proofs.Common.{[], ap, rules, sym, ◌∙◌, ◌≡◌}
use Rattle.thor_value.specs.declared.names.Ts.{Ts}

pub returns-then-is_empty-clause-moves : goal.returns-then-is_empty-clause-moves
returns-then-is_empty-clause-moves g c = λ item none tx joined drawn apart wrote of idle. let nothing : c.args.transaction.shares.items ≡ [] = search (none_left, rules) in c.commit_held.ensures.moves item c.args.transaction (record { sends = drawn; alone = nothing }) (c.sent.ensures.all ∙ ap (λ (t : Ts). sent_of t c.args.sending.at c.args.transaction) (sym tx)) none joined (wrote nothing) of idle

pub returns-clause-moves : goal.returns-clause-moves
returns-clause-moves g c = λ item none tx joined drawn apart wrote of idle. c.prepare_held.ensures.moves item none tx drawn apart of idle
