use Rattle.client_state.proofs.held.Held.next_sending.Goals as goal

pub returns-in_ok-sending-in-Some-clause-sends : goal.returns-in_ok-sending-in-Some-clause-sends
returns-in_ok-sending-in-Some-clause-sends c = record {
  share = c.in-Some.share;
  taken = c.in-Some.ensures.first;
  rest = c.next_share.ensures.rest;
  sent = c.in_ok-sending-in-Some.ensures.all;
}
