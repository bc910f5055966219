-- The call that a client's step makes, as its port tells of it.
use Rattle.client_state.specs.Calling.{upto_in}
use Rattle.client_state.specs.Moving.{Aborted, Asked, AskedInVain, AskedOwn, CommitRefused, Committed, Connected, Decided, DecideRefused, Drawn, Fetched, Finished, Forgot, Granted, Moves, PrepareRefused, Prepared, ReceiveRefused, ReceiveStopped, Received, ReceivedNone, Rested, SendsNothing, Settled, Transformed, Unsent}
use Rattle.client_state.specs.declared.held.Held.{Held}
use Rattle.session_outbox.specs.declared.answers.Asked.TheVariants as answers
use Rattle.client_port.specs.Acting as acting
use Rattle.client_port.specs.Acting.{Acts}
use Rattle.client_port.specs.Views.{View}
use Rattle.std.specs.List.{slice_get}
use Rattle.std.specs.Prelude.{Err, None, Ok, Some, false, refl, true}

-- a call that sends nothing of a transaction
abbrev pub sent_nothing : (old new : View) (before after : Held) → SendsNothing old new before after → Acts old new
sent_nothing old new before after (Rested same less) = acting.Rests same
sent_nothing old new before after (Connected repo f apart same fewer) = acting.Connected repo before.client f.result (f.call refl)
sent_nothing old new before after (Fetched at page left f idle same fewer) = acting.Fetched at.repo at.session page (upto_in (slice_get before.links.items at.repo)) f.result (f.call refl)
sent_nothing old new before after (Granted at left f idle same fewer) = acting.Granted at.repo at.session f.result (f.call refl)
sent_nothing old new before after (Drawn at answer left f there same fewer) = acting.Drew at.repo at.session f.floor f.result (f.call refl)
sent_nothing old new before after (Asked r t result d less) = acting.Asked r t result d
sent_nothing old new before after (Settled r t v sent index d there links same fewer) = acting.Asked r t (Ok (answers.Settled v)) d

-- the call that a step makes
abbrev pub acts_of : (old new : View) (before after : Held) → Moves old new before after → Acts old new
acts_of old new before after (Unsent a) = sent_nothing old new before after a
acts_of old new before after (Received at m d there takes same) = acting.Received at.repo at.session (Ok (Some m)) d
acts_of old new before after (ReceivedNone at d there waits same fewer) = acting.Received at.repo at.session (Ok None) d
acts_of old new before after (ReceiveRefused at k d there loses same) = acting.Received at.repo at.session (Err k) d
acts_of old new before after (ReceiveStopped at k d there outage stops same fewer) = acting.Received at.repo at.session (Err k) d
acts_of old new before after (Prepared s place d of less) = acting.Prepared s.at.repo s.at.session s.request (Ok place) d
acts_of old new before after (PrepareRefused s k d of idle learns same) = acting.Prepared s.at.repo s.at.session s.request (Err k) d
acts_of old new before after (Committed s place d of in_it wrote held idle keeps) = acting.Committed s.at.repo s.at.session s.request (Ok place) d
acts_of old new before after (Transformed s place oref made d of session writes here held idle keeps) = acting.Committed s.at.repo s.at.session s.request (Ok place) d
acts_of old new before after (CommitRefused s k d of idle learns same) = acting.Committed s.at.repo s.at.session s.request (Err k) d
acts_of old new before after (Decided at t v d idle ends) = acting.Decided at.repo at.session t true (Ok v) d
acts_of old new before after (Aborted at t v d less) = acting.Decided at.repo at.session t false (Ok v) d
acts_of old new before after (DecideRefused at t commit k d loses same) = acting.Decided at.repo at.session t commit (Err k) d
acts_of old new before after (Finished r t commit result d less) = acting.Finished r t commit result d
acts_of old new before after (Forgot r t result d less) = acting.Forgot r t result d
acts_of old new before after (AskedOwn r t v d ends) = acting.Asked r t (Ok (answers.Settled v)) d
acts_of old new before after (AskedInVain r t result d leave same fewer) = acting.Asked r t result d
