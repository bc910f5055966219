-- A call is the same for a client of which the names that it may give are others.
use Rattle.client_state.specs.Moving.{Aborted, Asked, AskedInVain, AskedOwn, CommitRefused, Committed, Connected, DecideRefused, Decided, Drawn, EndsSo, Fetched, Finished, Forgot, Granted, Learns, Loses, Moves, PrepareRefused, Prepared, ReceiveRefused, ReceiveStopped, Received, ReceivedNone, Rested, SendsNothing, Settled, StopsWaiting, Takes, Transformed, Unsent}
use Rattle.client_state.specs.Pending.{Pending, PendsSo, RefusesToDecide, SendsPending}
use Rattle.client_state.specs.declared.held.Held.{Held}
use Rattle.session_outbox.specs.declared.answers.At.{At}
use Rattle.session_outbox.specs.declared.message.Message.{Message}
use Rattle.client_port.specs.Views.{View}
use Rattle.std.proofs.Common.{Bool, false, true, ℕ}
use Rattle.thor_value.specs.declared.names.Ts.{Ts}
use Rattle.repo_refusals.specs.declared.refusal.Refusal.{Refusal}

module _ (old new : View) (a b after : Held) where
  pub unsent : SendsNothing old new (record a { names = b.names }) after → SendsNothing old new a after
  unsent (Rested same less) = Rested same less
  unsent (Connected repo k apart client f) = Connected repo k apart client f
  unsent (Fetched at page left k idle client f) = Fetched at page left k idle client f
  unsent (Granted at left k idle client f) = Granted at left k idle client f
  unsent (Drawn at answer left k joined client f) = Drawn at answer left k joined client f
  unsent (Asked r t result d less) = Asked r t result d less
  unsent (Settled r t v sent index d there links client f) = Settled r t v sent index d there links client f

  pub takes : (repo : ℕ) (m : Message) → Takes repo m (record a { names = b.names }) after → Takes repo m a after
  takes repo m t = record { left = t.left; links = t.links; brought = t.brought; fewer = t.fewer }

  pub loses : (k : Refusal) (repo : ℕ) → Loses k repo (record a { names = b.names }) after → Loses k repo a after
  loses k repo l = record { left = l.left; links = l.links; kept_so = l.kept_so; fewer = l.fewer }

  pub learns : (k : Refusal) (repo : ℕ) → Learns k repo (record a { names = b.names }) after → Learns k repo a after
  learns k repo l = record { left = l.left; links = l.links; kept_so = l.kept_so; fewer = l.fewer }

  pub stops : (repo : ℕ) → StopsWaiting repo (record a { names = b.names }) after → StopsWaiting repo a after
  stops repo s = record { here = s.here; others = s.others }

  pub ends : (c : Bool) → EndsSo c (record a { names = b.names }) after → EndsSo c a after
  ends true e = e
  ends false e = e

  unfoldable pub other_names : Moves old new (record a { names = b.names }) after → Moves old new a after
  other_names (Unsent m) = Unsent (unsent m)
  other_names (Received at m d joined t client) = Received at m d joined (takes at.repo m t) client
  other_names (ReceivedNone at d joined links client f) = ReceivedNone at d joined links client f
  other_names (ReceiveRefused at k d joined l client) = ReceiveRefused at k d joined (loses k at.repo l) client
  other_names (ReceiveStopped at k d joined out s client f) = ReceiveStopped at k d joined out (stops at.repo s) client f
  other_names (Prepared s place d of less) = Prepared s place d of less
  other_names (PrepareRefused s k d of idle l client) = PrepareRefused s k d of idle (learns k s.at.repo l) client
  other_names (Committed s place d of joined wrote held idle keeps) = Committed s place d of joined wrote held idle keeps
  other_names (Transformed s place oref made d of joined writes here held idle keeps) = Transformed s place oref made d of joined writes here held idle keeps
  other_names (CommitRefused s k d of idle l client) = CommitRefused s k d of idle (learns k s.at.repo l) client
  other_names (Decided at t v d idle e) = Decided at t v d idle (ends v.commit e)
  other_names (Aborted at t v d less) = Aborted at t v d less
  other_names (DecideRefused at t commit k d l client) = DecideRefused at t commit k d (loses k at.repo l) client
  other_names (Finished r t commit result d less) = Finished r t commit result d less
  other_names (Forgot r t result d less) = Forgot r t result d less
  other_names (AskedOwn r t v d e) = AskedOwn r t v d (ends v.commit e)
  other_names (AskedInVain r t result d leaves client f) = AskedInVain r t result d leaves client f

  -- what is undecided is so, too
  unsent_pends : (m : SendsNothing old new (record a { names = b.names }) after) (p z : Pending) → SendsPending old new (record a { names = b.names }) after m p z → SendsPending old new a after (unsent m) p z
  unfolding unsent
  unsent_pends (Rested same less) p z h = h
  unsent_pends (Connected repo k apart client f) p z h = h
  unsent_pends (Fetched at page left k idle client f) p z h = h
  unsent_pends (Granted at left k idle client f) p z h = h
  unsent_pends (Drawn at answer left k joined client f) p z h = h
  unsent_pends (Asked r t result d less) p z h = h
  unsent_pends (Settled r t v sent index d there links client f) p z h = h

  refuses : (commit : Bool) (at : At) (t : Ts) (p z : Pending) → RefusesToDecide commit at t p z (record a { names = b.names }) after → RefusesToDecide commit at t p z a after
  refuses true at t p z h = h
  refuses false at t p z h = h

  pub pends : (m : Moves old new (record a { names = b.names }) after) (p z : Pending) → PendsSo old new (record a { names = b.names }) after m p z → PendsSo old new a after (other_names m) p z
  unfolding other_names
  pends (Unsent m) p z h = unsent_pends m p z h
  pends (Received at m d joined t client) p z h = h
  pends (ReceivedNone at d joined links client f) p z h = h
  pends (ReceiveRefused at k d joined l client) p z h = h
  pends (ReceiveStopped at k d joined out s client f) p z h = h
  pends (Prepared s place d of less) p z h = h
  pends (PrepareRefused s k d of idle l client) p z h = h
  pends (Committed s place d of joined wrote held idle keeps) p z h = h
  pends (Transformed s place oref made d of joined writes here held idle keeps) p z h = h
  pends (CommitRefused s k d of idle l client) p z h = h
  pends (Decided at t v d idle e) p z h = h
  pends (Aborted at t v d less) p z h = h
  pends (DecideRefused at t commit k d l client) p z h = refuses commit at t p z h
  pends (Finished r t commit result d less) p z h = h
  pends (Forgot r t result d less) p z h = h
  pends (AskedOwn r t v d e) p z h = h
  pends (AskedInVain r t result d leaves client f) p z h = h
