-- What becomes by a step of what the try has written, while its transaction is undecided; and of the links behind an item that is Unknown (this project's).
use Rattle.base_reasons.specs.declared.reason.Reason.TheVariants as reasons
use Rattle.client_cache.specs.Copies.{Contents, changed}
use Rattle.client_items.specs.declared.news.News.{News}
use Rattle.client_port.specs.Views.{View}
use Rattle.client_state.specs.Calling.{is_session_of}
use Rattle.client_state.specs.Moving.{Aborted, AskedInVain, AskedOwn, CommitRefused, Committed, DecideRefused, Decided, Finished, Forgot, IsApart, Moves, PrepareRefused, Prepared, ReceiveRefused, ReceiveStopped, Received, ReceivedNone, Transformed, Unsent}
use Rattle.client_state.specs.Pending.{IsAsking, IsPreparing, NonePending, Pending}
use Rattle.client_state.specs.Stepping.{KeepsSent, Present, TriesSo}
use Rattle.client_state.specs.Taking.{WrittenWithout}
use Rattle.client_state.specs.Writing.{WritesStay}
use Rattle.client_state.specs.declared.held.Held.{Held}
use Rattle.client_state.specs.declared.link.Link.{Link}
use Rattle.client_state.specs.declared.transaction.Sent.{Sent}
use Rattle.repo_refusals.specs.declared.refusal.Refusal.TheVariants as refused
use Rattle.repo_refusals.specs.declared.refusal.Refusal.{Refusal}
use Rattle.session_outbox.specs.declared.message.Message.TheVariants as messages
use Rattle.session_outbox.specs.declared.message.Message.{Message}
use Rattle.std.specs.List.{list_any}
use Rattle.std.specs.Prelude.{Bool, List, None, cond, false, nat_eq, slice_get, true, ℕ, ◌&&◌, ◌≡◌, ◌⊎◌, ◌||◌}
use Rattle.thor_value.specs.declared.names.Oref.{Oref}

-- ---- what the try has written

-- whether something of the try's transaction is undecided
abbrev pub is_undecided : Pending → Bool
is_undecided NonePending = false
is_undecided (IsPreparing at t rs transaction) = true
is_undecided (IsAsking sent n) = true

-- whether what is undecided may have been sent to a repository: others may finish it there
abbrev pub is_sent_to : ℕ → Pending → Bool
is_sent_to r NonePending = false
is_sent_to r (IsPreparing at t rs transaction) = nat_eq at.repo r || list_any (λ n. nat_eq n r) rs
is_sent_to r (IsAsking sent n) = true

-- What the try has written goes with a session that is gone, where that is the one of the repository's link, and nothing else of it.
abbrev pub WrittenLost : ℕ → ℕ → List Link → Contents → Contents → Type 0
WrittenLost session repo links old new = (x : Oref) → changed new x ≡ cond (is_session_of session (slice_get links repo) && nat_eq x.repo repo) None (changed old x)

-- What a refusal makes of it.
abbrev pub WrittenRefused : Refusal → ℕ → List Link → Contents → Contents → Type 0
WrittenRefused (refused.Reason (reasons.Gone session)) repo links old new = WrittenLost session repo links old new
WrittenRefused r repo links old new = WritesStay old new

-- What a message makes of it: objects that others have written are given up where the transaction was sent to their repository.
abbrev pub WrittenTaken : Bool → Message → Contents → Contents → Type 0
WrittenTaken sent (messages.Page page bytes place) old new = WritesStay old new
WrittenTaken sent (messages.Grant page place) old new = WritesStay old new
WrittenTaken true (messages.Invalid names place) old new = WrittenWithout names old new
WrittenTaken false (messages.Invalid names place) old new = WritesStay old new
WrittenTaken sent (messages.Upgrade number text place) old new = WritesStay old new

-- What a step makes of what the try has written, where something is undecided behind it.
abbrev pub WritesSo : (old new : View) (before after : Held) → Moves old new before after → Pending → Type 0
WritesSo old new before after (Unsent sends) a = WritesStay before.cache.cache after.cache.cache
WritesSo old new before after (Received at m does there takes same) a = WrittenTaken (is_sent_to at.repo a) m before.cache.cache after.cache.cache
WritesSo old new before after (ReceivedNone at does there waits same fewer) a = WritesStay before.cache.cache after.cache.cache
WritesSo old new before after (ReceiveRefused at k does there loses same) a = WrittenRefused k at.repo before.links.items before.cache.cache after.cache.cache
WritesSo old new before after (ReceiveStopped at k does there outage stops same fewer) a = WrittenRefused k at.repo before.links.items before.cache.cache after.cache.cache
WritesSo old new before after (Prepared s place does of less) a = WritesStay before.cache.cache after.cache.cache
WritesSo old new before after (PrepareRefused s k does of idle learns same) a = Unit {0}
WritesSo old new before after (Committed s place does of session wrote held idle keeps) a = Unit {0}
WritesSo old new before after (Transformed s place oref made does of session writes here held idle keeps) a = Unit {0}
WritesSo old new before after (CommitRefused s k does of idle learns same) a = WritesStay before.cache.cache after.cache.cache
WritesSo old new before after (Decided at t v does idle ends) a = Unit {0}
WritesSo old new before after (Aborted at t v does less) a = WritesStay before.cache.cache after.cache.cache
WritesSo old new before after (DecideRefused at t commit k does loses same) a = WrittenRefused k at.repo before.links.items before.cache.cache after.cache.cache
WritesSo old new before after (Finished r t commit result does less) a = WritesStay before.cache.cache after.cache.cache
WritesSo old new before after (Forgot r t result does less) a = WritesStay before.cache.cache after.cache.cache
WritesSo old new before after (AskedOwn r t v does ends) a = Unit {0}
WritesSo old new before after (AskedInVain r t result does leaves same fewer) a = WritesStay before.cache.cache after.cache.cache

-- It is so while something is undecided.
abbrev pub WhileUndecided : Pending → Type 0 → Type 0
WhileUndecided z P = is_undecided z ≡ true → P

-- ---- links

-- Each link is as before, or apart.
abbrev pub PartsSome : Held → Held → Type 0
PartsSome before after = (n : ℕ) → (slice_get after.links.items n ≡ slice_get before.links.items n) ⊎ IsApart n after

-- Each link is as before, or apart, or, with the coordinator, keeps what was sent of the item.
abbrev pub LeavesApart : ℕ → ℕ → Sent → Held → Held → Type 0
LeavesApart r index sent before after = (n : ℕ) → (slice_get after.links.items n ≡ slice_get before.links.items n) ⊎ (IsApart n after ⊎ ((n ≡ r) × KeepsSent n sent index after))

-- What a step makes of the links where the verdict that it asked for wasn't told.
abbrev pub LeavesSo : (item : Present) (old new : View) (before after : Held) (n : Moves old new before after) (a z : Pending) (came : News) → TriesSo item old new before after n a z came → Type 0
LeavesSo item old new before after (Unsent sends) a z came tries = Unit {0}
LeavesSo item old new before after (Received at m does there takes same) a z came tries = Unit {0}
LeavesSo item old new before after (ReceivedNone at does there waits same fewer) a z came tries = Unit {0}
LeavesSo item old new before after (ReceiveRefused at k does there loses same) a z came tries = Unit {0}
LeavesSo item old new before after (ReceiveStopped at k does there outage stops same fewer) a z came tries = Unit {0}
LeavesSo item old new before after (Prepared s place does of less) a z came tries = Unit {0}
LeavesSo item old new before after (PrepareRefused s k does of idle learns same) a z came tries = Unit {0}
LeavesSo item old new before after (Committed s place does of session wrote held idle keeps) a z came tries = Unit {0}
LeavesSo item old new before after (Transformed s place oref made does of session writes here held idle keeps) a z came tries = Unit {0}
LeavesSo item old new before after (CommitRefused s k does of idle learns same) a z came tries = Unit {0}
LeavesSo item old new before after (Decided at t v does idle ends) a z came tries = Unit {0}
LeavesSo item old new before after (Aborted at t v does less) a z came tries = Unit {0}
LeavesSo item old new before after (DecideRefused at t commit k does loses same) a z came tries = Unit {0}
LeavesSo item old new before after (Finished r t commit result does less) a z came tries = Unit {0}
LeavesSo item old new before after (Forgot r t result does less) a z came tries = Unit {0}
LeavesSo item old new before after (AskedOwn r t v does ends) a z came tries = Unit {0}
LeavesSo item old new before after (AskedInVain r t result does leaves same fewer) a z came tries = LeavesApart r item.who.index tries.0 before after
