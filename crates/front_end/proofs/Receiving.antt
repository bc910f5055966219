-- What is held behind a call that takes a message.
use Rattle.client_cache.specs.Copies.{Contents, changed, kept}
use Rattle.client_cache.specs.Placing.{IsPageOf}
use Rattle.client_state.proofs.Moving.{fewer_among}
use Rattle.client_state.proofs.Pending.{still_written, taken_written, waits_written}
use Rattle.client_state.specs.Calling.{CopiesRefused, links_refused}
use Rattle.client_state.specs.Links.{at_repo, waiting, stopped}
use Rattle.client_state.specs.Moving.{CopiesTaken, HoldsLess, InSession, Loses, Moves, ReceiveRefused, ReceiveStopped, Received, ReceivedNone, StopsWaiting}
use Rattle.client_state.specs.Pending.{MovesSo, MovesSoIf, Pending, StaysPending}
use Rattle.client_state.specs.Receiving.{ByMessage, ByNone, ByRefusal, EndsReceive, GaveUpIf, GivesUp, IsNotGone, LosesThere, ReceivesNone, StopsThere, TakesCopies}
use Rattle.client_state.specs.Taking.{BringsPage, links_behind, took}
use Rattle.client_state.specs.declared.held.Held.{Held}
use Rattle.client_state.specs.declared.link.Link.{Link}
use Rattle.client_state.specs.declared.link.Waits.TheVariants.{Idle}
use Rattle.client_state.specs.declared.phase.Phase.{Phase}
use Rattle.front_end.specs.declared.client.Client.{Client}
use Rattle.session_outbox.specs.declared.answers.At.{At}
use Rattle.session_outbox.specs.declared.message.Message.TheVariants.{Grant}
use Rattle.session_outbox.specs.declared.message.Message.{Message}
use Rattle.page_format.specs.Pages as page
use Rattle.paused_eval.specs.Copies.{AreAmong}
use Rattle.client_port.specs.Acting.{RefusesReceive, Takes}
use Rattle.client_port.specs.Views.{Calm, Halted, MayCome, Unsettled, View}
use Rattle.client_port.specs.Works.{Answered, Does, IsOutage, ReceiveWork}
use Rattle.base_reasons.specs.declared.reason.Reason.TheVariants as reasons
use Rattle.base_reasons.specs.declared.reason.Reason.{Reason}
use Rattle.std.proofs.Common.{Bool, List, ap, arith, inl, inr, refl, subst, sym, true, ◌<◌, ◌≡◌, ◌∙◌, ℕ}
use Rattle.std.specs.Option.{option_map}
use Rattle.std.specs.Prelude.{Err, None, Ok, OnOk, Option, Result, Some, slice_get, ◌^◌}
use Rattle.thor_value.specs.FiniteMap.{empty}
use Rattle.thor_value.specs.declared.values.Obj.{Obj}
use Rattle.repo_refusals.specs.declared.refusal.Refusal.TheVariants as refused
use Rattle.repo_refusals.specs.declared.refusal.Refusal.{Refusal}

-- what holds of every result
pub whenever : {T E P : Type 0} (r : Result T E) → P → OnOk r P
whenever (Ok x) p = p
whenever (Err e) p = tt

-- ---- a message and the copies

pub takes_then_less : (repo : ℕ) (m : Message) (before mid after : Held) → CopiesTaken repo m before.cache.cache mid.cache.cache → mid.client ≡ before.client → mid.links.items ≡ before.links.items
    → HoldsLess mid after → TakesCopies repo m before after
takes_then_less repo m before mid after taken client links less = record { left = mid.cache.cache; client = less.0 ∙ client; links = less.1 ∙ links; brought = taken; fewer = less.2 }

pub takes_so : (repo : ℕ) (m : Message) (before after : Held) → CopiesTaken repo m before.cache.cache after.cache.cache → after.client ≡ before.client → after.links.items ≡ before.links.items → TakesCopies repo m before after
takes_so repo m before after taken client links = record { left = after.cache.cache; client = client; links = links; brought = taken; fewer = λ x. inl refl }

-- a page that has no object brings none
abbrev no_objects : ℕ → Option Obj
no_objects s = None

empty_page : (bytes : List ℕ) (number : ℕ) → page.PageFits (record { number = number; objects = empty }) → bytes ≡ page.page_bytes (record { number = number; objects = empty }) → IsPageOf bytes number no_objects
empty_page bytes number fits spelled = record {
  contents = record { number = number; objects = empty };
  fits = fits;
  spelled = spelled;
  number_is = refl;
  brings = record { slots = λ s. refl; fits = λ s o h. cc };
}

pub grants_none : (repo number place : ℕ) (bytes : List ℕ) (c : page.Contents) (before after : Contents) → c ≡ record { number = number; objects = empty } → number < 2 ^ 32 → bytes ≡ page.page_bytes c
    → BringsPage repo number bytes before after → CopiesTaken repo (Grant number place) before after
grants_none repo number place bytes c before after is few spelled brings =
    let fits : page.PageFits (record { number = number; objects = empty }) = record { number = few; objects = record { rising = tt; each = tt; count = omega arith; room = omega arith } } in
    brings no_objects (empty_page bytes number fits (subst (λ (d : page.Contents). bytes ≡ page.page_bytes d) is spelled))

-- ---- refusals

module _ (old new : View) (r s : ℕ) (k : Refusal) (d : Does {X = Option Message} old new r (Err k) (ReceiveWork s (Err k))) where
  outage_by : (e : Refusal) (m : Unsettled) → IsNotGone e → Answered {X = Option Message} r (Err e) m d.at (new.seen r) (new.unsettled r) (ReceiveWork s (Err e) (old.opened.base r) d.at (new.seen r) (new.unsettled r)) → IsOutage e
  outage_by (refused.Reason x) Calm g h = absurd (g s (ap (λ (y : Reason). refused.Reason y) h.0))
  outage_by (refused.Reason x) (MayCome e) g h = absurd h.0
  outage_by (refused.Reason x) Halted g h = absurd h.0
  outage_by (refused.Down n) m g h = tt
  outage_by (refused.Stopped n) m g h = tt
  outage_by (refused.Damaged n place) m g h = tt
  outage_by refused.NoMemory m g h = tt

  -- a call that is refused, but not since its session is gone, met an outage
  pub outage : IsNotGone k → IsOutage k
  outage g = outage_by k d.met g d.answer

-- Where no session is gone, none is lost.
pub lost_nothing : (k : Refusal) (repo : ℕ) (before after : Held) → IsNotGone k → HoldsLess before after → Loses k repo before after
lost_nothing (refused.Reason (reasons.Gone n)) repo before after gone less = absurd (gone n refl)
lost_nothing (refused.Reason (reasons.Epoch n)) repo before after gone less = record { left = before.cache.cache; links = less.1; kept_so = λ x. refl; fewer = less.2 }
lost_nothing (refused.Reason (reasons.Blocked tx)) repo before after gone less = record { left = before.cache.cache; links = less.1; kept_so = λ x. refl; fewer = less.2 }
lost_nothing (refused.Reason (reasons.TooOld threshold)) repo before after gone less = record { left = before.cache.cache; links = less.1; kept_so = λ x. refl; fewer = less.2 }
lost_nothing (refused.Reason (reasons.Stale oref place)) repo before after gone less = record { left = before.cache.cache; links = less.1; kept_so = λ x. refl; fewer = less.2 }
lost_nothing (refused.Reason (reasons.Earlier tx oref)) repo before after gone less = record { left = before.cache.cache; links = less.1; kept_so = λ x. refl; fewer = less.2 }
lost_nothing (refused.Reason (reasons.Later tx oref)) repo before after gone less = record { left = before.cache.cache; links = less.1; kept_so = λ x. refl; fewer = less.2 }
lost_nothing (refused.Reason (reasons.Full limit)) repo before after gone less = record { left = before.cache.cache; links = less.1; kept_so = λ x. refl; fewer = less.2 }
lost_nothing (refused.Reason reasons.ClockEnd) repo before after gone less = record { left = before.cache.cache; links = less.1; kept_so = λ x. refl; fewer = less.2 }
lost_nothing (refused.Down n) repo before after gone less = record { left = before.cache.cache; links = less.1; kept_so = λ x. refl; fewer = less.2 }
lost_nothing (refused.Stopped n) repo before after gone less = record { left = before.cache.cache; links = less.1; kept_so = λ x. refl; fewer = less.2 }
lost_nothing (refused.Damaged n place) repo before after gone less = record { left = before.cache.cache; links = less.1; kept_so = λ x. refl; fewer = less.2 }
lost_nothing refused.NoMemory repo before after gone less = record { left = before.cache.cache; links = less.1; kept_so = λ x. refl; fewer = less.2 }

-- the client stops waiting behind what it drops
pub stops_behind : (k : Refusal) (repo : ℕ) (before mid after : Held) → IsNotGone k → HoldsLess before mid → StopsWaiting repo mid after → after ≡ record mid { links = after.links } → EndsReceive k repo before after
stops_behind k repo before mid after gone less stops rest = StopsThere gone (record {
  here = stops.here ∙ ap (λ (ls : List Link). option_map (waiting Idle) (slice_get ls repo)) less.1;
  others = λ n other. stops.others n other ∙ ap (λ (ls : List Link). option_map stopped (slice_get ls n)) less.1;
}) (ap (λ (h : Held). h.client) rest ∙ less.0) (fewer_among (kept before.cache.cache) (kept mid.cache.cache) (kept after.cache.cache) less.2 (λ x. inl (ap (λ (h : Held). kept h.cache.cache x) rest)))

-- the links stay
pub same_items : (a b : Held) → a.links ≡ b.links → a.links.items ≡ b.links.items
same_items a b h = cc

-- a session that was gone was lost
pub loses_so : (k : Refusal) (repo : ℕ) (before after : Held) → after.links.items ≡ links_refused k repo before.links.items → CopiesRefused k repo before.links.items before.cache.cache after.cache.cache → Loses k repo before after
loses_so k repo before after links copies = record { left = after.cache.cache; links = links; kept_so = copies; fewer = λ x. inl refl }

-- ---- the call

module _ (old new : View) (at : At) (before mid after : Held) (rest : mid ≡ record before { links = mid.links }) (joined : InSession at before) where
  pub same_copies : mid.cache.cache ≡ before.cache.cache
  same_copies = ap (λ (h : Held). h.cache.cache) rest

  pub same_client : mid.client ≡ before.client
  same_client = ap (λ (h : Held). h.client) rest

  unfoldable pub taken : (m : Message) → Does {X = Option Message} old new at.repo (Ok (Some m)) (ReceiveWork at.session (Ok (Some m))) → mid.links.items ≡ at_repo before.links.items at.repo (took m) → TakesCopies at.repo m mid after → Moves old new before after
  taken m d links t = Received at m d joined (record { left = t.left; links = t.links ∙ links; brought = subst (λ (c : Contents). CopiesTaken at.repo m c t.left) same_copies t.brought; fewer = t.fewer }) (t.client ∙ same_client)

  -- what is undecided stays so as by what comes behind the call
  pub behind_taken : (p z : Pending) (o : Option Message) → mid.links.items ≡ links_behind (Ok o) at.repo before.links.items → StaysPending p z mid after → StaysPending p z before after
  behind_taken p z o links (inl e) = inl e
  behind_taken p z o links (inr f) = inr (f.0, λ k w. f.1 k (taken_written at.repo o before mid links same_copies k w))

  -- a message was taken
  unfoldable pub by_message : (shows : Bool) (o : Option Message) (m : Message) → o ≡ Some m → (shows ≡ true → Does {X = Option Message} old new at.repo (Ok o) (ReceiveWork at.session (Ok o)))
      → mid.links.items ≡ links_behind (Ok o) at.repo before.links.items → TakesCopies at.repo m mid after → (p z : Pending) → StaysPending p z mid after → MovesSoIf shows old new before after p z
  unfolding taken
  by_message shows o m is call links t p z stays = λ s. record { moves = taken m (subst (λ (x : Option Message). Does {X = Option Message} old new at.repo (Ok x) (ReceiveWork at.session (Ok x))) is (call s)) (subst (λ (x : Option Message). mid.links.items ≡ links_behind (Ok x) at.repo before.links.items) is links) t; pends = behind_taken p z o links stays }

  pub loses_there : (k : Refusal) → mid.links.items ≡ before.links.items → Loses k at.repo mid after → Loses k at.repo before after
  loses_there k links l = record {
    left = l.left;
    links = l.links ∙ ap (λ (ls : List Link). links_refused k at.repo ls) links;
    kept_so = subst (λ (c : Contents). CopiesRefused k at.repo before.links.items c l.left) same_copies (subst (λ (ls : List Link). CopiesRefused k at.repo ls mid.cache.cache l.left) links l.kept_so);
    fewer = l.fewer;
  }

  unfoldable pub refused_so : (k : Refusal) → Does {X = Option Message} old new at.repo (Err k) (ReceiveWork at.session (Err k)) → mid.links.items ≡ before.links.items → EndsReceive k at.repo mid after → Moves old new before after
  refused_so k d links (LosesThere l client) = ReceiveRefused at k d joined (loses_there k links l) (client ∙ same_client)
  refused_so k d links (StopsThere g s client f) = ReceiveStopped at k d joined (outage old new at.repo at.session k d g) (record {
    here = s.here ∙ ap (λ (ls : List Link). option_map (waiting Idle) (slice_get ls at.repo)) links;
    others = λ n other. s.others n other ∙ ap (λ (ls : List Link). option_map stopped (slice_get ls n)) links;
  }) (client ∙ same_client) (subst (λ (c : Contents). AreAmong (kept c) (kept after.cache.cache)) same_copies f)

  refused_pends : (k : Refusal) → Does {X = Option Message} old new at.repo (Err k) (ReceiveWork at.session (Err k)) → mid.links.items ≡ before.links.items → EndsReceive k at.repo mid after
      → (p z : Pending) → StaysPending p z before after → MovesSo old new before after p z
  unfolding refused_so
  refused_pends k d links (LosesThere l client) p z stays = record { moves = refused_so k d links (LosesThere l client); pends = stays }
  refused_pends k d links (StopsThere g s client f) p z stays = record { moves = refused_so k d links (StopsThere g s client f); pends = stays }

  -- it was refused
  pub by_refusal : (shows : Bool) (k : Refusal) → (shows ≡ true → Does {X = Option Message} old new at.repo (Err k) (ReceiveWork at.session (Err k))) → mid.links.items ≡ before.links.items
      → EndsReceive k at.repo mid after → (p z : Pending) → StaysPending p z mid after → MovesSoIf shows old new before after p z
  by_refusal shows k call links e p z stays = λ s. refused_pends k (call s) links e p z (behind_taken p z None links stays)

-- ---- what is given up

module _ (shows : Bool) (old new : View) (at : At) (phase : Phase) (after : Contents) where
  pub gave_message : (o : Option Message) (m : Message) → o ≡ Some m → (shows ≡ true → Does {X = Option Message} old new at.repo (Ok o) (ReceiveWork at.session (Ok o)))
      → GivesUp at.repo m phase after → GaveUpIf shows old new at.repo phase after
  gave_message o m is call gives = λ s. ByMessage m (Takes at.session (subst (λ (x : Option Message). Does {X = Option Message} old new at.repo (Ok x) (ReceiveWork at.session (Ok x))) is (call s))) gives

  pub gave_none : (o : Option Message) → o ≡ None → (shows ≡ true → Does {X = Option Message} old new at.repo (Ok o) (ReceiveWork at.session (Ok o))) → GaveUpIf shows old new at.repo phase after
  gave_none o is call = λ s. ByNone at.session (subst (λ (x : Option Message). Does {X = Option Message} old new at.repo (Ok x) (ReceiveWork at.session (Ok x))) is (call s))

  pub gave_refusal : (k : Refusal) → (shows ≡ true → Does {X = Option Message} old new at.repo (Err k) (ReceiveWork at.session (Err k))) → GaveUpIf shows old new at.repo phase after
  gave_refusal k call = λ s. ByRefusal k (RefusesReceive at.session (call s))

-- the same of a client that is the one before, and of its repository by another name
pub gave_down : {T E : Type 0} (r : Result T E) (shows : Bool) (old new : View) (repo : ℕ) (phase : Phase) (a b : Client) → b ≡ a
    → GaveUpIf shows old new repo phase a.held.cache.cache → OnOk r (GaveUpIf shows old new repo phase b.held.cache.cache)
gave_down r shows old new repo phase a b same gives = whenever r (subst (λ (k : Client). GaveUpIf shows old new repo phase k.held.cache.cache) (sym same) gives)

pub gave_here : {T E : Type 0} (r : Result T E) (shows : Bool) (old new : View) (repo other : ℕ) (phase : Phase) (after : Contents) → repo ≡ other
    → OnOk r (GaveUpIf shows old new other phase after) → OnOk r (GaveUpIf shows old new repo phase after)
gave_here r shows old new repo other phase after same gives = subst (λ (n : ℕ). OnOk r (GaveUpIf shows old new n phase after)) (sym same) gives

-- none waits
pub no_message : (shows : Bool) (old new : View) (at : At) (before mid : Held) → mid ≡ record before { links = mid.links } → (o : Option Message) → o ≡ None
    → (shows ≡ true → Does {X = Option Message} old new at.repo (Ok o) (ReceiveWork at.session (Ok o))) → mid.links.items ≡ links_behind (Ok o) at.repo before.links.items → ReceivesNone shows old new at before mid
no_message shows old new at before mid rest o is call links = record {
  call = λ s. subst (λ (x : Option Message). Does {X = Option Message} old new at.repo (Ok x) (ReceiveWork at.session (Ok x))) is (call s);
  client = ap (λ (h : Held). h.client) rest;
  links = subst (λ (x : Option Message). mid.links.items ≡ links_behind (Ok x) at.repo before.links.items) is links;
  copies = ap (λ (h : Held). h.cache.cache) rest;
}

module _ (shows : Bool) (old new : View) (at : At) (before mid : Held) (k : ReceivesNone shows old new at before mid) (joined : InSession at before) where
  unfoldable pub by_none : (p z : Pending) → z ≡ p → MovesSoIf shows old new before mid p z
  by_none p z e = λ s. record { moves = ReceivedNone at (k.call s) joined (inl k.links) k.client (λ x. inl (ap (λ (c : Contents). kept c x) k.copies)); pends = inr (e, still_written before mid k.links (λ x. ap (λ (c : Contents). changed c x) k.copies)) }

  -- and the client waits no more
  unfoldable pub by_none_idle : (after : Held) → after ≡ record mid { links = after.links } → after.links.items ≡ at_repo mid.links.items at.repo (waiting Idle) → (p z : Pending) → z ≡ p → MovesSoIf shows old new before after p z
  by_none_idle after rest links p z e = λ s. record { moves = ReceivedNone at (k.call s) joined (inr (links ∙ ap (λ (ls : List Link). at_repo ls at.repo (waiting Idle)) k.links)) (ap (λ (h : Held). h.client) rest ∙ k.client) (λ x. inl (ap (λ (c : Contents). kept c x) (ap (λ (h : Held). h.cache.cache) rest ∙ k.copies))); pends = inr (e, waits_written at.repo Idle before after (links ∙ ap (λ (ls : List Link). at_repo ls at.repo (waiting Idle)) k.links) (ap (λ (h : Held). h.cache.cache) rest ∙ k.copies)) }
