-- What a client holds behind a call, and behind copies that it drops.
use Rattle.client_cache.specs.Copies.{Contents, kept}
use Rattle.client_state.specs.Calling.{Connects, CopiesBehind, CopiesLost, CopiesRefused, CopiesStay, Draws, Fetches, Grants, is_session_of, links_asked, links_drawn, links_joined, upto_in}
use Rattle.client_state.specs.Links.{NoneAwaits, at_repo, session_in}
use Rattle.client_state.specs.Moving.{Asked, CallsIdle, Connected, Drawn, Fetched, Granted, HoldsLess, HoldsSame, InSession, IsApart, MaySettle, Rested, SendsNothing, SendsNothingIf, Settled}
use Rattle.client_state.specs.declared.calls.Drew.{Drew}
use Rattle.client_state.specs.declared.held.Held.{Held}
use Rattle.client_state.specs.declared.link.Link.TheVariants.{Apart, Joined, Unsettled}
use Rattle.client_state.specs.declared.link.Link.{Link}
use Rattle.session_outbox.specs.declared.answers.Asked as answer
use Rattle.session_outbox.specs.declared.answers.Asked.TheVariants as answers
use Rattle.session_outbox.specs.declared.answers.At.{At}
use Rattle.session_outbox.specs.declared.answers.Verdict.{Verdict}
use Rattle.paused_eval.specs.Copies.{AreAmong}
use Rattle.client_port.specs.Views.{View}
use Rattle.client_port.specs.Works.{AskWork, ConnectWork, Does, FetchWork}
use Rattle.base_reasons.specs.declared.reason.Reason.TheVariants as reasons
use Rattle.std.proofs.Common.{Bool, List, ap, cond, inl, inr, refl, subst, sym, true, ◌≡◌, ◌∙◌, ℕ}
use Rattle.std.proofs.lemmas.Option.{same_Some}
use Rattle.std.specs.Prelude.{Err, None, Ok, Option, Result, Some, nat_eq, slice_get, ◌&&◌, ◌⊎◌}
use Rattle.thor_value.specs.declared.memory.NoMemory.{NoMemory}
use Rattle.thor_value.specs.declared.names.Oref.{Oref}
use Rattle.thor_value.specs.declared.names.Ts.{Ts}
use Rattle.thor_value.specs.declared.values.Obj.{Obj}
use Rattle.repo_refusals.specs.declared.refusal.Refusal.TheVariants as refused
use Rattle.repo_refusals.specs.declared.refusal.Refusal.{Refusal}

-- ---- copies

-- fewer of fewer copies
pub fewer_among : (a b c : Oref → Option Obj) → AreAmong a b → AreAmong b c → AreAmong a c
fewer_among a b c f g x = by (f x) (g x)
  where
    by : (b x ≡ a x) ⊎ (b x ≡ None) → (c x ≡ b x) ⊎ (c x ≡ None) → (c x ≡ a x) ⊎ (c x ≡ None)
    by f (inr q) = inr q
    by (inl p) (inl q) = inl (q ∙ p)
    by (inr p) (inl q) = inr (q ∙ p)

-- copies that stay are among them
pub stay_among : (a b : Contents) → CopiesStay a b → AreAmong (kept a) (kept b)
stay_among a b stay x = inl (stay x)

-- ---- calls

module _ (shows : Bool) (old new : View) (before after : Held) where
  pub by_connect : (repo : ℕ) → Connects shows old new repo before.client before.links.items after.links.items → IsApart repo before
      → after.client ≡ before.client → CopiesStay before.cache.cache after.cache.cache → SendsNothingIf shows old new before after
  by_connect repo k apart client stay = λ s. Connected repo (record { result = k.result; call = λ t. k.call s; links = k.links }) apart client (stay_among before.cache.cache after.cache.cache stay)

  pub by_fetch : (at : At) (page upto : ℕ) → upto ≡ upto_in (slice_get before.links.items at.repo) → Fetches shows old new at page upto before.links.items after.links.items before.cache.cache after.cache.cache
      → CallsIdle at before → after.client ≡ before.client → SendsNothingIf shows old new before after
  by_fetch at page upto is k idle client = λ s. Fetched at page after.cache.cache (subst (λ (n : ℕ). Fetches true old new at page n before.links.items after.links.items before.cache.cache after.cache.cache) is (record { result = k.result; call = λ t. k.call s; links = k.links; kept_so = k.kept_so })) idle client (λ x. inl refl)

  pub by_grant : (at : At) → Grants shows old new at before.links.items after.links.items before.cache.cache after.cache.cache
      → CallsIdle at before → after.client ≡ before.client → SendsNothingIf shows old new before after
  by_grant at k idle client = λ s. Granted at after.cache.cache (record { result = k.result; call = λ t. k.call s; links = k.links; kept_so = k.kept_so }) idle client (λ x. inl refl)

  pub by_draw : (at : At) (answer : Result Drew NoMemory) → Draws shows old new at answer before.links.items after.links.items before.cache.cache after.cache.cache
      → session_in at.repo (slice_get before.links.items at.repo) ≡ Some at → after.client ≡ before.client → SendsNothingIf shows old new before after
  by_draw at answer k joined client = λ s. Drawn at answer after.cache.cache (record { floor = k.floor; result = k.result; call = λ t. k.call s; told = k.told; links = k.links; kept_so = k.kept_so }) joined client (λ x. inl refl)

-- ---- sessions

pub here : (r : ℕ) (at : At) (link : Option Link) → session_in r link ≡ Some at → r ≡ at.repo
here r at None h = cc
here r at (Some Apart) h = cc
here r at (Some (Joined s upto waits)) h = ap (λ (a : At). a.repo) (same_Some (record { repo = r; session = s }) at h)
here r at (Some (Unsettled sent index)) h = cc

-- the session with a repository is one of that repository
pub session_is_here : (links : List Link) (r : ℕ) (at : At) → session_in r (slice_get links r) ≡ Some at → session_in at.repo (slice_get links at.repo) ≡ Some at
session_is_here links r at h = subst (λ (n : ℕ). session_in n (slice_get links n) ≡ Some at) (here r at (slice_get links r) h) h

-- ---- what is dropped behind a call

pub less_itself : (a : Held) → HoldsLess a a
less_itself a = (refl, refl, λ x. inl refl)

pub less_twice : (a b c : Held) → HoldsLess a b → HoldsLess b c → HoldsLess a c
less_twice a b c f g = (g.0 ∙ f.0, g.1 ∙ f.1, fewer_among (kept a.cache.cache) (kept b.cache.cache) (kept c.cache.cache) f.2 g.2)

module _ (old new : View) (a b c : Held) (less : HoldsLess b c) where
  among : (copies : Oref → Option Obj) → AreAmong copies (kept b.cache.cache) → AreAmong copies (kept c.cache.cache)
  among copies f = fewer_among copies (kept b.cache.cache) (kept c.cache.cache) f less.2

  pub sends_then_drops : SendsNothing old new a b → SendsNothing old new a c
  sends_then_drops (Rested same f) = Rested same (less_twice a b c f less)
  sends_then_drops (Connected repo k apart client f) = Connected repo (record { result = k.result; call = k.call; links = less.1 ∙ k.links }) apart (less.0 ∙ client) (among (kept a.cache.cache) f)
  sends_then_drops (Fetched at page left k idle client f) = Fetched at page left (record { result = k.result; call = k.call; links = less.1 ∙ k.links; kept_so = k.kept_so }) idle (less.0 ∙ client) (among (kept left) f)
  sends_then_drops (Granted at left k idle client f) = Granted at left (record { result = k.result; call = k.call; links = less.1 ∙ k.links; kept_so = k.kept_so }) idle (less.0 ∙ client) (among (kept left) f)
  sends_then_drops (Drawn at answer left k joined client f) = Drawn at answer left (record { floor = k.floor; result = k.result; call = k.call; told = k.told; links = less.1 ∙ k.links; kept_so = k.kept_so }) joined (less.0 ∙ client) (among (kept left) f)
  sends_then_drops (Asked r t result d f) = Asked r t result d (less_twice a b c f less)
  sends_then_drops (Settled r t v sent index d there links client f) = Settled r t v sent index d there (less.1 ∙ links) (less.0 ∙ client) (among (kept a.cache.cache) f)

-- ---- what is let go before a call

module _ (a b : Held) (same : HoldsSame a b) where
  there : (r : ℕ) → slice_get b.links.items r ≡ slice_get a.links.items r
  there r = ap (λ (ls : List Link). slice_get ls r) same.1

  stays_then : (left : Contents) → CopiesStay b.cache.cache left → CopiesStay a.cache.cache left
  stays_then left f x = f x ∙ same.2 x

  lost_then : (s repo : ℕ) (left : Contents) → CopiesLost s repo b.links.items b.cache.cache left → CopiesLost s repo a.links.items a.cache.cache left
  lost_then s repo left f x =
      f x ∙ ap (λ (o : Option Link). cond (is_session_of s o && nat_eq x.repo repo) None (kept b.cache.cache x)) (there repo)
      ∙ ap (λ (o : Option Obj). cond (is_session_of s (slice_get a.links.items repo) && nat_eq x.repo repo) None o) (same.2 x)

  refused_then : (k : Refusal) (repo : ℕ) (left : Contents) → CopiesRefused k repo b.links.items b.cache.cache left → CopiesRefused k repo a.links.items a.cache.cache left
  refused_then (refused.Reason (reasons.Gone s)) repo left f = lost_then s repo left f
  refused_then (refused.Reason (reasons.Epoch n)) repo left f = stays_then left f
  refused_then (refused.Reason (reasons.Blocked t)) repo left f = stays_then left f
  refused_then (refused.Reason (reasons.TooOld t)) repo left f = stays_then left f
  refused_then (refused.Reason (reasons.Stale x n)) repo left f = stays_then left f
  refused_then (refused.Reason (reasons.Earlier t x)) repo left f = stays_then left f
  refused_then (refused.Reason (reasons.Later t x)) repo left f = stays_then left f
  refused_then (refused.Reason (reasons.Full n)) repo left f = stays_then left f
  refused_then (refused.Reason reasons.ClockEnd) repo left f = stays_then left f
  refused_then (refused.Down n) repo left f = stays_then left f
  refused_then (refused.Stopped n) repo left f = stays_then left f
  refused_then (refused.Damaged n m) repo left f = stays_then left f
  refused_then refused.NoMemory repo left f = stays_then left f

  behind_then : {X : Type 0} (result : Result X Refusal) (repo : ℕ) (left : Contents) → CopiesBehind result repo b.links.items b.cache.cache left → CopiesBehind result repo a.links.items a.cache.cache left
  behind_then (Ok x) repo left f = stays_then left f
  behind_then (Err k) repo left f = refused_then k repo left f

  in_session_then : (at : At) → InSession at b → InSession at a
  in_session_then at f = ap (session_in at.repo) (sym (there at.repo)) ∙ f

  none_awaits_then : NoneAwaits 8 b.links.items → NoneAwaits 8 a.links.items
  none_awaits_then f r l within e = f r l within (there r ∙ e)

  among_then : (left : Oref → Option Obj) → AreAmong (kept b.cache.cache) left → AreAmong (kept a.cache.cache) left
  among_then left f = fewer_among (kept a.cache.cache) (kept b.cache.cache) left (stay_among a.cache.cache b.cache.cache same.2) f

  less_then : (c : Held) → HoldsLess b c → HoldsLess a c
  less_then c f = (f.0 ∙ same.0, f.1 ∙ same.1, among_then (kept c.cache.cache) f.2)

  pub drops_then_sends : (old new : View) (c : Held) → SendsNothing old new b c → SendsNothing old new a c
  drops_then_sends old new c (Rested still f) = Rested still (less_then c f)
  drops_then_sends old new c (Connected repo k apart client f) =
      Connected repo (record { result = k.result; call = λ t. subst (λ (n : ℕ). Does old new repo k.result (ConnectWork n k.result)) same.0 (k.call t); links = k.links ∙ ap (λ (ls : List Link). links_joined k.result repo ls) same.1 })
      (λ link e. apart link (there repo ∙ e)) (client ∙ same.0) (among_then (kept c.cache.cache) f)
  drops_then_sends old new c (Fetched at page left k idle client f) =
      Fetched at page left (record {
        result = k.result;
        call = λ t. subst (λ (o : Option Link). Does old new at.repo k.result (FetchWork at.session page (upto_in o) k.result)) (there at.repo) (k.call t);
        links = k.links ∙ ap (λ (ls : List Link). links_asked k.result at.repo ls) same.1;
        kept_so = behind_then k.result at.repo left k.kept_so;
      }) (in_session_then at idle.0, none_awaits_then idle.1) (client ∙ same.0) f
  drops_then_sends old new c (Granted at left k idle client f) =
      Granted at left (record { result = k.result; call = k.call; links = k.links ∙ ap (λ (ls : List Link). links_asked k.result at.repo ls) same.1; kept_so = behind_then k.result at.repo left k.kept_so })
      (in_session_then at idle.0, none_awaits_then idle.1) (client ∙ same.0) f
  drops_then_sends old new c (Drawn at answer left k joined client f) =
      Drawn at answer left (record { floor = k.floor; result = k.result; call = k.call; told = k.told; links = k.links ∙ ap (λ (ls : List Link). links_drawn k.result at.repo ls) same.1; kept_so = behind_then k.result at.repo left k.kept_so })
      (in_session_then at joined) (client ∙ same.0) f
  drops_then_sends old new c (Asked r t result d f) = Asked r t result d (less_then c f)
  drops_then_sends old new c (Settled r t v sent index d unsettled links client f) =
      Settled r t v sent index d (sym (there r) ∙ unsettled) (links ∙ ap (λ (ls : List Link). at_repo ls r (λ l. Apart)) same.1) (client ∙ same.0) (among_then (kept c.cache.cache) f)

-- ---- behind the answer about an Unknown item

module _ (old new : View) (a b : Held) (r : ℕ) (t : Ts) (v : Verdict) (d : Does {X = answer.Asked} old new r (Ok (answers.Settled v)) (AskWork t (Ok (answers.Settled v)))) where
  pub settles : MaySettle r a b → SendsNothing old new a b
  settles (inl f) = Asked r t (Ok (answers.Settled v)) d f
  settles (inr f) = Settled r t v f.sent f.index d f.there f.links f.client f.fewer
