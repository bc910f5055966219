-- Links behind what a client learns from the refusal of a request.
use Rattle.client_cache.specs.Copies.{Contents, kept}
use Rattle.law_cache_coherence.proofs.Asking.{same_number}
use Rattle.law_cache_coherence.proofs.Handing.{link_prepared, link_uncommitted}
use Rattle.law_cache_coherence.proofs.Lending.{changes_here, same_copies}
use Rattle.law_cache_coherence.proofs.Places.{gone_is_own}
use Rattle.law_cache_coherence.proofs.Reasons.{was_calm}
use Rattle.law_cache_coherence.specs.Fitting.{Copies, FitsAt, HoldsNone, Kept}
use Rattle.law_cache_coherence.specs.Seen.{IsSeenRight, LinkAt, LinkIn}
use Rattle.client_state.specs.Calling.{CopiesLost, CopiesRefused, CopiesStay, is_session_of}
use Rattle.client_state.specs.Learning.{links_learnt, without_session}
use Rattle.client_state.specs.Links.{at_repo, is_reply, waiting}
use Rattle.client_state.specs.declared.link.Link.TheVariants.{Apart, Joined, Unsettled}
use Rattle.client_state.specs.declared.link.Link.{Link}
use Rattle.client_state.specs.declared.link.Waits.TheVariants.{Epoch, Past}
use Rattle.client_state.specs.declared.link.Waits.{Waits}
use Rattle.log_entries.specs.declared.entry.Entry.TheVariants.{Prepared}
use Rattle.log_entries.specs.declared.entry.Entry.{Entry}
use Rattle.log_entries.specs.declared.request.Request.{Request}
use Rattle.spec_history.specs.History.{Base}
use Rattle.session_outbox.specs.declared.answers.At.{At}
use Rattle.paused_eval.specs.Copies.{AreAmong}
use Rattle.client_port.specs.Views as views
use Rattle.client_port.specs.Views.{View}
use Rattle.client_port.specs.Works.{Answered, CommitWork, Does, PrepareWork, RequestRefused, alone_entry}
use Rattle.base_reasons.specs.declared.reason.Reason.TheVariants as reasons
use Rattle.spec_trace.specs.Trace.{Item}
use Rattle.std.proofs.Common.{Bool, List, ap, cond, false, inl, inr, refl, subst, sym, ◌∙◌, ◌≡◌, ℕ}
use Rattle.std.specs.List.{slice_get}
use Rattle.std.specs.Prelude.{Err, None, Option, Some, nat_eq, ◌&&◌}
use Rattle.thor_value.specs.declared.names.Oref.{Oref}
use Rattle.thor_value.specs.declared.values.Obj.{Obj}
use Rattle.thor_value.specs.declared.names.Ts.{Ts}
use Rattle.repo_refusals.specs.declared.refusal.Refusal.TheVariants as refused
use Rattle.repo_refusals.specs.declared.refusal.Refusal.{Refusal}

module _ (port : View) (r s upto : ℕ) (waits : Waits) (before : List Link) (committed : Ts → Bool) (copies left : Contents) (there : slice_get before r ≡ Some (Joined s upto waits)) (idle : is_reply waits ≡ false) (numbered : (port.opened.base r).repo ≡ r) (h : LinkIn port r committed (Joined s upto waits) (kept copies)) where
  abbrev Then : Option Link → Type 0
  Then link = LinkAt port r committed link (kept left)

  abbrev holding : Bool → Copies → Kept
  holding awaits copies' = record { session = s; upto = upto; awaits = awaits; copies = copies' }

  -- with the copies as they are, whatever is waited for that is no answer
  fits_left : CopiesStay copies left → FitsAt port.opened.client (port.opened.base r) (port.unsettled r) (port.seen r) committed (holding false (kept left))
  fits_left stay = same_copies port.opened.client (port.opened.base r) (port.unsettled r) (port.seen r) committed (holding false (kept copies)) (kept left) (λ x here. stay x) (subst (λ (t : Bool). FitsAt port.opened.client (port.opened.base r) (port.unsettled r) (port.seen r) committed (holding t (kept copies))) idle h)

  stays : CopiesStay copies left → Then (slice_get before r)
  stays stay = subst Then (sym there) (subst (λ (t : Bool). FitsAt port.opened.client (port.opened.base r) (port.unsettled r) (port.seen r) committed (holding t (kept left))) (sym idle) (fits_left stay))

  awaits : (w : Waits) → is_reply w ≡ false → CopiesStay copies left → Then (slice_get (at_repo before r (waiting w)) r)
  awaits w quiet stay = subst Then (sym (changes_here before r (waiting w) (Joined s upto waits) there)) (subst (λ (t : Bool). FitsAt port.opened.client (port.opened.base r) (port.unsettled r) (port.seen r) committed (holding t (kept left))) (sym quiet) (fits_left stay))

  none_held : CopiesLost s r before copies left → HoldsNone (port.opened.base r) (kept left)
  none_held lost x here = lost x ∙ ap (λ (o : Option Link). cond (is_session_of s o && nat_eq x.repo r) None (kept copies x)) there ∙ ap (λ (t : Bool). cond (t && nat_eq x.repo r) None (kept copies x)) (same_number s) ∙ ap (λ (t : Bool). cond t None (kept copies x)) (ap (λ (n : ℕ). nat_eq n r) (here ∙ numbered) ∙ same_number r)

  gone : CopiesLost s r before copies left → Then (slice_get (at_repo before r (without_session s)) r)
  gone lost = subst Then (sym (changes_here before r (without_session s) (Joined s upto waits) there ∙ ap (λ (t : Bool). Some (cond t Apart (Joined s upto waits))) (same_number s))) (none_held lost)

  pub learnt_fits : (refusal : Refusal) → ((n : ℕ) → refusal ≡ refused.Reason (reasons.Gone n) → n ≡ s) → CopiesRefused refusal r before copies left → Then (slice_get (links_learnt refusal r before) r)
  learnt_fits (refused.Reason (reasons.Gone n)) own k = subst (λ (m : ℕ). CopiesLost m r before copies left → Then (slice_get (at_repo before r (without_session m)) r)) (sym (own n refl)) gone k
  learnt_fits (refused.Reason (reasons.Epoch n)) own k = awaits (Epoch n) refl k
  learnt_fits (refused.Reason (reasons.Blocked t)) own k = stays k
  learnt_fits (refused.Reason (reasons.TooOld t)) own k = stays k
  learnt_fits (refused.Reason (reasons.Stale x p)) own k = awaits (Past p) refl k
  learnt_fits (refused.Reason (reasons.Earlier t x)) own k = stays k
  learnt_fits (refused.Reason (reasons.Later t x)) own k = stays k
  learnt_fits (refused.Reason (reasons.Full n)) own k = stays k
  learnt_fits (refused.Reason reasons.ClockEnd) own k = stays k
  learnt_fits (refused.Down n) own k = stays k
  learnt_fits (refused.Stopped n) own k = stays k
  learnt_fits (refused.Damaged n p) own k = stays k
  learnt_fits refused.NoMemory own k = stays k

pub learned : (port : View) (r s upto : ℕ) (waits : Waits) (refusal : Refusal) (before : List Link) (committed : Ts → Bool) (copies left : Contents) → slice_get before r ≡ Some (Joined s upto waits) → is_reply waits ≡ false → (port.opened.base r).repo ≡ r
    → ((n : ℕ) → refusal ≡ refused.Reason (reasons.Gone n) → n ≡ s) → CopiesRefused refusal r before copies left → LinkIn port r committed (Joined s upto waits) (kept copies) → LinkAt port r committed (slice_get (links_learnt refusal r before) r) (kept left)
learned port r s upto waits refusal before committed copies left there idle numbered own lost h = learnt_fits port r s upto waits before committed copies left there idle numbered h refusal own lost

-- ---- a request that is refused

-- one that is refused for a reason was judged by its verdict
was_refused : (b : Base) (e : Entry) (r s n : ℕ) (q : Request) (met : views.Unsettled) (at after : List Item) (u : views.Unsettled) → Answered {X = ℕ} r (Err (refused.Reason (reasons.Gone n))) met at after u (RequestRefused e b at s q (refused.Reason (reasons.Gone n)) after u) → n ≡ s
was_refused b e r s n q met at after u h = gone_is_own b at s n q (was_calm ℕ r (reasons.Gone n) met at after u (RequestRefused e b at s q (refused.Reason (reasons.Gone n)) after u) h).0.1

module _ (old new : View) (at : At) (upto : ℕ) (waits : Waits) (committed : Ts → Bool) (before : List Link) (copies left : Contents) (q : Request) (k : Refusal) where
  own_commit : Does {X = ℕ} old new at.repo (Err k) (CommitWork at.session q (Err k)) → (n : ℕ) → k ≡ refused.Reason (reasons.Gone n) → n ≡ at.session
  own_commit d n is = let y = subst (λ (z : Refusal). Does {X = ℕ} old new at.repo (Err z) (CommitWork at.session q (Err z))) is d in was_refused (old.opened.base at.repo) (alone_entry q) at.repo at.session n q y.met y.at (new.seen at.repo) (new.unsettled at.repo) y.answer

  own_prepare : Does {X = ℕ} old new at.repo (Err k) (PrepareWork at.session q (Err k)) → (n : ℕ) → k ≡ refused.Reason (reasons.Gone n) → n ≡ at.session
  own_prepare d n is = let y = subst (λ (z : Refusal). Does {X = ℕ} old new at.repo (Err z) (PrepareWork at.session q (Err z))) is d in was_refused (old.opened.base at.repo) (Prepared q) at.repo at.session n q y.met y.at (new.seen at.repo) (new.unsettled at.repo) y.answer

  pub commit_learned : Does {X = ℕ} old new at.repo (Err k) (CommitWork at.session q (Err k)) → IsSeenRight new at.repo committed → slice_get before at.repo ≡ Some (Joined at.session upto waits) → is_reply waits ≡ false → CopiesRefused k at.repo before copies left
      → LinkIn old at.repo committed (Joined at.session upto waits) (kept copies) → LinkAt new at.repo committed (slice_get (links_learnt k at.repo before) at.repo) (kept left)
  commit_learned d seen there idle lost h = learned new at.repo at.session upto waits k before committed copies left there idle seen.numbered (own_commit d) lost (link_uncommitted old new at.repo at.session upto waits committed (kept copies) seen h q k d)

  pub prepare_learned : Does {X = ℕ} old new at.repo (Err k) (PrepareWork at.session q (Err k)) → IsSeenRight new at.repo committed → q.upto ≡ upto → committed q.tx ≡ false → slice_get before at.repo ≡ Some (Joined at.session upto waits) → is_reply waits ≡ false → CopiesRefused k at.repo before copies left
      → LinkIn old at.repo committed (Joined at.session upto waits) (kept copies) → LinkAt new at.repo committed (slice_get (links_learnt k at.repo before) at.repo) (kept left)
  prepare_learned d seen up open' there idle lost h = learned new at.repo at.session upto waits k before committed copies left there idle seen.numbered (own_prepare d) lost (link_prepared old new at.repo at.session upto waits committed (kept copies) seen h q (Err k) d up open')

-- ---- fewer copies

among : (copies left : Copies) → AreAmong copies left → (x : Oref) (o : Obj) → left x ≡ Some o → copies x ≡ Some o
among copies left fewer x o is = elim (fewer x) [
  | inl same ↦ sym same ∙ is
  | inr none ↦ let never : None ≡ Some o = sym none ∙ is in cc
]

none_among : (copies left : Copies) → AreAmong copies left → (x : Oref) → copies x ≡ None → left x ≡ None
none_among copies left fewer x none = elim (fewer x) [
  | inl same ↦ same ∙ none
  | inr none' ↦ none'
]

pub fewer_fit : (port : View) (r : ℕ) (committed : Ts → Bool) (link : Link) (copies left : Copies) → AreAmong copies left → LinkIn port r committed link copies → LinkIn port r committed link left
fewer_fit port r committed Apart copies left fewer h = λ x here. none_among copies left fewer x (h x here)
fewer_fit port r committed (Unsettled sent index) copies left fewer h = λ x here. none_among copies left fewer x (h x here)
fewer_fit port r committed (Joined s upto waits) copies left fewer h = record {
  v = h.v;
  there = h.there;
  own = h.own;
  keeps = λ calm live. let y = h.keeps calm live in record {
    known = y.known;
    step = y.step;
    asked = y.asked;
    copies = λ tells. let z = y.copies tells in record {
      current = λ x o here is. z.current x o here (among copies left fewer x o is);
      own = λ x o d t w here mine is. z.own x o d t w here mine (among copies left fewer x o is);
      pages = z.pages;
    };
  };
}
