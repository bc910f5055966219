-- What a client fits when it changes its links and drops copies, at the view behind a call.
use Rattle.client_cache.specs.Copies.{Contents, kept}
use Rattle.law_cache_coherence.proofs.Lending.{changes_here}
use Rattle.law_cache_coherence.proofs.Learned.{fewer_fit}
use Rattle.law_cache_coherence.proofs.Stepping.{same_there}
use Rattle.law_cache_coherence.proofs.Whole.{copies_other, learnt_other, refused_other}
use Rattle.law_cache_coherence.specs.Fitting.{Copies, FitsAt}
use Rattle.law_cache_coherence.specs.Seen.{LinkAt, LinkIn}
use Rattle.law_cache_coherence.specs.Steps.{LinksFit}
use Rattle.client_state.specs.Calling.{CopiesLost, CopiesRefused, CopiesStay, is_session_of, links_refused}
use Rattle.client_state.specs.Learning.{is_session, links_learnt, without_session}
use Rattle.client_state.specs.Links.{at_repo, awaits_reply, changed_at, is_reply, session_in, waiting}
use Rattle.client_state.specs.declared.link.Link.TheVariants.{Apart, Joined, Unsettled}
use Rattle.client_state.specs.declared.link.Link.{Link}
use Rattle.client_state.specs.declared.link.Waits.TheVariants.{Epoch, Past}
use Rattle.client_state.specs.declared.link.Waits.{Waits}
use Rattle.session_outbox.specs.declared.answers.At.{At}
use Rattle.paused_eval.specs.Copies.{AreAmong}
use Rattle.client_port.specs.Views.{View}
use Rattle.base_reasons.specs.declared.reason.Reason.TheVariants as reasons
use Rattle.std.proofs.Common.{Bool, List, ap, arith, cond, false, inl, inr, refl, subst, sym, true, ◌∙◌, ◌≡◌, ◌≢◌, ℕ}
use Rattle.std.proofs.lemmas.Bool.Decides.{nat_tests}
use Rattle.std.proofs.lemmas.Bool.{cases_eq}
use Rattle.std.proofs.lemmas.Option.{same_Some}
use Rattle.std.specs.List.{slice_get}
use Rattle.std.specs.Prelude.{None, Option, Some, nat_eq, ◌&&◌, ◌<◌}
use Rattle.thor_value.specs.declared.names.Oref.{Oref}
use Rattle.thor_value.specs.declared.names.Ts.{Ts}
use Rattle.repo_refusals.specs.declared.refusal.Refusal.TheVariants as refused
use Rattle.repo_refusals.specs.declared.refusal.Refusal.{Refusal}

-- ---- a session that a call is made in

pub record HasSession (at : At) (link : Option Link) : Type 0 where
  pub upto : ℕ
  pub waits : Waits
  pub is : link ≡ Some (Joined at.session upto waits)

pub has_session : (at : At) (link : Option Link) → session_in at.repo link ≡ Some at → HasSession at link
has_session at None e = cc
has_session at (Some Apart) e = cc
has_session at (Some (Joined s upto waits)) e = record { upto = upto; waits = waits; is = ap (λ (n : ℕ). Some (Joined n upto waits)) (ap (λ (a : At). a.session) (same_Some _ _ e)) }
has_session at (Some (Unsettled sent index)) e = cc

-- ---- links

module _ (port : View) (committed : Ts → Bool) where
  -- fewer copies
  pub fewer_all : (links : List Link) (copies left : Copies) → AreAmong copies left → LinksFit port committed links copies → LinksFit port committed links left
  fewer_all links copies left fewer fit = record { each = λ r within. by r (slice_get links r) (fit.each r within) }
    where
      by : (r : ℕ) (o : Option Link) → LinkAt port r committed o copies → LinkAt port r committed o left
      by r None h = h
      by r (Some link) h = fewer_fit port r committed link copies left fewer h

  -- the same links
  pub same_links : (before after : List Link) (copies : Copies) → after ≡ before → LinksFit port committed before copies → LinksFit port committed after copies
  same_links before after copies same fit = subst (λ (ls : List Link). LinksFit port committed ls copies) (sym same) fit

  -- a session that awaits no answer may wait for whatever is no answer
  pub same_awaits : (r s upto : ℕ) (waits what : Waits) (copies : Copies) → is_reply what ≡ is_reply waits → LinkIn port r committed (Joined s upto waits) copies → LinkIn port r committed (Joined s upto what) copies
  same_awaits r s upto waits what copies same h = subst (λ (t : Bool). FitsAt port.opened.client (port.opened.base r) (port.unsettled r) (port.seen r) committed (record { session = s; upto = upto; awaits = t; copies = copies })) (sym same) h

  same_at : (r : ℕ) (link : Option Link) (copies left : Copies) → ((x : Oref) → left x ≡ copies x) → LinkAt port r committed link copies → LinkAt port r committed link left
  same_at r None copies left same h = h
  same_at r (Some link) copies left same h = same_there port r committed link copies left (λ x here. same x) h

  -- ---- what a refusal brings

  module _ (r : ℕ) (before after : List Link) (copies left : Contents) (numbered : (n : ℕ) → n < port.opened.repos → (port.opened.base n).repo ≡ n)
      (links : (n : ℕ) → n ≢ r → slice_get after n ≡ slice_get before n) (others : (x : Oref) → x.repo ≢ r → kept left x ≡ kept copies x) (fit : LinksFit port committed before (kept copies)) where
    other_link : (n : ℕ) → n < port.opened.repos → n ≢ r → (link : Option Link) → LinkAt port n committed link (kept copies) → LinkAt port n committed link (kept left)
    other_link n within away None h = h
    other_link n within away (Some link) h = same_there port n committed link (kept copies) (kept left) (λ x here. others x (λ e. away (sym (numbered n within) ∙ sym here ∙ e))) h

    pub changes_one : (r < port.opened.repos → LinkAt port r committed (slice_get before r) (kept copies) → LinkAt port r committed (slice_get after r) (kept left)) → LinksFit port committed after (kept left)
    changes_one there = record {
      each = λ n within. elim (cases_eq n r) [
        | inl e ↦ subst (λ (k : ℕ). LinkAt port k committed (slice_get after k) (kept left)) (sym e) (there (subst (λ (k : ℕ). k < port.opened.repos) e within) (fit.each r (subst (λ (k : ℕ). k < port.opened.repos) e within)))
        | inr ne ↦ subst (λ (o : Option Link). LinkAt port n committed o (kept left)) (sym (links n ne)) (other_link n within ne (slice_get before n) (fit.each n within))
      ];
    }

  module _ (r : ℕ) (before : List Link) (copies left : Contents) (numbered : (n : ℕ) → n < port.opened.repos → (port.opened.base n).repo ≡ n) (fit : LinksFit port committed before (kept copies)) where
    abbrev Then : List Link → Type 0
    Then after = LinkAt port r committed (slice_get after r) (kept left)

    -- a session that is gone
    module _ (m : ℕ) (within : r < port.opened.repos) (lost : CopiesLost m r before copies left) where
      test : (x : Oref) (link : Option Link) (t : Bool) → slice_get before r ≡ link → is_session_of m link ≡ t → kept left x ≡ cond (t && nat_eq x.repo r) None (kept copies x)
      test x link t is e = lost x ∙ ap (λ (o : Option Link). cond (is_session_of m o && nat_eq x.repo r) None (kept copies x)) is ∙ ap (λ (z : Bool). cond (z && nat_eq x.repo r) None (kept copies x)) e

      here : (x : Oref) → x.repo ≡ (port.opened.base r).repo → nat_eq x.repo r ≡ true
      here x e = by (e ∙ numbered r within)
        where
          by : x.repo ≡ r → nat_eq x.repo r ≡ true
          by e = grind (arith, nat_tests)

      lost_here : (link : Link) (t : Bool) → slice_get before r ≡ Some link → is_session m link ≡ t → LinkIn port r committed link (kept copies) → LinkIn port r committed (cond t Apart link) (kept left)
      lost_here link true is e h = λ x on. test x (Some link) true is e ∙ ap (λ (t : Bool). cond t None (kept copies x)) (here x on)
      lost_here link false is e h = same_there port r committed link (kept copies) (kept left) (λ x on. test x (Some link) false is e) h

      lost_at : (link : Option Link) → slice_get before r ≡ link → LinkAt port r committed link (kept copies) → Then (at_repo before r (without_session m))
      lost_at None is h = subst (λ (ls : List Link). Then ls) (sym (ap (changed_at before r (without_session m)) is)) (subst (λ (o : Option Link). LinkAt port r committed o (kept left)) (sym is) tt)
      lost_at (Some link) is h = subst (λ (o : Option Link). LinkAt port r committed o (kept left)) (sym (changes_here before r (without_session m) link is)) (lost_here link (is_session m link) is refl h)

    stays : CopiesStay copies left → LinkAt port r committed (slice_get before r) (kept copies) → Then before
    stays stay h = same_at r (slice_get before r) (kept copies) (kept left) stay h

    pub loses : (k : Refusal) → CopiesRefused k r before copies left → r < port.opened.repos → LinkAt port r committed (slice_get before r) (kept copies) → Then (links_refused k r before)
    loses (refused.Reason (reasons.Gone m)) lost within h = lost_at m within lost (slice_get before r) refl h
    loses (refused.Reason (reasons.Epoch m)) lost within h = stays lost h
    loses (refused.Reason (reasons.Blocked t)) lost within h = stays lost h
    loses (refused.Reason (reasons.TooOld t)) lost within h = stays lost h
    loses (refused.Reason (reasons.Stale x p)) lost within h = stays lost h
    loses (refused.Reason (reasons.Earlier t x)) lost within h = stays lost h
    loses (refused.Reason (reasons.Later t x)) lost within h = stays lost h
    loses (refused.Reason (reasons.Full m)) lost within h = stays lost h
    loses (refused.Reason reasons.ClockEnd) lost within h = stays lost h
    loses (refused.Down m) lost within h = stays lost h
    loses (refused.Stopped m) lost within h = stays lost h
    loses (refused.Damaged m p) lost within h = stays lost h
    loses refused.NoMemory lost within h = stays lost h

    pub lose_all : (k : Refusal) → CopiesRefused k r before copies left → LinksFit port committed (links_refused k r before) (kept left)
    lose_all k lost = changes_one r before (links_refused k r before) copies left numbered (λ n other. refused_other r before k n other) (λ x away. copies_other r before copies left x away k lost) fit (loses k lost)

    waits_at : (w : Waits) → is_reply w ≡ false → ((link : Link) → slice_get before r ≡ Some link → awaits_reply link ≡ false) → CopiesStay copies left → LinkAt port r committed (slice_get before r) (kept copies) → Then (at_repo before r (waiting w))
    waits_at w quiet idle stay h = by (slice_get before r) refl h
      where
        one : (link : Link) → awaits_reply link ≡ false → LinkIn port r committed link (kept copies) → LinkIn port r committed (waiting w link) (kept left)
        one Apart quiet' h = same_there port r committed Apart (kept copies) (kept left) (λ x on. stay x) h
        one (Joined s upto waits) quiet' h = same_awaits r s upto waits w (kept left) (quiet ∙ sym quiet') (same_there port r committed (Joined s upto waits) (kept copies) (kept left) (λ x on. stay x) h)
        one (Unsettled sent index) quiet' h = same_there port r committed (Unsettled sent index) (kept copies) (kept left) (λ x on. stay x) h

        by : (link : Option Link) → slice_get before r ≡ link → LinkAt port r committed link (kept copies) → Then (at_repo before r (waiting w))
        by None is h = subst (λ (ls : List Link). Then ls) (sym (ap (changed_at before r (waiting w)) is)) (subst (λ (o : Option Link). LinkAt port r committed o (kept left)) (sym is) tt)
        by (Some link) is h = subst (λ (o : Option Link). LinkAt port r committed o (kept left)) (sym (changes_here before r (waiting w) link is)) (one link (idle link is) h)

    pub learns : (k : Refusal) → ((link : Link) → r < port.opened.repos → slice_get before r ≡ Some link → awaits_reply link ≡ false) → CopiesRefused k r before copies left → r < port.opened.repos → LinkAt port r committed (slice_get before r) (kept copies) → Then (links_learnt k r before)
    learns (refused.Reason (reasons.Gone m)) idle lost within h = lost_at m within lost (slice_get before r) refl h
    learns (refused.Reason (reasons.Epoch m)) idle lost within h = waits_at (Epoch m) refl (λ link is. idle link within is) lost h
    learns (refused.Reason (reasons.Blocked t)) idle lost within h = stays lost h
    learns (refused.Reason (reasons.TooOld t)) idle lost within h = stays lost h
    learns (refused.Reason (reasons.Stale x p)) idle lost within h = waits_at (Past p) refl (λ link is. idle link within is) lost h
    learns (refused.Reason (reasons.Earlier t x)) idle lost within h = stays lost h
    learns (refused.Reason (reasons.Later t x)) idle lost within h = stays lost h
    learns (refused.Reason (reasons.Full m)) idle lost within h = stays lost h
    learns (refused.Reason reasons.ClockEnd) idle lost within h = stays lost h
    learns (refused.Down m) idle lost within h = stays lost h
    learns (refused.Stopped m) idle lost within h = stays lost h
    learns (refused.Damaged m p) idle lost within h = stays lost h
    learns refused.NoMemory idle lost within h = stays lost h

    pub learn_all : (k : Refusal) → ((link : Link) → r < port.opened.repos → slice_get before r ≡ Some link → awaits_reply link ≡ false) → CopiesRefused k r before copies left → LinksFit port committed (links_learnt k r before) (kept left)
    learn_all k idle lost = changes_one r before (links_learnt k r before) copies left numbered (λ n other. learnt_other r before k n other) (λ x away. copies_other r before copies left x away k lost) fit (learns k idle lost)
