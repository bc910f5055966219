-- All links behind calls that are made in whatever session.
use Rattle.law_cache_coherence.proofs.Handing.{given_up_by_any, prepared_by_any, told_by_any, uncommitted_by_any, undecided_by_any}
use Rattle.law_cache_coherence.proofs.Lending.{fits_now}
use Rattle.law_cache_coherence.proofs.Whole.{as_inside}
use Rattle.law_cache_coherence.specs.Fitting.{Copies}
use Rattle.law_cache_coherence.specs.Seen.{IsSeenRight, LinkIn, called_at}
use Rattle.law_cache_coherence.specs.Steps.{AllSeenRight, LinksFit}
use Rattle.client_state.specs.declared.link.Link.TheVariants.{Apart, Joined, Unsettled}
use Rattle.client_state.specs.declared.link.Link.{Link}
use Rattle.client_state.specs.declared.link.Waits.{Waits}
use Rattle.log_entries.specs.declared.request.Request.{Request}
use Rattle.session_outbox.specs.declared.answers.Verdict.{Verdict}
use Rattle.client_port.specs.Acting.{Acts, Committed, Decided, Prepared}
use Rattle.client_port.specs.Views.{View}
use Rattle.client_port.specs.Works.{CommitWork, DecideWork, Does, PrepareWork}
use Rattle.std.proofs.Common.{Bool, List, false, refl, true, ◌≡◌, ℕ}
use Rattle.std.specs.List.{slice_get}
use Rattle.std.specs.Prelude.{Err, Ok, Result, Some, ◌<◌}
use Rattle.thor_value.specs.declared.names.Ts.{Ts}
use Rattle.repo_refusals.specs.declared.refusal.Refusal.{Refusal}

module _ (old new : View) (r : ℕ) (links : List Link) (copies : Copies) (committed : Ts → Bool) (seen : AllSeenRight new committed) (fit : LinksFit old committed links copies) where
  -- without a session nothing is held, before and behind
  by_link : (acts : Acts old new) → called_at old new acts ≡ Some r → new.opened ≡ old.opened
      → ((s upto : ℕ) (waits : Waits) → slice_get links r ≡ Some (Joined s upto waits) → r < new.opened.repos → IsSeenRight new r committed → LinkIn old r committed (Joined s upto waits) copies → LinkIn new r committed (Joined s upto waits) copies) → LinksFit new committed links copies
  by_link acts is same joined = as_inside old new r links copies committed seen fit acts is by
    where
      by : (link : Link) → slice_get links r ≡ Some link → r < new.opened.repos → IsSeenRight new r committed → LinkIn old r committed link copies → LinkIn new r committed link copies
      by Apart e inside right h = fits_now old new r committed same right (Some Apart) copies h
      by (Joined s upto waits) e inside right h = joined s upto waits e inside right h
      by (Unsettled sent index) e inside right h = fits_now old new r committed same right (Some (Unsettled sent index)) copies h

  pub prepared_in_any : (n : ℕ) (q : Request) (result : Result ℕ Refusal) → Does old new r result (PrepareWork n q result) → ((upto : ℕ) (waits : Waits) → slice_get links r ≡ Some (Joined q.session upto waits) → q.upto ≡ upto) → ((place : ℕ) → result ≡ Ok place → r < new.opened.repos → committed q.tx ≡ false) → LinksFit new committed links copies
  prepared_in_any n q result d up open' = by_link (Prepared r n q result d) refl d.called.same (λ s upto waits e inside right h. prepared_by_any old new r s upto waits committed copies right h n q result d (λ same. up upto waits (subst_session s upto waits q.session same e)) (λ place is. open' place is inside))
    where
      subst_session : (s upto : ℕ) (waits : Waits) (m : ℕ) → m ≡ s → slice_get links r ≡ Some (Joined s upto waits) → slice_get links r ≡ Some (Joined m upto waits)
      subst_session s upto waits m e is = rw e is

  pub uncommitted_in_any : (n : ℕ) (q : Request) (k : Refusal) → Does {X = ℕ} old new r (Err k) (CommitWork n q (Err k)) → LinksFit new committed links copies
  uncommitted_in_any n q k d = by_link (Committed r n q (Err k) d) refl d.called.same (λ s upto waits e inside right h. uncommitted_by_any old new r s upto waits committed copies right h n q k d)

  pub given_up_in_any : (n : ℕ) (t : Ts) (v : Verdict) → Does {X = Verdict} old new r (Ok v) (DecideWork n t false (Ok v)) → LinksFit new committed links copies
  given_up_in_any n t v d = by_link (Decided r n t false (Ok v) d) refl d.called.same (λ s upto waits e inside right h. given_up_by_any old new r s upto waits committed copies right h n t v d)

  pub undecided_in_any : (n : ℕ) (t : Ts) (commit : Bool) (k : Refusal) → Does {X = Verdict} old new r (Err k) (DecideWork n t commit (Err k)) → LinksFit new committed links copies
  undecided_in_any n t commit k d = by_link (Decided r n t commit (Err k) d) refl d.called.same (λ s upto waits e inside right h. undecided_by_any old new r s upto waits committed copies right h n t commit k d)

  decided_in_any : (n : ℕ) (t : Ts) (v : Verdict) → Does {X = Verdict} old new r (Ok v) (DecideWork n t true (Ok v)) → (v.commit ≡ true → committed t ≡ true) → LinksFit new committed links copies
  decided_in_any n t v d told = by_link (Decided r n t true (Ok v) d) refl d.called.same (λ s upto waits e inside right h. told_by_any old new r s upto waits committed copies right h n t v told d)

pub decided_by_any : (old new : View) (r s : ℕ) (t : Ts) (v : Verdict) (links : List Link) (copies : Copies) (committed : Ts → Bool) → Does {X = Verdict} old new r (Ok v) (DecideWork s t true (Ok v)) → AllSeenRight new committed → (v.commit ≡ true → committed t ≡ true)
    → LinksFit old committed links copies → LinksFit new committed links copies
decided_by_any old new r s t v links copies committed d seen told fit = decided_in_any old new r links copies committed seen fit s t v d told
