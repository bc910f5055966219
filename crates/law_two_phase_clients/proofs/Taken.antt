-- A coordinator is made to forget only what each other participant has taken.
use Rattle.client_items.specs.declared.news.News.{News}
use Rattle.client_port.specs.Views.{View}
use Rattle.client_state.specs.Handing.{AbortsNext, ForgetsNext, KeepsDuties, MayTell, PassesOver, TellsNext, TellsOn, TellsRefuser, handed, is_answered, kept_behind}
use Rattle.client_state.specs.Moving.{Aborted, AskedInVain, AskedOwn, CommitRefused, Committed, DecideRefused, Decided, Finished, Forgot, Moves, PrepareRefused, Prepared, ReceiveRefused, ReceiveStopped, Received, ReceivedNone, Transformed, Unsent}
use Rattle.client_state.specs.Participants.{first_in, others_in}
use Rattle.client_state.specs.Pending.{Pending}
use Rattle.client_state.specs.Stepping.{HandsSo, Present, StepsSo}
use Rattle.client_state.specs.declared.duties.Duties.{Duties}
use Rattle.client_state.specs.declared.duties.Duty.TheVariants.{Finish, Forget}
use Rattle.client_state.specs.declared.duties.Duty.{Duty}
use Rattle.client_state.specs.declared.held.Held.{Held}
use Rattle.client_state.specs.declared.link.Link.{Link}
use Rattle.law_two_phase_clients.specs.Forgetting.{AbortsNever, AreTaken, DutiesTold, DutyTold, FinishTold, ForgetsTaken, HasTaken, SentHas, taken_by, taken_where}
use Rattle.repo_refusals.specs.declared.refusal.Refusal.{Refusal}
use Rattle.session_outbox.specs.declared.answers.At.{At}
use Rattle.session_outbox.specs.declared.answers.Verdict.{Verdict}
use Rattle.std.proofs.Common.{Bool, List, [], ap, false, inl, inr, nat_eq, refl, subst, sym, true, ℕ, ◌++◌, ◌≡◌, ◌∙◌, ◌∷◌}
use Rattle.std.proofs.lemmas.Bool.{eqb-true}
use Rattle.std.specs.List.{list_any}
use Rattle.std.specs.Prelude.{Err, Ok, Option, Result, ◌&&◌, ◌||◌, ◌⊎◌}
use Rattle.thor_value.specs.declared.names.Ts.{Ts}

module _ (others : Ts → List ℕ) where
  -- ---- more have taken a verdict

  module _ (taken more : List (Ts × ℕ)) (still : (t : Ts) (r : ℕ) → HasTaken taken t r → HasTaken more t r) where
    finish_still : (t : Ts) (to : List ℕ) (forgets : Bool) → FinishTold others taken t to forgets → FinishTold others more t to forgets
    finish_still t to true h = λ r among left. still t r (h r among left)
    finish_still t to false h = tt

    duty_still : (d : Duty) → DutyTold others taken d → DutyTold others more d
    duty_still (Finish v to forgets) h = finish_still v.tx to forgets h
    duty_still (Forget t) h = λ r among left. still t r (h r among left)

    all_still : (ds : List Duty) → DutiesTold others taken ds → DutiesTold others more ds
    all_still [] h = tt
    all_still (d ∷ ds) h = (duty_still d h.0, all_still ds h.1)

  -- ---- what comes to the duties

  module _ (taken : List (Ts × ℕ)) where
    one_more : (ds : List Duty) (x : Duty) → DutiesTold others taken ds → DutyTold others taken x → DutiesTold others taken (ds ++ x ∷ [])
    one_more [] x all here = (here, tt)
    one_more (y ∷ ds) x all here = (all.0, one_more ds x all.1 here)

    same_all : (ds es : List Duty) → es ≡ ds → DutiesTold others taken ds → DutiesTold others taken es
    same_all ds es e all = subst (DutiesTold others taken) (sym e) all

    -- none of the others has been told where all are to be
    none_told : (t : Ts) (to : List ℕ) (commit : Bool) → ((m : ℕ) → list_any (nat_eq m) (others t) ≡ true → list_any (nat_eq m) to ≡ true) → FinishTold others taken t to commit
    none_told t to true all = λ r among left. absurd (let no : true ≡ false = sym (all r among) ∙ left in cc)
    none_told t to false all = tt

    with_handed : (v : Verdict) (rs : List ℕ) (ds : List Duty) → DutiesTold others taken ds → FinishTold others taken v.tx rs v.commit → DutiesTold others taken (handed v rs ds)
    with_handed v [] ds all h = all
    with_handed v (r ∷ rs) ds all h = one_more ds (Finish v (r ∷ rs) v.commit) all h

    tells_on : (old new : View) (a : Pending) (links : List Link) (ds es : List Duty) → SentHas others a links → TellsOn old new a links ds es → DutiesTold others taken ds → DutiesTold others taken es
    tells_on old new a links ds es has h all = same_all (handed h.v (others_in h.sent.participants (first_in h.sent.participants)) ds) es h.behind
        (with_handed h.v (others_in h.sent.participants (first_in h.sent.participants)) ds all
        (none_told h.v.tx (others_in h.sent.participants (first_in h.sent.participants)) h.v.commit (λ m among. has h.r h.sent h.known m (subst (λ (t : Ts). list_any (nat_eq m) (others t) ≡ true) h.tx among))))

    told_so : (old new : View) (a : Pending) (links : List Link) (ds es : List Duty) → SentHas others a links → MayTell old new a links ds es ⊎ PassesOver ds es → DutiesTold others taken ds → DutiesTold others taken es
    told_so old new a links ds es has (inl (inl e)) all = same_all ds es e all
    told_so old new a links ds es has (inl (inr h)) all = tells_on old new a links ds es has h all
    told_so old new a links ds es has (inr h) all = let there : DutiesTold others taken (Finish h.v [] h.forgets ∷ es) = subst (DutiesTold others taken) h.first all in there.1

    aborts : (at : At) (t : Ts) (v : Verdict) (d e : Duties) → v.commit ≡ false → AbortsNext at t v d e → DutiesTold others taken d.verdicts → DutiesTold others taken e.verdicts
    aborts at t v d e never h all = same_all (handed v h.prepared d.verdicts) e.verdicts h.behind (with_handed v h.prepared d.verdicts all (subst (FinishTold others taken v.tx h.prepared) (sym never) tt))

    forgets_next : (r : ℕ) (t : Ts) (d e : Duties) → ForgetsNext r t d e → DutiesTold others taken d.verdicts → DutiesTold others taken (Forget t ∷ e.verdicts)
    forgets_next r t d e h all = subst (DutiesTold others taken) h.first all

  -- ---- one more is told

  -- one that isn't among those that are left was told before, or is the one that was told now
  told_or_now : (n r : ℕ) (to : List ℕ) → list_any (nat_eq n) to ≡ false → (n ≡ r) ⊎ (list_any (nat_eq n) (r ∷ to) ≡ false)
  told_or_now n r to left = by (nat_eq n r) refl
    where
      by : (k : Bool) → nat_eq n r ≡ k → (n ≡ r) ⊎ ((nat_eq n r || list_any (nat_eq n) to) ≡ false)
      by true is = inl (eqb-true n r is)
      by false is = inr (ap (λ (b : Bool). b || list_any (nat_eq n) to) is ∙ left)

  module _ (taken : List (Ts × ℕ)) (t : Ts) (r : ℕ) where
    now_taken : (to : List ℕ) → AreTaken taken t (others t) (r ∷ to) → AreTaken ((t, r) ∷ taken) t (others t) to
    now_taken to h = λ n among left. by n (told_or_now n r to left) among
      where
        by : (n : ℕ) → (n ≡ r) ⊎ (list_any (nat_eq n) (r ∷ to) ≡ false) → list_any (nat_eq n) (others t) ≡ true → HasTaken ((t, r) ∷ taken) t n
        by n (inl e) among = inl (ap (λ (m : ℕ). (t, m)) (sym e))
        by n (inr left) among = inr (h n among left)

    -- where it has answered
    kept_answered : (v : Verdict) (to : List ℕ) (forgets : Bool) (rest : List Duty) → v.tx ≡ t → FinishTold others taken v.tx (r ∷ to) forgets → DutiesTold others taken rest → DutiesTold others ((t, r) ∷ taken) (kept_behind v to forgets rest)
    kept_answered v [] true rest e h all = ((subst (λ (u : Ts). AreTaken ((t, r) ∷ taken) u (others u) []) (sym e) (now_taken [] (subst (λ (u : Ts). AreTaken taken u (others u) (r ∷ [])) e h))), all_still taken ((t, r) ∷ taken) (λ u n was. inr was) rest all)
    kept_answered v [] false rest e h all = all_still taken ((t, r) ∷ taken) (λ u n was. inr was) rest all
    kept_answered v (n ∷ to) true rest e h all = ((subst (λ (u : Ts). AreTaken ((t, r) ∷ taken) u (others u) (n ∷ to)) (sym e) (now_taken (n ∷ to) (subst (λ (u : Ts). AreTaken taken u (others u) (r ∷ n ∷ to)) e h))), all_still taken ((t, r) ∷ taken) (λ u m was. inr was) rest all)
    kept_answered v (n ∷ to) false rest e h all = (tt, all_still taken ((t, r) ∷ taken) (λ u m was. inr was) rest all)

    -- where it hasn't
    kept_unanswered : (v : Verdict) (to : List ℕ) (rest : List Duty) → DutiesTold others taken rest → DutiesTold others taken (kept_behind v to false rest)
    kept_unanswered v [] rest all = all
    kept_unanswered v (n ∷ to) rest all = (tt, all)

    and_true : (b : Bool) → (b && true) ≡ b
    and_true true = refl
    and_true false = refl

    and_false : (b : Bool) → (b && false) ≡ false
    and_false true = refl
    and_false false = refl

    tells_next : (commit : Bool) (result : Result (Option ℕ) Refusal) (d e : Duties) → TellsNext r t commit (is_answered result) d e → DutiesTold others taken d.verdicts → DutiesTold others (taken_where result t r taken) e.verdicts
    tells_next commit (Ok x) d e h all =
        let there : DutiesTold others taken (Finish h.v (r ∷ h.to) h.forgets ∷ h.rest) = subst (DutiesTold others taken) h.first all in
        subst (DutiesTold others ((t, r) ∷ taken)) (sym (h.behind ∙ ap (λ (b : Bool). kept_behind h.v h.to b h.rest) (and_true h.forgets))) (kept_answered h.v h.to h.forgets h.rest h.tx there.0 there.1)
    tells_next commit (Err k) d e h all =
        let there : DutiesTold others taken (Finish h.v (r ∷ h.to) h.forgets ∷ h.rest) = subst (DutiesTold others taken) h.first all in
        subst (DutiesTold others taken) (sym (h.behind ∙ ap (λ (b : Bool). kept_behind h.v h.to b h.rest) (and_false h.forgets))) (kept_unanswered h.v h.to h.rest there.1)

    tells_refuser : (result : Result (Option ℕ) Refusal) (ds es : List Duty) → es ≡ ds → DutiesTold others taken ds → DutiesTold others (taken_where result t r taken) es
    tells_refuser (Ok x) ds es e all = subst (DutiesTold others ((t, r) ∷ taken)) (sym e) (all_still taken ((t, r) ∷ taken) (λ u n was. inr was) ds all)
    tells_refuser (Err k) ds es e all = subst (DutiesTold others taken) (sym e) all

    finishes : (commit : Bool) (result : Result (Option ℕ) Refusal) (d e : Duties) → TellsNext r t commit (is_answered result) d e ⊎ TellsRefuser r t commit d e → DutiesTold others taken d.verdicts → DutiesTold others (taken_where result t r taken) e.verdicts
    finishes commit result d e (inl h) all = tells_next commit result d e h all
    finishes commit result d e (inr h) all = tells_refuser result d.verdicts e.verdicts h.verdicts all

  -- ---- a step

  module _ (taken : List (Ts × ℕ)) (old new : View) (before after : Held) (a : Pending) (d e : Duties) (has : SentHas others a before.links.items) (all : DutiesTold others taken d.verdicts) where
    keeps : KeepsDuties d e → DutiesTold others taken e.verdicts
    keeps h = same_all taken d.verdicts e.verdicts h.0 all

    by_call : (moves : Moves old new before after) → AbortsNever old new before after moves → HandsSo old new before after moves a d e → DutiesTold others (taken_by old new before after moves taken) e.verdicts
    by_call (Unsent sends) never h = told_so taken old new a before.links.items d.verdicts e.verdicts has h.verdicts all
    by_call (Received at m does there takes same) never h = keeps h
    by_call (ReceivedNone at does there waits same fewer) never h = keeps h
    by_call (ReceiveRefused at k does there loses same) never h = keeps h
    by_call (ReceiveStopped at k does there outage stops same fewer) never h = keeps h
    by_call (Prepared s place does of less) never h = keeps h
    by_call (PrepareRefused s k does of idle learns same) never h = keeps h
    by_call (Committed s place does of session wrote held idle kept) never h = keeps h
    by_call (Transformed s place oref made does of session writes here held idle kept) never h = keeps h
    by_call (CommitRefused s k does of idle learns same) never h = keeps h
    by_call (Decided at t v does idle ends) never h = tells_on taken old new a before.links.items d.verdicts e.verdicts has h.verdicts all
    by_call (Aborted at t v does less) never h = aborts taken at t v d e never h all
    by_call (DecideRefused at t true k does loses same) never h = keeps h
    by_call (DecideRefused at t false k does loses same) never h = same_all taken d.verdicts e.verdicts h.verdicts all
    by_call (Finished r t commit result does less) never h = finishes taken t r commit result d e h all
    by_call (Forgot r t result does less) never h = (forgets_next taken r t d e h all).1
    by_call (AskedOwn r t v does ends) never h = tells_on taken old new a before.links.items d.verdicts e.verdicts has h.verdicts all
    by_call (AskedInVain r t result does leaves same fewer) never h = keeps h

    forgets_by : (moves : Moves old new before after) → HandsSo old new before after moves a d e → ForgetsTaken others taken old new before after moves
    forgets_by (Unsent sends) h = tt
    forgets_by (Received at m does there takes same) h = tt
    forgets_by (ReceivedNone at does there waits same fewer) h = tt
    forgets_by (ReceiveRefused at k does there loses same) h = tt
    forgets_by (ReceiveStopped at k does there outage stops same fewer) h = tt
    forgets_by (Prepared s place does of less) h = tt
    forgets_by (PrepareRefused s k does of idle learns same) h = tt
    forgets_by (Committed s place does of session wrote held idle kept) h = tt
    forgets_by (Transformed s place oref made does of session writes here held idle kept) h = tt
    forgets_by (CommitRefused s k does of idle learns same) h = tt
    forgets_by (Decided at t v does idle ends) h = tt
    forgets_by (Aborted at t v does less) h = tt
    forgets_by (DecideRefused at t commit k does loses same) h = tt
    forgets_by (Finished r t commit result does less) h = tt
    forgets_by (Forgot r t result does less) h = (forgets_next taken r t d e h all).0
    forgets_by (AskedOwn r t v does ends) h = tt
    forgets_by (AskedInVain r t result does leaves same fewer) h = tt

pub comes : (others : Ts → List ℕ) (taken : List (Ts × ℕ)) (item : Present) (old new : View) (before after : Held) (a z : Pending) (d e : Duties) (came : News) (step : StepsSo item old new before after a z d e came) → SentHas others a before.links.items → AbortsNever old new before after step.moves → DutiesTold others taken d.verdicts → DutiesTold others (taken_by old new before after step.moves taken) e.verdicts
comes others taken item old new before after a z d e came step has never all = by_call others taken old new before after a d e has all step.moves never step.hands

pub forgets : (others : Ts → List ℕ) (taken : List (Ts × ℕ)) (item : Present) (old new : View) (before after : Held) (a z : Pending) (d e : Duties) (came : News) (step : StepsSo item old new before after a z d e came) → SentHas others a before.links.items → DutiesTold others taken d.verdicts → ForgetsTaken others taken old new before after step.moves
forgets others taken item old new before after a z d e came step has all = forgets_by others taken old new before after a d e has all step.moves step.hands
