-- What is to be handed on was told, through each step.
use Rattle.client_items.specs.declared.news.News.{News}
use Rattle.client_port.specs.Views.{Calm, Halted, MayCome, Unsettled, View}
use Rattle.client_port.specs.Works.{Answered, DecideWork, Does}
use Rattle.client_state.specs.Handing.{AbortsInVain, AbortsNext, ForgetsNext, HandsTold, HandsVerdict, IsHelpTold, KeepsDuties, MayTell, PassesOver, TellsNext, TellsOn, TellsRefuser, handed, helps_by, is_answered, kept_behind, told_all}
use Rattle.client_state.specs.Moving.{Aborted, AskedInVain, AskedOwn, CommitRefused, Committed, DecideRefused, Decided, Finished, Forgot, Moves, PrepareRefused, Prepared, ReceiveRefused, ReceiveStopped, Received, ReceivedNone, Transformed, Unsent}
use Rattle.client_state.specs.Participants.{first_in, others_in}
use Rattle.client_state.specs.Pending.{Pending}
use Rattle.client_state.specs.Showing.{ToldByDecision}
use Rattle.client_state.specs.Stepping.{HandsSo, Present, StepsSo}
use Rattle.client_state.specs.declared.duties.Duties.{Duties}
use Rattle.client_state.specs.declared.duties.Duty.TheVariants.{Finish, Forget}
use Rattle.client_state.specs.declared.duties.Duty.{Duty}
use Rattle.client_state.specs.declared.duties.Helping.{Helping}
use Rattle.client_state.specs.declared.held.Held.{Held}
use Rattle.client_state.specs.declared.link.Link.{Link}
use Rattle.law_two_phase_clients.specs.Handing.{DutiesStand, DutyStands, HandsOnSo, HasToHandOn, HelpStands, HoldsOfTold, IsAmongDuties, IsHelpOf, OfVerdicts, StoodOrIsTold}
use Rattle.session_outbox.specs.declared.answers.At.{At}
use Rattle.session_outbox.specs.declared.answers.Verdict.{Verdict}
use Rattle.std.proofs.Common.{Bool, List, [], ap, false, inl, inr, refl, subst, sym, true, ℕ, ◌++◌, ◌≡◌, ◌∙◌, ◌∷◌}
use Rattle.std.specs.List.{AllByRecursion}
use Rattle.std.specs.Prelude.{None, Ok, Option, Some, ◌&&◌, ◌⊎◌}
use Rattle.thor_value.specs.declared.names.Ts.{Ts}

-- ---- what was decided

module _ (old new : View) (r s : ℕ) (t : Ts) (v : Verdict) (commit : Bool) where
  by_answer : (d : Does {X = Verdict} old new r (Ok v) (DecideWork s t commit (Ok v))) (u : Unsettled)
      → Answered {X = Verdict} r (Ok v) u d.at (new.seen r) (new.unsettled r) (DecideWork s t commit (Ok v) (old.opened.base r) d.at (new.seen r) (new.unsettled r)) → v.tx ≡ t
  by_answer d Calm h = h.1
  by_answer d (MayCome e) h = absurd h.0
  by_answer d Halted h = absurd h.0

  decided_of : Does {X = Verdict} old new r (Ok v) (DecideWork s t commit (Ok v)) → v.tx ≡ t
  decided_of d = by_answer d d.met d.answer

module _ (P : OfVerdicts) where
  -- ---- lists of duties

  one_more : (ds : List Duty) (x : Duty) → AllByRecursion (DutyStands P) ds → DutyStands P x → AllByRecursion (DutyStands P) (ds ++ x ∷ [])
  one_more [] x all here = (here, tt)
  one_more (y ∷ ds) x all here = (all.0, one_more ds x all.1 here)

  with_handed : (v : Verdict) (rs : List ℕ) (ds : List Duty) → AllByRecursion (DutyStands P) ds → P v.tx v.commit → AllByRecursion (DutyStands P) (handed v rs ds)
  with_handed v [] ds all told = all
  with_handed v (r ∷ rs) ds all told = one_more ds (Finish v (r ∷ rs) v.commit) all told

  with_forget : (v : Verdict) (forgets : Bool) (ds : List Duty) → AllByRecursion (DutyStands P) ds → AllByRecursion (DutyStands P) (told_all v forgets ds)
  with_forget v true ds all = (tt, all)
  with_forget v false ds all = all

  with_kept : (v : Verdict) (to : List ℕ) (forgets : Bool) (ds : List Duty) → AllByRecursion (DutyStands P) ds → P v.tx v.commit → AllByRecursion (DutyStands P) (kept_behind v to forgets ds)
  with_kept v [] forgets ds all told = with_forget v forgets ds all
  with_kept v (r ∷ to) forgets ds all told = (told, all)

  same_all : (ds es : List Duty) → es ≡ ds → AllByRecursion (DutyStands P) ds → AllByRecursion (DutyStands P) es
  same_all ds es e all = subst (AllByRecursion (DutyStands P)) (sym e) all

  same_help : (x y : Option Helping) → y ≡ x → HelpStands P (helps_by x) → HelpStands P (helps_by y)
  same_help x y e h = subst (λ (o : Option Helping). HelpStands P (helps_by o)) (sym e) h

  no_help : (y : Option Helping) → helps_by y ≡ None → HelpStands P (helps_by y)
  no_help y e = subst (HelpStands P) (sym e) tt

  module _ (old new : View) (holds : HoldsOfTold P old new) where
    -- ---- what comes to them

    tells_on : (a : Pending) (links : List Link) (ds es : List Duty) → TellsOn old new a links ds es → AllByRecursion (DutyStands P) ds → AllByRecursion (DutyStands P) es
    tells_on a links ds es h all = same_all (handed h.v (others_in h.sent.participants (first_in h.sent.participants)) ds) es h.behind (with_handed h.v (others_in h.sent.participants (first_in h.sent.participants)) ds all
        (subst (λ (t : Ts). P t h.v.commit) (sym h.tx) (holds h.r h.sent.ts h.v.commit h.told)))

    may_tell : (a : Pending) (links : List Link) (ds es : List Duty) → MayTell old new a links ds es → AllByRecursion (DutyStands P) ds → AllByRecursion (DutyStands P) es
    may_tell a links ds es (inl e) all = same_all ds es e all
    may_tell a links ds es (inr h) all = tells_on a links ds es h all

    passes : (ds es : List Duty) → PassesOver ds es → AllByRecursion (DutyStands P) ds → AllByRecursion (DutyStands P) es
    passes ds es h all = let there : AllByRecursion (DutyStands P) (Finish h.v [] h.forgets ∷ es) = subst (AllByRecursion (DutyStands P)) h.first all in there.1

    told_verdicts : (a : Pending) (links : List Link) (ds es : List Duty) → MayTell old new a links ds es ⊎ PassesOver ds es → AllByRecursion (DutyStands P) ds → AllByRecursion (DutyStands P) es
    told_verdicts a links ds es (inl h) all = may_tell a links ds es h all
    told_verdicts a links ds es (inr h) all = passes ds es h all

    help_by : (o : Option Verdict) → IsHelpTold old new o → HelpStands P o
    help_by None h = tt
    help_by (Some v) h = holds v.tx.repo v.tx v.commit h

    told_help : (x y : Option Helping) → (y ≡ x) ⊎ IsHelpTold old new (helps_by y) → HelpStands P (helps_by x) → HelpStands P (helps_by y)
    told_help x y (inl e) h = same_help x y e h
    told_help x y (inr told) h = help_by (helps_by y) told

    hands_told : (a : Pending) (links : List Link) (d e : Duties) → HandsTold old new a links d e → DutiesStand P d → DutiesStand P e
    hands_told a links d e h all = record { verdicts = told_verdicts a links d.verdicts e.verdicts h.verdicts all.verdicts; helping = told_help d.helping e.helping h.helping all.helping }

    hands_verdict : (a : Pending) (links : List Link) (d e : Duties) → HandsVerdict old new a links d e → DutiesStand P d → DutiesStand P e
    hands_verdict a links d e h all = record { verdicts = tells_on a links d.verdicts e.verdicts h.verdicts all.verdicts; helping = same_help d.helping e.helping h.helping all.helping }

    kept_help : (x y : Option Helping) → (y ≡ x) ⊎ (helps_by y ≡ None) → HelpStands P (helps_by x) → HelpStands P (helps_by y)
    kept_help x y (inl e) h = same_help x y e h
    kept_help x y (inr none) h = no_help y none

    keeps : (d e : Duties) → KeepsDuties d e → DutiesStand P d → DutiesStand P e
    keeps d e h all = record { verdicts = same_all d.verdicts e.verdicts h.0 all.verdicts; helping = kept_help d.helping e.helping h.1 all.helping }

    -- ---- what is done of them

    aborts : (at : At) (t : Ts) (v : Verdict) (d e : Duties) → Does {X = Verdict} old new at.repo (Ok v) (DecideWork at.session t false (Ok v)) → AbortsNext at t v d e → DutiesStand P d → DutiesStand P e
    aborts at t v d e does h all = record {
      verdicts = same_all (handed v h.prepared d.verdicts) e.verdicts h.behind (with_handed v h.prepared d.verdicts all.verdicts
          (subst (λ (u : Ts). P u v.commit) (sym (decided_of old new at.repo at.session t v false does)) (holds at.repo t v.commit (ToldByDecision at.session false v refl does))));
      helping = same_help d.helping e.helping h.helping all.helping;
    }

    tells_next : (r : ℕ) (t : Ts) (commit answered : Bool) (d e : Duties) → TellsNext r t commit answered d e → DutiesStand P d → DutiesStand P e
    tells_next r t commit answered d e h all =
        let there : AllByRecursion (DutyStands P) (Finish h.v (r ∷ h.to) h.forgets ∷ h.rest) = subst (AllByRecursion (DutyStands P)) h.first all.verdicts in
        record {
          verdicts = same_all (kept_behind h.v h.to (h.forgets && answered) h.rest) e.verdicts h.behind (with_kept h.v h.to (h.forgets && answered) h.rest there.1 there.0);
          helping = same_help d.helping e.helping h.helping all.helping;
        }

    finishes : (r : ℕ) (t : Ts) (commit answered : Bool) (d e : Duties) → TellsNext r t commit answered d e ⊎ TellsRefuser r t commit d e → DutiesStand P d → DutiesStand P e
    finishes r t commit answered d e (inl h) all = tells_next r t commit answered d e h all
    finishes r t commit answered d e (inr h) all = record { verdicts = same_all d.verdicts e.verdicts h.verdicts all.verdicts; helping = no_help e.helping (ap helps_by h.helping) }

    forgets : (r : ℕ) (t : Ts) (d e : Duties) → ForgetsNext r t d e → DutiesStand P d → DutiesStand P e
    forgets r t d e h all =
        let there : AllByRecursion (DutyStands P) (Forget t ∷ e.verdicts) = subst (AllByRecursion (DutyStands P)) h.first all.verdicts in
        record { verdicts = there.1; helping = same_help d.helping e.helping h.helping all.helping }

    vain : (at : At) (t : Ts) (d e : Duties) → AbortsInVain at t d e → DutiesStand P d → DutiesStand P e
    vain at t d e h all = record { verdicts = same_all d.verdicts e.verdicts h.verdicts all.verdicts; helping = same_help d.helping e.helping h.helping all.helping }

    by_call : (before after : Held) (moves : Moves old new before after) (a : Pending) (d e : Duties) → HandsSo old new before after moves a d e → DutiesStand P d → DutiesStand P e
    by_call before after (Unsent sends) a d e h all = hands_told a before.links.items d e h all
    by_call before after (Received at m does there takes same) a d e h all = keeps d e h all
    by_call before after (ReceivedNone at does there waits same fewer) a d e h all = keeps d e h all
    by_call before after (ReceiveRefused at k does there loses same) a d e h all = keeps d e h all
    by_call before after (ReceiveStopped at k does there outage stops same fewer) a d e h all = keeps d e h all
    by_call before after (Prepared s place does of less) a d e h all = keeps d e h all
    by_call before after (PrepareRefused s k does of idle learns same) a d e h all = keeps d e h all
    by_call before after (Committed s place does of session wrote held idle kept) a d e h all = keeps d e h all
    by_call before after (Transformed s place oref made does of session writes here held idle kept) a d e h all = keeps d e h all
    by_call before after (CommitRefused s k does of idle learns same) a d e h all = keeps d e h all
    by_call before after (Decided at t v does idle ends) a d e h all = hands_verdict a before.links.items d e h all
    by_call before after (Aborted at t v does less) a d e h all = aborts at t v d e does h all
    by_call before after (DecideRefused at t true k does loses same) a d e h all = keeps d e h all
    by_call before after (DecideRefused at t false k does loses same) a d e h all = vain at t d e h all
    by_call before after (Finished r t commit result does less) a d e h all = finishes r t commit (is_answered result) d e h all
    by_call before after (Forgot r t result does less) a d e h all = forgets r t d e h all
    by_call before after (AskedOwn r t v does ends) a d e h all = hands_verdict a before.links.items d e h all
    by_call before after (AskedInVain r t result does leaves same fewer) a d e h all = keeps d e h all

  -- ---- what is handed on

  of_verdict : (v : Verdict) (t : Ts) (commit : Bool) → v.tx ≡ t → v.commit ≡ commit → P v.tx v.commit → P t commit
  of_verdict v t commit e f told = subst (λ (b : Bool). P t b) f (subst (λ (u : Ts). P u v.commit) e told)

  told_next : (r : ℕ) (t : Ts) (commit answered : Bool) (d e : Duties) → TellsNext r t commit answered d e ⊎ TellsRefuser r t commit d e → DutiesStand P d → P t commit
  told_next r t commit answered d e (inl h) all =
      let there : AllByRecursion (DutyStands P) (Finish h.v (r ∷ h.to) h.forgets ∷ h.rest) = subst (AllByRecursion (DutyStands P)) h.first all.verdicts in
      of_verdict h.v t commit h.tx h.commits there.0
  told_next r t commit answered d e (inr h) all = of_verdict h.v t commit h.tx h.commits (subst (λ (o : Option Helping). HelpStands P (helps_by o)) h.was all.helping)

  on_call : (old new : View) (before after : Held) (moves : Moves old new before after) (a : Pending) (d e : Duties) → HandsSo old new before after moves a d e → DutiesStand P d → HandsOnSo P old new before after moves
  on_call old new before after (Unsent sends) a d e h all = tt
  on_call old new before after (Received at m does there takes same) a d e h all = tt
  on_call old new before after (ReceivedNone at does there waits same fewer) a d e h all = tt
  on_call old new before after (ReceiveRefused at k does there loses same) a d e h all = tt
  on_call old new before after (ReceiveStopped at k does there outage stops same fewer) a d e h all = tt
  on_call old new before after (Prepared s place does of less) a d e h all = tt
  on_call old new before after (PrepareRefused s k does of idle learns same) a d e h all = tt
  on_call old new before after (Committed s place does of session wrote held idle kept) a d e h all = tt
  on_call old new before after (Transformed s place oref made does of session writes here held idle kept) a d e h all = tt
  on_call old new before after (CommitRefused s k does of idle learns same) a d e h all = tt
  on_call old new before after (Decided at t v does idle ends) a d e h all = tt
  on_call old new before after (Aborted at t v does less) a d e h all = tt
  on_call old new before after (DecideRefused at t commit k does loses same) a d e h all = tt
  on_call old new before after (Finished r t commit result does less) a d e h all = told_next r t commit (is_answered result) d e h all
  on_call old new before after (Forgot r t result does less) a d e h all = tt
  on_call old new before after (AskedOwn r t v does ends) a d e h all = tt
  on_call old new before after (AskedInVain r t result does leaves same fewer) a d e h all = tt

-- ---- what there was

-- each duty is one of them
each_among : (P : OfVerdicts) (ds : List Duty) → ((t : Ts) (commit : Bool) → IsAmongDuties ds t commit → P t commit) → AllByRecursion (DutyStands P) ds
each_among P [] f = tt
each_among P (Finish v to forgets ∷ ds) f = (f v.tx v.commit (inl (refl, refl)), each_among P ds (λ t commit among. f t commit (inr among)))
each_among P (Forget u ∷ ds) f = (tt, each_among P ds (λ t commit among. f t commit (inr among)))

help_of : (P : OfVerdicts) (o : Option Verdict) → ((t : Ts) (commit : Bool) → IsHelpOf o t commit → P t commit) → HelpStands P o
help_of P None f = tt
help_of P (Some v) f = f v.tx v.commit (refl, refl)

all_stand : (P : OfVerdicts) (d : Duties) → ((t : Ts) (commit : Bool) → HasToHandOn d t commit → P t commit) → DutiesStand P d
all_stand P d f = record { verdicts = each_among P d.verdicts (λ t commit among. f t commit (inl among)); helping = help_of P (helps_by d.helping) (λ t commit help. f t commit (inr help)) }

pub comes : (item : Present) (old new : View) (before after : Held) (a z : Pending) (d e : Duties) (came : News) (step : StepsSo item old new before after a z d e came) → DutiesStand (StoodOrIsTold d old new) e
comes item old new before after a z d e came step = by_call (StoodOrIsTold d old new) old new (λ r t commit told. inr (r, told)) before after step.moves a d e step.hands (all_stand (StoodOrIsTold d old new) d (λ t commit stands. inl stands))

pub hands : (item : Present) (old new : View) (before after : Held) (a z : Pending) (d e : Duties) (came : News) (step : StepsSo item old new before after a z d e came) → HandsOnSo (HasToHandOn d) old new before after step.moves
hands item old new before after a z d e came step = on_call (HasToHandOn d) old new before after step.moves a d e step.hands (all_stand (HasToHandOn d) d (λ t commit stands. stands))
