-- That what a client's items come to is shown.
use Rattle.client_cache.specs.Copies.{Contents, kept}
use Rattle.client_cache.specs.Pages.{on, same_page}
use Rattle.client_state.specs.Showing.{IsLearnt, IsToldBy, ToldByAnswer, ToldByDecision}
use Rattle.client_state.specs.Taking.{BringsPage}
use Rattle.front_end.specs.Moving.{course_of}
use Rattle.front_end.specs.Showing.{ByAbort, ByPage, CauseShown, EndsSo, GoesShown, ItemsShown, LacksSlot, NewsShown, OutcomeShown, RefusedSo, SettlesSo, Stays, UsedUp}
use Rattle.front_end.specs.declared.front_end.FrontEnd.{FrontEnd}
use Rattle.client_items.specs.Courses.{Course, IsDownAt, IsLateOutcome, is_committed}
use Rattle.client_items.specs.Ending.{GoesBy}
use Rattle.client_items.specs.Falling.{most_calls}
use Rattle.client_items.specs.declared.news.News.TheVariants as news
use Rattle.client_items.specs.declared.news.News.{News}
use Rattle.client_items.specs.declared.news.Settled.{Settled}
use Rattle.session_outbox.specs.declared.answers.Asked as answer
use Rattle.session_outbox.specs.declared.answers.Asked.TheVariants as answers
use Rattle.session_outbox.specs.declared.answers.Verdict.{Verdict}
use Rattle.session_outbox.specs.declared.message.Message.TheVariants.{Page}
use Rattle.session_outbox.specs.declared.message.Message.{Message}
use Rattle.client_port.specs.Acting.{ByAnswer, ByDecision, IsDecided, IsTaken, Takes}
use Rattle.client_port.specs.Views.{Calm, Halted, MayCome, Unsettled, View}
use Rattle.client_port.specs.Works.{Answered, AskWork, Does, ReceiveWork}
use Rattle.serial_model.specs.declared.outcomes.Cause.TheVariants as cause
use Rattle.serial_model.specs.declared.outcomes.Cause.{Cause}
use Rattle.serial_model.specs.declared.outcomes.ItemOutcome.TheVariants.{Done, Faulted, Refused, Unknown, Upgraded}
use Rattle.serial_model.specs.declared.outcomes.ItemOutcome.{ItemOutcome}
use Rattle.std.proofs.Common.{Bool, List, ap, arith, cond, false, inl, inr, refl, subst, sym, true, ◌∙◌, ◌≡◌, ◌≤◌, ℕ}
use Rattle.std.proofs.lemmas.Bool.Decides.{nat_tests}
use Rattle.std.proofs.lemmas.Option.{same_Some}
use Rattle.std.specs.Prelude.{None, Ok, Option, Some, nat_eq, ◌&&◌}
use Rattle.thor_value.specs.declared.names.Oref.{Oref}
use Rattle.thor_value.specs.declared.names.Ts.{Ts}

module _ (old new : View) where
  pub decided_so : (t u : Ts) (c d : Bool) → u ≡ t → d ≡ c → IsDecided old new t c → IsDecided old new u d
  decided_so t u c d e f h = subst (λ (x : Ts). IsDecided old new x d) (sym e) (subst (λ (x : Bool). IsDecided old new t x) (sym f) h)

  -- a transaction that has committed lets its item end so
  pub outcome_shown : (t : Ts) (o : ItemOutcome) → IsLateOutcome t o → is_committed o ≡ true → IsDecided old new t true → OutcomeShown old new o
  outcome_shown t (Done ts values) late is h = decided_so t ts true true (same_Some ts t late) refl h
  outcome_shown t (Upgraded ts number) late is h = decided_so t ts true true (same_Some ts t late) refl h
  outcome_shown t (Faulted ts fault) late is h = decided_so t ts true true (same_Some ts t late) refl h
  outcome_shown t (Refused c) late is h = cc
  outcome_shown t (Unknown tx) late is h = tt

  told_as : (r : ℕ) (t u : Ts) (c d : Bool) → u ≡ t → d ≡ c → IsToldBy old new r t c → IsToldBy old new r u d
  told_as r t u c d e f h = subst (λ (x : Ts). IsToldBy old new r x d) (sym e) (subst (λ (x : Bool). IsToldBy old new r t x) (sym f) h)

  -- what a repository has told is decided
  pub told_decided : (r : ℕ) (t : Ts) (c : Bool) → IsToldBy old new r t c → IsDecided old new t c
  told_decided r t c (ToldByDecision s asked v is d) = ByDecision r s asked v is d
  told_decided r t c (ToldByAnswer v is d) = ByAnswer r v is d

  -- a try whose transaction was aborted ends so
  pub abort_shown : (repos : ℕ) (t : Ts) (commit : Bool) (r : ℕ) → commit ≡ false → IsToldBy old new r t commit → CauseShown old new repos (cause.Down r)
  abort_shown repos t commit r is h = ByAbort t r (subst (IsToldBy old new r t) is h) refl

  -- what is answered of a transaction is of that one
  module _ (r : ℕ) (t : Ts) (v : Verdict) (d : Does {X = answer.Asked} old new r (Ok (answers.Settled v)) (AskWork t (Ok (answers.Settled v)))) where
    told_by : (m : Unsettled) → Answered {X = answer.Asked} r (Ok (answers.Settled v)) m d.at (new.seen r) (new.unsettled r) (AskWork t (Ok (answers.Settled v)) (old.opened.base r) d.at (new.seen r) (new.unsettled r)) → v.tx ≡ t
    told_by Calm h = h.0.0
    told_by (MayCome e) h = absurd h.0
    told_by Halted h = absurd h.0

    pub told_tx : v.tx ≡ t
    told_tx = told_by d.met d.answer

-- ---- calls that were answered, on a port that may show nothing

module _ (shows : Bool) (old new : View) (r : ℕ) where
  -- a message was taken
  pub taken_so : (s : ℕ) (o : Option Message) (m : Message) → o ≡ Some m → (shows ≡ true → Does {X = Option Message} old new r (Ok o) (ReceiveWork s (Ok o))) → shows ≡ true → IsTaken old new r m
  taken_so s o m is call w = Takes s (subst (λ (x : Option Message). Does {X = Option Message} old new r (Ok x) (ReceiveWork s (Ok x))) is (call w))

  module _ (t : Ts) (a : answer.Asked) (v : Verdict) (is : a ≡ answers.Settled v) (call : shows ≡ true → Does {X = answer.Asked} old new r (Ok a) (AskWork t (Ok a))) where
    settled_so : shows ≡ true → Does {X = answer.Asked} old new r (Ok (answers.Settled v)) (AskWork t (Ok (answers.Settled v)))
    settled_so w = subst (λ (x : answer.Asked). Does {X = answer.Asked} old new r (Ok x) (AskWork t (Ok x))) is (call w)

    -- the repository has told it
    pub asked_of : shows ≡ true → IsToldBy old new r t v.commit
    asked_of w = ToldByAnswer v refl (settled_so w)

    -- an item that was Unknown has ended by the transaction that was asked for
    pub settled_of : (s : Settled) → s.ts ≡ t → is_committed s.outcome ≡ v.commit → IsDownAt r s.outcome → shows ≡ true → IsLearnt old new s
    settled_of s e f down w = record { repo = r; told = told_as old new r t s.ts v.commit (is_committed s.outcome) e f (asked_of w); down = down }

    -- the verdict that was told is of the transaction that was asked for
    pub learnt_of : (s : Settled) → s.ts ≡ v.tx → is_committed s.outcome ≡ v.commit → IsDownAt r s.outcome → shows ≡ true → IsLearnt old new s
    learnt_of s e f down w = settled_of s (e ∙ told_tx old new r t v (settled_so w)) f down w

-- a try has ended
pub try_shown : (old new : View) (repos : ℕ) (n : News) (c : Cause) → n ≡ news.TryEnded c → CauseShown old new repos c → NewsShown old new repos n
try_shown old new repos n c is h = subst (λ (m : News). NewsShown old new repos m) (sym is) h

-- nothing is shown
pub nothing_shown : (old new : View) (repos : ℕ) (n : News) → n ≡ news.Nothing → NewsShown old new repos n
nothing_shown old new repos n is = subst (λ (m : News). NewsShown old new repos m) (sym is) tt

-- ---- a page that came lacks an object

same_number : (n : ℕ) → nat_eq n n ≡ true
same_number n = grind (arith, nat_tests)

same_place : (r p : ℕ) → same_page (on r p) (on r p) ≡ true
same_place r p = ap (λ (t : Bool). t && nat_eq p p) (same_number r) ∙ same_number p

pub page_lacks : (bytes : List ℕ) (x : Oref) (before after : Contents) → BringsPage x.repo x.page bytes before after → kept after x ≡ None → LacksSlot bytes x
page_lacks bytes x before after brings none objects is =
    ap (λ (t : Bool). cond t (objects x.slot) (kept before x)) (sym (same_place x.repo x.page)) ∙ (sym (brings objects is x) ∙ none)

pub page_shown : (old new : View) (repos repo page place : ℕ) (bytes : List ℕ) (x : Oref) (before after : Contents) → x.repo ≡ repo → x.page ≡ page → BringsPage repo page bytes before after → kept after x ≡ None
    → IsTaken old new repo (Page page bytes place) → CauseShown old new repos (cause.Missing x)
page_shown old new repos repo page place bytes x before after here there brings none taken =
    let b : BringsPage x.repo x.page bytes before after = subst (λ (r : ℕ). BringsPage r x.page bytes before after) (sym here) (subst (λ (p : ℕ). BringsPage repo p bytes before after) (sym there) brings) in
    let t : IsTaken old new x.repo (Page x.page bytes place) = subst (λ (r : ℕ). IsTaken old new r (Page x.page bytes place)) (sym here) (subst (λ (p : ℕ). IsTaken old new repo (Page p bytes place)) (sym there) taken) in
    ByPage x place bytes t (page_lacks bytes x before after b none) refl

-- ---- items

module _ (shows : Bool) (old new : View) (repos each calls : ℕ) where
  -- what a step has come to is taken down
  pub goes_shown : (n : News) (before after : Course) → (shows ≡ true → NewsShown old new repos n) → GoesBy each n before after → GoesShown shows old new repos each calls before after
  goes_shown news.Nothing before after h g = Stays g
  goes_shown (news.TryEnded c) before after h (inl same) = Stays same
  goes_shown (news.TryEnded c) before after h (inr g) = RefusedSo c g h
  goes_shown (news.Ended outcome) before after h (inl same) = Stays same
  goes_shown (news.Ended outcome) before after h (inr g) = EndsSo outcome g h
  goes_shown (news.Settled settled) before after h (inl same) = Stays same
  goes_shown (news.Settled settled) before after h (inr g) = SettlesSo settled g h

  -- the calls of the try were used up
  pub used_up : (n : News) (before after : Course) → n ≡ news.TryEnded cause.Calls → most_calls ≤ calls → GoesBy each n before after → GoesShown shows old new repos each calls before after
  used_up n before after is most g = ended (subst (λ (m : News). GoesBy each m before after) is g)
    where
      ended : GoesBy each (news.TryEnded cause.Calls) before after → GoesShown shows old new repos each calls before after
      ended (inl same) = Stays same
      ended (inr r) = UsedUp r most

-- a call was counted before
pub shown_counted : (shows : Bool) (old new : View) (repos : ℕ) (f m g : FrontEnd) → m.attempts.each ≡ f.attempts.each → course_of m ≡ course_of f
    → ((calls : ℕ) → GoesShown shows old new repos m.attempts.each calls (course_of m) (course_of g)) → ItemsShown shows old new repos f g
shown_counted shows old new repos f m g each course h = subst (λ (n : ℕ). GoesShown shows old new repos n f.attempts.calls (course_of f) (course_of g)) each (subst (λ (c : Course). GoesShown shows old new repos m.attempts.each f.attempts.calls c (course_of g)) course (h f.attempts.calls))

-- no call was left
pub shown_used : (shows : Bool) (old new : View) (repos : ℕ) (f m g : FrontEnd) → m ≡ f → most_calls ≤ f.attempts.calls → ((r : ℕ) → most_calls ≤ m.attempts.calls → ItemsShown shows old new r m g) → ItemsShown shows old new repos f g
shown_used shows old new repos f m g is most h = subst (λ (x : FrontEnd). ItemsShown shows old new repos x g) is (h repos (subst (λ (x : FrontEnd). most_calls ≤ x.attempts.calls) (sym is) most))
