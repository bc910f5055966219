-- Plain repositories that stop and are restarted keep the promises of calls.
use Rattle.log_entries.specs.declared.entry.Entry.TheVariants.{Decided, Finished, Life, One, Prepared, Upgraded}
use Rattle.log_entries.specs.declared.entry.Entry.{Entry}
use Rattle.log_entries.specs.declared.request.Request.{Request}
use Rattle.spec_history.proofs.Growth.{sound-end}
use Rattle.spec_history.specs.History.{Base, is_life, state}
use Rattle.spec_history.specs.Sound.{owes, sound}
use Rattle.law_client_views.proofs.Grown.{none_grew}
use Rattle.law_client_views.proofs.Meeting.{commits}
use Rattle.client_port.specs.Growing.{Called, Grew}
use Rattle.law_client_views.specs.Outages.{next_life, restarted, restarted_with, with_seen}
use Rattle.law_client_views.specs.Plain as plain
use Rattle.client_port.specs.Views.{Calm, Halted, MayCome, Unsettled, View}
use Rattle.client_port.specs.Works.{Answered, CommitWork, DecideWork, Does, IsDown, IsOutage, MayHaveLeft, OutageWith, RefusedMarked, RefusedUnmarked, RequestRefused}
use Rattle.spec_trace.proofs.Exactness.{exact-end}
use Rattle.spec_trace.proofs.Traces.{entries-append}
use Rattle.spec_trace.specs.Exact.{EntryIsExact, exact}
use Rattle.spec_trace.specs.Gaps.{maker}
use Rattle.spec_trace.specs.Trace.{E, Item, entries}
use Rattle.std.proofs.Common.{Bool, List, [], ap, append_assoc, arith, cond, false, inl, refl, subst, sym, true, ℕ, ◌++◌, ◌∷◌, ◌≡◌, ◌≢◌}
use Rattle.std.proofs.lemmas.Bool.Decides.{nat_tests}
use Rattle.std.proofs.lemmas.Bool.{eqb-true}
use Rattle.std.specs.Option.{is_none}
use Rattle.std.specs.Prelude.{Err, None, Option, Result, Some, nat_eq}
use Rattle.thor_value.specs.declared.names.Ts.{Ts}
use Rattle.repo_refusals.specs.declared.refusal.Refusal.TheVariants as refused
use Rattle.repo_refusals.specs.declared.refusal.Refusal.{Refusal}

module _ (b : Base) (T : List Item) where
  pub unmarked : (s : ℕ) (r : Refusal) → IsOutage r → RefusedUnmarked b T s r T Halted
  unmarked s (refused.Reason r) h = absurd h
  unmarked s (refused.Down n) h = (tt, (refl, refl))
  unmarked s (refused.Stopped n) h = (tt, (refl, refl))
  unmarked s (refused.Damaged n k) h = (tt, (refl, refl))
  unmarked s refused.NoMemory h = (tt, (refl, refl))

  pub marked : (s : ℕ) (r : Refusal) → IsOutage r → RefusedMarked b T s r T Halted
  marked s (refused.Reason r) h = absurd h
  marked s (refused.Down n) h = (refl, refl)
  marked s (refused.Stopped n) h = (refl, refl)
  marked s (refused.Damaged n k) h = (refl, refl)
  marked s refused.NoMemory h = (refl, refl)

  pub request : (e : Entry) (s : ℕ) (q : Request) (r : Refusal) → IsOutage r → RequestRefused e b T s q r T Halted
  request e s q (refused.Reason r) h = absurd h
  request e s q (refused.Down n) h = (refl, refl)
  request e s q (refused.Stopped n) h = (refl, tt)
  request e s q (refused.Damaged n k) h = (refl, refl)
  request e s q refused.NoMemory h = (refl, tt)

  pub with_entry : (e : Entry) (valid : Type 0) (r : Refusal) → IsOutage r → OutageWith e valid T r T Halted
  with_entry e valid (refused.Reason r) h = absurd h
  with_entry e valid (refused.Down n) h = (refl, refl)
  with_entry e valid (refused.Stopped n) h = (refl, tt)
  with_entry e valid (refused.Damaged n k) h = (refl, refl)
  with_entry e valid refused.NoMemory h = (refl, tt)

pub deciding : (b : Base) (T : List Item) (s : ℕ) (t : Ts) (k : Bool) (r : Refusal) → IsOutage r → DecideWork s t k (Err r) b T T Halted
deciding b T s t k (refused.Reason r) h = absurd h
deciding b T s t k (refused.Down n) h = (refl, refl)
deciding b T s t k (refused.Stopped n) h = (refl, tt)
deciding b T s t k (refused.Damaged n p) h = (refl, refl)
deciding b T s t k refused.NoMemory h = (refl, tt)

-- what may have been left, by a test of whether the entry is valid
pub left : (e : Entry) (valid : Type 0) (x : Bool) → (x ≡ true → valid) → MayHaveLeft e valid (cond x (MayCome e) Halted)
left e valid true h = (refl, h refl)
left e valid false h = tt

pub accepted : (o : Option Refusal) → is_none o ≡ true → o ≡ None
accepted None e = refl
accepted (Some r) e = cc

-- ---- restarts

module _ (b : Base) (c : ℕ) (T : List Item) where
  nobody : ◌≡◌ {A = Option ℕ} None (Some c) → ⊥
  nobody e = cc

  pub life_alone : (e : Entry) → Grew b c (MayCome e) T Calm (restarted b T)
  life_alone e = record { gap = next_life b T ∷ []; gains = (Calm, refl, tt); ends = refl }

  pub life_behind : (e : Entry) → is_life e ≡ false → Grew b c (MayCome e) T Calm (restarted_with b T e)
  life_behind e plain = by e plain
    where
      behind : (e : Entry) → restarted_with b T e ≡ T ++ (E e ∷ next_life b (T ++ E e ∷ []) ∷ [])
      behind e = append_assoc T (E e ∷ []) (next_life b (T ++ E e ∷ []) ∷ [])

      by : (e : Entry) → is_life e ≡ false → Grew b c (MayCome e) T Calm (restarted_with b T e)
      by (Life n) h = cc
      by (One q) h = record { gap = E (One q) ∷ next_life b (T ++ E (One q) ∷ []) ∷ []; gains = (Halted, inl (refl, refl), (Calm, refl, tt)); ends = behind (One q) }
      by (Prepared q) h = record { gap = E (Prepared q) ∷ next_life b (T ++ E (Prepared q) ∷ []) ∷ []; gains = (Halted, inl (refl, refl), (Calm, refl, tt)); ends = behind (Prepared q) }
      by (Decided t k) h = record { gap = E (Decided t k) ∷ next_life b (T ++ E (Decided t k) ∷ []) ∷ []; gains = (Halted, inl (refl, refl), (Calm, refl, tt)); ends = behind (Decided t k) }
      by (Finished t k) h = record { gap = E (Finished t k) ∷ next_life b (T ++ E (Finished t k) ∷ []) ∷ []; gains = (Halted, inl (refl, refl), (Calm, refl, tt)); ends = behind (Finished t k) }
      by (Upgraded q) h = record { gap = E (Upgraded q) ∷ next_life b (T ++ E (Upgraded q) ∷ []) ∷ []; gains = (Halted, inl (refl, refl), (Calm, refl, tt)); ends = behind (Upgraded q) }

  pub others_life : Grew b c Calm T Calm (restarted b T)
  others_life = record { gap = next_life b T ∷ []; gains = (Calm, (nobody, refl), tt); ends = refl }

  pub others_behind : (e : Entry) → maker b T (E e) ≢ Some c → Grew b c Calm T Calm (restarted_with b T e)
  others_behind e other = record { gap = E e ∷ next_life b (T ++ E e ∷ []) ∷ []; gains = (Calm, (other, refl), (Calm, (nobody, refl), tt)); ends = append_assoc T (E e ∷ []) (next_life b (T ++ E e ∷ []) ∷ []) }

  pub halted_life : Grew b c Halted T Calm (restarted b T)
  halted_life = record { gap = next_life b T ∷ []; gains = (Calm, refl, tt); ends = refl }

  pub halted_behind : (e : Entry) → is_life e ≡ false → maker b T (E e) ≢ Some c → Grew b c Halted T Calm (restarted_with b T e)
  halted_behind (Life n) h other = cc
  halted_behind (One q) h other = record { gap = E (One q) ∷ next_life b (T ++ E (One q) ∷ []) ∷ []; gains = (Halted, (other, refl), (Calm, refl, tt)); ends = append_assoc T (E (One q) ∷ []) (next_life b (T ++ E (One q) ∷ []) ∷ []) }
  halted_behind (Prepared q) h other = record { gap = E (Prepared q) ∷ next_life b (T ++ E (Prepared q) ∷ []) ∷ []; gains = (Halted, (other, refl), (Calm, refl, tt)); ends = append_assoc T (E (Prepared q) ∷ []) (next_life b (T ++ E (Prepared q) ∷ []) ∷ []) }
  halted_behind (Decided t k) h other = record { gap = E (Decided t k) ∷ next_life b (T ++ E (Decided t k) ∷ []) ∷ []; gains = (Halted, (other, refl), (Calm, refl, tt)); ends = append_assoc T (E (Decided t k) ∷ []) (next_life b (T ++ E (Decided t k) ∷ []) ∷ []) }
  halted_behind (Finished t k) h other = record { gap = E (Finished t k) ∷ next_life b (T ++ E (Finished t k) ∷ []) ∷ []; gains = (Halted, (other, refl), (Calm, refl, tt)); ends = append_assoc T (E (Finished t k) ∷ []) (next_life b (T ++ E (Finished t k) ∷ []) ∷ []) }
  halted_behind (Upgraded q) h other = record { gap = E (Upgraded q) ∷ next_life b (T ++ E (Upgraded q) ∷ []) ∷ []; gains = (Halted, (other, refl), (Calm, refl, tt)); ends = append_assoc T (E (Upgraded q) ∷ []) (next_life b (T ++ E (Upgraded q) ∷ []) ∷ []) }

pub owed_life : (b : Base) (T : List Item) → sound b (entries T) → sound b (entries (restarted b T))
owed_life b T sd = subst (sound b) (sym (entries-append T (next_life b T ∷ []))) (sound-end b (entries T) (Life _) sd refl)

pub owed_behind : (b : Base) (T : List Item) (e : Entry) → sound b (entries T) → owes b (state b (entries T)) e → sound b (entries (restarted_with b T e))
owed_behind b T e sd o = owed_life b (T ++ E e ∷ []) (subst (sound b) (sym (entries-append T (E e ∷ []))) (sound-end b (entries T) e sd o))

pub kept_life : (b : Base) (T : List Item) → exact b T → exact b (restarted b T)
kept_life b T k = exact-end b T (next_life b T) k tt

pub kept_behind : (b : Base) (T : List Item) (e : Entry) → exact b T → EntryIsExact b T e → exact b (restarted_with b T e)
kept_behind b T e k o = kept_life b (T ++ E e ∷ []) (exact-end b T (E e) k o)

-- ---- a plain port

module _ (old : View) (r : ℕ) where
  pub down_called : Called old old r (old.seen r) (old.unsettled r)
  down_called = record {
    same = refl;
    reached = none_grew (old.opened.base r) old.opened.client (old.unsettled r) (old.seen r);
    others = λ n other. none_grew (old.opened.base n) old.opened.client (old.unsettled n) (old.seen n);
    alone = λ a. (refl, refl);
    alone_others = λ a n other. (refl, refl);
  }

  module _ (X : Type 0) (result : Result X Refusal) (work : Base → List Item → List Item → Unsettled → Type 0) where
    down_answers : (u : Unsettled) → u ≢ Calm → IsDown r result → Answered r result u (old.seen r) (old.seen r) u (work (old.opened.base r) (old.seen r) (old.seen r) u)
    down_answers Calm other d = absurd (other refl)
    down_answers (MayCome e) other d = (d, refl, refl)
    down_answers Halted other d = (d, refl, refl)

    pub does_down : old.unsettled r ≢ Calm → IsDown r result → Does old old r result work
    does_down other d = record { at = old.seen r; met = old.unsettled r; called = down_called; answer = down_answers (old.unsettled r) other d }

  module _ (after : List Item) (u : Unsettled) where
    abbrev new : View
    new = with_seen old r after u

    here : nat_eq r r ≡ true
    here = grind (arith, nat_tests)

    apart : (n : ℕ) → n ≢ r → nat_eq n r ≡ false
    apart n other = by (nat_eq n r) refl
      where
        by : (t : Bool) → nat_eq n r ≡ t → nat_eq n r ≡ false
        by true e = absurd (other (eqb-true n r e))
        by false e = e

    pub seen_here : new.seen r ≡ after
    seen_here = ap (λ (t : Bool). cond t after (old.seen r)) here

    pub left_here : new.unsettled r ≡ u
    left_here = ap (λ (t : Bool). cond t u (old.unsettled r)) here

    seen_there : (n : ℕ) → n ≢ r → new.seen n ≡ old.seen n
    seen_there n other = ap (λ (t : Bool). cond t after (old.seen n)) (apart n other)

    left_there : (n : ℕ) → n ≢ r → new.unsettled n ≡ old.unsettled n
    left_there n other = ap (λ (t : Bool). cond t u (old.unsettled n)) (apart n other)

    pub called_so : old.unsettled r ≡ Calm → Called old new r (old.seen r) Calm
    called_so calm = record {
      same = refl;
      reached = subst (λ (v : Unsettled). Grew (old.opened.base r) old.opened.client v (old.seen r) Calm (old.seen r)) (sym calm) (none_grew (old.opened.base r) old.opened.client Calm (old.seen r));
      others = λ n other.
          subst (λ (v : Unsettled). Grew (old.opened.base n) old.opened.client (old.unsettled n) (old.seen n) v (new.seen n)) (sym (left_there n other))
          (subst (λ (S : List Item). Grew (old.opened.base n) old.opened.client (old.unsettled n) (old.seen n) (old.unsettled n) S) (sym (seen_there n other)) (none_grew (old.opened.base n) old.opened.client (old.unsettled n) (old.seen n)));
      alone = λ a. (refl, sym calm);
      alone_others = λ a n other. (seen_there n other, left_there n other);
    }

    pub does_so : (X : Type 0) (result : Result X Refusal) (work : Base → List Item → List Item → Unsettled → Type 0) → old.unsettled r ≡ Calm → work (old.opened.base r) (old.seen r) after u → Does old new r result work
    does_so X result work calm done = record {
      at = old.seen r;
      met = Calm;
      called = called_so calm;
      answer = subst (λ (v : Unsettled). work (old.opened.base r) (old.seen r) (new.seen r) v) (sym left_here) (subst (λ (S : List Item). work (old.opened.base r) (old.seen r) S u) (sym seen_here) done);
    }

pub commits_so : (old : View) (r s : ℕ) (q : Request) → old.unsettled r ≡ Calm → q.session ≡ s
    → Does old (with_seen old r (plain.commit_one (old.opened.base r) (old.seen r) s q).1 Calm) r (plain.commit_one (old.opened.base r) (old.seen r) s q).0 (CommitWork s q (plain.commit_one (old.opened.base r) (old.seen r) s q).0)
commits_so old r s q calm own =
    let after = (plain.commit_one (old.opened.base r) (old.seen r) s q).1 in
    let result = (plain.commit_one (old.opened.base r) (old.seen r) s q).0 in
    does_so old r after Calm ℕ result (CommitWork s q result) calm (commits (old.opened.base r) (old.seen r) s q own)
