-- The window of a sound history covers it.
use Rattle.log_entries.specs.declared.entry.Entry.TheVariants.{Decided, Finished, Life, One, Prepared, Upgraded}
use Rattle.log_entries.specs.declared.entry.Entry.{Entry}
use Rattle.log_entries.specs.declared.request.Request.{Request}
use Rattle.spec_history.proofs.Decided.{shifted}
use Rattle.spec_history.proofs.Growth.{by_growth, state-end}
use Rattle.spec_history.proofs.LastWrite.{no_commit}
use Rattle.spec_history.proofs.Meeting.{bars-upgrade, in_order}
use Rattle.spec_history.proofs.Places.{Placed, came, placed}
use Rattle.spec_history.proofs.Serial.{upgrades_fence}
use Rattle.spec_history.proofs.Stamps.{at_most_itself, at_most_then, before_at_most, first_at_most, later_at_most, second_at_most}
use Rattle.spec_history.proofs.Steps.{FateMoves, Kept, LifeBegan, not_lost}
use Rattle.repo_refusals.specs.Covers.{MemberFits, Covers}
use Rattle.spec_history.specs.History.{Aborted, Base, Committed, CommittedBelow, Fate, IsCommitted, Lives, Open, Known, State, commit, is_open, is_undecided, lapse, or_lost, put, settle, settle_by, known_in, start, state}
use Rattle.spec_history.specs.Laws.{BesideUpgrade}
use Rattle.spec_history.specs.Requests.{is_upgrade}
use Rattle.spec_history.specs.Sound.{Accepts, Admits, owes, sound}
use Rattle.repo_refusals.specs.Window.{Member, Window, cleared, close, close_by, enter, first_decided, slide, window, window_from, with_room, without}
use Rattle.std.proofs.Common.{rules, List, [], ap, arith, cond, inl, inr, refl, subst, sym, ℕ, ◌++◌, ◌≡◌, ◌≢◌, ◌∙◌, ◌∷◌}
use Rattle.std.proofs.lemmas.Cmp.{eq_by_cmp_equiv, tied_itself}
use Rattle.std.proofs.lemmas.Map.Keys.{IsDistinct-from_sorted}
use Rattle.std.proofs.lemmas.Map.Views.{lookup-from_Contains, tells_apart}
use Rattle.std.proofs.lemmas.Option.{MatchOption-at_some, same_Some}
use Rattle.std.specs.Bool.{⊤}
use Rattle.std.specs.List.Sorted.{IsStrictlySortedBy}
use Rattle.std.specs.List.{Contains, fold}
use Rattle.std.specs.Option.{IsSome, IsSomeAnd, option_map}
use Rattle.std.specs.Ordering.{eq_by_cmp, is_eq}
use Rattle.std.specs.Prelude.{Bool, IsTrue, None, Option, Some, false, nat_le, true, ◌⊎◌}
use Rattle.thor_value.proofs.FiniteMap.{IsSorted-insert, IsSorted-keep, IsSorted-remove, get-insert, get-keep, get-remove}
use Rattle.thor_value.proofs.NameOrders.{ts_exact, ts_total}
use Rattle.thor_value.specs.FiniteMap.{IsSorted, Map, empty, get, insert, len, remove}
use Rattle.thor_value.specs.Names.{AtMost, Before, later_of, ts_cmp}
use Rattle.thor_value.specs.declared.names.Ts.{Ts}
use Rattle.validation_queue.specs.Contents.{room_for}

-- ---- keys

key_true : (t u : Ts) → t ≡ u → eq_by_cmp ts_cmp t u ≡ true
key_true t u e = subst (λ v. eq_by_cmp ts_cmp t v ≡ true) e (ap is_eq (tied_itself ts_total t))

key_cases : (t u : Ts) → ((t ≡ u) × (eq_by_cmp ts_cmp t u ≡ true)) ⊎ ((t ≢ u) × (eq_by_cmp ts_cmp t u ≡ false))
key_cases t u = by_key (eq_by_cmp ts_cmp t u) refl
  where
    by_key : (x : Bool) → eq_by_cmp ts_cmp t u ≡ x → ((t ≡ u) × (eq_by_cmp ts_cmp t u ≡ true)) ⊎ ((t ≢ u) × (eq_by_cmp ts_cmp t u ≡ false))
    by_key true e = inl (tells_apart ts_exact t u e, e)
    by_key false e = inr ((λ s. let k = key_true t u s in cc), e)

module _ {X : Type 0} where
  inserted_cases : (m : Map ts_cmp X) (u : Ts) (v : X) (t : Ts) → ((t ≡ u) × (get (insert m u v) t ≡ Some v)) ⊎ ((t ≢ u) × (get (insert m u v) t ≡ get m t))
  inserted_cases m u v t = elim (key_cases t u) [
    | inl k ↦ inl (k.0, get-insert ts_total m u v t ∙ ap (λ x. cond x (Some v) (get m t)) k.1)
    | inr k ↦ inr (k.0, get-insert ts_total m u v t ∙ ap (λ x. cond x (Some v) (get m t)) k.1)
  ]

  removed_cases : (m : Map ts_cmp X) (u : Ts) (t : Ts) → IsSorted m → ((t ≡ u) × (get (remove m u) t ≡ None)) ⊎ ((t ≢ u) × (get (remove m u) t ≡ get m t))
  removed_cases m u t h = elim (key_cases u t) [
    | inl k ↦ inl (sym k.0, get-remove ts_total m u t h ∙ ap (λ x. cond x None (get m t)) k.1)
    | inr k ↦ inr ((λ e. k.0 (sym e)), get-remove ts_total m u t h ∙ ap (λ x. cond x None (get m t)) k.1)
  ]

-- ---- room for one more

abbrev pub Found : List (Ts × Member) → Ts → Type 0
Found es t = (m : Member) × Contains es (t, m) × (m.decided ≡ true)

pub found_first : (es : List (Ts × Member)) (t : Ts) → first_decided es ≡ Some t → Found es t
found_first [] t e = cc
found_first (e ∷ es) t h = by_test e.1.decided refl h (λ k. let x = found_first es t k in (x.0, shifted es e (t, x.0) x.1, x.2))
  where
    by_test : (d : Bool) → e.1.decided ≡ d → cond d (Some e.0) (first_decided es) ≡ Some t → (first_decided es ≡ Some t → Found (e ∷ es) t) → Found (e ∷ es) t
    by_test true d k rest = let p : e.0 ≡ t = same_Some e.0 t k in (e.1, (0, omega arith, ap (λ (u : Ts). (u, e.1)) p), d)
    by_test false d k rest = rest k

-- how W with room for one more is W
record Roomy (W V : Window) : Type 0 where
  sorted : IsSorted V.members
  was : (t : Ts) (m : Member) → get V.members t ≡ Some m → get W.members t ≡ Some m
  still : (t : Ts) (m : Member) → get W.members t ≡ Some m → (get V.members t ≡ Some m) ⊎ ((m.decided ≡ true) × AtMost t V.threshold)
  higher : AtMost W.threshold V.threshold
  bounded : (v : Ts) → AtMost W.threshold v → ((t : Ts) (m : Member) → get W.members t ≡ Some m → m.decided ≡ true → AtMost t v) → AtMost V.threshold v

roomy_same : (W : Window) → IsSorted W.members → Roomy W W
roomy_same W h = record {
  sorted = h;
  was = λ t m is. is;
  still = λ t m is. inl is;
  higher = at_most_itself W.threshold;
  bounded = λ v low members. low;
}

roomy_without : (W : Window) (u : Ts) (n : Member) → IsSorted W.members → get W.members u ≡ Some n → n.decided ≡ true → Roomy W (without W (Some u))
roomy_without W u n h here decided = record {
  sorted = IsSorted-remove ts_cmp W.members u h;
  was = λ t m is. elim (removed_cases W.members u t h) [
    | inl k ↦ (let e : None ≡ Some m = sym k.1 ∙ is in cc)
    | inr k ↦ sym k.1 ∙ is
  ];
  still = λ t m is. elim (removed_cases W.members u t h) [
    | inl k ↦
        let same : n ≡ m = same_Some n m (sym here ∙ subst (λ v. get W.members v ≡ Some m) k.0 is) in
        inr (sym (ap (λ (x : Member). x.decided) same) ∙ decided, subst (λ v. AtMost v (later_of W.threshold u)) (sym k.0) (second_at_most W.threshold u))
    | inr k ↦ inl (k.1 ∙ is)
  ];
  higher = first_at_most W.threshold u;
  bounded = λ v low members. later_at_most W.threshold u v low (members u n here decided);
}

by_found : (W : Window) → IsSorted W.members → (o : Option Ts) → ((t : Ts) → o ≡ Some t → Found W.members.pairs t) → Roomy W (without W o)
by_found W h None f = roomy_same W h
by_found W h (Some u) f =
    let x = f u refl in
    roomy_without W u x.0 h (lookup-from_Contains (eq_by_cmp_equiv ts_total) u x.0 W.members.pairs (IsDistinct-from_sorted ts_cmp _ h) x.1) x.2

roomy : (W : Window) → IsSorted W.members → Roomy W (with_room W)
roomy W h = by_limit (nat_le room_for (len W.members))
  where
    by_limit : (x : Bool) → Roomy W (without W (cond x (first_decided W.members.pairs) None))
    by_limit true = by_found W h (first_decided W.members.pairs) (found_first W.members.pairs)
    by_limit false = roomy_same W h

none_sorted : IsSorted {R = ts_cmp} (empty {X = Member})
unfolding IsStrictlySortedBy
none_sorted = tt

-- ---- the window of a state

-- W covers a state in which transactions stand so, and whose greatest committed timestamp is top
pub record Held (st : Ts → Option Known) (top : Ts) (W : Window) : Type 0 where
  pub sorted : IsSorted W.members
  pub members : (t : Ts) (m : Member) → get W.members t ≡ Some m → (o : Known) × (st t ≡ Some o) × (o.request ≡ m.request) × MemberFits m.decided o.fate
  pub opens : (t : Ts) (o : Known) → st t ≡ Some o → o.fate ≡ Open → (m : Member) × (get W.members t ≡ Some m)
  pub committed : (t : Ts) (o : Known) → st t ≡ Some o → IsCommitted o.fate → ((m : Member) × (get W.members t ≡ Some m)) ⊎ AtMost t W.threshold
  pub upgrades : (t : Ts) (o : Known) → st t ≡ Some o → IsCommitted o.fate → IsTrue (is_upgrade o.request) → AtMost t W.threshold
  pub low : AtMost W.threshold top
  pub high : (t : Ts) (o : Known) → st t ≡ Some o → IsCommitted o.fate → AtMost t top

agrees_committed : (d : Bool) (f : Fate) → d ≡ true → MemberFits d f → IsCommitted f
agrees_committed true Open e a = absurd a
agrees_committed true (Committed at) e a = tt
agrees_committed true Aborted e a = absurd a
agrees_committed false f e a = cc

not_open : {A : Type 0} (f : Fate) → f ≡ Open → IsCommitted f → A
not_open Open e c = absurd c
not_open (Committed a) e c = cc
not_open Aborted e c = absurd c

pub lives_open : (f : Fate) → f ≡ Open → Lives f
lives_open Open e = tt
lives_open (Committed a) e = tt
lives_open Aborted e = cc

lives_committed : (f : Fate) → IsCommitted f → Lives f
lives_committed Open c = tt
lives_committed (Committed a) c = tt
lives_committed Aborted c = absurd c

-- How transactions stand in st, but u stands as p: `as` in a state whose map has p put in at u.
record PutIn (st new : Ts → Option Known) (u : Ts) (p : Known) : Type 0 where
  here : new u ≡ Some p
  others : (t : Ts) → t ≢ u → new t ≡ st t

module _ (st new : Ts → Option Known) (top top' : Ts) (W : Window) (u : Ts) (p : Known) (put_in : PutIn st new u p) (held : Held st top W) (rises : AtMost top top') where
  stood_other : (t : Ts) (o : Known) → t ≢ u → new t ≡ Some o → st t ≡ Some o
  stood_other t o other is = sym (put_in.others t other) ∙ is

  -- u comes in, or is decided to commit
  held_member : (V : Window) (d : Bool) → Roomy W V → MemberFits d p.fate → (IsCommitted p.fate → IsTrue (is_upgrade p.request) → ⊥) → (IsCommitted p.fate → AtMost u top') → Held new top' (record { threshold = V.threshold; members = insert V.members u (record { decided = d; request = p.request }) })
  held_member V d r agrees plain below = record {
    sorted = IsSorted-insert ts_total V.members u _ r.sorted;
    members = λ t m is. elim (inserted_cases V.members u (record { decided = d; request = p.request }) t) [
      | inl k ↦
          let same : record { decided = d; request = p.request } ≡ m = same_Some _ m (sym k.1 ∙ is) in
          (p, ap new k.0 ∙ put_in.here, ap (λ (x : Member). x.request) same, subst (λ (x : Member). MemberFits x.decided p.fate) same agrees)
      | inr k ↦
          let old = held.members t m (r.was t m (sym k.1 ∙ is)) in
          (old.0, put_in.others t k.0 ∙ old.1, old.2, old.3)
    ];
    opens = λ t o is at_first. elim (inserted_cases V.members u (record { decided = d; request = p.request }) t) [
      | inl k ↦ (record { decided = d; request = p.request }, k.1)
      | inr k ↦
          let old = stood_other t o k.0 is in
          let x = held.opens t o old at_first in
          elim (r.still t x.0 x.1) [
            | inl y ↦ (x.0, k.1 ∙ y)
            | inr y ↦
                let z = held.members t x.0 x.1 in
                let one : z.0 ≡ o = same_Some z.0 o (sym z.1 ∙ old) in
                not_open o.fate at_first (subst (λ (v : Known). IsCommitted v.fate) one (agrees_committed x.0.decided z.0.fate y.0 z.3))
          ]
    ];
    committed = λ t o is c. elim (inserted_cases V.members u (record { decided = d; request = p.request }) t) [
      | inl k ↦ inl (record { decided = d; request = p.request }, k.1)
      | inr k ↦ elim (held.committed t o (stood_other t o k.0 is) c) [
        | inl x ↦ elim (r.still t x.0 x.1) [
          | inl y ↦ inl (x.0, k.1 ∙ y)
          | inr y ↦ inr y.1
        ]
        | inr l ↦ inr (at_most_then t W.threshold V.threshold l r.higher)
      ]
    ];
    upgrades = λ t o is c up. elim (key_cases t u) [
      | inl k ↦
          let one : p ≡ o = same_Some p o (sym put_in.here ∙ subst (λ v. new v ≡ Some o) k.0 is) in
          absurd (plain (subst (λ (v : Known). IsCommitted v.fate) (sym one) c) (subst (λ (v : Known). IsTrue (is_upgrade v.request)) (sym one) up))
      | inr k ↦ at_most_then t W.threshold V.threshold (held.upgrades t o (stood_other t o k.0 is) c up) r.higher
    ];
    low = at_most_then V.threshold top top' (r.bounded top held.low (λ t m is dec. let z = held.members t m is in held.high t z.0 z.1 (agrees_committed m.decided z.0.fate dec z.3))) rises;
    high = λ t o is c. elim (key_cases t u) [
      | inl k ↦
          let one : p ≡ o = same_Some p o (sym put_in.here ∙ subst (λ v. new v ≡ Some o) k.0 is) in
          subst (λ v. AtMost v top') (sym k.0) (below (subst (λ (v : Known). IsCommitted v.fate) (sym one) c))
      | inr k ↦ at_most_then t top top' (held.high t o (stood_other t o k.0 is) c) rises
    ];
  }

  -- u is aborted
  held_aborted : p.fate ≡ Aborted → Held new top' (record { threshold = W.threshold; members = remove W.members u })
  held_aborted gone = record {
    sorted = IsSorted-remove ts_cmp W.members u held.sorted;
    members = λ t m is. elim (removed_cases W.members u t held.sorted) [
      | inl k ↦ (let e : None ≡ Some m = sym k.1 ∙ is in cc)
      | inr k ↦
          let old = held.members t m (sym k.1 ∙ is) in
          (old.0, put_in.others t k.0 ∙ old.1, old.2, old.3)
    ];
    opens = λ t o is at_first. elim (removed_cases W.members u t held.sorted) [
      | inl k ↦
          let one : p ≡ o = same_Some p o (sym put_in.here ∙ subst (λ v. new v ≡ Some o) k.0 is) in
          let e : Aborted ≡ Open = sym gone ∙ ap (λ (v : Known). v.fate) one ∙ at_first in
          absurd (cc)
      | inr k ↦ let x = held.opens t o (stood_other t o k.0 is) at_first in (x.0, k.1 ∙ x.1)
    ];
    committed = λ t o is c. elim (removed_cases W.members u t held.sorted) [
      | inl k ↦
          let one : p ≡ o = same_Some p o (sym put_in.here ∙ subst (λ v. new v ≡ Some o) k.0 is) in
          absurd (gone_uncommitted o.fate (ap (λ (v : Known). v.fate) (sym one) ∙ gone) c)
      | inr k ↦ elim (held.committed t o (stood_other t o k.0 is) c) [
        | inl x ↦ inl (x.0, k.1 ∙ x.1)
        | inr l ↦ inr l
      ]
    ];
    upgrades = λ t o is c up. elim (key_cases t u) [
      | inl k ↦
          let one : p ≡ o = same_Some p o (sym put_in.here ∙ subst (λ v. new v ≡ Some o) k.0 is) in
          absurd (gone_uncommitted o.fate (ap (λ (v : Known). v.fate) (sym one) ∙ gone) c)
      | inr k ↦ held.upgrades t o (stood_other t o k.0 is) c up
    ];
    low = at_most_then W.threshold top top' held.low rises;
    high = λ t o is c. elim (key_cases t u) [
      | inl k ↦
          let one : p ≡ o = same_Some p o (sym put_in.here ∙ subst (λ v. new v ≡ Some o) k.0 is) in
          absurd (gone_uncommitted o.fate (ap (λ (v : Known). v.fate) (sym one) ∙ gone) c)
      | inr k ↦ at_most_then t top top' (held.high t o (stood_other t o k.0 is) c) rises
    ];
  }
    where
      gone_uncommitted : (f : Fate) → f ≡ Aborted → IsCommitted f → ⊥
      gone_uncommitted Open e c = c
      gone_uncommitted (Committed a) e c = cc
      gone_uncommitted Aborted e c = c

  -- u is an upgrade that commits, and all others that live have committed before it
  held_cleared : IsCommitted p.fate → AtMost u top' → ((t : Ts) (o : Known) → st t ≡ Some o → t ≢ u → Lives o.fate → IsCommitted o.fate × Before t u) → Held new top' (cleared u)
  held_cleared committed below fenced = record {
    sorted = none_sorted;
    members = λ t m is. (let e : None ≡ Some m = is in cc);
    opens = λ t o is at_first. elim (key_cases t u) [
      | inl k ↦
          let one : p ≡ o = same_Some p o (sym put_in.here ∙ subst (λ v. new v ≡ Some o) k.0 is) in
          not_open o.fate at_first (subst (λ (v : Known). IsCommitted v.fate) one committed)
      | inr k ↦ not_open o.fate at_first (fenced t o (stood_other t o k.0 is) k.0 (lives_open o.fate at_first)).0
    ];
    committed = λ t o is c. inr (elim (key_cases t u) [
      | inl k ↦ subst (λ v. AtMost v u) (sym k.0) (at_most_itself u)
      | inr k ↦ before_at_most t u (fenced t o (stood_other t o k.0 is) k.0 (lives_committed o.fate c)).1
    ]);
    upgrades = λ t o is c up. elim (key_cases t u) [
      | inl k ↦ subst (λ v. AtMost v u) (sym k.0) (at_most_itself u)
      | inr k ↦ before_at_most t u (fenced t o (stood_other t o k.0 is) k.0 (lives_committed o.fate c)).1
    ];
    low = below;
    high = λ t o is c. elim (key_cases t u) [
      | inl k ↦ subst (λ v. AtMost v top') (sym k.0) below
      | inr k ↦ at_most_then t top top' (held.high t o (stood_other t o k.0 is) c) rises
    ];
  }

-- ---- one entry

open_before : (cs : List (ℕ × Request)) (n : ℕ) (q : Request) (f g : Fate) → FateMoves cs n q f g → g ≡ Open → f ≡ Open
open_before cs n q Open g m e = refl
open_before cs n q (Committed a) Open m e = absurd m
open_before cs n q (Committed a) (Committed at) m e = cc
open_before cs n q (Committed a) Aborted m e = absurd m
open_before cs n q Aborted Open m e = absurd m
open_before cs n q Aborted (Committed at) m e = absurd m
open_before cs n q Aborted Aborted m e = cc

committed_before : (n : ℕ) (q : Request) (f g : Fate) → FateMoves [] n q f g → IsCommitted g → IsCommitted f
committed_before n q Open Open m c = c
committed_before n q Open (Committed at) m c = no_commit [] (n, q) refl m.1
committed_before n q Open Aborted m c = c
committed_before n q (Committed a) g m c = tt
committed_before n q Aborted Open m c = absurd m
committed_before n q Aborted (Committed at) m c = absurd m
committed_before n q Aborted Aborted m c = c

agrees_open : (d : Bool) (f g : Fate) → MemberFits d f → f ≡ Open → g ≡ Open → MemberFits d g
agrees_open d f g a e h = subst (MemberFits d) (e ∙ sym h) a

module _ (b : Base) where
  put_in_state : (S : State) (u : Ts) (p : Known) → or_lost b S u p ≡ p → PutIn (known_in b S) (λ t. option_map (or_lost b S t) (get (insert S.known u p) t)) u p
  put_in_state S u p same = record {
    here = elim (inserted_cases S.known u p u) [
      | inl k ↦ ap (option_map (or_lost b S u)) k.1 ∙ ap (λ (o : Known). Some o) same
      | inr k ↦ absurd (k.0 refl)
    ];
    others = λ t other. elim (inserted_cases S.known u p t) [
      | inl k ↦ absurd (other k.0)
      | inr k ↦ ap (option_map (or_lost b S t)) k.1
    ];
  }

  -- an undecided upgrade is behind all others that live, and they have committed
  abbrev Fenced : State → Type 0
  Fenced S = (u : Ts) (w : Known) → known_in b S u ≡ Some w → w.fate ≡ Open → IsTrue (is_upgrade w.request)
      → (t : Ts) (o : Known) → known_in b S t ≡ Some o → t ≢ u → Lives o.fate → IsCommitted o.fate × Before t u

  held_begun : (S : State) (W : Window) (q : Request) → LifeBegan b S → Held (known_in b S) S.top W
      → Held (known_in b (put b S (Prepared q))) S.top (enter W q false)
  held_begun S W q began held =
      let p : Known = record { place = S.length; request = q; fate = Open } in
      let same : or_lost b S q.tx p ≡ p = ap (λ (x : Bool). record p { fate = lapse Open x }) (not_lost b S q.tx began) in
      held_member (known_in b S) (known_in b (put b S (Prepared q))) S.top S.top W q.tx p (put_in_state S q.tx p same) held (at_most_itself S.top) (with_room W) false (roomy W held.sorted) tt (λ c up. c) (λ c. absurd c)

  held_one : (S : State) (W : Window) (q : Request) → is_upgrade q ≡ false → Held (known_in b S) S.top W
      → Held (known_in b (put b S (One q))) (later_of S.top q.tx) (enter W q true)
  held_one S W q plain held =
      let p : Known = record { place = S.length; request = q; fate = Committed S.length } in
      held_member (known_in b S) (known_in b (put b S (One q))) S.top (later_of S.top q.tx) W q.tx p (put_in_state S q.tx p refl) held (first_at_most S.top q.tx) (with_room W) true (roomy W held.sorted) tt (λ c up. let e : false ≡ true = sym plain ∙ up in cc) (λ c. second_at_most S.top q.tx)

  held_upgraded : (S : State) (W : Window) (q : Request) → IsTrue (is_upgrade q) → Admits b S q → Held (known_in b S) S.top W
      → Held (known_in b (put b S (Upgraded q))) (later_of S.top q.tx) (cleared q.tx)
  held_upgraded S W q upgrade admits held =
      let p : Known = record { place = S.length; request = q; fate = Committed S.length } in
      held_cleared (known_in b S) (known_in b (put b S (Upgraded q))) S.top (later_of S.top q.tx) W q.tx p (put_in_state S q.tx p refl) held (first_at_most S.top q.tx) tt (second_at_most S.top q.tx)
      (λ t o is other lives.
      let acc : Accepts q t o = MatchOption-at_some ⊤ (Accepts q t) o is (admits.accepted t) in
      (acc lives).0 (bars-upgrade q o.request upgrade))

  held_close : (S : State) (W : Window) (t : Ts) (c : Bool) (o : Option Known) → known_in b S t ≡ o → ((p : Known) → o ≡ Some p → p.request.tx ≡ t) → Fenced S → Held (known_in b S) S.top W
      → Held (known_in b (settle S t c o)) (settle S t c o).top (close W t c o)
  held_close S W t c None is named fenced held = held
  held_close S W t c (Some p) is named fenced held = by_fate p.fate refl c
    where
      new : Known
      new = record { place = p.place; request = p.request; fate = Committed S.length }

      below : AtMost t (later_of S.top p.request.tx)
      below = subst (λ u. AtMost u (later_of S.top p.request.tx)) (named p refl) (second_at_most S.top p.request.tx)

      by_kind : p.fate ≡ Open → (x : Bool) → is_upgrade p.request ≡ x → Held (known_in b (commit S t p.place p.request)) (later_of S.top p.request.tx) (cond x (cleared t) (record { threshold = W.threshold; members = insert W.members t (record { decided = true; request = p.request }) }))
      by_kind at_first true upgrade =
          held_cleared (known_in b S) (known_in b (commit S t p.place p.request)) S.top (later_of S.top p.request.tx) W t (record { place = p.place; request = p.request; fate = Committed S.length }) (put_in_state S t _ refl) held (first_at_most S.top p.request.tx) tt below
          (fenced t p is at_first upgrade)
      by_kind at_first false k =
          held_member (known_in b S) (known_in b (commit S t p.place p.request)) S.top (later_of S.top p.request.tx) W t (record { place = p.place; request = p.request; fate = Committed S.length }) (put_in_state S t _ refl) held (first_at_most S.top p.request.tx) W true (roomy_same W held.sorted) tt (λ c up. let e : false ≡ true = sym k ∙ up in cc) (λ c. below)

      by_fate : (f : Fate) → p.fate ≡ f → (d : Bool) → Held (known_in b (settle_by S t d p f)) (settle_by S t d p f).top (close_by W t d p f)
      by_fate Open at_first true = by_kind at_first (is_upgrade p.request) refl
      by_fate Open at_first false = held_aborted (known_in b S) (known_in b (record S { known = insert S.known t (record p { fate = Aborted }) })) S.top S.top W t (record p { fate = Aborted }) (put_in_state S t (record p { fate = Aborted }) refl) held (at_most_itself S.top) refl
      by_fate (Committed a) at_first d = held
      by_fate Aborted at_first d = held

  undecided_kept : (o : Known) → o.fate ≡ Open → is_undecided (Some o) ≡ true
  undecided_kept o e = ap is_open e

  kept_undecided : (k : Option Known) → is_undecided k ≡ true → (o : Known) × (k ≡ Some o) × (o.fate ≡ Open)
  kept_undecided None e = cc
  kept_undecided (Some o) e = by_fate o.fate refl e
    where
      by_fate : (f : Fate) → o.fate ≡ f → is_open f ≡ true → (v : Known) × (Some o ≡ Some v) × (v.fate ≡ Open)
      by_fate Open h k = (o, refl, h)
      by_fate (Committed a) h k = cc
      by_fate Aborted h k = cc

  true_cond : {X : Type 0} (x : Bool) (o : Option X) (m : X) → cond x o None ≡ Some m → (x ≡ true) × (o ≡ Some m)
  true_cond true o m e = (refl, e)
  true_cond false o m e = cc

  held_life : (S : State) (W : Window) (n : ℕ) → LifeBegan b S → owes b S (Life n) → Held (known_in b S) S.top W
      → Held (known_in b (put b S (Life n))) S.top (slide b S W (Life n))
  held_life S W n began owed held =
      let new = known_in b (put b S (Life n)) in
      let stays = λ (t : Ts). is_undecided (known_in b (put b S (Life n)) t) in
      record {
        sorted = IsSorted-keep ts_cmp W.members stays held.sorted;
        members = λ t m is.
            let k = true_cond (stays t) (get W.members t) m (sym (get-keep ts_cmp ts_exact W.members stays t) ∙ is) in
            let x = kept_undecided (new t) k.0 in
            let old = held.members t m k.1 in
            let y = was S n began owed t x.0 x.1 in
            let one : old.0 ≡ y.0 = same_Some old.0 y.0 (sym old.1 ∙ y.1) in
            let open_old : y.0.fate ≡ Open = open_before [] S.length y.0.request y.0.fate x.0.fate y.2.2 x.2 in
            (x.0, x.1, y.2.1 ∙ ap (λ (v : Known). v.request) (sym one) ∙ old.2, agrees_open m.decided y.0.fate x.0.fate (subst (λ (v : Known). MemberFits m.decided v.fate) one old.3) open_old x.2);
        opens = λ t o is at_first.
            let y = was S n began owed t o is in
            let x = held.opens t y.0 y.1 (open_before [] S.length y.0.request y.0.fate o.fate y.2.2 at_first) in
            (x.0, get-keep ts_cmp ts_exact W.members stays t ∙ ap (λ k. cond (is_undecided k) (get W.members t) None) is ∙ ap (λ c. cond c (get W.members t) None) (undecided_kept o at_first) ∙ x.1);
        committed = λ t o is c.
            let y = was S n began owed t o is in
            inr (held.high t y.0 y.1 (committed_before S.length y.0.request y.0.fate o.fate y.2.2 c));
        upgrades = λ t o is c up.
            let y = was S n began owed t o is in
            held.high t y.0 y.1 (committed_before S.length y.0.request y.0.fate o.fate y.2.2 c);
        low = at_most_itself S.top;
        high = λ t o is c.
            let y = was S n began owed t o is in
            held.high t y.0 y.1 (committed_before S.length y.0.request y.0.fate o.fate y.2.2 c);
      }
    where
      was : (S : State) (n : ℕ) → LifeBegan b S → owes b S (Life n) → (t : Ts) (o : Known) → known_in b (put b S (Life n)) t ≡ Some o → (v : Known) × (known_in b S t ≡ Some v) × Kept [] S.length v o
      was S n began owed t o is = elim (came b S (Life n) began owed t o is) [
        | inl x ↦ absurd x.1.0
        | inr x ↦ x
      ]

  held_slide : (S : State) (W : Window) (e : Entry) → Placed b S → owes b S e → Fenced S → Held (known_in b S) S.top W → Held (known_in b (put b S e)) (put b S e).top (slide b S W e)
  held_slide S W (Life n) h o f held = held_life S W n h.began o held
  held_slide S W (One q) h o f held = held_one S W q o.2 held
  held_slide S W (Prepared q) h o f held = held_begun S W q h.began held
  held_slide S W (Upgraded q) h o f held = held_upgraded S W q o.2 o.0 held
  held_slide S W (Decided t c) h o f held = held_close S W t c (known_in b S t) refl (λ p is. (h.fits t p is).named) f held
  held_slide S W (Finished t c) h o f held = held_close S W t c (known_in b S t) refl (λ p is. (h.fits t p is).named) f held

  -- ---- the history

  no_commit_below : (n : ℕ) (f : Fate) → f ≡ Open → CommittedBelow n f → ⊥
  no_commit_below n Open e c = c
  no_commit_below n (Committed a) e c = cc
  no_commit_below n Aborted e c = c

  committed_fate : (n : ℕ) (f : Fate) → CommittedBelow n f → IsCommitted f
  committed_fate n Open c = c
  committed_fate n (Committed a) c = tt
  committed_fate n Aborted c = c

  fenced : (H : List Entry) → sound b H → Fenced (state b H)
  fenced H sd u w is at_first upgrade t o it other lives =
      let r : BesideUpgrade b H u t w o = record { upgrade = is; is = upgrade; there = it; other = other; upgrade_lives = lives_open w.fate at_first; other_lives = lives } in
      let fence = upgrades_fence b H sd in
      elim (in_order t u) [
        | inl e ↦ (committed_fate w.place o.fate ((fence.before u t w o r).0 e), e)
        | inr k ↦ elim k [
          | inl same ↦ absurd (other same)
          | inr e ↦ absurd (no_commit_below o.place w.fate at_first ((fence.after u t w o r).0 e))
        ]
      ]

  window_from-end : (S : State) (W : Window) (H : List Entry) (e : Entry) → window_from b S W (H ++ e ∷ []) ≡ slide b (fold (put b) S H) (window_from b S W H) e
  window_from-end S W [] e = refl
  window_from-end S W (f ∷ H) e = window_from-end (put b S f) (slide b S W f) H e

  -- one more entry: one step
  pub window-end : (H : List Entry) (e : Entry) → window b (H ++ e ∷ []) ≡ slide b (state b H) (window b H) e
  window-end H e = window_from-end (start b) (record { threshold = b.top; members = empty }) H e

  held_start : Held (known_in b (start b)) b.top (window b [])
  held_start = record {
    sorted = none_sorted;
    members = λ t m is. (let e : None ≡ Some m = is in cc);
    opens = λ t o is at_first. (let e : None ≡ Some o = is in cc);
    committed = λ t o is c. (let e : None ≡ Some o = is in cc);
    upgrades = λ t o is c up. (let e : None ≡ Some o = is in cc);
    low = at_most_itself b.top;
    high = λ t o is c. (let e : None ≡ Some o = is in cc);
  }

  pub held : (H : List Entry) → sound b H → Held (known_in b (state b H)) (state b H).top (window b H)
  held = by_growth b (λ H. Held (known_in b (state b H)) (state b H).top (window b H)) held_start
      (λ H e sd ih ow.
      let step = held_slide (state b H) (window b H) e (placed b H sd) ow (fenced H sd) ih in
      let same : put b (state b H) e ≡ state b (H ++ e ∷ []) = sym (state-end b H e) in
      subst (λ W. Held (known_in b (state b (H ++ e ∷ []))) (state b (H ++ e ∷ [])).top W) (sym (window-end H e))
      (subst (λ (S : State). Held (known_in b S) S.top (slide b (state b H) (window b H) e)) same step))

  is_some_from : {X : Type 0} (o : Option X) (x : X) → o ≡ Some x → IsSome o
  is_some_from None x e = cc
  is_some_from (Some y) x e = search rules

  pub covers : (H : List Entry) → sound b H → Covers b H
  covers H sd =
      let h = held H sd in
      record {
        members = λ t m is. let x = h.members t m is in subst (λ k. IsSomeAnd k (λ o. (o.request ≡ m.request) × MemberFits m.decided o.fate)) (sym x.1) (x.2, x.3);
        undecided = λ t o is at_first. let x = h.opens t o is at_first in is_some_from (get (window b H).members t) x.0 x.1;
        committed = λ t o is c. elim (h.committed t o is c) [
          | inl x ↦ inl (is_some_from (get (window b H).members t) x.0 x.1)
          | inr l ↦ inr l
        ];
        upgrades = h.upgrades;
        threshold = h.low;
        top = h.high;
      }
