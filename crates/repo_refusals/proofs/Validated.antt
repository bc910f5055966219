-- A request that validation doesn't refuse can come behind each transaction that is there.
use Rattle.log_entries.specs.declared.entry.Entry.{Entry}
use Rattle.log_entries.specs.declared.request.Request.{Request}
use Rattle.repo_refusals.proofs.Covered.{held}
use Rattle.spec_history.proofs.Stamps.{at_most_before, at_most_itself, at_most_then, first_at_most, second_at_most}
use Rattle.spec_history.proofs.Decided.{written_keys}
use Rattle.spec_history.proofs.Meeting.{in_order, not_both_ways, or_cases, or_second}
use Rattle.repo_refusals.specs.Covers.{MemberFits}
use Rattle.spec_history.specs.History.{Aborted, Base, Committed, Fate, IsCommitted, Lives, Open, Known, State, epoch_of, known_by, state}
use Rattle.spec_history.specs.Requests.{bars, has_read, has_written, is_upgrade, overwrites, reads_of, written}
use Rattle.spec_history.specs.Sound.{Accepts, sound}
use Rattle.repo_refusals.specs.Refusals.{bar, other_epoch, blocks, comes_earlier, comes_later, first_refusal, least_name, names_of, passing, reads_from, too_old, writes_over}
use Rattle.repo_refusals.specs.Window.{Member, Window, window}
use Rattle.repo_refusals.specs.declared.refusal.Refusal.{Refusal}
use Rattle.std.proofs.Common.{List, [], ap, cond, inl, inr, refl, subst, sym, ◌++◌, ◌≡◌, ◌∙◌, ◌∷◌}
use Rattle.std.proofs.lemmas.Bool.{eqb-true, or_from, or_parts, or_left}
use Rattle.std.proofs.lemmas.Cmp.{tied_itself}
use Rattle.std.proofs.lemmas.Map.Made.{is_some-lookup}
use Rattle.std.proofs.lemmas.Map.Views.{tells_apart}
use Rattle.std.proofs.lemmas.Option.{same_Some}
use Rattle.std.specs.BTreeMap.{is_at}
use Rattle.std.specs.List.{fold, list_any}
use Rattle.std.specs.Map.{keys_of, lookup}
use Rattle.std.specs.Option.{IfSome, option_map, option_or}
use Rattle.std.specs.Ordering.{eq_by_cmp, is_eq, is_lt}
use Rattle.std.specs.Prelude.{Bool, None, Option, Some, false, is_some, map, nat_eq, not, true, ◌&&◌, ◌||◌, ◌⊎◌}
use Rattle.std.specs.declared.cmp.Ordering.TheVariants.{Equal, Greater, Less}
use Rattle.std.specs.declared.cmp.Ordering.{Ordering}
use Rattle.thor_value.proofs.FiniteMap.{get-insert}
use Rattle.thor_value.proofs.NameOrders.{oref_exact, oref_total, ts_exact}
use Rattle.thor_value.specs.FiniteMap.{Set, empty, get, has, insert, keys, overwrite}
use Rattle.thor_value.specs.Names.{AtMost, Before, later_of, oref_cmp, same_oref, ts_cmp}
use Rattle.thor_value.specs.declared.names.Oref.{Oref}
use Rattle.thor_value.specs.declared.names.Ts.{Ts}
use Rattle.validation_queue.specs.Clashes.{first_some, is_before}

-- ---- answers

pub neither : {X : Type 0} (a c : Option X) → option_or a c ≡ None → (a ≡ None) × (c ≡ None)
neither None c e = (refl, e)
neither (Some x) c e = cc

unless : {X : Type 0} (x : Bool) (o : Option X) → cond x o None ≡ None → x ≡ true → o ≡ None
unless true o e h = e
unless false o e h = cc

pub unless_some : {X : Type 0} (x : Bool) (v : X) → cond x (Some v) None ≡ None → x ≡ false
unless_some true v e = cc
unless_some false v e = refl

only_if : {X : Type 0} (x : Bool) (v : X) → cond x None (Some v) ≡ None → x ≡ true
only_if true v e = refl
only_if false v e = cc

pub unmapped : {X Y : Type 0} (f : X → Y) (o : Option X) → option_map f o ≡ None → o ≡ None
unmapped f None e = refl
unmapped f (Some x) e = cc

and_second : (x y : Bool) → (x && y) ≡ false → x ≡ true → y ≡ false
and_second true y e h = e
and_second false y e h = cc

never : {A : Type 0} (x : Bool) → x ≡ false → x ≡ true → A
never true e h = cc
never false e h = cc

-- what no pair answers isn't answered at a key
none_at : (f : Ts × Member → Option Refusal) (es : List (Ts × Member)) (t : Ts) (m : Member) → first_some f es ≡ None → lookup (is_at (ts_cmp t)) es ≡ Some m → f (t, m) ≡ None
none_at f [] t m none is = cc
none_at f (e ∷ es) t m none is = by_key (is_at (ts_cmp t) e.0) refl is (none_at f es t m both.1)
  where
    both : (f e ≡ None) × (first_some f es ≡ None)
    both = neither (f e) (first_some f es) none

    by_key : (x : Bool) → is_at (ts_cmp t) e.0 ≡ x → cond x (Some e.1) (lookup (is_at (ts_cmp t)) es) ≡ Some m → (lookup (is_at (ts_cmp t)) es ≡ Some m → f (t, m) ≡ None) → f (t, m) ≡ None
    by_key true k found rest =
        let key : e.0 ≡ t = sym (tells_apart ts_exact t e.0 k) in
        let value : e.1 ≡ m = same_Some e.1 m found in
        subst (λ n. f (t, n) ≡ None) value (subst (λ u. f (u, e.1) ≡ None) key both.0)
    by_key false k found rest = rest found

-- ---- names

passes : (test : Oref → Bool) (ys : List Oref) (x : Oref) → first_some (passing test) ys ≡ None → list_any (same_oref x) ys ≡ true → test x ≡ false
passes test [] x none e = cc
passes test (y ∷ ys) x none e =
    let both = neither (passing test y) (first_some (passing test) ys) none in
    elim (or_cases (same_oref x y) (list_any (same_oref x) ys) e) [
      | inl s ↦ subst (λ z. test z ≡ false) (sym (tells_apart oref_exact x y s)) (unless_some (test y) y both.0)
      | inr r ↦ passes test ys x both.1 r
    ]

had : (x : Oref) (m : Set oref_cmp) (ys : List Oref) → (has m x ≡ true) ⊎ (list_any (same_oref x) ys ≡ true) → has (overwrite m (map (λ y. (y, tt)) ys)) x ≡ true
had x m [] (inl h) = h
had x m [] (inr e) = cc
had x m (y ∷ ys) h = had x (insert m y tt) ys (elim h [
  | inl there ↦ inl (ap is_some (get-insert oref_total m y tt x) ∙ kept (eq_by_cmp oref_cmp x y) there)
  | inr e ↦ elim (or_cases (same_oref x y) (list_any (same_oref x) ys) e) [
    | inl s ↦ inl (ap is_some (get-insert oref_total m y tt x) ∙ ap (λ k. is_some (cond k (Some tt) (get m x))) s)
    | inr r ↦ inr r
  ]
])
  where
    kept : (k : Bool) → is_some (get m x) ≡ true → is_some (cond k (Some tt) (get m x)) ≡ true
    kept true e = refl
    kept false e = e

any_left : (test : Oref → Bool) (xs ys : List Oref) → list_any test xs ≡ true → list_any test (xs ++ ys) ≡ true
any_left test [] ys e = cc
any_left test (x ∷ xs) ys e = elim (or_cases (test x) (list_any test xs) e) [
  | inl h ↦ or_left (test x) (list_any test (xs ++ ys)) h
  | inr h ↦ or_second (test x) (list_any test (xs ++ ys)) (any_left test xs ys h)
]

any_right : (test : Oref → Bool) (xs ys : List Oref) → list_any test ys ≡ true → list_any test (xs ++ ys) ≡ true
any_right test [] ys e = e
any_right test (x ∷ xs) ys e = or_second (test x) (list_any test (xs ++ ys)) (any_right test xs ys e)

named : (q : Request) (x : Oref) → list_any (same_oref x) (q.ros ++ keys (written q)) ≡ true → list_any (same_oref x) (keys (names_of q)) ≡ true
named q x e = sym (is_some-lookup (is_at (oref_cmp x)) (names_of q).pairs) ∙ had x empty (q.ros ++ keys (written q)) (inr e)

no_name : (q : Request) (test : Oref → Bool) → least_name q test ≡ None → (x : Oref) → (has_read q x ≡ true) ⊎ (has_written q x ≡ true) → test x ≡ false
no_name q test none x h = passes test (keys (names_of q)) x none (named q x (elim h [
  | inl r ↦ any_left (same_oref x) q.ros (keys (written q)) r
  | inr w ↦ any_right (same_oref x) q.ros (keys (written q)) (written_keys q x ∙ w)
]))

none_any : (test : Oref → Bool) (ys : List Oref) → ((x : Oref) → list_any (same_oref x) ys ≡ true → test x ≡ false) → list_any test ys ≡ false
none_any test [] h = refl
none_any test (y ∷ ys) h = or_from (test y) (list_any test ys)
    (h y (or_left (same_oref y y) (list_any (same_oref y) ys) (ap is_eq (tied_itself oref_total y))))
    (none_any test ys (λ x e. h x (or_second (same_oref x y) (list_any (same_oref x) ys) e)))

not_read : (q s : Request) → ((x : Oref) → has_read q x ≡ true → reads_from q s x ≡ false) → reads_of q s ≡ false
not_read q s h = none_any (has_written s) q.ros (λ x r. and_second (has_read q x) (has_written s x) (h x r) r)

not_overwritten : (q s : Request) → ((x : Oref) → has_written q x ≡ true → writes_over q s x ≡ false) → overwrites q s ≡ false
not_overwritten q s h = none_any (has_read s) (keys (written q)) (λ x e. let w : has_written q x ≡ true = sym (written_keys q x) ∙ e in and_second (has_written q x) (has_read s x) (h x w) w)

-- ---- the bar

latest_rises : (t : Ts) (ks : List Ts) → AtMost t (fold later_of t ks)
latest_rises t [] = at_most_itself t
latest_rises t (k ∷ ks) = at_most_then t (later_of t k) (fold later_of (later_of t k) ks) (first_at_most t k) (latest_rises (later_of t k) ks)

latest_above : (t u : Ts) (es : List (Ts × Member)) (m : Member) → lookup (is_at (ts_cmp u)) es ≡ Some m → AtMost u (fold later_of t (keys_of es))
latest_above t u [] m is = cc
latest_above t u (e ∷ es) m is = by_key (is_at (ts_cmp u) e.0) refl is (latest_above (later_of t e.0) u es m)
  where
    by_key : (x : Bool) → is_at (ts_cmp u) e.0 ≡ x → cond x (Some e.1) (lookup (is_at (ts_cmp u)) es) ≡ Some m → (lookup (is_at (ts_cmp u)) es ≡ Some m → AtMost u (fold later_of (later_of t e.0) (keys_of es))) → AtMost u (fold later_of (later_of t e.0) (keys_of es))
    by_key true k found rest =
        let same : e.0 ≡ u = sym (tells_apart ts_exact u e.0 k) in
        at_most_then u (later_of t e.0) (fold later_of (later_of t e.0) (keys_of es))
        (subst (λ v. AtMost v (later_of t e.0)) same (second_at_most t e.0)) (latest_rises (later_of t e.0) (keys_of es))
    by_key false k found rest = rest found

bar_above : (W : Window) (q : Request) → AtMost W.threshold (bar W q)
bar_above W q = by_kind (is_upgrade q)
  where
    by_kind : (x : Bool) → AtMost W.threshold (cond x (fold later_of W.threshold (keys W.members)) W.threshold)
    by_kind true = latest_rises W.threshold (keys W.members)
    by_kind false = at_most_itself W.threshold

bar_above_members : (W : Window) (q : Request) (u : Ts) (m : Member) → is_upgrade q ≡ true → get W.members u ≡ Some m → AtMost u (bar W q)
bar_above_members W q u m upgrade is = subst (λ x. AtMost u (cond x (fold later_of W.threshold (keys W.members)) W.threshold)) (sym upgrade) (latest_above W.threshold u W.members.pairs m is)

less_is : (o : Ordering) → is_lt o ≡ true → o ≡ Less
less_is Less e = refl
less_is Equal e = cc
less_is Greater e = cc

-- what isn't too old is above the threshold
pub above_threshold : (W : Window) (q : Request) → too_old W q ≡ None → Before W.threshold q.tx
above_threshold W q old = at_most_before W.threshold (bar W q) q.tx (bar_above W q) (less_is (ts_cmp (bar W q) q.tx) (only_if (is_before (bar W q) q.tx) _ old))

is_before_true : (t u : Ts) → Before t u → is_before t u ≡ true
is_before_true t u e = ap is_lt e

undecided_is : (d : Bool) (f : Fate) → MemberFits d f → f ≡ Open → d ≡ false
undecided_is true Open a e = absurd a
undecided_is true (Committed at) a e = cc
undecided_is true Aborted a e = absurd a
undecided_is false f a e = refl

-- ---- the verdict

-- none of the refusals holds
pub record NothingHolds (S : State) (W : Window) (stale full : Option Refusal) (q : Request) : Type 0 where
  pub blocked : first_some (blocks q) W.members.pairs ≡ None
  pub epoch : other_epoch S q ≡ None
  pub old : too_old W q ≡ None
  pub copies : stale ≡ None
  pub earlier : first_some (comes_earlier q) W.members.pairs ≡ None
  pub later : first_some (comes_later q) W.members.pairs ≡ None
  pub limits : full ≡ None

pub nothing_holds : (S : State) (W : Window) (stale full : Option Refusal) (q : Request) → first_refusal S W stale full q ≡ None → NothingHolds S W stale full q
nothing_holds S W stale full q none =
    let es = W.members.pairs in
    let late = option_or (first_some (comes_later q) es) full in
    let rest = option_or (first_some (comes_earlier q) es) late in
    let p0 = neither (first_some (blocks q) es) (option_or (other_epoch S q) (option_or (too_old W q) (option_or stale rest))) none in
    let p1 = neither (other_epoch S q) (option_or (too_old W q) (option_or stale rest)) p0.1 in
    let p2 = neither (too_old W q) (option_or stale rest) p1.1 in
    let p3 = neither stale rest p2.1 in
    let p4 = neither (first_some (comes_earlier q) es) late p3.1 in
    let p5 = neither (first_some (comes_later q) es) full p4.1 in
    record { blocked = p0.0; epoch = p1.0; old = p2.0; copies = p3.0; earlier = p4.0; later = p5.0; limits = p5.1 }

module _ (b : Base) (H : List Entry) (sd : sound b H) (q : Request) (stale full : Option Refusal) (once : known_by b H q.tx ≡ None)
    (passed : first_refusal (state b H) (window b H) stale full q ≡ None) where
  not_here : {A : Type 0} (t : Ts) (o : Known) → known_by b H t ≡ Some o → t ≡ q.tx → A
  not_here t o is same = let e : None ≡ Some o = sym once ∙ subst (λ u. known_by b H u ≡ Some o) same is in cc

  -- the parts of the verdict
  Parts : Type 0
  Parts =
      (first_some (blocks q) (window b H).members.pairs ≡ None) × (nat_eq q.epoch (epoch_of (state b H)) ≡ true) × (is_before (bar (window b H) q) q.tx ≡ true)
      × (first_some (comes_earlier q) (window b H).members.pairs ≡ None) × (first_some (comes_later q) (window b H).members.pairs ≡ None)

  parts : Parts
  unfolding Parts
  parts =
      let W = window b H in
      let S = state b H in
      let none = nothing_holds S W stale full q passed in
      (none.blocked, only_if (nat_eq q.epoch (epoch_of S)) _ none.epoch, only_if (is_before (bar W q) q.tx) _ none.old, none.earlier, none.later)

  pub current : q.epoch ≡ epoch_of (state b H)
  unfolding Parts
  current = eqb-true q.epoch (epoch_of (state b H)) parts.1

  -- nothing at or below the bar is above q
  below_bar : {A : Type 0} (t : Ts) → AtMost t (bar (window b H) q) → Before q.tx t → A
  unfolding Parts
  below_bar t h e =
      let l : Before (bar (window b H) q) q.tx = less_is _ parts.2 in
      absurd (at_most_then t (bar (window b H) q) q.tx h (λ k. not_both_ways (bar (window b H) q) q.tx l k) e)

  -- no member above q read what it wrote, or wrote what it read
  not_later : (t : Ts) (m : Member) → get (window b H).members t ≡ Some m → Before q.tx t → (reads_of q m.request ≡ false) × (overwrites q m.request ≡ false)
  unfolding Parts
  not_later t m is e =
      let none = unmapped _ _ (unless (is_before q.tx t) _ (none_at (comes_later q) (window b H).members.pairs t m parts.4 is) (is_before_true q.tx t e)) in
      let at = no_name q (λ x. reads_from q m.request x || writes_over q m.request x) none in (
        not_read q m.request (λ x r. (or_parts (reads_from q m.request x) (writes_over q m.request x) (at x (inl r))).0),
        not_overwritten q m.request (λ x w. (or_parts (reads_from q m.request x) (writes_over q m.request x) (at x (inr w))).1),
      )

  -- no undecided member below q wrote what it read
  not_earlier : (t : Ts) (m : Member) → get (window b H).members t ≡ Some m → m.decided ≡ false → Before t q.tx → reads_of q m.request ≡ false
  unfolding Parts
  not_earlier t m is unmade e =
      let test : (not m.decided && is_before t q.tx) ≡ true = ap (λ d. not d && is_before t q.tx) unmade ∙ is_before_true t q.tx e in
      let none = unmapped _ _ (unless (not m.decided && is_before t q.tx) _ (none_at (comes_earlier q) (window b H).members.pairs t m parts.3 is) test) in
      not_read q m.request (λ x r. no_name q (reads_from q m.request) none x (inl r))

  -- neither q nor an undecided member is an upgrade
  not_blocked : (t : Ts) (m : Member) → get (window b H).members t ≡ Some m → m.decided ≡ false → (is_upgrade q || is_upgrade m.request) ≡ false
  unfolding Parts
  not_blocked t m is unmade =
      let e : (not m.decided && (is_upgrade q || is_upgrade m.request)) ≡ false = unless_some _ _ (none_at (blocks q) (window b H).members.pairs t m parts.0 is) in
      and_second (not m.decided) (is_upgrade q || is_upgrade m.request) e (ap not unmade)

  -- the member of an undecided transaction
  member : (t : Ts) (o : Known) → known_by b H t ≡ Some o → o.fate ≡ Open → (m : Member) × (get (window b H).members t ≡ Some m) × (m.request ≡ o.request) × (m.decided ≡ false)
  member t o is at_first =
      let h = held b H sd in
      let x = h.opens t o is at_first in
      let y = h.members t x.0 x.1 in
      let one : y.0 ≡ o = same_Some y.0 o (sym y.1 ∙ is) in
      let f : y.0.fate ≡ Open = ap (λ (v : Known). v.fate) one ∙ at_first in
      (x.0, x.1, sym y.2 ∙ ap (λ (v : Known). v.request) one, undecided_is x.0.decided y.0.fate y.3 f)

  accepts_open : (t : Ts) (o : Known) → known_by b H t ≡ Some o → o.fate ≡ Open → Accepts q t o
  accepts_open t o is at_first lives =
      let x = member t o is at_first in
      let m = x.0 in
      let same : m.request ≡ o.request = x.2 in
      let kinds = not_blocked t m x.1 x.3 in
      elim (in_order t q.tx) [
        | inl e ↦
            let reads = not_earlier t m x.1 x.3 e in
            let none : bars q o.request ≡ false = subst (λ r. bars q r ≡ false) same (or_from (is_upgrade q || is_upgrade m.request) (reads_of q m.request) kinds reads) in
            ((λ h. never (bars q o.request) none h), (λ h. e))
        | inr k ↦ elim k [
          | inl s ↦ not_here t o is s
          | inr e ↦
              let both = not_later t m x.1 e in
              let none : bars q o.request ≡ false = subst (λ r. bars q r ≡ false) same (or_from (is_upgrade q || is_upgrade m.request) (reads_of q m.request) kinds both.0) in
              let over : overwrites q o.request ≡ false = subst (λ r. overwrites q r ≡ false) same both.1 in
              ((λ h. never (bars q o.request) none h), (λ h. never (overwrites q o.request) over h))
        ]
      ]

  accepts_committed : (t : Ts) (o : Known) → known_by b H t ≡ Some o → IsCommitted o.fate → Accepts q t o
  accepts_committed t o is c lives = elim (in_order t q.tx) [
    | inl e ↦ ((λ h. (c, e)), (λ h. e))
    | inr k ↦ elim k [
      | inl s ↦ not_here t o is s
      | inr e ↦
          let h = held b H sd in
          let low = λ (l : AtMost t (window b H).threshold). at_most_then t (window b H).threshold (bar (window b H) q) l (bar_above (window b H) q) in
          elim (h.committed t o is c) [
            | inl x ↦
                let m = x.0 in
                let y = h.members t m x.1 in
                let one : y.0 ≡ o = same_Some y.0 o (sym y.1 ∙ is) in
                let same : m.request ≡ o.request = sym y.2 ∙ ap (λ (v : Known). v.request) one in
                let both = not_later t m x.1 e in
                let reads : reads_of q o.request ≡ false = subst (λ r. reads_of q r ≡ false) same both.0 in
                let over : overwrites q o.request ≡ false = subst (λ r. overwrites q r ≡ false) same both.1 in (
                  (λ w. elim (or_cases (is_upgrade q || is_upgrade o.request) (reads_of q o.request) w) [
                    | inl up ↦ elim (or_cases (is_upgrade q) (is_upgrade o.request) up) [
                      | inl mine ↦ below_bar t (bar_above_members (window b H) q t m mine x.1) e
                      | inr other ↦ below_bar t (low (h.upgrades t o is c other)) e
                    ]
                    | inr r ↦ never (reads_of q o.request) reads r
                  ]),
                  (λ w. never (overwrites q o.request) over w),
                )
            | inr l ↦ below_bar t (low l) e
          ]
    ]
  ]

  accepts : (t : Ts) (o : Known) → known_by b H t ≡ Some o → Accepts q t o
  accepts t o is = by_fate o.fate refl
    where
      by_fate : (f : Fate) → o.fate ≡ f → Accepts q t o
      by_fate Open e = accepts_open t o is e
      by_fate (Committed a) e = accepts_committed t o is (subst IsCommitted (sym e) tt)
      by_fate Aborted e = λ lives. absurd (subst Lives e lives)

if_some : {X : Type 0} (o : Option X) (P : X → Type 0) → ((x : X) → o ≡ Some x → P x) → IfSome o P
if_some None P h = tt
if_some (Some x) P h = h x refl

-- what isn't refused is accepted
pub validated : (b : Base) (H : List Entry) (q : Request) (stale full : Option Refusal) → sound b H → known_by b H q.tx ≡ None → first_refusal (state b H) (window b H) stale full q ≡ None
    → (q.epoch ≡ epoch_of (state b H)) × ((t : Ts) → IfSome (known_by b H t) (Accepts q t))
validated b H q stale full sd once passed =
    (current b H sd q stale full once passed, (λ t. if_some (known_by b H t) (Accepts q t) (λ o is. accepts b H sd q stale full once passed t o is)))
