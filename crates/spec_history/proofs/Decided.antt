-- The test of a history decides whether it is sound.
use Rattle.log_entries.specs.declared.entry.Entry.TheVariants.{Decided, Finished, Life, One, Prepared, Upgraded}
use Rattle.log_entries.specs.declared.entry.Entry.{Entry}
use Rattle.log_entries.specs.declared.request.Request.{Request}
use Rattle.spec_history.proofs.FormDecided.{decides_form}
use Rattle.spec_history.proofs.Steps.{by_settling}
use Rattle.spec_history.proofs.Tests.{decides_all, decides_empty, decides_eq, decides_false, decides_if, decides_le, decides_less, decides_lt, decides_none, decides_not, decides_or, decides_true, turned, ◌also◌}
use Rattle.spec_history.specs.Checking.{answers_nothing, each_known, has_participants, is_accepted, is_admitted, is_alone, is_bare_upgrade, is_committed, is_kept_by, is_live, is_owed, is_sound, is_vouched, settles_so}
use Rattle.spec_history.specs.History.{Aborted, Base, Committed, Fate, IsCommitted, LeftOver, Lives, Open, Known, State, epoch_of, is_undecided, or_lost, put, settle, known_in, start, state, undecided_in}
use Rattle.spec_history.specs.Participants.{HasParticipants, IsAlone, IsBareUpgrade, takes_part}
use Rattle.spec_history.specs.Requests.{bars, has_read, has_written, is_upgrade, overwrites, written}
use Rattle.spec_history.specs.Sound.{Accepts, Admits, Vouches, kept_by, owes, sound}
use Rattle.std.proofs.Common.{List, [], ap, arith, cond, inl, inr, length, refl, subst, suc, sym, ℕ, ◌+◌, ◌<◌, ◌≡◌, ◌∙◌, ◌∷◌}
use Rattle.std.proofs.lemmas.Cmp.{eq_by_cmp_equiv, tied_itself}
use Rattle.std.proofs.lemmas.Map.Keys.{IsDistinct-from_sorted}
use Rattle.std.proofs.lemmas.Map.Made.{is_some-lookup}
use Rattle.std.proofs.lemmas.Map.Views.{lookup-from_Contains, tells_apart}
use Rattle.std.proofs.lemmas.Bool.{and_from, and_parts, or_cases, or_left, or_right}
use Rattle.std.specs.BTreeMap.{is_at}
use Rattle.std.specs.Bool.{Decides}
use Rattle.std.specs.List.{Contains, fold, list_all, list_any, range_with_len}
use Rattle.std.specs.List.Sorted.{IsStrictlySortedBy}
use Rattle.std.specs.Map.{lookup}
use Rattle.std.specs.Option.{IfSome, IsSomeAnd, option_map}
use Rattle.std.specs.Ordering.{is_eq}
use Rattle.std.specs.Prelude.{Bool, IsTrue, None, Option, Some, false, nat_eq, true}
use Rattle.thor_value.proofs.FiniteMap.{IsSorted-insert}
use Rattle.thor_value.proofs.NameOrders.{oref_exact, oref_total, ts_exact, ts_total}
use Rattle.thor_value.specs.FiniteMap.{IsSorted, get, keys, len}
use Rattle.thor_value.specs.Names.{oref_cmp, same_oref, ts_cmp}
use Rattle.thor_value.specs.declared.names.Oref.{Oref}
use Rattle.thor_value.specs.declared.names.Ts.{Ts}
use Rattle.thor_value.specs.declared.values.Answer.TheVariants.{Fault, Ints}
use Rattle.thor_value.specs.declared.values.Answer.{Answer}
use Rattle.validation_queue.specs.Contents.{room_for}

pub decides_lives : (f : Fate) → Decides (is_live f) (Lives f)
decides_lives Open = ((λ e. tt), (λ e. refl))
decides_lives (Committed at) = ((λ e. tt), (λ e. refl))
decides_lives Aborted = ((λ e. cc), (λ h. absurd h))

decides_committed : (f : Fate) → Decides (is_committed f) (IsCommitted f)
decides_committed Open = ((λ e. cc), (λ h. absurd h))
decides_committed (Committed at) = ((λ e. tt), (λ e. refl))
decides_committed Aborted = ((λ e. cc), (λ h. absurd h))

decides_accepted : (q : Request) (t : Ts) (o : Known) → Decides (is_accepted q t o) (Accepts q t o)
decides_accepted q t o =
    let before = decides_less (ts_cmp t q.tx) in
    decides_if _ _ (decides_lives o.fate)
    (decides_if _ _ (decides_true (bars q o.request)) (decides_committed o.fate also before)
    also decides_if _ _ (decides_true (overwrites q o.request)) before)

-- ---- what holds of each name, and of each transaction

at_each : (test : Oref → Bool) (ys : List Oref) (x : Oref) → list_all test ys ≡ true → list_any (same_oref x) ys ≡ true → test x ≡ true
at_each test [] x a e = cc
at_each test (y ∷ ys) x a e =
    let p = and_parts (test y) (list_all test ys) a in
    elim (or_cases (same_oref x y) (list_any (same_oref x) ys) e) [
      | inl s ↦ subst (λ z. test z ≡ true) (sym (tells_apart oref_exact x y s)) p.0
      | inr r ↦ at_each test ys x p.1 r
    ]

from_each : (test : Oref → Bool) (ys : List Oref) → ((x : Oref) → list_any (same_oref x) ys ≡ true → test x ≡ true) → list_all test ys ≡ true
from_each test [] h = refl
from_each test (y ∷ ys) h = and_from (test y) (list_all test ys)
    (h y (or_left (same_oref y y) (list_any (same_oref y) ys) (ap is_eq (tied_itself oref_total y))))
    (from_each test ys (λ x e. h x (or_right (same_oref x y) (list_any (same_oref x) ys) e)))

decides_each : (test : Oref → Bool) (P : Oref → Type 0) (ys : List Oref) → ((x : Oref) → Decides (test x) (P x)) → Decides (list_all test ys) ((x : Oref) → IsTrue (list_any (same_oref x) ys) → P x)
decides_each test P ys d = (
  (λ a x e. (d x).0 (at_each test ys x a e)),
  (λ h. from_each test ys (λ x e. (d x).1 (h x e))),
)

-- a name among those that q wrote
pub written_keys : (q : Request) (x : Oref) → list_any (same_oref x) (keys (written q)) ≡ has_written q x
written_keys q x = sym (is_some-lookup (is_at (oref_cmp x)) (written q).pairs)

decides_written : (test : Oref → Bool) (P : Oref → Type 0) (q : Request) → ((x : Oref) → Decides (test x) (P x)) → Decides (list_all test (keys (written q))) ((x : Oref) → IsTrue (has_written q x) → P x)
decides_written test P q d = turned (decides_each test P (keys (written q)) d) (λ h x w. h x (written_keys q x ∙ w)) (λ h x w. h x (sym (written_keys q x) ∙ w))

pub at_pair : (test : Ts → Known → Bool) (f : Ts → Known → Known) (es : List (Ts × Known)) → list_all (λ e. test e.0 (f e.0 e.1)) es ≡ true → (t : Ts) → IfSome (option_map (f t) (lookup (is_at (ts_cmp t)) es)) (λ o. test t o ≡ true)
at_pair test f [] a t = tt
at_pair test f (e ∷ es) a t = by_key (is_at (ts_cmp t) e.0) refl (at_pair test f es p.1 t)
  where
    p : (test e.0 (f e.0 e.1) ≡ true) × (list_all (λ d. test d.0 (f d.0 d.1)) es ≡ true)
    p = and_parts (test e.0 (f e.0 e.1)) (list_all (λ d. test d.0 (f d.0 d.1)) es) a

    by_key : (s : Bool) → is_at (ts_cmp t) e.0 ≡ s → IfSome (option_map (f t) (lookup (is_at (ts_cmp t)) es)) (λ o. test t o ≡ true) → IfSome (option_map (f t) (cond s (Some e.1) (lookup (is_at (ts_cmp t)) es))) (λ o. test t o ≡ true)
    by_key true k rest = subst (λ u. test u (f u e.1) ≡ true) (sym (tells_apart ts_exact t e.0 k)) p.0
    by_key false k rest = rest

pub shifted : {X : Type 0} (es : List X) (e d : X) → Contains es d → Contains (e ∷ es) d
shifted es e d c = let k : ℕ = c.0 in let l : k < length es = c.1 in (suc k, omega arith, c.2)

from_pairs : {X : Type 0} (test : X → Bool) (es : List X) → ((e : X) → Contains es e → test e ≡ true) → list_all test es ≡ true
from_pairs test [] h = refl
from_pairs test (e ∷ es) h = and_from (test e) (list_all test es) (h e (0, omega arith, refl)) (from_pairs test es (λ d c. h d (shifted es e d c)))

if_some : {X : Type 0} (o : Option X) (P Q : X → Type 0) → ((x : X) → P x → Q x) → IfSome o P → IfSome o Q
if_some None P Q f h = tt
if_some (Some x) P Q f h = f x h

module _ (b : Base) where
  decides_known : (S : State) (test : Ts → Known → Bool) (P : Ts → Known → Type 0) → IsSorted S.known → ((t : Ts) (o : Known) → Decides (test t o) (P t o)) → Decides (each_known b S test) ((t : Ts) → IfSome (known_in b S t) (P t))
  decides_known S test P sorted d = (
    (λ a t. if_some (known_in b S t) (λ o. test t o ≡ true) (P t) (λ o e. (d t o).0 e) (at_pair test (or_lost b S) S.known.pairs a t)),
    (λ h. from_pairs (λ e. test e.0 (or_lost b S e.0 e.1)) S.known.pairs (λ e c.
        let here : get S.known e.0 ≡ Some e.1 = lookup-from_Contains (eq_by_cmp_equiv ts_total) e.0 e.1 S.known.pairs (IsDistinct-from_sorted ts_cmp _ sorted) c in
        let p : P e.0 (or_lost b S e.0 e.1) = subst (λ k. IfSome (option_map (or_lost b S e.0) k) (P e.0)) here (h e.0) in
        (d e.0 (or_lost b S e.0 e.1)).1 p)),
  )

  decides_participants : (q : Request) → Decides (has_participants b q) (HasParticipants b q)
  decides_participants q = turned
      (decides_all (λ n. decides_lt n b.repos also decides_not _ (decides_eq n b.repo)) q.others
      also decides_true (takes_part b.repo q q.tx.repo)
      also decides_all (decides_le q.tx.repo) (b.repo ∷ q.others))
      (λ p. record { others = p.0.0; coordinator = p.0.1; least = p.1 })
      (λ h. ((h.others, h.coordinator), h.least))

  decides_answer : (a : Answer) → Decides (answers_nothing a) (a ≡ Ints [])
  decides_answer (Ints []) = ((λ e. refl), (λ h. refl))
  decides_answer (Ints (n ∷ ns)) = ((λ e. cc), (λ h. cc))
  decides_answer (Fault f) = ((λ e. cc), (λ h. cc))

  decides_bare : (q : Request) → Decides (is_bare_upgrade b q) (IsBareUpgrade b q)
  decides_bare q = turned
      (decides_empty q.ros also decides_empty q.writes also decides_empty q.fresh also decides_answer q.answer
      also decides_all (λ n. decides_true (takes_part b.repo q n)) (range_with_len 0 b.repos))
      (λ p. record { reads = p.0.0.0.0; writes = p.0.0.0.1; creates = p.0.0.1; answers = p.0.1; wide = p.1 })
      (λ h. ((((h.reads, h.writes), h.creates), h.answers), h.wide))

  decides_vouched : (S : State) (q : Request) → Decides (is_vouched b S q) (Vouches b S q)
  decides_vouched S q = turned
      (decides_form q also decides_lt 0 S.length also decides_none (known_in b S q.tx) also decides_none (get b.left q.tx)
      also decides_if _ _ (decides_eq q.tx.repo b.repo) (decides_eq q.tx.life S.life)
      also decides_participants q
      also decides_written (has_read q) (λ x. IsTrue (has_read q x)) q (λ x. decides_true (has_read q x))
      also decides_each (λ x. nat_eq x.repo b.repo) (λ x. x.repo ≡ b.repo) q.ros (λ x. decides_eq x.repo b.repo)
      also decides_all (λ w. decides_eq w.1.ver q.epoch) q.writes
      also decides_if _ _ (decides_true (is_upgrade q)) (decides_bare q))
      (λ p. record {
        formed = p.0.0.0.0.0.0.0.0.0;
        begun = p.0.0.0.0.0.0.0.0.1;
        once = p.0.0.0.0.0.0.0.1;
        unleft = p.0.0.0.0.0.0.1;
        alive = p.0.0.0.0.0.1;
        participants = p.0.0.0.0.1;
        within = p.0.0.0.1;
        here = p.0.0.1;
        versions = p.0.1;
        upgrades = p.1;
      })
      (λ v. (((((((((v.formed, v.begun), v.once), v.unleft), v.alive), v.participants), v.within), v.here), v.versions), v.upgrades))

  decides_admitted : (S : State) (q : Request) → IsSorted S.known → Decides (is_admitted b S q) (Admits b S q)
  decides_admitted S q sorted = turned
      (decides_vouched S q also decides_eq q.epoch (epoch_of S) also decides_less (ts_cmp b.top q.tx) also decides_known S (is_accepted q) (Accepts q) sorted (λ t o. decides_accepted q t o)
      also decides_lt (len (undecided_in b S)) room_for)
      (λ p. record { vouched = p.0.0.0.0; current = p.0.0.0.1; above = p.0.0.1; accepted = p.0.1; room = p.1 })
      (λ h. ((((h.vouched, h.current), h.above), h.accepted), h.room))

  decides_alone : (q : Request) → Decides (is_alone b q) (IsAlone b q)
  decides_alone q = decides_empty q.others also decides_eq q.tx.repo b.repo

  flat : {A B C : Type 0} → (A × B) × C → A × B × C
  flat p = (p.0.0, p.0.1, p.1)

  nested : {A B C : Type 0} → A × B × C → (A × B) × C
  nested p = ((p.0, p.1), p.2)

  decides_settles : (c : Bool) (o : Option LeftOver) → Decides (settles_so c o) (IsSomeAnd o (λ l. l.commits ≡ c))
  decides_settles c None = ((λ e. cc), (λ h. absurd h))
  decides_settles true (Some l) = ((λ e. e), (λ e. e))
  decides_settles false (Some l) = decides_false l.commits

  decides_owed : (S : State) (e : Entry) → IsSorted S.known → Decides (is_owed b S e) (owes b S e)
  decides_owed S (Life n) sorted = decides_eq n (S.life + 1)
  decides_owed S (One q) sorted = turned (decides_admitted S q sorted also decides_alone q also decides_false (is_upgrade q)) flat nested
  decides_owed S (Prepared q) sorted = decides_admitted S q sorted also decides_not _ (decides_empty q.others)
  decides_owed S (Decided t c) sorted = decides_true (is_undecided (known_in b S t)) also decides_eq t.repo b.repo
  decides_owed S (Finished t c) sorted = decides_or _ _
      (decides_true (is_undecided (known_in b S t)) also decides_not _ (decides_eq t.repo b.repo))
      (decides_lt 0 S.length also decides_settles c (get S.left t))
  decides_owed S (Upgraded q) sorted = turned (decides_admitted S q sorted also decides_alone q also decides_true (is_upgrade q)) flat nested

  sorted_settle : (S : State) (t : Ts) (c : Bool) → IsSorted S.known → IsSorted (settle S t c (known_in b S t)).known
  sorted_settle S t c sorted = by_settling b (λ T. IsSorted T.known) S t c (known_in b S t) sorted
      (λ p is at_first k. IsSorted-insert ts_total S.known t (record { place = p.place; request = p.request; fate = Committed S.length }) sorted)
      (λ p is at_first. IsSorted-insert ts_total S.known t (record p { fate = Aborted }) sorted)

  sorted_put : (S : State) (e : Entry) → IsSorted S.known → IsSorted (put b S e).known
  sorted_put S (Life n) sorted = sorted
  sorted_put S (One q) sorted = IsSorted-insert ts_total S.known q.tx _ sorted
  sorted_put S (Prepared q) sorted = IsSorted-insert ts_total S.known q.tx _ sorted
  sorted_put S (Decided t c) sorted = sorted_settle S t c sorted
  sorted_put S (Finished t c) sorted = sorted_settle S t c sorted
  sorted_put S (Upgraded q) sorted = IsSorted-insert ts_total S.known q.tx _ sorted

  decides_kept : (S : State) (H : List Entry) → IsSorted S.known → Decides (is_kept_by b S H) (kept_by b S H)
  decides_kept S [] sorted = ((λ e. tt), (λ e. refl))
  decides_kept S (e ∷ H) sorted = decides_owed S e sorted also decides_kept (put b S e) H (sorted_put S e sorted)

  sorted_start : IsSorted (start b).known
  unfolding IsStrictlySortedBy
  sorted_start = tt

  sorted_on : (S : State) (H : List Entry) → IsSorted S.known → IsSorted (fold (put b) S H).known
  sorted_on S [] sorted = sorted
  sorted_on S (e ∷ H) sorted = sorted_on (put b S e) H (sorted_put S e sorted)

  -- what is known is in order
  pub sorted_state : (H : List Entry) → IsSorted (state b H).known
  sorted_state H = sorted_on (start b) H sorted_start

  pub decides_sound : (H : List Entry) → Decides (is_sound b H) (sound b H)
  decides_sound H = decides_kept (start b) H sorted_start
