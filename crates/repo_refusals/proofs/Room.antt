-- How many members a window has, and how many transactions are undecided.
use Rattle.log_entries.specs.declared.entry.Entry.TheVariants.{Decided, Finished, Life, One, Prepared, Upgraded}
use Rattle.log_entries.specs.declared.entry.Entry.{Entry}
use Rattle.log_entries.specs.declared.request.Request.{Request}
use Rattle.repo_refusals.proofs.Covered.{Held, found_first, held, window-end}
use Rattle.spec_history.proofs.Decided.{sorted_state}
use Rattle.spec_history.proofs.Growth.{by_growth, sound-end}
use Rattle.repo_refusals.proofs.Validated.{unless_some}
use Rattle.repo_refusals.specs.Covers.{MemberFits, HasRoom}
use Rattle.spec_history.specs.History.{Aborted, Base, Committed, Fate, Open, Known, State, is_open, is_undecided, or_lost, put, known_in, state, undecided_in}
use Rattle.spec_history.specs.Requests.{is_upgrade}
use Rattle.spec_history.specs.Sound.{owes, sound}
use Rattle.repo_refusals.specs.Refusals.{full_of_undecided}
use Rattle.repo_refusals.specs.Window.{Member, Window, cleared, close, close_by, enter, first_decided, slide, window, with_room, without}
use Rattle.base_reasons.specs.declared.reason.Reason.TheVariants as reasons
use Rattle.repo_refusals.specs.declared.refusal.Refusal.TheVariants as refused
use Rattle.std.proofs.Common.{List, [], ap, arith, cond, length, refl, subst, sym, ◌+◌, ◌++◌, ◌<◌, ◌≡◌, ◌≤◌, ◌∙◌, ◌∷◌}
use Rattle.std.proofs.lemmas.Bool.{leb-false, leb-true}
use Rattle.std.proofs.lemmas.Cmp.{eq_by_cmp_equiv}
use Rattle.std.proofs.lemmas.Map.Entries.{length-keys_of}
use Rattle.std.proofs.lemmas.Map.Keys.{IsDistinct-from_sorted}
use Rattle.std.proofs.lemmas.Map.Made.{is_some-lookup, length-le_from_is_member}
use Rattle.std.proofs.lemmas.Map.Views.{lookup-from_Contains, tells_apart}
use Rattle.std.proofs.lemmas.Option.{same_Some}
use Rattle.std.specs.BTreeMap.{is_at}
use Rattle.std.specs.List.{list_any}
use Rattle.std.specs.Map.{keys_of, lookup, remove_entry}
use Rattle.std.specs.Option.{is_none, option_map}
use Rattle.std.specs.Ordering.{eq_by_cmp}
use Rattle.std.specs.Prelude.{Bool, None, Option, Some, false, is_some, nat_le, not, true, ◌&&◌, ◌||◌}
use Rattle.thor_value.proofs.FiniteMap.{IsSorted-keep, get-insert, get-keep, get-remove}
use Rattle.thor_value.proofs.NameOrders.{ts_exact, ts_total}
use Rattle.thor_value.specs.FiniteMap.{IsSorted, Map, get, has, insert, keep, len, remove}
use Rattle.thor_value.specs.Names.{ts_cmp}
use Rattle.thor_value.specs.declared.names.Ts.{Ts}
use Rattle.validation_queue.specs.Contents.{room_for}

-- ---- maps by how many keys they have

-- a key of a map is among its keys, and the other way round
among : {X : Type 0} (m : Map ts_cmp X) (t : Ts) → list_any (eq_by_cmp ts_cmp t) (keys_of m.pairs) ≡ has m t
among m t = sym (is_some-lookup (is_at (ts_cmp t)) m.pairs)

-- a map whose keys are among some keys has no more than those
len_among : {X : Type 0} (m : Map ts_cmp X) (ks : List Ts) → IsSorted m → ((t : Ts) → has m t ≡ true → list_any (eq_by_cmp ts_cmp t) ks ≡ true) → len m ≤ length ks
len_among m ks sorted f =
    let l : length (keys_of m.pairs) ≤ length ks = length-le_from_is_member (eq_by_cmp_equiv ts_total) (keys_of m.pairs) ks (IsDistinct-from_sorted ts_cmp (keys_of m.pairs) sorted) (λ t h. f t (sym (among m t) ∙ h)) in
    let e : length (keys_of m.pairs) ≡ len m = length-keys_of m.pairs in
    omega arith

len_within : {X Y : Type 0} (m : Map ts_cmp X) (n : Map ts_cmp Y) → IsSorted m → ((t : Ts) → has m t ≡ true → has n t ≡ true) → len m ≤ len n
len_within m n sorted f =
    let l : len m ≤ length (keys_of n.pairs) = len_among m (keys_of n.pairs) sorted (λ t h. among n t ∙ f t h) in
    let e : length (keys_of n.pairs) ≡ len n = length-keys_of n.pairs in
    omega arith

len_removed : {X : Type 0} (test : Ts → Bool) (es : List (Ts × X)) → is_some (lookup test es) ≡ true → length (remove_entry test es) + 1 ≡ length es
len_removed test [] h = cc
len_removed test (e ∷ es) h = by (test e.0) h (len_removed test es)
  where
    by : (x : Bool) → is_some (cond x (Some e.1) (lookup test es)) ≡ true → (is_some (lookup test es) ≡ true → length (remove_entry test es) + 1 ≡ length es) → length (cond x es (e ∷ remove_entry test es)) + 1 ≡ length (e ∷ es)
    by true k rest = omega arith
    by false k rest = let r = rest k in omega arith

-- one more key at most
len_inserted : {X : Type 0} (m : Map ts_cmp X) (k : Ts) (v : X) → IsSorted (insert m k v) → len (insert m k v) ≤ len m + 1
len_inserted m k v sorted =
    let l : len (insert m k v) ≤ length (k ∷ keys_of m.pairs) = len_among (insert m k v) (k ∷ keys_of m.pairs) sorted (λ t h. there t (eq_by_cmp ts_cmp t k) refl (subst (λ o. is_some o ≡ true) (get-insert ts_total m k v t) h)) in
    let e : length (keys_of m.pairs) ≡ len m = length-keys_of m.pairs in
    omega arith
  where
    there : (t : Ts) (x : Bool) → eq_by_cmp ts_cmp t k ≡ x → is_some (cond (eq_by_cmp ts_cmp t k) (Some v) (get m t)) ≡ true → (eq_by_cmp ts_cmp t k || list_any (eq_by_cmp ts_cmp t) (keys_of m.pairs)) ≡ true
    there t true e h = ap (λ y. y || list_any (eq_by_cmp ts_cmp t) (keys_of m.pairs)) e
    there t false e h = ap (λ y. y || list_any (eq_by_cmp ts_cmp t) (keys_of m.pairs)) e ∙ among m t ∙ sym (ap (λ y. is_some (cond y (Some v) (get m t))) e) ∙ h

-- ---- the undecided members

waits : Option Member → Bool
waits None = false
waits (Some m) = not m.decided

waiting : Window → Map ts_cmp Member
waiting W = keep W.members (λ t. waits (get W.members t))

has_kept : {X : Type 0} (m : Map ts_cmp X) (test : Ts → Bool) (t : Ts) → has (keep m test) t ≡ cond (test t) (has m t) false
has_kept m test t = ap is_some (get-keep ts_cmp ts_exact m test t) ∙ by (test t)
  where
    by : (x : Bool) → is_some (cond x (get m t) None) ≡ cond x (is_some (get m t)) false
    by true = refl
    by false = refl

both_true : (x y : Bool) → cond x y false ≡ true → (x ≡ true) × (y ≡ true)
both_true true y h = (refl, h)
both_true false y h = cc

open_waits : (d : Bool) (f : Fate) → f ≡ Open → MemberFits d f → not d ≡ true
open_waits true Open e a = absurd a
open_waits true (Committed at) e a = cc
open_waits true Aborted e a = cc
open_waits false f e a = refl

waits_open : (d : Bool) (f : Fate) → not d ≡ true → MemberFits d f → is_open f ≡ true
waits_open true f e a = cc
waits_open false Open e a = refl
waits_open false (Committed at) e a = absurd a
waits_open false Aborted e a = absurd a

undecided_there : (k : Option Known) → is_undecided k ≡ true → (o : Known) × (k ≡ Some o) × (o.fate ≡ Open)
undecided_there None h = cc
undecided_there (Some o) h = (o, refl, by o.fate h)
  where
    by : (f : Fate) → is_open f ≡ true → f ≡ Open
    by Open e = refl
    by (Committed at) e = cc
    by Aborted e = cc

waits_there : (k : Option Member) → waits k ≡ true → (m : Member) × (k ≡ Some m) × (not m.decided ≡ true)
unfolding waits
waits_there None h = cc
waits_there (Some m) h = (m, refl, h)

-- a member that may leave leaves one less
none_first : (es : List (Ts × Member)) (t : Ts) (m : Member) → first_decided es ≡ None → lookup (is_at (ts_cmp t)) es ≡ Some m → not m.decided ≡ true
none_first [] t m h is = cc
none_first (e ∷ es) t m h is = by e.1.decided refl h (none_first es t m)
  where
    at : (x : Bool) → not e.1.decided ≡ true → (lookup (is_at (ts_cmp t)) es ≡ Some m → not m.decided ≡ true) → cond x (Some e.1) (lookup (is_at (ts_cmp t)) es) ≡ Some m → not m.decided ≡ true
    at true d rest k = let one : e.1 ≡ m = same_Some e.1 m k in subst (λ (n : Member). not n.decided ≡ true) one d
    at false d rest k = rest k

    by : (d : Bool) → e.1.decided ≡ d → cond d (Some e.0) (first_decided es) ≡ None → (first_decided es ≡ None → lookup (is_at (ts_cmp t)) es ≡ Some m → not m.decided ≡ true) → not m.decided ≡ true
    by true d k rest = cc
    by false d k rest = at (is_at (ts_cmp t) e.0) (ap not d) (rest k) is

module _ (b : Base) (S : State) (W : Window) (top : Ts) (h : Held (known_in b S) top W) (sorted : IsSorted S.known) where
  waiting_sorted : IsSorted (waiting W)
  unfolding waiting
  waiting_sorted = IsSorted-keep ts_cmp W.members (λ t. waits (get W.members t)) h.sorted

  has_waiting : (t : Ts) → has (waiting W) t ≡ true → (waits (get W.members t) ≡ true) × (has W.members t ≡ true)
  unfolding waiting
  has_waiting t k = both_true (waits (get W.members t)) (has W.members t) (sym (has_kept W.members (λ u. waits (get W.members u)) t) ∙ k)

  undecided_waits : (t : Ts) → has (undecided_in b S) t ≡ true → has (waiting W) t ≡ true
  unfolding waiting waits
  undecided_waits t k =
      let p = both_true (is_undecided (known_in b S t)) (has S.known t) (sym (has_kept S.known (λ u. is_undecided (known_in b S u)) t) ∙ k) in
      let o = undecided_there (known_in b S t) p.0 in
      let m = h.opens t o.0 o.1 o.2 in
      let s = h.members t m.0 m.1 in
      let one : s.0 ≡ o.0 = same_Some s.0 o.0 (sym s.1 ∙ o.1) in
      let agrees : MemberFits m.0.decided o.0.fate = subst (λ (v : Known). MemberFits m.0.decided v.fate) one s.3 in
      has_kept W.members (λ u. waits (get W.members u)) t
      ∙ ap (λ x. cond (waits x) (is_some x) false) m.1
      ∙ ap (λ x. cond x true false) (open_waits m.0.decided o.0.fate o.2 agrees)

  waiting_undecided : (t : Ts) → has (waiting W) t ≡ true → has (undecided_in b S) t ≡ true
  waiting_undecided t k =
      let m = waits_there (get W.members t) (has_waiting t k).0 in
      let s = h.members t m.0 m.1 in
      let open' : is_undecided (known_in b S t) ≡ true = ap is_undecided s.1 ∙ waits_open m.0.decided s.0.fate m.2 s.3 in
      has_kept S.known (λ u. is_undecided (known_in b S u)) t
      ∙ ap (λ x. cond x (has S.known t) false) open'
      ∙ known (get S.known t) s.0 s.1
    where
      known : (k : Option Known) (v : Known) → option_map (or_lost b S t) k ≡ Some v → is_some k ≡ true
      known None v e = cc
      known (Some p) v e = refl

  fewer : len (undecided_in b S) ≤ len (waiting W)
  fewer = len_within (undecided_in b S) (waiting W) (IsSorted-keep ts_cmp S.known (λ t. is_undecided (known_in b S t)) sorted) undecided_waits

  waiting_fewer : len (waiting W) ≤ len (undecided_in b S)
  waiting_fewer = len_within (waiting W) (undecided_in b S) waiting_sorted waiting_undecided

  waiting_within : len (waiting W) ≤ len W.members
  waiting_within = len_within (waiting W) W.members waiting_sorted (λ t k. (has_waiting t k).1)

  -- where one may leave, the undecided ones are fewer than the members
  waiting_less : (u : Ts) → first_decided W.members.pairs ≡ Some u → len (waiting W) + 1 ≤ len W.members
  waiting_less u e =
      let f = found_first W.members.pairs u e in
      let here : get W.members u ≡ Some f.0 = lookup-from_Contains (eq_by_cmp_equiv ts_total) u f.0 W.members.pairs (IsDistinct-from_sorted ts_cmp (keys_of W.members.pairs) h.sorted) f.1 in
      let one : len (remove W.members u) + 1 ≡ len W.members = len_removed (is_at (ts_cmp u)) W.members.pairs (ap is_some here) in
      let l : len (waiting W) ≤ len (remove W.members u) = len_within (waiting W) (remove W.members u) waiting_sorted (λ t k. still f.0 here f.2 t k (eq_by_cmp ts_cmp u t) refl) in
      omega arith
    where
      still : (m : Member) → get W.members u ≡ Some m → m.decided ≡ true → (t : Ts) → has (waiting W) t ≡ true → (x : Bool) → eq_by_cmp ts_cmp u t ≡ x → has (remove W.members u) t ≡ true
      still m here d t k true same =
          let n = waits_there (get W.members t) (has_waiting t k).0 in
          let at : get W.members t ≡ Some m = subst (λ v. get W.members v ≡ Some m) (tells_apart ts_exact u t same) here in
          let one : n.0 ≡ m = same_Some n.0 m (sym n.1 ∙ at) in
          let no : not n.0.decided ≡ false = ap (λ (v : Member). not v.decided) one ∙ ap not d in
          let yes : not n.0.decided ≡ true = n.2 in
          cc
      still m here d t k false other = ap is_some (get-remove ts_total W.members u t h.sorted ∙ ap (λ x. cond x None (get W.members t)) other) ∙ (has_waiting t k).1

  -- where none may leave, all members are undecided
  all_wait : first_decided W.members.pairs ≡ None → len W.members ≤ len (waiting W)
  unfolding waiting waits
  all_wait none = len_within W.members (waiting W) h.sorted (λ t k.
      let m = there (get W.members t) k in
      has_kept W.members (λ u. waits (get W.members u)) t
      ∙ ap (λ x. cond (waits x) (is_some x) false) m.1
      ∙ ap (λ x. cond x true false) (none_first W.members.pairs t m.0 none m.1))
    where
      there : (o : Option Member) → is_some o ≡ true → (m : Member) × (o ≡ Some m)
      there None e = cc
      there (Some m) e = (m, refl)

  -- the window makes room for one more
  room_made : len (undecided_in b S) < room_for → len W.members ≤ room_for → len (with_room W).members < room_for
  room_made few l = by (nat_le room_for (len W.members)) refl
    where
      by_first : (o : Option Ts) → first_decided W.members.pairs ≡ o → room_for ≤ len W.members → len (without W o).members < room_for
      by_first None e full = let all = all_wait e in let f = waiting_fewer in absurd (omega arith)
      by_first (Some u) e full =
          let f = found_first W.members.pairs u e in
          let here : get W.members u ≡ Some f.0 = lookup-from_Contains (eq_by_cmp_equiv ts_total) u f.0 W.members.pairs (IsDistinct-from_sorted ts_cmp (keys_of W.members.pairs) h.sorted) f.1 in
          let one : len (remove W.members u) + 1 ≡ len W.members = len_removed (is_at (ts_cmp u)) W.members.pairs (ap is_some here) in
          omega arith

      by : (x : Bool) → nat_le room_for (len W.members) ≡ x → len (without W (cond x (first_decided W.members.pairs) None)).members < room_for
      by true e = by_first (first_decided W.members.pairs) refl (leb-true room_for (len W.members) e)
      by false e = leb-false room_for (len W.members) e

  -- where the window isn't full of undecided ones, they are fewer than it holds
  room_found : full_of_undecided W ≡ None → len W.members ≤ room_for → len (undecided_in b S) < room_for
  room_found e l = by (nat_le room_for (len W.members)) refl (unless_some _ (refused.Reason (reasons.Full room_for)) e)
    where
      by_first : (o : Option Ts) → first_decided W.members.pairs ≡ o → is_none o ≡ false → len (undecided_in b S) < room_for
      by_first None k f = cc
      by_first (Some u) k f = let less = waiting_less u k in let few = fewer in omega arith

      by : (x : Bool) → nat_le room_for (len W.members) ≡ x → (nat_le room_for (len W.members) && is_none (first_decided W.members.pairs)) ≡ false → len (undecided_in b S) < room_for
      by true k f = by_first (first_decided W.members.pairs) refl (ap (λ x. x && is_none (first_decided W.members.pairs)) (sym k) ∙ f)
      by false k f = let short = leb-false room_for (len W.members) k in let few = fewer in let within = waiting_within in omega arith

  -- ---- one more entry

  closed_fits : (t : Ts) (c : Bool) (o : Known) → known_in b S t ≡ Some o → IsSorted (close_by W t c o o.fate).members → len W.members ≤ room_for → len (close_by W t c o o.fate).members ≤ room_for
  closed_fits t c o is sorted' l = by o.fate refl c sorted'
    where
      member : o.fate ≡ Open → has W.members t ≡ true
      member e = let m = h.opens t o is e in ap is_some m.1

      again : o.fate ≡ Open → (v : Member) → IsSorted (insert W.members t v) → len (insert W.members t v) ≤ room_for
      again e v s = let k : len (insert W.members t v) ≤ len W.members = len_within (insert W.members t v) W.members s (λ u g. there u (eq_by_cmp ts_cmp u t) refl (sym (ap is_some (get-insert ts_total W.members t v u)) ∙ g)) in omega arith
        where
          there : (u : Ts) (x : Bool) → eq_by_cmp ts_cmp u t ≡ x → is_some (cond (eq_by_cmp ts_cmp u t) (Some v) (get W.members u)) ≡ true → has W.members u ≡ true
          there u true k g = subst (λ w. has W.members w ≡ true) (sym (tells_apart ts_exact u t k)) (member e)
          there u false k g = sym (ap (λ x. is_some (cond x (Some v) (get W.members u))) k) ∙ g

      gone : IsSorted (remove W.members t) → len (remove W.members t) ≤ room_for
      gone s = let k : len (remove W.members t) ≤ len W.members = len_within (remove W.members t) W.members s (λ u g. there u (eq_by_cmp ts_cmp t u) (sym (ap is_some (get-remove ts_total W.members t u h.sorted)) ∙ g)) in omega arith
        where
          there : (u : Ts) (x : Bool) → is_some (cond x None (get W.members u)) ≡ true → has W.members u ≡ true
          there u true g = cc
          there u false g = g

      decided : o.fate ≡ Open → (x : Bool) → IsSorted (cond x (cleared t) (record { threshold = W.threshold; members = insert W.members t (record { decided = true; request = o.request }) })).members
          → len (cond x (cleared t) (record { threshold = W.threshold; members = insert W.members t (record { decided = true; request = o.request }) })).members ≤ room_for
      decided e true s = omega arith
      decided e false s = again e (record { decided = true; request = o.request }) s

      by : (f : Fate) → o.fate ≡ f → (d : Bool) → IsSorted (close_by W t d o f).members → len (close_by W t d o f).members ≤ room_for
      by Open e true s = decided e (is_upgrade o.request) s
      by Open e false s = gone s
      by (Committed at) e d s = l
      by Aborted e d s = l

  close_fits : (t : Ts) (c : Bool) → (o : Option Known) → known_in b S t ≡ o → IsSorted (close W t c o).members → len W.members ≤ room_for → len (close W t c o).members ≤ room_for
  close_fits t c None is s l = l
  close_fits t c (Some o) is s l = closed_fits t c o is s l

  entered_fits : (q : Request) (d : Bool) → len (undecided_in b S) < room_for → IsSorted (enter W q d).members → len W.members ≤ room_for → len (enter W q d).members ≤ room_for
  entered_fits q d few s l =
      let r = room_made few l in
      let k = len_inserted (with_room W).members q.tx (record { decided = d; request = q }) s in
      omega arith

  slide_fits : (e : Entry) → owes b S e → IsSorted (slide b S W e).members → len W.members ≤ room_for → len (slide b S W e).members ≤ room_for
  slide_fits (Life n) ow s l =
      let test = λ (t : Ts). is_undecided (known_in b (put b S (Life n)) t) in
      let k : len (keep W.members test) ≤ len W.members = len_within (keep W.members test) W.members s (λ t g. (both_true (test t) (has W.members t) (sym (has_kept W.members test t) ∙ g)).1) in
      omega arith
  slide_fits (One q) ow s l = entered_fits q true ow.0.room s l
  slide_fits (Prepared q) ow s l = entered_fits q false ow.0.room s l
  slide_fits (Decided t c) ow s l = close_fits t c (known_in b S t) refl s l
  slide_fits (Finished t c) ow s l = close_fits t c (known_in b S t) refl s l
  slide_fits (Upgraded q) ow s l = omega arith

-- ---- histories

module _ (b : Base) where
  members_fit : (H : List Entry) → sound b H → len (window b H).members ≤ room_for
  members_fit = by_growth b (λ H. len (window b H).members ≤ room_for) (omega arith)
      (λ H e sd ih ow.
      let s : IsSorted (slide b (state b H) (window b H) e).members = subst (λ (W : Window). IsSorted W.members) (window-end b H e) (held b (H ++ e ∷ []) (sound-end b H e sd ow)).sorted in
      subst (λ (W : Window). len W.members ≤ room_for) (sym (window-end b H e))
      (slide_fits b (state b H) (window b H) (state b H).top (held b H sd) (sorted_state b H) e ow s ih))

  pub has_room : (H : List Entry) → sound b H → HasRoom b H
  has_room H sd =
      let W : Window = window b H in
      let l = members_fit H sd in
      let few = fewer b (state b H) W (state b H).top (held b H sd) (sorted_state b H) in
      let within = waiting_within b (state b H) W (state b H).top (held b H sd) (sorted_state b H) in
      record { undecided = omega arith; members = l }

  -- a request that the window has room for finds fewer undecided ones than it holds
  pub room_left : (H : List Entry) → sound b H → full_of_undecided (window b H) ≡ None → len (undecided_in b (state b H)) < room_for
  room_left H sd e = room_found b (state b H) (window b H) (state b H).top (held b H sd) (sorted_state b H) e (members_fit H sd)
