-- A queue with the window's members answers as the verdict does.
use Rattle.log_entries.specs.declared.request.Request.{Request}
use Rattle.spec_history.proofs.Decided.{written_keys}
use Rattle.spec_history.proofs.Meeting.{or_second}
use Rattle.repo_refusals.proofs.Queued.{first-on, len-queue, on}
use Rattle.repo_refusals.proofs.Validated.{neither, nothing_holds, unmapped}
use Rattle.spec_history.specs.History.{Base, State}
use Rattle.repo_refusals.specs.Queue.{TellsInOrder, old_of, queue_of, queued_of, refusal_by, transaction_of}
use Rattle.spec_history.specs.Requests.{has_read, has_written, is_upgrade, written}
use Rattle.repo_refusals.specs.Refusals.{bar, other_epoch, blocks, comes_earlier, comes_later, first_refusal, full, full_of_undecided, full_of_writes, least_name, names_of, passing, reads_from, set_of, too_old, writes_over}
use Rattle.repo_refusals.specs.Window.{Member, Window, first_decided}
use Rattle.base_reasons.specs.declared.reason.Reason.TheVariants as reasons
use Rattle.repo_refusals.specs.declared.refusal.Refusal.TheVariants as refused
use Rattle.repo_refusals.specs.declared.refusal.Refusal.{Refusal}
use Rattle.std.proofs.Common.{List, [], ap, cond, refl, subst, sym, ◌++◌, ◌≡◌, ◌∙◌, ◌∷◌}
use Rattle.std.proofs.lemmas.Cmp.{tied_itself}
use Rattle.std.proofs.lemmas.List.Folds.{list_any-append}
use Rattle.std.proofs.lemmas.Map.Made.{is_some-lookup, keys_of-map_values}
use Rattle.std.specs.BTreeMap.{is_at}
use Rattle.std.specs.List.Sorted.{IsStrictlySortedBy}
use Rattle.std.specs.List.{fold}
use Rattle.std.specs.Map.{keys_of}
use Rattle.std.specs.Option.{is_none, option_and_then, option_map, option_or}
use Rattle.std.specs.Ordering.{eq_by_cmp, is_eq}
use Rattle.std.specs.Prelude.{Bool, None, Option, Some, false, find, is_some, map, nat_le, not, true, ◌&&◌, ◌||◌}
use Rattle.thor_value.proofs.FiniteMap.{IsSorted-insert, get-insert, same_map}
use Rattle.thor_value.proofs.NameOrders.{oref_exact, oref_total}
use Rattle.thor_value.specs.FiniteMap.{IsSorted, Map, Set, empty, get, has, insert, keys, len, overwrite}
use Rattle.thor_value.specs.Names.{later_of, oref_cmp, same_oref}
use Rattle.thor_value.specs.declared.names.Oref.{Oref}
use Rattle.thor_value.specs.declared.names.Ts.{Ts}
use Rattle.validation_queue.specs.Clashes as queue
use Rattle.validation_queue.specs.Clashes.{clash, first_some, is_before, meets_at}
use Rattle.validation_queue.specs.Contents.{first_blocking, is_blocking, room_for}
use Rattle.validation_queue.specs.Names.{Rises, is_among}
use Rattle.base_reasons.specs.declared.reason.Reason.{Reason}
use Rattle.validation_queue.specs.declared.member.Member as queued

-- ---- tests

or_false : (x : Bool) → (x || false) ≡ x
or_false true = refl
or_false false = refl

turned : (x y z : Bool) → (x || (y || z)) ≡ ((y || x) || z)
turned true true z = refl
turned true false z = refl
turned false true z = refl
turned false false z = refl

covered : (x y : Bool) → (y ≡ true → x ≡ true) → (x || y) ≡ x
covered true y h = refl
covered false true h = let e : false ≡ true = h refl in cc
covered false false h = refl

pub itself : (x : Oref) → same_oref x x ≡ true
itself x = ap is_eq (tied_itself oref_total x)

-- ---- names

-- a name that is put in, or was there
put_all : {X : Type 0} (x : Oref) (m : Map oref_cmp X) (es : List (Oref × X)) → has (overwrite m es) x ≡ (is_among (keys_of es) x || has m x)
put_all x m [] = refl
put_all {X} x m (e ∷ es) =
    put_all x (insert m e.0 e.1) es
    ∙ ap (λ o. is_among (keys_of es) x || is_some o) (get-insert oref_total m e.0 e.1 x)
    ∙ ap (λ z. is_among (keys_of es) x || z) (either (eq_by_cmp oref_cmp x e.0))
    ∙ turned (is_among (keys_of es) x) (same_oref x e.0) (has m x)
  where
    either : (k : Bool) → is_some (cond k (Some e.1) (get m x)) ≡ (k || has m x)
    either true = refl
    either false = refl

made : {X : Type 0} (x : Oref) (es : List (Oref × X)) → has (overwrite (empty {R = oref_cmp}) es) x ≡ is_among (keys_of es) x
made x es = put_all x empty es ∙ or_false (is_among (keys_of es) x)

written_among : (q : Request) (x : Oref) → has_written q x ≡ is_among (keys_of q.writes) x
written_among q x = made x q.writes

abbrev units : List Oref → List (Oref × Unit {0})
units names = map (λ x. (x, tt)) names

keys-units : (names : List Oref) → keys_of (units names) ≡ names
keys-units [] = refl
keys-units (x ∷ xs) = ap (λ ys. x ∷ ys) (keys-units xs)

sorted_all : {X : Type 0} (m : Map oref_cmp X) (es : List (Oref × X)) → IsSorted m → IsSorted (overwrite m es)
sorted_all m [] h = h
sorted_all m (e ∷ es) h = sorted_all (insert m e.0 e.1) es (IsSorted-insert oref_total m e.0 e.1 h)

none_sorted : IsSorted {R = oref_cmp} (empty {X = Unit {0}})
unfolding IsStrictlySortedBy
none_sorted = tt

pub in_set : (names : List Oref) (x : Oref) → has (set_of names) x ≡ is_among names x
in_set names x = made x (units names) ∙ ap (λ ys. is_among ys x) (keys-units names)

abbrev rising : List Oref → Set oref_cmp
rising names = record { pairs = units names }

in_rising : (names : List Oref) (x : Oref) → has (rising names) x ≡ is_among names x
in_rising names x = is_some-lookup (is_at (oref_cmp x)) (units names) ∙ ap (λ ys. is_among ys x) (keys-units names)

one_unit : (o p : Option (Unit {0})) → is_some o ≡ is_some p → o ≡ p
one_unit None None h = refl
one_unit None (Some x) h = cc
one_unit (Some x) None h = cc
one_unit (Some x) (Some y) h = refl

-- the set of some names has the names of a list that rises and has the same names
set_rises : (names ros : List Oref) → Rises ros → ((x : Oref) → is_among names x ≡ is_among ros x) → keys (set_of names) ≡ ros
set_rises names ros rise same =
    let sorted : IsSorted (rising ros) = subst (IsStrictlySortedBy oref_cmp) (sym (keys-units ros)) rise in
    let one : set_of names ≡ rising ros = same_map oref_total oref_exact _ _ (sorted_all empty (units names) none_sorted) sorted
    (λ x. one_unit (get (set_of names) x) (get (rising ros) x) (in_set names x ∙ same x ∙ sym (in_rising ros x))) in
    ap keys one ∙ keys-units ros

pub names_read : (ros : List Oref) → Rises ros → keys (set_of ros) ≡ ros
names_read ros rise = set_rises ros ros rise (λ x. refl)

names_in_order : (q : Request) → TellsInOrder q → keys (names_of q) ≡ q.ros
names_in_order q h = set_rises (q.ros ++ keys (written q)) q.ros h.reads_rise
    (λ x. list_any-append (same_oref x) q.ros (keys (written q))
    ∙ covered (is_among q.ros x) (is_among (keys (written q)) x) (λ w. h.within x (sym (written_among q x) ∙ sym (written_keys q x) ∙ w)))

-- ---- the least name

or_next : (b : Bool) (x : Oref) (o : Option Oref) → option_or (cond b (Some x) None) o ≡ cond b (Some x) o
or_next true x o = refl
or_next false x o = refl

-- two tests that agree on the names find the same one
found_alike : (f g : Oref → Bool) (xs : List Oref) → ((x : Oref) → is_among xs x ≡ true → f x ≡ g x) → first_some (passing f) xs ≡ find g xs
found_alike f g [] same = refl
found_alike f g (y ∷ ys) same =
    or_next (f y) y (first_some (passing f) ys)
    ∙ ap (λ b. cond b (Some y) (first_some (passing f) ys)) (same y (ap (λ k. k || is_among ys y) (itself y)))
    ∙ ap (cond (g y) (Some y)) (found_alike f g ys (λ x m. same x (or_second (same_oref x y) (is_among ys x) m)))

least_alike : (q : Request) → TellsInOrder q → (f g : Oref → Bool) → ((x : Oref) → has_read q x ≡ true → f x ≡ g x) → least_name q f ≡ find g q.ros
least_alike q h f g same = ap (first_some (passing f)) (names_in_order q h) ∙ found_alike f g q.ros same

-- ---- answers

mapped_or : {A B : Type 0} (f : A → B) (a c : Option A) → option_map f (option_or a c) ≡ option_or (option_map f a) (option_map f c)
mapped_or f None c = refl
mapped_or f (Some x) c = refl

module _ (r : Reason → Refusal) (f : Ts × queued.Member → Option Reason) (g : Ts × Member → Option Refusal) (each : (e : Ts × Member) → option_map r (f (e.0, queued_of e.1)) ≡ g e) where
  firsts_alike : (es : List (Ts × Member)) → option_map r (first_some f (on queued_of es)) ≡ first_some g es
  firsts_alike [] = refl
  firsts_alike (e ∷ es) = mapped_or r (f (e.0, queued_of e.1)) (first_some f (on queued_of es)) ∙ ap (λ o. option_or o (option_map r (first_some f (on queued_of es)))) (each e) ∙ ap (option_or (g e)) (firsts_alike es)

-- ---- each check

pub blocks_alike : (W : Window) (q : Request) → first_some (blocks q) W.members.pairs ≡ option_map (λ t. refused.Reason (reasons.Blocked t)) (first_blocking (queue_of W) (is_upgrade q))
blocks_alike W q = over W.members.pairs
  where
    by : (d u v : Bool) (t : Ts) (o : Option Refusal) (p : Option (Ts × queued.Member)) (m : queued.Member) → o ≡ option_map (λ t. refused.Reason (reasons.Blocked t)) (option_map (λ e. e.0) p)
        → option_or (cond (not d && (u || v)) (Some (refused.Reason (reasons.Blocked t))) None) o ≡ option_map (λ t. refused.Reason (reasons.Blocked t)) (option_map (λ e. e.0) (cond (cond d false (cond u true v)) (Some (t, m)) p))
    by true u v t o p m h = h
    by false true v t o p m h = refl
    by false false true t o p m h = refl
    by false false false t o p m h = h

    over : (es : List (Ts × Member)) → first_some (blocks q) es ≡ option_map (λ t. refused.Reason (reasons.Blocked t)) (option_map (λ e. e.0) (find (λ e. is_blocking (is_upgrade q) e.1) (on queued_of es)))
    over [] = refl
    over (e ∷ es) = by e.1.decided (is_upgrade q) (is_upgrade e.1.request) e.0 (first_some (blocks q) es) (find (λ e. is_blocking (is_upgrade q) e.1) (on queued_of es)) (queued_of e.1) (over es)

bar_alike : (W : Window) (q : Request) → queue.bar (queue_of W) (is_upgrade q) ≡ bar W q
bar_alike W q = ap (λ ks. cond (is_upgrade q) (fold later_of W.threshold ks) W.threshold) (keys_of-map_values queued_of W.members.pairs)

old_alike : (W : Window) (q : Request) → option_map refused.Reason (queue.too_old (queue_of W) (transaction_of q)) ≡ too_old W q
old_alike W q = ap (λ t. option_map refused.Reason (cond (is_before t q.tx) None (Some (reasons.TooOld t)))) (bar_alike W q) ∙ by (bar W q) (is_before (bar W q) q.tx)
  where
    by : (t : Ts) (x : Bool) → option_map refused.Reason (cond x None (Some (reasons.TooOld t))) ≡ cond x None (Some (refused.Reason (reasons.TooOld t)))
    by t true = refl
    by t false = refl

earlier_by : (b : Bool) (t : Ts) (o p : Option Oref) → p ≡ o → option_map refused.Reason (cond b (option_map (reasons.Earlier t) o) None) ≡ cond b (option_map (λ x. refused.Reason (reasons.Earlier t x)) p) None
earlier_by false t o p h = refl
earlier_by true t None p h = rw h refl
earlier_by true t (Some x) p h = rw h refl

later_by : (b : Bool) (t : Ts) (o p : Option Oref) → p ≡ o → option_map refused.Reason (cond b (option_map (reasons.Later t) o) None) ≡ cond b (option_map (λ x. refused.Reason (reasons.Later t x)) p) None
later_by false t o p h = refl
later_by true t None p h = rw h refl
later_by true t (Some x) p h = rw h refl

earlier_alike : (q : Request) → TellsInOrder q → (e : Ts × Member) → option_map refused.Reason (queue.comes_earlier q.tx q.ros (e.0, queued_of e.1)) ≡ comes_earlier q e
earlier_alike q h e = earlier_by (not e.1.decided && is_before e.0 q.tx) e.0 (find (is_among (keys_of e.1.request.writes)) q.ros) (least_name q (reads_from q e.1.request))
    (least_alike q h (reads_from q e.1.request) (is_among (keys_of e.1.request.writes)) (λ x m. ap (λ k. k && has_written e.1.request x) m ∙ written_among e.1.request x))

later_alike : (q : Request) → TellsInOrder q → (e : Ts × Member) → option_map refused.Reason (queue.comes_later q.tx q.ros (keys_of q.writes) (e.0, queued_of e.1)) ≡ comes_later q e
later_alike q h e = later_by (is_before q.tx e.0) e.0 (find (meets_at (keys_of q.writes) (queued_of e.1)) q.ros) (least_name q (λ x. reads_from q e.1.request x || writes_over q e.1.request x))
    (least_alike q h (λ x. reads_from q e.1.request x || writes_over q e.1.request x) (meets_at (keys_of q.writes) (queued_of e.1)) agree)
  where
    agree : (x : Oref) → has_read q x ≡ true → ((has_read q x && has_written e.1.request x) || (has_written q x && has_read e.1.request x)) ≡ meets_at (keys_of q.writes) (queued_of e.1) x
    agree x m =
        ap (λ k. (k && has_written e.1.request x) || (has_written q x && has_read e.1.request x)) m
        ∙ ap (λ k. k || (has_written q x && has_read e.1.request x)) (written_among e.1.request x)
        ∙ ap (λ k. is_among (keys_of e.1.request.writes) x || (k && has_read e.1.request x)) (written_among q x)

full_alike : (W : Window) → option_map refused.Reason (queue.full (queue_of W)) ≡ full_of_undecided W
full_alike W =
    ap (λ n. option_map refused.Reason (cond (nat_le room_for n && is_none (option_map (λ e. e.0) (find (λ e. e.1.decided) (on queued_of W.members.pairs)))) (Some (reasons.Full room_for)) None)) (len-queue W)
    ∙ ap (λ o. option_map refused.Reason (cond (nat_le room_for (len W.members) && is_none o) (Some (reasons.Full room_for)) None)) (first-on W.members.pairs)
    ∙ by (nat_le room_for (len W.members) && is_none (first_decided W.members.pairs))
  where
    by : (x : Bool) → option_map refused.Reason (cond x (Some (reasons.Full room_for)) None) ≡ cond x (Some (refused.Reason (reasons.Full room_for))) None
    by true = refl
    by false = refl

-- ---- the whole

module _ (W : Window) (q : Request) (h : TellsInOrder q) where
  abbrev ts : List (Ts × queued.Member)
  ts = on queued_of W.members.pairs

  abbrev E' : Option Reason
  E' = first_some (queue.comes_earlier q.tx q.ros) ts

  abbrev L' : Option Reason
  L' = first_some (queue.comes_later q.tx q.ros (keys_of q.writes)) ts

  pub rest_alike : option_map refused.Reason (option_or E' (option_or L' (queue.full (queue_of W)))) ≡ option_or (first_some (comes_earlier q) W.members.pairs) (option_or (first_some (comes_later q) W.members.pairs) (full_of_undecided W))
  rest_alike =
      mapped_or refused.Reason E' (option_or L' (queue.full (queue_of W)))
      ∙ ap (λ o. option_or o (option_map refused.Reason (option_or L' (queue.full (queue_of W))))) (firsts_alike refused.Reason (queue.comes_earlier q.tx q.ros) (comes_earlier q) (earlier_alike q h) W.members.pairs)
      ∙ ap (option_or (first_some (comes_earlier q) W.members.pairs)) (
      mapped_or refused.Reason L' (queue.full (queue_of W))
      ∙ ap (λ o. option_or o (option_map refused.Reason (queue.full (queue_of W)))) (firsts_alike refused.Reason (queue.comes_later q.tx q.ros (keys_of q.writes)) (comes_later q) (later_alike q h) W.members.pairs)
      ∙ ap (option_or (first_some (comes_later q) W.members.pairs)) (full_alike W))

  pub clash_alike : option_map refused.Reason (clash (queue_of W) (transaction_of q)) ≡ option_or (too_old W q) (option_or (first_some (comes_earlier q) W.members.pairs) (option_or (first_some (comes_later q) W.members.pairs) (full_of_undecided W)))
  clash_alike =
      mapped_or refused.Reason (queue.too_old (queue_of W) (transaction_of q)) (option_or E' (option_or L' (queue.full (queue_of W))))
      ∙ ap (λ o. option_or o (option_map refused.Reason (option_or E' (option_or L' (queue.full (queue_of W)))))) (old_alike W q)
      ∙ ap (option_or (too_old W q)) rest_alike

-- ---- a clash without TooOld

together : {X : Type 0} (a c d : Option X) → option_or (option_or a c) d ≡ option_or a (option_or c d)
together None c d = refl
together (Some x) c d = refl

abbrev NotOld : Option Reason → Type 0
NotOld o = option_and_then old_of o ≡ None

neither_old : (a c : Option Reason) → NotOld a → NotOld c → NotOld (option_or a c)
neither_old None c h k = k
neither_old (Some x) c h k = h

firsts_not_old : (f : Ts × queued.Member → Option Reason) → ((e : Ts × queued.Member) → NotOld (f e)) → (es : List (Ts × queued.Member)) → NotOld (first_some f es)
firsts_not_old f each [] = refl
firsts_not_old f each (e ∷ es) = neither_old (f e) (first_some f es) (each e) (firsts_not_old f each es)

earlier_not_old : (x : Bool) (t : Ts) (o : Option Oref) → NotOld (cond x (option_map (reasons.Earlier t) o) None)
earlier_not_old false t o = refl
earlier_not_old true t None = refl
earlier_not_old true t (Some y) = refl

later_not_old : (x : Bool) (t : Ts) (o : Option Oref) → NotOld (cond x (option_map (reasons.Later t) o) None)
later_not_old false t o = refl
later_not_old true t None = refl
later_not_old true t (Some y) = refl

full_not_old : (x : Bool) → NotOld (cond x (Some (reasons.Full room_for)) None)
full_not_old true = refl
full_not_old false = refl

old_is : (x : Bool) (t : Ts) → option_and_then old_of (cond x None (Some (reasons.TooOld t))) ≡ option_map refused.Reason (cond x None (Some (reasons.TooOld t)))
old_is true t = refl
old_is false t = refl

-- what stands between the first and the rest of a clash doesn't see the one of them that isn't there
joined : (o r : Option Reason) (x y stale w : Option Refusal) → option_map refused.Reason o ≡ x → option_and_then old_of o ≡ option_map refused.Reason o → NotOld r → option_map refused.Reason r ≡ y
    → option_or (option_and_then old_of (option_or o r)) (option_or stale (option_or (option_map refused.Reason (option_or o r)) w)) ≡ option_or x (option_or stale (option_or y w))
joined None r x y stale w h k n m =
    ap (λ u. option_or u (option_or stale (option_or (option_map refused.Reason r) w))) (n ∙ h)
    ∙ ap (λ u. option_or x (option_or stale (option_or u w))) m
joined (Some c) r x y stale w h k n m =
    ap (λ u. option_or u (option_or stale (option_or (Some (refused.Reason c)) w))) k
    ∙ ap (λ u. option_or u (option_or stale (option_or y w))) h

pub refusal_alike : (b : Base) (S : State) (W : Window) (q : Request) (stale : Option Refusal) → TellsInOrder q → first_refusal S W stale (full b W q) q ≡ refusal_by (queue_of W) q (other_epoch S q) stale (full_of_writes b q)
refusal_alike b S W q stale h =
    let es = W.members.pairs in
    let ts = on queued_of es in
    let Q = queue_of W in
    let E = first_some (queue.comes_earlier q.tx q.ros) ts in
    let L = first_some (queue.comes_later q.tx q.ros (keys_of q.writes)) ts in
    let r = option_or E (option_or L (queue.full Q)) in
    let w = full_of_writes b q in
    let e = first_some (comes_earlier q) es in
    let l = first_some (comes_later q) es in
    let not_old : NotOld r = neither_old E (option_or L (queue.full Q))
    (firsts_not_old (queue.comes_earlier q.tx q.ros) (λ m. earlier_not_old (not m.1.decided && is_before m.0 q.tx) m.0 (find (is_among m.1.written) q.ros)) ts)
    (neither_old L (queue.full Q)
    (firsts_not_old (queue.comes_later q.tx q.ros (keys_of q.writes)) (λ m. later_not_old (is_before q.tx m.0) m.0 (find (meets_at (keys_of q.writes) m.1) q.ros)) ts)
    (full_not_old _)) in
    let kept : option_or (option_or e (option_or l (full_of_undecided W))) w ≡ option_or e (option_or l (full b W q)) = together e (option_or l (full_of_undecided W)) w ∙ ap (option_or e) (together l (full_of_undecided W) w) in
    let tail = joined (queue.too_old Q (transaction_of q)) r (too_old W q) (option_or e (option_or l (full_of_undecided W))) stale w (old_alike W q) (old_is (is_before (queue.bar Q (is_upgrade q)) q.tx) (queue.bar Q (is_upgrade q))) not_old (rest_alike W q h) in
    ap (λ o. option_or o (option_or (other_epoch S q) (option_or (too_old W q) (option_or stale (option_or e (option_or l (full b W q))))))) (blocks_alike W q)
    ∙ ap (λ o. option_or (option_map (λ t. refused.Reason (reasons.Blocked t)) (first_blocking Q (is_upgrade q))) (option_or (other_epoch S q) o)) (ap (λ o. option_or (too_old W q) (option_or stale o)) (sym kept) ∙ sym tail)

-- where nothing refuses, the queue has nothing against it
pub clash_none : (b : Base) (S : State) (W : Window) (q : Request) (stale : Option Refusal) → TellsInOrder q → first_refusal S W stale (full b W q) q ≡ None → clash (queue_of W) (transaction_of q) ≡ None
clash_none b S W q stale h none =
    let n = nothing_holds S W stale (full b W q) q none in
    let room = neither (full_of_undecided W) (full_of_writes b q) n.limits in
    let e : option_or (too_old W q) (option_or (first_some (comes_earlier q) W.members.pairs) (option_or (first_some (comes_later q) W.members.pairs) (full_of_undecided W))) ≡ None =
    none_of (too_old W q) (first_some (comes_earlier q) W.members.pairs) (first_some (comes_later q) W.members.pairs) (full_of_undecided W) n.old n.earlier n.later room.0 in
    unmapped refused.Reason (clash (queue_of W) (transaction_of q)) (clash_alike W q h ∙ e)
  where
    none_of : (a c d f : Option Refusal) → a ≡ None → c ≡ None → d ≡ None → f ≡ None → option_or a (option_or c (option_or d f)) ≡ None
    none_of a c d f x y z w = rw (x, y, z, w) refl
