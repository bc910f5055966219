-- A queue with the window's members changes as the window does.
use Rattle.log_entries.specs.declared.request.Request.{Request}
use Rattle.repo_refusals.specs.Queue.{queue_of, queued_of, transaction_of}
use Rattle.spec_history.specs.Requests.{is_upgrade}
use Rattle.repo_refusals.specs.Window.{Member, Window, decide, enter, first_decided, leave, restarted, with_room, without}
use Rattle.std.proofs.Common.{List, [], ap, cond, refl, sym, ◌≡◌, ◌∙◌, ◌∷◌}
use Rattle.std.proofs.lemmas.List.{length-map}
use Rattle.std.proofs.lemmas.Map.Made.{lookup-map_values}
use Rattle.std.specs.BTreeMap.{insert_entry, is_at}
use Rattle.std.specs.List.{filter}
use Rattle.std.specs.Map.{remove_entry}
use Rattle.std.specs.Option.{option_map}
use Rattle.std.specs.Ordering.{match_ordering}
use Rattle.std.specs.Prelude.{Bool, None, Option, Some, false, find, map, nat_le, true}
use Rattle.std.specs.declared.cmp.Ordering.TheVariants.{Equal, Greater, Less}
use Rattle.std.specs.declared.cmp.Ordering.{Ordering}
use Rattle.thor_value.specs.FiniteMap.{get, keep, len}
use Rattle.thor_value.specs.Names.{ts_cmp}
use Rattle.thor_value.specs.declared.names.Ts.{Ts}
use Rattle.validation_queue.specs.Contents as queue
use Rattle.validation_queue.specs.Contents.{Contents, room_for}
use Rattle.validation_queue.specs.declared.member.Member as queued

-- ---- pairs whose values are mapped

module _ {K X Y : Type 0} (g : X → Y) where
  abbrev pub on : List (K × X) → List (K × Y)
  on es = map (λ e. (e.0, g e.1)) es

  pub insert-on : (R : K → K → Ordering) (es : List (K × X)) (k : K) (v : X) → on (insert_entry R es k v) ≡ insert_entry R (on es) k (g v)
  insert-on R [] k v = refl
  insert-on R (e ∷ es) k v = by (R k e.0) (insert-on R es k v)
    where
      by : (r : Ordering) → on (insert_entry R es k v) ≡ insert_entry R (on es) k (g v) → on (match_ordering r ((k, v) ∷ e ∷ es) ((e.0, v) ∷ es) (e ∷ insert_entry R es k v)) ≡ match_ordering r ((k, g v) ∷ on (e ∷ es)) ((e.0, g v) ∷ on es) ((e.0, g e.1) ∷ insert_entry R (on es) k (g v))
      by Less h = refl
      by Equal h = refl
      by Greater h = ap (λ fs. (e.0, g e.1) ∷ fs) h

  pub remove-on : (test : K → Bool) (es : List (K × X)) → on (remove_entry test es) ≡ remove_entry test (on es)
  remove-on test [] = refl
  remove-on test (e ∷ es) = by (test e.0) (remove-on test es)
    where
      by : (x : Bool) → on (remove_entry test es) ≡ remove_entry test (on es) → on (cond x es (e ∷ remove_entry test es)) ≡ cond x (on es) ((e.0, g e.1) ∷ remove_entry test (on es))
      by true h = refl
      by false h = ap (λ fs. (e.0, g e.1) ∷ fs) h

  pub keep-on : (test : K → Bool) (es : List (K × X)) → on (filter (λ e. test e.0) es) ≡ filter (λ e. test e.0) (on es)
  keep-on test [] = refl
  keep-on test (e ∷ es) = by (test e.0) (keep-on test es)
    where
      by : (x : Bool) → on (filter (λ e. test e.0) es) ≡ filter (λ e. test e.0) (on es) → on (cond x (e ∷ filter (λ e. test e.0) es) (filter (λ e. test e.0) es)) ≡ cond x ((e.0, g e.1) ∷ filter (λ e. test e.0) (on es)) (filter (λ e. test e.0) (on es))
      by true h = ap (λ fs. (e.0, g e.1) ∷ fs) h
      by false h = h

-- ---- steps

abbrev contents : Ts → List (Ts × queued.Member) → Contents
contents threshold es = record { threshold = threshold; members = record { pairs = es } }

pub get-queue : (W : Window) (t : Ts) → get (queue_of W).members t ≡ option_map queued_of (get W.members t)
get-queue W t = lookup-map_values queued_of (is_at (ts_cmp t)) W.members.pairs

pub len-queue : (W : Window) → len (queue_of W).members ≡ len W.members
len-queue W = length-map W.members.pairs (λ e. (e.0, queued_of e.1))

pub first-on : (es : List (Ts × Member)) → option_map (λ e. e.0) (find (λ e. e.1.decided) (on queued_of es)) ≡ first_decided es
first-on [] = refl
first-on (e ∷ es) = by e.1.decided (first-on es)
  where
    by : (x : Bool) → option_map (λ e. e.0) (find (λ e. e.1.decided) (on queued_of es)) ≡ first_decided es → option_map (λ e. e.0) (cond x (Some (e.0, queued_of e.1)) (find (λ e. e.1.decided) (on queued_of es))) ≡ cond x (Some e.0) (first_decided es)
    by true h = refl
    by false h = h

pub aborts : (W : Window) (t : Ts) → queue_of (leave W t) ≡ queue.decide (queue_of W) t false
aborts W t = ap (contents W.threshold) (remove-on queued_of (is_at (ts_cmp t)) W.members.pairs)

leaving_alike : (W : Window) → queue.leaving (queue_of W) ≡ cond (nat_le room_for (len W.members)) (first_decided W.members.pairs) None
leaving_alike W = ap (λ n. cond (nat_le room_for n) (queue.first_decided (queue_of W)) None) (len-queue W) ∙ ap (λ o. cond (nat_le room_for (len W.members)) o None) (first-on W.members.pairs)

abbrev room_with : Window → Option Ts → Contents
room_with W o = record { threshold = queue.raise W.threshold o; members = queue.omit (queue_of W).members o }

without_one : (W : Window) (o : Option Ts) → queue_of (without W o) ≡ room_with W o
without_one W None = refl
without_one W (Some t) = ap (contents (queue.raise W.threshold (Some t))) (remove-on queued_of (is_at (ts_cmp t)) W.members.pairs)

room_alike : (W : Window) → queue_of (with_room W) ≡ queue.with_room (queue_of W)
room_alike W = without_one W (cond (nat_le room_for (len W.members)) (first_decided W.members.pairs) None) ∙ ap (room_with W) (sym (leaving_alike W))

abbrev put_in : Window → Request → Bool → Window
put_in V q d = record { threshold = V.threshold; members = record { pairs = insert_entry ts_cmp V.members.pairs q.tx (record { decided = d; request = q }) } }

one_more : (V : Window) (q : Request) (d : Bool) → queue_of (put_in V q d) ≡ queue.with_one (queue_of V) (transaction_of q) d
one_more V q d = ap (contents V.threshold) (insert-on queued_of ts_cmp V.members.pairs q.tx (record { decided = d; request = q }))

pub enters : (W : Window) (q : Request) (d : Bool) → queue_of (enter W q d) ≡ queue.enter (queue_of W) (transaction_of q) d
enters W q d = one_more (with_room W) q d ∙ ap (λ Q. queue.with_one Q (transaction_of q) d) (room_alike W)

marked : (W : Window) (t : Ts) (m : Member) → queue_of (record { threshold = W.threshold; members = record { pairs = insert_entry ts_cmp W.members.pairs t (record m { decided = true }) } }) ≡ queue.mark (queue_of W) t (Some (queued_of m))
marked W t m = ap (contents W.threshold) (insert-on queued_of ts_cmp W.members.pairs t (record m { decided = true }))

pub commits : (W : Window) (t : Ts) (m : Member) → get W.members t ≡ Some m → is_upgrade m.request ≡ false → queue_of (decide W t m.request) ≡ queue.decide (queue_of W) t true
commits W t m is kind =
    let found : get (queue_of W).members t ≡ Some (queued_of m) = get-queue W t ∙ ap (option_map queued_of) is in
    rw (kind, found) (marked W t m)

pub clears : (W : Window) (t : Ts) (q : Request) → is_upgrade q ≡ true → queue_of (decide W t q) ≡ queue.cleared t
clears W t q kind = rw kind refl

pub restarts : (W : Window) (top : Ts) (test : Ts → Bool) → queue_of (restarted top W test) ≡ record { threshold = top; members = keep (queue_of W).members test }
restarts W top test = ap (contents top) (keep-on queued_of test W.members.pairs)
