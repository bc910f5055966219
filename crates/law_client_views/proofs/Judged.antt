-- The verdict is no outage.
use Rattle.log_entries.specs.declared.entry.Entry.{Entry}
use Rattle.log_entries.specs.declared.request.Request.{Request}
use Rattle.spec_history.specs.History.{Base, State, epoch_of, state}
use Rattle.client_port.specs.Works.{IsMarked}
use Rattle.spec_trace.specs.Session.{Session, invalid, session, session_lives}
use Rattle.spec_trace.specs.Trace.{Item, entries}
use Rattle.spec_trace.specs.Verdict.{stale, stale_from, verdict, verdict_by}
use Rattle.std.proofs.Common.{Bool, List, [], cond, false, nat_eq, nat_le, nat_lt, true, ◌∷◌, ℕ}
use Rattle.std.specs.Option.{IfSome, option_and_then, option_map, option_or}
use Rattle.std.specs.Prelude.{None, Option, Some, ◌||◌}
use Rattle.thor_value.specs.FiniteMap.{keys}
use Rattle.thor_value.specs.declared.names.Oref.{Oref}
use Rattle.validation_queue.specs.Clashes.{first_some}
use Rattle.validation_queue.specs.Contents.{room_for}
use Rattle.repo_refusals.specs.Refusals.{bar, other_epoch, blocks, bytes_of, comes_earlier, comes_later, first_refusal, full, full_of_undecided, full_of_writes, least_name, reads_from, set_of, too_old, writes_over}
use Rattle.repo_refusals.specs.Window.{Window, window}
use Rattle.base_reasons.specs.declared.reason.Reason.TheVariants as reasons
use Rattle.repo_refusals.specs.declared.refusal.Refusal.TheVariants as refused
use Rattle.repo_refusals.specs.declared.refusal.Refusal.{Refusal}

abbrev pub Marks : Option Refusal → Type 0
Marks o = IfSome o (λ r. IsMarked r)

either : (o p : Option Refusal) → Marks o → Marks p → Marks (option_or o p)
either None p h g = g
either (Some r) p h g = h

where_so : (t : Bool) (r : Refusal) → IsMarked r → Marks (cond t (Some r) None)
where_so true r h = h
where_so false r h = tt

unless_so : (t : Bool) (r : Refusal) → IsMarked r → Marks (cond t None (Some r))
unless_so true r h = tt
unless_so false r h = h

first_of : {A : Type 0} (f : A → Option Refusal) (xs : List A) → ((x : A) → Marks (f x)) → Marks (first_some f xs)
first_of f [] h = tt
first_of f (x ∷ xs) h = either (f x) (first_some f xs) (h x) (first_of f xs h)

mapped : {A : Type 0} (f : A → Refusal) (o : Option A) → ((x : A) → IsMarked (f x)) → Marks (option_map f o)
mapped f None h = tt
mapped f (Some x) h = h x

mapped_where : {A : Type 0} (t : Bool) (f : A → Refusal) (o : Option A) → ((x : A) → IsMarked (f x)) → Marks (cond t (option_map f o) None)
mapped_where true f o h = mapped f o h
mapped_where false f o h = tt

stale_marks : (b : Base) (H : List Entry) (s : ℕ) (v : Session) (q : Request) → Marks (stale b H s v q)
stale_marks b H s v q = first_of (λ x. option_and_then (stale_from q.upto x) (invalid b H s v x)) (keys (set_of q.ros)) (λ x. one x (invalid b H s v x))
  where
    one : (x : Oref) (o : Option ℕ) → Marks (option_and_then (stale_from q.upto x) o)
    one x None = tt
    one x (Some k) = where_so (nat_le q.upto k) (refused.Reason (reasons.Stale x k)) tt

first_marks : (b : Base) (S : State) (W : Window) (o : Option Refusal) (q : Request) → Marks o → Marks (first_refusal S W o (full b W q) q)
first_marks b S W o q h =
    either (first_some (blocks q) W.members.pairs) _ (first_of (blocks q) W.members.pairs (λ e. where_so _ (refused.Reason (reasons.Blocked e.0)) tt))
    (either (other_epoch S q) _ (unless_so (nat_eq q.epoch (epoch_of S)) (refused.Reason (reasons.Epoch (epoch_of S))) tt)
    (either (too_old W q) _ (unless_so _ (refused.Reason (reasons.TooOld (bar W q))) tt)
    (either o _ h
    (either (first_some (comes_earlier q) W.members.pairs) _ (first_of (comes_earlier q) W.members.pairs (λ e. mapped_where _ (λ x. refused.Reason (reasons.Earlier e.0 x)) (least_name q (reads_from q e.1.request)) (λ x. tt)))
    (either (first_some (comes_later q) W.members.pairs) _ (first_of (comes_later q) W.members.pairs (λ e. mapped_where _ (λ x. refused.Reason (reasons.Later e.0 x)) (least_name q (λ x. reads_from q e.1.request x || writes_over q e.1.request x)) (λ x. tt)))
    (either (full_of_undecided W) (full_of_writes b q) (where_so _ (refused.Reason (reasons.Full room_for)) tt) (where_so (nat_lt b.limit (bytes_of q)) (refused.Reason (reasons.Full b.limit)) tt)))))))

pub verdict_marks : (b : Base) (T : List Item) (s : ℕ) (q : Request) → IfSome (verdict b T s q) (λ r. IsMarked r)
verdict_marks b T s q = by (session b T s)
  where
    by : (o : Option Session) → Marks (verdict_by b (entries T) s q o)
    by None = tt
    by (Some v) = at (session_lives v)
      where
        at : (t : Bool) → Marks (cond t (first_refusal (state b (entries T)) (window b (entries T)) (stale b (entries T) s v q) (full b (window b (entries T)) q) q) (Some (refused.Reason (reasons.Gone s))))
        at true = first_marks b (state b (entries T)) (window b (entries T)) (stale b (entries T) s v q) q (stale_marks b (entries T) s v q)
        at false = tt
