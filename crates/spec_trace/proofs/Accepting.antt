-- What a request that was accepted found, and that its copies are right.
use Rattle.log_entries.specs.declared.request.Request.{Request}
use Rattle.spec_trace.proofs.Accepted.{passed}
use Rattle.repo_refusals.proofs.Clashing.{in_set}
use Rattle.repo_refusals.proofs.Covered.{lives_open}
use Rattle.spec_history.proofs.Meeting.{any_at, or_cases, or_second}
use Rattle.repo_refusals.proofs.Validated.{neither, nothing_holds, unless_some, validated}
use Rattle.spec_trace.specs.Acceptance.{WasAccepted}
use Rattle.spec_trace.specs.Current.{IsRightOrStale}
use Rattle.spec_history.specs.History.{Base, IsCommitted, Open, Known, known_by, state}
use Rattle.spec_history.specs.Requests.{has_read, has_written, is_upgrade, reads_of, written}
use Rattle.spec_trace.specs.Session.{Session, invalid, session, upto_of}
use Rattle.spec_history.specs.Sound.{Accepts, sound}
use Rattle.spec_trace.specs.Trace.{Item, entries}
use Rattle.repo_refusals.specs.Refusals.{bytes_of, full, full_of_undecided, full_of_writes, set_of}
use Rattle.spec_trace.specs.Verdict.{stale, stale_from, verdict}
use Rattle.repo_refusals.specs.Window.{first_decided, window}
use Rattle.base_reasons.specs.declared.reason.Reason.TheVariants as reasons
use Rattle.repo_refusals.specs.declared.refusal.Refusal.TheVariants as refused
use Rattle.repo_refusals.specs.declared.refusal.Refusal.{Refusal}
use Rattle.std.proofs.Common.{List, [], ap, arith, inl, inr, refl, subst, sym, ◌≡◌, ◌∙◌, ◌∷◌}
use Rattle.std.proofs.lemmas.Bool.{leb-false, ltb-false}
use Rattle.std.proofs.lemmas.Map.Made.{is_some-lookup}
use Rattle.std.proofs.lemmas.Map.Views.{tells_apart}
use Rattle.std.proofs.lemmas.Option.{MatchOption-at_some}
use Rattle.std.specs.BTreeMap.{is_at}
use Rattle.std.specs.List.{list_any}
use Rattle.std.specs.Option.{IfSome, IsSome, IsSomeAnd, is_none, option_and_then}
use Rattle.std.specs.Prelude.{Bool, None, Option, Some, false, is_some, nat_le, nat_lt, true, ⊤, ℕ, ◌&&◌, ◌<◌, ◌≤◌, ◌||◌, ◌⊎◌}
use Rattle.thor_value.proofs.NameOrders.{oref_exact}
use Rattle.thor_value.specs.FiniteMap.{get, keys, len}
use Rattle.thor_value.specs.Names.{oref_cmp, same_oref}
use Rattle.thor_value.specs.declared.names.Oref.{Oref}
use Rattle.thor_value.specs.declared.names.Ts.{Ts}
use Rattle.thor_value.specs.declared.values.Obj.{Obj}
use Rattle.validation_queue.specs.Clashes.{first_some}
use Rattle.validation_queue.specs.Contents.{room_for}

-- ---- parts

-- what no name answers isn't answered at a name
none_named : (f : Oref → Option Refusal) (ys : List Oref) (x : Oref) → first_some f ys ≡ None → list_any (same_oref x) ys ≡ true → f x ≡ None
none_named f [] x none e = cc
none_named f (y ∷ ys) x none e =
    let both = neither (f y) (first_some f ys) none in
    elim (or_cases (same_oref x y) (list_any (same_oref x) ys) e) [
      | inl s ↦ subst (λ z. f z ≡ None) (sym (tells_apart oref_exact x y s)) both.0
      | inr r ↦ none_named f ys x both.1 r
    ]

among_keys : (names : List Oref) (x : Oref) → list_any (same_oref x) names ≡ true → list_any (same_oref x) (keys (set_of names)) ≡ true
among_keys names x e = sym (is_some-lookup (is_at (oref_cmp x)) (set_of names).pairs) ∙ in_set names x ∙ e

known_below : (upto : ℕ) (x : Oref) (o : Option ℕ) → option_and_then (stale_from upto x) o ≡ None → IfSome o (λ k. k < upto)
known_below upto x None e = tt
known_below upto x (Some k) e = leb-false upto k (unless_some (nat_le upto k) (refused.Reason (reasons.Stale x k)) e)

room_by : (x y : Bool) (n : ℕ) (o : Option Ts) → nat_le room_for n ≡ x → is_none o ≡ y → (x && y) ≡ false → (n < room_for) ⊎ IsSome o
room_by false y n o e f h = inl (leb-false room_for n e)
room_by true true n o e f h = cc
room_by true false n None e f h = cc
room_by true false n (Some t) e f h = inr refl

not_committed : (o : Known) → o.fate ≡ Open → IsCommitted o.fate → ⊥
not_committed o e c = subst IsCommitted e c

unread : (x : Bool) → (x ≡ true → ⊥) → x ≡ false
unread true h = absurd (h refl)
unread false h = refl

-- ---- what was found

module _ (b : Base) (T : List Item) (s : ℕ) (q : Request) (sd : sound b (entries T)) (once : known_by b (entries T) q.tx ≡ None) (accepted : verdict b T s q ≡ None) where
  pub found : (v : Session) × WasAccepted b T s q v
  found =
      let H = entries T in
      let W = window b H in
      let p = passed b H s q (session b T s) accepted in
      let v = p.0 in
      let none = nothing_holds (state b H) W (stale b H s v q) (full b W q) q p.3 in
      let p6 = neither (full_of_undecided W) (full_of_writes b q) none.limits in
      let a = validated b H q _ _ sd once p.3 in (
        v,
        record {
          there = p.1;
          live = p.2;
          known = λ x r. known_below q.upto x (invalid b H s v x) (none_named (λ y. option_and_then (stale_from q.upto y) (invalid b H s v y)) (keys (set_of q.ros)) x none.copies (among_keys q.ros x r));
          settled = λ t o is at_first. unread (reads_of q o.request) (λ r. open_unread t o is at_first (a.1 t) r);
          room = room_by (nat_le room_for (len W.members)) (is_none (first_decided W.members.pairs)) (len W.members) (first_decided W.members.pairs) refl refl (unless_some _ _ p6.0);
          fits = ltb-false b.limit (bytes_of q) (unless_some (nat_lt b.limit (bytes_of q)) (refused.Reason (reasons.Full b.limit)) p6.1);
        },
      )
    where
      read_open : (t : Ts) (o : Known) → o.fate ≡ Open → Accepts q t o → reads_of q o.request ≡ true → ⊥
      read_open t o e h r = not_committed o e ((h (lives_open o.fate e)).0 (or_second (is_upgrade q || is_upgrade o.request) (reads_of q o.request) r)).0

      open_unread : (t : Ts) (o : Known) → known_by b (entries T) t ≡ Some o → o.fate ≡ Open → IfSome (known_by b (entries T) t) (Accepts q t) → reads_of q o.request ≡ true → ⊥
      open_unread t o is e h r = read_open t o e (MatchOption-at_some ⊤ (Accepts q t) o is h) r

-- ---- copies

known_stale : {A : Type 0} (o : Option ℕ) (upto n : ℕ) → IfSome o (λ k. k < upto) → upto ≤ n → IsSomeAnd o (λ k. n ≤ k) → A
known_stale None upto n h le x = absurd x
known_stale (Some k) upto n h le x = absurd (omega (arith, h, le, x))

has_at : (q : Request) (x : Oref) (o : Obj) → get (written q) x ≡ Some o → has_written q x ≡ true
has_at q x o e = ap is_some e

pub right_copies : (b : Base) (T : List Item) (s : ℕ) (q : Request) (v : Session) (committed : Ts → Bool) (x : Oref) (o : Obj) → WasAccepted b T s q v → q.upto ≤ upto_of v → has_read q x ≡ true
    → IsRightOrStale b (entries T) s v committed x o → get (state b (entries T)).objects x ≡ Some o
right_copies b T s q v committed x o h le r (inl right) = right
right_copies b T s q v committed x o h le r (inr (inl stale)) = known_stale (invalid b (entries T) s v x) q.upto (upto_of v) (h.known x r) le stale
right_copies b T s q v committed x o h le r (inr (inr (t, w, own))) =
    let none : reads_of q w.request ≡ false = h.settled t w own.there own.open' in
    let some : reads_of q w.request ≡ true = any_at (has_written w.request) x q.ros r (has_at w.request x o own.wrote) in
    cc
