-- Stale refusals, and the places that a client knows.
use Rattle.law_cache_coherence.proofs.Committing.{some_at}
use Rattle.law_cache_coherence.specs.Fitting.{FitsAt, Kept}
use Rattle.law_cache_coherence.specs.Refusing.{OthersWrote}
use Rattle.log_entries.specs.declared.request.Request.{Request}
use Rattle.spec_history.proofs.Vouched.{plain}
use Rattle.spec_history.specs.History.{Base, State, state, writers}
use Rattle.spec_history.specs.Requests.{is_upgrade}
use Rattle.spec_history.specs.Sound.{sound}
use Rattle.client_port.specs.Views.{Calm}
use Rattle.base_reasons.specs.declared.reason.Reason.TheVariants as reasons
use Rattle.spec_trace.proofs.Exactness.{exact-beginning, exact-owed, numbered}
use Rattle.spec_trace.proofs.Sessions.{session-end, wait-by-place}
use Rattle.spec_trace.proofs.Told.{all-both, all-told}
use Rattle.spec_trace.specs.Calls.{last_session}
use Rattle.spec_trace.specs.Current.{IsTold, WasToldOf}
use Rattle.spec_trace.specs.Exact.{ItemIsExact, exact}
use Rattle.spec_trace.specs.Messages.{WaitsByPlace}
use Rattle.spec_trace.specs.Notices.{lives}
use Rattle.spec_trace.specs.Session.{Invalid, Notice, Session, begun, invalid, invalid_in, is_silent, last_other, meet, move, moved, not_below, notice, or_retired, push, rested, retired, session, session_lives, upto_of, waiting}
use Rattle.spec_trace.specs.Trace.{E, Item, M, entries}
use Rattle.spec_trace.specs.Verdict.{stale, stale_from, verdict, verdict_by}
use Rattle.spec_trace.specs.declared.mark.Mark.TheVariants as the
use Rattle.std.proofs.Common.{Bool, List, [], ap, append_assoc, arith, cond, false, inl, inr, length, refl, subst, suc, sym, true, zero, ◌+◌, ◌++◌, ◌-◌, ◌<◌, ◌≡◌, ◌≢◌, ◌≤◌, ◌∙◌, ◌∷◌, ℕ}
use Rattle.std.proofs.lemmas.Bool.Decides.{nat_tests}
use Rattle.std.proofs.lemmas.List.Elements.{All-contains_itself, All-head, All-tail}
use Rattle.std.proofs.lemmas.List.{append-nil, length-drop}
use Rattle.std.proofs.lemmas.Option.{same_Some, slice_get_within}
use Rattle.std.specs.List.{All, Contains, fold, slice_get}
use Rattle.std.specs.Option.{IsSomeAnd, option_and_then, option_map, option_or}
use Rattle.std.specs.Prelude.{IfSome, None, Option, Some, is_none, nat_eq, nat_le, nat_lt, not, ◌&&◌, ◌||◌, ◌⊎◌}
use Rattle.thor_value.specs.FiniteMap.{get, keys, len}
use Rattle.thor_value.specs.declared.names.Oref.{Oref}
use Rattle.thor_value.specs.declared.names.Ts.{Ts}
use Rattle.validation_queue.specs.Clashes.{first_some, is_before}
use Rattle.validation_queue.specs.Contents.{room_for}
use Rattle.repo_refusals.specs.Refusals.{bar, other_epoch, blocks, bytes_of, comes_earlier, comes_later, first_refusal, full, full_of_undecided, full_of_writes, least_name, reads_from, set_of, too_old, writes_over}
use Rattle.repo_refusals.specs.Window.{Window, first_decided, window}
use Rattle.repo_refusals.specs.declared.refusal.Refusal.TheVariants as refused
use Rattle.repo_refusals.specs.declared.refusal.Refusal.{Refusal}

-- ---- the first of several that is there

one_of : {A : Type 0} (a b : Option A) (r : A) → option_or a b ≡ Some r → (a ≡ Some r) ⊎ (b ≡ Some r)
one_of None b r h = inr h
one_of (Some x) b r h = inl h

found : {A : Type 0} (f : A → Option Refusal) (xs : List A) (r : Refusal) → first_some f xs ≡ Some r → (x : A) × (f x ≡ Some r)
found f [] r h = cc
found f (x ∷ xs) r h = elim (one_of (f x) (first_some f xs) r h) [
  | inl e ↦ (x, e)
  | inr e ↦ found f xs r e
]

-- ---- what isn't stale

abbrev Stale : Oref → ℕ → Option Refusal
Stale x k = Some (refused.Reason (reasons.Stale x k))

module _ (x : Oref) (k : ℕ) {A : Type 0} where
  no_block : (t : Bool) (tx : Ts) → cond t (Some (refused.Reason (reasons.Blocked tx))) None ≡ Stale x k → A
  no_block true tx h = cc
  no_block false tx h = cc

  no_epoch : (t : Bool) (n : ℕ) → cond t None (Some (refused.Reason (reasons.Epoch n))) ≡ Stale x k → A
  no_epoch true n h = cc
  no_epoch false n h = cc

  no_bar : (t : Bool) (tx : Ts) → cond t None (Some (refused.Reason (reasons.TooOld tx))) ≡ Stale x k → A
  no_bar true tx h = cc
  no_bar false tx h = cc

  no_earlier : (t : Bool) (o : Option Oref) (tx : Ts) → cond t (option_map (λ y. refused.Reason (reasons.Earlier tx y)) o) None ≡ Stale x k → A
  no_earlier true None tx h = cc
  no_earlier true (Some y) tx h = cc
  no_earlier false o tx h = cc

  no_later : (t : Bool) (o : Option Oref) (tx : Ts) → cond t (option_map (λ y. refused.Reason (reasons.Later tx y)) o) None ≡ Stale x k → A
  no_later true None tx h = cc
  no_later true (Some y) tx h = cc
  no_later false o tx h = cc

  no_room : (t : Bool) (n : ℕ) → cond t (Some (refused.Reason (reasons.Full n))) None ≡ Stale x k → A
  no_room true n h = cc
  no_room false n h = cc

-- of what stands against a request, the invalid set alone is stale
only_stale : (b : Base) (S : State) (W : Window) (st : Option Refusal) (q : Request) (x : Oref) (k : ℕ) → first_refusal S W st (full b W q) q ≡ Stale x k → st ≡ Stale x k
only_stale b S W st q x k h = blocked (one_of _ _ _ h)
  where
    filled : (full_of_undecided W ≡ Stale x k) ⊎ (full_of_writes b q ≡ Stale x k) → st ≡ Stale x k
    filled (inl e) = no_room x k (nat_le room_for (len W.members) && is_none (first_decided W.members.pairs)) room_for e
    filled (inr e) = no_room x k (nat_lt b.limit (bytes_of q)) b.limit e

    later : (first_some (comes_later q) W.members.pairs ≡ Stale x k) ⊎ (full b W q ≡ Stale x k) → st ≡ Stale x k
    later (inl e) = let f = found (comes_later q) W.members.pairs _ e in no_later x k (is_before q.tx f.0.0) (least_name q (λ y. reads_from q f.0.1.request y || writes_over q f.0.1.request y)) f.0.0 f.1
    later (inr e) = filled (one_of (full_of_undecided W) (full_of_writes b q) _ e)

    earlier : (first_some (comes_earlier q) W.members.pairs ≡ Stale x k) ⊎ (option_or (first_some (comes_later q) W.members.pairs) (full b W q) ≡ Stale x k) → st ≡ Stale x k
    earlier (inl e) = let f = found (comes_earlier q) W.members.pairs _ e in no_earlier x k (not f.0.1.decided && is_before f.0.0 q.tx) (least_name q (reads_from q f.0.1.request)) f.0.0 f.1
    earlier (inr e) = later (one_of _ _ _ e)

    at_set : (st ≡ Stale x k) ⊎ (option_or (first_some (comes_earlier q) W.members.pairs) (option_or (first_some (comes_later q) W.members.pairs) (full b W q)) ≡ Stale x k) → st ≡ Stale x k
    at_set (inl e) = e
    at_set (inr e) = earlier (one_of _ _ _ e)

    at_bar : (too_old W q ≡ Stale x k) ⊎ (option_or st (option_or (first_some (comes_earlier q) W.members.pairs) (option_or (first_some (comes_later q) W.members.pairs) (full b W q))) ≡ Stale x k) → st ≡ Stale x k
    at_bar (inl e) = no_bar x k (is_before (bar W q) q.tx) (bar W q) e
    at_bar (inr e) = at_set (one_of _ _ _ e)

    at_epoch : (other_epoch S q ≡ Stale x k) ⊎ (option_or (too_old W q) (option_or st (option_or (first_some (comes_earlier q) W.members.pairs) (option_or (first_some (comes_later q) W.members.pairs) (full b W q)))) ≡ Stale x k) → st ≡ Stale x k
    at_epoch (inl e) = no_epoch x k _ _ e
    at_epoch (inr e) = at_bar (one_of _ _ _ e)

    blocked : (first_some (blocks q) W.members.pairs ≡ Stale x k) ⊎ (option_or (other_epoch S q) (option_or (too_old W q) (option_or st (option_or (first_some (comes_earlier q) W.members.pairs) (option_or (first_some (comes_later q) W.members.pairs) (full b W q))))) ≡ Stale x k) → st ≡ Stale x k
    blocked (inl e) = let f = found (blocks q) W.members.pairs _ e in no_block x k (not f.0.1.decided && (is_upgrade q || is_upgrade f.0.1.request)) f.0.0 f.1
    blocked (inr e) = at_epoch (one_of _ _ _ e)

-- ---- an invalid set

-- the last commit of another session, of those of which P holds
last_of : (P : ℕ × Request → Type 0) (s : ℕ) (cs : List (ℕ × Request)) (last : Option ℕ) (k : ℕ) → All P cs → fold (λ l c. cond (nat_eq c.1.session s) l (Some c.0)) last cs ≡ Some k
    → (last ≡ Some k) ⊎ ((c : ℕ × Request) × P c × (c.0 ≡ k) × (nat_eq c.1.session s ≡ false))
last_of P s [] last k all h = inl h
last_of P s (c ∷ cs) last k all h = elim (last_of P s cs (cond (nat_eq c.1.session s) last (Some c.0)) k (All-tail P c cs all) h) [
  | inl e ↦ own (nat_eq c.1.session s) refl e
  | inr f ↦ inr f
]
  where
    own : (t : Bool) → nat_eq c.1.session s ≡ t → cond t last (Some c.0) ≡ Some k → (last ≡ Some k) ⊎ ((d : ℕ × Request) × P d × (d.0 ≡ k) × (nat_eq d.1.session s ≡ false))
    own true is e = inl e
    own false is e = inr (c, All-head P c cs all, same_Some c.0 k e, is)

le_so : (n m : ℕ) → nat_le n m ≡ true → n ≤ m
le_so n m h = grind (arith, nat_tests, h)

module _ (b : Base) (T : List Item) (s : ℕ) (v : Session) (is : session b T s ≡ Some v) (live : session_lives v ≡ true) (sd : sound b (entries T)) where
  abbrev WasTold : Oref → ℕ × Request → Type 0
  WasTold x c = WasToldOf s v x c × (is_upgrade c.1 ≡ false)

  abbrev IsThere : Oref → ℕ × Request → Type 0
  IsThere x c = WasTold x c × Contains (writers b (entries T) x) c

  told_all : (x : Oref) → All (IsThere x) (writers b (entries T) x)
  told_all x =
      let told : All (WasTold x) (writers b (entries T) x) = all-both (WasToldOf s v x) (λ c. is_upgrade c.1 ≡ false) (WasTold x) (writers b (entries T) x) (λ c t small. (t, small)) (all-told b s T v is live x) (plain b (entries T) sd x) in
      all-both (WasTold x) (Contains (writers b (entries T) x)) (IsThere x) (writers b (entries T) x) (λ c t here. (t, here)) told (All-contains_itself (writers b (entries T) x))

  -- the place that an invalid set has was told, and another session's commit stands there
  abbrev Both : Oref → ℕ → Type 0
  Both x k = IsTold v.sent x k × OthersWrote b T s x k

  invalid_told : (x : Oref) (k : ℕ) → invalid b (entries T) s v x ≡ Some k → Both x k
  invalid_told x k h = by (get v.pages x.page) refl (last_other s (writers b (entries T) x)) refl h
    where
      at_place : (p j : ℕ) (t u : Bool) → nat_le p j ≡ t → cond (t && u) (Some j) None ≡ Some k → (p ≤ j) × (j ≡ k)
      at_place p j true true le e = (le_so p j le, same_Some j k e)
      at_place p j true false le e = cc
      at_place p j false u le e = cc

      placed : (p : ℕ) → get v.pages x.page ≡ Some p → (l : Option ℕ) → last_other s (writers b (entries T) x) ≡ l → option_and_then (not_below p v.acked) l ≡ Some k → Both x k
      placed p there None e n = cc
      placed p there (Some j) e n =
          let a = at_place p j (nat_le p j) (nat_le v.acked j) refl n in
          elim (last_of (IsThere x) s (writers b (entries T) x) None j (told_all x) e) [
            | inl never ↦ cc
            | inr f ↦ (subst (IsTold v.sent x) (f.2 ∙ a.1) (f.1.0.0 p there (subst (λ (m : ℕ). p ≤ m) (sym f.2) a.0) f.3 f.1.0.1), record { commit = f.0; there = f.1.1; place = f.2 ∙ a.1; other = f.3 })
          ]

      by : (o : Option ℕ) → get v.pages x.page ≡ o → (l : Option ℕ) → last_other s (writers b (entries T) x) ≡ l → invalid_in v o l ≡ Some k → Both x k
      by None there l e n = cc
      by (Some p) there l e n = placed p there l e (ap (λ (t : Bool). cond t (option_and_then (not_below p v.acked) l) None) (sym live) ∙ n)

  stale_told : (q : Request) (x : Oref) (k : ℕ) → stale b (entries T) s v q ≡ Stale x k → (q.upto ≤ k) × Both x k
  stale_told q x k h = let f = found (λ y. option_and_then (stale_from q.upto y) (invalid b (entries T) s v y)) (keys (set_of q.ros)) _ h in ended f.0 (invalid b (entries T) s v f.0) refl f.1
    where
      by : (y : Oref) (j : ℕ) → invalid b (entries T) s v y ≡ Some j → (t : Bool) → nat_le q.upto j ≡ t → cond t (Some (refused.Reason (reasons.Stale y j))) None ≡ Stale x k → (q.upto ≤ k) × Both x k
      by y j e true le n =
          let one : y ≡ x = cc in
          let other : j ≡ k = cc in
          (subst (λ (m : ℕ). q.upto ≤ m) other (le_so q.upto j le), subst (λ (z : Oref). Both z k) one (subst (λ (m : ℕ). Both y m) other (invalid_told y j e)))
      by y j e false le n = cc

      ended : (y : Oref) (o : Option ℕ) → invalid b (entries T) s v y ≡ o → option_and_then (stale_from q.upto y) o ≡ Stale x k → (q.upto ≤ k) × Both x k
      ended y None e n = cc
      ended y (Some j) e n = by y j e (nat_le q.upto j) refl n

-- a stale refusal was told
pub stale_was_told : (b : Base) (T : List Item) (s : ℕ) (q : Request) (x : Oref) (k : ℕ) → sound b (entries T) → verdict b T s q ≡ Some (refused.Reason (reasons.Stale x k)) → (q.upto ≤ k) × IsSomeAnd (session b T s) (λ v. IsTold v.sent x k) × OthersWrote b T s x k
stale_was_told b T s q x k sd h = by (session b T s) refl h
  where
    lived : (v : Session) → session b T s ≡ Some v → (t : Bool) → session_lives v ≡ t → cond t (first_refusal (state b (entries T)) (window b (entries T)) (stale b (entries T) s v q) (full b (window b (entries T)) q) q) (Some (refused.Reason (reasons.Gone s))) ≡ Stale x k → (q.upto ≤ k) × IsTold v.sent x k × OthersWrote b T s x k
    lived v e true l n = let y = stale_told b T s v e l sd q x k (only_stale b (state b (entries T)) (window b (entries T)) (stale b (entries T) s v q) q x k n) in (y.0, y.1.0, y.1.1)
    lived v e false l n = cc

    by : (o : Option Session) → session b T s ≡ o → verdict_by b (entries T) s q o ≡ Stale x k → (q.upto ≤ k) × IsSomeAnd o (λ v. IsTold v.sent x k) × OthersWrote b T s x k
    by None e n = cc
    by (Some v) e n = lived v e (session_lives v) refl n

-- ---- what a client knows

pub places_known : (c : ℕ) (b : Base) (T : List Item) (committed : Ts → Bool) (kept : Kept) → FitsAt c b Calm T committed kept → lives (session b T kept.session) ≡ true → IsSomeAnd (session b T kept.session) (λ v. waiting v ≡ [])
    → IsSomeAnd (session b T kept.session) (λ v. (x : Oref) (k : ℕ) → IsTold v.sent x k → k < kept.upto)
places_known c b T committed kept f alive none = subst (λ (o : Option Session). IsSomeAnd o (λ v. (x : Oref) (k : ℕ) → IsTold v.sent x k → k < kept.upto)) (sym f.there) known_so
  where
    live : session_lives f.v ≡ true
    live = ap (λ (o : Option Session). lives o) (sym f.there) ∙ alive

    all_taken : length f.v.sent ≤ f.v.taken
    all_taken = let z : length f.v.sent - f.v.taken ≡ 0 = sym (length-drop f.v.taken f.v.sent) ∙ ap (λ (ms : List Notice). length ms) (some_at (λ w. waiting w ≡ []) (session b T kept.session) f.v f.there none) in omega (arith, z)

    order : WaitsByPlace f.v
    order = subst (λ (o : Option Session). IfSome o (λ v. WaitsByPlace v)) f.there (wait-by-place b T kept.session)

    known_so : (x : Oref) (k : ℕ) → IsTold f.v.sent x k → k < kept.upto
    known_so x k t =
        let within : t.at < length f.v.sent = slice_get_within f.v.sent t.at (Invalid t.names k) t.message in
        let below : k + 1 ≤ upto_of f.v = order.taken t.at (Invalid t.names k) t.message (omega (arith, within, all_taken)) in
        let same : kept.upto ≡ upto_of f.v = (f.keeps refl live).known in
        omega (arith, below, same)

-- ---- what was told stays told

told_more : (sent : List Notice) (o : Option Notice) (x : Oref) (k : ℕ) → IsTold sent x k → IsTold (push sent o) x k
told_more sent None x k h = h
told_more sent (Some m) x k h = record { at = h.at; names = h.names; message = get_more sent (m ∷ []) h.at (Invalid h.names k) h.message; named = h.named }
  where
    get_more : (xs ys : List Notice) (i : ℕ) (y : Notice) → slice_get xs i ≡ Some y → slice_get (xs ++ ys) i ≡ Some y
    get_more [] ys i y e = cc
    get_more (z ∷ xs) ys zero y e = e
    get_more (z ∷ xs) ys (suc i) y e = get_more xs ys i y e

module _ (b : Base) (s : ℕ) (x : Oref) (k : ℕ) where
  abbrev Told : Session → Type 0
  Told v = IsTold v.sent x k

  told_moved : (S : State) (i : Item) (v : Session) → Told v → Told (move b s S i v)
  told_moved S i v h = by (session_lives v)
    where
      silent : (t : Bool) → Told (cond t (record (moved b s S v i) { stage = retired (moved b s S v i).stage }) (moved b s S v i))
      silent true = told_more v.sent (notice b s S v.pages i) x k h
      silent false = told_more v.sent (notice b s S v.pages i) x k h

      by : (t : Bool) → Told (cond t (or_retired b (moved b s S v i)) (rested v i))
      by true = silent (is_silent b.silence (moved b s S v i))
      by false = h

  told_mapped : (S : State) (i : Item) (o : Option Session) → IsSomeAnd o Told → IsSomeAnd (option_map (move b s S i) o) Told
  told_mapped S i None h = absurd h
  told_mapped S i (Some v) h = told_moved S i v h

  told_behind : (S : State) (i : Item) (o : Option Session) → ((n c : ℕ) → i ≡ M (the.Connected n c) → nat_eq n s ≡ false) → IsSomeAnd o Told → IsSomeAnd (meet b s S o i) Told
  told_behind S (M (the.Connected n c)) o other h = subst (λ (t : Bool). IsSomeAnd (cond t (Some (begun c S.length)) (option_map (move b s S (M (the.Connected n c))) o)) Told) (sym (other n c refl)) (told_mapped S (M (the.Connected n c)) o h)
  told_behind S (E e) o other h = told_mapped S (E e) o h
  told_behind S (M (the.Took n p)) o other h = told_mapped S (M (the.Took n p)) o h
  told_behind S (M (the.Fetched n page upto)) o other h = told_mapped S (M (the.Fetched n page upto)) o h
  told_behind S (M (the.Granted n page)) o other h = told_mapped S (M (the.Granted n page)) o h
  told_behind S (M (the.Drew n t)) o other h = told_mapped S (M (the.Drew n t)) o h
  told_behind S (M (the.Forgot t)) o other h = told_mapped S (M (the.Forgot t)) o h
  told_behind S (M (the.Refused n q r)) o other h = told_mapped S (M (the.Refused n q r)) o h

  abbrev ToldAt : List Item → Type 0
  ToldAt T = IsSomeAnd (session b T s) Told

  apart : (n m : ℕ) → m ≤ n → (k' : ℕ) → n < k' → nat_eq k' m ≡ false
  apart n m low k' high = grind (arith, nat_tests, low, high)

  some_of : (o : Option Session) → IsSomeAnd o Told → (v : Session) × (o ≡ Some v)
  some_of None h = absurd h
  some_of (Some v) h = (v, refl)

  told_next : (T : List Item) (i : Item) → exact b T → ItemIsExact b T i → ToldAt T → ToldAt (T ++ i ∷ [])
  told_next T i h owed p = subst (λ (o : Option Session). IsSomeAnd o Told) (sym (session-end b T i s)) (told_behind (state b (entries T)) i (session b T s) other p)
    where
      there : (v : Session) × (session b T s ≡ Some v)
      there = some_of (session b T s) p

      old : s ≤ last_session T
      old = (numbered b T h).known s there.0 there.1

      other : (n c : ℕ) → i ≡ M (the.Connected n c) → nat_eq n s ≡ false
      other n c is = apart (last_session T) s old n (subst (λ (j : Item). ItemIsExact b T j) is owed).0

  pub told_stays : (T more : List Item) → exact b (T ++ more) → ToldAt T → ToldAt (T ++ more)
  told_stays T [] h p = subst ToldAt (sym (append-nil T)) p
  told_stays T (i ∷ more) h p =
      let e : (T ++ i ∷ []) ++ more ≡ T ++ (i ∷ more) = append_assoc T (i ∷ []) more in
      let all : exact b ((T ++ i ∷ []) ++ more) = subst (exact b) (sym e) h in
      let next : exact b (T ++ i ∷ []) = exact-beginning b (T ++ i ∷ []) more all in
      subst ToldAt e (told_stays (T ++ i ∷ []) more all (told_next T i (exact-beginning b T (i ∷ []) next) (exact-owed b T i next) p))

both_there : {A : Type 0} (P Q R : A → Type 0) (o : Option A) → ((v : A) → P v → Q v → R v) → IsSomeAnd o P → IsSomeAnd o Q → IsSomeAnd o R
both_there P Q R None f p q = absurd p
both_there P Q R (Some v) f p q = f v p q

some_so : {A : Type 0} (P : Type 0) (o : Option A) → IsSomeAnd o (λ v. P) → P
some_so P None h = absurd h
some_so P (Some v) h = h

pub stale_is_passed : (c : ℕ) (b : Base) (T more : List Item) (committed : Ts → Bool) (kept : Kept) (q : Request) (x : Oref) (k : ℕ) → sound b (entries T) → exact b (T ++ more)
    → verdict b T kept.session q ≡ Some (refused.Reason (reasons.Stale x k)) → FitsAt c b Calm (T ++ more) committed kept → lives (session b (T ++ more) kept.session) ≡ true
    → IsSomeAnd (session b (T ++ more) kept.session) (λ v. waiting v ≡ []) → k < kept.upto
stale_is_passed c b T more committed kept q x k sd ex was fits alive none =
    let o : Option Session = session b (T ++ more) kept.session in
    let told : IsSomeAnd o (λ v. IsTold v.sent x k) = told_stays b kept.session x k T more ex (stale_was_told b T kept.session q x k sd was).1 in
    let known : IsSomeAnd o (λ v. (y : Oref) (n : ℕ) → IsTold v.sent y n → n < kept.upto) = places_known c b (T ++ more) committed kept fits alive none in
    some_so (k < kept.upto) o (both_there (λ (v : Session). IsTold v.sent x k) (λ (v : Session). (y : Oref) (n : ℕ) → IsTold v.sent y n → n < kept.upto) (λ (v : Session). k < kept.upto) o (λ v t f. f x k t) told known)

pub not_again : (b : Base) (T : List Item) (s : ℕ) (q : Request) (x : Oref) (k : ℕ) → sound b (entries T) → k < q.upto → verdict b T s q ≢ Some (refused.Reason (reasons.Stale x k))
not_again b T s q x k sd above was = let low = (stale_was_told b T s q x k sd was).0 in omega (arith, above, low)

-- ---- a session that is gone

abbrev Lost : ℕ → Option Refusal
Lost n = Some (refused.Reason (reasons.Gone n))

module _ (n : ℕ) {A : Type 0} where
  not_blocked : (t : Bool) (tx : Ts) → cond t (Some (refused.Reason (reasons.Blocked tx))) None ≡ Lost n → A
  not_blocked true tx h = cc
  not_blocked false tx h = cc

  not_epoch : (t : Bool) (k : ℕ) → cond t None (Some (refused.Reason (reasons.Epoch k))) ≡ Lost n → A
  not_epoch true k h = cc
  not_epoch false k h = cc

  not_old : (t : Bool) (tx : Ts) → cond t None (Some (refused.Reason (reasons.TooOld tx))) ≡ Lost n → A
  not_old true tx h = cc
  not_old false tx h = cc

  not_earlier : (t : Bool) (o : Option Oref) (tx : Ts) → cond t (option_map (λ y. refused.Reason (reasons.Earlier tx y)) o) None ≡ Lost n → A
  not_earlier true None tx h = cc
  not_earlier true (Some y) tx h = cc
  not_earlier false o tx h = cc

  not_later : (t : Bool) (o : Option Oref) (tx : Ts) → cond t (option_map (λ y. refused.Reason (reasons.Later tx y)) o) None ≡ Lost n → A
  not_later true None tx h = cc
  not_later true (Some y) tx h = cc
  not_later false o tx h = cc

  not_full : (t : Bool) (k : ℕ) → cond t (Some (refused.Reason (reasons.Full k))) None ≡ Lost n → A
  not_full true k h = cc
  not_full false k h = cc

  not_stale : (upto : ℕ) (y : Oref) (o : Option ℕ) → option_and_then (stale_from upto y) o ≡ Lost n → A
  not_stale upto y None h = cc
  not_stale upto y (Some j) h = by (nat_le upto j) h
    where
      by : (t : Bool) → cond t (Some (refused.Reason (reasons.Stale y j))) None ≡ Lost n → A
      by true e = cc
      by false e = cc

-- the first refusal of a request isn't that its session is gone
none_lost : {A : Type 0} (b : Base) (S : State) (W : Window) (f : Oref → Option Refusal) (names : List Oref) (q : Request) (n : ℕ) → ((y : Oref) → f y ≡ Some (refused.Reason (reasons.Gone n)) → A) → first_refusal S W (first_some f names) (full b W q) q ≡ Some (refused.Reason (reasons.Gone n)) → A
none_lost {A} b S W f names q n no_stale h = elim (one_of (first_some (blocks q) W.members.pairs) _ _ h) [
  | inl e ↦ let k = found (blocks q) W.members.pairs _ e in not_blocked n (not k.0.1.decided && (is_upgrade q || is_upgrade k.0.1.request)) k.0.0 k.1
  | inr g ↦ elim (one_of (other_epoch S q) _ _ g) [
    | inl e ↦ not_epoch n _ _ e
    | inr g1 ↦ elim (one_of (too_old W q) _ _ g1) [
      | inl e ↦ not_old n (is_before (bar W q) q.tx) (bar W q) e
      | inr g2 ↦ elim (one_of (first_some f names) _ _ g2) [
        | inl e ↦ let k = found f names _ e in no_stale k.0 k.1
        | inr g3 ↦ elim (one_of (first_some (comes_earlier q) W.members.pairs) _ _ g3) [
          | inl e ↦ let k = found (comes_earlier q) W.members.pairs _ e in not_earlier n (not k.0.1.decided && is_before k.0.0 q.tx) (least_name q (reads_from q k.0.1.request)) k.0.0 k.1
          | inr g4 ↦ elim (one_of (first_some (comes_later q) W.members.pairs) _ _ g4) [
            | inl e ↦ let k = found (comes_later q) W.members.pairs _ e in not_later n (is_before q.tx k.0.0) (least_name q (λ y. reads_from q k.0.1.request y || writes_over q k.0.1.request y)) k.0.0 k.1
            | inr g5 ↦ elim (one_of (full_of_undecided W) (full_of_writes b q) _ g5) [
              | inl e ↦ not_full n (nat_le room_for (len W.members) && is_none (first_decided W.members.pairs)) room_for e
              | inr e ↦ not_full n (nat_lt b.limit (bytes_of q)) b.limit e
            ]
          ]
        ]
      ]
    ]
  ]
]

pub gone_is_own : (b : Base) (T : List Item) (s n : ℕ) (q : Request) → verdict b T s q ≡ Some (refused.Reason (reasons.Gone n)) → n ≡ s
gone_is_own b T s n q h = by (session b T s) h
  where
    own : Some (refused.Reason (reasons.Gone s)) ≡ Some (refused.Reason (reasons.Gone n)) → n ≡ s
    own e = let same : s ≡ n = cc in sym same

    lived : (v : Session) (t : Bool) → cond t (first_refusal (state b (entries T)) (window b (entries T)) (stale b (entries T) s v q) (full b (window b (entries T)) q) q) (Some (refused.Reason (reasons.Gone s))) ≡ Some (refused.Reason (reasons.Gone n)) → n ≡ s
    lived v true e = none_lost b (state b (entries T)) (window b (entries T)) (λ y. option_and_then (stale_from q.upto y) (invalid b (entries T) s v y)) (keys (set_of q.ros)) q n (λ y k. not_stale n q.upto y (invalid b (entries T) s v y) k) e
    lived v false e = own e

    by : (o : Option Session) → verdict_by b (entries T) s q o ≡ Some (refused.Reason (reasons.Gone n)) → n ≡ s
    by None e = own e
    by (Some v) e = lived v (session_lives v) e
