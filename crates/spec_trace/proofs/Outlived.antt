-- A client's session and its copies, behind items that others made.
use Rattle.log_entries.specs.declared.entry.Entry.TheVariants.{Decided, Finished, Life, One, Prepared, Upgraded}
use Rattle.log_entries.specs.declared.entry.Entry.{Entry}
use Rattle.log_entries.specs.declared.request.Request.{Request}
use Rattle.spec_trace.proofs.Exactness.{exact-beginning, exact-owed, known, move-began, move-lives}
use Rattle.spec_history.proofs.Growth.{sound-beginning}
use Rattle.spec_trace.proofs.Kept.{Later, meet-moves, move-later, step-kept}
use Rattle.spec_history.proofs.Places.{stays}
use Rattle.spec_history.proofs.Serial.{lives_back}
use Rattle.spec_trace.proofs.Sessions.{session-end}
use Rattle.spec_trace.proofs.Traces.{entries-append}
use Rattle.spec_trace.proofs.Undecided.{current-grown, pages-grown}
use Rattle.spec_trace.specs.Calls.{last_session}
use Rattle.spec_trace.specs.Current.{InStep, NoPageWaits, NoneAborted, PassesItem, commits_in, is_taking}
use Rattle.spec_trace.specs.Exact.{ItemIsExact, exact}
use Rattle.spec_trace.specs.Gaps.{AreCurrent, ByOthers, GrowsByOthers, StaysOrEnds, client_in, commits_behind, maker}
use Rattle.spec_history.specs.History.{Base, state}
use Rattle.spec_history.specs.Laws.{Stays}
use Rattle.spec_history.specs.Requests.{has_written, written}
use Rattle.spec_trace.specs.Session.{Session, acked_after, meet, move, session, session_lives, upto_of}
use Rattle.spec_history.specs.Sound.{sound}
use Rattle.spec_trace.specs.Trace.{E, Item, M, entries}
use Rattle.spec_trace.specs.declared.mark.Mark.TheVariants as the
use Rattle.spec_trace.proofs.Before.{fetches, none-moved}
use Rattle.std.proofs.Common.{Bool, List, [], ap, append_assoc, arith, cond, false, inl, inr, max, refl, subst, sym, true, ℕ, ◌++◌, ◌<◌, ◌≡◌, ◌≢◌, ◌≤◌, ◌∙◌, ◌∷◌}
use Rattle.std.proofs.lemmas.Bool.{eqb-true}
use Rattle.std.proofs.lemmas.List.Elements.{All-cons, All-head, All-nil, All-tail, All-weaker}
use Rattle.std.proofs.lemmas.List.{append-nil}
use Rattle.std.specs.List.{All}
use Rattle.std.specs.Option.{option_map}
use Rattle.std.specs.Prelude.{Option, Some, nat_eq, ◌⊎◌}
use Rattle.thor_value.specs.FiniteMap.{Map, get}
use Rattle.thor_value.specs.Names.{oref_cmp}
use Rattle.thor_value.specs.declared.names.Ts.{Ts}
use Rattle.thor_value.specs.declared.values.Obj.{Obj}
use Rattle.thor_value.specs.declared.names.Oref.{Oref}

module _ (b : Base) where
  -- what others made is no item of the session
  apart : (T : List Item) (s n : ℕ) (v : Session) → session b T s ≡ Some v → client_in b T n ≢ Some v.client → nat_eq n s ≡ false
  apart T s n v h other = by (nat_eq n s) refl
    where
      by : (t : Bool) → nat_eq n s ≡ t → nat_eq n s ≡ false
      by false e = e
      by true e = absurd (other (ap (λ k. client_in b T k) (eqb-true n s e) ∙ ap (option_map (λ (w : Session). w.client)) h))

  module _ (T : List Item) (s : ℕ) (v : Session) (h : session b T s ≡ Some v) where
    quiet : (i : Item) → maker b T i ≢ Some v.client → ItemIsExact b T i → is_taking s i ≡ false
    quiet (M (the.Took n place)) other k = apart T s n v h other
    quiet (M (the.Connected n c)) other k = by (nat_eq n s) refl
      where
        by : (t : Bool) → nat_eq n s ≡ t → nat_eq n s ≡ false
        by false e = e
        by true e = let low = known b T s v h in let same = eqb-true n s e in let up : last_session T < n = k.0 in absurd (omega arith)
    quiet (E e) other k = refl
    quiet (M (the.Fetched n page upto)) other k = refl
    quiet (M (the.Granted n page)) other k = refl
    quiet (M (the.Drew n t)) other k = refl
    quiet (M (the.Forgot t)) other k = refl
    quiet (M (the.Refused n q r)) other k = refl

    by-other : (n : ℕ) (x : ℕ) → client_in b T n ≢ Some v.client → cond (nat_eq n s) x v.acked ≡ v.acked
    by-other n x other = ap (λ t. cond t x v.acked) (apart T s n v h other)

    -- it acknowledges nothing for the session
    unacked : (i : Item) → maker b T i ≢ Some v.client → acked_after s v.acked i ≡ v.acked
    unacked (E (Life n)) other = refl
    unacked (E (One q)) other = by-other q.session (max v.acked q.upto) other
    unacked (E (Prepared q)) other = by-other q.session (max v.acked q.upto) other
    unacked (E (Decided t c)) other = refl
    unacked (E (Finished t c)) other = refl
    unacked (E (Upgraded q)) other = by-other q.session (max v.acked q.upto) other
    unacked (M (the.Fetched n page upto)) other = by-other n (max v.acked upto) other
    unacked (M (the.Connected n c)) other = refl
    unacked (M (the.Granted n page)) other = refl
    unacked (M (the.Took n place)) other = refl
    unacked (M (the.Drew n t)) other = refl
    unacked (M (the.Forgot t)) other = refl
    unacked (M (the.Refused n q r)) other = refl

    -- it fetches no page for the session
    unfetched : (i : Item) → maker b T i ≢ Some v.client → fetches s i ≡ false
    unfetched (E e) other = refl
    unfetched (M (the.Fetched n page upto)) other = apart T s n v h other
    unfetched (M (the.Connected n c)) other = refl
    unfetched (M (the.Granted n page)) other = refl
    unfetched (M (the.Took n place)) other = refl
    unfetched (M (the.Drew n t)) other = refl
    unfetched (M (the.Forgot t)) other = refl
    unfetched (M (the.Refused n q r)) other = refl

    -- behind an item that doesn't begin it anew the session is there
    goes-on : (i : Item) → is_taking s i ≡ false → session b (T ++ i ∷ []) s ≡ Some (move b s (state b (entries T)) i v)
    goes-on i q = session-end b T i s ∙ ap (λ (u : Option Session). meet b s (state b (entries T)) u i) h ∙ meet-moves b s (state b (entries T)) v i q

  -- ---- a session that isn't live

  -- no client begins it anew
  unbegun : (T : List Item) (s : ℕ) (v : Session) (i : Item) → session b T s ≡ Some v → ItemIsExact b T i → session b (T ++ i ∷ []) s ≡ Some (move b s (state b (entries T)) i v)
  unbegun T s v (M (the.Connected n c)) h k = goes-on T s v h (M (the.Connected n c)) (by (nat_eq n s) refl)
    where
      by : (t : Bool) → nat_eq n s ≡ t → nat_eq n s ≡ false
      by false e = e
      by true e = let low = known b T s v h in let same = eqb-true n s e in let up : last_session T < n = k.0 in absurd (omega arith)
  unbegun T s v (E e) h k = goes-on T s v h (E e) refl
  unbegun T s v (M (the.Took n place)) h k = session-end b T (M (the.Took n place)) s ∙ ap (λ (u : Option Session). meet b s (state b (entries T)) u (M (the.Took n place))) h
  unbegun T s v (M (the.Fetched n page upto)) h k = goes-on T s v h (M (the.Fetched n page upto)) refl
  unbegun T s v (M (the.Granted n page)) h k = goes-on T s v h (M (the.Granted n page)) refl
  unbegun T s v (M (the.Drew n t)) h k = goes-on T s v h (M (the.Drew n t)) refl
  unbegun T s v (M (the.Forgot t)) h k = goes-on T s v h (M (the.Forgot t)) refl
  unbegun T s v (M (the.Refused n q r)) h k = goes-on T s v h (M (the.Refused n q r)) refl

  not-true : (x : Bool) → (x ≡ true → x ≡ false) → x ≡ false
  not-true true f = f refl
  not-true false f = refl

  -- it stays there, and stays so
  stays-dead : (T more : List Item) (s : ℕ) (v : Session) → exact b (T ++ more) → session b T s ≡ Some v → session_lives v ≡ false → (w : Session) × (session b (T ++ more) s ≡ Some w) × (session_lives w ≡ false)
  stays-dead T [] s v k h dead = (v, ap (λ (U : List Item). session b U s) (append-nil T) ∙ h, dead)
  stays-dead T (i ∷ more) s v k h dead =
      let k' : exact b ((T ++ i ∷ []) ++ more) = subst (exact b) (sym (append_assoc T (i ∷ []) more)) k in
      let own : ItemIsExact b T i = exact-owed b T i (exact-beginning b (T ++ i ∷ []) more k') in
      let w : Session = move b s (state b (entries T)) i v in
      let gone : session_lives w ≡ false = not-true (session_lives w) (λ l. let a : session_lives v ≡ true = (move-lives b s (state b (entries T)) i v l).0 in let no : false ≡ true = sym dead ∙ a in cc) in
      let y = stays-dead (T ++ i ∷ []) more s w k' (unbegun T s v i h own) gone in
      (y.0, subst (λ (U : List Item). session b U s ≡ Some y.0) (append_assoc T (i ∷ []) more) y.1, y.2)

  -- ---- growth

  pub none-aborted-back : (H more : List Entry) (committed : Ts → Bool) → sound b (H ++ more) → NoneAborted b (H ++ more) committed → NoneAborted b H committed
  none-aborted-back H more committed sd none t o is c =
      let y = stays b H more sd t o is in
      let st : Stays o y.0 = y.2 in
      lives_back o.fate y.0.fate st.fate (none t y.0 y.1 c)

  parts : (P : ℕ × Request → Type 0) (cs ds : List (ℕ × Request)) → All P (cs ++ ds) → All P cs × All P ds
  parts P [] ds a = (All-nil P, a)
  parts P (c ∷ cs) ds a =
      let k = parts P cs ds (All-tail P c (cs ++ ds) a) in
      (All-cons P c cs (All-head P c (cs ++ ds) a) k.0, k.1)

  outlive-all : (T more : List Item) (s : ℕ) (v : Session) (committed : Ts → Bool) (copies : Map oref_cmp Obj) → GrowsByOthers b T more s v committed copies
      → (w : Session) × (session b (T ++ more) s ≡ Some w) × StaysOrEnds b (T ++ more) s v committed copies w
  outlive-all T [] s v committed copies g =
      (v, ap (λ (U : List Item). session b U s) (append-nil T) ∙ g.before, inr (g.step, refl, subst (λ (U : List Item). AreCurrent b U s v committed copies) (sym (append-nil T)) g.current))
  outlive-all T (i ∷ more) s v committed copies g = by (λ live. outlive-all U more s w committed copies (rest live)) (session_lives w) refl
    where
      U : List Item
      U = T ++ i ∷ []

      w : Session
      w = move b s (state b (entries T)) i v

      again : (T ++ i ∷ []) ++ more ≡ T ++ (i ∷ more)
      again = append_assoc T (i ∷ []) more

      kept : exact b (U ++ more)
      kept = subst (exact b) (sym again) g.kept

      owed : sound b (entries (U ++ more))
      owed = subst (λ (V : List Item). sound b (entries V)) (sym again) g.owed

      own : ItemIsExact b T i
      own = exact-owed b T i (exact-beginning b U more kept)

      still : is_taking s i ≡ false
      still = quiet T s v g.before i g.others.0 own

      here : session b U s ≡ Some w
      here = goes-on T s v g.before i still

      after : entries (U ++ more) ≡ entries U ++ entries more
      after = entries-append U more

      owed-here : sound b (entries U)
      owed-here = sound-beginning b (entries U) (entries more) (subst (sound b) after owed)

      none-here : NoneAborted b (entries U) committed
      none-here =
          none-aborted-back (entries U) (entries more) committed (subst (sound b) after owed)
          (subst (λ (H : List Entry). NoneAborted b H committed) after (subst (λ (V : List Item). NoneAborted b (entries V) committed) (sym again) g.none_aborted))

      passes : PassesItem b T i s v w
      passes = record { before = g.before; live = g.live; quiet = still; after = here }

      later : Later v w
      later = move-later b s (state b (entries T)) i v g.step.taken still

      step : InStep w
      step = step-kept b T i s v w g.before here g.step still (subst (λ n. n ≤ upto_of v) (sym (unacked T s v g.before i g.others.0)) g.step.acked)

      client : w.client ≡ v.client
      client = (move-began b s (state b (entries T)) i v).1

      current : AreCurrent b U s w committed copies
      current x o is =
          let c = g.current x o is in
          let split = parts (λ c. has_written c.1 x ≡ true → (nat_eq c.1.session s ≡ false) ⊎ ((get (written c.1) x ≡ Some o) × NoPageWaits v x)) (commits_in b (entries T) i) (commits_behind b U more) (g.own x o is) in
          (current-grown b T i s v w committed x o passes g.step c.1 owed-here none-here split.0 c.0, pages-grown b T i s v w x.page passes c.1)

      still_none : (x : Oref) (o : Obj) (c : ℕ × Request) → (nat_eq c.1.session s ≡ false) ⊎ ((get (written c.1) x ≡ Some o) × NoPageWaits v x) → (nat_eq c.1.session s ≡ false) ⊎ ((get (written c.1) x ≡ Some o) × NoPageWaits w x)
      still_none x o c (inl other) = inl other
      still_none x o c (inr same) = inr (same.0, none-moved b s (state b (entries T)) i v x still (unfetched T s v g.before i g.others.0) same.1)

      rest : session_lives w ≡ true → GrowsByOthers b U more s w committed copies
      rest live = record {
        owed = owed;
        kept = kept;
        before = here;
        live = live;
        step = step;
        others = subst (λ c. ByOthers b c U more) (sym client) g.others.1;
        none_aborted = subst (λ (V : List Item). NoneAborted b (entries V) committed) (sym again) g.none_aborted;
        own = λ x o is. All-weaker (λ c. has_written c.1 x ≡ true → (nat_eq c.1.session s ≡ false) ⊎ ((get (written c.1) x ≡ Some o) × NoPageWaits v x)) (λ c. has_written c.1 x ≡ true → (nat_eq c.1.session s ≡ false) ⊎ ((get (written c.1) x ≡ Some o) × NoPageWaits w x)) (λ c f wrote. still_none x o c (f wrote)) (commits_behind b U more)
            (parts (λ c. has_written c.1 x ≡ true → (nat_eq c.1.session s ≡ false) ⊎ ((get (written c.1) x ≡ Some o) × NoPageWaits v x)) (commits_in b (entries T) i) (commits_behind b U more) (g.own x o is)).1;
        current = current;
      }

      ends : (u : Session) → session b (U ++ more) s ≡ Some u → session_lives u ≡ false → (u : Session) × (session b (T ++ (i ∷ more)) s ≡ Some u) × StaysOrEnds b (T ++ (i ∷ more)) s v committed copies u
      ends u is dead = (u, subst (λ (V : List Item). session b V s ≡ Some u) again is, inl dead)

      on : (u : Session) → session b (U ++ more) s ≡ Some u → StaysOrEnds b (U ++ more) s w committed copies u → (u : Session) × (session b (T ++ (i ∷ more)) s ≡ Some u) × StaysOrEnds b (T ++ (i ∷ more)) s v committed copies u
      on u is (inl dead) = ends u is dead
      on u is (inr k) = (u, subst (λ (V : List Item). session b V s ≡ Some u) again is, inr (k.0, k.1 ∙ later.upto, subst (λ (V : List Item). AreCurrent b V s u committed copies) again k.2))

      by : (session_lives w ≡ true → (u : Session) × (session b (U ++ more) s ≡ Some u) × StaysOrEnds b (U ++ more) s w committed copies u) → (t : Bool) → session_lives w ≡ t → (u : Session) × (session b (T ++ (i ∷ more)) s ≡ Some u) × StaysOrEnds b (T ++ (i ∷ more)) s v committed copies u
      by f true e = let y = f e in on y.0 y.1 y.2
      by f false e = let y = stays-dead U more s w kept here e in ends y.0 y.1 y.2

  pub outlive : (T more : List Item) (s : ℕ) (v : Session) (committed : Ts → Bool) (copies : Map oref_cmp Obj) → GrowsByOthers b T more s v committed copies
      → (w : Session) × (session b (T ++ more) s ≡ Some w) × StaysOrEnds b (T ++ more) s v committed copies w
  outlive T more s v committed copies g = outlive-all T more s v committed copies g
