-- What is held says what the history says behind the decision on a transaction that is undecided.
use Rattle.log_entries.specs.declared.entry.Entry.TheVariants.{Decided, Finished}
use Rattle.log_entries.specs.declared.entry.Entry.{Entry}
use Rattle.log_entries.specs.declared.request.Request.{Request}
use Rattle.repo_state.specs.Entering.{decided_by, entered, finished_by}
use Rattle.repo_state.specs.declared.held.Held.{Held}
use Rattle.spec_history.proofs.Prefixes.{above_base}
use Rattle.spec_history.proofs.Stamps.{before_at_most}
use Rattle.spec_history.proofs.Places.{placed}
use Rattle.spec_history.proofs.Telling.{tell}
use Rattle.spec_history.proofs.Making.{make}
use Rattle.spec_history.proofs.Listed.{some_and}
use Rattle.spec_history.specs.History.{Aborted, Base, Committed, Fate, Known, Open, State, commit, known_by, known_in, put, settle, state}
use Rattle.spec_history.specs.Outcomes.{EntriesMake, EntriesTell, SettledAt}
use Rattle.spec_history.specs.Requests.{is_upgrade, text_of}
use Rattle.spec_history.specs.Sound.{owes, sound}
use Rattle.law_repo_memory.proofs.Moving.{Parts, held-behind, kept-by, none-came}
use Rattle.law_repo_memory.proofs.Opens.{open-settled, undecided-some}
use Rattle.law_repo_memory.proofs.Settled.{aborted_at, decided-false, decided-true, finished-false, finished-true}
use Rattle.law_repo_memory.proofs.Tables.{keeps-in, keeps-out, open-in, open-out}
use Rattle.law_repo_memory.proofs.Tops.{later-second, texts-behind, threshold-plain, threshold-upgrade, top-open}
use Rattle.law_repo_memory.specs.Agreeing.{HeldAgrees, state_of, trace_of}
use Rattle.law_repo_memory.specs.Tables.{TableAgrees, undecided_request}
use Rattle.spec_trace.specs.Calls.{is_forgotten}
use Rattle.commit_log.specs.Recovered.{texts_after, threshold_after}
use Rattle.std.proofs.Common.{Bool, List, ap, cond, inl, inr, refl, subst, sym, ℕ, ◌+◌, ◌++◌, ◌<◌, ◌≡◌, ◌∙◌}
use Rattle.std.proofs.lemmas.Map.Views.{tells_apart}
use Rattle.std.proofs.lemmas.Option.{same_Some}
use Rattle.mob_flusher.specs.Map.{with_writes}
use Rattle.std.specs.Option.{IsSome, option_and_then}
use Rattle.std.specs.Ordering.{eq_by_cmp}
use Rattle.std.specs.Prelude.{None, Option, Some, false, is_some, not, true, ◌&&◌}
use Rattle.thor_value.proofs.FiniteMap.{IsSorted-insert, IsSorted-remove, get-insert}
use Rattle.thor_value.proofs.NameOrders.{ts_exact, ts_total}
use Rattle.thor_value.specs.FiniteMap.{Set, add, get, has, insert, keep}
use Rattle.thor_value.specs.Names.{AtMost, later_of, same_ts, ts_cmp}
use Rattle.thor_value.specs.declared.names.Ts.{Ts}
use Rattle.repo_trace.specs.Recorded.{Recorded, with_entry}
use Rattle.two_phase.specs.Contents.{Contents, keeping, keeps, open_at, request_of, without}
use Rattle.two_phase.specs.declared.transaction.Transaction.TheVariants as kept
use Rattle.two_phase.specs.declared.transaction.Transaction.{Transaction}

-- ---- decisions

is_some_from : {X : Type 0} (o : Option X) → is_some o ≡ true → IsSome o
is_some_from None e = cc
is_some_from (Some x) e = refl

not_settled_open : {A : Type 0} (m : ℕ) (f : Fate) → f ≡ Open → SettledAt m true f → A
not_settled_open m f e k = let x : Open ≡ Committed m = sym e ∙ k in cc

-- a transaction whose decision to commit is kept isn't undecided
kept_not_open : {A : Type 0} (b : Base) (H : List Entry) → sound b H → (t : Ts) (o : Known) → known_by b H t ≡ Some o → o.fate ≡ Open → has (state b H).kept t ≡ true → A
kept_not_open b H sd t o is at_first h =
    let made : EntriesMake b H = make b H sd in
    let told : EntriesTell b H = tell b H sd in
    let at = (made.kept t).0 (is_some_from (get (state b H).kept t) h) in
    elim (told.settled at.0 (Decided t true) t true at.1 (refl, refl)) [
      | inl s ↦
          let y = some_and (known_by b H t) _ s in
          let one : y.0 ≡ o = same_Some y.0 o (sym y.1 ∙ is) in
          not_settled_open at.0 y.0.fate (ap (λ (k : Known). k.fate) one ∙ at_first) y.2.1
      | inr l ↦ (let e : None ≡ Some o = sym l.1 ∙ is in cc)
    ]

keeps-no-open : (o : Option Transaction) (q : Request) → option_and_then request_of o ≡ Some q → keeps o ≡ false
keeps-no-open None q e = cc
keeps-no-open (Some (kept.Open p)) q e = refl
keeps-no-open (Some kept.Kept) q e = cc

module _ (b : Base) (r : Recorded) (h : Held) (requested : Set ts_cmp) (t : Ts) (q : Request) (a : HeldAgrees b r h requested) (there : open_at h.table t ≡ Some q) where
  abbrev S : State
  S = state_of b r

  found : (p : Known) × (known_in b S t ≡ Some p) × (p.fate ≡ Open) × (p.request ≡ q)
  found = undecided-some b S (known_in b S t) q (sym (a.table.undecided t) ∙ there)

  none-kept : keeps (get h.table.transactions t) ≡ false
  none-kept = keeps-no-open (get h.table.transactions t) q there

  kept-here : (u : Ts) → b.life < u.life → keeps (get h.table.transactions u) ≡ (has S.kept u && not (is_forgotten (trace_of r) u))
  kept-here u l = a.kept u l ∙ kept-by b r a.owed u

  pub named : q.tx ≡ t
  named = let p = found in ap (λ (x : Request). x.tx) (sym p.3) ∙ ((placed b r.history a.owed.sound).fits t p.0 p.1).named

  -- the threshold behind its commit
  threshold-here : threshold_after h.threshold q.kind q.tx ≡ later_of S.top q.tx
  threshold-here = by (is_upgrade q) refl
    where
      by : (x : Bool) → is_upgrade q ≡ x → threshold_after h.threshold q.kind q.tx ≡ later_of S.top q.tx
      by false e = threshold-plain h.threshold q.kind q.tx e ∙ ap (λ u. later_of u q.tx) a.threshold
      by true e =
          let p = found in
          let top : AtMost S.top t = top-open b r.history a.owed.sound t p.0 (before_at_most b.top t (above_base b r.history a.owed.sound t p.0 p.1)) p.1 p.2 (ap is_upgrade p.3 ∙ e) in
          threshold-upgrade h.threshold q.kind q.tx e ∙ sym (later-second S.top q.tx (subst (AtMost S.top) (sym named) top))

  not-forgotten : is_forgotten (trace_of r) t ≡ false
  not-forgotten = by (is_forgotten (trace_of r) t) refl
    where
      by : (x : Bool) → is_forgotten (trace_of r) t ≡ x → x ≡ false
      by false e = refl
      by true e = let p = found in kept_not_open b r.history a.owed.sound t p.0 p.1 p.2 (a.owed.forgotten t e)

  -- ---- what becomes of the table

  gone-kept : (u : Ts) → b.life < u.life → keeps (get (without h.table t).transactions u) ≡ (has S.kept u && not (is_forgotten (trace_of r) u))
  gone-kept u l = keeps-out h.table t u a.table.sorted ∙ by (eq_by_cmp ts_cmp u t) refl
    where
      by : (x : Bool) → eq_by_cmp ts_cmp u t ≡ x → cond x false (keeps (get h.table.transactions u)) ≡ (has S.kept u && not (is_forgotten (trace_of r) u))
      by true e = sym (subst (λ v. keeps (get h.table.transactions v) ≡ false) (sym (tells_apart ts_exact u t e)) none-kept) ∙ kept-here u l
      by false e = kept-here u l

  kept-kept : (u : Ts) → b.life < u.life → keeps (get (keeping h.table t).transactions u) ≡ (has (add S.kept t) u && not (is_forgotten (trace_of r) u))
  kept-kept u l =
      keeps-in h.table t kept.Kept u
      ∙ (by (eq_by_cmp ts_cmp u t) refl
      ∙ ap (λ x. x && not (is_forgotten (trace_of r) u)) (sym (ap is_some (get-insert ts_total S.kept t tt u) ∙ some_cond (eq_by_cmp ts_cmp u t))))
    where
      some_cond : (x : Bool) → is_some (cond x (Some tt) (get S.kept u)) ≡ cond x true (has S.kept u)
      some_cond true = refl
      some_cond false = refl

      by : (x : Bool) → eq_by_cmp ts_cmp u t ≡ x → cond x true (keeps (get h.table.transactions u)) ≡ (cond x true (has S.kept u) && not (is_forgotten (trace_of r) u))
      by true e = sym (ap not (subst (λ v. is_forgotten (trace_of r) v ≡ false) (sym (tells_apart ts_exact u t e)) not-forgotten))
      by false e = kept-here u l

  open-gone : (u : Ts) → open_at (without h.table t) u ≡ cond (eq_by_cmp ts_cmp u t) None (undecided_request (known_in b S u))
  open-gone u = open-out h.table t u a.table.sorted ∙ ap (cond (eq_by_cmp ts_cmp u t) None) (a.table.undecided u)

  open-kept : (u : Ts) → open_at (keeping h.table t) u ≡ cond (eq_by_cmp ts_cmp u t) None (undecided_request (known_in b S u))
  open-kept u = open-in h.table t kept.Kept u ∙ ap (cond (eq_by_cmp ts_cmp u t) None) (a.table.undecided u)

  settled-here : (c : Bool) (u : Ts) → undecided_request (known_in b (settle S t c (known_in b S t)) u) ≡ cond (eq_by_cmp ts_cmp u t) None (undecided_request (known_in b S u))
  settled-here c u = let p = found in open-settled b S t c p.0 p.1 p.2 u

  -- ---- what is held behind it

  abbrev aborted : Held
  aborted = record h { table = without h.table t; count = h.count + 1 }

  abbrev committed : Contents → Held
  committed c = record h { objects = with_writes h.objects q.writes; threshold = threshold_after h.threshold q.kind q.tx; upgrades = texts_after h.upgrades q.kind; table = c; count = h.count + 1 }

  -- the parts but for the table, where it commits and where it is aborted
  committed-parts : (c : Contents) (Z : State) → Z.life ≡ S.life → Z.top ≡ later_of S.top q.tx → Z.texts ≡ S.texts ++ text_of q.kind → TableAgrees b Z c
      → ((u : Ts) → b.life < u.life → keeps (get c.transactions u) ≡ (has Z.kept u && not (is_forgotten (trace_of r) u)))
      → ((u : Ts) → is_some (get S.known u) ≡ is_some (get Z.known u)) → Parts b r Z h (committed c) requested
  committed-parts c Z life top texts table keeps came = record {
    repo = refl;
    life = a.life ∙ sym life;
    count = refl;
    threshold = threshold-here ∙ sym top;
    upgrades = texts-behind h.upgrades q.kind ∙ (ap (λ ts. ts ++ text_of q.kind) a.upgrades ∙ sym texts);
    table = table;
    kept = keeps;
    next = refl;
    pages = a.pages;
    came = λ u k. a.came u (came u ∙ k);
  }

  aborted-parts : (Z : State) → Z.life ≡ S.life → Z.top ≡ S.top → Z.texts ≡ S.texts → TableAgrees b Z (without h.table t)
      → ((u : Ts) → b.life < u.life → keeps (get (without h.table t).transactions u) ≡ (has Z.kept u && not (is_forgotten (trace_of r) u)))
      → ((u : Ts) → is_some (get S.known u) ≡ is_some (get Z.known u)) → Parts b r Z h aborted requested
  aborted-parts Z life top texts table keeps came = record {
    repo = refl;
    life = a.life ∙ sym life;
    count = refl;
    threshold = a.threshold ∙ sym top;
    upgrades = a.upgrades ∙ sym texts;
    table = table;
    kept = keeps;
    next = refl;
    pages = a.pages;
    came = λ u k. a.came u (came u ∙ k);
  }

  came : (p : Known) → known_in b S t ≡ Some p → (w : Known) (u : Ts) → is_some (get S.known u) ≡ is_some (get (insert S.known t w) u)
  came p is w u = none-came b S t p w is u

  pub parts-decided-true : Parts b r (put b S (Decided t true)) h (committed (keeping h.table t)) requested
  parts-decided-true =
      let p = found in
      let Z : State = record (commit S t p.0.place p.0.request) { kept = add S.kept t; length = S.length + 1 } in
      let same : put b S (Decided t true) ≡ Z = decided-true b S t p.0 p.1 p.2 in
      let w : Known = record { place = p.0.place; request = p.0.request; fate = Committed S.length } in
      subst (λ (Y : State). Parts b r Y h (committed (keeping h.table t)) requested) (sym same)
      (committed-parts (keeping h.table t) Z refl (ap (λ (x : Request). later_of S.top x.tx) p.3) (ap (λ (x : Request). S.texts ++ text_of x.kind) p.3)
      (record {
        sorted = IsSorted-insert ts_total h.table.transactions t kept.Kept a.table.sorted;
        undecided = λ u. open-kept u ∙ sym (subst (λ (Y : State). undecided_request (known_in b Y u) ≡ cond (eq_by_cmp ts_cmp u t) None (undecided_request (known_in b S u))) same (settled-here true u));
        alone = a.table.alone;
      }) kept-kept (came p.0 p.1 w))

  pub parts-decided-false : Parts b r (put b S (Decided t false)) h aborted requested
  parts-decided-false =
      let p = found in
      let Z : State = record (aborted_at S t p.0) { length = S.length + 1 } in
      let same : put b S (Decided t false) ≡ Z = decided-false b S t p.0 p.1 p.2 in
      subst (λ (Y : State). Parts b r Y h aborted requested) (sym same)
      (aborted-parts Z refl refl refl
      (record {
        sorted = IsSorted-remove ts_cmp h.table.transactions t a.table.sorted;
        undecided = λ u. open-gone u ∙ sym (subst (λ (Y : State). undecided_request (known_in b Y u) ≡ cond (eq_by_cmp ts_cmp u t) None (undecided_request (known_in b S u))) same (settled-here false u));
        alone = a.table.alone;
      }) gone-kept (came p.0 p.1 (record p.0 { fate = Aborted })))

  pub parts-finished-true : Parts b r (put b S (Finished t true)) h (committed (without h.table t)) requested
  parts-finished-true =
      let p = found in
      let Z : State = record (commit S t p.0.place p.0.request) { left = keep S.left (λ u. not (same_ts u t)); length = S.length + 1 } in
      let same : put b S (Finished t true) ≡ Z = finished-true b S t p.0 p.1 p.2 in
      let w : Known = record { place = p.0.place; request = p.0.request; fate = Committed S.length } in
      subst (λ (Y : State). Parts b r Y h (committed (without h.table t)) requested) (sym same)
      (committed-parts (without h.table t) Z refl (ap (λ (x : Request). later_of S.top x.tx) p.3) (ap (λ (x : Request). S.texts ++ text_of x.kind) p.3)
      (record {
        sorted = IsSorted-remove ts_cmp h.table.transactions t a.table.sorted;
        undecided = λ u. open-gone u ∙ sym (subst (λ (Y : State). undecided_request (known_in b Y u) ≡ cond (eq_by_cmp ts_cmp u t) None (undecided_request (known_in b S u))) same (settled-here true u));
        alone = a.table.alone;
      }) gone-kept (came p.0 p.1 w))

  pub parts-finished-false : Parts b r (put b S (Finished t false)) h aborted requested
  parts-finished-false =
      let p = found in
      let Z : State = record (aborted_at S t p.0) { left = keep S.left (λ u. not (same_ts u t)); length = S.length + 1 } in
      let same : put b S (Finished t false) ≡ Z = finished-false b S t p.0 p.1 p.2 in
      subst (λ (Y : State). Parts b r Y h aborted requested) (sym same)
      (aborted-parts Z refl refl refl
      (record {
        sorted = IsSorted-remove ts_cmp h.table.transactions t a.table.sorted;
        undecided = λ u. open-gone u ∙ sym (subst (λ (Y : State). undecided_request (known_in b Y u) ≡ cond (eq_by_cmp ts_cmp u t) None (undecided_request (known_in b S u))) same (settled-here false u));
        alone = a.table.alone;
      }) gone-kept (came p.0 p.1 (record p.0 { fate = Aborted })))

  pub held-decided : (c : Bool) → owes b S (Decided t c) → HeldAgrees b (with_entry r (Decided t c)) (entered h (Decided t c)) requested
  held-decided true ow = held-behind b r h requested (Decided t true) (entered h (Decided t true)) requested a ow
      (subst (λ o. Parts b r (put b S (Decided t true)) h (record (decided_by h t true o) { count = h.count + 1 }) requested) (sym there) parts-decided-true)
  held-decided false ow = held-behind b r h requested (Decided t false) (entered h (Decided t false)) requested a ow
      (subst (λ o. Parts b r (put b S (Decided t false)) h (record (decided_by h t false o) { count = h.count + 1 }) requested) (sym there) parts-decided-false)

  pub held-finished : (c : Bool) → owes b S (Finished t c) → HeldAgrees b (with_entry r (Finished t c)) (entered h (Finished t c)) requested
  held-finished true ow = held-behind b r h requested (Finished t true) (entered h (Finished t true)) requested a ow
      (subst (λ o. Parts b r (put b S (Finished t true)) h (record (finished_by h t true o) { count = h.count + 1 }) requested) (sym there) parts-finished-true)
  held-finished false ow = held-behind b r h requested (Finished t false) (entered h (Finished t false)) requested a ow
      (subst (λ o. Parts b r (put b S (Finished t false)) h (record (finished_by h t false o) { count = h.count + 1 }) requested) (sym there) parts-finished-false)
