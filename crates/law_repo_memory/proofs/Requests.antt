-- What is held says what the history says behind a request.
use Rattle.log_entries.specs.declared.entry.Entry.TheVariants.{One, Prepared, Upgraded}
use Rattle.log_entries.specs.declared.request.Request.{Request}
use Rattle.repo_state.specs.Entering.{entered, opened_in, prepared_in}
use Rattle.repo_state.specs.declared.held.Held.{Held}
use Rattle.spec_history.proofs.Places.{placed}
use Rattle.spec_history.specs.History.{Base, Committed, Open, State, known_in, put}
use Rattle.spec_history.specs.Requests.{is_upgrade, text_of}
use Rattle.spec_history.specs.Sound.{Admits, owes}
use Rattle.law_repo_memory.proofs.Moving.{Parts, held-behind, kept-by, max-second, one-came, pages-below, second-at-most-max}
use Rattle.law_repo_memory.proofs.Opens.{open-one, open-prepared, open-upgraded}
use Rattle.law_repo_memory.proofs.Tables.{keeps-in, open-in}
use Rattle.law_repo_memory.proofs.Tops.{later-second, texts-behind, threshold-plain, threshold-upgrade, top-accepted}
use Rattle.law_repo_memory.specs.Agreeing.{HeldAgrees, state_of, trace_of}
use Rattle.law_repo_memory.specs.Tables.{TableAgrees, undecided_request}
use Rattle.spec_trace.specs.Calls.{is_forgotten}
use Rattle.commit_log.specs.Recovered.{page_above}
use Rattle.std.proofs.Common.{Bool, ap, cond, refl, subst, sym, ◌+◌, ◌++◌, ◌<◌, ◌≡◌, ◌≤◌, ◌∙◌}
use Rattle.std.proofs.lemmas.Map.Views.{tells_apart}
use Rattle.std.specs.List.{AllByRecursion, fold}
use Rattle.std.specs.Option.{option_and_then}
use Rattle.std.specs.Ordering.{eq_by_cmp, nat_cmp}
use Rattle.std.specs.Prelude.{None, Option, Some, false, is_some, max, not, true, ◌&&◌}
use Rattle.thor_value.proofs.FiniteMap.{IsSorted-insert}
use Rattle.thor_value.proofs.NameOrders.{ts_exact, ts_total}
use Rattle.thor_value.specs.FiniteMap.{Map, Set, add, get, has, insert}
use Rattle.thor_value.specs.Names.{AtMost, later_of, ts_cmp}
use Rattle.thor_value.specs.declared.names.Ts.{Ts}
use Rattle.repo_trace.specs.Recorded.{Recorded, with_entry}
use Rattle.two_phase.specs.Contents.{Contents, finished, keeps, open_at, request_of}
use Rattle.two_phase.specs.declared.transaction.Transaction.TheVariants as kept
use Rattle.two_phase.specs.declared.transaction.Transaction.{Transaction}
use Rattle.spec_history.proofs.Stamps.{before_at_most}

no-open : (o : Option Transaction) → is_some o ≡ false → option_and_then request_of o ≡ None
no-open None e = refl
no-open (Some v) e = cc

no-keeps : (o : Option Transaction) → is_some o ≡ false → keeps o ≡ false
no-keeps None e = refl
no-keeps (Some v) e = cc

module _ (b : Base) (r : Recorded) (h : Held) (requested : Set ts_cmp) (q : Request) (a : HeldAgrees b r h requested)
    (unkept : has h.table.transactions q.tx ≡ false) (granted : AllByRecursion (λ w. w.0.page < h.next_grant) q.writes) where
  abbrev S : State
  S = state_of b r

  none-open : open_at h.table q.tx ≡ None
  none-open = no-open (get h.table.transactions q.tx) unkept

  none-kept : keeps (get h.table.transactions q.tx) ≡ false
  none-kept = no-keeps (get h.table.transactions q.tx) unkept

  kept-here : (t : Ts) → b.life < t.life → keeps (get h.table.transactions t) ≡ (has S.kept t && not (is_forgotten (trace_of r) t))
  kept-here t l = a.kept t l ∙ kept-by b r a.owed t

  next-here : max h.next_grant (fold page_above h.next_page q.writes) ≡ h.next_grant
  next-here = max-second (fold page_above h.next_page q.writes) h.next_grant (pages-below q.writes h.next_page h.next_grant a.pages granted)

  pages-here : fold page_above h.next_page q.writes ≤ max h.next_grant (fold page_above h.next_page q.writes)
  pages-here = second-at-most-max (fold page_above h.next_page q.writes) h.next_grant

  -- ---- one that is prepared

  opened-table : TableAgrees b (put b S (Prepared q)) (opened_in h.table q)
  opened-table = record {
    sorted = IsSorted-insert ts_total h.table.transactions q.tx (kept.Open q) a.table.sorted;
    undecided = λ t. open-in h.table q.tx (kept.Open q) t ∙ (ap (cond (eq_by_cmp ts_cmp t q.tx) (Some q)) (a.table.undecided t) ∙ sym (open-prepared b S (placed b r.history a.owed.sound) q t));
    alone = a.table.alone;
  }

  opened-kept : (t : Ts) → b.life < t.life → keeps (get (opened_in h.table q).transactions t) ≡ (has S.kept t && not (is_forgotten (trace_of r) t))
  opened-kept t l = keeps-in h.table q.tx (kept.Open q) t ∙ by (eq_by_cmp ts_cmp t q.tx) refl
    where
      by : (x : Bool) → eq_by_cmp ts_cmp t q.tx ≡ x → cond x false (keeps (get h.table.transactions t)) ≡ (has S.kept t && not (is_forgotten (trace_of r) t))
      by true e = sym (subst (λ u. keeps (get h.table.transactions u) ≡ false) (sym (tells_apart ts_exact t q.tx e)) none-kept) ∙ kept-here t l
      by false e = kept-here t l

  abbrev opened : Contents → Held
  opened c = record (prepared_in h q) { table = c; count = h.count + 1 }

  prepared-parts : Parts b r (put b S (Prepared q)) h (opened (opened_in h.table q)) (add requested q.tx)
  prepared-parts = record {
    repo = refl;
    life = a.life;
    count = refl;
    threshold = a.threshold;
    upgrades = a.upgrades;
    table = opened-table;
    kept = opened-kept;
    next = next-here;
    pages = pages-here;
    came = one-came requested S.known q.tx (record { place = S.length; request = q; fate = Open }) a.came;
  }

  entered-prepared : opened (opened_in h.table q) ≡ entered h (Prepared q)
  entered-prepared = sym (ap (λ o. opened (opened_in (finished h.table q.tx o) q)) none-open)

  pub held-prepared : owes b S (Prepared q) → HeldAgrees b (with_entry r (Prepared q)) (entered h (Prepared q)) (add requested q.tx)
  held-prepared ow = held-behind b r h requested (Prepared q) (entered h (Prepared q)) (add requested q.tx) a ow
      (subst (λ n. Parts b r (put b S (Prepared q)) h n (add requested q.tx)) entered-prepared prepared-parts)

  -- ---- one that commits here alone

  none-here : (t : Ts) → eq_by_cmp ts_cmp t q.tx ≡ true → undecided_request (known_in b S t) ≡ None
  none-here t e = subst (λ u. undecided_request (known_in b S u) ≡ None) (sym (tells_apart ts_exact t q.tx e)) (sym (a.table.undecided q.tx) ∙ none-open)

  same-open : (t : Ts) → undecided_request (known_in b S t) ≡ cond (eq_by_cmp ts_cmp t q.tx) None (undecided_request (known_in b S t))
  same-open t = by (eq_by_cmp ts_cmp t q.tx) refl
    where
      by : (x : Bool) → eq_by_cmp ts_cmp t q.tx ≡ x → undecided_request (known_in b S t) ≡ cond x None (undecided_request (known_in b S t))
      by true e = none-here t e
      by false e = refl

  abbrev alone_table : Contents
  alone_table = record h.table { alone = insert h.table.alone q.who.client q.tx }

  one-parts : is_upgrade q ≡ false → Parts b r (put b S (One q)) h (entered h (One q)) (add requested q.tx)
  one-parts kind = record {
    repo = refl;
    life = a.life;
    count = refl;
    threshold = threshold-plain h.threshold q.kind q.tx kind ∙ ap (λ u. later_of u q.tx) a.threshold;
    upgrades = texts-behind h.upgrades q.kind ∙ ap (λ ts. ts ++ text_of q.kind) a.upgrades;
    table = record {
      sorted = a.table.sorted;
      undecided = λ t. a.table.undecided t ∙ (same-open t ∙ sym (open-one b S q t));
      alone = ap (λ (m : Map nat_cmp Ts). insert m q.who.client q.tx) a.table.alone;
    };
    kept = kept-here;
    next = next-here;
    pages = pages-here;
    came = one-came requested S.known q.tx (record { place = S.length; request = q; fate = Committed S.length }) a.came;
  }

  pub held-one : owes b S (One q) → HeldAgrees b (with_entry r (One q)) (entered h (One q)) (add requested q.tx)
  held-one ow = held-behind b r h requested (One q) (entered h (One q)) (add requested q.tx) a ow (one-parts ow.2)

  upgraded-parts : Admits b S q → is_upgrade q ≡ true → Parts b r (put b S (Upgraded q)) h (entered h (Upgraded q)) (add requested q.tx)
  upgraded-parts ad kind =
      let above : AtMost b.top q.tx = before_at_most b.top q.tx ad.above in
      record {
        repo = refl;
        life = a.life;
        count = refl;
        threshold = threshold-upgrade h.threshold q.kind q.tx kind ∙ sym (later-second S.top q.tx (top-accepted b r.history a.owed.sound q above kind ad.accepted));
        upgrades = texts-behind h.upgrades q.kind ∙ ap (λ ts. ts ++ text_of q.kind) a.upgrades;
        table = record {
          sorted = a.table.sorted;
          undecided = λ t. a.table.undecided t ∙ (same-open t ∙ sym (open-upgraded b S q t));
          alone = ap (λ (m : Map nat_cmp Ts). insert m q.who.client q.tx) a.table.alone;
        };
        kept = kept-here;
        next = next-here;
        pages = pages-here;
        came = one-came requested S.known q.tx (record { place = S.length; request = q; fate = Committed S.length }) a.came;
      }

  pub held-upgraded : owes b S (Upgraded q) → HeldAgrees b (with_entry r (Upgraded q)) (entered h (Upgraded q)) (add requested q.tx)
  held-upgraded ow = held-behind b r h requested (Upgraded q) (entered h (Upgraded q)) (add requested q.tx) a ow (upgraded-parts ow.0 ow.2)
