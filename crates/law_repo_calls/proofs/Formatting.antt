-- A new repository, behind its formatting.
use Rattle.class_defs.specs.declared.store.Setup.{Setup}
use Rattle.log_entries.specs.declared.entry.Entry.TheVariants.{Life}
use Rattle.repo_state.specs.declared.held.Held.{Held}
use Rattle.spec_history.specs.History.{Base}
use Rattle.log_codec.specs.declared.state.State.{State}
use Rattle.repo_core.specs.Restarting.{IsNew}
use Rattle.repo_core.specs.Shown.{Shown}
use Rattle.law_repo_calls.proofs.Restarts.{opening}
use Rattle.law_repo_calls.specs.Seen.{StandsRight}
use Rattle.law_repo_calls.specs.Vouching.{IsBase, IsNewBase}
use Rattle.std.proofs.Common.{Err, List, Ok, Result, [], ◌∷◌, ap, arith, refl, subst, sym, true, ℕ, ◌+◌, ◌∙◌, ◌≡◌, ◌≤◌}
use Rattle.std.specs.List.Sorted.{IsStrictlySortedBy}
use Rattle.std.specs.Map.{keys_of, values_of}
use Rattle.std.specs.Prelude.{IfOk, option_and_then}
use Rattle.repo_format.specs.Fresh.{IsFresh, page_count}
use Rattle.thor_value.specs.FiniteMap.{IsSorted, Map, empty, get}
use Rattle.thor_value.specs.Names.{ts_cmp}
use Rattle.thor_value.specs.declared.names.Ts.{Ts}
use Rattle.repo_trace.specs.Recorded.{nothing, with_entry}
use Rattle.two_phase.specs.Contents.{keeps, request_of}
use Rattle.two_phase.specs.Lists.{decision_of, those}
use Rattle.two_phase.specs.declared.transaction.Transaction.TheVariants as kept
use Rattle.two_phase.specs.declared.transaction.Transaction.{Transaction}

-- a table in which nothing is open and no decision is kept has no transaction
no_transaction : (es : List (Ts × Transaction)) → values_of (those request_of es) ≡ [] → keys_of (those decision_of es) ≡ [] → es ≡ []
no_transaction [] prepared decided = refl
no_transaction ((t, kept.Open q) ∷ es) prepared decided = absurd (cc)
no_transaction ((t, kept.Kept) ∷ es) prepared decided = absurd (cc)

abbrev none : Map ts_cmp Transaction
none = empty

none_sorted : IsSorted none
unfolding IsStrictlySortedBy
none_sorted = tt

module _ (repo repos : ℕ) (setup : Setup) (mob : ℕ) (h : Held) (is : IsFresh repo repos setup mob h) where
  transactions : h.table.transactions ≡ empty
  transactions = ap (λ (es : List (Ts × Transaction)). record { pairs = es }) (no_transaction h.table.transactions.pairs (ap (λ (s : State). s.prepared) is.said) (ap (λ (s : State). s.kept) is.said))

  next : h.next_page ≤ h.next_grant
  next =
      let a : h.next_page ≡ page_count repo setup.roots = ap (λ (s : State). s.next_page) is.said in
      omega (arith, a, is.granted)

  is_base : (b : Base) → IsNewBase repo setup mob b → IsBase b h
  is_base b base = record {
    silence = base.silence;
    begins = record {
      repo = ap (λ (s : State). s.repo) is.said ∙ sym base.number;
      life = ap (λ (s : State). s.life) is.said ∙ sym base.life;
      count = ap (λ (s : State). s.count) is.said ∙ sym base.count;
      threshold = ap (λ (s : State). s.threshold) is.said ∙ sym base.top;
      upgrades = ap (λ (s : State). s.upgrades) is.said ∙ sym base.texts;
      sorted = subst (λ (m : Map ts_cmp Transaction). IsSorted m) (sym transactions) none_sorted;
      others = λ t other. ap (λ (m : Map ts_cmp Transaction). option_and_then request_of (get m t)) transactions;
      kept = λ t later. ap (λ (m : Map ts_cmp Transaction). keeps (get m t)) transactions;
      alone = ap (λ es. record { pairs = es }) (ap (λ (s : State). s.alone) is.said) ∙ sym base.alone;
      left = λ t. ap (λ m. get m t) base.left;
      next = is.granted ∙ sym base.next_page;
      pages = next;
    };
    limit = is.limit ∙ sym base.limit;
  }

pub formatted_right : (b : Base) (repo repos : ℕ) (setup : Setup) (mob : ℕ) {P E : Type 0} (view : P → Shown) (result : Result P E) → IsNewBase repo setup mob b
    → IfOk result (λ x. (view x).is_up ≡ true) → IfOk result (λ x. (view x).trace ≡ with_entry nothing (Life 1)) → IfOk result (λ x. IsNew repo repos setup mob (view x)) → IfOk result (λ x. StandsRight b (view x))
formatted_right b repo repos setup mob view (Ok x) base up trace new =
    let life : new.fresh.life ≡ 0 = ap (λ (s : State). s.life) new.is.said in
    opening b new.fresh (view x) (is_base repo repos setup mob new.fresh new.is b base) up (trace ∙ ap (λ (n : ℕ). with_entry nothing (Life (n + 1))) (sym life)) new.begins
formatted_right b repo repos setup mob view (Err e) base up trace new = tt
