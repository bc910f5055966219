-- A queue into which the open requests of a table are put, one behind the other.
use Rattle.log_entries.specs.declared.request.Request.{Request}
use Rattle.repo_state.specs.Keeps.{TableFits}
use Rattle.spec_history.proofs.Meeting.{in_order}
use Rattle.law_repo_memory.proofs.Maps.{same-key}
use Rattle.law_repo_memory.proofs.Walking.{IsFirst, walk-none, walk-some}
use Rattle.law_repo_memory.specs.Coming.{Reopens, ReopensTo, reopened}
use Rattle.std.proofs.Common.{Bool, ap, cond, inl, inr, refl, subst, sym, ℕ, ◌≡◌, ◌∙◌}
use Rattle.std.specs.List.Sorted.{IsStrictlySortedBy}
use Rattle.std.specs.Ordering.{eq_by_cmp, is_eq, is_lt, ordering_reverse}
use Rattle.std.specs.Prelude.{None, Option, Some, false, nat_eq, true}
use Rattle.std.specs.declared.cmp.Ordering.TheVariants.{Equal, Greater, Less}
use Rattle.std.specs.declared.cmp.Ordering.{Ordering}
use Rattle.thor_value.proofs.FiniteMap.{IsSorted-insert, get-insert}
use Rattle.thor_value.proofs.NameOrders.{not_before_itself, ts_total}
use Rattle.thor_value.specs.FiniteMap.{IsSorted, Set, empty, get, has}
use Rattle.thor_value.specs.Names.{Before, ts_cmp}
use Rattle.thor_value.specs.declared.names.Ts.{Ts}
use Rattle.two_phase.specs.Contents as table
use Rattle.two_phase.specs.Contents.{open_at}
use Rattle.two_phase.specs.Walks.{behind, first_open, is_past}
use Rattle.validation_queue.specs.Contents.{Contents, cleared, member, with_one}
use Rattle.validation_queue.specs.declared.member.Member as queued
use Rattle.repo_volatile.specs.Volatile.{Memory, transaction_of}

none_sorted : IsSorted {R = ts_cmp} (empty {X = queued.Member})
unfolding IsStrictlySortedBy
none_sorted = tt

none_of : (x y : Bool) → ◌≡◌ {A = Option queued.Member} (cond x None (cond y None None)) None
none_of true y = refl
none_of false true = refl
none_of false false = refl

-- nothing is open, so nothing is reopened
reopened-none : (repo : ℕ) (m : Set ts_cmp) (t : Ts) (o : Option Request) → o ≡ None → reopened repo m t o ≡ None
reopened-none repo m t o e = ap (reopened repo m t) e ∙ none_of (nat_eq t.repo repo) (has m t)

before_lt : (t u : Ts) → Before t u → is_lt (ts_cmp t u) ≡ true
before_lt t u e = ap is_lt e

after_not_lt : (t u : Ts) → Before t u → is_lt (ts_cmp u t) ≡ false
after_not_lt t u e = ap is_lt (ts_total.antisymm u t ∙ ap ordering_reverse e)

itself_not_lt : (t : Ts) → is_lt (ts_cmp t t) ≡ false
itself_not_lt t = by (ts_cmp t t) refl
  where
    by : (o : Ordering) → ts_cmp t t ≡ o → is_lt o ≡ false
    by Less e = absurd (not_before_itself t e)
    by Equal e = refl
    by Greater e = refl

other_key : (t u : Ts) → Before t u → eq_by_cmp ts_cmp t u ≡ false
other_key t u e = ap is_eq e

other_key_after : (t u : Ts) → Before t u → eq_by_cmp ts_cmp u t ≡ false
other_key_after t u e = ap is_eq (ts_total.antisymm u t ∙ ap ordering_reverse e)

-- what is above one that is past is past
past_on : (after : Option Ts) (t u : Ts) → is_past ts_cmp after t ≡ true → Before t u → is_past ts_cmp after u ≡ true
past_on None t u h e = refl
past_on (Some a) t u h e = before_lt a u (ts_total.trans a t u (less (ts_cmp a t) h) e)
  where
    less : (o : Ordering) → is_lt o ≡ true → o ≡ Less
    less Less k = refl
    less Equal k = cc
    less Greater k = cc

module _ (repo : ℕ) (c : table.Contents) (M : Memory) where
  pub reopens-begin : (u : Ts) → M.queue ≡ cleared u → ReopensTo repo c M M None
  reopens-begin u e = record {
    threshold = refl;
    sorted = subst (λ (Q : Contents). IsSorted Q.members) (sym e) none_sorted;
    members = λ t. ap (λ (Q : Contents). get Q.members t) e;
    requested = refl;
    drawn = refl;
  }

  module _ (own : ℕ) (fits : TableFits own c) (N : Memory) (after : Option Ts) (to : ReopensTo repo c M N after) where
    pub reopens-end : first_open (behind ts_cmp after c.transactions.pairs) ≡ None → Reopens repo c M N
    reopens-end none = record {
      threshold = to.threshold;
      sorted = to.sorted;
      members = λ t. by t (is_past ts_cmp after t) refl;
      requested = to.requested;
      drawn = to.drawn;
    }
      where
        by : (t : Ts) (x : Bool) → is_past ts_cmp after t ≡ x → get N.queue.members t ≡ reopened repo M.requested t (open_at c t)
        by t true e = to.members t ∙ (ap (λ y. cond y None (reopened repo M.requested t (open_at c t))) e ∙ sym (reopened-none repo M.requested t (open_at c t) (walk-none own (is_past ts_cmp after) c.transactions.pairs fits.sorted none t e)))
        by t false e = to.members t ∙ ap (λ y. cond y None (reopened repo M.requested t (open_at c t))) e

    -- one more request is walked over, and the queue has it where it stays undecided and came
    module _ (q : Request) (found : first_open (behind ts_cmp after c.transactions.pairs) ≡ Some q) where
      first : IsFirst (is_past ts_cmp after) c.transactions.pairs q
      first = walk-some own (is_past ts_cmp after) c.transactions.pairs fits.sorted fits.each q found

      -- a queue with another member at its timestamp
      step : (K : Memory) → K.queue.threshold ≡ N.queue.threshold → IsSorted K.queue.members → K.requested ≡ N.requested → K.drawn ≡ N.drawn → get K.queue.members q.tx ≡ reopened repo M.requested q.tx (Some q)
          → ((t : Ts) → eq_by_cmp ts_cmp t q.tx ≡ false → get K.queue.members t ≡ get N.queue.members t) → ReopensTo repo c M K (Some q.tx)
      step K threshold sorted requested drawn here others = record {
        threshold = threshold ∙ to.threshold;
        sorted = sorted;
        members = λ t. elim (in_order t q.tx) [
          | inl e ↦
              others t (other_key t q.tx e) ∙ (below t e (is_past ts_cmp after t) refl ∙ sym (ap (λ y. cond y None (reopened repo M.requested t (open_at c t))) (after_not_lt t q.tx e)))
          | inr h ↦ elim h [
            | inl same ↦
                subst (λ u. get K.queue.members u ≡ cond (is_lt (ts_cmp q.tx u)) None (reopened repo M.requested u (open_at c u))) (sym same)
                (here ∙ (ap (reopened repo M.requested q.tx) (sym first.there) ∙ sym (ap (λ y. cond y None (reopened repo M.requested q.tx (open_at c q.tx))) (itself_not_lt q.tx))))
            | inr e ↦
                others t (other_key_after q.tx t e) ∙ (to.members t
                ∙ (ap (λ y. cond y None (reopened repo M.requested t (open_at c t))) (past_on after q.tx t first.passes e)
                ∙ sym (ap (λ y. cond y None (reopened repo M.requested t (open_at c t))) (before_lt q.tx t e))))
          ]
        ];
        requested = requested ∙ to.requested;
        drawn = drawn ∙ to.drawn;
      }
        where
          below : (t : Ts) → Before t q.tx → (x : Bool) → is_past ts_cmp after t ≡ x → get N.queue.members t ≡ reopened repo M.requested t (open_at c t)
          below t e true p = to.members t ∙ (ap (λ y. cond y None (reopened repo M.requested t (open_at c t))) p ∙ sym (reopened-none repo M.requested t (open_at c t) (first.first t p e)))
          below t e false p = to.members t ∙ ap (λ y. cond y None (reopened repo M.requested t (open_at c t))) p

      none-here : get N.queue.members q.tx ≡ None
      none-here = to.members q.tx ∙ ap (λ y. cond y None (reopened repo M.requested q.tx (open_at c q.tx))) first.passes

      pub reopens-own : nat_eq q.tx.repo repo ≡ true → ReopensTo repo c M N (Some q.tx)
      reopens-own mine = step N refl to.sorted refl refl
          (none-here ∙ sym (ap (λ y. cond y None (cond (has M.requested q.tx) (Some (member (transaction_of q) false)) None)) mine)) (λ t e. refl)

      pub reopens-other : nat_eq q.tx.repo repo ≡ false → (K : Memory) → K.queue ≡ cond (has N.requested q.tx) (with_one N.queue (transaction_of q) false) N.queue → K.requested ≡ N.requested → K.drawn ≡ N.drawn → ReopensTo repo c M K (Some q.tx)
      reopens-other other K queue requested drawn = by (has N.requested q.tx) refl
        where
          value : (x : Bool) → has N.requested q.tx ≡ x → cond x (Some (member (transaction_of q) false)) None ≡ reopened repo M.requested q.tx (Some q)
          value x e =
              sym (ap (λ y. cond y None (cond (has M.requested q.tx) (Some (member (transaction_of q) false)) None)) other
              ∙ ap (λ y. cond y (Some (member (transaction_of q) false)) None) (sym (ap (λ (m : Set ts_cmp). has m q.tx) to.requested) ∙ e))

          by : (x : Bool) → has N.requested q.tx ≡ x → ReopensTo repo c M K (Some q.tx)
          by true e =
              let is : K.queue ≡ with_one N.queue (transaction_of q) false = queue ∙ ap (λ y. cond y (with_one N.queue (transaction_of q) false) N.queue) e in
              step K (ap (λ (Q : Contents). Q.threshold) is) (subst (λ (Q : Contents). IsSorted Q.members) (sym is) (IsSorted-insert ts_total N.queue.members q.tx (member (transaction_of q) false) to.sorted)) requested drawn
              (ap (λ (Q : Contents). get Q.members q.tx) is ∙ (get-insert ts_total N.queue.members q.tx (member (transaction_of q) false) q.tx
              ∙ (ap (λ y. cond y (Some (member (transaction_of q) false)) (get N.queue.members q.tx)) (same-key q.tx q.tx refl) ∙ value true e)))
              (λ t k. ap (λ (Q : Contents). get Q.members t) is ∙ (get-insert ts_total N.queue.members q.tx (member (transaction_of q) false) t ∙ ap (λ y. cond y (Some (member (transaction_of q) false)) (get N.queue.members t)) k))
          by false e =
              let is : K.queue ≡ N.queue = queue ∙ ap (λ y. cond y (with_one N.queue (transaction_of q) false) N.queue) e in
              step K (ap (λ (Q : Contents). Q.threshold) is) (subst (λ (Q : Contents). IsSorted Q.members) (sym is) to.sorted) requested drawn
              (ap (λ (Q : Contents). get Q.members q.tx) is ∙ (none-here ∙ value false e)) (λ t k. ap (λ (Q : Contents). get Q.members t) is)
