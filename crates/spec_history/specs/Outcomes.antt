-- How entries and the outcomes of transactions are linked, both ways: which entry gave a transaction its
-- outcome, and which outcome an entry gives.
use Rattle.log_entries.specs.declared.entry.Entry.TheVariants.{Decided, Finished, Life, One, Prepared, Upgraded}
use Rattle.log_entries.specs.declared.entry.Entry.{Entry}
use Rattle.log_entries.specs.declared.request.Request.{Request}
use Rattle.spec_history.specs.History.{Aborted, Base, Committed, Fate, IsCommitted, Known, known_by, state}
use Rattle.spec_history.specs.Laws.{Asks}
use Rattle.std.specs.List.{fold, slice_get}
use Rattle.std.specs.Option.{IsSome, IsSomeAnd, option_or}
use Rattle.std.specs.Prelude.{Bool, List, None, Option, Some, cond, false, nat_eq, true, ℕ, ◌<◌, ◌≡◌, ◌↔◌, ◌⊎◌}
use Rattle.thor_value.specs.FiniteMap.{IsSorted, get}
use Rattle.thor_value.specs.declared.names.Ts.{Ts}

-- The entry may settle the transaction t: it is the decision about it, or a Life of its coordinator,
-- which loses what it hadn't decided.
abbrev pub MaySettle : Base → Ts → Entry → Type 0
MaySettle b t (Life n) = t.repo ≡ b.repo
MaySettle b t (One q) = ⊥
MaySettle b t (Prepared q) = ⊥
MaySettle b t (Decided u c) = u ≡ t
MaySettle b t (Finished u c) = u ≡ t
MaySettle b t (Upgraded q) = ⊥

-- a decision to commit ends so, and one to abort so
abbrev pub Ended : Bool → Fate → Type 0
Ended true f = IsCommitted f
Ended false f = f ≡ Aborted

-- The entry gave t the outcome f: a decision or what is learned of it, or a Life of its coordinator, which
-- loses what it hadn't decided.
abbrev pub Causes : Base → Entry → Ts → Fate → Type 0
Causes b (Life n) t f = (t.repo ≡ b.repo) × (f ≡ Aborted)
Causes b (One q) t f = ⊥
Causes b (Prepared q) t f = ⊥
Causes b (Decided u c) t f = (u ≡ t) × Ended c f
Causes b (Finished u c) t f = (u ≡ t) × Ended c f
Causes b (Upgraded q) t f = ⊥

-- the entry decides t, or learns the decision: to commit it or to abort it
abbrev pub Settles : Entry → Ts → Bool → Type 0
Settles (Life n) t c = ⊥
Settles (One q) t c = ⊥
Settles (Prepared q) t c = ⊥
Settles (Decided u d) t c = (u ≡ t) × (d ≡ c)
Settles (Finished u d) t c = (u ≡ t) × (d ≡ c)
Settles (Upgraded q) t c = ⊥

-- what stands of a transaction that an entry at the place m settled
abbrev pub SettledAt : ℕ → Bool → Fate → Type 0
SettledAt m true f = f ≡ Committed m
SettledAt m false f = f ≡ Aborted

-- t is settled so, by the entry at the place m; or an earlier run left it, and nothing of it stands here
abbrev pub IsSettled : Base → List Entry → Ts → ℕ → Bool → Type 0
IsSettled b H t m c = IsSomeAnd (known_by b H t) (λ o. (o.place < m) × SettledAt m c o.fate) ⊎ (IsSome (get b.left t) × (known_by b H t ≡ None))

-- What the entries of a history say of its transactions.
pub record EntriesTell (b : Base) (H : List Entry) : Type 0 where
  -- a request's transaction stands at its place
  pub asked : (m : ℕ) (e : Entry) (q : Request) → slice_get H m ≡ Some e → Asks e q → IsSomeAnd (known_by b H q.tx) (λ o. (o.place ≡ m) × (o.request ≡ q))
  -- what a decision settles ends so, and so does what is learned of it
  pub settled : (m : ℕ) (e : Entry) (t : Ts) (c : Bool) → slice_get H m ≡ Some e → Settles e t c → IsSettled b H t m c
  -- a transaction is settled by one entry at most
  pub once : (m n : ℕ) (e d : Entry) (t : Ts) (c k : Bool) → slice_get H m ≡ Some e → Settles e t c → slice_get H n ≡ Some d → Settles d t k → m ≡ n
  -- a transaction that was aborted was so by an entry behind its request
  pub aborted : (t : Ts) (o : Known) → known_by b H t ≡ Some o → o.fate ≡ Aborted → (m : ℕ) × (o.place < m) × IsSomeAnd (slice_get H m) (λ e. Causes b e t Aborted)
  -- what an earlier run left has no request here
  pub left : (t : Ts) → IsSome (get b.left t) → known_by b H t ≡ None

-- the transaction of the client c that the entry commits with no other participant
abbrev pub alone_at : ℕ → Entry → Option Ts
alone_at c (Life n) = None
alone_at c (One q) = cond (nat_eq q.who.client c) (Some q.tx) None
alone_at c (Prepared q) = None
alone_at c (Decided t k) = None
alone_at c (Finished t k) = None
alone_at c (Upgraded q) = cond (nat_eq q.who.client c) (Some q.tx) None

-- the last such transaction of the client c
abbrev pub last_alone : ℕ → List Entry → Option Ts
last_alone c H = fold (λ last e. option_or (alone_at c e) last) None H

-- What a history comes to, told by its entries.
pub record EntriesMake (b : Base) (H : List Entry) : Type 0 where
  -- what is known is in order
  pub sorted : IsSorted (state b H).known
  -- the decisions to commit
  pub kept : (t : Ts) → IsSome (get (state b H).kept t) ↔ ((m : ℕ) × (slice_get H m ≡ Some (Decided t true)))
  -- for each client its last transaction with no other participant, or the base's
  pub alone : (c : ℕ) → get (state b H).alone c ≡ option_or (last_alone c H) (get b.alone c)
