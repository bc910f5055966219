-- What waits for each session behind what is told.
use Rattle.cached_sets.proofs.Meaning.{same_test}
use Rattle.repo_sessions.specs.Noting.{names_sent, upgrade_sent}
use Rattle.session_outbox.proofs.Ordered.{behind_push}
use Rattle.session_outbox.specs.Outbox.{Waiting, push, pushed_to, waiting}
use Rattle.session_outbox.specs.declared.message.Message.TheVariants.{Invalid, Upgrade}
use Rattle.session_outbox.specs.declared.message.Message.{Message}
use Rattle.std.proofs.Common.{Bool, List, [], ap, append_assoc, cond, false, nat_eq, refl, subst, sym, true, ◌++◌, ◌∙◌, ◌∷◌, ◌≡◌, ℕ}
use Rattle.std.proofs.lemmas.Bool.{eqb-true}
use Rattle.std.proofs.lemmas.List.{append-nil}
use Rattle.std.proofs.lemmas.Map.{keys-set_value}
use Rattle.std.proofs.lemmas.Cmp.{nat_eq_equiv}
use Rattle.std.specs.BTreeMap.{is_at}
use Rattle.std.specs.Cmp.{nat_cmp_total}
use Rattle.std.specs.List.Sorted.{IsStrictlySortedBy}
use Rattle.std.specs.List.{AllByRecursion}
use Rattle.std.specs.Map.{keys_of, lookup}
use Rattle.std.specs.Ordering.{is_eq, nat_cmp}
use Rattle.std.specs.Prelude.{None, Option, Some}
use Rattle.std.specs.declared.cmp.Ordering.TheVariants.{Less}
use Rattle.std.specs.declared.cmp.Ordering.{Ordering}
use Rattle.thor_value.proofs.FiniteMap.{IsSorted-insert}
use Rattle.thor_value.specs.FiniteMap.{IsSorted, get}
use Rattle.thor_value.specs.declared.names.Oref.{Oref}

-- ---- what waits stays in order

pushed_order : (W : Waiting) (n : ℕ) (m : Message) → IsSorted W → IsSorted (push W n m)
pushed_order W n m h = by (get W n)
  where
    by : (o : Option (List Message)) → IsSorted (pushed_to W n m o)
    by None = IsSorted-insert nat_cmp_total W n (m ∷ []) h
    by (Some ms) = subst (IsStrictlySortedBy nat_cmp) (sym (keys-set_value (is_at (nat_cmp n)) W.pairs (ms ++ m ∷ []))) h

pub names_order : (W : Waiting) (es : List (ℕ × List Oref)) (k : ℕ) → IsSorted W → IsSorted (names_sent W es k)
names_order W [] k h = h
names_order W (e ∷ es) k h = names_order (push W e.0 (Invalid e.1 k)) es k (pushed_order W e.0 (Invalid e.1 k) h)

pub upgrade_order : (W : Waiting) (es : List (ℕ × ℕ)) (number : ℕ) (text : List ℕ) (k : ℕ) → IsSorted W → IsSorted (upgrade_sent W es number text k)
upgrade_order W [] number text k h = h
upgrade_order W (e ∷ es) number text k h = upgrade_order (push W e.0 (Upgrade number text k)) es number text k (pushed_order W e.0 (Upgrade number text k) h)

-- ---- one message for each of some sessions

-- a key that is below all isn't there
pub none_at : {X : Type 0} (s : ℕ) (es : List (ℕ × X)) → AllByRecursion (λ y. nat_cmp s y ≡ Less) (keys_of es) → lookup (is_at (nat_cmp s)) es ≡ None
none_at s [] h = refl
none_at s (e ∷ es) h = ap (λ (r : Ordering). cond (is_eq r) (Some e.1) (lookup (is_at (nat_cmp s)) es)) h.0 ∙ none_at s es h.1

-- the message of a session for which something is there
abbrev pub message_for : {X : Type 0} → (X → Message) → Option X → List Message
message_for f None = []
message_for f (Some v) = f v ∷ []

-- the first, and those for the others
step_for : {X : Type 0} (f : X → Message) (s : ℕ) (e : ℕ × X) (es : List (ℕ × X)) → AllByRecursion (λ y. nat_cmp e.0 y ≡ Less) (keys_of es)
    → cond (nat_eq e.0 s) (f e.1 ∷ []) [] ++ message_for f (lookup (is_at (nat_cmp s)) es) ≡ message_for f (lookup (is_at (nat_cmp s)) (e ∷ es))
step_for f s e es h = by (nat_eq e.0 s) refl ∙ ap (λ (t : Bool). message_for f (cond t (Some e.1) (lookup (is_at (nat_cmp s)) es))) (sym (same_test s e.0 ∙ nat_eq_equiv.symm s e.0))
  where
    by : (t : Bool) → nat_eq e.0 s ≡ t → cond t (f e.1 ∷ []) [] ++ message_for f (lookup (is_at (nat_cmp s)) es) ≡ message_for f (cond (nat_eq e.0 s) (Some e.1) (lookup (is_at (nat_cmp s)) es))
    by true g =
        let a : e.0 ≡ s = eqb-true e.0 s g in
        let n : lookup (is_at (nat_cmp s)) es ≡ None = ap (λ (k : ℕ). lookup (is_at (nat_cmp k)) es) (sym a) ∙ none_at e.0 es h in
        ap (λ o. f e.1 ∷ message_for f o) n ∙ sym (ap (λ (t : Bool). message_for f (cond t (Some e.1) (lookup (is_at (nat_cmp s)) es))) g)
    by false g = sym (ap (λ (t : Bool). message_for f (cond t (Some e.1) (lookup (is_at (nat_cmp s)) es))) g)

pub names_wait : (W : Waiting) (es : List (ℕ × List Oref)) (k s : ℕ) → IsStrictlySortedBy nat_cmp (keys_of es) → waiting (names_sent W es k) s ≡ waiting W s ++ message_for (λ ns. Invalid ns k) (lookup (is_at (nat_cmp s)) es)
unfolding IsStrictlySortedBy
names_wait W [] k s h = sym (append-nil (waiting W s))
names_wait W (e ∷ es) k s h =
    names_wait (push W e.0 (Invalid e.1 k)) es k s h.1
    ∙ ap (λ (ms : List Message). ms ++ message_for (λ ns. Invalid ns k) (lookup (is_at (nat_cmp s)) es)) (behind_push W e.0 s (Invalid e.1 k))
    ∙ append_assoc (waiting W s) (cond (nat_eq e.0 s) (Invalid e.1 k ∷ []) []) (message_for (λ ns. Invalid ns k) (lookup (is_at (nat_cmp s)) es))
    ∙ ap (λ (ms : List Message). waiting W s ++ ms) (step_for (λ ns. Invalid ns k) s e es h.0)

pub upgrade_waits : (W : Waiting) (es : List (ℕ × ℕ)) (number : ℕ) (text : List ℕ) (k s : ℕ) → IsStrictlySortedBy nat_cmp (keys_of es) → waiting (upgrade_sent W es number text k) s ≡ waiting W s ++ message_for (λ c. Upgrade number text k) (lookup (is_at (nat_cmp s)) es)
unfolding IsStrictlySortedBy
upgrade_waits W [] number text k s h = sym (append-nil (waiting W s))
upgrade_waits W (e ∷ es) number text k s h =
    upgrade_waits (push W e.0 (Upgrade number text k)) es number text k s h.1
    ∙ ap (λ (ms : List Message). ms ++ message_for (λ c. Upgrade number text k) (lookup (is_at (nat_cmp s)) es)) (behind_push W e.0 s (Upgrade number text k))
    ∙ append_assoc (waiting W s) (cond (nat_eq e.0 s) (Upgrade number text k ∷ []) []) (message_for (λ c. Upgrade number text k) (lookup (is_at (nat_cmp s)) es))
    ∙ ap (λ (ms : List Message). waiting W s ++ ms) (step_for (λ c. Upgrade number text k) s e es h.0)
