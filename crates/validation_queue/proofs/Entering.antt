-- What one more member, and one less, leave of a queue.
use Rattle.std.proofs.Common.{◌≡◌, Bool, List, [], ◌∷◌, ap, cond, false, refl, subst, sym, true, ◌∙◌}
use Rattle.std.proofs.lemmas.Cmp.{tied_itself}
use Rattle.std.specs.BTreeMap.{is_at}
use Rattle.std.specs.Map.{lookup}
use Rattle.std.specs.Option.{IfSome, IsSome, is_some, option_map}
use Rattle.std.specs.Ordering.{eq_by_cmp, is_eq}
use Rattle.std.specs.Prelude.{None, Option, Some, find}
use Rattle.std.specs.declared.cmp.Ordering.TheVariants.{Equal, Greater, Less}
use Rattle.std.specs.declared.cmp.Ordering.{Ordering}
use Rattle.thor_value.proofs.FiniteMap.{IsSorted-insert, IsSorted-remove, get-insert, get-remove, same_map}
use Rattle.thor_value.proofs.NameOrders.{ts_exact, ts_total}
use Rattle.thor_value.specs.FiniteMap.{IsSorted, Map, get, has, insert, remove}
use Rattle.thor_value.specs.Names.{ts_cmp}
use Rattle.thor_value.specs.declared.names.Ts.{Ts}
use Rattle.validation_queue.specs.Contents.{Contents, first_decided, is_full, leaving}
use Rattle.validation_queue.specs.declared.member.Member.{Member}

-- the two orders of a change at k and one at l, as what stands at a key
in_turn : {X : Type 0} (a b : Bool) (v o : Option X) → (a ≡ true → b ≡ true → ⊥) → cond a None (cond b v o) ≡ cond b v (cond a None o)
in_turn true true v o n = absurd (n refl refl)
in_turn true false v o n = refl
in_turn false b v o n = refl

equal : (r : Ordering) → is_eq r ≡ true → r ≡ Equal
equal Equal h = refl
equal Less h = cc
equal Greater h = cc

one : (t u : Ts) → eq_by_cmp ts_cmp t u ≡ true → t ≡ u
one t u h = ts_exact t u (equal (ts_cmp t u) h)

none_from : {X : Type 0} (o : Option X) → is_some o ≡ false → o ≡ None
none_from None h = refl
none_from (Some x) h = cc

-- one key comes in and another leaves, in either order
pub remove_insert : (m : Map ts_cmp Member) (k l : Ts) (v : Member) → IsSorted m → has m k ≡ false → IsSome (get m l) → remove (insert m k v) l ≡ insert (remove m l) k v
remove_insert m k l v h new there =
    same_map ts_total ts_exact _ _ (IsSorted-remove ts_cmp (insert m k v) l (IsSorted-insert ts_total m k v h)) (IsSorted-insert ts_total (remove m l) k v (IsSorted-remove ts_cmp m l h))
    (λ q. get-remove ts_total (insert m k v) l q (IsSorted-insert ts_total m k v h)
    ∙ ap (cond (eq_by_cmp ts_cmp l q) None) (get-insert ts_total m k v q)
    ∙ in_turn (eq_by_cmp ts_cmp l q) (eq_by_cmp ts_cmp q k) (Some v) (get m q) (λ a b. apart q (one l q a) (one q k b))
    ∙ ap (cond (eq_by_cmp ts_cmp q k) (Some v)) (sym (get-remove ts_total m l q h))
    ∙ sym (get-insert ts_total (remove m l) k v q))
  where
    apart : (q : Ts) → l ≡ q → q ≡ k → ⊥
    apart q a b =
        let e : get m l ≡ None = ap (get m) (a ∙ b) ∙ none_from (get m k) new in
        let n : IsSome {T = Member} None = subst (λ (v : Option Member). IsSome v) e there in
        cc

-- the first member that passes a test is there
found : (test : Ts × Member → Bool) (es : List (Ts × Member)) → IfSome (option_map (λ e. e.0) (find test es)) (λ t. IsSome (lookup (is_at (ts_cmp t)) es))
found test [] = tt
found test (e ∷ es) = by (test e) (found test es)
  where
    later : (b : Bool) (o : Option Member) → IsSome o → IsSome (cond b (Some e.1) o)
    later true o h = refl
    later false o h = h

    more : (o : Option (Ts × Member)) → IfSome (option_map (λ e. e.0) o) (λ t. IsSome (lookup (is_at (ts_cmp t)) es)) → IfSome (option_map (λ e. e.0) o) (λ t. IsSome (lookup (is_at (ts_cmp t)) (e ∷ es)))
    more None h = tt
    more (Some f) h = later (is_at (ts_cmp f.0) e.0) (lookup (is_at (ts_cmp f.0)) es) h

    by : (b : Bool) → IfSome (option_map (λ e. e.0) (find test es)) (λ t. IsSome (lookup (is_at (ts_cmp t)) es)) → IfSome (option_map (λ e. e.0) (cond b (Some e) (find test es))) (λ t. IsSome (lookup (is_at (ts_cmp t)) (e ∷ es)))
    by true h = let s : ts_cmp e.0 e.0 ≡ Equal = tied_itself ts_total e.0 in rw s refl
    by false h = more (find test es) h

-- the one that leaves is there
pub leaving_is_there : (Q : Contents) → IfSome (leaving Q) (λ t. IsSome (get Q.members t))
leaving_is_there Q = by (is_full Q)
  where
    by : (b : Bool) → IfSome (cond b (first_decided Q) None) (λ t. IsSome (get Q.members t))
    by true = found (λ e. e.1.decided) Q.members.pairs
    by false = tt
