-- What duties owe behind a change.
use Rattle.client_state.specs.Owing.{calls_of, calls_of_all, count_of, most_listed}
use Rattle.client_state.specs.declared.duties.Duty.{Duty}
use Rattle.client_state.specs.declared.duties.Duty.TheVariants.{Finish, Forget}
use Rattle.std.proofs.Common.{List, [], ap, arith, inl, inr, length, min, subst, sym, ℕ, ◌*◌, ◌+◌, ◌<◌, ◌≡◌, ◌∙◌, ◌∷◌, ◌++◌}
use Rattle.std.proofs.Math.Nat.{le-min, le_trans, min-eq_left, min-le_left, min-le_right}
use Rattle.std.proofs.lemmas.Bool.{cases_lt}
use Rattle.std.proofs.lemmas.List.Sums.{sum_by-cons, sum_by-insert, sum_by_push}
use Rattle.std.proofs.lemmas.Option.{same_Some}
use Rattle.std.specs.List.{slice_get, sum_by}
use Rattle.std.specs.Prelude.{Some, insert, remove, ◌≤◌}

-- what is counted up to a bound rises by what is added at most
min_added : (a b c : ℕ) → min (a + b) c ≤ min a c + b
min_added a b c = elim (cases_lt a c) [
  | inl l ↦ let e : min a c ≡ a = min-eq_left (omega (arith, l)) in let m = min-le_left (a + b) c in omega (arith, e, m)
  | inr l ↦ let k : c ≤ min a c = le-min l (omega arith) in let m = min-le_right (a + b) c in omega (arith, k, m)
]

one_is_few : (d : Duty) → calls_of d ≤ most_listed + 1
unfolding count_of
one_is_few (Finish verdict to forgets) = let m = min-le_right (length to) most_listed in omega (arith, m)
one_is_few (Forget t) = omega arith

all_are_few : (ds : List Duty) → sum_by calls_of ds ≤ length ds * (most_listed + 1)
all_are_few [] = omega arith
all_are_few (d ∷ ds) = let i = all_are_few ds in let o = one_is_few d in let s = sum_by-cons calls_of d ds in omega (arith, i, o, s)

-- so many calls as a list in memory takes are counted
all_counted : (ds : List Duty) → length ds < most_listed → calls_of_all ds ≡ sum_by calls_of ds
unfolding calls_of_all
all_counted ds few = min-eq_left (le_trans (all_are_few ds) (omega (arith, few)))

-- the oldest duty is taken
pub taken_first : (ds : List Duty) (d : Duty) → length ds < most_listed → slice_get ds 0 ≡ Some d → calls_of_all ds ≡ calls_of d + calls_of_all (remove ds 0)
taken_first [] d few h = cc
taken_first (x ∷ ds) d few h = all_counted (x ∷ ds) few ∙ (sum_by-cons calls_of x ds ∙ (ap (λ e. calls_of e + sum_by calls_of ds) (same_Some x d h) ∙ ap (λ (n : ℕ). calls_of d + n) (sym (all_counted ds (omega (arith, few))))))

-- a duty is put before all others
pub put_first : (ds : List Duty) (d : Duty) → calls_of_all (insert ds 0 d) ≤ calls_of_all ds + calls_of d
unfolding calls_of_all
put_first ds d = subst (λ (n : ℕ). min n (most_listed * (most_listed + 1)) ≤ min (sum_by calls_of ds) (most_listed * (most_listed + 1)) + calls_of d) (sym (sum_by-insert calls_of ds 0 d)) (min_added (sum_by calls_of ds) (calls_of d) (most_listed * (most_listed + 1)))

-- a duty is put behind all others
pub put_last : (ds : List Duty) (d : Duty) → calls_of_all (ds ++ d ∷ []) ≤ calls_of_all ds + calls_of d
unfolding calls_of_all
put_last ds d = subst (λ (n : ℕ). min n (most_listed * (most_listed + 1)) ≤ min (sum_by calls_of ds) (most_listed * (most_listed + 1)) + calls_of d) (sym (sum_by_push calls_of ds d)) (min_added (sum_by calls_of ds) (calls_of d) (most_listed * (most_listed + 1)))

-- one fewer in a list in memory
pub one_fewer : (xs : List ℕ) → 0 < length xs → length xs < most_listed → count_of (remove xs 0) < count_of xs
unfolding count_of
one_fewer [] some few = absurd (omega (arith, some))
one_fewer (x ∷ xs) some few = let a = min-le_left (length xs) most_listed in let e : min (length (x ∷ xs)) most_listed ≡ length (x ∷ xs) = min-eq_left (omega (arith, few)) in omega (arith, a, e)

-- a list with no more elements counts no more
pub counts_less : (xs ys : List ℕ) → length xs ≤ length ys → count_of xs ≤ count_of ys
unfolding count_of
counts_less xs ys less = le-min (le_trans (min-le_left (length xs) most_listed) less) (min-le_right (length xs) most_listed)

-- what is counted of a list has a bound
pub count_is_few : (xs : List ℕ) → count_of xs ≤ most_listed
unfolding count_of
count_is_few xs = min-le_right (length xs) most_listed

-- what duties take has a bound
pub calls_are_few : (ds : List Duty) → calls_of_all ds ≤ most_listed * (most_listed + 1)
unfolding calls_of_all
calls_are_few ds = min-le_right (sum_by calls_of ds) (most_listed * (most_listed + 1))
