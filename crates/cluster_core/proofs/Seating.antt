-- Repositories at their places, one more of them at a time.
use Rattle.cluster_core.specs.Seated.{AreBegun, AreNumbered, AreOpen, AreRecovered, AreRight, AreSeated, IsOpen, IsRecoveredAt, IsSeatedAt}
use Rattle.cluster_core.specs.declared.seat.Seat.{Seat}
use Rattle.cluster_port.specs.Lent.{AreInPlace}
use Rattle.disk_trait.specs.Disks.{Disks}
use Rattle.cluster_port.specs.Run.{Run}
use Rattle.cluster_port.specs.Sited.{IsRightTrace, Sited}
use Rattle.repo_trace.specs.declared.trace.Trace.{Trace}
use Rattle.std.proofs.Common.{Err, IfOk, List, None, Ok, OnOk, Result, Some, [], ap, append_assoc, arith, drop, false, get_or, length, refl, subst, suc, sym, true, zero, ℕ, ◌++◌, ◌+◌, ◌<◌, ◌∙◌, ◌∷◌, ◌≡◌}
use Rattle.std.proofs.lemmas.List.{append-nil, drop_more}
use Rattle.std.specs.List.{slice_get}
use Rattle.std.specs.Prelude.{IsOk}
use Rattle.std.specs.Vec.Iter.{into_iter_items, into_iter_steps}
use Rattle.std.specs.declared.vec.IntoIter.{IntoIter}
use Rattle.store_opening.specs.declared.closed.Closed.{Closed}

-- ---- lists

pub length_more : {X : Type 0} (xs ys : List X) (x : X) → ys ≡ xs ++ x ∷ [] → length ys ≡ suc (length xs)
length_more xs ys x is = ap length is ∙ by xs
  where
    by : (zs : List _) → length (zs ++ x ∷ []) ≡ suc (length zs)
    by [] = refl
    by (z ∷ zs) = ap suc (by zs)

pub none_in : {X : Type 0} (xs : List X) → length xs ≡ 0 → xs ≡ []
none_in [] none = refl
none_in (x ∷ xs) none = absurd (omega (arith, none))

-- all items of a vector were taken
pub none_left : {X Z : Type 0} (before after : IntoIter X Z) → into_iter_steps before None after → into_iter_items before ≡ []
none_left before after steps = none_in (into_iter_items before) (sym before.rest.ok.0 ∙ steps.0)

same_site : (x y : Sited) → Some x ≡ Some y → x ≡ y
same_site x y e = cc

-- ---- places

numbers : (n : ℕ) (xs : List Sited) → ((r : ℕ) (x : Sited) → slice_get xs r ≡ Some x → x.number ≡ n + r) → AreNumbered n xs
numbers n [] at = tt
numbers n (x ∷ xs) at =
    let here = at 0 x refl in
    (omega (arith, here), numbers (suc n) xs (λ r y is. let there = at (suc r) y is in omega (arith, there)))

pub numbered : (xs : List Sited) → AreInPlace xs → AreNumbered 0 xs
numbered xs a = numbers 0 xs (λ r x is. let at = a.placed r x is in omega (arith, at))

one_more : (n : ℕ) (xs : List Sited) (x : Sited) → ((r : ℕ) (y : Sited) → slice_get xs r ≡ Some y → y.number ≡ n + r) → x.number ≡ n + length xs → (r : ℕ) (y : Sited) → slice_get (xs ++ x ∷ []) r ≡ Some y → y.number ≡ n + r
one_more n [] x at last zero y is = sym (ap (λ (z : Sited). z.number) (same_site x y is)) ∙ last
one_more n [] x at last (suc r) y is = absurd (let no : None ≡ Some y = is in cc)
one_more n (z ∷ zs) x at last zero y is = at 0 y is
one_more n (z ∷ zs) x at last (suc r) y is =
    let e : y.number ≡ suc n + r = one_more (suc n) zs x (λ i w is_w. let there = at (suc i) w is_w in omega (arith, there)) (omega (arith, last)) r y is in
    omega (arith, e)

pub placed_next : (xs ys : List Sited) (x : Sited) → ys ≡ xs ++ x ∷ [] → x.number ≡ length xs → AreInPlace xs → AreInPlace ys
placed_next xs ys x is last a = subst AreInPlace (sym is) (record { placed = λ r y at. let e = one_more 0 xs x (λ i z is_z. let there = a.placed i z is_z in omega (arith, there)) (omega (arith, last)) r y at in omega (arith, e) })

pub none_placed : (xs : List Sited) → length xs ≡ 0 → AreInPlace xs
none_placed xs none = subst AreInPlace (sym (none_in xs none)) (record { placed = λ r x is. absurd (let no : None ≡ Some x = is in cc) })

-- ---- seats

module _ {P O : Type 0} where
  seated_more : (n : ℕ) (xs : List (Seat P O)) (x : Seat P O) → AreSeated n xs → IsSeatedAt (n + length xs) x → AreSeated n (xs ++ x ∷ [])
  seated_more n [] x s last = (subst (λ (k : ℕ). IsSeatedAt k x) (omega arith) last, tt)
  seated_more n (z ∷ zs) x s last = (s.0, seated_more (suc n) zs x s.1 (subst (λ (k : ℕ). IsSeatedAt k x) (omega arith) last))

  pub seated_next : (xs ys : List (Seat P O)) (x : Seat P O) → ys ≡ xs ++ x ∷ [] → AreSeated 0 xs → IsSeatedAt (length xs) x → AreSeated 0 ys
  seated_next xs ys x is s last =
      let place : length xs ≡ 0 + length xs = omega arith in
      subst (AreSeated 0) (sym is) (seated_more 0 xs x s (subst (λ (k : ℕ). IsSeatedAt k x) place last))

  pub none_seated : (n : ℕ) (xs : List (Seat P O)) → length xs ≡ 0 → AreSeated n xs
  none_seated n xs none = subst (AreSeated n) (sym (none_in xs none)) tt

  -- where one is open and those behind it are, those from its place on are
  pub open_more : (xs : List (Seat P O)) (i : ℕ) (x : Seat P O) → i < length xs → x ≡ get_or xs i x → IsOpen x → AreOpen (drop (i + 1) xs) → AreOpen (drop i xs)
  open_more xs i x within is here others = subst AreOpen (sym (drop_more xs i x within)) (subst IsOpen is here, others)

  -- the first of those that are left
  pub seated_first : (n : ℕ) (xs rest : List (Seat P O)) (x : Seat P O) → xs ≡ x ∷ rest → AreSeated n xs → IsSeatedAt n x
  seated_first n xs rest x is s = (subst (AreSeated n) is s).0

  -- behind it
  pub seated_left : (n m : ℕ) (xs rest : List (Seat P O)) (x : Seat P O) → xs ≡ x ∷ rest → m ≡ suc n → AreSeated n xs → AreSeated m rest
  seated_left n m xs rest x is more s = subst (λ (k : ℕ). AreSeated k rest) (sym more) (subst (AreSeated n) is s).1

  pub open_left : (xs rest : List (Seat P O)) (x : Seat P O) → xs ≡ x ∷ rest → AreOpen xs → AreOpen rest
  open_left xs rest x is o = (subst AreOpen is o).1

-- ---- traces

right_more : (run : Run) (n : ℕ) (ts : List Trace) (t : Trace) → AreRight run n ts → IsRightTrace run (n + length ts) t → AreRight run n (ts ++ t ∷ [])
right_more run n [] t r last = (subst (λ (k : ℕ). IsRightTrace run k t) (omega arith) last, tt)
right_more run n (u ∷ us) t r last = (r.0, right_more run (suc n) us t r.1 (subst (λ (k : ℕ). IsRightTrace run k t) (omega arith) last))

-- the trace of the repository that comes next
pub right_next : (run : Run) (ts us : List Trace) (t : Trace) (number : ℕ) → us ≡ ts ++ t ∷ [] → number ≡ length ts → AreRight run 0 ts → IsRightTrace run number t → AreRight run 0 us
right_next run ts us t number is place r last =
    let behind : number ≡ 0 + length ts = omega (arith, place) in
    subst (AreRight run 0) (sym is) (right_more run 0 ts t r (subst (λ (k : ℕ). IsRightTrace run k t) behind last))

pub none_right : (run : Run) (ts : List Trace) → length ts ≡ 0 → AreRight run 0 ts
none_right run ts none = subst (AreRight run 0) (sym (none_in ts none)) tt

pub numbers_left : (n m : ℕ) (xs rest : List Sited) (x : Sited) → xs ≡ x ∷ rest → m ≡ suc n → AreNumbered n xs → AreNumbered m rest
numbers_left n m xs rest x is more s = subst (λ (k : ℕ). AreNumbered k rest) (sym more) (subst (AreNumbered n) is s).1

pub number_next : (n : ℕ) (xs rest : List Sited) (x : Sited) → xs ≡ x ∷ rest → AreNumbered n xs → x.number ≡ n
number_next n xs rest x is s = (subst (AreNumbered n) is s).0

-- ---- what was found

pub next_one : {X : Type 0} (yielded rest left all : List X) (x : X) → yielded ++ rest ≡ all → rest ≡ x ∷ left → (yielded ++ x ∷ []) ++ left ≡ all
next_one yielded rest left all x whole next = append_assoc yielded (x ∷ []) left ∙ (ap (λ xs. yielded ++ xs) (sym next) ∙ whole)

module _ {P : Type 0} where
  pub begun_left : (run : Run) (repos n m : ℕ) (xs rest : List (Closed P)) (x : Closed P) → xs ≡ x ∷ rest → m ≡ suc n → AreBegun run repos n xs → AreBegun run repos m rest
  begun_left run repos n m xs rest x is more b = subst (λ (k : ℕ). AreBegun run repos k rest) (sym more) (subst (AreBegun run repos n) is b).1

  recovered_more : (disks : P → Disks) (xs : List (Closed P)) (x : Closed P) → AreRecovered disks xs → IsRecoveredAt disks x → AreRecovered disks (xs ++ x ∷ [])
  recovered_more disks [] x r last = (last, tt)
  recovered_more disks (y ∷ ys) x r last = (r.0, recovered_more disks ys x r.1 last)

  pub recovered_next : {E : Type 0} (disks : P → Disks) (before after : Result (Unit {0}) E) (xs : List (Closed P)) (x : Closed P) → OnOk before (AreRecovered disks xs) → OnOk after (IsOk before) → OnOk after (IsRecoveredAt disks x) → OnOk after (AreRecovered disks (xs ++ x ∷ []))
  recovered_next disks before (Err e) xs x r was last = tt
  recovered_next disks (Err e) (Ok u) xs x r was last = absurd (let no : false ≡ true = was in cc)
  recovered_next disks (Ok v) (Ok u) xs x r was last = recovered_more disks xs x r last

  pub recovered_all : {E : Type 0} (disks : P → Disks) (opened : Result (Unit {0}) E) (yielded rest all : List (Closed P)) → yielded ++ rest ≡ all → rest ≡ [] → OnOk opened (AreRecovered disks yielded) → OnOk opened (AreRecovered disks all)
  recovered_all disks opened yielded rest all whole none r = subst (λ (xs : List (Closed P)). OnOk opened (AreRecovered disks xs)) (sym (append-nil yielded) ∙ (ap (λ xs. yielded ++ xs) (sym none) ∙ whole)) r

-- ---- what follows where an opening went well

pub on_ok_of : {X Y E F : Type 0} (before : Result X E) (after : Result Y F) (Q : Type 0) → OnOk before Q → OnOk after (IsOk before) → OnOk after Q
on_ok_of before (Err e) Q q was = tt
on_ok_of (Err e) (Ok y) Q q was = absurd (let no : false ≡ true = was in cc)
on_ok_of (Ok x) (Ok y) Q q was = q

pub at_ok : {X E : Type 0} (r : Result X E) (x : X) (Q : Type 0) → r ≡ Ok x → OnOk r Q → Q
at_ok r x Q is q = subst (λ (s : Result _ _). OnOk s Q) is q

pub always_ok : {X E : Type 0} (r : Result X E) (Q : Type 0) → Q → IfOk r (λ _. Q)
always_ok (Ok x) Q q = q
always_ok (Err e) Q q = tt

pub on_always : {X E : Type 0} (r : Result X E) (Q : Type 0) → Q → OnOk r Q
on_always (Ok x) Q q = q
on_always (Err e) Q q = tt
