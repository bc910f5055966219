-- The lists in which the entries of a table stand, where one more comes last and where one leaves.
use Rattle.link_table.proofs.Around.{Misses, flip, has_key}
use Rattle.link_table.specs.Tables.{Entries, entry_at, members, stands_with, without}
use Rattle.link_table.specs.declared.node.Chain.TheVariants.{All, Left, Right}
use Rattle.link_table.specs.declared.node.Chain.{Chain}
use Rattle.std.proofs.Common.{ap, arith, refl, sym}
use Rattle.std.proofs.lemmas.Bool.{eq-eqb, eqb-true, or_right}
use Rattle.std.specs.List.{AllByRecursion, IsDistinct, filter}
use Rattle.std.specs.Map.{keys_of}
use Rattle.std.specs.Prelude.{Bool, List, None, Some, [], cond, false, length, nat_eq, not, true, ℕ, ◌+◌, ◌++◌, ◌∷◌, ◌≡◌}

-- the entries without the one of a key
abbrev pub drop_key : Entries → ℕ → Entries
drop_key E n = filter (λ e. not (nat_eq e.0 n)) E

-- ---- one more entry

pub members_push : (c : Chain) (p q : ℕ × ℕ) (E : Entries) (n : ℕ) → members c p (E ++ (n, q) ∷ []) ≡ cond (stands_with c p q) (members c p E ++ n ∷ []) (members c p E)
members_push c p q [] n = by (stands_with c p q)
  where
    by : (t : Bool) → keys_of {X = ℕ × ℕ} (cond t ((n, q) ∷ []) []) ≡ cond t (n ∷ []) []
    by true = refl
    by false = refl
members_push c p q (e ∷ es) n = by (stands_with c p e.1) (stands_with c p q) (members_push c p q es n)
  where
    by : (s t : Bool) → members c p (es ++ (n, q) ∷ []) ≡ cond t (members c p es ++ n ∷ []) (members c p es)
        → keys_of (cond s (e ∷ filter (λ d. stands_with c p d.1) (es ++ (n, q) ∷ [])) (filter (λ d. stands_with c p d.1) (es ++ (n, q) ∷ [])))
        ≡ cond t (keys_of (cond s (e ∷ filter (λ d. stands_with c p d.1) es) (filter (λ d. stands_with c p d.1) es)) ++ n ∷ []) (keys_of (cond s (e ∷ filter (λ d. stands_with c p d.1) es) (filter (λ d. stands_with c p d.1) es)))
    by true true more = ap (λ (ks : List ℕ). e.0 ∷ ks) more
    by true false more = ap (λ (ks : List ℕ). e.0 ∷ ks) more
    by false true more = more
    by false false more = more

pub entry_push : (E : Entries) (n : ℕ) (q : ℕ × ℕ) (k : ℕ) → nat_eq k n ≡ false → entry_at (E ++ (n, q) ∷ []) k ≡ entry_at E k
entry_push [] n q k h = rw h refl
entry_push (e ∷ es) n q k h = ap (cond (nat_eq k e.0) (Some e.1)) (entry_push es n q k h)

pub entry_new : (E : Entries) (n : ℕ) (q : ℕ × ℕ) → Misses n (keys_of E) → entry_at (E ++ (n, q) ∷ []) n ≡ Some q
entry_new [] n q h = let e : nat_eq n n ≡ true = eq-eqb n n refl in rw e refl
entry_new (e ∷ es) n q h = let f : nat_eq n e.0 ≡ false = flip e.0 n h.0 in rw f (entry_new es n q h.1)

-- ---- who stands in a list

pub misses : (E : Entries) (k : ℕ) → entry_at E k ≡ None → Misses k (keys_of E)
misses [] k h = tt
misses (e ∷ es) k h = by (nat_eq k e.0) refl h (misses es k)
  where
    by : (t : Bool) → nat_eq k e.0 ≡ t → cond t (Some e.1) (entry_at es k) ≡ None → (entry_at es k ≡ None → Misses k (keys_of es)) → Misses k (keys_of (e ∷ es))
    by true f g more = cc
    by false f g more = (flip k e.0 f, more g)

pub missed_by : (c : Chain) (p : ℕ × ℕ) (E : Entries) (k : ℕ) → Misses k (keys_of E) → Misses k (members c p E)
missed_by c p [] k h = tt
missed_by c p (e ∷ es) k h = by (stands_with c p e.1) (missed_by c p es k h.1)
  where
    by : (t : Bool) → Misses k (members c p es) → Misses k (keys_of (cond t (e ∷ filter (λ d. stands_with c p d.1) es) (filter (λ d. stands_with c p d.1) es)))
    by true more = (h.0, more)
    by false more = more

-- a key that differs from each of those that x is apart from
pub all_from : (x k : ℕ) (ks : List ℕ) → nat_eq k x ≡ true → AllByRecursion (λ y. nat_eq x y ≡ false) ks → Misses k ks
all_from x k [] e h = tt
all_from x k (y ∷ ys) e h =
    let is : k ≡ x = eqb-true k x e in
    let f : nat_eq k y ≡ false = rw is h.0 in
    (flip k y f, all_from x k ys e h.1)

-- an entry that stands with others isn't among them
pub elsewhere : (c : Chain) (p q : ℕ × ℕ) (E : Entries) (k : ℕ) → IsDistinct nat_eq (keys_of E) → entry_at E k ≡ Some q → stands_with c p q ≡ false → Misses k (members c p E)
unfolding IsDistinct
elsewhere c p q [] k d h f = tt
elsewhere c p q (e ∷ es) k d h f = by (nat_eq k e.0) (stands_with c p e.1) refl refl h (elsewhere c p q es k d.1)
  where
    by : (s t : Bool) → nat_eq k e.0 ≡ s → stands_with c p e.1 ≡ t → cond s (Some e.1) (entry_at es k) ≡ Some q
        → (entry_at es k ≡ Some q → stands_with c p q ≡ false → Misses k (members c p es))
        → Misses k (keys_of (cond t (e ∷ filter (λ d. stands_with c p d.1) es) (filter (λ d. stands_with c p d.1) es)))
    by true true g i j more = let a : e.1 ≡ q = cc in let b : stands_with c p q ≡ true = rw a at i in cc
    by true false g i j more = missed_by c p es k (all_from e.0 k (keys_of es) g d.0)
    by false true g i j more = (flip k e.0 g, more j f)
    by false false g i j more = more j f

-- one that stands with them is
pub stands_there : (c : Chain) (p q : ℕ × ℕ) (E : Entries) (k : ℕ) → entry_at E k ≡ Some q → stands_with c p q ≡ true → has_key k (members c p E) ≡ true
stands_there c p q [] k h f = cc
stands_there c p q (e ∷ es) k h f = by (nat_eq k e.0) (stands_with c p e.1) refl refl h (stands_there c p q es k)
  where
    by : (s t : Bool) → nat_eq k e.0 ≡ s → stands_with c p e.1 ≡ t → cond s (Some e.1) (entry_at es k) ≡ Some q
        → (entry_at es k ≡ Some q → stands_with c p q ≡ true → has_key k (members c p es) ≡ true)
        → has_key k (keys_of (cond t (e ∷ filter (λ d. stands_with c p d.1) es) (filter (λ d. stands_with c p d.1) es))) ≡ true
    by true true g i j more = let a : nat_eq e.0 k ≡ true = eq-eqb e.0 k (sym (eqb-true k e.0 g)) in rw a refl
    by true false g i j more = let a : e.1 ≡ q = cc in let b : stands_with c p q ≡ false = rw a at i in cc
    by false true g i j more = let a : has_key k (members c p es) ≡ true = more j f in rw a (or_right (nat_eq e.0 k) true refl)
    by false false g i j more = more j f

none_of : (x : ℕ) (c : Chain) (p : ℕ × ℕ) (E : Entries) → AllByRecursion (λ y. nat_eq x y ≡ false) (keys_of E) → AllByRecursion (λ y. nat_eq x y ≡ false) (members c p E)
none_of x c p [] h = tt
none_of x c p (e ∷ es) h = by (stands_with c p e.1) (none_of x c p es h.1)
  where
    by : (t : Bool) → AllByRecursion (λ y. nat_eq x y ≡ false) (members c p es) → AllByRecursion (λ y. nat_eq x y ≡ false) (keys_of (cond t (e ∷ filter (λ d. stands_with c p d.1) es) (filter (λ d. stands_with c p d.1) es)))
    by true more = (h.0, more)
    by false more = more

-- no list has a key twice
pub distinct_members : (c : Chain) (p : ℕ × ℕ) (E : Entries) → IsDistinct nat_eq (keys_of E) → IsDistinct nat_eq (members c p E)
unfolding IsDistinct
distinct_members c p [] d = tt
distinct_members c p (e ∷ es) d = by (stands_with c p e.1) (distinct_members c p es d.1)
  where
    by : (t : Bool) → IsDistinct nat_eq (members c p es) → IsDistinct nat_eq (keys_of (cond t (e ∷ filter (λ d. stands_with c p d.1) es) (filter (λ d. stands_with c p d.1) es)))
    by true more = (none_of e.0 c p es d.0, more)
    by false more = more

-- two that stand together stand in one list
pub together : (c : Chain) (p q : ℕ × ℕ) (E : Entries) → stands_with c p q ≡ true → members c q E ≡ members c p E
together All p q E h = refl
together Left p q E h = let e : q.0 ≡ p.0 = eqb-true q.0 p.0 h in ap (λ (n : ℕ). keys_of (filter (λ (e : ℕ × (ℕ × ℕ)). nat_eq e.1.0 n) E)) e
together Right p q E h = let e : q.1 ≡ p.1 = eqb-true q.1 p.1 h in ap (λ (n : ℕ). keys_of (filter (λ (e : ℕ × (ℕ × ℕ)). nat_eq e.1.1 n) E)) e

-- ---- an entry that leaves

pub members_rest : (c : Chain) (p : ℕ × ℕ) (E : Entries) (n : ℕ) → members c p (drop_key E n) ≡ without (members c p E) n
members_rest c p [] n = refl
members_rest c p (e ∷ es) n = by (stands_with c p e.1) refl (nat_eq e.0 n) refl (members_rest c p es n)
  where
    by : (s : Bool) → stands_with c p e.1 ≡ s → (t : Bool) → nat_eq e.0 n ≡ t → members c p (drop_key es n) ≡ without (members c p es) n
        → members c p (cond (not t) (e ∷ drop_key es n) (drop_key es n)) ≡ without (keys_of (cond s (e ∷ filter (λ d. stands_with c p d.1) es) (filter (λ d. stands_with c p d.1) es))) n
    by true f true g more = rw g more
    by true f false g more = rw (f, g) (ap (λ (ks : List ℕ). e.0 ∷ ks) more)
    by false f true g more = more
    by false f false g more = rw f more

pub keys_rest : (E : Entries) (n : ℕ) → keys_of (drop_key E n) ≡ without (keys_of E) n
keys_rest [] n = refl
keys_rest (e ∷ es) n = by (nat_eq e.0 n) (keys_rest es n)
  where
    by : (t : Bool) → keys_of (drop_key es n) ≡ without (keys_of es) n → keys_of (cond (not t) (e ∷ drop_key es n) (drop_key es n)) ≡ cond (not t) (e.0 ∷ without (keys_of es) n) (without (keys_of es) n)
    by true more = more
    by false more = ap (λ (ks : List ℕ). e.0 ∷ ks) more

pub entry_rest : (E : Entries) (n k : ℕ) → nat_eq k n ≡ false → entry_at (drop_key E n) k ≡ entry_at E k
entry_rest [] n k h = refl
entry_rest (e ∷ es) n k h = by (nat_eq e.0 n) refl (entry_rest es n k h)
  where
    by : (t : Bool) → nat_eq e.0 n ≡ t → entry_at (drop_key es n) k ≡ entry_at es k → entry_at (cond (not t) (e ∷ drop_key es n) (drop_key es n)) k ≡ cond (nat_eq k e.0) (Some e.1) (entry_at es k)
    by true g more = let a : e.0 ≡ n = eqb-true e.0 n g in let b : nat_eq k e.0 ≡ false = rw a h in rw b more
    by false g more = ap (cond (nat_eq k e.0) (Some e.1)) more

pub entry_gone : (E : Entries) (n : ℕ) → entry_at (drop_key E n) n ≡ None
entry_gone [] n = refl
entry_gone (e ∷ es) n = by (nat_eq e.0 n) refl (entry_gone es n)
  where
    by : (t : Bool) → nat_eq e.0 n ≡ t → entry_at (drop_key es n) n ≡ None → entry_at (cond (not t) (e ∷ drop_key es n) (drop_key es n)) n ≡ None
    by true g more = more
    by false g more = let a : nat_eq n e.0 ≡ false = flip e.0 n g in rw a more

drop_none : (E : Entries) (n : ℕ) → Misses n (keys_of E) → drop_key E n ≡ E
drop_none [] n h = refl
drop_none (e ∷ es) n h = rw h.0 (ap (λ (fs : Entries). e ∷ fs) (drop_none es n h.1))

pub length_rest : (E : Entries) (n : ℕ) (q : ℕ × ℕ) → IsDistinct nat_eq (keys_of E) → entry_at E n ≡ Some q → length (drop_key E n) + 1 ≡ length E
unfolding IsDistinct
length_rest [] n q d h = cc
length_rest (e ∷ es) n q d h = by (nat_eq n e.0) refl h (length_rest es n q d.1)
  where
    by : (t : Bool) → nat_eq n e.0 ≡ t → cond t (Some e.1) (entry_at es n) ≡ Some q → (entry_at es n ≡ Some q → length (drop_key es n) + 1 ≡ length es) → length (drop_key (e ∷ es) n) + 1 ≡ length (e ∷ es)
    by true g j more =
        let a : nat_eq e.0 n ≡ true = eq-eqb e.0 n (sym (eqb-true n e.0 g)) in
        let b : drop_key es n ≡ es = drop_none es n (all_from e.0 n (keys_of es) g d.0) in
        rw (a, b) (omega arith)
    by false g j more = let a : nat_eq e.0 n ≡ false = flip n e.0 g in rw a (omega (arith, more j))

none_left : (x n : ℕ) (ks : List ℕ) → AllByRecursion (λ y. nat_eq x y ≡ false) ks → AllByRecursion (λ y. nat_eq x y ≡ false) (without ks n)
none_left x n [] h = tt
none_left x n (y ∷ ys) h = by (nat_eq y n) (none_left x n ys h.1)
  where
    by : (t : Bool) → AllByRecursion (λ y. nat_eq x y ≡ false) (without ys n) → AllByRecursion (λ y. nat_eq x y ≡ false) (cond (not t) (y ∷ without ys n) (without ys n))
    by true more = more
    by false more = (h.0, more)

distinct_without : (ks : List ℕ) (n : ℕ) → IsDistinct nat_eq ks → IsDistinct nat_eq (without ks n)
unfolding IsDistinct
distinct_without [] n d = tt
distinct_without (x ∷ xs) n d = by (nat_eq x n) (distinct_without xs n d.1)
  where
    by : (t : Bool) → IsDistinct nat_eq (without xs n) → IsDistinct nat_eq (cond (not t) (x ∷ without xs n) (without xs n))
    by true more = more
    by false more = (none_left x n xs d.0, more)

pub distinct_rest : (E : Entries) (n : ℕ) → IsDistinct nat_eq (keys_of E) → IsDistinct nat_eq (keys_of (drop_key E n))
distinct_rest E n d = rw (keys_rest E n) (distinct_without (keys_of E) n d)

push_none : (x n : ℕ) (ks : List ℕ) → AllByRecursion (λ y. nat_eq x y ≡ false) ks → nat_eq x n ≡ false → AllByRecursion (λ y. nat_eq x y ≡ false) (ks ++ n ∷ [])
push_none x n [] h f = (f, tt)
push_none x n (y ∷ ys) h f = (h.0, push_none x n ys h.1 f)

distinct_with : (ks : List ℕ) (n : ℕ) → IsDistinct nat_eq ks → Misses n ks → IsDistinct nat_eq (ks ++ n ∷ [])
unfolding IsDistinct
distinct_with [] n d h = (tt, tt)
distinct_with (x ∷ xs) n d h = (push_none x n xs d.0 h.0, distinct_with xs n d.1 h.1)

keys_push : (E : Entries) (n : ℕ) (q : ℕ × ℕ) → keys_of (E ++ (n, q) ∷ []) ≡ keys_of E ++ n ∷ []
keys_push [] n q = refl
keys_push (e ∷ es) n q = ap (λ (ks : List ℕ). e.0 ∷ ks) (keys_push es n q)

pub distinct_push : (E : Entries) (n : ℕ) (q : ℕ × ℕ) → IsDistinct nat_eq (keys_of E) → Misses n (keys_of E) → IsDistinct nat_eq (keys_of (E ++ (n, q) ∷ []))
distinct_push E n q d h = rw (keys_push E n q) (distinct_with (keys_of E) n d h)
