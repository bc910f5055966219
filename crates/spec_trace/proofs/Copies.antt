-- A copy that was right at a place is right or in the invalid set, and stays so while others act.
use Rattle.log_entries.specs.declared.entry.Entry.{Entry}
use Rattle.log_entries.specs.declared.request.Request.{Request}
use Rattle.spec_history.proofs.Below.{commits-take}
use Rattle.spec_history.proofs.Commits.{made_by_commits}
use Rattle.spec_trace.specs.Current.{InStep, IsCurrent, IsRightOrStale, OthersSince, RightAt}
use Rattle.spec_history.specs.History.{Base, commits, last_write, objects_at, state, writers}
use Rattle.spec_history.specs.Requests.{has_written, written}
use Rattle.spec_trace.specs.Session.{Session, invalid, invalid_in, last_other, session_lives, upto_of}
use Rattle.std.proofs.Common.{Bool, List, [], ap, arith, cond, false, inl, inr, length, refl, subst, sym, take, true, ℕ, ◌≡◌, ◌≤◌, ◌∙◌, ◌∷◌}
use Rattle.std.proofs.lemmas.Bool.Decides.{nat_tests}
use Rattle.std.proofs.lemmas.List.Elements.{All-tail}
use Rattle.std.specs.List.{All, filter, fold}
use Rattle.std.specs.Option.{IsSomeAnd}
use Rattle.std.specs.Prelude.{None, Option, Some, nat_eq, nat_le, nat_lt, ◌⊎◌}
use Rattle.thor_value.specs.FiniteMap.{get}
use Rattle.thor_value.specs.declared.names.Oref.{Oref}
use Rattle.thor_value.specs.declared.names.Ts.{Ts}
use Rattle.thor_value.specs.declared.values.Obj.{Obj}

pub not-below : (n m : ℕ) → nat_lt n m ≡ false → m ≤ n
not-below n m h = grind (arith, nat_tests)

at-most : (n m : ℕ) → n ≤ m → nat_le n m ≡ true
at-most n m h = grind (arith, nat_tests)

-- two filters may change places
filters : {X : Type 0} (p q : X → Bool) (xs : List X) → filter p (filter q xs) ≡ filter q (filter p xs)
filters p q [] = refl
filters p q (x ∷ xs) = by (p x) (q x) refl refl (filters p q xs)
  where
    by : (a c : Bool) → p x ≡ a → q x ≡ c → filter p (filter q xs) ≡ filter q (filter p xs) → filter p (cond c (x ∷ filter q xs) (filter q xs)) ≡ filter q (cond a (x ∷ filter p xs) (filter p xs))
    by true true e f h = rw (e, f) (ap (λ ys. x ∷ ys) h)
    by true false e f h = rw f h
    by false true e f h = rw e h
    by false false e f h = h

head-of-all : {X : Type 0} (P : X → Type 0) (x : X) (xs : List X) → All P (x ∷ xs) → P x
head-of-all P x xs h = h 0 x (omega arith)

-- Of commits that are others' from m on: either the last write is that of the commits below m, or the
-- last commit by another session isn't below m.
since_list : (s m : ℕ) (x : Oref) (ws : List (ℕ × Request)) (u d : Option Obj) (l : Option ℕ) → OthersSince s m ws → (u ≡ d) ⊎ IsSomeAnd l (λ k. m ≤ k)
    → (last_write x u ws ≡ last_write x d (filter (λ c. nat_lt c.0 m) ws)) ⊎ IsSomeAnd (fold (λ last c. cond (nat_eq c.1.session s) last (Some c.0)) l ws) (λ k. m ≤ k)
since_list s m x [] u d l h e = e
since_list s m x (c ∷ cs) u d l h e =
    by (nat_lt c.0 m) refl (λ v k g. since_list s m x cs (get (written c.1) x) v k (All-tail (λ c. m ≤ c.0 → nat_eq c.1.session s ≡ false) c cs h) g)
  where
    by : (t : Bool) → nat_lt c.0 m ≡ t
        → ((v : Option Obj) (k : Option ℕ) → (get (written c.1) x ≡ v) ⊎ IsSomeAnd k (λ n. m ≤ n) → (last_write x (get (written c.1) x) cs ≡ last_write x v (filter (λ c. nat_lt c.0 m) cs)) ⊎ IsSomeAnd (fold (λ last c. cond (nat_eq c.1.session s) last (Some c.0)) k cs) (λ n. m ≤ n))
        → (last_write x (get (written c.1) x) cs ≡ last_write x d (cond t (c ∷ filter (λ c. nat_lt c.0 m) cs) (filter (λ c. nat_lt c.0 m) cs))) ⊎ IsSomeAnd (fold (λ last c. cond (nat_eq c.1.session s) last (Some c.0)) (cond (nat_eq c.1.session s) l (Some c.0)) cs) (λ n. m ≤ n)
    by true f more = more (get (written c.1) x) (cond (nat_eq c.1.session s) l (Some c.0)) (inl refl)
    by false f more =
        let high : m ≤ c.0 = not-below c.0 m f in
        let other : nat_eq c.1.session s ≡ false = head-of-all (λ c. m ≤ c.0 → nat_eq c.1.session s ≡ false) c cs h high in
        let there : IsSomeAnd (cond (nat_eq c.1.session s) l (Some c.0)) (λ n. m ≤ n) = subst (λ (t : Bool). IsSomeAnd (cond t l (Some c.0)) (λ n. m ≤ n)) (sym other) high in
        more d (cond (nat_eq c.1.session s) l (Some c.0)) (inr there)

module _ (b : Base) where
  -- the writers of x below the place m
  pub writers-take : (m : ℕ) (H : List Entry) (x : Oref) → m ≤ length H → writers b (take m H) x ≡ filter (λ c. nat_lt c.0 m) (writers b H x)
  writers-take m H x l = ap (filter (λ c. has_written c.1 x)) (commits-take b m H l) ∙ filters (λ c. has_written c.1 x) (λ c. nat_lt c.0 m) (commits b H)

  since : (H : List Entry) (s m : ℕ) (x : Oref) → m ≤ length H → OthersSince s m (writers b H x)
      → (get (state b H).objects x ≡ get (objects_at b H m) x) ⊎ IsSomeAnd (last_other s (writers b H x)) (λ k. m ≤ k)
  since H s m x l h =
      let now : get (state b H).objects x ≡ last_write x (get b.objects x) (writers b H x) = (made_by_commits b H).last x in
      let then' : get (objects_at b H m) x ≡ last_write x (get b.objects x) (filter (λ c. nat_lt c.0 m) (writers b H x)) = (made_by_commits b (take m H)).last x ∙ ap (last_write x (get b.objects x)) (writers-take m H x l) in
      elim (since_list s m x (writers b H x) (get b.objects x) (get b.objects x) None h (inl refl)) [
        | inl e ↦ inl (now ∙ e ∙ sym then')
        | inr k ↦ inr k
      ]

  -- a later commit by another session is in the invalid set
  in-set : (H : List Entry) (s : ℕ) (v : Session) (x : Oref) (m : ℕ) → session_lives v ≡ true → v.acked ≤ m → IsSomeAnd (get v.pages x.page) (λ c. c ≤ m) → IsSomeAnd (last_other s (writers b H x)) (λ k. m ≤ k) → IsSomeAnd (invalid b H s v x) (λ k. m ≤ k)
  in-set H s v x m live acked page last = by (get v.pages x.page) (last_other s (writers b H x)) page last
    where
      by : (o l : Option ℕ) → IsSomeAnd o (λ c. c ≤ m) → IsSomeAnd l (λ k. m ≤ k) → IsSomeAnd (invalid_in v o l) (λ k. m ≤ k)
      by None l p q = absurd p
      by (Some c) None p q = absurd q
      by (Some c) (Some k) p q =
          let first : nat_le c k ≡ true = at-most c k (omega arith) in
          let second : nat_le v.acked k ≡ true = at-most v.acked k (omega arith) in
          rw (live, first, second) q

  higher : (o : Option ℕ) (n m : ℕ) → n ≤ m → IsSomeAnd o (λ k. m ≤ k) → IsSomeAnd o (λ k. n ≤ k)
  higher None n m l h = absurd h
  higher (Some k) n m l h = omega arith

  right-or-stale : (H : List Entry) (s : ℕ) (v : Session) (x : Oref) (o : Obj) (m : ℕ) → session_lives v ≡ true → InStep v → RightAt b H s v x o m
      → (get (state b H).objects x ≡ Some o) ⊎ IsSomeAnd (invalid b H s v x) (λ k. upto_of v ≤ k)
  right-or-stale H s v x o m live step h =
      let acked : v.acked ≤ m = le-trans v.acked (upto_of v) m step.acked h.unknown in
      elim (since H s m x h.there h.others) [
        | inl e ↦ inl (e ∙ h.value)
        | inr k ↦ inr (higher (invalid b H s v x) (upto_of v) m h.unknown (in-set H s v x m live acked h.cached k))
      ]
    where
      le-trans : (i j k : ℕ) → i ≤ j → j ≤ k → i ≤ k
      le-trans i j k p q = omega arith

  -- a current copy is right, or it is told to be invalid, or it is the session's own write
  pub current-cases : (H : List Entry) (s : ℕ) (v : Session) (committed : Ts → Bool) (x : Oref) (o : Obj) → session_lives v ≡ true → InStep v → IsCurrent b H s v committed x o → IsRightOrStale b H s v committed x o
  current-cases H s v committed x o live step (inr w) = inr (inr w)
  current-cases H s v committed x o live step (inl h) = elim (right-or-stale H s v x o h.0 live step h.1) [
    | inl e ↦ inl e
    | inr k ↦ inr (inl k)
  ]
