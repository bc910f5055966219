-- Tests that come one behind the other, each over all repositories.
use Rattle.class_defs.specs.declared.store.Schemas.{Schemas}
use Rattle.log_codec.specs.declared.state.State.{State}
use Rattle.repo_opening.proofs.Paging.{next_first}
use Rattle.store_opening.proofs.Holding.{all_more}
use Rattle.std.proofs.Common.{List, [], ap, arith, drop, get_or, inl, inr, length, map, subst, suc, sym, take, zero, ℕ, ◌++◌, ◌+◌, ◌<◌, ◌∙◌, ◌≡◌, ◌≤◌, ◌⊎◌, ◌∷◌}
use Rattle.std.proofs.lemmas.List.{map-append, take_all}
use Rattle.std.specs.List.{AllByRecursion}
use Rattle.store_opening.specs.Fitting.{ArePassed, FailsFrom, FailsIn, HasCoordinators, HasOwnNames, IsAlike, IsBelow, IsFirstNot, IsFirstOr, IsRead, Member, PassFrom, SpellFor, SpellsFrom, members_from}
use Rattle.thor_value.specs.declared.names.Oref.{Oref}

-- ---- one test

whole : {X : Type 0} (xs : List X) (i : ℕ) (x : X) → i < length xs → x ≡ get_or xs i x → xs ≡ take i xs ++ x ∷ drop (i + 1) xs
whole [] i x within is = absurd (omega (arith, within))
whole (y ∷ xs) zero x within is = ap (λ z. z ∷ xs) (sym is)
whole (y ∷ xs) (suc i) x within is =
    let e : suc (i + 1) ≡ suc i + 1 = omega arith in
    ap (λ zs. y ∷ zs) (whole xs i x (omega (arith, within)) is) ∙ ap (λ k. y ∷ (take i xs ++ x ∷ drop k (y ∷ xs))) e

module _ {X : Type 0} (f : X → Member) (P : Member → Type 0) (xs : List X) (i : ℕ) where
  pub passed_more : (x : X) → i < length xs → x ≡ get_or xs i x → AllByRecursion P (map f (take i xs)) → P (f x) → AllByRecursion P (map f (take (i + 1) xs))
  passed_more x within is all one =
      subst (AllByRecursion P) (sym (ap (map f) (next_first xs i x within is) ∙ map-append f (take i xs) (x ∷ []))) (all_more P (map f (take i xs)) (f x) all one)

  pub passed_all : length xs ≤ i → AllByRecursion P (map f (take i xs)) → AllByRecursion P (map f xs)
  passed_all past all = subst (λ ys. AllByRecursion P (map f ys)) (take_all i xs past) all

  pub first_failed : (x : X) (r : ℕ) → i < length xs → x ≡ get_or xs i x → AllByRecursion P (map f (take i xs)) → (P (f x) → ⊥) → r ≡ (f x).number → IsFirstNot P (map f xs) r
  first_failed x r within is all fails number = record {
    before = map f (take i xs);
    member = f x;
    behind = map f (drop (i + 1) xs);
    parts = ap (map f) (whole xs i x within is) ∙ map-append f (take i xs) (x ∷ drop (i + 1) xs);
    each = all;
    not = fails;
    number_is = number;
  }

-- ---- all tests

or_more : (P : Member → Type 0) (ms : List Member) (r : ℕ) (A B : Type 0) → (A → B) → IsFirstOr P ms r A → IsFirstOr P ms r B
or_more P ms r A B go (inl first) = inl first
or_more P ms r A B go (inr rest) = inr (rest.0, go rest.1)

module _ (states : List State) (names : List Oref) where
  module _ (first : State) (others all : List Member) (r : ℕ) where
    pub fails_more : (A B : Type 0) → (A → B) → FailsIn states names first others all r A → FailsIn states names first others all r B
    fails_more A B go fails =
        or_more (IsRead states first) others r _ _
        (or_more (IsAlike states first) others r _ _
        (or_more (HasCoordinators states) all r _ _
        (or_more (IsBelow states) all r _ _
        (or_more (HasOwnNames states names) all r A B go)))) fails

    pub fails_behind : (A : Type 0) → ArePassed states names first others all → A → FailsIn states names first others all r A
    fails_behind A p a = inr (p.read, inr (p.alike, inr (p.coordinators, inr (p.below, inr (p.names_own, a)))))

  pub from_more : (list : List State) (r : ℕ) (A B : Schemas → Type 0) → ((schemas : Schemas) → A schemas → B schemas) → FailsFrom states names list r A → FailsFrom states names list r B
  from_more [] r A B go fails = fails
  from_more (s ∷ list) r A B go (inl first) = inl first
  from_more (s ∷ list) r A B go (inr rest) = inr (rest.0, (rest.1.0, fails_more s (members_from 1 list) (members_from 0 states) r (A rest.0) (B rest.0) (go rest.0) rest.1.1))

  -- where each test is passed, what comes then decides
  pub from_behind : (list : List State) (r : ℕ) (A : Schemas → Type 0) (schemas : Schemas) → SpellsFrom states list schemas → PassFrom states names list → A schemas → FailsFrom states names list r A
  from_behind [] r A schemas spelled passed a = passed
  from_behind (s ∷ list) r A schemas spelled passed a = inr (schemas, (spelled, fails_behind s (members_from 1 list) (members_from 0 states) r (A schemas) passed a))

  -- ---- by what is noted of repositories

  record Split (s : State) (list : List State) (m : Member) (ms : List Member) : Type 0 where
    state : s ≡ m.state
    number : 0 ≡ m.number
    rest : members_from 1 list ≡ ms

  split : (s : State) (list : List State) (m : Member) (ms : List Member) → members_from 0 (s ∷ list) ≡ m ∷ ms → Split s list m ms
  split s list m ms is =
      let head : record { number = 0; state = s } ≡ m = cc in
      let tail : members_from 1 list ≡ ms = cc in
      record { state = ap (λ (n : Member). n.state) head; number = ap (λ (n : Member). n.number) head; rest = tail }

  no_members : (m : Member) (ms : List Member) → members_from 0 [] ≡ m ∷ ms → ⊥
  no_members m ms is = let no : [] ≡ m ∷ ms = is in cc

  module _ (m : Member) (ms : List Member) where
    -- what the texts of the first spell are the schemas of the store
    pub spelled_first : (list : List State) (schemas : Schemas) → members_from 0 list ≡ m ∷ ms → SpellFor states m.state schemas → SpellsFrom states list schemas
    spelled_first [] schemas is spelled = absurd (no_members m ms is)
    spelled_first (s ∷ list) schemas is spelled = subst (λ t. SpellFor states t schemas) (sym (split s list m ms is).state) spelled

    pub unspelled_first : (list : List State) (r : ℕ) (A : Schemas → Type 0) → members_from 0 list ≡ m ∷ ms → r ≡ m.number → ((schemas : Schemas) → SpellFor states m.state schemas → ⊥) → FailsFrom states names list r A
    unspelled_first [] r A is number none = absurd (no_members m ms is)
    unspelled_first (s ∷ list) r A is number none =
        let p = split s list m ms is in
        inl (number ∙ sym p.number, λ schemas spelled. none schemas (subst (λ t. SpellFor states t schemas) p.state spelled))

    pub passed_first : (list : List State) (all : List Member) → members_from 0 list ≡ m ∷ ms → all ≡ members_from 0 states → ArePassed states names m.state ms all → PassFrom states names list
    passed_first [] all is same passed = absurd (no_members m ms is)
    passed_first (s ∷ list) all is same passed =
        let p = split s list m ms is in
        subst (λ t. ArePassed states names t (members_from 1 list) (members_from 0 states)) (sym p.state)
        (subst (λ ns. ArePassed states names m.state ns (members_from 0 states)) (sym p.rest)
        (subst (λ ns. ArePassed states names m.state ms ns) same passed))

    pub failed_first : (list : List State) (all : List Member) (r : ℕ) (A : Schemas → Type 0) (schemas : Schemas) → members_from 0 list ≡ m ∷ ms → all ≡ members_from 0 states → SpellFor states m.state schemas → FailsIn states names m.state ms all r ⊥ → FailsFrom states names list r A
    failed_first [] all r A schemas is same spelled fails = absurd (no_members m ms is)
    failed_first (s ∷ list) all r A schemas is same spelled fails =
        let p = split s list m ms is in
        inr (
          schemas,
          (
            subst (λ t. SpellFor states t schemas) (sym p.state) spelled,
            subst (λ t. FailsIn states names t (members_from 1 list) (members_from 0 states) r (A schemas)) (sym p.state)
                (subst (λ ns. FailsIn states names m.state ns (members_from 0 states) r (A schemas)) (sym p.rest)
                (subst (λ ns. FailsIn states names m.state ms ns r (A schemas)) same
                (fails_more m.state ms all r ⊥ (A schemas) (λ no. absurd no) fails))),
          ),
        )
