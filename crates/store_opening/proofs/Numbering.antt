-- The repositories of a store, numbered one behind the other.
use Rattle.log_codec.specs.declared.state.State.{State}
use Rattle.repo_opening.proofs.Paging.{next_first}
use Rattle.store_opening.proofs.Holding.{all_more}
use Rattle.repo_opening.specs.declared.repository.Read.{Read}
use Rattle.std.proofs.Common.{List, [], ap, arith, get_or, length, map, refl, subst, suc, sym, take, zero, ℕ, ◌++◌, ◌+◌, ◌<◌, ◌∙◌, ◌≡◌, ◌≤◌, ◌∷◌}
use Rattle.std.proofs.lemmas.List.{length-append, map-append, take_all}
use Rattle.std.specs.List.{AllByRecursion}
use Rattle.store_opening.specs.Fitting.{members_from}
use Rattle.store_opening.specs.Joined.{read_states, state_of}
use Rattle.store_opening.specs.Standing.{AreStanding, IsStanding, member_of, members_of}
use Rattle.store_opening.specs.declared.standing.Stands.{Stands}

numbered_more : (r n : ℕ) (states : List State) (s : State) → n ≡ r + length states → members_from r (states ++ s ∷ []) ≡ members_from r states ++ record { number = n; state = s } ∷ []
numbered_more r n [] s is =
    let e : r ≡ n = omega (arith, is) in
    ap (λ (k : ℕ). record { number = k; state = s } ∷ []) e
numbered_more r n (t ∷ states) s is = ap (λ ms. record { number = r; state = t } ∷ ms) (numbered_more (suc r) n states s (omega (arith, is)))

pub mapped_length : {X Y : Type 0} (f : X → Y) (xs : List X) → length (map f xs) ≡ length xs
mapped_length f [] = refl
mapped_length f (x ∷ xs) = ap suc (mapped_length f xs)

taken_length : {X : Type 0} (xs : List X) (i : ℕ) → i ≤ length xs → length (take i xs) ≡ i
taken_length xs zero within = refl
taken_length [] (suc i) within = absurd (omega (arith, within))
taken_length (x ∷ xs) (suc i) within = ap suc (taken_length xs i (omega (arith, within)))

module _ (store : List Read) (i : ℕ) (standing : List Stands) where
  pub members_more : (read : Read) (one : Stands) (now' : List Stands) → i < length store → read ≡ get_or store i read → now' ≡ standing ++ one ∷ [] → members_of standing ≡ members_from 0 (read_states (take i store)) → length standing ≡ i
      → one.repo ≡ length standing → one.read.now ≡ read → members_of now' ≡ members_from 0 (read_states (take (i + 1) store))
  members_more read one now' within is pushed so_far count number same =
      let before = read_states (take i store) in
      let long : length before ≡ i = mapped_length state_of (take i store) ∙ taken_length store i (omega (arith, within)) in
      let at : one.repo ≡ 0 + length before = omega (arith, number, count, long) in
      ap members_of pushed
      ∙ (map-append member_of standing (one ∷ [])
      ∙ (ap (λ ms. ms ++ member_of one ∷ []) so_far
      ∙ (ap (λ (q : Read). members_from 0 before ++ record { number = one.repo; state = state_of q } ∷ []) same
      ∙ (sym (numbered_more 0 one.repo before (state_of read) at)
      ∙ ap (members_from 0) (sym (ap read_states (next_first store i read within is) ∙ map-append state_of (take i store) (read ∷ [])))))))

  pub standing_all : length store ≤ i → members_of standing ≡ members_from 0 (read_states (take i store)) → AllByRecursion (IsStanding store) standing → AreStanding store standing
  standing_all past members each = record { members = subst (λ rs. members_of standing ≡ members_from 0 (read_states rs)) (take_all i store past) members; each = each }

pub each_more : (store : List Read) (standing now' : List Stands) (one : Stands) → now' ≡ standing ++ one ∷ [] → AllByRecursion (IsStanding store) standing → IsStanding store one → AllByRecursion (IsStanding store) now'
each_more store standing now' one pushed each is = subst (AllByRecursion (IsStanding store)) (sym pushed) (all_more (IsStanding store) standing one each is)

pub count_more : (standing now' : List Stands) (one : Stands) (i : ℕ) → now' ≡ standing ++ one ∷ [] → length standing ≡ i → length now' ≡ i + 1
count_more standing now' one i pushed count = ap length pushed ∙ (length-append standing (one ∷ []) ∙ ap (λ n. n + 1) count)

-- ---- the first, and the others

module _ (store : List Read) (standing : List Stands) (first : Stands) (others : List Stands) (is : standing ≡ first ∷ others) (all : AreStanding store standing) where
  pub first_stands : IsStanding store first
  first_stands = (subst (AllByRecursion (IsStanding store)) is all.each).0

  pub others_stand : AllByRecursion (IsStanding store) others
  others_stand = (subst (AllByRecursion (IsStanding store)) is all.each).1

  pub first_member : members_from 0 (read_states store) ≡ member_of first ∷ members_of others
  first_member = sym all.members ∙ ap members_of is
