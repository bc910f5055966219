-- Shares name their sessions, one after the other, and go to participants.
use Rattle.client_state.specs.Participants.{first_in}
use Rattle.client_state.specs.Sending.{CarriesSessions, IsDrawnAt, carried, carried_at, changed_share}
use Rattle.client_state.specs.Writing.{is_of}
use Rattle.client_state.specs.declared.link.Link.{Link}
use Rattle.client_state.specs.declared.transaction.Share.{Share}
use Rattle.client_state.specs.declared.transaction.Transaction.{Transaction}
use Rattle.std.proofs.Common.{List, [], ap, arith, inl, inr, length, nat_eq, refl, suc, sym, true, zero, ℕ, ◌+◌, ◌<◌, ◌≡◌, ◌≢◌, ◌≤◌, ◌∙◌, ◌∷◌}
use Rattle.std.proofs.Math.Nat.{eq-or-lt_of_le}
use Rattle.std.proofs.lemmas.Bool.{and_parts, cases_lt}
use Rattle.std.proofs.lemmas.Option.{same_Some, slice_get_past}
use Rattle.std.specs.List.{AllByRecursion, list_all, list_any, slice_get}
use Rattle.std.specs.Option.{option_map}
use Rattle.std.specs.Prelude.{None, Option, Some, remove, slice_set, ◌⊎◌}
use Rattle.thor_value.specs.declared.names.Ts.{Ts}

set_here : (xs : List Share) (r : ℕ) (old new : Share) → slice_get xs r ≡ Some old → slice_get (slice_set xs r new) r ≡ Some new
set_here [] r old new e = cc
set_here (x ∷ xs) zero old new e = refl
set_here (x ∷ xs) (suc r) old new e = set_here xs r old new e

set_other : (xs : List Share) (r n : ℕ) (s : Share) → n ≢ r → slice_get (slice_set xs r s) n ≡ slice_get xs n
set_other [] r n s other = refl
set_other (x ∷ xs) zero zero s other = absurd (other refl)
set_other (x ∷ xs) zero (suc n) s other = refl
set_other (x ∷ xs) (suc r) zero s other = refl
set_other (x ∷ xs) (suc r) (suc n) s other = set_other xs r n s (λ e. other (ap suc e))

pub first_share : (xs : List Share) (x : Share) → slice_get xs 0 ≡ Some x → xs ≡ x ∷ remove xs 0
first_share [] x h = cc
first_share (y ∷ xs) x h = ap (λ (z : Share). z ∷ xs) (same_Some y x h)

-- each share goes to a participant
each_goes : (participants : List ℕ) (ss : List Share) → list_all (λ (s : Share). list_any (nat_eq s.repo) participants) ss ≡ true → AllByRecursion (λ (s : Share). list_any (nat_eq s.repo) participants ≡ true) ss
each_goes participants [] all = tt
each_goes participants (s ∷ ss) all =
    let parts : (list_any (nat_eq s.repo) participants ≡ true) × (list_all (λ (x : Share). list_any (nat_eq x.repo) participants) ss ≡ true) = and_parts (list_any (nat_eq s.repo) participants) (list_all (λ (x : Share). list_any (nat_eq x.repo) participants) ss) all in
    (parts.0, each_goes participants ss parts.1)

pub drawn_there : (t : Ts) (transaction : Transaction) → first_in transaction.participants ≡ t.repo → is_of t.repo (slice_get transaction.shares.items 0) ≡ true
    → list_all (λ (s : Share). list_any (nat_eq s.repo) transaction.participants) transaction.shares.items ≡ true → IsDrawnAt t transaction
drawn_there t transaction coordinator first each = record { coordinator = coordinator; first = first; shares = each_goes transaction.participants transaction.shares.items each }

module _ (links : List Link) where
  abbrev pub Carried : ℕ → List Share → List Share → Type 0
  Carried place old new = ((n : ℕ) → n < place → slice_get new n ≡ option_map (carried links) (slice_get old n)) × ((n : ℕ) → place ≤ n → slice_get new n ≡ slice_get old n)

  other_by : (place n : ℕ) (shares : List Share) (o : Option Share) → n ≢ place → slice_get (changed_share links place shares o) n ≡ slice_get shares n
  other_by place n shares None away = refl
  other_by place n shares (Some s) away = set_other shares place n (carried links s) away

  here_by : (place : ℕ) (shares : List Share) (o : Option Share) → slice_get shares place ≡ o → slice_get (changed_share links place shares o) place ≡ option_map (carried links) o
  here_by place shares None e = e
  here_by place shares (Some s) e = set_here shares place s (carried links s) e

  other : (place n : ℕ) (shares : List Share) → n ≢ place → slice_get (carried_at links place shares) n ≡ slice_get shares n
  other place n shares away = other_by place n shares (slice_get shares place) away

  here : (place : ℕ) (shares : List Share) → slice_get (carried_at links place shares) place ≡ option_map (carried links) (slice_get shares place)
  here place shares = here_by place shares (slice_get shares place) refl

  below : (place : ℕ) (old now : List Share) → Carried place old now → (n : ℕ) → (n ≡ place) ⊎ (n < place) → slice_get (carried_at links place now) n ≡ option_map (carried links) (slice_get old n)
  below place old now h n (inl e) = rw e (here place now ∙ ap (option_map (carried links)) (h.1 place (omega arith)))
  below place old now h n (inr l) = other place n now (omega (arith, l)) ∙ h.0 n l

  pub one_more : (place : ℕ) (old now : List Share) → Carried place old now → Carried (place + 1) old (carried_at links place now)
  one_more place old now h = (
    (λ n l. below place old now h n (eq-or-lt_of_le (omega (arith, l)))),
    (λ n l. other place n now (omega (arith, l)) ∙ h.1 n (omega (arith, l))),
  )

  pub none_yet : (old : List Share) → Carried 0 old old
  none_yet old = ((λ n l. absurd (omega (arith, l))), (λ n l. refl))

  end_by : (place : ℕ) (old new : List Share) → length old ≤ place → Carried place old new → (n : ℕ) → (n < place) ⊎ (place ≤ n) → slice_get new n ≡ option_map (carried links) (slice_get old n)
  end_by place old new past h n (inl l) = h.0 n l
  end_by place old new past h n (inr l) = let none : slice_get old n ≡ None = slice_get_past old n (omega (arith, past, l)) in h.1 n l ∙ none ∙ sym (ap (option_map (carried links)) none)

  pub at_end : (place : ℕ) (old new : List Share) → length old ≤ place → Carried place old new → CarriesSessions links old new
  at_end place old new past h n = end_by place old new past h n (cases_lt n place)
