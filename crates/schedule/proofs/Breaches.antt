-- The least line that is found is the least line of an event that breaks the rule.
use Rattle.std.proofs.Common.{◌≡◌, ◌≤◌, ◌⊎◌, ℕ, Bool, true, false, List, [], ◌∷◌, Option, Some, None, refl, sym, ap, ◌∙◌, subst, inl, inr, arith}
use Rattle.std.specs.Prelude.{IfSome, cond, fold, min}
use Rattle.std.specs.List.{AllByRecursion}
use Rattle.std.proofs.lemmas.Bool.{true≢false, cases_lt}
use Rattle.std.proofs.lemmas.Option.{same_Some}
use Rattle.schedule.specs.declared.events.Event.{Event}
use Rattle.schedule.specs.Breaks.{keeps, AllKeep, BreaksAt, IsLeastBreach, with_line, with_event, least_breach}

module _ (clients repos : ℕ) where
  -- the least line of those before and of the events
  record Least (before : Option ℕ) (events : List Event) (line : ℕ) : Type 0 where
    from : (before ≡ Some line) ⊎ BreaksAt clients repos events line
    least : AllByRecursion (λ event. keeps clients repos event.kind ≡ false → line ≤ event.line) events
    below : IfSome before (λ other. line ≤ other)

  abbrev IsLeast : Option ℕ → List Event → Option ℕ → Type 0
  IsLeast before events None = (before ≡ None) × AllKeep clients repos events
  IsLeast before events (Some line) = Least before events line

  -- an event that keeps the rule changes nothing
  keeping : (event : Event) (events : List Event) (before after : Option ℕ) → keeps clients repos event.kind ≡ true
      → IsLeast before events after → IsLeast before (event ∷ events) after
  keeping event events before None kept is = (is.0, (kept, is.1))
  keeping event events before (Some line) kept is =
      record {
        from = elim is.from as (λ x. (before ≡ Some line) ⊎ BreaksAt clients repos (event ∷ events) line) [ inl same ↦ inl same | inr further ↦ inr (inr further) ];
        least = (λ broken. absurd (true≢false (sym kept ∙ broken)), is.least);
        below = is.below;
      }

  some_none : (line : ℕ) → Some line ≡ None → ⊥
  some_none line e = cc

  -- an event that breaks it gives its line
  breaking : (event : Event) (events : List Event) (before after : Option ℕ) → keeps clients repos event.kind ≡ false
      → IsLeast (with_line before event.line) events after → IsLeast before (event ∷ events) after
  breaking event events None None broken is = absurd (some_none _ is.0)
  breaking event events (Some other) None broken is = absurd (some_none _ is.0)
  breaking event events None (Some line) broken is =
      record {
        from = elim is.from as (λ x. (None ≡ Some line) ⊎ BreaksAt clients repos (event ∷ events) line) [
          | inl same ↦ inr (inl (broken, same_Some event.line line same))
          | inr further ↦ inr (inr further)
        ];
        least = (λ so. is.below, is.least);
        below = tt;
      }
  breaking event events (Some other) (Some line) broken is =
      record {
        from = elim is.from as (λ x. (Some other ≡ Some line) ⊎ BreaksAt clients repos (event ∷ events) line) [
          | inl same ↦ of_two other event.line line (same_Some (min other event.line) line same) broken
          | inr further ↦ inr (inr further)
        ];
        least = (λ so. omega (arith, is.below), is.least);
        below = omega (arith, is.below);
      }
    where
      of_two : (a b l : ℕ) → min a b ≡ l → keeps clients repos event.kind ≡ false → (Some a ≡ Some l) ⊎ (((keeps clients repos event.kind ≡ false) × (b ≡ l)) ⊎ BreaksAt clients repos events l)
      of_two a b l same broken = elim (cases_lt a b) as (λ x. (Some a ≡ Some l) ⊎ (((keeps clients repos event.kind ≡ false) × (b ≡ l)) ⊎ BreaksAt clients repos events l)) [
        | inl less ↦ let first : a ≡ l = omega (arith, same) in inl (ap Some first)
        | inr more ↦ let second : b ≡ l = omega (arith, same) in inr (inl (broken, second))
      ]

  one_event : (b : Bool) (event : Event) (events : List Event) (before : Option ℕ) → keeps clients repos event.kind ≡ b
      → IsLeast (cond b before (with_line before event.line)) events (fold (with_event clients repos) (cond b before (with_line before event.line)) events)
      → IsLeast before (event ∷ events) (fold (with_event clients repos) (cond b before (with_line before event.line)) events)
  one_event true event events before is least = keeping event events before (fold (with_event clients repos) before events) is least
  one_event false event events before is least = breaking event events before (fold (with_event clients repos) (with_line before event.line) events) is least

  all_events : (events : List Event) (before : Option ℕ) → IsLeast before events (fold (with_event clients repos) before events)
  all_events [] None = (refl, tt)
  all_events [] (Some line) = record { from = inl refl; least = tt; below = omega arith }
  all_events (event ∷ events) before =
      one_event (keeps clients repos event.kind) event events before refl (all_events events (with_event clients repos before event))

  of_none : (events : List Event) (found : Option ℕ) → IsLeast None events found → found ≡ None → AllKeep clients repos events
  of_none events None is e = is.1
  of_none events (Some line) is e = absurd (some_none line e)

  -- where none is found, each keeps the rule
  pub none_breaks : (events : List Event) → least_breach clients repos events ≡ None → AllKeep clients repos events
  unfolding least_breach
  none_breaks events e = of_none events (fold (with_event clients repos) None events) (all_events events None) e

  of_some : (events : List Event) (line : ℕ) → Least None events line → IsLeastBreach clients repos events line
  of_some events line is =
      record {
        breach = elim is.from as (λ x. BreaksAt clients repos events line) [ inl never ↦ absurd (some_none line (sym never)) | inr there ↦ there ];
        least = is.least;
      }

  -- and a line that is found is the least
  pub least_breaks : (events : List Event) (line : ℕ) → least_breach clients repos events ≡ Some line → IsLeastBreach clients repos events line
  unfolding least_breach
  least_breaks events line e = of_some events line (subst (IsLeast None events) e (all_events events None))
