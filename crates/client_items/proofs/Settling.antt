-- An item that was Unknown ends in its place.
use Rattle.client_items.specs.Courses.{Course}
use Rattle.client_items.specs.Ending.{SettlesAs}
use Rattle.serial_model.specs.declared.outcomes.Ended.{Ended}
use Rattle.client_items.specs.declared.news.Settled.{Settled}
use Rattle.serial_model.specs.declared.outcomes.ItemOutcome.TheVariants.{Unknown}
use Rattle.std.proofs.Common.{List, ℕ, ◌≡◌, ap, refl, subst}
use Rattle.std.specs.List.{slice_get}
use Rattle.std.specs.Prelude.{Some, slice_set, ◌+◌}

pub settles_as : (client count : ℕ) (ended new : List Ended) (old : Course) (place : ℕ) (was : Ended) (settled : Settled)
    → record { client = client; count = count; ended = ended } ≡ old
    → settled.index ≡ place + 1
    → slice_get ended place ≡ Some was
    → was.outcome ≡ Unknown settled.ts
    → new ≡ slice_set ended place (record was { outcome = settled.outcome })
    → SettlesAs settled old (record { client = client; count = count; ended = new })
settles_as client count ended new old place was settled is index there unknown set =
    subst (λ (o : Course). SettlesAs settled o (record { client = client; count = count; ended = new })) is (record {
      settles = record {
        place = place;
        was = was;
        tx = settled.ts;
        there = there;
        unknown = unknown;
        outcome = settled.outcome;
        late = settled.late;
        set = ap (λ (e : List Ended). record { client = client; count = count; ended = e }) set;
      };
      index_is = index;
      tx_is = refl;
      outcome_is = refl;
    })
