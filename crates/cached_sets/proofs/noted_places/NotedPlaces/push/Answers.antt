use Rattle.cached_sets.proofs.Restoring.{set_same}
use Rattle.cached_sets.proofs.noted_places.NotedPlaces.push.Goals as goal
use Rattle.cached_sets.specs.Noted.{Noted}
use Rattle.std.proofs.Common.{List, ap, sym, ◌∙◌, ◌≡◌, ℕ}
use Rattle.std.specs.BTreeMap.{is_at}
use Rattle.std.specs.Map.{set_value}
use Rattle.std.specs.Option.{option_copied_mut}
use Rattle.std.specs.Ordering.{nat_cmp}
use Rattle.std.specs.Prelude.{Err, Ok, Result, Some}
use Rattle.std.specs.Result.{OnErr}
use Rattle.thor_value.specs.FiniteMap.{get}

-- what follows where there was no memory
on_err : {T E : Type 0} {P Q : Type 0} (r : Result T E) → OnErr r P → (P → Q) → OnErr r Q
on_err (Ok x) p f = tt
on_err (Err e) p f = f p

pub returns-in-Some-clause-err : goal.returns-in-Some-clause-err
returns-in-Some-clause-err c =
    let N : Noted = record { pairs = c.self.inside.queues.entries } in
    let there : get N c.args.session ≡ Some c.in-Some.queue.now = sym c.get_mut.ensures.value ∙ ap option_copied_mut c.in-Some.is in
    let written = (c.get_mut.follows.holds c.push.new.self).0 in
    on_err c.push.result c.push.ensures.err (λ same.
    ap (λ (es : List (ℕ × List ℕ)). record { pairs = es }) (
    written
    ∙ ap (λ (ks : List ℕ). set_value (is_at (nat_cmp c.args.session)) N.pairs ks) same
    ∙ set_same (is_at (nat_cmp c.args.session)) N.pairs c.in-Some.queue.now there
    )
    ∙ c.self.view_is
    )
