use Rattle.cached_sets.proofs.Marking.{unmark_undoes}
use Rattle.cached_sets.proofs.Restoring.{set_same}
use Rattle.cached_sets.proofs.invalid_sets.InvalidSets.put.Goals as goal
use Rattle.cached_sets.specs.Invalid.{Invalid, Invalids}
use Rattle.cached_sets.specs.Undoing.{unmark}
use Rattle.cached_sets.specs.declared.marked.Marked.{Marked}
use Rattle.std.proofs.Common.{List, ap, sym, ◌∙◌, ◌≡◌, ℕ}
use Rattle.std.proofs.lemmas.Result.{err_from_is_err_and}
use Rattle.std.specs.BTreeMap.{is_at}
use Rattle.std.specs.Map.{set_value}
use Rattle.std.specs.Option.{option_copied_mut}
use Rattle.std.specs.Ordering.{nat_cmp}
use Rattle.std.specs.Prelude.{Some}
use Rattle.thor_value.specs.FiniteMap.{get}

pub returns-in_err-before-clause-err : goal.returns-in_err-before-clause-err
returns-in_err-before-clause-err c =
    let N : Invalids = record { pairs = c.self.inside.sets.entries } in
    let there : get N c.args.session ≡ Some c.in-Some.set.now = sym c.get_mut.ensures.value ∙ ap option_copied_mut c.in-Some.is in
    let with_pairs : List (ℕ × Invalid) → Invalids = λ es. record { pairs = es } in
    let p = err_from_is_err_and c.from_residual.result c.from_residual.ensures.1 in
    rw (← c.self.view_is, p.1) (ap with_pairs ((c.get_mut.follows.holds c.put.new.self).0 ∙ ap (λ (m : Invalid). set_value (is_at (nat_cmp c.args.session)) N.pairs m) c.in_err-before.ensures.err ∙ set_same (is_at (nat_cmp c.args.session)) N.pairs c.in-Some.set.now there))

pub returns-clause-undone : goal.returns-clause-undone
returns-clause-undone c =
    let N : Invalids = record { pairs = c.self.inside.sets.entries } in
    let t : Marked = record { session = c.args.session; oref = c.args.oref; before = c.in_ok-before.before } in
    let there : get N c.args.session ≡ Some c.in-Some.set.now = sym c.get_mut.ensures.value ∙ ap option_copied_mut c.in-Some.is in
    rw (← c.self.view_is) (ap (λ (es : List (ℕ × Invalid)). unmark (record { pairs = es }) t) (c.get_mut.follows.holds c.put.new.self).0 ∙ unmark_undoes N t c.in-Some.set.now c.put.new.self there c.in_ok-before.ensures.undone)
