use Rattle.cached_sets.proofs.Marking.{undo_last}
use Rattle.cached_sets.proofs.invalid_sets.InvalidSets.mark.Goals as goal
use Rattle.cached_sets.specs.Invalid.{Invalids}
use Rattle.cached_sets.specs.Sets.{told_of}
use Rattle.cached_sets.specs.Undoing.{undo}
use Rattle.cached_sets.specs.declared.marked.Marked.{Marked}
use Rattle.std.proofs.Common.{List, [], ap, map, ◌++◌, ◌∙◌, ◌∷◌}
use Rattle.std.proofs.lemmas.List.{map-append}

pub returns-clause-told : goal.returns-clause-told
returns-clause-told c =
    let m : Marked = record { session = c.args.session; oref = c.args.oref; before = c.in_ok-before.before } in
    ap (map told_of) (c.push_reserved.ensures.items ∙ ap (λ (ts : List Marked). ts ++ m ∷ []) c.reserve.ensures.items) ∙ map-append told_of c.args.done.now.items (m ∷ [])

pub returns-clause-undone : goal.returns-clause-undone
returns-clause-undone c =
    let m : Marked = record { session = c.args.session; oref = c.args.oref; before = c.in_ok-before.before } in
    λ N e.
    ap (undo c.put.new.self) (c.push_reserved.ensures.items ∙ ap (λ (ts : List Marked). ts ++ m ∷ []) c.reserve.ensures.items)
    ∙ undo_last c.put.new.self c.args.done.now.items m
    ∙ ap (λ (M : Invalids). undo M c.args.done.now.items) c.in_ok-before.ensures.undone
    ∙ e
