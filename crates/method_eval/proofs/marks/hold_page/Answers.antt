use Rattle.std.proofs.Common.{◌∙◌, ◌++◌, ◌∷◌, [], ap, map, not}
use Rattle.std.specs.List.{filter}
use Rattle.thor_value.specs.FiniteMap.{Set, has}
use Rattle.thor_value.specs.Names.{oref_cmp}
use Rattle.thor_value.specs.declared.names.Oref.{Oref}
use Rattle.method_eval.specs.Marks.{marks_of, spent_in}
use Rattle.method_eval.specs.Names.{free}
use Rattle.method_eval.proofs.Holding.{page_more}
use Rattle.method_eval.proofs.marks.hold_page.Goals as goal

pub loop-slot-preserved : goal.loop-slot-preserved
loop-slot-preserved c =
    let x : Oref = record { repo = c.args.repo; page = c.args.page; slot = c.loop-slot.slot } in
    let inv = c.loop-slot.invariant in (
      c.in_ok-hold_unspent.ensures.marked,
      c.in_ok-hold_unspent.ensures.spent ∙ inv.1,
      page_more (λ y. not (has (spent_in (marks_of c.args.marks.now)) y)) c.args.repo c.args.page c.loop-slot.slot c.args.held.now.items c.loop-slot.held.items c.hold_unspent.new.held.items inv.2
          (c.in_ok-hold_unspent.ensures.ok ∙ ap (λ (s : Set oref_cmp). c.loop-slot.held.items ++ map free (filter (λ y. not (has s y)) (x ∷ []))) inv.1),
    )
