use Rattle.cached_sets.proofs.sets.mark_holders.Goals as goal
use Rattle.cached_sets.specs.Sets.{marked, others, told_of}
use Rattle.link_table.specs.Pairs.{lefts}
use Rattle.std.proofs.Common.{List, ap, length, map, subst, ◌+◌, ◌++◌, ◌∙◌, ◌≡◌, ◌≤◌, ℕ}
use Rattle.std.specs.Result.{OnOk}

pub returns-clause-ok : goal.returns-clause-ok
returns-clause-ok g c =
    let e = c.as_slice.ensures.value ∙ c.in_ok-put_lefts.ensures ∙ ap (λ (ss : List ℕ). ss ++ lefts c.args.pages.now c.args.oref.page) c.clear.ensures.items in
    subst (λ (ss : List ℕ). OnOk c.mark_each.result (c.mark_each.new.invalid ≡ marked c.args.invalid.now (others c.args.writer c.args.oref ss) c.args.place)) e c.mark_each.ensures.ok

pub returns-clause-told : goal.returns-clause-told
returns-clause-told g c =
    let e = c.as_slice.ensures.value ∙ c.in_ok-put_lefts.ensures ∙ ap (λ (ss : List ℕ). ss ++ lefts c.args.pages.now c.args.oref.page) c.clear.ensures.items in
    subst (λ (ss : List ℕ). OnOk c.mark_each.result (map told_of c.mark_each.new.done.items ≡ map told_of c.args.done.now.items ++ others c.args.writer c.args.oref ss)) e c.mark_each.ensures.told

pub returns-clause-cost : goal.returns-clause-cost
returns-clause-cost g c =
    let e = c.as_slice.ensures.value ∙ c.in_ok-put_lefts.ensures ∙ ap (λ (ss : List ℕ). ss ++ lefts c.args.pages.now c.args.oref.page) c.clear.ensures.items in
    subst (λ (ss : List ℕ). OnOk c.mark_each.result (c.mark_each.new.steps ≡ c.args.steps.now + length ss)) e c.mark_each.ensures.cost

pub returns-clause-bound : goal.returns-clause-bound
returns-clause-bound g c =
    let e = c.as_slice.ensures.value ∙ c.in_ok-put_lefts.ensures ∙ ap (λ (ss : List ℕ). ss ++ lefts c.args.pages.now c.args.oref.page) c.clear.ensures.items in
    subst (λ (ss : List ℕ). c.mark_each.new.steps ≤ c.args.steps.now + length ss) e c.mark_each.ensures.bound
