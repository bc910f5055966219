use Rattle.cached_sets.proofs.Touching.{marked_append, on_ok, steps_from, touches_from}
use Rattle.cached_sets.proofs.sets.Sets.mark_writes.Goals as goal
use Rattle.cached_sets.specs.Invalid.{Invalids}
use Rattle.cached_sets.specs.Sets.{Sets, marked, others, told_of, touches}
use Rattle.link_table.specs.Pairs.{lefts}
use Rattle.std.proofs.Common.{List, ap, append_assoc, arith, drop, get_or, length, map, sym, ◌+◌, ◌++◌, ◌∙◌, ℕ}
use Rattle.std.specs.Map.{keys_of}
use Rattle.thor_value.specs.declared.names.Oref.{Oref}
use Rattle.thor_value.specs.declared.values.Obj.{Obj}

pub returns-then-is_err-clause-err : goal.returns-then-is_err-clause-err
returns-then-is_err-clause-err g c =
    let kept : Invalids → Sets = λ N. record { cached = c.self.inside.pages; invalid = N; noted = c.self.inside.noted } in
    rw (← c.self.view_is, c.loop-write.invariant.pages, c.loop-write.invariant.noted) (ap kept (c.undo.ensures.rest ∙ c.mark_holders-touched.ensures.undone c.self.inside.invalid c.loop-write.invariant.undone))

pub loop-write-preserved : goal.loop-write-preserved
loop-write-preserved g c =
    let ws : List (Oref × Obj) = c.as_slice-write-items.result.now in
    let i : ℕ = c.loop-write.write-index in
    let P : List (ℕ × ℕ) = c.self.inside.pages in
    let N : Invalids = c.loop-write.self-inside.invalid in
    let d : Oref × Obj = c.write-item.result in
    let y : Oref × Obj = get_or ws i d in
    let rest : List (ℕ × Oref) = touches P c.args.writer (keys_of (drop (i + 1) ws)) in
    let here : List (ℕ × ℕ) → Oref × Obj → List (ℕ × Oref) = λ ps y. others c.args.writer y.0 (lefts ps y.0.page) in
    let these = ap (λ (ps : List (ℕ × ℕ)). here ps d) c.loop-write.invariant.pages ∙ ap (here P) c.write-item.is in
    let parts = touches_from P c.args.writer ws i d c.loop-write-test.true in
    let ok = on_ok c.mark_holders-touched.result (sym c.is_err.ensures.value ∙ c.if-is_err.false) c.mark_holders-touched.ensures.ok in
    let told = on_ok c.mark_holders-touched.result (sym c.is_err.ensures.value ∙ c.if-is_err.false) c.mark_holders-touched.ensures.told in
    let cost =
    on_ok c.mark_holders-touched.result (sym c.is_err.ensures.value ∙ c.if-is_err.false) c.mark_holders-touched.ensures.cost
    ∙ ap (λ (ps : List (ℕ × ℕ)). c.tick.new.self + length (lefts ps d.0.page)) c.loop-write.invariant.pages
    ∙ ap (λ (y : Oref × Obj). c.tick.new.self + length (lefts P y.0.page)) c.write-item.is in
    let steps = steps_from P ws i d c.loop-write-test.true in
    record {
      noted = c.loop-write.invariant.noted;
      pages = c.loop-write.invariant.pages;
      left =
          ap (λ (M : Invalids). marked M rest c.args.place) (ok ∙ ap (λ (ts : List (ℕ × Oref)). marked N ts c.args.place) these)
          ∙ sym (marked_append N (here P y) rest c.args.place)
          ∙ ap (λ (ts : List (ℕ × Oref)). marked N ts c.args.place) (sym parts)
          ∙ c.loop-write.invariant.left;
      told =
          ap (λ (ts : List (ℕ × Oref)). ts ++ rest) (told ∙ ap (λ (ts : List (ℕ × Oref)). map told_of c.loop-write.done.items ++ ts) these)
          ∙ append_assoc (map told_of c.loop-write.done.items) (here P y) rest
          ∙ ap (λ (ts : List (ℕ × Oref)). map told_of c.loop-write.done.items ++ ts) (sym parts)
          ∙ c.loop-write.invariant.told;
      undone = c.mark_holders-touched.ensures.undone c.self.inside.invalid c.loop-write.invariant.undone;
      cost = omega (arith, steps, cost, c.tick.ensures, c.loop-write.invariant.cost);
      few = omega (arith, c.mark_holders-touched.ensures.marks, c.tick.ensures, c.loop-write.invariant.few);
    }
