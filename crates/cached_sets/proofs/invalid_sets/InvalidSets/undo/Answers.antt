use Rattle.cached_sets.proofs.Marking.{undo_last}
use Rattle.cached_sets.proofs.invalid_sets.InvalidSets.undo.Goals as goal
use Rattle.cached_sets.specs.Invalid.{Invalid, Invalids, changed, replace}
use Rattle.cached_sets.specs.Undoing.{put_back, undo, unmark}
use Rattle.std.proofs.Common.{List, [], ap, arith, length, sym, ◌+◌, ◌∙◌, ◌∷◌, ◌≡◌, ℕ}
use Rattle.std.proofs.lemmas.List.{length-append}
use Rattle.std.specs.Option.{option_copied_mut}
use Rattle.std.specs.Prelude.{None, Some}
use Rattle.thor_value.specs.FiniteMap.{get}

pub loop-mark-preserved-in-Some-get_mut : goal.loop-mark-preserved-in-Some-get_mut
loop-mark-preserved-in-Some-get_mut g c =
    let N : Invalids = record { pairs = c.loop-mark.self-inside.sets.entries } in
    let there : get N c.in-Some.mark.session ≡ Some c.in-Some-get_mut.set.now = sym c.get_mut.ensures.value ∙ ap option_copied_mut c.in-Some-get_mut.is in
    let back : unmark N c.in-Some.mark ≡ replace N c.in-Some.mark.session (put_back c.in-Some-get_mut.set.now c.in-Some.mark.oref c.in-Some.mark.before) =
    ap (changed N c.in-Some.mark.session (λ m. put_back m c.in-Some.mark.oref c.in-Some.mark.before)) there in
    let one_less : length c.loop-mark.done.items ≡ length c.pop.new.self.items + 1 = ap length c.in-Some.ensures.items ∙ length-append c.pop.new.self.items (c.in-Some.mark ∷ []) in
    record {
      rest =
          ap (λ (es : List (ℕ × Invalid)). undo (record { pairs = es }) c.pop.new.self.items) (c.get_mut.follows.holds c.put_back.new.self).0
          ∙ ap (λ (m : Invalid). undo (replace N c.in-Some.mark.session m) c.pop.new.self.items) c.put_back.ensures
          ∙ ap (λ (M : Invalids). undo M c.pop.new.self.items) (sym back)
          ∙ sym (undo_last N c.pop.new.self.items c.in-Some.mark)
          ∙ ap (undo N) (sym c.in-Some.ensures.items)
          ∙ c.loop-mark.invariant.rest;
      cost = omega (arith, one_less, c.tick.ensures, c.loop-mark.invariant.cost);
    }

pub loop-mark-preserved : goal.loop-mark-preserved
loop-mark-preserved g c =
    let N : Invalids = record { pairs = c.loop-mark.self-inside.sets.entries } in
    let none : get N c.in-Some.mark.session ≡ None = sym c.get_mut.ensures.value ∙ ap option_copied_mut c.in_default-get_mut.is in
    let back : unmark N c.in-Some.mark ≡ N = ap (changed N c.in-Some.mark.session (λ m. put_back m c.in-Some.mark.oref c.in-Some.mark.before)) none in
    let one_less : length c.loop-mark.done.items ≡ length c.pop.new.self.items + 1 = ap length c.in-Some.ensures.items ∙ length-append c.pop.new.self.items (c.in-Some.mark ∷ []) in
    record {
      rest =
          ap (λ s. undo (record { pairs = s.entries }) c.pop.new.self.items) c.get_mut.follows.holds-at-none
          ∙ ap (λ (M : Invalids). undo M c.pop.new.self.items) (sym back)
          ∙ sym (undo_last N c.pop.new.self.items c.in-Some.mark)
          ∙ ap (undo N) (sym c.in-Some.ensures.items)
          ∙ c.loop-mark.invariant.rest;
      cost = omega (arith, one_less, c.tick.ensures, c.loop-mark.invariant.cost);
    }
