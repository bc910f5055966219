use Rattle.std.proofs.Common.{◌≡◌, true, map, ap, sym, ◌∙◌}
use Rattle.serial_model.proofs.Aside.{same_at, same_more}
use Rattle.serial_model.proofs.lines_aside.SequenceSameAside.same_aside.Goals as goal

pub returns-then-not-same_aside : goal.returns-then-not-same_aside
returns-then-not-same_aside g c = (
  λ h. cc,
  λ e.
      let same = same_at g.T.SameAside.on_line_1 c.as_slice-some.result.now c.as_slice-others.result.now c.loop-place.place
      c.index-some-place.result c.index-others-place.result c.loop-place-test.true c.if-some-others.false c.index-some-place.is c.index-others-place.is
      (ap (map g.T.SameAside.on_line_1) c.as_slice-some.ensures ∙ e ∙ ap (map g.T.SameAside.on_line_1) (sym c.as_slice-others.ensures)) in
      let told : c.same_aside.result ≡ true = c.same_aside.ensures.1 same in
      sym c.if-not-same_aside.true ∙ told,
)

pub loop-place-preserved : goal.loop-place-preserved
loop-place-preserved g c =
    same_more g.T.SameAside.on_line_1 c.as_slice-some.result.now c.as_slice-others.result.now c.loop-place.place
    c.index-some-place.result c.index-others-place.result c.loop-place-test.true c.if-some-others.false c.index-some-place.is c.index-others-place.is
    (c.same_aside.ensures.0 c.if-not-same_aside.false) c.loop-place.invariant
