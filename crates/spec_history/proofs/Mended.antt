-- The example that has local order and isn't sound: no transaction that isn't aborted writes.
use Rattle.spec_history.proofs.Decided.{at_pair, decides_lives}
use Rattle.spec_history.proofs.Tests.{decides_empty, decides_if}
use Rattle.spec_history.specs.Checking.{if_then, is_empty, is_live}
use Rattle.spec_history.specs.Examples.{home, mended}
use Rattle.spec_history.specs.History.{Known, or_lost, known_by, state}
use Rattle.spec_history.specs.Order.{HasOrder, ReadsFrom}
use Rattle.std.proofs.Common.{List, [], refl, subst, ◌≡◌}
use Rattle.std.proofs.lemmas.Option.{MatchOption-at_some}
use Rattle.std.specs.Bool.{⊤}
use Rattle.std.specs.Prelude.{Bool, IsTrue, Some, true}
use Rattle.thor_value.specs.FiniteMap.{empty, has, overwrite}
use Rattle.thor_value.specs.Names.{oref_cmp}
use Rattle.thor_value.specs.declared.names.Oref.{Oref}
use Rattle.thor_value.specs.declared.names.Ts.{Ts}
use Rattle.thor_value.specs.declared.values.Obj.{Obj}

quiet : Ts → Known → Bool
quiet s w = if_then (is_live w.fate) (is_empty w.request.writes)

all_quiet : (s : Ts) (w : Known) → known_by home mended s ≡ Some w → quiet s w ≡ true
unfolding quiet
all_quiet s w is = MatchOption-at_some ⊤ (λ o. quiet s o ≡ true) w is (at_pair quiet (or_lost home (state home mended)) (state home mended).known.pairs refl s)

none_there : (x : Oref) → IsTrue (has {X = Obj} {R = oref_cmp} empty x) → ⊥
none_there x h = cc

none_written : (x : Oref) (ws : List (Oref × Obj)) → ws ≡ [] → IsTrue (has (overwrite {R = oref_cmp} empty ws) x) → ⊥
none_written x ws e h = none_there x (subst (λ (vs : List (Oref × Obj)). IsTrue (has (overwrite {R = oref_cmp} empty vs) x)) e h)

nothing_written : {A : Type 0} (t s : Ts) (o w : Known) (x : Oref) → ReadsFrom home mended t s o w x → A
unfolding quiet
nothing_written t s o w x r =
    let none : w.request.writes ≡ [] = (decides_if _ _ (decides_lives w.fate) (decides_empty w.request.writes)).0 (all_quiet s w r.writer) r.writer_lives in
    absurd (none_written x w.request.writes none r.wrote)

pub order : HasOrder home mended
order = record {
  rises = λ t s o w x r l. nothing_written t s o w x r;
  settled = λ t s o w x r e. nothing_written t s o w x r;
}
