use Rattle.std.proofs.Common.{◌≡◌, ℕ, ◌+◌, ◌<◌, Bool, true, false, ◌&&◌, List, length, drop, get_or, ap, sym, ◌∙◌}
use Rattle.std.proofs.lemmas.List.{at_drop_more}
use Rattle.class_defs.specs.declared.store.UpgradedSchema.{UpgradedSchema}
use Rattle.serial_model.specs.Replays.{is_made, made_from}
use Rattle.serial_model.proofs.made.are_made_behind.Goals as goal

-- the answer at a place is that of what stands there, and of the rest
at_place : (us : List UpgradedSchema) (i : ℕ) (u : UpgradedSchema) (b : Bool) → i < length us → made_from (i + 1) (drop i us) ≡ made_from 1 us → b ≡ is_made (get_or us i u).schema (i + 1) → made_from 1 us ≡ (b && made_from (i + 1 + 1) (drop (i + 1) us))
at_place us i u b within h e = sym h ∙ at_drop_more (made_from (i + 1)) us i u within ∙ ap (λ (c : Bool). c && made_from (i + 1 + 1) (drop (i + 1) us)) (sym e)

refused : (us : List UpgradedSchema) (i : ℕ) (u : UpgradedSchema) (b : Bool) → i < length us → made_from (i + 1) (drop i us) ≡ made_from 1 us → b ≡ is_made (get_or us i u).schema (i + 1) → b ≡ false → false ≡ made_from 1 us
refused us i u b within h e f = sym (at_place us i u b within h e ∙ ap (λ (c : Bool). c && made_from (i + 1 + 1) (drop (i + 1) us)) f)

passed : (us : List UpgradedSchema) (i : ℕ) (u : UpgradedSchema) (b : Bool) → i < length us → made_from (i + 1) (drop i us) ≡ made_from 1 us → b ≡ is_made (get_or us i u).schema (i + 1) → b ≡ true → made_from (i + 1 + 1) (drop (i + 1) us) ≡ made_from 1 us
passed us i u b within h e f = sym (at_place us i u b within h e ∙ ap (λ (c : Bool). c && made_from (i + 1 + 1) (drop (i + 1) us)) f)

pub returns-then-not-is_made : goal.returns-then-not-is_made
returns-then-not-is_made c = refused c.args.upgraded.now c.loop-index.index c.index-upgraded-index.result c.is_made.result c.loop-index-test.true c.loop-index.invariant c.is_made.ensures c.if-not-is_made.true

pub loop-index-preserved : goal.loop-index-preserved
loop-index-preserved c = passed c.args.upgraded.now c.loop-index.index c.index-upgraded-index.result c.is_made.result c.loop-index-test.true c.loop-index.invariant c.is_made.ensures c.if-not-is_made.false
