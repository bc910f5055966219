use Rattle.link_table.proofs.Kept.{knows, none_if, pairs_with, same_pairs, sound_too, sound_with}
use Rattle.link_table.proofs.links.Links.link.Goals as goal
use Rattle.link_table.specs.Pairs.{is_linked, link}
use Rattle.link_table.specs.States.{state_of}
use Rattle.link_table.specs.Tables.{State, pairs}
use Rattle.std.proofs.Common.{Bool, ap, cond, sym, ◌∙◌, ◌≡◌}
use Rattle.std.specs.Option.{is_some}
use Rattle.std.specs.Prelude.{false, not, true}

pub returns-then-is_some-clause-answer : goal.returns-then-is_some-clause-answer
returns-then-is_some-clause-answer c =
    let S : State = state_of c.self.inside.table in
    let e : true ≡ is_linked (pairs S) c.args.left c.args.right = sym c.if-is_some.true ∙ c.is_some.ensures ∙ ap is_some c.key.ensures ∙ knows S c.args.left c.args.right c.self.invariant in
    rw (← c.self.view_is) (ap not e)

pub returns-then-is_some-clause-ok : goal.returns-then-is_some-clause-ok
returns-then-is_some-clause-ok c =
    let S : State = state_of c.self.inside.table in
    let e : true ≡ is_linked (pairs S) c.args.left c.args.right = sym c.if-is_some.true ∙ c.is_some.ensures ∙ ap is_some c.key.ensures ∙ knows S c.args.left c.args.right c.self.invariant in
    rw (← c.self.view_is) (ap (λ (t : Bool). cond t (pairs S) (link (pairs S) c.args.left c.args.right)) e)

pub invariant_of-self : goal.invariant_of-self
invariant_of-self c = sound_too (state_of c.self.inside.table) (state_of c.make_room.new.self) c.make_room.ensures.same c.self.invariant

pub invariant_of-self-2 : goal.invariant_of-self-2
invariant_of-self-2 c =
    let S : State = state_of c.self.inside.table in
    let R : State = state_of c.make_room.new.self in
    let none = none_if (S.keys (c.args.left, c.args.right)) (ap is_some (sym c.key.ensures) ∙ sym c.is_some.ensures ∙ c.if-is_some.false) in
    sound_with R (state_of c.put_last.new.self) c.args.left c.args.right (sound_too S R c.make_room.ensures.same c.self.invariant) c.put_last.ensures (c.make_room.ensures.same.keys (c.args.left, c.args.right) ∙ none)

pub returns-clause-answer : goal.returns-clause-answer
returns-clause-answer c =
    let S : State = state_of c.self.inside.table in
    let e : false ≡ is_linked (pairs S) c.args.left c.args.right = sym c.if-is_some.false ∙ c.is_some.ensures ∙ ap is_some c.key.ensures ∙ knows S c.args.left c.args.right c.self.invariant in
    rw (← c.self.view_is) (ap not e)

pub returns-clause-ok : goal.returns-clause-ok
returns-clause-ok c =
    let S : State = state_of c.self.inside.table in
    let R : State = state_of c.make_room.new.self in
    let none = none_if (S.keys (c.args.left, c.args.right)) (ap is_some (sym c.key.ensures) ∙ sym c.is_some.ensures ∙ c.if-is_some.false) in
    let e : false ≡ is_linked (pairs S) c.args.left c.args.right = sym c.if-is_some.false ∙ c.is_some.ensures ∙ ap is_some c.key.ensures ∙ knows S c.args.left c.args.right c.self.invariant in
    let made : pairs (state_of c.put_last.new.self) ≡ link (pairs R) c.args.left c.args.right = pairs_with R (state_of c.put_last.new.self) c.args.left c.args.right (sound_too S R c.make_room.ensures.same c.self.invariant) c.put_last.ensures (c.make_room.ensures.same.keys (c.args.left, c.args.right) ∙ none) in
    let was : pairs R ≡ pairs S = same_pairs S R c.make_room.ensures.same c.self.invariant in
    rw (← c.self.view_is) (made ∙ ap (λ ps. link ps c.args.left c.args.right) was ∙ ap (λ (t : Bool). cond t (pairs S) (link (pairs S) c.args.left c.args.right)) e)
