use Rattle.link_table.proofs.Chains.{Leads, led, leads_on, lefts_lead}
use Rattle.link_table.proofs.links.Links.put_lefts.Goals as goal
use Rattle.link_table.specs.Pairs.{lefts}
use Rattle.link_table.specs.States.{state_of}
use Rattle.link_table.specs.Tables.{State, pairs}
use Rattle.std.proofs.Common.{List, [], ap, append_assoc, refl, subst, sym, ◌++◌, ◌∙◌, ◌∷◌, ◌≡◌, ℕ}
use Rattle.std.proofs.lemmas.List.{append-nil}
use Rattle.std.specs.Prelude.{Option}

pub loop-init : goal.loop-init
loop-init c =
    let S : State = state_of c.self.inside.table in
    (lefts (pairs S) c.args.right, subst (λ (o : Option ℕ). Leads S.nodes o (lefts (pairs S) c.args.right)) (sym c.first_left-key.ensures) (lefts_lead S c.args.right c.self.invariant), refl)

pub loop-preserved : goal.loop-preserved
loop-preserved c =
    let S : State = state_of c.self.inside.table in
    let h = c.loop.invariant in
    let n = leads_on S.nodes c.loop.key c.in-Some.behind c.in-Some.left h.0 h.1 (sym c.left_at.ensures ∙ c.in-Some.is) in
    (n.0, n.2, ap (λ (xs : List ℕ). xs ++ n.0) c.in_ok-push.ensures.items ∙ append_assoc c.loop.out.items (c.in-Some.left ∷ []) n.0 ∙ ap (λ (xs : List ℕ). c.loop.out.items ++ xs) (sym n.1) ∙ h.2)

pub returns-in_default : goal.returns-in_default
returns-in_default c =
    let S : State = state_of c.self.inside.table in
    let h = c.loop.invariant in
    let e : h.0 ≡ [] = led S.nodes c.loop.key h.0 h.1 (sym c.left_at.ensures ∙ c.in_default.is) in
    rw (← c.self.view_is) (sym (append-nil c.loop.out.items) ∙ ap (λ (xs : List ℕ). c.loop.out.items ++ xs) (sym e) ∙ h.2)
