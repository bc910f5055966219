use Rattle.std.proofs.Common.{◌≡◌, ℕ, Some, [], ◌∷◌, ◌++◌, length, ap, sym, ◌∙◌, subst, rules, slice_get}
use Rattle.std.proofs.lemmas.List.{length-map}
use Rattle.seen_board.specs.Clauses.{Added, history}
use Rattle.seen_board.specs.Knowledge.{items_of}
use Rattle.seen_board.proofs.Prefixes.{get_here}
use Rattle.test_base.proofs.SampleLemmas.{added_last, puts_next}
use Rattle.test_base.proofs.boards.put.Goals as goal

pub tell_and_grow-requires-clause-made : goal.tell_and_grow-requires-clause-made
tell_and_grow-requires-clause-made c =
    let r : ℕ = c.catch_up.new.owner.repo in
    let client : ℕ = c.args.pass.now.client in
    let place : ℕ = c.len-place.result in
    let number : ℕ = c.args.number in
    let log = c.args.log.now.entries.items in
    let zero : c.args.owner.now.repo ≡ 0 = c.requires.whole.0 in
    let old = history c.catch_up.new.owner.seat r in
    let same : old ≡ history c.args.owner.now.seat 0 =
    ap (history c.catch_up.new.owner.seat) c.catch_up.ensures.owner.0 ∙ (c.catch_up.ensures.unchanged ∙ ap (history c.args.owner.now.seat) zero) in
    let known : items_of old ≡ log = ap items_of same ∙ c.requires.whole.1 in
    let counted : place ≡ length log = search rules in
    let many : length old ≡ length log = sym (length-map old (λ m. m.item)) ∙ ap length known in
    let last : slice_get c.push.new.self.items (length old) ≡ Some (Some (client, number)) =
    ap (λ l. slice_get l (length old)) c.in_ok-push.ensures.items ∙ (ap (λ (n : ℕ). slice_get (log ++ Some (client, number) ∷ []) n) many ∙ get_here log (Some (client, number))) in
    (Some (client, number), last, puts_next client place number c.catch_up.new.self.client r old (sym c.catch_up.ensures.same.0) (counted ∙ sym many))

pub returns-clause-whole : goal.returns-clause-whole
returns-clause-whole c =
    let client : ℕ = c.args.pass.now.client in
    let number : ℕ = c.args.number in
    let zero : c.args.owner.now.repo ≡ 0 = c.requires.whole.0 in
    let first : c.catch_up.new.owner.repo ≡ 0 = c.catch_up.ensures.owner.0 ∙ zero in
    let list = history c.catch_up.new.owner.seat 0 in
    let same : list ≡ history c.args.owner.now.seat 0 = subst (λ (k : ℕ). history c.catch_up.new.owner.seat k ≡ history c.args.owner.now.seat k) zero c.catch_up.ensures.unchanged in
    let put : c.push.new.self.items ≡ items_of list ++ Some (client, number) ∷ [] = c.in_ok-push.ensures.items ∙ ap (λ l. l ++ Some (client, number) ∷ []) (sym (ap items_of same ∙ c.requires.whole.1)) in
    added_last c.push.new.self.items list _ (Some (client, number)) put
    (subst (λ (k : ℕ). Added c.push.new.self.items (history c.catch_up.new.owner.seat k) (history c.tell_and_grow.new.owner.seat k)) first c.tell_and_grow.ensures.added)
