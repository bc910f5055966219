use Rattle.std.proofs.Common.{◌≡◌, [], ◌∷◌, length, ap, sym, ◌∙◌, arith, subst}
use Rattle.std.proofs.lemmas.Option.{slice_get_within}
use mathlib.Core.List.{IsPrefix}
use Rattle.seen_board.specs.Clauses.{calls_of, history, knowledge}
use Rattle.seen_board.specs.Knowledge.{LiesIn, at}
use Rattle.seen_board.specs.Rows.{EachOf}
use Rattle.seen_board.proofs.Known.{lies_trans}
use Rattle.seen_board.proofs.Rows.{each_pop, each_push, own_one}
use Rattle.seen_board.proofs.board.Board.close.Goals as goal

pub gather_owners-chief-requires-clause-owners : goal.gather_owners-chief-requires-clause-owners
gather_owners-chief-requires-clause-owners g c = λ i x e. ((each_pop (λ i x. (x.repo ≡ i) × (x.seat.table_id ≡ c.args.self.table.shared.table_id)) c.args.owners.items c.pop.new.self.items c.in-Some.last c.in-Some.ensures.items c.requires.owners).0 i x e).1

pub gather_owners-chief-requires-clause-board : goal.gather_owners-chief-requires-clause-board
gather_owners-chief-requires-clause-board g c = (each_pop (λ i x. (x.repo ≡ i) × (x.seat.table_id ≡ c.args.self.table.shared.table_id)) c.args.owners.items c.pop.new.self.items c.in-Some.last c.in-Some.ensures.items c.requires.owners).1.1

pub gather_passes-chief-requires-clause-board : goal.gather_passes-chief-requires-clause-board
gather_passes-chief-requires-clause-board g c = c.gather_owners-chief.ensures.table ∙ (each_pop (λ i x. (x.repo ≡ i) × (x.seat.table_id ≡ c.args.self.table.shared.table_id)) c.args.owners.items c.pop.new.self.items c.in-Some.last c.in-Some.ensures.items c.requires.owners).1.1

pub gather_passes-chief-requires-clause-passes : goal.gather_passes-chief-requires-clause-passes
gather_passes-chief-requires-clause-passes g c = λ i x e. (c.requires.passes i x e).1

pub lengths_of-requires-clause-board : goal.lengths_of-requires-clause-board
lengths_of-requires-clause-board g c = c.gather_passes-chief.ensures.table ∙ c.gather_owners-chief.ensures.table ∙ (each_pop (λ i x. (x.repo ≡ i) × (x.seat.table_id ≡ c.args.self.table.shared.table_id)) c.args.owners.items c.pop.new.self.items c.in-Some.last c.in-Some.ensures.items c.requires.owners).1.1

pub returns : goal.returns
returns g c =
    let all = knowledge c.gather_passes-chief.result in
    let owners : EachOf (λ _ x. LiesIn (knowledge x.seat) all) c.args.owners.items =
    rw c.in-Some.ensures.items (each_push (λ _ x. LiesIn (knowledge x.seat) all) c.pop.new.self.items c.in-Some.last
    (λ i x e. lies_trans _ _ _ (c.gather_owners-chief.ensures.owners i x e) c.gather_passes-chief.ensures.chief)
    (lies_trans _ _ _ c.gather_owners-chief.ensures.chief c.gather_passes-chief.ensures.chief)) in
    let passes = c.gather_passes-chief.ensures.passes in
    let whole : EachOf (λ r x. history x.seat r ≡ at all.items r) c.args.owners.items = λ r o e. (owners r o e).0.whole r (own_one r _ (o.owned ∙ ap (λ k. k ∷ []) (c.requires.owners r o e).0)) in
    let sent : EachOf (λ k x. calls_of x.seat k ≡ at all.calls k) c.args.passes.items = λ k p e. (passes k p e).1.whole k (own_one k _ (p.owned ∙ ap (λ j. j ∷ []) (c.requires.passes k p e).0)) in
    record {
      lengths = λ r o e. c.lengths_of.ensures.lengths r (omega (arith, slice_get_within c.args.owners.items r o e, c.requires.count)) ((owners r o e).0.owned r (own_one r _ (o.owned ∙ ap (λ k. k ∷ []) (c.requires.owners r o e).0))) ∙ sym (ap length (whole r o e));
      owners = λ i a e' r o e. subst (IsPrefix (history a.seat r)) (sym (whole r o e)) ((owners i a e').0.begins r);
      passes = λ i a e' r o e. subst (IsPrefix (history a.seat r)) (sym (whole r o e)) ((passes i a e').0.begins r);
      calls = λ i a e' k p e. subst (IsPrefix (calls_of a.seat k)) (sym (sent k p e)) ((passes i a e').1.begins k);
      owner_calls = λ i a e' k p e. subst (IsPrefix (calls_of a.seat k)) (sym (sent k p e)) ((owners i a e').1.begins k);
      coherent = (all, c.lengths_of.ensures.coherent, (λ r o e. sym (whole r o e)), (λ k p e. sym (sent k p e)));
    }
