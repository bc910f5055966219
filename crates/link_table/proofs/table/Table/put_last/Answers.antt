use Rattle.link_table.proofs.Room.{on_ok, updated}
use Rattle.link_table.proofs.table.Table.put_last.Goals as goal
use Rattle.link_table.specs.States.{state_of}
use Rattle.link_table.specs.Tables.{State, joined}
use Rattle.link_table.specs.declared.ends.Ends.{Ends}
use Rattle.std.proofs.Common.{ap, cond, refl, ◌∙◌, ◌≡◌}
use Rattle.std.specs.Prelude.{Some, nat_eq, ℕ}

pub returns : goal.returns
returns c =
    let key : ℕ = c.insert_reserved-key.result in
    let S : State = state_of c.args.self.now in
    let of_left : c.copied-of_left.result ≡ S.lefts c.args.left = c.copied-of_left.ensures ∙ c.get.ensures.value in
    let of_right : c.copied-of_right.result ≡ S.rights c.args.right = c.copied-of_right.ensures ∙ c.get-2.ensures.value in
    let left : c.joined-2.result ≡ joined (S.lefts c.args.left) key = c.joined-2.ensures ∙ ap (λ o. joined o key) of_left in
    let right : c.joined-3.result ≡ joined (S.rights c.args.right) key = c.joined-3.ensures ∙ ap (λ o. joined o key) of_right in
    record {
      key = c.insert_reserved-key.result;
      vacant = c.insert_reserved-key.ensures.was_vacant;
      nodes = λ k. rw (c.set_after-3.ensures.nodes k, c.set_after-2.ensures.nodes k, c.set_after.ensures.nodes k, updated _ _ _ _ c.insert_reserved-key.ensures.updates k, c.last_of.ensures, c.last_of-2.ensures, c.last_of-3.ensures, c.at_end.ensures, c.at_end-2.ensures, c.at_end-3.ensures, of_left, of_right) refl;
      count = c.set_after-3.ensures.len ∙ c.set_after-2.ensures.len ∙ c.set_after.ensures.len ∙ c.insert_reserved-key.ensures.len;
      all = ap Some c.joined.ensures;
      lefts = λ n. (on_ok c.insert.result (c.insert.ensures.succeeds c.requires.lefts) c.insert.ensures.updates).0 n ∙ ap (λ (e : Ends). cond (nat_eq c.args.left n) (Some e) (S.lefts n)) left;
      rights = λ n. (on_ok c.insert-2.result (c.insert-2.ensures.succeeds c.requires.rights) c.insert-2.ensures.updates).0 n ∙ ap (λ (e : Ends). cond (nat_eq c.args.right n) (Some e) (S.rights n)) right;
      keys = λ p. (on_ok c.insert-3.result (c.insert-3.ensures.succeeds c.requires.keys) c.insert-3.ensures.updates).0 p;
    }
