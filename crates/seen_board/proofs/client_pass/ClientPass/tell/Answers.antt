use Rattle.std.proofs.Common.{◌≡◌, ℕ, List, [], ◌∷◌, ◌++◌, ap, sym, ◌∙◌, subst}
use mathlib.Core.List.{IsPrefix}
use Rattle.seen_board.specs.declared.knowledge.Made.{Made}
use Rattle.seen_board.specs.Clauses.{MakesNext, calls_of, history, knowledge}
use Rattle.seen_board.specs.Knowledge.{at}
use Rattle.seen_board.proofs.Next.{may_add}
use Rattle.seen_board.proofs.Prefixes.{longer_prefix, prefix_more}
use Rattle.seen_board.proofs.client_pass.ClientPass.tell.Goals as goal

pub returns : goal.returns
returns g c =
    let k : ℕ = c.args.self.now.client in
    let r : ℕ = c.args.owner.now.repo in
    let send = c.send.ensures in
    let split = c.split-copy.ensures in
    let owner = c.learn.ensures in
    let w = g.N.Naming.meaning in
    let old = calls_of c.args.self.now.seat k in
    let call = c.args.call.now in
    let seen = calls_of c.args.owner.now.seat k in
    let copied : calls_of c.split-copy.result.seat k ≡ old ++ call ∷ [] = split.copy.1 k ∙ send.sent in
    let begins : IsPrefix seen (calls_of c.split-copy.result.seat k) = subst (IsPrefix seen) (sym copied) (prefix_more _ _ (call ∷ []) c.requires.seen) in
    let told : calls_of c.learn.new.self.seat k ≡ old ++ call ∷ [] = (owner.learnt.calls k).longer ∙ (longer_prefix _ _ begins ∙ copied) in
    let sent = ap (λ h. at h.calls k) split.same.2 ∙ send.sent in
    record {
      same = (split.same.0 ∙ send.same.0, split.same.1 ∙ send.same.1);
      looks = split.looks ∙ send.looks;
      items = ap (λ h. h.items) split.same.2 ∙ send.items;
      owner = owner.same;
      unchanged = owner.own;
      sent = sent;
      told = told ∙ sym sent;
      known = λ q. subst (λ (l : List (Made g.row.N-Item.Denot)). IsPrefix l (history c.learn.new.self.seat q)) (split.copy.0 q ∙ ap (λ i. at i q) send.items) (owner.learnt.items q).second;
      coherent = owner.coherent;
      may = owner.may;
      next = λ x next. may_add w (knowledge c.learn.new.self.seat) owner.coherent call k r x old told (subst (λ (l : List (Made g.row.N-Item.Denot)). MakesNext w call k r l x) (sym owner.own) next);
    }
