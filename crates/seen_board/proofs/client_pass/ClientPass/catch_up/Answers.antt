use Rattle.std.proofs.Common.{◌≡◌, ℕ, List, ap, sym, ◌∙◌, subst}
use mathlib.Core.List.{IsPrefix}
use Rattle.seen_board.specs.declared.knowledge.Knowledge.{Knowledge}
use Rattle.seen_board.specs.declared.knowledge.Made.{Made}
use Rattle.seen_board.specs.Clauses.{calls_of, history}
use Rattle.seen_board.specs.Knowledge.{MayAdd, at}
use Rattle.seen_board.proofs.Prefixes.{longer_prefix, prefix_trans}
use Rattle.seen_board.proofs.client_pass.ClientPass.catch_up.Goals as goal

pub returns : goal.returns
returns g c =
    let r : ℕ = c.args.owner.now.repo in
    let k : ℕ = c.args.self.now.client in
    let split = c.split-copy.ensures in
    let owner = c.learn.ensures in
    let note = c.note-note.ensures in
    let mine = c.learn-2.ensures in
    let own = history c.args.owner.now.seat r in
    let before = history c.split-copy.new.self.seat r in
    let noted : history c.note-note.result.seat r ≡ own = note.copy.0 r ∙ owner.own in
    let copied : history c.split-copy.result.seat r ≡ before = split.copy.0 r ∙ ap (λ h. at h.items r) (sym split.same.2) in
    let begins : IsPrefix before own = subst (λ (l : List (Made g.row.N-Item.Denot)). IsPrefix l own) copied (subst (IsPrefix (history c.split-copy.result.seat r)) owner.own (owner.learnt.items r).second) in
    let same_calls : calls_of c.learn-2.new.self.seat k ≡ calls_of c.args.self.now.seat k =
    subst (λ (j : ℕ). calls_of c.learn-2.new.self.seat j ≡ calls_of c.split-copy.new.self.seat j) split.same.0 mine.own ∙ ap (λ h. at h.calls k) split.same.2 in
    let shown : calls_of c.note-note.result.seat k ≡ calls_of c.note-note.new.self.seat k = note.copy.1 k ∙ ap (λ h. at h.calls k) (sym note.same.2) in
    record {
      same = (mine.same.0 ∙ split.same.0, mine.same.1 ∙ split.same.1);
      owner = (note.same.0 ∙ owner.same.0, note.same.1 ∙ owner.same.1);
      unchanged = ap (λ h. at h.items r) note.same.2 ∙ owner.own;
      history = (mine.learnt.items r).longer ∙ (longer_prefix _ _ (subst (IsPrefix before) (sym noted) begins) ∙ noted);
      looks = mine.looks ∙ split.looks;
      mine = λ q. subst (λ (l : List (Made g.row.N-Item.Denot)). IsPrefix l (history c.learn-2.new.self.seat q)) (ap (λ h. at h.items q) split.same.2) (mine.learnt.items q).first;
      shown = λ q. prefix_trans _ _ _ (owner.learnt.items q).first
          (subst (λ (l : List (Made g.row.N-Item.Denot)). IsPrefix l (history c.learn-2.new.self.seat q)) (note.copy.0 q) (mine.learnt.items q).second);
      known = λ q. subst (IsPrefix (history c.args.self.now.seat q)) (ap (λ h. at h.items q) (sym note.same.2))
          (subst (λ (l : List (Made g.row.N-Item.Denot)). IsPrefix l (history c.learn.new.self.seat q)) (split.copy.0 q) (owner.learnt.items q).second);
      calls = same_calls;
      owner_calls = subst (λ (l : List g.row.N-Call.Denot). IsPrefix l (calls_of c.args.self.now.seat k)) shown (subst (IsPrefix (calls_of c.note-note.result.seat k)) same_calls (mine.learnt.calls k).second);
      coherent = mine.coherent;
      may = λ m may. subst (λ (h : Knowledge g.row.N-Item.Denot g.row.N-Call.Denot). MayAdd g.N.Naming.meaning h r m) (sym note.same.2) (owner.may m may);
    }
