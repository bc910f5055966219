use Rattle.std.proofs.Common.{◌≡◌, ℕ, List, length, ap, sym, ◌∙◌, subst, arith, slice_get}
use Rattle.seen_board.specs.declared.knowledge.Made.{Made}
use Rattle.seen_board.specs.Clauses.{Added, MayGrow, history, knowledge}
use Rattle.seen_board.proofs.client_pass.ClientPass.tell_and_grow.Goals as goal

pub grow-requires : goal.grow-requires
grow-requires g c =
    let told = c.tell.ensures in
    let owner = c.tell.new.owner in
    let items = g.N.Naming.items c.args.kept.now in
    let here = ap (λ (k : ℕ). length (history owner.seat k)) told.owner.0 in
    let same = ap length told.unchanged in record {
      board = told.owner.1 ∙ c.requires.owner;
      room = omega (arith, here, same, c.requires.room);
      next =
          subst (MayGrow g.N.Naming.meaning items (knowledge owner.seat)) (sym told.owner.0)
          (_, ap (λ (l : List (Made g.row.N-Item.Denot)). slice_get items (length l)) told.unchanged ∙ c.requires.made.1, told.next c.requires.made.0 c.requires.made.2);
    }

pub returns : goal.returns
returns g c =
    let told = c.tell.ensures in
    let grew = c.grow.ensures in
    let r : ℕ = c.args.owner.now.repo in
    let items = g.N.Naming.items c.args.kept.now in
    let added = subst (λ (k : ℕ). Added items (history c.tell.new.owner.seat k) (history c.grow.new.self.seat k)) told.owner.0 grew.added in
    record {
      same = told.same;
      looks = told.looks;
      items = told.items;
      owner = (grew.same.0 ∙ told.owner.0, grew.same.1 ∙ told.owner.1);
      sent = told.sent;
      added = subst (λ (l : List (Made g.row.N-Item.Denot)). Added items l (history c.grow.new.self.seat r)) told.unchanged added;
      coherent = grew.coherent;
    }
