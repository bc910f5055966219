use Rattle.std.proofs.Common.{◌≡◌, ℕ, Some, ap, sym, ◌∙◌}
use Rattle.seen_board.specs.Steps.{sent}
use Rattle.seen_board.proofs.Rows.{own_one}
use Rattle.seen_board.proofs.Keeps.{sends}
use Rattle.seen_board.proofs.client_pass.send_as.Goals as goal

pub load-requires : goal.load-requires
load-requires g c =
    let p = c.args.seat.now in
    let said = c.args.call.now in (
      c.requires.board.0,
      c.requires.board.1,
      λ s h len here small.
          let t = sends g.N.Naming.meaning g.N.Naming.lasts c.args.board.now.table.shared.key.0 c.args.board.now.table.shared.table_id.slots p.id p.me c.args.client said (own_one c.args.client _ c.requires.own) c.requires.calm c.requires.justified s h len here small in (
            t.0,
            t.1,
            t.2,
            t.3,
            λ d e.
                let both : Some said ≡ Some d = sym c.requires.picked.1 ∙ e in
                let same : said ≡ d = cc both in
                (t.4.0 ∙ (λ i. (sent p.me.0 (sym c.requires.picked.0 i) (same i), p.me.1)), t.4.1),
          ),
    )

pub returns : goal.returns
returns g c =
    let told = c.load.ensures.2 c.args.call.now c.requires.picked.1 in record {
      table = c.load.ensures.0;
      sent = told.0 ∙ ap (λ (k : ℕ). (sent c.args.seat.now.me.0 k c.args.call.now, c.args.seat.now.me.1)) c.requires.picked.0;
      coherent = told.1;
    }
