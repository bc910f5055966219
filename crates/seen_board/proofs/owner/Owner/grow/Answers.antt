use Rattle.std.proofs.Common.{ℕ, [], ◌∷◌, length, Some, refl, ap, sym, ◌∙◌, arith, length-append}
use Rattle.std.specs.Prelude.{slice_get}
use Rattle.seen_board.specs.Clauses.{history, knowledge}
use Rattle.seen_board.specs.Knowledge.{at}
use Rattle.seen_board.specs.Steps.{grown}
use Rattle.seen_board.proofs.Rows.{own_one}
use Rattle.seen_board.proofs.Owned.{grown_else, grown_here}
use Rattle.seen_board.proofs.Keeps.{grows}
use Rattle.seen_board.proofs.owner.Owner.grow.Goals as goal

pub compare_exchange_with-self-requires : goal.compare_exchange_with-self-requires
compare_exchange_with-self-requires g c =
    let o = c.args.self.now in
    let z = ap (λ z. z.words) c.requires.board in (
      c.requires.board,
      omega (arith, o.room, z, c.from-word.ensures),
      rw c.from-word.ensures (grows g.N.Naming.meaning g.N.Naming.lasts c.args.board.now.table.shared.key.0 _ _ _ o.repo g.N.Naming.items c.args.kept.now c.requires.next.0 o.count (own_one o.repo _ o.owned) o.calm (omega (arith, o.room, z, c.args.board.now.counted)) o.counted (ap (slice_get (g.N.Naming.items c.args.kept.now)) o.counted ∙ c.requires.next.1) c.requires.next.2),
    )

pub invariant_of-self : goal.invariant_of-self
invariant_of-self g c =
    let o = c.args.self.now in
    let e = c.compare_exchange_with-self.ensures in
    let to = e.2.1 c.args.kept.now c.requires.next.0.item refl (ap (slice_get (g.N.Naming.items c.args.kept.now)) o.counted ∙ c.requires.next.1) in
    let grew = to.2 ∙ ap (λ (k : ℕ). grown o.seat.me.0 k to.0) c.from-word.ensures in
    let more = ap (λ v. at v.knows.items o.repo) grew ∙ grown_here (knowledge o.seat).items o.repo to.0 in
    record {
      free = e.2.0 ∙ o.free;
      owned = ap (λ v. v.knows.items.owned) grew ∙ o.owned;
      calm = (ap (λ v. v.mine) grew ∙ o.calm.0, ap (λ v. v.theirs) grew ∙ o.calm.1);
      room = omega (arith, o.room, ap (λ z. z.words) e.0);
      counted = omega (arith, o.counted, ap length more, length-append (history o.seat o.repo) (to.0 ∷ []));
    }

pub returns : goal.returns
returns g c =
    let o = c.args.self.now in
    let e = c.compare_exchange_with-self.ensures in
    let to = e.2.1 c.args.kept.now c.requires.next.0.item refl (ap (slice_get (g.N.Naming.items c.args.kept.now)) o.counted ∙ c.requires.next.1) in
    let grew = to.2 ∙ ap (λ (k : ℕ). grown o.seat.me.0 k to.0) c.from-word.ensures in
    let more = ap (λ v. at v.knows.items o.repo) grew ∙ grown_here (knowledge o.seat).items o.repo to.0 in record {
      same = (refl, e.0);
      calls = ap (λ v. v.knows.calls) grew;
      others = λ q n. ap (λ v. at v.knows.items q) grew ∙ grown_else (knowledge o.seat).items o.repo q to.0 n;
      added = (to.0, c.requires.next.1 ∙ ap Some (sym to.1), more);
      coherent = e.2.2;
    }
