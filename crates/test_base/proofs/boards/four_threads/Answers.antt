use Rattle.std.proofs.Common.{◌≡◌, ℕ, length, ◌∙◌, subst, rules}
use Rattle.seen_board.specs.Clauses.{IsFresh, history}
use Rattle.test_base.specs.Samples.{IsReady}
use Rattle.test_base.proofs.SampleLemmas.{four_put, four_taken}
use Rattle.test_base.proofs.boards.four_threads.Goals as goal

pub join-a-requires-after_bounds : goal.join-a-requires-after_bounds
join-a-requires-after_bounds g c κs within =
    let z = c.args.board.now.table.shared.table_id in
    let d = c.last_team-d in
    let e = c.last_team-c in
    let f = c.last_team-b in
    let h = c.last_team-a in
    let o = four_taken (λ r x. (x.repo ≡ r) × IsFresh z x.seat) c.args.owners.items d.new.owners.items e.new.owners.items f.new.owners.items h.new.owners.items h.result.0 f.result.0 e.result.0 d.result.0
    d.ensures.owners e.ensures.owners f.ensures.owners h.ensures.owners c.requires.counts.0 c.requires.owners in
    let p = four_taken (λ k x. (x.client ≡ k) × IsFresh z x.seat) c.args.passes.items d.new.passes.items e.new.passes.items f.new.passes.items h.new.passes.items h.result.1 f.result.1 e.result.1 d.result.1
    d.ensures.passes e.ensures.passes f.ensures.passes h.ensures.passes c.requires.counts.1 c.requires.passes in
    let first : IsReady z h.result.0.repo h.result.0.seat h.result.1.seat = (o.1.1.0, p.1.1.0, o.1.1.1 h.result.0.repo) in
    let second : IsReady z f.result.0.repo f.result.0.seat f.result.1.seat = (o.2.1.0, p.2.1.0, o.2.1.1 f.result.0.repo) in
    let third : IsReady z e.result.0.repo e.result.0.seat e.result.1.seat = (o.3.1.0, p.3.1.0, o.3.1.1 e.result.0.repo) in
    let fourth : IsReady z d.result.0.repo d.result.0.seat d.result.1.seat = (o.4.1.0, p.4.1.0, o.4.1.1 d.result.0.repo) in
    search rules

pub returns-clause-owners : goal.returns-clause-owners
returns-clause-owners g c =
    let z = c.args.board.now.table.shared.table_id in
    let n : ℕ = c.args.rounds in
    let d = c.last_team-d in
    let e = c.last_team-c in
    let f = c.last_team-b in
    let h = c.last_team-a in
    let o = four_taken (λ r x. (x.repo ≡ r) × IsFresh z x.seat) c.args.owners.items d.new.owners.items e.new.owners.items f.new.owners.items h.new.owners.items h.result.0 f.result.0 e.result.0 d.result.0
    d.ensures.owners e.ensures.owners f.ensures.owners h.ensures.owners c.requires.counts.0 c.requires.owners in
    let w = c.join-a.result in
    let l = c.join-a.ensures.first in
    let r = c.join-a.ensures.second in
    (four_put (λ q x. (x.repo ≡ q) × (x.seat.table_id ≡ z) × (length (history x.seat q) ≡ n)) c.in_ok-owners-4.owners.items c.in_ok-owners-3.owners.items c.in_ok-owners-2.owners.items c.in_ok-owners.owners.items h.new.owners.items w.0.0.0 w.0.1.0 w.1.0.0 w.1.1.0
    o.0 c.in_ok-owners.ensures.0 c.in_ok-owners-2.ensures.0 c.in_ok-owners-3.ensures.0 c.in_ok-owners-4.ensures.0
    (l.0 ∙ o.1.0, l.4.0, subst (λ (q : ℕ). length (history w.0.0.0.seat q) ≡ n) o.1.0 l.4.2)
    (l.2 ∙ o.2.0, l.5.0, subst (λ (q : ℕ). length (history w.0.1.0.seat q) ≡ n) o.2.0 l.5.2)
    (r.0 ∙ o.3.0, r.4.0, subst (λ (q : ℕ). length (history w.1.0.0.seat q) ≡ n) o.3.0 r.4.2)
    (r.2 ∙ o.4.0, r.5.0, subst (λ (q : ℕ). length (history w.1.1.0.seat q) ≡ n) o.4.0 r.5.2)).0

pub returns-clause-passes : goal.returns-clause-passes
returns-clause-passes g c =
    let z = c.args.board.now.table.shared.table_id in
    let d = c.last_team-d in
    let e = c.last_team-c in
    let f = c.last_team-b in
    let h = c.last_team-a in
    let p = four_taken (λ k x. (x.client ≡ k) × IsFresh z x.seat) c.args.passes.items d.new.passes.items e.new.passes.items f.new.passes.items h.new.passes.items h.result.1 f.result.1 e.result.1 d.result.1
    d.ensures.passes e.ensures.passes f.ensures.passes h.ensures.passes c.requires.counts.1 c.requires.passes in
    let w = c.join-a.result in
    let l = c.join-a.ensures.first in
    let r = c.join-a.ensures.second in
    (four_put (λ k x. (x.client ≡ k) × (x.seat.table_id ≡ z)) c.in_ok-owners-4.passes.items c.in_ok-owners-3.passes.items c.in_ok-owners-2.passes.items c.in_ok-owners.passes.items h.new.passes.items w.0.0.1 w.0.1.1 w.1.0.1 w.1.1.1
    p.0 c.in_ok-owners.ensures.1 c.in_ok-owners-2.ensures.1 c.in_ok-owners-3.ensures.1 c.in_ok-owners-4.ensures.1
    (l.1 ∙ p.1.0, l.4.1) (l.3 ∙ p.2.0, l.5.1) (r.1 ∙ p.3.0, r.4.1) (r.3 ∙ p.4.0, r.5.1)).0
