use Rattle.cluster_port.proofs.Begun.{begins_new}
use Rattle.cluster_port.specs.Begun.{new_base}
use Rattle.cluster_core.specs.Seated.{AreBegun, IsFound}
use Rattle.cluster_core.specs.declared.plan.Start.{Start}
use Rattle.std.proofs.Common.{OnOk, arith, length, subst, sym, vec_len, ℕ, ◌≡◌}
use Rattle.cluster_core.proofs.opening.open_seats.Goals as goal

pub open_stored-requires-clause-begun : goal.open_stored-requires-clause-begun
open_stored-requires-clause-begun g c =
    let count : vec_len c.args.places ≡ length c.args.places.items = omega (arith, c.args.places.ok.0) in
    subst (λ (n : ℕ). AreBegun g.O.Opening.run n 0 c.args.places.items) (sym count) (c.requires.begins.stored c.in-Stored.is)

pub format_found-seats-requires-clause-begins : goal.format_found-seats-requires-clause-begins
format_found-seats-requires-clause-begins g c = λ n.
    begins_new g.O.Opening.run n (vec_len c.args.places) c.in-Setup.setup c.args.mob
    (λ based. let base = c.requires.begins.new c.in-Setup.setup c.in-Setup.is n based in
    subst (λ (k : ℕ). g.O.Opening.run.base n ≡ new_base n k c.in-Setup.setup c.args.mob) (omega (arith, c.args.places.ok.0)) base)

pub returns-in-Stored-clause-found : goal.returns-in-Stored-clause-found
returns-in-Stored-clause-found g c = subst (λ (s : Start). OnOk c.open_stored.result.1 (IsFound g.P.Parts.disks c.args.places.items s)) (sym c.in-Stored.is) c.open_stored.ensures.recovered

pub returns-in-Setup-clause-found : goal.returns-in-Setup-clause-found
returns-in-Setup-clause-found g c = subst (λ (s : Start). OnOk c.format_found-seats.result.1 (IsFound g.P.Parts.disks c.args.places.items s)) (sym c.in-Setup.is) c.format_found-seats.ensures.new
