use Rattle.std.proofs.Common.{ℕ, length, subst}
use Rattle.disk_trait.specs.Disks.{Torn, TornAlone}
use Rattle.page_format.specs.Pages.{page_size}
use Rattle.page_store.proofs.Tears.{write_leaves, sync_leaves}
use Rattle.page_store.specs.Sides.{place_of}
use Rattle.page_store.proofs.device.write_side.Goals as goal

pub returns-in_err-write_at-clause-any_moment : goal.returns-in_err-write_at-clause-any_moment
returns-in_err-write_at-clause-any_moment g c = λ disk told.
    let old = g.P.Parts.disks c.args.parts.now in
    let mid = g.P.Parts.disks c.write_at.new.self in
    let torn = subst (λ (n : ℕ). TornAlone old mid 2 (place_of c.args.page c.args.side) n) c.requires.size (subst (λ (at : ℕ). TornAlone old mid 2 at (length c.args.bytes.now)) c.place_of.ensures c.write_at.ensures.crash) in
    write_leaves old mid (place_of c.args.page c.args.side) page_size disk c.write_at.result c.requires.settled told c.write_at.ensures.call torn

pub returns-in_err-sync-clause-any_moment : goal.returns-in_err-sync-clause-any_moment
returns-in_err-sync-clause-any_moment g c = λ disk told.
    let old = g.P.Parts.disks c.args.parts.now in
    let mid = g.P.Parts.disks c.write_at.new.self in
    let new = g.P.Parts.disks c.sync.new.self in
    let torn = subst (λ (n : ℕ). TornAlone old mid 2 (place_of c.args.page c.args.side) n) c.requires.size (subst (λ (at : ℕ). TornAlone old mid 2 at (length c.args.bytes.now)) c.place_of.ensures c.write_at.ensures.crash) in
    sync_leaves old mid new (Torn (place_of c.args.page c.args.side) page_size disk) c.sync.result
    (write_leaves old mid (place_of c.args.page c.args.side) page_size disk c.write_at.result c.requires.settled told c.write_at.ensures.call torn) c.sync.ensures.call c.sync.ensures.crash

pub returns-clause-any_moment : goal.returns-clause-any_moment
returns-clause-any_moment g c = λ disk told.
    let old = g.P.Parts.disks c.args.parts.now in
    let mid = g.P.Parts.disks c.write_at.new.self in
    let new = g.P.Parts.disks c.sync.new.self in
    let torn = subst (λ (n : ℕ). TornAlone old mid 2 (place_of c.args.page c.args.side) n) c.requires.size (subst (λ (at : ℕ). TornAlone old mid 2 at (length c.args.bytes.now)) c.place_of.ensures c.write_at.ensures.crash) in
    sync_leaves old mid new (Torn (place_of c.args.page c.args.side) page_size disk) c.sync.result
    (write_leaves old mid (place_of c.args.page c.args.side) page_size disk c.write_at.result c.requires.settled told c.write_at.ensures.call torn) c.sync.ensures.call c.sync.ensures.crash
