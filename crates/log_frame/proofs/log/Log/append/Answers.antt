use Rattle.disk_trait.specs.Numbers.{number}
use Rattle.std.proofs.Common.{◌≡◌, ◌+◌, ◌∙◌, refl, ap, arith, length}
use Rattle.log_frame.specs.Log.{Place}
use Rattle.log_frame.proofs.Appends.{record_size}
use Rattle.log_frame.proofs.LogAppends.{end_agrees, none_leaves, kept_after, agrees_after}
use Rattle.log_frame.proofs.log.Log.append.Goals as goal

pub returns-in_err-put-clause-any_moment : goal.returns-in_err-put-clause-any_moment
returns-in_err-put-clause-any_moment g c = λ opened bytes told stands.
    none_leaves (g.P.Parts.disks c.args.parts.now) c.args.self.now.disk opened c.args.body.now bytes c.requires.settled told stands

pub returns-in_err-append_at-clause-any_moment : goal.returns-in_err-append_at-clause-any_moment
returns-in_err-append_at-clause-any_moment g c =
    let agrees = rw (← c.self.view_is) at c.requires.agrees in
    rw (← c.self.view_is) (λ opened bytes told stands.
    c.append_at.ensures.any_moment opened c.args.body.now (c.deref.ensures.value ∙ c.in_ok-put.ensures.bytes) c.in_ok-put.ensures.fits (end_agrees _ bytes opened (agrees bytes told) stands) bytes told stands)

pub returns-clause-any_moment : goal.returns-clause-any_moment
returns-clause-any_moment g c =
    let agrees = rw (← c.self.view_is) at c.requires.agrees in
    rw (← c.self.view_is) (λ opened bytes told stands.
    c.append_at.ensures.any_moment opened c.args.body.now (c.deref.ensures.value ∙ c.in_ok-put.ensures.bytes) c.in_ok-put.ensures.fits (end_agrees _ bytes opened (agrees bytes told) stands) bytes told stands)

pub returns-clause-appended : goal.returns-clause-appended
returns-clause-appended g c =
    let agrees = rw (← c.self.view_is) at c.requires.agrees in
    rw (← c.self.view_is) (λ opened bytes told stands.
    c.in_ok-append_at.ensures.appended opened c.args.body.now (c.deref.ensures.value ∙ c.in_ok-put.ensures.bytes) c.in_ok-put.ensures.fits (end_agrees _ bytes opened (agrees bytes told) stands) bytes told stands)

pub returns-clause-kept : goal.returns-clause-kept
returns-clause-kept g c =
    let agrees = rw (← c.self.view_is) at c.requires.agrees in
    rw (← c.self.view_is) (λ opened bytes told stands.
    kept_after (g.P.Parts.disks c.args.parts.now) (g.P.Parts.disks c.append_at.new.parts) (number c.self.inside.disk) _ bytes c.append_at.ensures.alone c.in_ok-append_at.ensures.settled told
    (c.in_ok-append_at.ensures.appended opened c.args.body.now (c.deref.ensures.value ∙ c.in_ok-put.ensures.bytes) c.in_ok-put.ensures.fits (end_agrees _ bytes opened (agrees bytes told) stands) bytes told stands))

pub returns-clause-agrees : goal.returns-clause-agrees
returns-clause-agrees g c =
    let agrees = rw (← c.self.view_is) at c.requires.agrees in
    let old : Place = record { disk = number c.self.inside.disk; sequence = c.self.inside.sequence; end = c.self.inside.end } in
    let new : Place = record { disk = number c.self.inside.disk; sequence = c.self.inside.sequence; end = c.self.inside.end + c.len.result } in
    let size : c.len.result ≡ 5 + length c.args.body.now = omega (arith, c.len.ensures, c.deref.ensures.len, ap length c.deref.ensures.value, ap length c.in_ok-put.ensures.bytes, record_size c.args.body.now) in
    rw (← c.self.view_is) (agrees_after (g.P.Parts.disks c.args.parts.now) (g.P.Parts.disks c.append_at.new.parts) old new c.args.body.now c.append_at.ensures.alone agrees refl (ap (λ n. c.self.inside.end + n) size)
    (λ opened end_is bytes told stands. c.in_ok-append_at.ensures.appended opened c.args.body.now (c.deref.ensures.value ∙ c.in_ok-put.ensures.bytes) c.in_ok-put.ensures.fits end_is bytes told stands))
