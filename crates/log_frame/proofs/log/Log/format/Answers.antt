use Rattle.disk_trait.specs.Numbers.{number}
use Rattle.std.proofs.Common.{◌<◌, ◌^◌, ◌∙◌, refl, ap, sym, arith, length}
use Rattle.log_frame.specs.Log.{Place, new_log}
use Rattle.log_frame.proofs.LogAppends.{told_on, kept_after}
use Rattle.log_frame.proofs.FormatRuns.{header_size, agrees_new}
use Rattle.log_frame.proofs.log.Log.format.Goals as goal

pub returns-in_err-write_log-clause-any_moment : goal.returns-in_err-write_log-clause-any_moment
returns-in_err-write_log-clause-any_moment g c =
    let small : c.args.sequence < 2 ^ 64 = omega arith in
    c.write_log.ensures.any_moment c.args.sequence c.args.head.now (c.deref.ensures.value ∙ c.in_ok-put.ensures.bytes) small c.in_ok-put.ensures.fits

pub returns-clause-any_moment : goal.returns-clause-any_moment
returns-clause-any_moment g c =
    let small : c.args.sequence < 2 ^ 64 = omega arith in
    c.write_log.ensures.any_moment c.args.sequence c.args.head.now (c.deref.ensures.value ∙ c.in_ok-put.ensures.bytes) small c.in_ok-put.ensures.fits

pub returns-clause-formatted : goal.returns-clause-formatted
returns-clause-formatted g c =
    let small : c.args.sequence < 2 ^ 64 = omega arith in
    c.in_ok-write_log.ensures.formatted c.args.sequence c.args.head.now (c.deref.ensures.value ∙ c.in_ok-put.ensures.bytes) small c.in_ok-put.ensures.fits

pub returns-clause-kept : goal.returns-clause-kept
returns-clause-kept g c = λ bytes told.
    let small : c.args.sequence < 2 ^ 64 = omega arith in
    kept_after (g.P.Parts.disks c.args.parts.now) (g.P.Parts.disks c.write_log.new.parts) (number c.args.disk) (new_log c.args.sequence c.args.head.now) bytes c.write_log.ensures.alone c.in_ok-write_log.ensures.settled told
    (c.in_ok-write_log.ensures.formatted c.args.sequence c.args.head.now (c.deref.ensures.value ∙ c.in_ok-put.ensures.bytes) small c.in_ok-put.ensures.fits bytes told)

pub returns-clause-agrees : goal.returns-clause-agrees
returns-clause-agrees g c = λ final reads.
    let small : c.args.sequence < 2 ^ 64 = omega arith in
    let place : Place = record { disk = (number c.args.disk); sequence = c.args.sequence; end = c.len.result } in
    let was = told_on _ _ final (sym c.write_log.ensures.alone.told) reads in
    agrees_new place c.args.sequence c.args.head.now final refl
    (omega (arith, c.len.ensures, c.deref.ensures.len, ap length c.deref.ensures.value, ap length c.in_ok-put.ensures.bytes, header_size c.args.sequence c.args.head.now))
    (c.in_ok-write_log.ensures.formatted c.args.sequence c.args.head.now (c.deref.ensures.value ∙ c.in_ok-put.ensures.bytes) small c.in_ok-put.ensures.fits was.0 was.1 final reads)
