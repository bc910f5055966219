-- Of which repository a disk failed, where a store couldn't be opened for a run.
use Rattle.disk_trait.specs.Disks.{Disks}
use Rattle.repo_opening.specs.declared.unopened.Unopened.TheVariants.{Failed}
use Rattle.std.proofs.Common.{Bool, Err, Global, IfErr, IfOk, List, Ok, Result, subst, sym, ℕ, ◌≡◌}
use Rattle.std.specs.Result.{IsErrAnd}
use Rattle.store_opening.specs.Failing.{FailsAt}
use Rattle.store_opening.specs.declared.fault.ClusterFault.{ClusterFault}
use Rattle.std.specs.declared.vec.Vec.{Vec}
use Rattle.thor_value.specs.declared.memory.NoMemory.{NoMemory}
use Rattle.top_judging.proofs.DiskLaws.{TellsDisk, no_disk}
use Rattle.thor_top.specs.declared.expected.Expected.{Expected}
use Rattle.top_reply.specs.Replies.{run_reply}
use Rattle.top_reply.specs.Reports.{IsReported}
use Rattle.top_reply.specs.declared.form.Form.TheVariants as form
use Rattle.top_reply.specs.declared.form.Form.{Form}
use Rattle.top_reply.specs.declared.reply.Reply.TheVariants as reply
use Rattle.top_reply.specs.declared.reply.Reply.{Reply}

pub failed_played : {P F : Type 0} (disks : P → Disks) (given : List P) (played : Result F (ClusterFault P)) (back : Vec P Global) (r : ℕ)
    → IfErr played (λ fault. (n : ℕ) → fault.why ≡ Failed n → FailsAt disks given fault.parts.items n) → IsErrAnd played (λ fault. fault.why ≡ Failed r) → IfErr played (λ fault. back ≡ fault.parts) → FailsAt disks given back.items r
failed_played disks given (Ok f) back r fails why same = absurd why
failed_played {P} disks given (Err fault) back r fails why same = subst (λ (v : Vec P Global). FailsAt disks given v.items r) (sym same) (fails r why)

-- the reply of a run is of no disk
pub run_no_disk : (f : Form) (finished : Bool) (text : List ℕ) → TellsDisk (run_reply f finished text) → ⊥
run_no_disk form.Report finished text tells = tells
run_no_disk form.Summary finished text tells = tells

-- nor is what is told of one
pub told_no_disk : (e : Expected) (r : Result Reply NoMemory) (repo : ℕ) → IfOk r (IsReported e.running e.form e.opened.schemas e.opened.store e.script) → r ≡ Ok (reply.DiskFault repo) → ⊥
told_no_disk e r repo told is = no_disk r (IsReported e.running e.form e.opened.schemas e.opened.store e.script) repo (λ w reported tells. run_no_disk e.form reported.0 reported.1.0 (subst TellsDisk reported.1.1.0 tells)) told is
