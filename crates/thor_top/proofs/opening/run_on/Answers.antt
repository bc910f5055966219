use Rattle.std.proofs.Common.{refl, subst}
use Rattle.store_opening.specs.Reading.{ReadAll}
use Rattle.thor_top.proofs.StageLaws.{foretells_run, of_disks}
use Rattle.thor_top.specs.Stages.{Foretells, RepliesRun}
use Rattle.thor_top.specs.declared.expected.Expected.{Expected}
use Rattle.top_judging.proofs.DiskLaws.{err_disk}
use Rattle.top_judging.proofs.StageLaws.{spelled_by}
use Rattle.top_reply.specs.declared.reply.Reply.{Reply}
use Rattle.top_reply.specs.declared.running.Running.{Running}
use Rattle.thor_top.proofs.opening.run_on.Goals as goal

pub returns-in-Ok-clause-foretells : goal.returns-in-Ok-clause-foretells
returns-in-Ok-clause-foretells g c = λ given stored.
    let D = ReadAll g.P.Parts.disks given in
    let e : Expected = record { running = c.running_of.result; form = c.args.form; script = c.args.script; opened = c.in-Ok.opened } in
    let tells_by : Running → Reply → Type 0 = λ running. RepliesRun D running c.args.form c.args.plan.now.repos c.args.script in
    let disks = of_disks D c.args.script.setup c.args.judged.base c.args.judged.found.store c.in-Ok.opened.store stored c.in-Ok.ensures.opened in
    subst (λ (running : Running). Foretells (tells_by running) e) c.running_of.ensures
    (foretells_run D c.args.plan.now.repos c.args.judged.base e c.requires.accepted (spelled_by D c.args.script.setup c.args.judged.found.store c.args.judged.base stored c.requires.schemas) c.in-Ok.ensures.schemas c.in-Ok.ensures.store disks c.in-Ok.ensures.sorted)

pub returns-in-Ok-clause-awaits : goal.returns-in-Ok-clause-awaits
returns-in-Ok-clause-awaits g c = λ given stored.
    let D = ReadAll g.P.Parts.disks given in
    record {
      base = c.args.judged.base;
      running = c.running_of.ensures;
      form = refl;
      same = refl;
      schemas = c.in-Ok.ensures.schemas;
      accepted = c.requires.accepted;
      spelled = spelled_by D c.args.script.setup c.args.judged.found.store c.args.judged.base stored c.requires.schemas;
      store_is = c.in-Ok.ensures.store;
      of_disks = of_disks D c.args.script.setup c.args.judged.base c.args.judged.found.store c.in-Ok.opened.store stored c.in-Ok.ensures.opened;
    }

pub returns-in-Err-clause-never : goal.returns-in-Err-clause-never
returns-in-Err-clause-never g c = λ repo is. err_disk c.unplayed.result.reply _ repo c.unplayed.ensures.reply is
