-- What the program tells of an accepted script's run (this project's).
use Rattle.std.specs.Prelude.{Bool, List, ℕ}
use Rattle.top_reply.specs.Reports.{IsRun}
use Rattle.top_reply.specs.declared.form.Form.{Form}
use Rattle.top_reply.specs.declared.running.Running.{Running}
use Rattle.class_defs.specs.declared.store.Plain.{Plain}
use Rattle.class_defs.specs.declared.store.Schemas.{Schemas}
use Rattle.top_statement.specs.Opening.{AreSpelledBy, DiskBytes, IsAccepted, IsOfDisks, IsStore}
use Rattle.script_check.specs.Upgrading.{extended, upgrades_of}
use Rattle.script_parse.specs.declared.script.Script.{Script}

-- The text is that of an accepted script's run, on the store that was opened: that of the setup, or the one of the disks.
pub record IsReport (DiskReads : DiskBytes) (running : Running) (form : Form) (repos : ℕ) (script : Script) (finished : Bool) (text : List ℕ) : Type 0 where
  pub base : Schemas
  pub store : Plain
  pub accepted : IsAccepted repos script base
  pub spelled : AreSpelledBy DiskReads script.setup base
  pub store_is : IsStore script.setup base store
  pub of_disks : IsOfDisks DiskReads script.setup base store
  pub run : IsRun running form (extended base (upgrades_of script.clients)) store script finished text
