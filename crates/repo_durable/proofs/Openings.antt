-- A log that was found is open, where the disk of pages reaches the installed sides.
use Rattle.disk_trait.specs.Disks.{Disks, NoNewImage, OnDisk, WhereTold}
use Rattle.repo_state.specs.Keeps.{Keeps}
use Rattle.repo_state.specs.Said.{said}
use Rattle.repo_state.specs.declared.held.Held.{Held}
use Rattle.log_codec.specs.declared.state.State.{State}
use Rattle.log_frame.specs.Log.{Place}
use Rattle.page_store.specs.Sides.{ReachesSides}
use Rattle.repo_durable.proofs.Opened.{holds_beside}
use Rattle.repo_durable.proofs.Reaching.{reached}
use Rattle.repo_durable.specs.Kept.{IsOpen}
use Rattle.repo_durable.specs.Reach.{are_within}
use Rattle.repo_durable.specs.Taking.{AgreesWhere}
use Rattle.commit_log.specs.Holds.{Holds}
use Rattle.std.proofs.Common.{Bool, List, arith, length, refl, subst, sym, true, ◌∙◌, ◌≡◌, ℕ}

-- the log stands, where the disk of pages was read
pub stands_where : (old new : Disks) (log : Place) (s : State) → Holds old log s → OnDisk old new 2 → new.content 2 ≡ old.content 2 → NoNewImage old new 2 → Holds new log s
stands_where old new log s holds alone content crash =
    holds_beside old new log s holds alone (λ bytes told image left. holds.settled 2 (omega arith) bytes (sym content ∙ told) image (crash image left))

pub opened_where : (old new : Disks) (log : Place) (held : Held) (sides : List (ℕ × ℕ)) (answer : Bool) → Holds old log (said held) → Keeps held → AgreesWhere held.objects.pages → OnDisk old new 2 → new.content 2 ≡ old.content 2 → NoNewImage old new 2 → sides ≡ held.objects.pages.sides → WhereTold old 2 (λ disk. answer ≡ are_within (length disk) sides) → answer ≡ true → IsOpen new log held
opened_where old new log held sides answer holds keeps agrees alone content crash same answers is = record {
  state = said held;
  holds = stands_where old new log (said held) holds alone content crash;
  repo = refl;
  pages = λ bytes told.
      let within : are_within (length bytes) sides ≡ true = sym (answers bytes (sym content ∙ told)) ∙ is in
      agrees bytes (subst (λ (ps : List (ℕ × ℕ)). ReachesSides ps bytes) same (reached sides bytes (length bytes) refl within));
  keeps = keeps;
}
