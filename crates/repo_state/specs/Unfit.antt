-- States that no repository leaves.
use Rattle.repo_state.specs.Keeps.{Keeps}
use Rattle.repo_state.specs.Said.{said}
use Rattle.repo_state.specs.declared.held.Held.{Held}
use Rattle.log_codec.specs.declared.state.State.{State}
use Rattle.std.specs.Prelude.{◌≡◌}

-- nothing that a repository keeps in memory says this state
abbrev pub IsUnfit : State → Type 0
IsUnfit s = (h : Held) → Keeps h → said h ≡ s → ⊥
