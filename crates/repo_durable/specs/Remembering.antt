-- What the state of a log says beside a state that forgets decisions before the log does.
use Rattle.log_codec.specs.declared.state.State.{State}
use Rattle.commit_log.specs.Values.{object_in}
use Rattle.std.specs.BTreeMap.{is_at}
use Rattle.std.specs.Map.{lookup}
use Rattle.std.specs.Option.{is_some}
use Rattle.std.specs.Prelude.{Bool, List, map, true, ◌≡◌, ◌≤◌}
use Rattle.thor_value.specs.Names.{ts_cmp}
use Rattle.thor_value.specs.declared.names.Oref.{Oref}
use Rattle.thor_value.specs.declared.names.Ts.{Ts}

-- whether a decision is among those that are kept
abbrev pub is_kept : List Ts → Ts → Bool
is_kept ts t = is_some (lookup (is_at (ts_cmp t)) (map (λ u. (u, tt {0})) ts))

-- The state s of a log says what the state a says. It may still keep decisions that a has forgotten, and its next page may be
-- farther; the order of its buffered objects isn't compared.
pub record Remembers (s a : State) : Type 0 where
  pub rest : s ≡ record a { next_page = s.next_page; kept = s.kept; installed = s.installed; mob = s.mob }
  pub next : a.next_page ≤ s.next_page
  pub kept : (t : Ts) → is_kept a.kept t ≡ true → is_kept s.kept t ≡ true
  pub installed : s.installed ≡ a.installed
  pub objects : (x : Oref) → object_in s.mob x ≡ object_in a.mob x
