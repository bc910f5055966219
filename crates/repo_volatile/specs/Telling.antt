-- What sessions are told of the commit of a request.
use Rattle.log_entries.specs.declared.request.Kind.TheVariants.{App, Transform, Upgrade}
use Rattle.log_entries.specs.declared.request.Kind.{Kind}
use Rattle.log_entries.specs.declared.request.Request.{Request}
use Rattle.repo_sessions.specs.Sessions.{Kept}
use Rattle.repo_sessions.specs.Telling.{Retires, UpgradeTold, WritesTold}
use Rattle.std.specs.Map.{keys_of}
use Rattle.std.specs.Prelude.{Bool, None, Option, Some, false, true, ℕ, ◌≡◌}

-- the commit of a request of this kind
abbrev pub KindTold : Kept → Kept → Request → ℕ → ℕ → Kind → Type 0
KindTold before after q number k App = WritesTold before after q.session (keys_of q.writes) k
KindTold before after q number k Transform = WritesTold before after q.session (keys_of q.writes) k
KindTold before after q number k (Upgrade text) = UpgradeTold before after number text k

-- The commit of q at a place was told, and the sessions were given up that are silent by that. An upgrade has this number.
abbrev pub CommitTold : Kept → Kept → Request → ℕ → ℕ → Type 0
CommitTold before after q number k = (told : Kept) × KindTold before told q number k q.kind × Retires before told after

-- Sessions are told of a decision on a transaction of which this request is open: where it commits, of that.
abbrev pub TellsDecided : Kept → Kept → ℕ → ℕ → Bool → Option Request → Type 0
TellsDecided before after number place false o = after ≡ before
TellsDecided before after number place true None = after ≡ before
TellsDecided before after number place true (Some q) = CommitTold before after q number place
