-- What sessions are told where objects have moved.
use Rattle.log_entries.specs.declared.entry.Entry.{Entry}
use Rattle.repo_state.specs.declared.held.Held.{Held}
use Rattle.repo_sessions.specs.Sessions.{Kept}
use Rattle.repo_core.specs.Moving.{MakesRoom}
use Rattle.repo_core.specs.Shown.{Shown}
use Rattle.repo_core.specs.Telling.{Tells}
use Rattle.log_entries.specs.declared.entry.Entry.TheVariants.{Decided, Finished, Life, One, Prepared, Upgraded}
use Rattle.std.proofs.Common.{length, subst, ℕ, ◌≡◌}
use Rattle.repo_trace.specs.Recorded.{Recorded}
use Rattle.repo_volatile.specs.Volatile.{Memory}

moved_tells : (h : Held) (objects : _) (K : Kept) (n : ℕ) (e : Entry) (L : Kept) → Tells (record h { objects = objects }) K n e L → Tells h K n e L
moved_tells h objects K n (Life m) L t = t
moved_tells h objects K n (One q) L t = t
moved_tells h objects K n (Prepared q) L t = t
moved_tells h objects K n (Decided t c) L told = told
moved_tells h objects K n (Finished t c) L told = told
moved_tells h objects K n (Upgraded q) L t = t

pub tells_there : (x y : Shown) (e f : Entry) (L : Kept) → MakesRoom x y → e ≡ f → Tells y.held y.memory.sessions (length y.trace.history) e L → Tells x.held x.memory.sessions (length x.trace.history) f L
tells_there x y e f L made same told =
    subst (λ (d : Entry). Tells x.held x.memory.sessions (length x.trace.history) d L) same
    (moved_tells x.held y.held.objects x.memory.sessions (length x.trace.history) e L
    (subst (λ (h : Held). Tells h x.memory.sessions (length x.trace.history) e L) made.held
    (subst (λ (m : Memory). Tells y.held m.sessions (length x.trace.history) e L) made.memory
    (subst (λ (r : Recorded). Tells y.held y.memory.sessions (length r.history) e L) made.trace told))))
