-- What a client was told by refusals is below what it draws later.
use Rattle.law_cache_coherence.proofs.Reasons.{told_above}
use Rattle.client_state.specs.Calling.{DrawsAbove}
use Rattle.client_state.specs.Learning.{Rises}
use Rattle.client_state.specs.declared.calls.Drew.TheVariants as drew
use Rattle.client_state.specs.declared.calls.Drew.{Drew}
use Rattle.client_state.specs.declared.held.Held.{Held}
use Rattle.client_state.specs.declared.link.Link.{Link}
use Rattle.law_client_steps.specs.Lost.{AllRise}
use Rattle.session_outbox.specs.declared.answers.At.{At}
use Rattle.client_port.specs.Views.{View}
use Rattle.std.proofs.Common.{List, [], arith, true, ◌∷◌, ◌≡◌, ◌≤◌, ℕ}
use Rattle.std.specs.Prelude.{Ok, Result, max, ◌<◌}
use Rattle.thor_value.specs.declared.memory.NoMemory.{NoMemory}
use Rattle.thor_value.specs.declared.names.Ts.{Ts}

up : (n m k : ℕ) → n ≤ m → m ≤ k → n ≤ k
up n m k p q = omega arith

pub rises : (a z : Held) (between : List Held) → AllRise a between z → Rises a z
rises a z [] r = r
rises a z (h ∷ hs) r = let rest = rises h z hs r.1 in (up a.floor h.floor z.floor r.0.0 rest.0, up a.learnt h.learnt z.learnt r.0.1 rest.1)

pub above : (a z : Held) (between : List Held) (before time : ℕ) → AllRise a between z → a.floor ≡ max before time → (old new : View) (at : At) (links : List Link) (answer : Result Drew NoMemory) (t : Ts) → DrawsAbove true old new at z.floor links answer → answer ≡ Ok (drew.Ts t) → time < t.time
above a z between before time r is old new at links answer t d drawn = below a.floor z.floor t.time is (rises a z between r).0 (told_above old new at z.floor links answer d t drawn)
  where
    below : (f g n : ℕ) → f ≡ max before time → f ≤ g → g < n → time < n
    below f g n e l m = omega arith
