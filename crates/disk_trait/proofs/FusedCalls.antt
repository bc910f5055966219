-- A call through parts with a stop does what the call inside does, and counts the stop as a fault.
use Rattle.std.proofs.Common.{◌≡◌, ◌≢◌, ℕ, ◌+◌, ◌-◌, ◌^◌, ◌<◌, ◌≤◌, min, Bool, true, false, List, length, slice_index, Result, Ok, Err, OnOk, refl, ap, arith}
use Rattle.std.proofs.lemmas.List.{get_or-set_same, get_or-set_other}
use Rattle.disk_trait.specs.Disks.{Disks, OnDisk}
use Rattle.disk_trait.specs.Calls.{IsCall, Reads, Writes, Syncs, TellsLength, Restarts}
use Rattle.disk_trait.specs.Fuse.{one_more, falls_after, answer_after, with_falls}
use Rattle.disk_trait.specs.declared.parts.Outage.{Outage}

-- the falls on this disk never get fewer, as far as the count goes
falls_stay : (fell : Bool) (falls : List ℕ) (disk : ℕ) → disk < length falls → min (slice_index falls disk) (2 ^ 64 - 1) ≤ slice_index (falls_after fell falls disk) disk
falls_stay true falls disk within = omega (arith, get_or-set_same falls disk (one_more (slice_index falls disk)) 0 within)
falls_stay false falls disk within = omega arith

-- and those on the other disks stay
falls_of_others : (fell : Bool) (falls : List ℕ) (disk d : ℕ) → d ≢ disk → slice_index (falls_after fell falls disk) d ≡ slice_index falls d
falls_of_others true falls disk d other = get_or-set_other falls disk d (one_more (slice_index falls disk)) 0 other
falls_of_others false falls disk d other = refl

fused_alone : (old new : Disks) (fell : Bool) (falls : List ℕ) (disk : ℕ) → disk < length falls → OnDisk old new disk → OnDisk (with_falls old falls) (with_falls new (falls_after fell falls disk)) disk
fused_alone old new fell falls disk within alone =
    record {
      later = alone.later;
      past = alone.past;
      kept = alone.kept;
      told = alone.told;
      others = alone.others;
      others_images = alone.others_images;
      others_kept = alone.others_kept;
      others_faults = λ d other. omega (arith, alone.others_faults d other, falls_of_others fell falls disk d other);
      faults_stay = omega (arith, alone.faults_stay, falls_stay fell falls disk within);
      clock = alone.clock;
    }

-- a call inside is a call outside
module _ {T : Type 0} (old new : Disks) (falls : List ℕ) (disk : ℕ) (within : disk < length falls) where
  fused_call : (fell : Bool) (answer : Result T Outage) → IsCall old new disk answer → IsCall (with_falls old falls) (with_falls new (falls_after fell falls disk)) disk (answer_after fell answer)
  fused_call true answer call =
      record {
        alone = fused_alone old new true falls disk within call.alone;
        one_moment = call.one_moment;
        ticks = tt;
        failed = λ _ below. omega (arith, call.alone.faults_stay, get_or-set_same falls disk (one_more (slice_index falls disk)) 0 within);
        steady = tt;
        wanting = λ same. cc;
      }
  fused_call false answer call =
      record {
        alone = fused_alone old new false falls disk within call.alone;
        one_moment = call.one_moment;
        ticks = call.ticks;
        failed = λ is below. omega (arith, call.failed is);
        steady = on_ok answer call.steady;
        wanting = λ is. counted_same (call.wanting is);
      }
    where
      counted_same : new.faults disk ≡ old.faults disk → (with_falls new falls).faults disk ≡ (with_falls old falls).faults disk
      counted_same same = ap (λ n. min (n + slice_index falls disk) (2 ^ 64 - 1)) same

      on_ok : (r : Result T Outage) → OnOk r (new.faults disk ≡ old.faults disk) → OnOk r ((with_falls new falls).faults disk ≡ (with_falls old falls).faults disk)
      on_ok (Ok x) same = counted_same same
      on_ok (Err e) same = tt

  pub fused_read_at : (fell : Bool) (at : ℕ) (before after : List ℕ) (answer : Result T Outage) → Reads old new disk at before after answer → Reads (with_falls old falls) (with_falls new (falls_after fell falls disk)) disk at before after (answer_after fell answer)
  fused_read_at true at before after answer made = record { call = fused_call true answer made.call; bytes = tt; content = made.content; crash = made.crash }
  fused_read_at false at before after answer made = record { call = fused_call false answer made.call; bytes = made.bytes; content = made.content; crash = made.crash }

  pub fused_write_at : (fell : Bool) (at : ℕ) (bytes : List ℕ) (answer : Result T Outage) → Writes old new disk at bytes answer → Writes (with_falls old falls) (with_falls new (falls_after fell falls disk)) disk at bytes (answer_after fell answer)
  fused_write_at true at bytes answer made = record { call = fused_call true answer made.call; content = tt; crash = made.crash; too_far = λ far. refl; unchanged = made.unchanged; untorn = made.untorn }
  fused_write_at false at bytes answer made = record { call = fused_call false answer made.call; content = made.content; crash = made.crash; too_far = made.too_far; unchanged = made.unchanged; untorn = made.untorn }

  pub fused_sync : (fell : Bool) (answer : Result T Outage) → Syncs old new disk answer → Syncs (with_falls old falls) (with_falls new (falls_after fell falls disk)) disk (answer_after fell answer)
  fused_sync true answer made = record { call = fused_call true answer made.call; settled = tt; content = made.content; crash = made.crash }
  fused_sync false answer made = record { call = fused_call false answer made.call; settled = made.settled; content = made.content; crash = made.crash }

  pub fused_restart : (fell : Bool) (answer : Result T Outage) → Restarts old new disk answer → Restarts (with_falls old falls) (with_falls new (falls_after fell falls disk)) disk (answer_after fell answer)
  fused_restart true answer made = record { call = fused_call true answer made.call; settled = tt; crash = made.crash }
  fused_restart false answer made = record { call = fused_call false answer made.call; settled = made.settled; crash = made.crash }

module _ (old new : Disks) (falls : List ℕ) (disk : ℕ) (within : disk < length falls) where
  pub fused_len : (fell : Bool) (answer : Result ℕ Outage) → TellsLength old new disk answer → TellsLength (with_falls old falls) (with_falls new (falls_after fell falls disk)) disk (answer_after fell answer)
  fused_len true answer made = record { call = fused_call old new falls disk within true answer made.call; bytes = tt; content = made.content; crash = made.crash }
  fused_len false answer made = record { call = fused_call old new falls disk within false answer made.call; bytes = made.bytes; content = made.content; crash = made.crash }
