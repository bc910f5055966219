-- What holds of each call on parts that tell nothing but their counts.
use Rattle.std.proofs.Common.{◌≡◌, ℕ, ◌+◌, ◌-◌, ◌^◌, ◌<◌, min, Bool, true, false, List, length, slice_index, Option, Some, None, is_err, refl, ap, arith}
use Rattle.std.proofs.lemmas.List.{get_or-set_same, get_or-set_other}
use Rattle.disk_trait.specs.Disks.{OnDisk, Torn}
use Rattle.disk_trait.specs.Calls.{IsCall, Reads, Writes, Syncs, TellsLength, Restarts}
use Rattle.disk_trait.specs.Fuse.{one_more}
use Rattle.disk_trait.specs.Counts.{counted, answer_of, untold}
use Rattle.disk_trait.specs.declared.counts.Counts.{Counts}

torn_same : (at n : ℕ) (bytes : List ℕ) → Torn at n bytes bytes
torn_same at n bytes = record { no_shorter = omega arith; no_longer = omega arith; outside = λ i within out. refl }

module _ (counts : Counts) (clock disk : ℕ) (within : disk < length counts.faults) where
  untold_alone : (failed : Bool) → OnDisk (untold counts clock) (untold (counted counts disk failed) clock) disk
  untold_alone true =
      record {
        later = omega arith;
        past = λ m d image before left. tt;
        kept = λ m d image before left. tt;
        told = refl;
        others = λ d other. refl;
        others_images = λ m d image other from to left. tt;
        others_kept = λ m d image other from to left. tt;
        others_faults = λ d other. ap (λ n. min n (2 ^ 64 - 1)) (get_or-set_other counts.faults disk d (one_more (slice_index counts.faults disk)) 0 other);
        faults_stay = omega (arith, get_or-set_same counts.faults disk (one_more (slice_index counts.faults disk)) 0 within);
        clock = refl;
      }
  untold_alone false =
      record {
        later = omega arith;
        past = λ m d image before left. tt;
        kept = λ m d image before left. tt;
        told = refl;
        others = λ d other. refl;
        others_images = λ m d image other from to left. tt;
        others_kept = λ m d image other from to left. tt;
        others_faults = λ d other. refl;
        faults_stay = omega arith;
        clock = refl;
      }

  untold_call : {T : Type 0} (answer : Option T) → IsCall (untold counts clock) (untold (counted counts disk (is_err (answer_of answer))) clock) disk (answer_of answer)
  untold_call (Some answer) =
      record {
        alone = untold_alone false;
        one_moment = omega arith;
        ticks = λ below. omega arith;
        failed = λ is. cc;
        steady = refl;
        wanting = λ is. cc;
      }
  untold_call None =
      record {
        alone = untold_alone true;
        one_moment = omega arith;
        ticks = tt;
        failed = λ is below. omega (arith, get_or-set_same counts.faults disk (one_more (slice_index counts.faults disk)) 0 within);
        steady = tt;
        wanting = λ is. cc;
      }

  pub untold_read : {T : Type 0} (at : ℕ) (before after : List ℕ) (answer : Option T) → Reads (untold counts clock) (untold (counted counts disk (is_err (answer_of answer))) clock) disk at before after (answer_of answer)
  untold_read at before after (Some answer) = record { call = untold_call (Some answer); bytes = λ bytes told. cc; content = refl; crash = λ image left. tt }
  untold_read at before after None = record { call = untold_call None; bytes = tt; content = refl; crash = λ image left. tt }

  pub untold_write : {T : Type 0} (at : ℕ) (bytes : List ℕ) (answer : Option T) → (2 ^ 40 < at + length bytes → answer ≡ None) → Writes (untold counts clock) (untold (counted counts disk (is_err (answer_of answer))) clock) disk at bytes (answer_of answer)
  untold_write at bytes (Some answer) far = record {
    call = untold_call (Some answer);
    content = λ bytes told. cc;
    crash = λ image left. (image, tt, torn_same at (length bytes) image);
    too_far = λ beyond. let no = far beyond in cc;
    unchanged = λ beyond. refl;
    untorn = λ beyond image left. tt;
  }
  untold_write at bytes None far = record {
    call = untold_call None;
    content = tt;
    crash = λ image left. (image, tt, torn_same at (length bytes) image);
    too_far = λ beyond. refl;
    unchanged = λ beyond. refl;
    untorn = λ beyond image left. tt;
  }

  pub untold_sync : {T : Type 0} (answer : Option T) → Syncs (untold counts clock) (untold (counted counts disk (is_err (answer_of answer))) clock) disk (answer_of answer)
  untold_sync (Some answer) = record { call = untold_call (Some answer); settled = λ bytes told. cc; content = refl; crash = λ image left. tt }
  untold_sync None = record { call = untold_call None; settled = tt; content = refl; crash = λ image left. tt }

  pub untold_len : (answer : Option ℕ) → TellsLength (untold counts clock) (untold (counted counts disk (is_err (answer_of answer))) clock) disk (answer_of answer)
  untold_len (Some answer) = record { call = untold_call (Some answer); bytes = λ bytes told. cc; content = refl; crash = λ image left. tt }
  untold_len None = record { call = untold_call None; bytes = tt; content = refl; crash = λ image left. tt }

  pub untold_restart : {T : Type 0} (answer : Option T) → Restarts (untold counts clock) (untold (counted counts disk (is_err (answer_of answer))) clock) disk (answer_of answer)
  untold_restart (Some answer) = record { call = untold_call (Some answer); settled = λ bytes told. cc; crash = λ image left. tt }
  untold_restart None = record { call = untold_call None; settled = tt; crash = λ image left. tt }
