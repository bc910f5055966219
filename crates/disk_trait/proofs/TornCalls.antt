-- Tearing what calls wrote, the newest first.
use Rattle.std.proofs.Common.{◌≡◌, ℕ, Bool, true, false, List, [], ◌∷◌, ◌++◌, length, reverse, refl, ap, sym, ◌∙◌, if◌then◌else◌, ◌==◌}
use Rattle.disk_trait.specs.Record.{settles, ranges_past, ranges_of, synced_past, synced_of, undone, torn, picked}
use Rattle.disk_trait.specs.declared.record.Did.{Did}
use Rattle.disk_trait.specs.declared.record.Did.TheVariants.{Failed, Read, Length, Wrote, Synced, Restarted}
use Rattle.disk_trait.specs.declared.record.Call.{Call}
use Rattle.disk_trait.proofs.Newest.{ranges_here, ranges_before}
use Rattle.std.proofs.lemmas.List.{nil_from_length}
use Rattle.disk_trait.proofs.Torn.{torn_append, torn_none, torn_begun}

-- one call more is torn, and those before it are left
pub torn_on : (pick : ℕ) (calls rest : List Call) (call : Call) (now next : List ℕ) → calls ≡ rest ++ call ∷ [] → settles call.did ≡ false → next ≡ torn pick (ranges_past call.did []) now → torn pick (ranges_of (reverse rest)) next ≡ torn pick (ranges_of (reverse calls)) now
torn_on pick calls rest call now next is open_still done =
    ap (torn pick (ranges_of (reverse rest))) done
    ∙ sym (torn_append pick (ranges_past call.did []) (ranges_of (reverse rest)) now)
    ∙ ap (λ ranges. torn pick ranges now) (sym (ranges_before calls rest call is open_still))

-- nothing is left behind a sync
pub torn_stop : (pick : ℕ) (calls rest : List Call) (call : Call) (now : List ℕ) → calls ≡ rest ++ call ∷ [] → settles call.did ≡ true → torn pick (ranges_of (reverse calls)) now ≡ now
torn_stop pick calls rest call now is settled =
    ap (λ ranges. torn pick ranges now) (ranges_here calls rest call is settled) ∙ torn_none pick now

-- nor where no call is left
pub torn_done : (pick : ℕ) (left : List Call) (now : List ℕ) → length left ≡ 0 → torn pick (ranges_of (reverse left)) now ≡ now
torn_done pick left now empty = ap (λ (calls : List Call). torn pick (ranges_of (reverse calls)) now) (nil_from_length left empty) ∙ torn_none pick now

-- No write is there since the last sync: behind a sync, where the newest call is no write, and where no call is left.
pub settled_here : (calls rest : List Call) (call : Call) → calls ≡ rest ++ call ∷ [] → settles call.did ≡ true → ranges_of (reverse calls) ≡ []
settled_here = ranges_here

pub settled_before : (calls rest : List Call) (call : Call) → calls ≡ rest ++ call ∷ [] → settles call.did ≡ false → ranges_past call.did [] ≡ [] → ranges_of (reverse calls) ≡ ranges_of (reverse rest)
settled_before calls rest call is open_still none = ranges_before calls rest call is open_still ∙ ap (λ (ranges : List (ℕ × ℕ)). ranges ++ ranges_of (reverse rest)) none

pub settled_done : (calls : List Call) → length calls ≡ 0 → ranges_of (reverse calls) ≡ []
settled_done calls empty = ap (λ (left : List Call). ranges_of (reverse left)) (nil_from_length calls empty)

-- where nothing was written since the last sync, what a read gives is what was synced
pub synced_settled : (calls : List Call) (bytes : List ℕ) → ranges_of calls ≡ [] → synced_of calls bytes ≡ bytes
synced_settled [] bytes none = refl
synced_settled (call ∷ calls) bytes none = by_did call.did (synced_settled calls) none
  where
    by_did : (did : Did) → ((before : List ℕ) → ranges_of calls ≡ [] → synced_of calls before ≡ before) → ranges_past did (ranges_of calls) ≡ [] → synced_past did bytes (synced_of calls (undone did bytes)) ≡ bytes
    by_did Failed rec clean = rec bytes clean
    by_did (Read at len) rec clean = rec bytes clean
    by_did Length rec clean = rec bytes clean
    by_did (Wrote at change) rec clean = cc
    by_did Synced rec clean = refl
    by_did (Restarted pick change) rec clean = refl

torn_nothing : (pick : ℕ) (bytes : List ℕ) → torn pick ((length bytes, length bytes) ∷ []) bytes ≡ bytes
torn_nothing pick bytes = sym (torn_begun pick (length bytes) bytes)

-- and every pick leaves it
pub picked_settled : (pick : ℕ) (calls : List Call) (bytes : List ℕ) → ranges_of calls ≡ [] → picked pick calls bytes ≡ bytes
picked_settled pick calls bytes none = rw (synced_settled calls bytes none, none) (by_pick (pick == 0) (pick == 1))
  where
    by_pick : (zeroth first : Bool) → (if zeroth then bytes else (if first then bytes else torn pick ((length bytes, length bytes) ∷ []) bytes)) ≡ bytes
    by_pick true first = refl
    by_pick false true = refl
    by_pick false false = torn_nothing pick bytes
