-- The newest of the calls.
use Rattle.std.proofs.Common.{◌≡◌, ℕ, true, false, List, [], ◌∷◌, ◌++◌, reverse, refl, ap, ◌∙◌}
use Rattle.std.proofs.lemmas.List.{reverse-append}
use Rattle.disk_trait.specs.Record.{settles, synced_past, synced_of, undone, ranges_past, ranges_of}
use Rattle.disk_trait.specs.declared.record.Did.{Did}
use Rattle.disk_trait.specs.declared.record.Did.TheVariants.{Failed, Read, Length, Wrote, Synced, Restarted}
use Rattle.disk_trait.specs.declared.record.Call.{Call}

-- the last of a list comes first in the reverse
pub reverse_last : {X : Type 0} (xs rest : List X) (x : X) → xs ≡ rest ++ x ∷ [] → reverse xs ≡ x ∷ reverse rest
reverse_last xs rest x is = ap reverse is ∙ reverse-append rest (x ∷ [])

pub past_settled : (did : Did) (bytes before : List ℕ) → settles did ≡ true → synced_past did bytes before ≡ bytes
past_settled Synced bytes before is = refl
past_settled (Restarted pick change) bytes before is = refl
past_settled Failed bytes before is = cc
past_settled (Read at len) bytes before is = cc
past_settled Length bytes before is = cc
past_settled (Wrote at change) bytes before is = cc

pub past_open : (did : Did) (bytes before : List ℕ) → settles did ≡ false → synced_past did bytes before ≡ before
past_open Synced bytes before is = cc
past_open (Restarted pick change) bytes before is = cc
past_open Failed bytes before is = refl
past_open (Read at len) bytes before is = refl
past_open Length bytes before is = refl
past_open (Wrote at change) bytes before is = refl

pub ranges_settled : (did : Did) (before : List (ℕ × ℕ)) → settles did ≡ true → ranges_past did before ≡ []
ranges_settled Synced before is = refl
ranges_settled (Restarted pick change) before is = refl
ranges_settled Failed before is = cc
ranges_settled (Read at len) before is = cc
ranges_settled Length before is = cc
ranges_settled (Wrote at change) before is = cc

pub ranges_open : (did : Did) (before : List (ℕ × ℕ)) → settles did ≡ false → ranges_past did before ≡ ranges_past did [] ++ before
ranges_open Synced before is = cc
ranges_open (Restarted pick change) before is = cc
ranges_open Failed before is = refl
ranges_open (Read at len) before is = refl
ranges_open Length before is = refl
ranges_open (Wrote at change) before is = refl

-- the newest call settles the disk
pub synced_here : (calls rest : List Call) (call : Call) (bytes : List ℕ) → calls ≡ rest ++ call ∷ [] → settles call.did ≡ true → synced_of (reverse calls) bytes ≡ bytes
synced_here calls rest call bytes is settled =
    ap (λ l. synced_of l bytes) (reverse_last calls rest call is) ∙ past_settled call.did bytes _ settled

-- it doesn't, and is taken back
pub synced_before : (calls rest : List Call) (call : Call) (bytes : List ℕ) → calls ≡ rest ++ call ∷ [] → settles call.did ≡ false → synced_of (reverse calls) bytes ≡ synced_of (reverse rest) (undone call.did bytes)
synced_before calls rest call bytes is open_still =
    ap (λ l. synced_of l bytes) (reverse_last calls rest call is) ∙ past_open call.did bytes _ open_still

pub ranges_here : (calls rest : List Call) (call : Call) → calls ≡ rest ++ call ∷ [] → settles call.did ≡ true → ranges_of (reverse calls) ≡ []
ranges_here calls rest call is settled = ap ranges_of (reverse_last calls rest call is) ∙ ranges_settled call.did _ settled

pub ranges_before : (calls rest : List Call) (call : Call) → calls ≡ rest ++ call ∷ [] → settles call.did ≡ false → ranges_of (reverse calls) ≡ ranges_past call.did [] ++ ranges_of (reverse rest)
ranges_before calls rest call is open_still = ap ranges_of (reverse_last calls rest call is) ∙ ranges_open call.did _ open_still
