-- What the traces have to show for a call. Each is something that held behind a front of a trace, so it is
-- still shown when the trace has grown.
use Rattle.log_entries.specs.declared.entry.Entry.TheVariants.{Life}
use Rattle.log_entries.specs.declared.request.Request.{Request}
use Rattle.spec_trace.specs.Trace.{E, Item, M}
use Rattle.spec_trace.specs.declared.mark.Mark.TheVariants as the
use Rattle.std.specs.List.{list_any}
use Rattle.std.specs.Prelude.{Bool, IsTrue, List, Some, [], false, nat_eq, true, ℕ, ◌++◌, ◌<◌, ◌∷◌, ◌≡◌, ◌⊎◌}
use Rattle.thor_value.specs.declared.names.Ts.{Ts}
use mathlib.Core.List.{IsPrefix}
use Rattle.law_board_calls.specs.Shown.{client_of, decides, draws, finishes, forgets, is_open, prepared}
use Rattle.law_board_calls.specs.declared.calls.Call.{Call}
use Rattle.law_board_calls.specs.declared.calls.CallKind.{CallKind}
use Rattle.law_board_calls.specs.declared.calls.CallKind.TheVariants as call

-- what a port asks beside this is still shown when the traces have grown
abbrev pub StaysAsked : ((ℕ → List Item) → Call → Type 0) → Type 0
StaysAsked asks = (old new : ℕ → List Item) (c : Call) → ((r : ℕ) → IsPrefix (old r) (new r)) → asks old c → asks new c

-- P held behind some front of the trace
abbrev pub Once : (List Item → Type 0) → List Item → Type 0
Once P T = (front : List Item) × IsPrefix front T × P front

-- P holds of each of these repositories
abbrev pub OfEach : (ℕ → Type 0) → List ℕ → Type 0
OfEach P [] = Unit {0}
OfEach P (n ∷ ns) = P n × OfEach P ns

-- the session is the client's
abbrev pub HasSession : ℕ → ℕ → List Item → Type 0
HasSession client s T = Once (λ F. client_of s F ≡ Some client) T

-- the first draw of t in the trace is the client's
abbrev pub HasDrawn : ℕ → Ts → List Item → Type 0
HasDrawn client t T = Once (λ F. (before : List Item) × (s : ℕ) × (F ≡ before ++ M (the.Drew s t) ∷ []) × (list_any (draws t) before ≡ false) × (client_of s before ≡ Some client)) T

-- the repository r is a participant of the request q, which was sent to the repository n
abbrev pub takes_part : ℕ → Request → ℕ → Bool
takes_part n q r = list_any (nat_eq r) (n ∷ q.others)

-- Two parts of one transaction, at the repositories n and m: they are the same item's and of the same kind, and have
-- the same new names, answer and participants
pub record AreParts (n : ℕ) (p : Request) (m : ℕ) (q : Request) : Type 0 where
  pub who : p.who ≡ q.who
  pub kind : p.kind ≡ q.kind
  pub fresh : p.fresh ≡ q.fresh
  pub answer : p.answer ≡ q.answer
  pub participants : (r : ℕ) → takes_part n p r ≡ takes_part m q r

-- each other participant that is numbered below the repository has prepared its part of q's transaction
abbrev pub BelowHavePrepared : (ℕ → List Item) → ℕ → Request → Type 0
BelowHavePrepared traces repo q = OfEach (λ n. n < repo → Once (λ F. (p : Request) × (prepared q.tx F ≡ Some p) × AreParts n p repo q) (traces n)) q.others

-- t was prepared at the repository, its coordinator, and at every other participant
abbrev pub AllHavePrepared : (ℕ → List Item) → ℕ → Ts → Type 0
AllHavePrepared traces repo t = (q : Request) × Once (λ F. prepared t F ≡ Some q) (traces repo)
    × OfEach (λ n. Once (λ F. (p : Request) × (prepared t F ≡ Some p)) (traces n)) q.others

-- every other participant of t has finished it with commit
abbrev pub OthersHaveFinished : (ℕ → List Item) → ℕ → Ts → Type 0
OthersHaveFinished traces repo t = (q : Request) × Once (λ F. prepared t F ≡ Some q) (traces repo)
    × OfEach (λ n. Once (λ F. IsTrue (list_any (finishes t) F)) (traces n)) q.others

-- t was decided at its coordinator to commit
abbrev pub HasCommitted : Ts → List Item → Type 0
HasCommitted t T = Once (λ F. IsTrue (list_any (decides t true) F)) T

-- t was decided there to abort, or undecided at a Life, or it was forgotten
abbrev pub IsGivenUp : Ts → List Item → Type 0
IsGivenUp t T =
    Once (λ F. IsTrue (list_any (decides t false) F)) T
    ⊎ (Once (λ F. (before : List Item) × (n : ℕ) × (F ≡ before ++ E (Life n) ∷ []) × (is_open t before ≡ true)) T
    ⊎ Once (λ F. IsTrue (list_any (forgets t) F)) T)

abbrev pub MayFinish : Bool → Ts → List Item → Type 0
MayFinish true t T = HasCommitted t T
MayFinish false t T = IsGivenUp t T

abbrev pub MayDecide : Bool → (ℕ → List Item) → ℕ → Ts → Type 0
MayDecide true traces repo t = AllHavePrepared traces repo t
MayDecide false traces repo t = Unit {0}

-- what the traces have to show for a call of this kind, which the client made on the repository
abbrev pub KindIsJustified : (ℕ → List Item) → ℕ → ℕ → CallKind → Type 0
KindIsJustified traces client repo call.Connect = Unit {0}
KindIsJustified traces client repo (call.Fetch s page upto) = HasSession client s (traces repo)
KindIsJustified traces client repo (call.Grant s) = HasSession client s (traces repo)
KindIsJustified traces client repo (call.Receive s) = HasSession client s (traces repo)
KindIsJustified traces client repo (call.Draw s) = HasSession client s (traces repo)
KindIsJustified traces client repo (call.Prepare s q) = HasSession client s (traces repo) × HasDrawn client q.value.tx (traces q.value.tx.repo) × BelowHavePrepared traces repo q.value
KindIsJustified traces client repo (call.CommitOne s q) = HasSession client s (traces repo) × HasDrawn client q.value.tx (traces q.value.tx.repo)
KindIsJustified traces client repo (call.Decide s t commit) = HasSession client s (traces repo) × MayDecide commit traces repo t
KindIsJustified traces client repo (call.Finish t commit) = MayFinish commit t (traces t.repo)
KindIsJustified traces client repo (call.Forget t) = OthersHaveFinished traces repo t

-- The traces justify the call: they show what its kind needs, and what its port asks beside
abbrev pub IsJustified : ((ℕ → List Item) → Call → Type 0) → (ℕ → List Item) → Call → Type 0
IsJustified asks traces c = KindIsJustified traces c.client c.repo c.kind × asks traces c
