-- The items and calls of the system, for the board of history lengths, and their one law: what traces
-- have shown they still show when they have grown.
use Rattle.std.specs.Prelude.{Bool, List, [], ◌∷◌, false, true, ℕ, ◌++◌}
use Rattle.std.proofs.Common.{ap, append_assoc, inl, inr, sym, ◌∙◌, ⊎_elim}
use Rattle.std.proofs.lemmas.List.{map-append}
use Rattle.seen_board.specs.Meaning.{Lasts, Meaning}
use Rattle.spec_trace.specs.Trace.{Item}
use Rattle.thor_value.specs.declared.names.Ts.{Ts}
use mathlib.Core.List.{IsPrefix}
use Rattle.law_board_calls.specs.Items.{read, trace}
use Rattle.law_board_calls.specs.Justified.{IsGivenUp, IsJustified, KindIsJustified, MayDecide, MayFinish, OfEach, Once, StaysAsked}
use Rattle.law_board_calls.specs.Made.{Makes}
use Rattle.law_board_calls.specs.Shown.{NeedsNoCall, shows}
use Rattle.law_board_calls.specs.declared.calls.Call.{Call}
use Rattle.law_board_calls.specs.declared.calls.CallKind.{CallKind}
use Rattle.law_board_calls.specs.declared.calls.CallKind.TheVariants as call
use Rattle.law_board_calls.specs.declared.items.TraceItem.{TraceItem}

-- what items and calls mean, where a port asks this beside
abbrev pub calls : ((ℕ → List Item) → Call → Type 0) → Meaning TraceItem Call
calls asks = record {
  makes = λ c repo place i. Makes c repo place (read i);
  free = λ before i. NeedsNoCall (trace before) (read i);
  shows = λ before i. shows (trace before) (read i);
  justified = λ histories c. IsJustified asks (λ r. trace (histories r)) c;
}

begins_still : {A : Type 0} (xs ys zs : List A) → IsPrefix xs ys → IsPrefix ys zs → IsPrefix xs zs
begins_still xs ys zs p q = (p.0 ++ q.0, sym (append_assoc xs p.0 q.0) ∙ (ap (λ l. l ++ q.0) p.1 ∙ q.1))

trace_begins : (xs ys : List TraceItem) → IsPrefix xs ys → IsPrefix (trace xs) (trace ys)
trace_begins xs ys p = (trace p.0, sym (map-append read xs p.0) ∙ ap trace p.1)

once_still : (P : List Item → Type 0) (T U : List Item) → IsPrefix T U → Once P T → Once P U
once_still P T U more o = (o.0, begins_still o.0 T U o.1 more, o.2)

each_still : (P Q : ℕ → Type 0) → ((n : ℕ) → P n → Q n) → (ns : List ℕ) → OfEach P ns → OfEach Q ns
each_still P Q weaker [] all = all
each_still P Q weaker (n ∷ ns) all = (weaker n all.0, each_still P Q weaker ns all.1)

module _ (old new : ℕ → List Item) (more : (r : ℕ) → IsPrefix (old r) (new r)) where
  given_up_still : (t : Ts) → IsGivenUp t (old t.repo) → IsGivenUp t (new t.repo)
  given_up_still t up =
      ⊎_elim
      (λ a. inl (once_still _ _ _ (more t.repo) a))
      (λ o. ⊎_elim (λ b. inr (inl (once_still _ _ _ (more t.repo) b))) (λ c. inr (inr (once_still _ _ _ (more t.repo) c))) o)
      up

  may_finish_still : (commit : Bool) (t : Ts) → MayFinish commit t (old t.repo) → MayFinish commit t (new t.repo)
  may_finish_still true t o = once_still _ _ _ (more t.repo) o
  may_finish_still false t up = given_up_still t up

  may_decide_still : (commit : Bool) (repo : ℕ) (t : Ts) → MayDecide commit old repo t → MayDecide commit new repo t
  may_decide_still true repo t all = (all.0, once_still _ _ _ (more repo) all.1, each_still _ _ (λ n. once_still _ _ _ (more n)) all.0.others all.2)
  may_decide_still false repo t done = done

  kind_still : (client repo : ℕ) (k : CallKind) → KindIsJustified old client repo k → KindIsJustified new client repo k
  kind_still client repo call.Connect just = just
  kind_still client repo (call.Fetch s page upto) just = once_still _ _ _ (more repo) just
  kind_still client repo (call.Grant s) just = once_still _ _ _ (more repo) just
  kind_still client repo (call.Receive s) just = once_still _ _ _ (more repo) just
  kind_still client repo (call.Draw s) just = once_still _ _ _ (more repo) just
  kind_still client repo (call.Prepare s q) just = (
    once_still _ _ _ (more repo) just.0,
    once_still _ _ _ (more q.value.tx.repo) just.1,
    each_still _ _ (λ n seen below. once_still _ _ _ (more n) (seen below)) q.value.others just.2,
  )
  kind_still client repo (call.CommitOne s q) just = (once_still _ _ _ (more repo) just.0, once_still _ _ _ (more q.value.tx.repo) just.1)
  kind_still client repo (call.Decide s t commit) just = (once_still _ _ _ (more repo) just.0, may_decide_still commit repo t just.1)
  kind_still client repo (call.Finish t commit) just = may_finish_still commit t just
  kind_still client repo (call.Forget t) just = (just.0, once_still _ _ _ (more repo) just.1, each_still _ _ (λ n. once_still _ _ _ (more n)) just.0.others just.2)

pub calls_last : (asks : (ℕ → List Item) → Call → Type 0) → StaysAsked asks → Lasts (calls asks)
calls_last asks stays ls ms c begins just =
    let more : (r : ℕ) → IsPrefix (trace (ls r)) (trace (ms r)) = λ r. trace_begins (ls r) (ms r) (begins r) in
    (kind_still (λ r. trace (ls r)) (λ r. trace (ms r)) more c.client c.repo c.kind just.0, stays (λ r. trace (ls r)) (λ r. trace (ms r)) c more just.1)
