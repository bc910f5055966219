-- What a client's call makes of what it holds, as its functions hand it on.
use Rattle.client_state.proofs.Moving.{drops_then_sends, settles}
use Rattle.client_state.specs.Links.{NoneAwaits}
use Rattle.client_state.specs.Moving.{Asked, HoldsLess, HoldsSame, MaySettle, MovesIf, SendsNothingIf}
use Rattle.client_state.specs.declared.held.Held.{Held}
use Rattle.client_state.specs.declared.link.Link.{Link}
use Rattle.front_end.specs.declared.client.Client.{Client}
use Rattle.session_outbox.specs.declared.answers.Asked as answer
use Rattle.session_outbox.specs.declared.answers.Asked.TheVariants as answers
use Rattle.session_outbox.specs.declared.answers.Verdict.{Verdict}
use Rattle.client_port.specs.Views.{View}
use Rattle.client_port.specs.Works.{AskWork, Does}
use Rattle.std.proofs.Common.{Bool, List, subst, sym, true, ℕ, ◌≡◌}
use Rattle.std.specs.Prelude.{Err, Ok, OnOk, Result}
use Rattle.thor_value.specs.declared.memory.NoMemory.{NoMemory}
use Rattle.thor_value.specs.declared.names.Ts.{Ts}
use Rattle.repo_refusals.specs.declared.refusal.Refusal.{Refusal}

pub on_any : {X : Type 0} (result : Result X NoMemory) (P : Type 0) → P → OnOk result P
on_any (Ok x) P h = h
on_any (Err e) P h = tt

module _ (shows : Bool) (old new : View) where
  -- ---- what is let go before a call

  module _ (a b : Held) (same : HoldsSame a b) (c : Held) {X : Type 0} where
    pub same_sends : (result : Result X NoMemory) → OnOk result (SendsNothingIf shows old new b c) → OnOk result (SendsNothingIf shows old new a c)
    same_sends (Ok x) f = λ s. drops_then_sends a b same old new c (f s)
    same_sends (Err e) f = tt

    pub same_sends_idle : (result : Result X NoMemory) → (NoneAwaits 8 b.links.items → OnOk result (SendsNothingIf shows old new b c)) → NoneAwaits 8 a.links.items → OnOk result (SendsNothingIf shows old new a c)
    same_sends_idle result f idle = same_sends result (f (subst (λ (ls : List Link). NoneAwaits 8 ls) (sym same.1) idle))

  -- ---- what stands before and behind a call

  pub shown_down : {X : Type 0} (a : Held) (k m : Client) → m ≡ k → (result : Result X NoMemory) → MovesIf shows old new a k.held → OnOk result (MovesIf shows old new a m.held)
  shown_down a k m same result f = on_any result (MovesIf shows old new a m.held) (subst (λ (n : Client). MovesIf shows old new a n.held) (sym same) f)

  -- ---- questions

  module _ (r : ℕ) (t : Ts) where
    pub asked_nothing : (result : Result answer.Asked Refusal) (a b : Held) → (shows ≡ true → Does old new r result (AskWork t result)) → HoldsLess a b → SendsNothingIf shows old new a b
    asked_nothing result a b call less s = Asked r t result (call s) less

    module _ (o : answer.Asked) (v : Verdict) (is : o ≡ answers.Settled v) (call : shows ≡ true → Does {X = answer.Asked} old new r (Ok o) (AskWork t (Ok o))) (a b : Held) where
      told : shows ≡ true → Does {X = answer.Asked} old new r (Ok (answers.Settled v)) (AskWork t (Ok (answers.Settled v)))
      told s = subst (λ (x : answer.Asked). Does {X = answer.Asked} old new r (Ok x) (AskWork t (Ok x))) is (call s)

      pub asked_settled : MaySettle r a b → SendsNothingIf shows old new a b
      asked_settled may s = settles old new a b r t v (told s) may
