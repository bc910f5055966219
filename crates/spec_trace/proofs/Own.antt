-- What a transaction wrote is right behind its commit, also for the session that wrote it.
use Rattle.log_entries.specs.declared.entry.Entry.{Entry}
use Rattle.log_entries.specs.declared.request.Request.{Request}
use Rattle.spec_history.proofs.Commits.{get-overwrite, objects-put}
use Rattle.spec_history.proofs.Growth.{state-end}
use Rattle.spec_trace.proofs.Kept.{Later, move-later, next, some-and}
use Rattle.spec_trace.proofs.Sessions.{keeps-order, taken-below}
use Rattle.spec_trace.proofs.Told.{writers-below}
use Rattle.spec_trace.proofs.Traces.{entries-append}
use Rattle.spec_trace.specs.Current.{InStep, NoPageWaits, OthersSince, RightAt}
use Rattle.spec_history.specs.History.{Base, State, commit_of, objects_at, state, writers}
use Rattle.spec_history.specs.Laws.{with_writes}
use Rattle.spec_trace.specs.Messages.{KeepsOrder}
use Rattle.spec_history.specs.Requests.{written}
use Rattle.spec_trace.specs.Session.{Session, move, session, upto_of}
use Rattle.spec_trace.specs.Trace.{E, Item, entries}
use Rattle.spec_trace.proofs.Before.{none-moved}
use Rattle.std.proofs.Common.{List, [], ap, arith, length, refl, subst, sym, take, ℕ, ◌+◌, ◌++◌, ◌<◌, ◌≡◌, ◌≤◌, ◌∙◌, ◌∷◌}
use Rattle.std.proofs.lemmas.List.{length-append, take_all}
use Rattle.std.specs.Option.{IfSome, IsSomeAnd, option_or}
use Rattle.std.specs.Prelude.{None, Option, Some}
use Rattle.thor_value.specs.FiniteMap.{Map, get}
use Rattle.thor_value.specs.Names.{oref_cmp}
use Rattle.thor_value.specs.declared.names.Oref.{Oref}
use Rattle.thor_value.specs.declared.values.Obj.{Obj}

if-some : {X : Type 0} (o : Option X) (P : X → Type 0) (x : X) → o ≡ Some x → IfSome o P → P x
if-some None P x e h = cc
if-some (Some y) P x e h = let f : y ≡ x = cc in subst P f h

higher-page : (o : Option ℕ) (n k : ℕ) → n ≤ k → IsSomeAnd o (λ c. c ≤ n) → IsSomeAnd o (λ c. c ≤ k)
higher-page None n k l h = absurd h
higher-page (Some p) n k l h = omega arith

module _ (b : Base) where
  written-there : (H : List Entry) (e : Entry) (q : Request) (x : Oref) (o : Obj) → commit_of b (state b H) e ≡ (length H, q) ∷ [] → get (written q) x ≡ Some o → get (objects_at b (H ++ e ∷ []) (length H + 1)) x ≡ Some o
  written-there H e q x o is wrote =
      let S : State = state b H in
      let all : take (length H + 1) (H ++ e ∷ []) ≡ H ++ e ∷ [] = take_all (length H + 1) (H ++ e ∷ []) (rw length-append (omega arith)) in
      let put' : (state b (take (length H + 1) (H ++ e ∷ []))).objects ≡ with_writes S.objects (commit_of b S e) = ap (λ (G : List Entry). (state b G).objects) all ∙ ap (λ (Z : State). Z.objects) (state-end b H e) ∙ objects-put b S e in
      let one : (state b (take (length H + 1) (H ++ e ∷ []))).objects ≡ with_writes S.objects ((length H, q) ∷ []) = put' ∙ ap (with_writes S.objects) is in
      ap (λ (m : Map oref_cmp Obj). get m x) one ∙ get-overwrite x S.objects q ∙ ap (λ (v : Option Obj). option_or v (get S.objects x)) wrote

  none-since : (H : List Entry) (s : ℕ) (x : Oref) → OthersSince s (length H) (writers b H x)
  none-since H s x = λ k d l g. absurd (too-low _ _ (writers-below b H x k d l) g)
    where
      too-low : (n m : ℕ) → n < m → m ≤ n → ⊥
      too-low n m p q = omega arith

  own-here : (T : List Item) (e : Entry) (s : ℕ) (v w : Session) (q : Request) (x : Oref) (o : Obj) → session b T s ≡ Some v → session b (T ++ E e ∷ []) s ≡ Some w → InStep v
      → commit_of b (state b (entries T)) e ≡ (length (entries T), q) ∷ [] → get (written q) x ≡ Some o → IsSomeAnd (get v.pages x.page) (λ c. c ≤ length (entries T)) → NoPageWaits v x
      → RightAt b (entries T ++ e ∷ []) s w x o (length (entries T) + 1)
  own-here T e s v w q x o is then' step commit wrote page none =
      let H : List Entry = entries T in
      let n : w ≡ move b s (state b H) (E e) v = next b T (E e) s v w is refl then' in
      let k : Later v (move b s (state b H) (E e) v) = move-later b s (state b H) (E e) v step.taken refl in
      let order : KeepsOrder v (length H) = if-some (session b T s) (λ v. KeepsOrder v (length H)) v is (keeps-order b T s) in
      let low : upto_of v ≤ length H = le-trans (upto_of v) _ (length H) (taken-below v.began v.sent v.taken order.rise) order.below in
      let long : length (H ++ e ∷ []) ≡ length H + 1 = length-append H (e ∷ []) in
      subst (λ (z : Session). RightAt b (H ++ e ∷ []) s z x o (length H + 1)) (sym n) (record {
        unknown = rw k.upto (omega arith);
        there = rw long (itself (length H + 1));
        cached = some-and (get v.pages x.page) (get (move b s (state b H) (E e) v).pages x.page) (length H + 1) (λ c is. k.pages x.page c is) (higher-page (get v.pages x.page) (length H) (length H + 1) (omega arith) page);
        value = written-there H e q x o commit wrote;
        others = subst (λ (m : ℕ). OthersSince s m (writers b (H ++ e ∷ []) x)) long (none-since (H ++ e ∷ []) s x);
        before = λ i j l at. absurd (none-moved b s (state b H) (E e) v x refl refl none i j l at);
      })
    where
      le-trans : (i j k : ℕ) → i ≤ j → j ≤ k → i ≤ k
      le-trans i j k p q = omega arith

      itself : (n : ℕ) → n ≤ n
      itself n = omega arith

  pub own-right : (T : List Item) (e : Entry) (s : ℕ) (v w : Session) (q : Request) (x : Oref) (o : Obj) → session b T s ≡ Some v → session b (T ++ E e ∷ []) s ≡ Some w → InStep v
      → commit_of b (state b (entries T)) e ≡ (length (entries T), q) ∷ [] → get (written q) x ≡ Some o → IsSomeAnd (get v.pages x.page) (λ c. c ≤ length (entries T)) → NoPageWaits v x
      → RightAt b (entries (T ++ E e ∷ [])) s w x o (length (entries T) + 1)
  own-right T e s v w q x o is then' step commit wrote page none = subst (λ (H : List Entry). RightAt b H s w x o (length (entries T) + 1)) (sym (entries-append T (E e ∷ []))) (own-here T e s v w q x o is then' step commit wrote page none)
