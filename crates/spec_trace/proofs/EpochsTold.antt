-- The messages to a session tell it the epochs.
use Rattle.log_entries.specs.declared.entry.Entry.{Entry}
use Rattle.log_entries.specs.declared.request.Kind.TheVariants.{App, Transform, Upgrade as Upgrading}
use Rattle.log_entries.specs.declared.request.Kind.{Kind}
use Rattle.log_entries.specs.declared.request.Request.{Request}
use Rattle.spec_history.proofs.Commits.{made}
use Rattle.spec_trace.proofs.Exactness.{by_each_item, came-end, move-began}
use Rattle.spec_history.proofs.Growth.{length-state, state-end}
use Rattle.spec_history.proofs.LastWrite.{commit_shape}
use Rattle.spec_history.proofs.Listed.{end_cases}
use Rattle.spec_history.proofs.Places.{sound_take}
use Rattle.spec_trace.proofs.Sessions.{at-most-last, keeps-order}
use Rattle.spec_trace.proofs.Taken.{after-mark}
use Rattle.spec_trace.proofs.Traces.{entries-append}
use Rattle.spec_history.proofs.Vouched.{keeps}
use Rattle.spec_trace.specs.Epochs.{BringsOldVersions, TellsEpochs, epoch_after, epoch_told, first_epoch}
use Rattle.spec_history.specs.History.{Base, State, epoch_of, put, state}
use Rattle.spec_history.specs.Laws.{with_texts}
use Rattle.spec_trace.specs.Messages.{KeepsOrder}
use Rattle.spec_history.specs.Opening.{IsBase}
use Rattle.spec_history.specs.Requests.{is_upgrade, is_upgrade_kind, text_of, written}
use Rattle.spec_trace.specs.Session.{Ended, Grant, Invalid, Notice, Page, Session, Upgrade, begun, bound, invalid_of, is_live, is_silent, lives_on, move, moved, notice, or_retired, pass, place_of, push, rested, retired, session, session_lives, told, told_of}
use Rattle.spec_history.specs.Sound.{sound}
use Rattle.spec_trace.specs.Trace.{E, Item, M, entries}
use Rattle.spec_trace.specs.declared.mark.Mark.TheVariants as the
use Rattle.std.proofs.Common.{Bool, List, [], ap, arith, cond, false, inl, inr, length, refl, subst, suc, sym, take, true, zero, ℕ, ◌+◌, ◌++◌, ◌<◌, ◌≡◌, ◌≤◌, ◌∙◌, ◌∷◌}
use Rattle.std.proofs.Math.Seq.{take-append_seam, take-length}
use Rattle.std.proofs.lemmas.List.Sums.{fold-append}
use Rattle.std.proofs.lemmas.List.{length-append, take-append-le}
use Rattle.std.proofs.lemmas.Option.{MatchOption-at_some}
use Rattle.std.specs.Bool.{⊤}
use Rattle.std.specs.List.{filter, fold, slice_get}
use Rattle.std.specs.Ordering.{nat_cmp}
use Rattle.std.specs.Option.{IfSome}
use Rattle.std.specs.Prelude.{None, Option, Some, nat_eq}
use Rattle.thor_value.specs.FiniteMap.{Map, has, keys}
use Rattle.thor_value.specs.declared.names.Oref.{Oref}

-- ---- what one item tells

-- the message, if there is one, is of this place and tells the epoch that comes
Says : ℕ → ℕ → ℕ → Option Notice → Type 0
Says k e next None = next ≡ e
Says k e next (Some m) = (place_of m ≡ k) × (next ≡ epoch_after e m)

says-invalid : (names : List Oref) (k e next : ℕ) → next ≡ e → Says k e next (invalid_of names k)
unfolding Says
says-invalid [] k e next h = h
says-invalid (x ∷ xs) k e next h = (refl, h)

text-count : (k : Kind) → length (text_of k) ≡ cond (is_upgrade_kind k) 1 0
text-count App = refl
text-count Transform = refl
text-count (Upgrading text) = refl

module _ (b : Base) where
  says-commit : (s : ℕ) (S : State) (pages : Map nat_cmp ℕ) (q : Request) (next : ℕ) → next ≡ epoch_of S + cond (is_upgrade q) 1 0 → Says S.length (epoch_of S) next (told s S pages q)
  unfolding Says
  says-commit s S pages q next h = by (is_upgrade q) (nat_eq q.session s) h
    where
      by : (u own : Bool) → next ≡ epoch_of S + cond u 1 0 → Says S.length (epoch_of S) next (cond u (Some (Upgrade (epoch_of S + 1) S.length)) (cond own None (invalid_of (filter (λ x. has pages x.page) (keys (written q))) S.length)))
      by true own e = (refl, e)
      by false true e = omega arith
      by false false e = says-invalid (filter (λ x. has pages x.page) (keys (written q))) S.length (epoch_of S) next (omega arith)

  says : (s : ℕ) (S : State) (pages : Map nat_cmp ℕ) (i : Item) → Says S.length (epoch_of S) (epoch_of (pass b S i)) (notice b s S pages i)
  unfolding Says
  says s S pages (E e) = elim (commit_shape b S e) [
    | inl none ↦
        subst (λ cs. Says S.length (epoch_of S) (epoch_of (put b S e)) (told_of s S pages cs)) (sym none)
        (ap length (made b S e).1 ∙ ap (λ cs. length (with_texts S.texts cs)) none)
    | inr one ↦
        let grown : epoch_of (put b S e) ≡ length (S.texts ++ text_of one.0.kind) = ap length (made b S e).1 ∙ ap (λ cs. length (with_texts S.texts cs)) one.1 in
        let n = length-append S.texts (text_of one.0.kind) in
        let c = text-count one.0.kind in
        subst (λ cs. Says S.length (epoch_of S) (epoch_of (put b S e)) (told_of s S pages cs)) (sym one.1)
        (says-commit s S pages one.0 (epoch_of (put b S e)) (omega arith))
  ]
  says s S pages (M (the.Fetched n page upto)) = by (nat_eq n s)
    where
      by : (t : Bool) → Says S.length (epoch_of S) (epoch_of S) (cond t (Some (Page page S.length)) None)
      by true = (refl, refl)
      by false = refl
  says s S pages (M (the.Granted n page)) = by (nat_eq n s)
    where
      by : (t : Bool) → Says S.length (epoch_of S) (epoch_of S) (cond t (Some (Grant page S.length)) None)
      by true = (refl, refl)
      by false = refl
  says s S pages (M (the.Connected n c)) = refl
  says s S pages (M (the.Took n k)) = refl
  says s S pages (M (the.Drew n t)) = refl
  says s S pages (M (the.Forgot t)) = refl
  says s S pages (M (the.Refused n q r)) = refl

  -- ---- a session that is moved

  moved-sent : (s : ℕ) (S : State) (i : Item) (v : Session) → session_lives v ≡ true → (move b s S i v).sent ≡ push v.sent (notice b s S v.pages i)
  moved-sent s S i v live = ap (λ t. (cond t (or_retired b (moved b s S v i)) (rested v i)).sent) live ∙ quiet (is_silent b.silence (moved b s S v i))
    where
      quiet : (t : Bool) → (cond t (record (moved b s S v i) { stage = retired (moved b s S v i).stage }) (moved b s S v i)).sent ≡ push v.sent (notice b s S v.pages i)
      quiet true = refl
      quiet false = refl

  rested-sent : (s : ℕ) (S : State) (i : Item) (v : Session) → session_lives v ≡ false → ((move b s S i v).sent ≡ v.sent) × (session_lives (move b s S i v) ≡ false)
  rested-sent s S i v dead = (
    ap (λ t. (cond t (or_retired b (moved b s S v i)) (rested v i)).sent) dead,
    ap (λ t. session_lives (cond t (or_retired b (moved b s S v i)) (rested v i))) dead ∙ still (lives_on v.client i) dead,
  )
    where
      still : (t : Bool) → is_live v.stage ≡ false → is_live (cond t v.stage Ended) ≡ false
      still true l = l
      still false l = refl

  -- ---- all items

  entries-on : (T : List Item) (i : Item) → (more : List Entry) × (entries (T ++ i ∷ []) ≡ entries T ++ more)
  entries-on T i = (entries (i ∷ []), entries-append T (i ∷ []))

  -- at a place of the shorter history the longer one was the same
  epoch-at : (T : List Item) (i : Item) (k : ℕ) → k ≤ length (entries T) → epoch_of (state b (take k (entries (T ++ i ∷ [])))) ≡ epoch_of (state b (take k (entries T)))
  epoch-at T i k l = let y = entries-on T i in ap (λ (H : List Entry). epoch_of (state b (take k H))) y.1 ∙ ap (λ (H : List Entry). epoch_of (state b H)) (take-append-le k (entries T) y.0 l)

  state-on : (T : List Item) (i : Item) → state b (entries (T ++ i ∷ [])) ≡ pass b (state b (entries T)) i
  state-on T (E e) = ap (state b) (entries-append T (E e ∷ [])) ∙ state-end b (entries T) e
  state-on T (M m) = ap (state b) (after-mark b T m)

  low : (T : List Item) (s : ℕ) (v : Session) (i : ℕ) (m : Notice) → session b T s ≡ Some v → slice_get v.sent i ≡ Some m → place_of m ≤ length (entries T)
  low T s v i m h is =
      let k : KeepsOrder v (length (entries T)) = MatchOption-at_some ⊤ (λ w. KeepsOrder w (length (entries T))) v h (keeps-order b T s) in
      let below : bound m ≤ fold (λ n m. bound m) v.began v.sent = at-most-last v.began v.sent i m k.rise is in
      let last : fold (λ n m. bound m) v.began v.sent ≤ length (entries T) = k.below in
      let place : place_of m ≤ bound m = place-bound m in
      omega arith
    where
      place-bound : (m : Notice) → place_of m ≤ bound m
      place-bound (Page p k) = omega arith
      place-bound (Grant p k) = omega arith
      place-bound (Invalid xs k) = omega arith
      place-bound (Upgrade n k) = omega arith

  began-low : (T : List Item) (s : ℕ) (v : Session) → session b T s ≡ Some v → v.began ≤ length (entries T)
  began-low T s v h = (MatchOption-at_some ⊤ (λ w. KeepsOrder w (length (entries T))) v h (keeps-order b T s)).began

  abbrev Telling : List Item → Type 0
  Telling T = (s : ℕ) (v : Session) → session b T s ≡ Some v → TellsEpochs b (entries T) v

  -- more messages tell the same before the old ones
  taken-same : (ms : List Notice) (m : Notice) (i : ℕ) → i ≤ length ms → take i (ms ++ m ∷ []) ≡ take i ms
  taken-same ms m i l = take-append-le i ms (m ∷ []) l

  within : (ms : List Notice) (i : ℕ) (m : Notice) → slice_get ms i ≡ Some m → i < length ms
  within [] i m h = cc
  within (x ∷ xs) zero m h = omega arith
  within (x ∷ xs) (suc i) m h = let l = within xs i m h in omega arith

  -- a live session is told of the item
  module _ (T : List Item) (i : Item) (s : ℕ) (v w : Session) (h : session b T s ≡ Some v) (live : session_lives v ≡ true) (is : w ≡ move b s (state b (entries T)) i v) (old : TellsEpochs b (entries T) v) where
    began-same : w.began ≡ v.began
    began-same = ap (λ (z : Session). z.began) is ∙ (move-began b s (state b (entries T)) i v).0

    first-same : first_epoch b (entries (T ++ i ∷ [])) w ≡ first_epoch b (entries T) v
    first-same = ap (λ n. epoch_of (state b (take n (entries (T ++ i ∷ []))))) began-same ∙ epoch-at T i v.began (began-low T s v h)

    told-by : (o : Option Notice) → notice b s (state b (entries T)) v.pages i ≡ o → w.sent ≡ push v.sent o → TellsEpochs b (entries (T ++ i ∷ [])) w
    unfolding Says
    told-by None n sent = record {
      now = λ l.
          ap (λ f. epoch_told f w.sent) first-same ∙ ap (epoch_told (first_epoch b (entries T) v)) sent ∙ old.now live
          ∙ sym (ap epoch_of (state-on T i) ∙ subst (Says (state b (entries T)).length (epoch_of (state b (entries T))) (epoch_of (pass b (state b (entries T)) i))) n (says s (state b (entries T)) v.pages i));
      at = λ j m g.
          let g' : slice_get v.sent j ≡ Some m = subst (λ ms. slice_get ms j ≡ Some m) sent g in
          ap (λ f. epoch_told f (take j w.sent)) first-same ∙ ap (λ ms. epoch_told (first_epoch b (entries T) v) (take j ms)) sent ∙ old.at j m g'
          ∙ sym (epoch-at T i (place_of m) (low T s v j m h g'));
    }
    told-by (Some n) e sent =
        let says' = subst (Says (state b (entries T)).length (epoch_of (state b (entries T))) (epoch_of (pass b (state b (entries T)) i))) e (says s (state b (entries T)) v.pages i) in
        let size : (state b (entries T)).length ≡ length (entries T) = length-state b (entries T) in
        record {
          now = λ l.
              ap (λ f. epoch_told f w.sent) first-same ∙ ap (epoch_told (first_epoch b (entries T) v)) sent
              ∙ fold-append epoch_after (first_epoch b (entries T) v) v.sent (n ∷ [])
              ∙ ap (λ f. epoch_after f n) (old.now live)
              ∙ sym (ap epoch_of (state-on T i) ∙ says'.1);
          at = λ j m g. elim (end_cases v.sent n m j (subst (λ ms. slice_get ms j ≡ Some m) sent g)) [
            | inl k ↦
                let l : j < length v.sent = k.0 in
                ap (λ f. epoch_told f (take j w.sent)) first-same ∙ ap (λ ms. epoch_told (first_epoch b (entries T) v) (take j ms)) sent
                ∙ ap (epoch_told (first_epoch b (entries T) v)) (taken-same v.sent n j (omega arith))
                ∙ old.at j m k.1 ∙ sym (epoch-at T i (place_of m) (low T s v j m h k.1))
            | inr k ↦
                let at' : j ≡ length v.sent = k.0 in
                let place : place_of m ≡ length (entries T) = ap place_of k.1 ∙ says'.0 ∙ size in
                ap (λ f. epoch_told f (take j w.sent)) first-same ∙ ap (λ ms. epoch_told (first_epoch b (entries T) v) (take j ms)) sent
                ∙ ap (epoch_told (first_epoch b (entries T) v)) (ap (λ n'. take n' (v.sent ++ n ∷ [])) at' ∙ take-append_seam v.sent (n ∷ []))
                ∙ old.now live
                ∙ sym (ap (λ k'. epoch_of (state b (take k' (entries (T ++ i ∷ []))))) place ∙ epoch-at T i (length (entries T)) (omega arith) ∙ ap (λ (H : List Entry). epoch_of (state b H)) (take-length (entries T)))
          ];
        }

  -- one that isn't live is told nothing
  told-nothing : (T : List Item) (i : Item) (s : ℕ) (v w : Session) → session b T s ≡ Some v → session_lives v ≡ false → w ≡ move b s (state b (entries T)) i v → TellsEpochs b (entries T) v → TellsEpochs b (entries (T ++ i ∷ [])) w
  told-nothing T i s v w h dead is old =
      let r = rested-sent s (state b (entries T)) i v dead in
      let sent : w.sent ≡ v.sent = ap (λ (z : Session). z.sent) is ∙ r.0 in
      let gone : session_lives w ≡ false = ap session_lives is ∙ r.1 in
      let began : w.began ≡ v.began = ap (λ (z : Session). z.began) is ∙ (move-began b s (state b (entries T)) i v).0 in
      let first : first_epoch b (entries (T ++ i ∷ [])) w ≡ first_epoch b (entries T) v = ap (λ n. epoch_of (state b (take n (entries (T ++ i ∷ []))))) began ∙ epoch-at T i v.began (began-low T s v h) in
      record {
        now = λ l. let no : false ≡ true = sym gone ∙ l in cc;
        at = λ j m g.
            let g' : slice_get v.sent j ≡ Some m = subst (λ ms. slice_get ms j ≡ Some m) sent g in
            ap (λ f. epoch_told f (take j w.sent)) first ∙ ap (λ ms. epoch_told (first_epoch b (entries T) v) (take j ms)) sent ∙ old.at j m g'
            ∙ sym (epoch-at T i (place_of m) (low T s v j m h g'));
      }

  telling-step : (T : List Item) (i : Item) → Telling T → Telling (T ++ i ∷ [])
  telling-step T i ih s w h = elim (came-end b T i s w h) [
    | inl x ↦ new x.0 x.1 x.2
    | inr x ↦ by (session_lives x.0) refl
        (λ live. told-by T i s x.0 w x.1 live x.2 (ih s x.0 x.1) (notice b s (state b (entries T)) x.0.pages i) refl (ap (λ (z : Session). z.sent) x.2 ∙ moved-sent s (state b (entries T)) i x.0 live))
        (λ dead. told-nothing T i s x.0 w x.1 dead x.2 (ih s x.0 x.1))
  ]
    where
      by : {A : Type 0} (t : Bool) {u : Bool} → u ≡ t → (u ≡ true → A) → (u ≡ false → A) → A
      by true e f g = f e
      by false e f g = g e

      new : (c : ℕ) → i ≡ M (the.Connected s c) → w ≡ begun c (state b (entries T)).length → TellsEpochs b (entries (T ++ i ∷ [])) w
      new c at is =
          let same : entries (T ++ i ∷ []) ≡ entries T = ap (λ (j : Item). entries (T ++ j ∷ [])) at ∙ after-mark b T (the.Connected s c) in
          let size : (state b (entries T)).length ≡ length (entries T) = length-state b (entries T) in
          let began : w.began ≡ length (entries T) = ap (λ (z : Session). z.began) is ∙ size in
          let sent : w.sent ≡ [] = ap (λ (z : Session). z.sent) is in
          let first : first_epoch b (entries (T ++ i ∷ [])) w ≡ epoch_of (state b (entries T)) =
          ap (λ (H : List Entry). epoch_of (state b (take w.began H))) same ∙ ap (λ n. epoch_of (state b (take n (entries T)))) began ∙ ap (λ (H : List Entry). epoch_of (state b H)) (take-length (entries T)) in
          record {
            now = λ l. ap (epoch_told (first_epoch b (entries (T ++ i ∷ [])) w)) sent ∙ first ∙ ap (λ (H : List Entry). epoch_of (state b H)) (sym same);
            at = λ j m g. let none : slice_get {X = Notice} [] j ≡ Some m = subst (λ ms. slice_get ms j ≡ Some m) sent g in cc;
          }

  telling : (T : List Item) → Telling T
  telling = by_each_item Telling (λ s v h. cc) telling-step

  pub if-some : {X : Type 0} (o : Option X) (P : X → Type 0) → ((x : X) → o ≡ Some x → P x) → IfSome o P
  if-some None P f = tt
  if-some (Some x) P f = f x refl

  pub tells : (T : List Item) (s : ℕ) → IfSome (session b T s) (λ v. TellsEpochs b (entries T) v)
  tells T s = if-some (session b T s) (λ v. TellsEpochs b (entries T) v) (λ v h. telling T s v h)

  pub brings : (T : List Item) (s : ℕ) → IsBase b → sound b (entries T) → IfSome (session b T s) (λ v. BringsOldVersions b (entries T) v)
  brings T s base sd = if-some (session b T s) (λ v. BringsOldVersions b (entries T) v) (λ v h i page k x o is value.
      subst (λ n. o.ver ≤ n) (sym ((telling T s v h).at i (Page page k) is)) ((keeps b base (take k (entries T)) (sound_take b k (entries T) sd)).versions x o value))
