-- The pages of objects were granted.
use Rattle.log_entries.specs.declared.entry.Entry.TheVariants.{Decided, Finished, Life, One, Prepared, Upgraded}
use Rattle.log_entries.specs.declared.entry.Entry.{Entry}
use Rattle.log_entries.specs.declared.request.Request.{Request}
use Rattle.spec_history.proofs.Growth.{owed-end, sound-beginning, state-end}
use Rattle.spec_history.proofs.LastWrite.{commit_here}
use Rattle.spec_history.proofs.Places.{came_end, placed}
use Rattle.spec_history.proofs.Vouched.{object_end, pair_at}
use Rattle.spec_history.specs.History.{Base, Known, State, known_by, known_in, state}
use Rattle.spec_history.specs.Laws.{Asks}
use Rattle.spec_history.specs.Opening.{IsAtBase, IsBase}
use Rattle.spec_history.specs.Requests.{has_written}
use Rattle.spec_history.specs.Sound.{owes, sound}
use Rattle.spec_trace.proofs.Exactness.{by_items, pages-rise}
use Rattle.spec_trace.proofs.Taken.{after-mark}
use Rattle.spec_trace.proofs.Traces.{entries-append}
use Rattle.spec_trace.specs.Calls.{next_page}
use Rattle.spec_trace.specs.Exact.{ComesFromSession, ItemIsExact, exact}
use Rattle.spec_trace.specs.Sessions.{PagesAreGranted}
use Rattle.spec_trace.specs.Trace.{E, Item, M, entries}
use Rattle.spec_trace.specs.declared.mark.Mark.{Mark}
use Rattle.std.proofs.Common.{List, [], ap, arith, inl, inr, subst, sym, true, ◌++◌, ◌<◌, ◌≡◌, ◌≤◌, ◌∙◌, ◌∷◌}
use Rattle.std.specs.Prelude.{Some, is_some}
use Rattle.thor_value.specs.FiniteMap.{get}
use Rattle.thor_value.specs.declared.names.Oref.{Oref}
use Rattle.thor_value.specs.declared.names.Ts.{Ts}
use Rattle.thor_value.specs.declared.values.Obj.{Obj}

module _ (b : Base) (base : IsBase b) where
  -- an entry that is a request comes from its session
  from-session : (T : List Item) (e : Entry) (q : Request) → Asks e q → ItemIsExact b T (E e) → ComesFromSession b T q
  from-session T (Life n) q x k = absurd x
  from-session T (One r) q x k = subst (ComesFromSession b T) x k
  from-session T (Prepared r) q x k = subst (ComesFromSession b T) x k
  from-session T (Decided t c) q x k = absurd x
  from-session T (Finished t c) q x k = absurd x
  from-session T (Upgraded r) q x k = subst (ComesFromSession b T) x k

  -- a name that such a request wrote
  new-name : (T : List Item) (e : Entry) (q : Request) (x : Oref) → Asks e q → ItemIsExact b T (E e) → has_written q x ≡ true → x.page < next_page b T
  new-name T e q x asks k w = (from-session T e q asks k).granted x w

  granted-entry : (T : List Item) (e : Entry) → sound b (entries T ++ e ∷ []) → ItemIsExact b T (E e) → PagesAreGranted b T → PagesAreGranted b (T ++ E e ∷ [])
  granted-entry T e sd k old = record { objects = objects; written = written }
    where
      H : List Entry
      H = entries T

      sd-before : sound b (entries T)
      sd-before = sound-beginning b (entries T) (e ∷ []) sd

      ow : owes b (state b (entries T)) e
      ow = owed-end b (entries T) e sd

      after : entries (T ++ E e ∷ []) ≡ entries T ++ e ∷ []
      after = entries-append T (E e ∷ [])

      up : next_page b T ≤ next_page b (T ++ E e ∷ [])
      up = pages-rise b T (E e ∷ [])

      names : (t : Ts) (o : Known) (x : Oref) → known_by b (entries T ++ e ∷ []) t ≡ Some o → has_written o.request x ≡ true → x.page < next_page b T
      names t o x is w = elim (came_end b (entries T) e sd-before ow t o is) [
        | inl new ↦ new-name T e o.request x new.1.0 k w
        | inr was ↦ old.written t was.0 x was.1 (subst (λ (q : Request). has_written q x ≡ true) was.2.1 w)
      ]

      written : (t : Ts) (o : Known) (x : Oref) → known_by b (entries (T ++ E e ∷ [])) t ≡ Some o → has_written o.request x ≡ true → x.page < next_page b (T ++ E e ∷ [])
      written t o x is w = let l = names t o x (subst (λ (G : List Entry). known_by b G t ≡ Some o) after is) w in let u = up in omega arith

      objects : (x : Oref) (o : Obj) → get (state b (entries (T ++ E e ∷ []))).objects x ≡ Some o → x.page < next_page b (T ++ E e ∷ [])
      objects x o is = elim (object_end b (entries T) e x o (subst (λ (G : List Entry). get (state b G).objects x ≡ Some o) after is)) [
        | inl was ↦ let l = old.objects x o was in let u = up in omega arith
        | inr new ↦
            let q : Request = new.0 in
            let h = commit_here b (state b (entries T)) e q (placed b (entries T) sd-before) new.1 in
            let there : known_by b (entries T ++ e ∷ []) q.tx ≡ Some h.0 = ap (λ (S : State). known_in b S q.tx) (state-end b (entries T) e) ∙ h.1 in
            let l = names q.tx h.0 x there (subst (λ (r : Request). has_written r x ≡ true) (sym h.2) (ap is_some new.2)) in
            let u = up in
            omega arith
      ]

  granted-mark : (T : List Item) (m : Mark) → PagesAreGranted b T → PagesAreGranted b (T ++ M m ∷ [])
  granted-mark T m old =
      let same : entries (T ++ M m ∷ []) ≡ entries T = after-mark b T m in
      let up = pages-rise b T (M m ∷ []) in
      record {
        objects = λ x o is. let l = old.objects x o (subst (λ (G : List Entry). get (state b G).objects x ≡ Some o) same is) in omega arith;
        written = λ t o x is w. let l = old.written t o x (subst (λ (G : List Entry). known_by b G t ≡ Some o) same is) w in omega arith;
      }

  granted-step : (T : List Item) (i : Item) → sound b (entries (T ++ i ∷ [])) → ItemIsExact b T i → (sound b (entries T) → PagesAreGranted b T) → PagesAreGranted b (T ++ i ∷ [])
  granted-step T (E e) sd k ih =
      let s : sound b (entries T ++ e ∷ []) = subst (sound b) (entries-append T (E e ∷ [])) sd in
      granted-entry T e s k (ih (sound-beginning b (entries T) (e ∷ []) s))
  granted-step T (M m) sd k ih = granted-mark T m (ih (subst (sound b) (after-mark b T m) sd))

  pub pages : (T : List Item) → exact b T → sound b (entries T) → PagesAreGranted b T
  pages = by_items b (λ T. sound b (entries T) → PagesAreGranted b T)
      (λ sd. record {
        objects = λ x o is. let k : IsAtBase b (x, o) = pair_at (IsAtBase b) b.objects.pairs x o base.objects is in k.page;
        written = λ t o x is w. cc;
      })
      (λ T i kept ih k sd. granted-step T i sd k ih)
