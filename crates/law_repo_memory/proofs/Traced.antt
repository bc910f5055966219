-- What a trace tells to calls, behind one more item.
use Rattle.spec_history.specs.History.{Base, State, start, state}
use Rattle.spec_trace.proofs.Sessions.{passed, passed-entries}
use Rattle.spec_trace.specs.Calls.{drawn_after, drawn_from, forgets, granted_at, is_forgotten, last_drawn, next_page}
use Rattle.spec_trace.specs.Session.{pass}
use Rattle.spec_trace.specs.Trace.{Item, entries}
use Rattle.std.proofs.Common.{Bool, List, [], ap, arith, refl, ℕ, ◌++◌, ◌≡◌, ◌∙◌, ◌∷◌}
use Rattle.std.proofs.lemmas.List.Folds.{list_any-append}
use Rattle.std.proofs.lemmas.List.Sums.{fold-append}
use Rattle.std.specs.Prelude.{false, max, true, ◌||◌}
use Rattle.thor_value.specs.declared.names.Ts.{Ts}

or_false : (x : Bool) → (x || false) ≡ x
or_false true = refl
or_false false = refl

max_zero : (n : ℕ) → max n 0 ≡ n
max_zero n = omega arith

module _ (b : Base) (T : List Item) where
  drawn-from-end : (S : State) (last : ℕ) (is : List Item) (i : Item) → drawn_from b S last (is ++ i ∷ []) ≡ drawn_after (passed b S is) (drawn_from b S last is) i
  drawn-from-end S last [] i = refl
  drawn-from-end S last (j ∷ is) i = drawn-from-end (pass b S j) (drawn_after S last j) is i

  pub drawn-end : (i : Item) → last_drawn b (T ++ i ∷ []) ≡ drawn_after (state b (entries T)) (last_drawn b T) i
  drawn-end i = drawn-from-end (start b) b.top.time T i ∙ ap (λ (S : State). drawn_after S (last_drawn b T) i) (passed-entries b (start b) T)

  pub next-end : (i : Item) → next_page b (T ++ i ∷ []) ≡ max (next_page b T) (granted_at i)
  next-end i = fold-append (λ n j. max n (granted_at j)) b.next_page T (i ∷ [])

  pub next-same : (i : Item) → granted_at i ≡ 0 → next_page b (T ++ i ∷ []) ≡ next_page b T
  next-same i e = next-end i ∙ (ap (max (next_page b T)) e ∙ max_zero (next_page b T))

  pub forgotten-end : (i : Item) (t : Ts) → is_forgotten (T ++ i ∷ []) t ≡ (is_forgotten T t || forgets t i)
  forgotten-end i t = list_any-append (forgets t) T (i ∷ []) ∙ ap (λ x. is_forgotten T t || x) (or_false (forgets t i))

  pub forgotten-same : (i : Item) (t : Ts) → forgets t i ≡ false → is_forgotten (T ++ i ∷ []) t ≡ is_forgotten T t
  forgotten-same i t e = forgotten-end i t ∙ (ap (λ x. is_forgotten T t || x) e ∙ or_false (is_forgotten T t))
