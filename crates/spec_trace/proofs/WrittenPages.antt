-- The pages of what a request with one write, or none, has written.
use Rattle.log_entries.specs.declared.request.Request.{Request}
use Rattle.spec_history.specs.History.{Base}
use Rattle.spec_history.specs.Requests.{has_written}
use Rattle.spec_trace.specs.Calls.{next_page}
use Rattle.spec_trace.specs.Exact.{WritesOnPages}
use Rattle.spec_trace.specs.Session.{session}
use Rattle.spec_trace.specs.Trace.{Item}
use Rattle.std.proofs.Common.{Bool, List, [], ap, cond, false, refl, subst, sym, true, ◌<◌, ◌∙◌, ◌∷◌, ◌≡◌}
use Rattle.std.proofs.lemmas.Map.Views.{tells_apart}
use Rattle.std.specs.Option.{IsSomeAnd, is_some}
use Rattle.std.specs.Ordering.{eq_by_cmp}
use Rattle.std.specs.Prelude.{None, Some}
use Rattle.thor_value.proofs.FiniteMap.{get-insert}
use Rattle.thor_value.proofs.NameOrders.{oref_exact, oref_total}
use Rattle.thor_value.specs.FiniteMap.{empty, has, overwrite}
use Rattle.thor_value.specs.Names.{oref_cmp}
use Rattle.thor_value.specs.declared.names.Oref.{Oref}
use Rattle.thor_value.specs.declared.values.Obj.{Obj}

none_written : (q : Request) → q.writes ≡ [] → (x : Oref) → has_written q x ≡ true → ⊥
none_written q is x wrote = let e : false ≡ true = ap (λ (ws : List (Oref × Obj)). has {R = oref_cmp} (overwrite empty ws) x) (sym is) ∙ wrote in cc

one_written : (q : Request) (y : Oref) (o : Obj) → q.writes ≡ (y, o) ∷ [] → (x : Oref) → has_written q x ≡ true → x ≡ y
one_written q y o is x wrote = by (eq_by_cmp oref_cmp x y) refl (ap is_some (sym (get-insert oref_total empty y o x)) ∙ (ap (λ (ws : List (Oref × Obj)). has {R = oref_cmp} (overwrite empty ws) x) (sym is) ∙ wrote))
  where
    by : (t : Bool) → eq_by_cmp oref_cmp x y ≡ t → is_some (cond t (Some o) None) ≡ true → x ≡ y
    by true same h = tells_apart oref_exact x y same
    by false other h = cc

module _ (b : Base) (T : List Item) (q : Request) where
  pub none_granted : q.writes ≡ [] → (x : Oref) → has_written q x ≡ true → x.page < next_page b T
  none_granted is x wrote = absurd (none_written q is x wrote)

  pub none_paged : q.writes ≡ [] → WritesOnPages b T q.session q
  none_paged is x wrote = absurd (none_written q is x wrote)

  pub one_granted : (y : Oref) (o : Obj) → q.writes ≡ (y, o) ∷ [] → y.page < next_page b T → (x : Oref) → has_written q x ≡ true → x.page < next_page b T
  one_granted y o is low x wrote = subst (λ (z : Oref). z.page < next_page b T) (sym (one_written q y o is x wrote)) low

  pub one_paged : (y : Oref) (o : Obj) → q.writes ≡ (y, o) ∷ [] → IsSomeAnd (session b T q.session) (λ v. has v.pages y.page ≡ true) → WritesOnPages b T q.session q
  one_paged y o is there x wrote = subst (λ (z : Oref). IsSomeAnd (session b T q.session) (λ v. has v.pages z.page ≡ true)) (sym (one_written q y o is x wrote)) there
