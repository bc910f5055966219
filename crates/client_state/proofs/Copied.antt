-- What a request writes, and whether the client has copies of it.
use Rattle.client_cache.specs.Copies.{Contents, kept}
use Rattle.client_state.specs.Writing.{HoldsWritten, is_held_or_created}
use Rattle.log_entries.specs.declared.request.Request.{Request}
use Rattle.spec_history.specs.Requests.{has_created}
use Rattle.std.proofs.Common.{Bool, Equal, Greater, Less, List, Ordering, [], ap, cond, false, is_eq, refl, subst, sym, true, ◌∙◌, ◌∷◌, ◌≡◌}
use Rattle.std.proofs.lemmas.Bool.{and_parts}
use Rattle.std.proofs.lemmas.Cmp.{eq_by_cmp_equiv}
use Rattle.std.specs.List.{list_all}
use Rattle.std.specs.Option.{is_some}
use Rattle.std.specs.Ordering.{eq_by_cmp}
use Rattle.std.specs.Prelude.{Some, ◌&&◌, ◌||◌}
use Rattle.thor_value.proofs.FiniteMap.{get-insert}
use Rattle.thor_value.proofs.NameOrders.{oref_exact, oref_total}
use Rattle.thor_value.specs.FiniteMap.{Map, empty, get, has, insert, overwrite}
use Rattle.thor_value.specs.Names.{oref_cmp}
use Rattle.thor_value.specs.declared.names.Oref.{Oref}
use Rattle.thor_value.specs.declared.values.Obj.{Obj}

equal_of : (o : Ordering) → is_eq o ≡ true → o ≡ Equal
equal_of Less h = cc
equal_of Equal h = refl
equal_of Greater h = cc

-- ---- names that are written one behind another

put : (m : Map oref_cmp Obj) (y x : Oref) (o : Obj) (t : Bool) → eq_by_cmp oref_cmp x y ≡ t → has (insert m y o) x ≡ is_some (cond t (Some o) (get m x))
put m y x o t e = ap is_some (get-insert oref_total m y o x) ∙ ap (λ (b : Bool). is_some (cond b (Some o) (get m x))) e

more : (ws : List (Oref × Obj)) (m : Map oref_cmp Obj) (x : Oref) → has m x ≡ true → has (overwrite m ws) x ≡ true
more [] m x h = h
more (w ∷ ws) m x h = more ws (insert m w.0 w.1) x (by (eq_by_cmp oref_cmp x w.0) refl)
  where
    by : (t : Bool) → eq_by_cmp oref_cmp x w.0 ≡ t → has (insert m w.0 w.1) x ≡ true
    by true e = put m w.0 x w.1 true e
    by false e = put m w.0 x w.1 false e ∙ h

itself : (m : Map oref_cmp Obj) (x : Oref) (o : Obj) → has (insert m x o) x ≡ true
itself m x o = put m x x o true ((eq_by_cmp_equiv oref_total).refl x)

both : (a b : Bool) → a ≡ true → b ≡ true → (a && b) ≡ true
both true b e f = f
both false b e f = cc

module _ (P : Oref → Bool) where
  all_pass : (ws : List (Oref × Obj)) (m : Map oref_cmp Obj) → ((x : Oref) → has (overwrite m ws) x ≡ true → P x ≡ true) → list_all (λ w. P w.0) ws ≡ true
  all_pass [] m h = refl
  all_pass (w ∷ ws) m h = both (P w.0) (list_all (λ w. P w.0) ws) (h w.0 (more ws (insert m w.0 w.1) w.0 (itself m w.0 w.1))) (all_pass ws (insert m w.0 w.1) h)

  each_passes : (ws : List (Oref × Obj)) (m : Map oref_cmp Obj) (x : Oref) → list_all (λ w. P w.0) ws ≡ true → (has m x ≡ true → P x ≡ true) → has (overwrite m ws) x ≡ true → P x ≡ true
  each_passes [] m x all before h = before h
  each_passes (w ∷ ws) m x all before h =
      let parts : (P w.0 ≡ true) × (list_all (λ w. P w.0) ws ≡ true) = and_parts (P w.0) (list_all (λ w. P w.0) ws) all in
      each_passes ws (insert m w.0 w.1) x parts.1 (by (eq_by_cmp oref_cmp x w.0) refl parts.0) h
    where
      by : (t : Bool) → eq_by_cmp oref_cmp x w.0 ≡ t → P w.0 ≡ true → has (insert m w.0 w.1) x ≡ true → P x ≡ true
      by true e p g = subst (λ (y : Oref). P y ≡ true) (sym (oref_exact x w.0 (equal_of (oref_cmp x w.0) e))) p
      by false e p g = before (sym (put m w.0 x w.1 false e) ∙ g)

-- ---- copies of what a request writes

either : (a b : Bool) → (b ≡ false → a ≡ true) → (a || b) ≡ true
either true b h = refl
either false true h = refl
either false false h = let e : false ≡ true = h refl in cc

first : (a b : Bool) → (a || b) ≡ true → b ≡ false → a ≡ true
first true b h e = refl
first false b h e = sym e ∙ h

-- each of its writes is looked at
pub holds_each : (q : Request) (c : Contents) → list_all (λ w. is_held_or_created q c w.0) q.writes ≡ true → HoldsWritten q c
holds_each q c all x wrote old = first (is_some (kept c x)) (has_created q x) (each_passes (is_held_or_created q c) q.writes empty x all (λ none. cc) wrote) old

pub all_held : (q : Request) (c : Contents) → HoldsWritten q c → list_all (λ w. is_held_or_created q c w.0) q.writes ≡ true
all_held q c held = all_pass (is_held_or_created q c) q.writes empty (λ x wrote. either (is_some (kept c x)) (has_created q x) (λ old. held x wrote old))
