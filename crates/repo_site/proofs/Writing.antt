-- What holds of each object that a request writes.
use Rattle.class_defs.proofs.SameNames.{same_itself}
use Rattle.log_entries.specs.declared.request.Request.{Request}
use Rattle.spec_history.specs.Requests.{has_read, has_written}
use Rattle.std.proofs.Common.{Bool, List, [], ap, cond, refl, subst, sym, true, ◌≡◌, ◌∙◌, ◌∷◌}
use Rattle.std.proofs.lemmas.Map.Views.{tells_apart}
use Rattle.std.specs.List.{AllByRecursion}
use Rattle.std.specs.Map.{keys_of}
use Rattle.std.specs.Option.{is_some}
use Rattle.std.specs.Ordering.{eq_by_cmp}
use Rattle.std.specs.Prelude.{Some, false, ◌&&◌, ◌||◌}
use Rattle.thor_value.proofs.FiniteMap.{get-insert}
use Rattle.thor_value.proofs.NameOrders.{oref_exact, oref_total}
use Rattle.thor_value.specs.FiniteMap.{Map, empty, get, has, insert, overwrite}
use Rattle.thor_value.specs.Names.{oref_cmp, same_oref}
use Rattle.thor_value.specs.declared.names.Oref.{Oref}
use Rattle.thor_value.specs.declared.values.Obj.{Obj}
use Rattle.validation_queue.specs.Names.{IsInOrder, is_among}

abbrev none_written : Map oref_cmp Obj
none_written = empty

module _ (P : Oref → Type 0) where
  -- what is so of each name that stood there, and of each that is written, is so of each that stands there then
  over : (ws : List (Oref × Obj)) (m : Map oref_cmp Obj) → ((y : Oref) → has m y ≡ true → P y) → AllByRecursion (λ w. P w.0) ws → (x : Oref) → has (overwrite m ws) x ≡ true → P x
  over [] m old all x there = old x there
  over (w ∷ ws) m old all x there = over ws (insert m w.0 w.1) added all.1 x there
    where
      by : (y : Oref) (t : Bool) → eq_by_cmp oref_cmp y w.0 ≡ t → is_some (cond t (Some w.1) (get m y)) ≡ true → P y
      by y true same k = subst P (sym (tells_apart oref_exact y w.0 same)) all.0
      by y false other k = old y k

      added : (y : Oref) → has (insert m w.0 w.1) y ≡ true → P y
      added y h = by y (eq_by_cmp oref_cmp y w.0) refl (sym (ap is_some (get-insert oref_total m w.0 w.1 y)) ∙ h)

  none_there : (y : Oref) → has none_written y ≡ true → P y
  none_there y e = let no : false ≡ true = e in cc

  pub each_written : (q : Request) → AllByRecursion (λ w. P w.0) q.writes → (x : Oref) → has_written q x ≡ true → P x
  each_written q all = over q.writes none_written none_there all

pub first_so : (a b : Bool) → a && b ≡ true → a ≡ true
first_so true b e = refl
first_so false b e = let no : false ≡ true = e in cc

pub second_so : (a b : Bool) → a && b ≡ true → b ≡ true
second_so true b e = e
second_so false b e = let no : false ≡ true = e in cc

or_first : (a b : Bool) → a ≡ true → (a || b) ≡ true
or_first true b e = refl
or_first false b e = let no : false ≡ true = e in cc

or_second : (a b : Bool) → b ≡ true → (a || b) ≡ true
or_second true b e = refl
or_second false b e = e

-- what is so of each name among the written ones is so of each that is written
each_among : (P : Oref → Type 0) (ws : List (Oref × Obj)) → ((x : Oref) → is_among (keys_of ws) x ≡ true → P x) → AllByRecursion (λ w. P w.0) ws
each_among P [] f = tt
each_among P (w ∷ ws) f = (f w.0 (or_first (same_oref w.0 w.0) (is_among (keys_of ws) w.0) (same_itself w.0)), each_among P ws (λ x m. f x (or_second (same_oref x w.0) (is_among (keys_of ws) x) m)))

-- a request in order read what it wrote
pub written_is_read : (q : Request) → IsInOrder q.ros (keys_of q.writes) → (x : Oref) → has_written q x ≡ true → has_read q x ≡ true
written_is_read q o = each_written (λ x. has_read q x ≡ true) q (each_among (λ x. has_read q x ≡ true) q.writes o.within)

read_one : (P : Oref → Type 0) (n : Oref) (ns : List Oref) (x : Oref) → P n → (is_among ns x ≡ true → P x) → (t : Bool) → eq_by_cmp oref_cmp x n ≡ t → (t || is_among ns x) ≡ true → P x
read_one P n ns x here rest true same k = subst P (sym (tells_apart oref_exact x n same)) here
read_one P n ns x here rest false other k = rest k

read_by : (P : Oref → Type 0) (names : List Oref) → AllByRecursion P names → (x : Oref) → is_among names x ≡ true → P x
read_by P [] a x e = let no : false ≡ true = e in cc
read_by P (n ∷ ns) a x e = read_one P n ns x a.0 (read_by P ns a.1 x) (eq_by_cmp oref_cmp x n) refl e

-- what is so of each that it read is so of one that it read
pub each_read : (P : Oref → Type 0) (q : Request) → AllByRecursion P q.ros → (x : Oref) → has_read q x ≡ true → P x
each_read P q all = read_by P q.ros all
