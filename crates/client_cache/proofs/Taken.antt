-- A name that is put among names and taken out again.
use Rattle.std.proofs.Common.{◌≡◌, Bool, true, false, not, List, [], ◌∷◌, refl, sym, ap, ◌∙◌}
use Rattle.std.specs.BTreeMap.{is_at}
use Rattle.std.specs.BTreeSet.{insert_key}
use Rattle.std.specs.Cmp.{eq_by_cmp_equiv}
use Rattle.std.specs.List.{list_any}
use Rattle.std.specs.Set.{remove_key}
use Rattle.std.specs.declared.cmp.Ordering.TheVariants.{Less, Equal, Greater}
use Rattle.thor_value.proofs.NameOrders.{oref_total}
use Rattle.thor_value.specs.Names.{oref_cmp}
use Rattle.thor_value.specs.declared.names.Oref.{Oref}

itself-at : (k : Oref) → is_at (oref_cmp k) k ≡ true
itself-at k = (eq_by_cmp_equiv oref_total).refl k

pub put_and_taken : (k : Oref) (ks : List Oref) → list_any (is_at (oref_cmp k)) ks ≡ false → remove_key (is_at (oref_cmp k)) (insert_key oref_cmp ks k) ≡ ks
put_and_taken k [] h = rw (itself-at k) refl
put_and_taken k (x ∷ xs) h = (elim (oref_cmp k x) as (λ o. oref_cmp k x ≡ o → remove_key (is_at (oref_cmp k)) (insert_key oref_cmp (x ∷ xs) k) ≡ x ∷ xs) [
  | Less ↦ λ e. rw (e, itself-at k) refl
  | Equal ↦ λ e. let impossible = rw e at h in cc
  | Greater ↦ λ e. rw (e, e) (ap (λ l. x ∷ l) (put_and_taken k xs (rw e at h)))
]) refl

absent : (b : Bool) → not b ≡ true → b ≡ false
absent true h = cc
absent false h = refl

-- the same of a name that came to them
pub put_new_and_taken : (k : Oref) (ks : List Oref) (added : Bool) → added ≡ not (list_any (is_at (oref_cmp k)) ks) → added ≡ true
    → remove_key (is_at (oref_cmp k)) (insert_key oref_cmp ks k) ≡ ks
put_new_and_taken k ks added e t = put_and_taken k ks (absent (list_any (is_at (oref_cmp k)) ks) (sym e ∙ t))
