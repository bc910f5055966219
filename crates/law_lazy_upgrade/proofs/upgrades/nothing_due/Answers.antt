use Rattle.std.proofs.Common.{◌≡◌, ◌<◌, arith, Bool, true, false, ℕ, zero, suc, nat_lt, not, is_some, Option, Some, None, option_map, refl, ap, sym, ◌∙◌}
use Rattle.std.proofs.lemmas.Bool.{or_from}
use Rattle.std.specs.Prelude.{◌&&◌, ◌||◌}
use Rattle.thor_value.specs.FiniteMap.{Map, get}
use Rattle.thor_value.specs.Names.{oref_cmp}
use Rattle.thor_value.specs.declared.names.Oref.{Oref}
use Rattle.thor_value.specs.declared.values.Obj.{Obj}
use Rattle.law_lazy_upgrade.proofs.Moving.{same_each}
use Rattle.class_defs.proofs.Levels.{due_is, undue_level}
use Rattle.law_lazy_upgrade.proofs.Values.{value_stays}
use Rattle.class_defs.specs.Eager.{value}
use Rattle.class_defs.specs.Epochs.{next_of}
use Rattle.class_defs.specs.Levels.{changes, is_due, lags}
use Rattle.class_defs.specs.Stored.{Stored, bare}
use Rattle.class_defs.specs.declared.store.Object.{Object}
use Rattle.class_defs.specs.declared.store.Schemas.{Schemas}
use Rattle.law_lazy_upgrade.proofs.upgrades.nothing_due.Goals as goal

unchanged : (a b : Bool) → b ≡ false → (not a && b) ≡ false
unchanged true b h = refl
unchanged false b h = h

not_lagging : (s : Schemas) (o : Obj) (e : ℕ) → ((k : ℕ) → k < e → next_of s k o.class ≡ None) → lags s o e ≡ false
unfolding lags
not_lagging s o zero h = refl
not_lagging s o (suc e) h =
    or_from (lags s o e) (changes s e o) (not_lagging s o e (λ k below. h k (omega (arith, below))))
    (unchanged (nat_lt e o.ver) (is_some (next_of s e o.class)) (ap is_some (h e (omega arith))))

each_stays : (s : Schemas) (L : Stored) (x : Oref) (o : Option Obj) → get L.objects x ≡ o
    → ((x : Oref) (o : Obj) → get L.objects x ≡ Some o → is_due s L.epoch o ≡ false)
    → option_map (value s L.objects L.epoch) o ≡ option_map bare o
each_stays s L x None is h = refl
each_stays s L x (Some o) is h = ap Some (value_stays s L.objects L.epoch o (sym (due_is s L.epoch o) ∙ h x o is))

pub returns : goal.returns
returns c = record {
  level = λ s e o h. undue_level s e o (due_is s e o ∙ not_lagging s o e h);
  eager = λ s L sorted h.
      ap (λ (m : Map oref_cmp Object). record { objects = m; epoch = L.epoch; roots = L.roots })
      (same_each (value s L.objects L.epoch) bare L.objects L.objects sorted sorted (λ x. each_stays s L x (get L.objects x) refl h));
}
