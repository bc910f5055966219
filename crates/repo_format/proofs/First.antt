-- The first state has a spelling.
use Rattle.log_entries.specs.RequestForm.{RequestFits, WriteFits}
use Rattle.log_entries.specs.declared.request.Request.{Request}
use Rattle.log_codec.specs.Checkpoint.{RootFits, StampFits, StateFits, are_new, client_of, tx_of}
use Rattle.log_codec.specs.declared.state.State.{State}
use Rattle.page_format.specs.Sides.{SidesFit}
use Rattle.std.proofs.Common.{IsTrue, List, [], arith, map, rules, subst, sym, ◌<◌, ◌^◌, ◌≡◌, ◌≤◌, ℕ}
use Rattle.std.specs.List.Sorted.{IsStrictlySortedBy}
use Rattle.std.specs.List.{AllByRecursion}
use Rattle.std.specs.Ordering.{nat_cmp}
use Rattle.std.specs.declared.cmp.Ordering.{Ordering}
use Rattle.repo_format.specs.Fresh.{first_ts}
use Rattle.thor_value.specs.FiniteMap.{empty}
use Rattle.thor_value.specs.Names.{ts_cmp}
use Rattle.thor_value.specs.Spelling.{TsFits}
use Rattle.thor_value.specs.declared.names.Oref.{Oref}
use Rattle.thor_value.specs.declared.names.Ts.{Ts}
use Rattle.thor_value.specs.declared.values.Obj.{Obj}

none_sorted : {K : Type 0} (cmp : K → K → Ordering) → IsStrictlySortedBy cmp []
unfolding IsStrictlySortedBy
none_sorted cmp = tt

-- what a state has that is empty but for its roots and pages
pub record IsBare (s : State) : Type 0 where
  pub life : s.life ≡ 0
  pub count : s.count ≡ 0
  pub threshold : s.threshold ≡ first_ts
  pub next_page : s.next_page ≤ 65536
  pub roots : AllByRecursion RootFits s.roots
  pub installed : SidesFit s.installed
  pub mob : s.mob ≡ []
  pub prepared : s.prepared ≡ []
  pub kept : s.kept ≡ []
  pub alone : s.alone ≡ []

pub bare_fits : (s : State) → IsBare s → StateFits s
bare_fits s is = record {
  life = subst (λ (n : ℕ). n < 2 ^ 32) (sym is.life) (omega arith);
  count = subst (λ (n : ℕ). n < 2 ^ 62) (sym is.count) (omega arith);
  threshold = subst TsFits (sym is.threshold) (record { time = omega arith; repo = omega arith; life = omega arith });
  next_page = is.next_page;
  roots = is.roots;
  installed = is.installed;
  mob = subst (AllByRecursion WriteFits) (sym is.mob) tt;
  mob_distinct = subst (λ (ws : List (Oref × Obj)). IsTrue (are_new empty ws)) (sym is.mob) (search rules);
  prepared = subst (AllByRecursion RequestFits) (sym is.prepared) tt;
  prepared_rise = subst (λ (qs : List Request). IsStrictlySortedBy ts_cmp (map tx_of qs)) (sym is.prepared) (none_sorted ts_cmp);
  kept = subst (AllByRecursion TsFits) (sym is.kept) tt;
  kept_rise = subst (IsStrictlySortedBy ts_cmp) (sym is.kept) (none_sorted ts_cmp);
  alone = subst (AllByRecursion StampFits) (sym is.alone) tt;
  alone_rise = subst (λ (singles : List (ℕ × Ts)). IsStrictlySortedBy nat_cmp (map client_of singles)) (sym is.alone) (none_sorted nat_cmp);
}
