use Rattle.std.proofs.Common.{◌≡◌, Option, Some, None, refl, ◌∙◌, ℕ}
use Rattle.std.specs.Prelude.{find}
use Rattle.method_eval.specs.Names.{Names, next_by, next_stand_in, waits_in}
use Rattle.method_eval.specs.declared.held.Held.{Held}
use Rattle.law_eval.specs.Telling.{HasNoStandIns}
use Rattle.law_eval.proofs.names.granted_names_have_no_stand_ins.Goals as goal

behind : (n : Names) (repo : ℕ) (o : Option Held) → HasNoStandIns n → HasNoStandIns (next_by n repo o).1
behind n repo (Some x) h = record { now = h.now; kept = h.kept }
behind n repo None h = ahead n.stand_in h.now
  where
    ahead : (k : Option ℕ) → k ≡ None → HasNoStandIns (next_stand_in n k).1
    ahead None e = h
    ahead (Some k) e = cc

pub returns : goal.returns
returns c = record {
  begins = record { now = refl; kept = refl };
  granted = λ n repo page h. record { now = h.now; kept = h.kept };
  goes_on = λ n repo h. (
    behind n repo (find (waits_in repo) n.held) h,
    record { now = h.kept; kept = h.kept },
    record { now = h.now; kept = h.now },
    record { now = h.now; kept = h.kept },
  );
  given = λ n h. h.now;
}
