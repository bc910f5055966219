-- Names that repositories granted with their pages.
use Rattle.std.specs.Prelude.{◌≡◌, ◌<◌, None}
use Rattle.std.specs.List.{AllByRecursion}
use Rattle.method_eval.specs.Names.{Names}

-- The held names lie in the twelve slots of a page, and there are no stand-in names.
pub record FromPages (n : Names) : Type 0 where
  pub slots : AllByRecursion (λ h. h.oref.slot < 12) n.held
  pub granted : n.stand_in ≡ None
  pub kept : n.kept_stand_in ≡ None
