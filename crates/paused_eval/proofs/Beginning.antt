-- A statement begins by one part and one frame.
use Rattle.std.proofs.Common.{◌≡◌, ℕ, List, ◌∷◌, refl}
use Rattle.class_defs.specs.Steps.{World}
use Rattle.class_defs.specs.declared.statements.Stmt.{Stmt}
use Rattle.class_defs.specs.declared.statements.Stmt.TheOpen.{Stmt-F}
use Rattle.lang_small_steps.specs.Resume.{begin, next}
use Rattle.lang_small_steps.specs.declared.frames.Doing.TheVariants as doing
use Rattle.lang_small_steps.specs.declared.frames.Frame.{Frame}
use Rattle.paused_eval.specs.Begins.{first_part, waiting_frame}

pub begins_by : (w : World) (n : ℕ) (o : Stmt-F Stmt) (fs : List Frame) → begin w n o fs ≡ next (doing.Evaluate n (first_part o)) (waiting_frame w.schema.classes n o ∷ fs)
begins_by w n (Stmt-F.Var t name line e) fs = refl
begins_by w n (Stmt-F.Assign name line e) fs = refl
begins_by w n (Stmt-F.FieldAssign field line e) fs = refl
begins_by w n (Stmt-F.Return e) fs = refl
begins_by w n (Stmt-F.If c b) fs = refl
begins_by w n (Stmt-F.IfElse c b d) fs = refl
begins_by w n (Stmt-F.While c b) fs = refl
begins_by w n (Stmt-F.Print e) fs = refl
begins_by w n (Stmt-F.Evaluate e) fs = refl
