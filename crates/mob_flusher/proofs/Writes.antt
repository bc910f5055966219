-- The map behind writes.
use Rattle.std.proofs.Common.{◌≡◌, ℕ, Bool, true, false, cond, List, [], ◌∷◌, Option, Some, None, refl, ap, sym, subst, ◌∙◌}
use Rattle.thor_value.specs.declared.names.Oref.{Oref}
use Rattle.thor_value.specs.declared.values.Obj.{Obj}
use Rattle.mob_buffer.specs.Buffer.{Buffer, Objects, object_of, same_name, with_all, with_object}
use Rattle.mob_buffer.proofs.Writes.{object_after}
use Rattle.mob_flusher.specs.Map.{HasBehind, HasOver, HasWrites, Kept, last_written, with_writes}

abbrev or_else : Option Obj → Option Obj → Option Obj
or_else (Some object) rest = Some object
or_else None rest = rest

or_both : (last : Option Obj) (here : Bool) (object : Obj) (rest : Option Obj) → or_else last (cond here (Some object) rest) ≡ or_else (or_else last (cond here (Some object) None)) rest
or_both (Some o) here object rest = refl
or_both None true object rest = refl
or_both None false object rest = refl

-- what a name has behind writes is the last that they have, and else what it had
object_all : (objects : Objects) (writes : List (Oref × Obj)) (x : Oref) → object_of (with_all objects writes) x ≡ or_else (last_written writes x) (object_of objects x)
object_all objects [] x = refl
object_all objects (w ∷ writes) x =
    object_all (with_object objects w.0 w.1) writes x
    ∙ ap (or_else (last_written writes x)) (object_after objects w.0 w.1 x)
    ∙ or_both (last_written writes x) (same_name x w.0) w.1 (object_of objects x)
    ∙ ap (λ (o : Option Obj). or_else o (object_of objects x)) (sym (object_all (with_object [] w.0 w.1) writes x))

behind_by : (disk : List ℕ) (kept : Kept) (writes : List (Oref × Obj)) (x : Oref) (last : Option Obj) → last_written writes x ≡ last → HasBehind last disk kept (with_writes kept writes) x
behind_by disk kept writes x (Some object) is =
    let found : object_of (with_all kept.mob.objects writes) x ≡ Some object = object_all kept.mob.objects writes x ∙ ap (λ (o : Option Obj). or_else o (object_of kept.mob.objects x)) is in
    subst (λ (o : Option Obj). HasOver o disk kept.pages.sides x (Some object)) (sym found) refl
behind_by disk kept writes x None is = λ answer has.
    let same : object_of (with_all kept.mob.objects writes) x ≡ object_of kept.mob.objects x = object_all kept.mob.objects writes x ∙ ap (λ (o : Option Obj). or_else o (object_of kept.mob.objects x)) is in
    subst (λ (o : Option Obj). HasOver o disk kept.pages.sides x answer) (sym same) has

pub has_writes : (kept : Kept) (writes : List (Oref × Obj)) (mob : Buffer) → mob ≡ record kept.mob { objects = with_all kept.mob.objects writes } → HasWrites kept writes (record { pages = kept.pages; mob = mob })
has_writes kept writes mob is disk x = subst (λ (b : Buffer). HasBehind (last_written writes x) disk kept (record { pages = kept.pages; mob = b }) x) (sym is) (behind_by disk kept writes x (last_written writes x) refl)
