-- What a request says of objects, and how two requests meet.
use Rattle.log_entries.specs.declared.request.Kind.TheVariants.{App, Transform, Upgrade}
use Rattle.log_entries.specs.declared.request.Kind.{Kind}
use Rattle.log_entries.specs.declared.request.Request.{Request}
use Rattle.std.specs.List.{list_any}
use Rattle.std.specs.Prelude.{Bool, true, false, ◌||◌, List, [], ◌∷◌, ℕ}
use Rattle.thor_value.specs.FiniteMap.{Map, empty, has, keys, overwrite}
use Rattle.thor_value.specs.Names.{oref_cmp, same_oref}
use Rattle.thor_value.specs.declared.names.Oref.{Oref}
use Rattle.thor_value.specs.declared.values.Obj.{Obj}

-- whether q read or created x
abbrev pub has_read : Request → Oref → Bool
has_read q x = list_any (same_oref x) q.ros

-- the objects that q wrote or created, by their names
abbrev pub written : Request → Map oref_cmp Obj
written q = overwrite empty q.writes

-- whether q wrote or created x
abbrev pub has_written : Request → Oref → Bool
has_written q x = has (written q) x

-- whether x is a name that q's transaction gave to a new object
abbrev pub has_created : Request → Oref → Bool
has_created q x = list_any (same_oref x) q.fresh

-- the text of an upgrade, or nothing
abbrev pub text_of : Kind → List (List ℕ)
text_of App = []
text_of Transform = []
text_of (Upgrade text) = text ∷ []

abbrev pub is_upgrade_kind : Kind → Bool
is_upgrade_kind App = false
is_upgrade_kind Transform = false
is_upgrade_kind (Upgrade text) = true

-- whether q is an upgrade
abbrev pub is_upgrade : Request → Bool
is_upgrade q = is_upgrade_kind q.kind

-- whether q read an object that s wrote
abbrev pub reads_of : Request → Request → Bool
reads_of q s = list_any (has_written s) q.ros

-- whether q wrote an object that s read
abbrev pub overwrites : Request → Request → Bool
overwrites q s = list_any (has_read s) (keys (written q))

-- whether q can stand behind s only where s has committed: q read what s wrote, or one of them is an
-- upgrade, which every transaction is wholly before or wholly behind (the second is this project's)
abbrev pub bars : Request → Request → Bool
bars q s = is_upgrade q || is_upgrade s || reads_of q s
