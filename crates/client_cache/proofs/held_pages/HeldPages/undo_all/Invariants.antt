use Rattle.std.proofs.Common.{◌≡◌, None, cond, take}
use Rattle.std.specs.List.{list_any}
use Rattle.std.specs.Map.{keys_of}
use Rattle.thor_value.specs.declared.names.Oref.{Oref}
use Rattle.client_cache.specs.Copies.{copy_by}
use Rattle.client_cache.specs.Pages.{same_name}
use Rattle.client_cache.specs.Slots.{kept_in, written_in}
use Rattle.client_cache.proofs.held_pages.HeldPages.undo_all.Given as goal

abbrev pub invariant-loop-oref : goal.invariant-loop-oref
invariant-loop-oref l =
    ((x : Oref) → copy_by kept_in l.self x ≡ copy_by kept_in l.fn.self x)
    × ((x : Oref) → copy_by written_in l.self x ≡ cond (list_any (λ y. same_name y x) (take l.oref-index l.fn.orefs)) None (copy_by written_in l.fn.self x))
    × (keys_of l.self ≡ keys_of l.fn.self)
