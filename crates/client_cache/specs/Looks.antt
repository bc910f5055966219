-- What a look for an object tells.
use Rattle.std.specs.Prelude.{◌≡◌, Some, None, true, false}
use Rattle.thor_value.specs.declared.names.Oref.{Oref}
use Rattle.client_cache.specs.Copies.{Contents, holds, seen}
use Rattle.client_cache.specs.Pages.{page_of}
use Rattle.client_cache.specs.declared.look.Looked.{Looked}
use Rattle.client_cache.specs.declared.look.Looked.TheVariants.{Here, NoPage, NoSlot}

-- the object is here, or its page isn't held, or its page is held and its slot has nothing
abbrev pub Tells : Looked → Contents → Oref → Type 0
Tells (Here obj) c x = seen c x ≡ Some obj.now
Tells NoSlot c x = (holds c.held (page_of x) ≡ true) × (seen c x ≡ None)
Tells NoPage c x = holds c.held (page_of x) ≡ false
