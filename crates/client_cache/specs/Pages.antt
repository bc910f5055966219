-- Pages by name.
use Rattle.std.specs.Prelude.{ℕ, Bool, ◌&&◌, nat_eq}
use Rattle.thor_value.specs.declared.names.Oref.{Oref}
use Rattle.client_cache.specs.declared.page_name.PageName.{PageName}

-- a page of a repository
abbrev pub on : ℕ → ℕ → PageName
on repo number = record { repo = repo; page = number }

-- the page on which an object lies
abbrev pub page_of : Oref → PageName
page_of x = record { repo = x.repo; page = x.page }

-- whether two names are of one page
abbrev pub same_page : PageName → PageName → Bool
same_page p q = nat_eq p.repo q.repo && nat_eq p.page q.page

-- whether two names are of one object
abbrev pub same_name : Oref → Oref → Bool
same_name x y = same_page (page_of x) (page_of y) && nat_eq x.slot y.slot
