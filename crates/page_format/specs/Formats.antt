-- The formats of a store (this project's): the number that tells one, and how large its pages are.
use Rattle.std.specs.Prelude.{ℕ}
use Rattle.page_format.specs.declared.format.StoreFormat.{StoreFormat}
use Rattle.page_format.specs.declared.format.StoreFormat.TheVariants.{One, Two}

-- the byte that tells a format
abbrev pub format_number : StoreFormat → ℕ
format_number One = 1
format_number Two = 2

-- the bytes of a page
abbrev pub page_size_in : StoreFormat → ℕ
page_size_in One = 4096
page_size_in Two = 16384
