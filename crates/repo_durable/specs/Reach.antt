-- Whether a disk of pages reaches installed sides.
use Rattle.page_format.specs.Pages.{page_size}
use Rattle.std.specs.List.{list_all}
use Rattle.std.specs.Prelude.{Bool, List, nat_le, ℕ, ◌*◌, ◌+◌}

-- where a side of a page ends
abbrev pub end_of : ℕ → ℕ → ℕ
end_of page side = (2 * page + side + 1) * page_size

-- whether a side of a page ends within a length
abbrev pub is_within : ℕ → ℕ × ℕ → Bool
is_within length p = nat_le (end_of p.0 p.1) length

-- whether all of them do
abbrev pub are_within : ℕ → List (ℕ × ℕ) → Bool
are_within length sides = list_all (is_within length) sides
