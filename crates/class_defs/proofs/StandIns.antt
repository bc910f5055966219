-- Stand-in names are counted from 0, and no two of them are one.
use Rattle.std.proofs.Common.{◌≡◌, ◌+◌, ℕ, sym, ap, ◌∙◌}
use Rattle.std.proofs.lemmas.Nat.{div-add-mod'}
use Rattle.std.specs.Prelude.{◌*◌}
use Rattle.thor_value.specs.declared.names.Oref.{Oref}
use Rattle.class_defs.specs.Objects.{stand_in_name}

-- which stand-in name it is, where it is one
abbrev pub count_of : Oref → ℕ
count_of x = x.page * 256 + x.slot

pub count_is : (k : ℕ) → count_of (stand_in_name k) ≡ k
count_is k = div-add-mod' k 256

-- the name that is a stand-in name is that of its count
pub named_by : (x : Oref) (k : ℕ) → x ≡ stand_in_name k → count_of x ≡ k
named_by x k e = ap count_of e ∙ count_is k

pub one_count : (j k : ℕ) → stand_in_name j ≡ stand_in_name k → j ≡ k
one_count j k e = sym (count_is j) ∙ named_by (stand_in_name j) k e
