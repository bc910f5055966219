-- What a check tells.
use Rattle.std.specs.Prelude.{◌≡◌, Option, Some}
use Rattle.class_defs.specs.declared.rules.RuleFault.{RuleFault}
use Rattle.method_check.specs.declared.error.CheckError.{CheckError}
use Rattle.method_check.specs.declared.error.CheckError.TheVariants.{Broken, NoMemory}

-- the fault is the one that is to be told; of want of memory nothing is said
abbrev pub Tells : CheckError → Option RuleFault → Type 0
Tells (Broken fault) least = least ≡ Some fault
Tells NoMemory least = Unit {0}
