-- What stands beside a node in each of its lists. No public clause cites this module.
use Rattle.link_table.specs.declared.node.Chain.TheVariants.{All, Left, Right}
use Rattle.link_table.specs.declared.node.Chain.{Chain}
use Rattle.link_table.specs.declared.node.Neighbors.{Neighbors}
use Rattle.link_table.specs.declared.node.Node.{Node}
use Rattle.std.specs.Option.{option_map}
use Rattle.std.specs.Prelude.{Bool, None, Option, Some, cond, false, nat_eq, ℕ}

abbrev pub neighbors : Chain → Node → Neighbors
neighbors All n = n.of_all
neighbors Left n = n.of_left
neighbors Right n = n.of_right

abbrev pub with_neighbors : Chain → Neighbors → Node → Node
with_neighbors All a n = record n { of_all = a }
with_neighbors Left a n = record n { of_left = a }
with_neighbors Right a n = record n { of_right = a }

abbrev pub with_after : Chain → Option ℕ → Node → Node
with_after c k n = with_neighbors c (record (neighbors c n) { after = k }) n

abbrev pub with_before : Chain → Option ℕ → Node → Node
with_before c k n = with_neighbors c (record (neighbors c n) { before = k }) n

-- whether k is the key, where there is one
abbrev pub is_key : Option ℕ → ℕ → Bool
is_key None k = false
is_key (Some j) k = nat_eq j k

-- the node o of the key k, where another is taken out of one list
abbrev pub taken_out : Chain → Neighbors → ℕ → Option Node → Option Node
taken_out c gone k o =
    let once = cond (is_key gone.before k) (option_map (with_after c gone.after) o) o in
    cond (is_key gone.after k) (option_map (with_before c gone.before) once) once
