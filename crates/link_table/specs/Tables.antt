-- How a table lays out its pairs: each is a node of a slab, which names its neighbors in three lists.
-- No public clause cites this module.
use Rattle.link_table.specs.Nodes.{is_key, neighbors, taken_out, with_after}
use Rattle.link_table.specs.Pairs.{next_after, first}
use Rattle.link_table.specs.declared.ends.Ends.{Ends}
use Rattle.link_table.specs.declared.node.Chain.TheVariants.{All, Left, Right}
use Rattle.link_table.specs.declared.node.Chain.{Chain}
use Rattle.link_table.specs.declared.node.Neighbors.{Neighbors}
use Rattle.link_table.specs.declared.node.Node.{Node}
use Rattle.std.specs.List.{IsDistinct, filter, last_or}
use Rattle.std.specs.Map.{keys_of, lookup, values_of}
use Rattle.std.specs.Option.{option_and_then, option_map}
use Rattle.std.specs.Prelude.{Bool, List, None, Option, Some, [], cond, length, nat_eq, not, true, zero, suc, ℕ, ◌&&◌, ◌+◌, ◌≡◌, ◌∷◌}

-- ---- the ends of a list

abbrev pub first_key : Option Ends → Option ℕ
first_key None = None
first_key (Some e) = Some e.first

abbrev pub last_key : Option Ends → Option ℕ
last_key None = None
last_key (Some e) = Some e.last

abbrev pub ends : Option ℕ → Option ℕ → Option Ends
ends None l = None
ends (Some f) None = None
ends (Some f) (Some l) = Some (record { first = f; last = l })

abbrev pub ends_of : List ℕ → Option Ends
ends_of ks = ends (first ks) (last_or None ks)

abbrev pub joined : Option Ends → ℕ → Ends
joined None k = record { first = k; last = k }
joined (Some e) k = record { first = e.first; last = k }

-- x, where there is a key, and else y
abbrev pub if_there : Option ℕ → Option ℕ → Option ℕ → Option ℕ
if_there None x y = y
if_there (Some k) x y = x

abbrev pub left_over : Option Ends → Neighbors → Option Ends
left_over e a = ends (if_there a.before (first_key e) a.after) (if_there a.after (last_key e) a.before)

-- ---- a place in a list of keys

abbrev pub before_from : Option ℕ → List ℕ → ℕ → Option ℕ
before_from o [] k = None
before_from o (x ∷ xs) k = cond (nat_eq x k) o (before_from (Some x) xs k)

abbrev pub around : List ℕ → ℕ → Neighbors
around ks k = record { before = before_from None ks k; after = next_after ks k }

-- the list without a key
abbrev pub without : List ℕ → ℕ → List ℕ
without ks k = filter (λ j. not (nat_eq j k)) ks

-- ---- the nodes as a list of their keys and pairs, in the order of linking

abbrev pub Entries : Type 0
Entries = List (ℕ × (ℕ × ℕ))

-- the pairs that stand in a list with p: all, those of its left, those of its right
abbrev pub stands_with : Chain → ℕ × ℕ → ℕ × ℕ → Bool
stands_with All p q = true
stands_with Left p q = nat_eq q.0 p.0
stands_with Right p q = nat_eq q.1 p.1

-- the list in which p stands or would stand
abbrev pub members : Chain → ℕ × ℕ → Entries → List ℕ
members c p E = keys_of (filter (λ e. stands_with c p e.1) E)

-- ---- a table

pub record State : Type 0 where
  pub nodes : ℕ → Option Node
  pub count : ℕ
  pub all : Option Ends
  pub lefts : ℕ → Option Ends
  pub rights : ℕ → Option Ends
  pub keys : ℕ × ℕ → Option ℕ

-- the ends of the list in which p stands
abbrev pub ends_at : State → Chain → ℕ × ℕ → Option Ends
ends_at S All p = S.all
ends_at S Left p = S.lefts p.0
ends_at S Right p = S.rights p.1

abbrev pub pair_of : Node → ℕ × ℕ
pair_of n = (n.left, n.right)

-- the place of the node k in a list, where there is such a node
abbrev pub place : State → Chain → ℕ → Option Neighbors
place S c k = option_map (neighbors c) (S.nodes k)

-- the pair of a key, where there is one
abbrev pub pair_at : State → Option ℕ → Option (ℕ × ℕ)
pair_at S o = option_and_then (λ k. option_map pair_of (S.nodes k)) o

-- the key behind that of a pair in one of its lists
abbrev pub behind_at : State → Chain → ℕ × ℕ → Option ℕ
behind_at S c p = option_and_then (λ k. option_and_then (λ n. (neighbors c n).after) (S.nodes k)) (S.keys p)

-- the key of the next right of l, and of the next left of r
abbrev pub right_after : State → ℕ → Option ℕ → Option ℕ
right_after S l None = first_key (S.lefts l)
right_after S l (Some r) = behind_at S Left (l, r)

abbrev pub left_after : State → ℕ → Option ℕ → Option ℕ
left_after S r None = first_key (S.rights r)
left_after S r (Some l) = behind_at S Right (l, r)

-- the left of the node of a key, and the key behind it in the list of its right
abbrev pub left_at : (ℕ → Option Node) → Option ℕ → Option (ℕ × Option ℕ)
left_at nodes o = option_and_then (λ k. option_map (λ n. (n.left, n.of_right.after)) (nodes k)) o

abbrev pub entry_at : Entries → ℕ → Option (ℕ × ℕ)
entry_at E k = lookup (nat_eq k) E

-- The table S has the entries E.
pub record Keeps (S : State) (E : Entries) : Type 0 where
  pub apart : IsDistinct nat_eq (keys_of E)
  pub count : length E ≡ S.count
  pub pairs : (k : ℕ) → option_map pair_of (S.nodes k) ≡ entry_at E k
  pub found : (p : ℕ × ℕ) (k : ℕ) → S.keys p ≡ Some k → entry_at E k ≡ Some p
  pub kept : (p : ℕ × ℕ) (k : ℕ) → entry_at E k ≡ Some p → S.keys p ≡ Some k
  pub places : (c : Chain) (k : ℕ) (p : ℕ × ℕ) → entry_at E k ≡ Some p → place S c k ≡ Some (around (members c p E) k)
  pub ends : (c : Chain) (p : ℕ × ℕ) → ends_at S c p ≡ ends_of (members c p E)

-- ---- the entries that the nodes spell, from one on

abbrev pub step : ℕ → Option Node → (Option ℕ → Entries) → Entries
step k None rest = []
step k (Some n) rest = (k, pair_of n) ∷ rest n.of_all.after

abbrev pub walk_at : (ℕ → Option Node) → (Option ℕ → Entries) → Option ℕ → Entries
walk_at nodes rest None = []
walk_at nodes rest (Some k) = step k (nodes k) rest

abbrev pub walk : (ℕ → Option Node) → ℕ → Option ℕ → Entries
walk nodes zero at = []
walk nodes (suc n) at = walk_at nodes (walk nodes n) at

abbrev pub entries : State → Entries
entries S = walk S.nodes S.count (first_key S.all)

abbrev pub pairs : State → List (ℕ × ℕ)
pairs S = values_of (entries S)

-- ---- a table with the same content

pub record Same (S T : State) : Type 0 where
  pub nodes : (k : ℕ) → T.nodes k ≡ S.nodes k
  pub count : T.count ≡ S.count
  pub all : T.all ≡ S.all
  pub lefts : (n : ℕ) → T.lefts n ≡ S.lefts n
  pub rights : (n : ℕ) → T.rights n ≡ S.rights n
  pub keys : (p : ℕ × ℕ) → T.keys p ≡ S.keys p

-- ---- a new pair comes last

abbrev pub same_pair : ℕ × ℕ → ℕ × ℕ → Bool
same_pair p q = nat_eq p.0 q.0 && nat_eq p.1 q.1

-- the place behind the last node
abbrev pub at_end : Option Ends → Neighbors
at_end e = record { before = last_key e; after = None }

abbrev pub new_node : State → ℕ → ℕ → Node
new_node S l r = record { left = l; right = r; of_all = at_end S.all; of_left = at_end (S.lefts l); of_right = at_end (S.rights r) }

-- the node o of the key k, where n comes behind j in one list
abbrev pub followed : Chain → Option ℕ → ℕ → ℕ → Option Node → Option Node
followed c j n k o = cond (is_key j k) (option_map (with_after c (Some n)) o) o

abbrev pub with_last : State → ℕ → ℕ → ℕ → ℕ → Option Node
with_last S n l r k =
    followed Right (last_key (S.rights r)) n k
    (followed Left (last_key (S.lefts l)) n k
    (followed All (last_key S.all) n k (cond (nat_eq n k) (Some (new_node S l r)) (S.nodes k))))

-- T is S with a new node of the pair of l and r.
pub record Puts (S T : State) (l r : ℕ) : Type 0 where
  pub key : ℕ
  pub vacant : S.nodes key ≡ None
  pub nodes : (k : ℕ) → T.nodes k ≡ with_last S key l r k
  pub count : T.count ≡ S.count + 1
  pub all : T.all ≡ Some (joined S.all key)
  pub lefts : (n : ℕ) → T.lefts n ≡ cond (nat_eq l n) (Some (joined (S.lefts l) key)) (S.lefts n)
  pub rights : (n : ℕ) → T.rights n ≡ cond (nat_eq r n) (Some (joined (S.rights r) key)) (S.rights n)
  pub keys : (p : ℕ × ℕ) → T.keys p ≡ cond (same_pair (l, r) p) (Some key) (S.keys p)

-- ---- a node is taken

abbrev pub with_gap : State → ℕ → Node → ℕ → Option Node
with_gap S n node k =
    taken_out Right node.of_right k
    (taken_out Left node.of_left k
    (taken_out All node.of_all k (cond (nat_eq n k) None (S.nodes k))))

-- T is S without the node of the key n.
pub record Takes (S T : State) (n : ℕ) (node : Node) : Type 0 where
  pub nodes : (k : ℕ) → T.nodes k ≡ with_gap S n node k
  pub count : T.count + 1 ≡ S.count
  pub all : T.all ≡ left_over S.all node.of_all
  pub lefts : (m : ℕ) → T.lefts m ≡ cond (nat_eq node.left m) (left_over (S.lefts node.left) node.of_left) (S.lefts m)
  pub rights : (m : ℕ) → T.rights m ≡ cond (nat_eq node.right m) (left_over (S.rights node.right) node.of_right) (S.rights m)
  pub keys : (p : ℕ × ℕ) → T.keys p ≡ cond (same_pair (pair_of node) p) None (S.keys p)
