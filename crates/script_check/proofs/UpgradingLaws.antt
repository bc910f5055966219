-- Upgrades one after the other, and lists of what each item gives.
use Rattle.std.proofs.Common.{◌≡◌, ◌≤◌, ◌<◌, ◌+◌, ℕ, suc, arith, add-one, List, [], ◌∷◌, ◌++◌, length, min, take, drop, get_or, Option, Some, None, Result, Ok, Err, refl, ap, sym, subst, ◌∙◌}
use Rattle.std.specs.List.{flat_map}
use Rattle.std.proofs.lemmas.List.{drop_all, flat_map_more, length-append, take_more}
use Rattle.std.proofs.Math.Seq.{drop-cons}
use Rattle.class_defs.proofs.KeptRules.{neither}
use Rattle.class_defs.specs.Applied.{applied, next_number}
use Rattle.class_defs.specs.Objects.{first_of}
use Rattle.class_defs.specs.UpgradeOrder.{own_fault}
use Rattle.class_defs.specs.declared.checked.Checked.{Checked}
use Rattle.class_defs.specs.declared.rules.RuleFault.{RuleFault}
use Rattle.class_defs.specs.declared.statements.Stmt.{Stmt}
use Rattle.class_defs.specs.declared.store.Schema.{Schema}
use Rattle.class_defs.specs.declared.upgrades.Upgrade.{Upgrade}
use Rattle.ownership_check.proofs.Behind.{as_many, next_behind}
use Rattle.method_check.specs.declared.error.CheckError.{CheckError}
use Rattle.method_check.specs.declared.error.CheckError.TheVariants as errors
use Rattle.serial_model.specs.declared.entries.What.{What}
use Rattle.serial_model.specs.declared.entries.What.TheVariants.{Tx, Upgrade as UpgradeItem}
use Rattle.script_check.specs.Upgrading.{HasRoom, Leads, schema_behind, upgrade_in, upgrades_fault}

-- ---- lists

-- what the items from a place on give, one by one
pub from_place : {X Y : Type 0} (f : X → List Y) (xs : List X) (i : ℕ) (x : X) → i < length xs → x ≡ get_or xs i x → flat_map f (drop i xs) ≡ f x ++ flat_map f (drop (i + 1) xs)
from_place f xs i x within is =
    ap (flat_map f) (drop-cons xs i x within)
    ∙ ap (λ q. f q ++ flat_map f (drop (suc i) xs)) (sym is)
    ∙ ap (λ k. f x ++ flat_map f (drop k xs)) (sym (add-one i))

-- one more of several, each of which gives something of its own
pub given_more : {X Y : Type 0} (f : X → List Y) (xs : List X) (i : ℕ) (x : X) (before : List Y) → i < length xs → x ≡ get_or xs i x → (before ++ flat_map f (take i xs)) ++ f x ≡ before ++ flat_map f (take (i + 1) xs)
given_more f xs i x before within is =
    flat_map_more f before (take i xs) x
    ∙ ap (λ q. before ++ flat_map f (take i xs ++ q ∷ [])) is
    ∙ ap (λ q. before ++ flat_map f q) (sym (take_more xs i x within))

added : (a b n count more : ℕ) → count ≡ min a 18446744073709551615 → more ≡ min b 18446744073709551615 → n ≡ a + b → min (count + more) 18446744073709551615 ≡ min n 18446744073709551615
added a b n count more is also all = omega (arith, is, also, all)

pub one_at_most : (what : What) → length (upgrade_in what) ≤ 1
one_at_most (Tx block) = omega arith
one_at_most (UpgradeItem upgrade) = omega arith

-- one more of several is counted
pub counted : {X Y : Type 0} (f : X → List Y) (xs : List X) (i : ℕ) (x : X) (count more : ℕ) → i < length xs → x ≡ get_or xs i x → count ≡ min (length (flat_map f (take i xs))) 18446744073709551615 → more ≡ min (length (f x)) 18446744073709551615
    → min (count + more) 18446744073709551615 ≡ min (length (flat_map f (take (i + 1) xs))) 18446744073709551615
counted f xs i x count more within is so_far also =
    added (length (flat_map f (take i xs))) (length (f x)) (length (flat_map f (take (i + 1) xs))) count more so_far also
    (sym (ap length (given_more f xs i x [] within is)) ∙ length-append (flat_map f (take i xs)) (f x))

-- ---- room

behind_room : (s : Schema) (u : Upgrade) (us : List Upgrade) → HasRoom s (u ∷ us) → HasRoom (applied s u) us
behind_room s u us h =
    (subst (λ (n : ℕ). n ≤ 65536) (sym (as_many s u)) h.0, let one = next_behind s u in let all = h.1 in omega (arith, one, all))

pub room_behind : (s : Schema) (us vs : List Upgrade) → HasRoom s (us ++ vs) → HasRoom (schema_behind s us) vs
room_behind s [] vs h = h
room_behind s (u ∷ us) vs h = room_behind (applied s u) us vs (behind_room s u (us ++ vs) h)

pub room_before : (s : Schema) (us vs : List Upgrade) → HasRoom s (us ++ vs) → HasRoom s us
room_before s us vs h = (h.0, let all = subst (λ (n : ℕ). next_number s.upgraded + n ≤ 4294967296) (length-append us vs) h.1 in omega (arith, all))

-- ---- one after the other

behind_all : (s : Schema) (us vs : List Upgrade) → schema_behind s (us ++ vs) ≡ schema_behind (schema_behind s us) vs
behind_all s [] vs = refl
behind_all s (u ∷ us) vs = behind_all (applied s u) us vs

some_first : (f : Option RuleFault) (rest more : Option RuleFault) (fault : RuleFault) → (rest ≡ Some fault → more ≡ Some fault) → first_of f rest ≡ Some fault → first_of f more ≡ Some fault
some_first None rest more fault go h = go h
some_first (Some f) rest more fault go h = h

module _ (repos : ℕ) (blocks : List (List Stmt)) where
  fault_behind : (s : Schema) (us vs : List Upgrade) → upgrades_fault s repos us blocks ≡ None → upgrades_fault s repos (us ++ vs) blocks ≡ upgrades_fault (schema_behind s us) repos vs blocks
  fault_behind s [] vs none = refl
  fault_behind s (u ∷ us) vs none =
      let n = neither (own_fault s repos u blocks) (upgrades_fault (applied s u) repos us blocks) none in
      ap (λ (f : Option RuleFault). first_of f (upgrades_fault (applied s u) repos (us ++ vs) blocks)) n.0
      ∙ fault_behind (applied s u) us vs n.1

  fault_before : (s : Schema) (us vs : List Upgrade) (fault : RuleFault) → upgrades_fault s repos us blocks ≡ Some fault → upgrades_fault s repos (us ++ vs) blocks ≡ Some fault
  fault_before s [] vs fault h = absurd (let bad : None ≡ Some fault = h in cc)
  fault_before s (u ∷ us) vs fault h =
      some_first (own_fault s repos u blocks) _ _ fault (fault_before (applied s u) us vs fault) h

  joined : (s : Schema) (us vs : List Upgrade) (r : Result Checked CheckError) → upgrades_fault s repos us blocks ≡ None → Leads (schema_behind s us) repos vs blocks r → Leads s repos (us ++ vs) blocks r
  joined s us vs (Ok d) none then = (fault_behind s us vs none ∙ then.0, then.1 ∙ sym (behind_all s us vs), then.2)
  joined s us vs (Err (errors.Broken fault)) none then = fault_behind s us vs none ∙ then
  joined s us vs (Err errors.NoMemory) none then = tt

  -- upgrades lead on from where others led
  leads_on : (s : Schema) (us vs : List Upgrade) (c : Checked) (r : Result Checked CheckError) → Leads s repos us blocks (Ok c) → Leads c.schema c.repos vs blocks r → Leads s repos (us ++ vs) blocks r
  leads_on s us vs c r first then =
      let P : Schema → Type 0 = λ q. Leads q c.repos vs blocks r in
      let Q : ℕ → Type 0 = λ n. Leads (schema_behind s us) n vs blocks r in
      joined s us vs r first.0 (subst Q first.2 (subst P first.1 then))

  -- a fault of the first ones is one of all
  fault_leads : (s : Schema) (us vs : List Upgrade) (e : CheckError) → Leads s repos us blocks (Err e) → Leads s repos (us ++ vs) blocks (Err e)
  fault_leads s us vs (errors.Broken fault) h = fault_before s us vs fault h
  fault_leads s us vs errors.NoMemory h = tt

-- ---- loops over items

-- The upgrades of the items from a place on lead on from here to where those of all lead.
pub record Standing {X : Type 0} (f : X → List Upgrade) (blocks : List (List Stmt)) (s : Schema) (repos : ℕ) (all : List X) (place : ℕ) (c : Checked) : Type 0 where
  pub room : HasRoom c.schema (flat_map f (drop place all))
  pub leads : (r : Result Checked CheckError) → Leads c.schema c.repos (flat_map f (drop place all)) blocks r → Leads s repos (flat_map f all) blocks r

pub started : {X : Type 0} (f : X → List Upgrade) (blocks : List (List Stmt)) (all : List X) (c : Checked) → HasRoom c.schema (flat_map f all) → Standing f blocks c.schema c.repos all 0 c
started f blocks all c room = record { room = room; leads = λ r h. h }

module _ {X : Type 0} (f : X → List Upgrade) (blocks : List (List Stmt)) (s : Schema) (repos : ℕ) (all : List X) (i : ℕ) (c : Checked) (so_far : Standing f blocks s repos all i c) where
  pub ends : length all ≤ i → Leads s repos (flat_map f all) blocks (Ok c)
  ends past =
      let none : drop i all ≡ [] = drop_all i all past in
      let P : List X → Type 0 = λ xs. Leads c.schema c.repos (flat_map f xs) blocks (Ok c) in
      so_far.leads (Ok c) (subst P (sym none) (refl, refl, refl))

  module _ (x : X) (within : i < length all) (is : x ≡ get_or all i x) where
    split_room : HasRoom c.schema (f x ++ flat_map f (drop (i + 1) all))
    split_room = subst (HasRoom c.schema) (from_place f all i x within is) so_far.room

    split_leads : (r : Result Checked CheckError) → Leads c.schema c.repos (f x ++ flat_map f (drop (i + 1) all)) blocks r → Leads s repos (flat_map f all) blocks r
    split_leads r h =
        let P : List Upgrade → Type 0 = λ us. Leads c.schema c.repos us blocks r in
        so_far.leads r (subst P (sym (from_place f all i x within is)) h)

    pub room_for : HasRoom c.schema (f x)
    room_for = room_before c.schema (f x) _ split_room

    pub fails : (e : CheckError) → Leads c.schema c.repos (f x) blocks (Err e) → Leads s repos (flat_map f all) blocks (Err e)
    fails e h = split_leads (Err e) (fault_leads c.repos blocks c.schema (f x) _ e h)

    pub goes_on : (d : Checked) → Leads c.schema c.repos (f x) blocks (Ok d) → Standing f blocks s repos all (i + 1) d
    goes_on d h = record {
      room = subst (λ (q : Schema). HasRoom q (flat_map f (drop (i + 1) all))) (sym h.1) (room_behind c.schema (f x) _ split_room);
      leads = λ r then. split_leads r (leads_on c.repos blocks c.schema (f x) _ d r h then);
    }

-- ---- the limit

pub past_limit : (n count limit : ℕ) → count ≡ min n 18446744073709551615 → limit < count → limit < n
past_limit n count limit is past = omega (arith, is, past)

pub within_limit : (n count : ℕ) → count ≡ min n 18446744073709551615 → ¬ (1000 < count) → n ≤ 1000
within_limit n count is within = omega (arith, is, within)

pub none_counted : {X : Type 0} (xs : List X) (count : ℕ) → count ≡ min (length xs) 18446744073709551615 → count ≡ 0 → xs ≡ []
none_counted [] count is zero = refl
none_counted (x ∷ xs) count is zero = absurd (omega (arith, is, zero))
