-- The format of a checkpoint.
use Rattle.std.specs.Prelude.{map, suc, zero, ◌≡◌, ◌<◌, ◌≤◌, ◌^◌, ◌&&◌, ℕ, Bool, true, not, nat_lt, nat_le, IsTrue, List, [], ◌∷◌, Some}
use Rattle.std.specs.List.{AllByRecursion}
use Rattle.std.specs.List.Sorted.{IsStrictlySortedBy}
use Rattle.std.specs.Ordering.{nat_cmp}
use Rattle.thor_value.specs.FiniteMap.{Set, add, empty, has}
use Rattle.thor_value.specs.Names.{oref_cmp, ts_cmp}
use Rattle.thor_value.specs.Spelling.{OrefFits, TsFits}
use Rattle.thor_value.specs.declared.names.Oref.{Oref}
use Rattle.thor_value.specs.declared.names.Ts.{Ts}
use Rattle.thor_value.specs.declared.values.Obj.{Obj}
use Rattle.class_defs.specs.declared.store.Root.{Root}
use Rattle.page_format.specs.Formats.{format_number}
use Rattle.page_format.specs.Sides.{SidesFit}
use Rattle.page_format.specs.declared.format.StoreFormat.{StoreFormat}
use Rattle.page_format.specs.declared.format.StoreFormat.TheVariants.{One, Two}
use Rattle.log_entries.specs.RequestForm.{RequestFits, WriteFits}
use Rattle.log_entries.specs.declared.request.Request.{Request}
use Rattle.log_codec.specs.Format.{Format, ◌then◌, choice, list, made, no_format, of_those, only, such_that, u8_format, u16_format, u32_format, u64_format}
use Rattle.log_codec.specs.Grammar.{obj_format, oref_format, request_format, rise, ts_format}
use Rattle.log_codec.specs.declared.state.State.{State}

-- ---- tests

-- whether the pages rise, none below this number, and each side is 0 or 1
abbrev pub are_sides : ℕ → List (ℕ × ℕ) → Bool
are_sides low [] = true
are_sides low (p ∷ ps) = nat_le low p.0 && (nat_lt p.1 2 && are_sides (suc p.0) ps)

-- whether no name is one of those before it, nor one of the names in the set
abbrev pub are_new : Set oref_cmp → List (Oref × Obj) → Bool
are_new seen [] = true
are_new seen (w ∷ ws) = not (has seen w.0) && are_new (add seen w.0) ws

abbrev pub tx_of : Request → Ts
tx_of q = q.tx

abbrev pub client_of : ℕ × Ts → ℕ
client_of a = a.0

-- ---- the format

abbrev pub RootFits : Root → Type 0
RootFits r = (r.class < 2 ^ 16) × OrefFits r.oref

unfoldable pub root_format : Format Root
root_format = of_those RootFits (made (λ p. record { name = p.0; class = p.1.0; oref = p.1.1 }) (λ r. Some (r.name, (r.class, r.oref))) (list u8_format then u16_format then oref_format))

-- the format of a store, by its number
abbrev pub behind_version : ℕ → Format StoreFormat
behind_version zero = no_format
behind_version (suc zero) = only One
behind_version (suc (suc zero)) = only Two
behind_version (suc (suc (suc n))) = no_format

unfoldable pub version_format : Format StoreFormat
version_format = choice format_number behind_version

-- a count of entries
unfoldable pub count_format : Format ℕ
count_format = such_that (λ n. nat_lt n (2 ^ 62)) u64_format

-- a number of pages
unfoldable pub pages_format : Format ℕ
pages_format = such_that (λ n. nat_le n 65536) u32_format

unfoldable pub sides_format : Format (List (ℕ × ℕ))
sides_format = such_that (are_sides 0) (list (u32_format then u8_format))

unfoldable pub mob_format : Format (List (Oref × Obj))
mob_format = such_that (are_new empty) (list (oref_format then obj_format))

unfoldable pub prepared_format : Format (List Request)
prepared_format = such_that (λ qs. rise ts_cmp (map tx_of qs)) (list request_format)

unfoldable pub kept_format : Format (List Ts)
kept_format = such_that (rise ts_cmp) (list ts_format)

unfoldable pub alone_format : Format (List (ℕ × Ts))
alone_format = such_that (λ singles. rise nat_cmp (map client_of singles)) (list (u8_format then ts_format))

abbrev pub StateParts : Type 0
StateParts = (StoreFormat × (ℕ × (ℕ × (ℕ × (ℕ × (Ts × ℕ)))))) × ((List ℕ × (List Root × List (List ℕ))) × (List (ℕ × ℕ) × (List (Oref × Obj) × (List Request × (List Ts × List (ℕ × Ts))))))

abbrev pub state_of : StateParts → State
state_of p =
    record {
      format = p.0.0;
      repo = p.0.1.0;
      repos = p.0.1.1.0;
      life = p.0.1.1.1.0;
      count = p.0.1.1.1.1.0;
      threshold = p.0.1.1.1.1.1.0;
      next_page = p.0.1.1.1.1.1.1;
      classes = p.1.0.0;
      roots = p.1.0.1.0;
      upgrades = p.1.0.1.1;
      installed = p.1.1.0;
      mob = p.1.1.1.0;
      prepared = p.1.1.1.1.0;
      kept = p.1.1.1.1.1.0;
      alone = p.1.1.1.1.1.1;
    }

abbrev pub state_parts : State → StateParts
state_parts s = ((s.format, (s.repo, (s.repos, (s.life, (s.count, (s.threshold, s.next_page)))))), ((s.classes, (s.roots, s.upgrades)), (s.installed, (s.mob, (s.prepared, (s.kept, s.alone))))))

abbrev pub head_format : Format (StoreFormat × (ℕ × (ℕ × (ℕ × (ℕ × (Ts × ℕ))))))
head_format = version_format then u8_format then u8_format then u32_format then count_format then ts_format then pages_format

abbrev pub texts_format : Format (List ℕ × (List Root × List (List ℕ)))
texts_format = list u8_format then list root_format then list (list u8_format)

abbrev pub kept_state_format : Format (List (ℕ × ℕ) × (List (Oref × Obj) × (List Request × (List Ts × List (ℕ × Ts)))))
kept_state_format = sides_format then mob_format then prepared_format then kept_format then alone_format

abbrev pub StampFits : ℕ × Ts → Type 0
StampFits a = TsFits a.1

-- The states that have a spelling: each number is one of the formats, and what is a set stands in rising
-- order, the buffered objects in an order of their own.
pub record StateFits (s : State) : Type 0 where
  pub life : s.life < 2 ^ 32
  pub count : s.count < 2 ^ 62
  pub threshold : TsFits s.threshold
  pub next_page : s.next_page ≤ 65536
  pub roots : AllByRecursion RootFits s.roots
  pub installed : SidesFit s.installed
  pub mob : AllByRecursion WriteFits s.mob
  pub mob_distinct : IsTrue (are_new empty s.mob)
  pub prepared : AllByRecursion RequestFits s.prepared
  pub prepared_rise : IsStrictlySortedBy ts_cmp (map tx_of s.prepared)
  pub kept : AllByRecursion TsFits s.kept
  pub kept_rise : IsStrictlySortedBy ts_cmp s.kept
  pub alone : AllByRecursion StampFits s.alone
  pub alone_rise : IsStrictlySortedBy nat_cmp (map client_of s.alone)

unfoldable pub state_format : Format State
state_format = of_those StateFits (made state_of (λ s. Some (state_parts s)) (head_format then texts_format then kept_state_format))
