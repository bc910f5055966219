-- The format of a checkpoint is exact.
use Rattle.std.proofs.Common.{◌≡◌, ℕ, zero, suc, ◌^◌, Bool, true, false, cond, ltb, leb, List, [], ◌∷◌, map, Option, Some, None, refl, sym, ap, ◌∙◌, arith}
use Rattle.std.specs.Prelude.{◌&&◌, ◌↔◌, IfSome, IsSome}
use Rattle.std.specs.List.{AllByRecursion}
use Rattle.std.specs.Ordering.{nat_cmp}
use Rattle.std.proofs.lemmas.Bool.{ltb-true, lt-ltb, leb-true, le-leb, and_from, and_parts}
use Rattle.std.proofs.lemmas.Cmp.{nat_cmp_total}
use Rattle.std.proofs.lemmas.Option.{same_Some}
use Rattle.thor_value.proofs.NameOrders.{ts_total}
use Rattle.thor_value.specs.FiniteMap.{empty}
use Rattle.thor_value.specs.Names.{ts_cmp}
use Rattle.thor_value.specs.declared.names.Ts.{Ts}
use Rattle.class_defs.specs.declared.store.Root.{Root}
use Rattle.page_format.specs.Formats.{format_number}
use Rattle.page_format.specs.Pages.{Rises}
use Rattle.page_format.specs.declared.format.StoreFormat.{StoreFormat}
use Rattle.page_format.specs.declared.format.StoreFormat.TheVariants.{One, Two}
use Rattle.page_format.specs.Sides.{SideFits, SidesFit}
use Rattle.log_entries.specs.RequestForm.{RequestFits}
use Rattle.log_entries.specs.declared.request.Request.{Request}
use Rattle.log_codec.specs.Format.{Format, ◌then◌, list, made, u8_format, u16_format, u32_format, u64_format}
use Rattle.log_codec.specs.Grammar.{obj_format, oref_format, request_format, rise, ts_format}
use Rattle.log_codec.specs.Checkpoint.{RootFits, StampFits, StateFits, StateParts, alone_format, are_new, are_sides, behind_version, client_of, count_format, head_format, kept_format, kept_state_format, mob_format, pages_format, prepared_format, root_format, sides_format, state_format, state_of, state_parts, texts_format, tx_of, version_format}
use Rattle.log_codec.specs.declared.state.State.{State}
use Rattle.log_codec.proofs.Exact.{IsExactFormat, TakesBytes, exact_choice, exact_list, exact_made, exact_none, exact_of_those, exact_only, exact_such, exact_then, exact_u8, exact_u16, exact_u32, exact_u64, list_takes, then_takes, u32_takes}
use Rattle.log_codec.proofs.Grammars.{any_bytes, exact_oref, exact_request, exact_text, exact_ts, exact_writes, request_takes, ts_takes, u8_takes}
use Rattle.log_codec.proofs.RiseLaws.{rise_from_sorted, sorted_from_rise}

-- ---- roots and texts

exact_root_parts : IsExactFormat (list u8_format then u16_format then oref_format)
exact_root_parts = exact_then (list u8_format) (u16_format then oref_format) exact_text (exact_then u16_format oref_format exact_u16 exact_oref)

pub exact_root : IsExactFormat root_format
unfolding root_format
exact_root =
    exact_of_those RootFits _ (exact_made _ _ (list u8_format then u16_format then oref_format) exact_root_parts (λ v. refl) (λ w v e. ap (λ (p : List ℕ × (ℕ × _)). record { name = p.0; class = p.1.0; oref = p.1.1 }) (same_Some (w.name, (w.class, w.oref)) v e)))
    (λ r h. (any_bytes r.name, (h.0, h.1)))
    (λ r h. (h.1.0, h.1.1))

root_takes : TakesBytes root_format
unfolding root_format
root_takes r h = then_takes (list u8_format) (u16_format then oref_format) exact_text (exact_then u16_format oref_format exact_u16 exact_oref) (list_takes u8_format exact_u8) (r.name, (r.class, r.oref)) (any_bytes r.name, (h.0, h.1))

exact_texts : IsExactFormat texts_format
exact_texts =
    exact_then (list u8_format) (list root_format then list (list u8_format)) exact_text
    (exact_then (list root_format) (list (list u8_format)) (exact_list root_format exact_root root_takes) (exact_list (list u8_format) exact_text (list_takes u8_format exact_u8)))

-- ---- the numbers at the head

each_version : (k : ℕ) → IsExactFormat (behind_version k)
each_version zero = exact_none
each_version (suc zero) = exact_only One
each_version (suc (suc zero)) = exact_only Two
each_version (suc (suc (suc n))) = exact_none

own_version : (k : ℕ) (w : StoreFormat) → (behind_version k).Fits w → format_number w ≡ k
own_version zero w h = absurd h
own_version (suc zero) w h = ap format_number h
own_version (suc (suc zero)) w h = ap format_number h
own_version (suc (suc (suc n))) w h = absurd h

exact_version : IsExactFormat version_format
unfolding version_format
exact_version = exact_choice format_number behind_version each_version own_version

any_version : (w : StoreFormat) → (behind_version (format_number w)).Fits w
any_version One = refl
any_version Two = refl

-- each format of a store has its byte
pub version_fits : (w : StoreFormat) → version_format.Fits w
unfolding version_format
version_fits w = any_version w

exact_count : IsExactFormat count_format
unfolding count_format
exact_count = exact_such (λ n. ltb n (2 ^ 62)) u64_format exact_u64

exact_pages : IsExactFormat pages_format
unfolding pages_format
exact_pages = exact_such (λ n. leb n 65536) u32_format exact_u32

exact_head : IsExactFormat head_format
exact_head =
    exact_then version_format _ exact_version (exact_then u8_format _ exact_u8 (exact_then u8_format _ exact_u8 (exact_then u32_format _ exact_u32 (exact_then count_format _ exact_count (exact_then ts_format pages_format exact_ts exact_pages)))))

-- ---- the lists

pub exact_pairs : IsExactFormat (list (u32_format then u8_format))
exact_pairs = exact_list (u32_format then u8_format) (exact_then u32_format u8_format exact_u32 exact_u8) (then_takes u32_format u8_format exact_u32 exact_u8 u32_takes)

exact_sides : IsExactFormat sides_format
unfolding sides_format
exact_sides = exact_such (are_sides 0) (list (u32_format then u8_format)) exact_pairs

exact_mob : IsExactFormat mob_format
unfolding mob_format
exact_mob = exact_such (are_new empty) (list (oref_format then obj_format)) exact_writes

exact_prepared : IsExactFormat prepared_format
unfolding prepared_format
exact_prepared = exact_such (λ (qs : List Request). rise ts_cmp (map tx_of qs)) (list request_format) (exact_list request_format exact_request request_takes)

exact_kept : IsExactFormat kept_format
unfolding kept_format
exact_kept = exact_such (rise ts_cmp) (list ts_format) (exact_list ts_format exact_ts ts_takes)

exact_alone : IsExactFormat alone_format
unfolding alone_format
exact_alone = exact_such (λ (singles : List (ℕ × Ts)). rise nat_cmp (map client_of singles)) (list (u8_format then ts_format)) (exact_list (u8_format then ts_format) (exact_then u8_format ts_format exact_u8 exact_ts) (then_takes u8_format ts_format exact_u8 exact_ts u8_takes))

exact_kept_state : IsExactFormat kept_state_format
exact_kept_state = exact_then sides_format _ exact_sides (exact_then mob_format _ exact_mob (exact_then prepared_format _ exact_prepared (exact_then kept_format alone_format exact_kept exact_alone)))

exact_parts : IsExactFormat (head_format then texts_format then kept_state_format)
exact_parts = exact_then head_format (texts_format then kept_state_format) exact_head (exact_then texts_format kept_state_format exact_texts exact_kept_state)

-- ---- what has a spelling

pub are_sides_from : (low : ℕ) (ps : List (ℕ × ℕ)) → Rises low ps → AllByRecursion SideFits ps → are_sides low ps ≡ true
are_sides_from low [] r h = refl
are_sides_from low (p ∷ ps) r h = and_from (leb low p.0) (ltb p.1 2 && are_sides (suc p.0) ps) (le-leb low p.0 r.0) (and_from (ltb p.1 2) (are_sides (suc p.0) ps) (lt-ltb p.1 2 h.0.1) (are_sides_from (suc p.0) ps r.1 h.1))

numbers_from : (ps : List (ℕ × ℕ)) → AllByRecursion SideFits ps → AllByRecursion (u32_format then u8_format).Fits ps
numbers_from [] h = tt
numbers_from (p ∷ ps) h = ((h.0.0, tt), numbers_from ps h.1)

sides_are : (low : ℕ) (ps : List (ℕ × ℕ)) → AllByRecursion (u32_format then u8_format).Fits ps → are_sides low ps ≡ true → Rises low ps × AllByRecursion SideFits ps
sides_are low [] n h = (tt, tt)
sides_are low (p ∷ ps) n h =
    let a = and_parts (leb low p.0) (ltb p.1 2 && are_sides (suc p.0) ps) h in
    let b = and_parts (ltb p.1 2) (are_sides (suc p.0) ps) a.1 in
    let more = sides_are (suc p.0) ps n.1 b.1 in
    ((leb-true low p.0 a.0, more.0), ((n.0.0, ltb-true p.1 2 b.0), more.1))

pub sides_fit : (ps : List (ℕ × ℕ)) → AllByRecursion (u32_format then u8_format).Fits ps → are_sides 0 ps ≡ true → SidesFit ps
sides_fit ps n h = let more = sides_are 0 ps n h in record { rising = more.0; each = more.1 }

-- a list that is taken exactly where it has the sides of pages
pub tested_sides : (ps : List (ℕ × ℕ)) → AllByRecursion (u32_format then u8_format).Fits ps → (r : Option (List (ℕ × ℕ))) → IfSome r (λ sides. sides ≡ ps) → IsSome r ↔ SidesFit ps → r ≡ cond (are_sides 0 ps) (Some ps) None
tested_sides ps n r found fit = by_test (are_sides 0 ps) refl r found fit
  where
    by_test : (b : Bool) → are_sides 0 ps ≡ b → (r : Option (List (ℕ × ℕ))) → IfSome r (λ sides. sides ≡ ps) → IsSome r ↔ SidesFit ps → r ≡ cond b (Some ps) None
    by_test true e (Some sides) found fit = ap (λ (t : List (ℕ × ℕ)). Some t) found
    by_test true e None found fit = let no = fit.1 (sides_fit ps n e) in cc
    by_test false e (Some sides) found fit =
        let all = fit.0 refl in
        let yes : are_sides 0 ps ≡ true = are_sides_from 0 ps all.rising all.each in
        let clash : false ≡ true = sym e ∙ yes in
        cc
    by_test false e None found fit = refl

pub stamps_to : (singles : List (ℕ × Ts)) → AllByRecursion StampFits singles → AllByRecursion (u8_format then ts_format).Fits singles
stamps_to [] h = tt
stamps_to (a ∷ singles) h = ((tt, h.0), stamps_to singles h.1)

stamps_from : (singles : List (ℕ × Ts)) → AllByRecursion (u8_format then ts_format).Fits singles → AllByRecursion StampFits singles
stamps_from [] h = tt
stamps_from (a ∷ singles) h = (h.0.1, stamps_from singles h.1)

pub texts_any : (ts : List (List ℕ)) → AllByRecursion (list u8_format).Fits ts
texts_any [] = tt
texts_any (t ∷ ts) = (any_bytes t, texts_any ts)

pub roots_spell : (roots : List Root) → AllByRecursion RootFits roots → AllByRecursion root_format.Fits roots
unfolding root_format
roots_spell roots h = h

pub requests_spell : (requests : List Request) → AllByRecursion RequestFits requests → AllByRecursion request_format.Fits requests
unfolding request_format
requests_spell requests h = h

abbrev Parts : Format StateParts
Parts = head_format then texts_format then kept_state_format

state_fits : (s : State) → StateFits s → Parts.Fits (state_parts s)
unfolding version_format count_format pages_format sides_format mob_format prepared_format kept_format alone_format root_format request_format
state_fits s h = (
  (any_version s.format, (tt, (tt, (h.life, ((omega (arith, h.count), lt-ltb s.count (2 ^ 62) h.count), (h.threshold, (omega (arith, h.next_page), le-leb s.next_page 65536 h.next_page))))))),
  (
    (any_bytes s.classes, (h.roots, texts_any s.upgrades)),
    (
      (numbers_from s.installed h.installed.each, are_sides_from 0 s.installed h.installed.rising h.installed.each),
      (
        (h.mob, h.mob_distinct),
        (
          (h.prepared, rise_from_sorted ts_cmp ts_total (map tx_of s.prepared) h.prepared_rise),
          (
            (h.kept, rise_from_sorted ts_cmp ts_total s.kept h.kept_rise),
            (stamps_to s.alone h.alone, rise_from_sorted nat_cmp nat_cmp_total (map client_of s.alone) h.alone_rise),
          ),
        ),
      ),
    ),
  ),
)

state_has : (s : State) → Parts.Fits (state_parts s) → StateFits s
unfolding version_format count_format pages_format sides_format mob_format prepared_format kept_format alone_format root_format request_format
state_has s p = record {
  life = p.0.1.1.1.0;
  count = ltb-true s.count (2 ^ 62) p.0.1.1.1.1.0.1;
  threshold = p.0.1.1.1.1.1.0;
  next_page = leb-true s.next_page 65536 p.0.1.1.1.1.1.1.1;
  roots = p.1.0.1.0;
  installed = sides_fit s.installed p.1.1.0.0 p.1.1.0.1;
  mob = p.1.1.1.0.0;
  mob_distinct = p.1.1.1.0.1;
  prepared = p.1.1.1.1.0.0;
  prepared_rise = sorted_from_rise ts_cmp ts_total (map tx_of s.prepared) p.1.1.1.1.0.1;
  kept = p.1.1.1.1.1.0.0;
  kept_rise = sorted_from_rise ts_cmp ts_total s.kept p.1.1.1.1.1.0.1;
  alone = stamps_from s.alone p.1.1.1.1.1.1.0;
  alone_rise = sorted_from_rise nat_cmp nat_cmp_total (map client_of s.alone) p.1.1.1.1.1.1.1;
}

pub exact_state : IsExactFormat state_format
unfolding state_format
exact_state = exact_of_those StateFits (made state_of (λ s. Some (state_parts s)) Parts) (exact_made state_of (λ s. Some (state_parts s)) Parts exact_parts (λ v. refl) (λ w v e. ap state_of (same_Some (state_parts w) v e))) state_fits state_has
