-- The pages of a new store hold the roots of its setup.
use Rattle.class_defs.specs.Steps.{beginning}
use Rattle.class_defs.specs.declared.types.ExprType.{ExprType}
use Rattle.class_defs.specs.declared.types.ExprType.TheVariants as type
use Rattle.class_defs.specs.declared.classes.Class.{Class}
use Rattle.class_defs.specs.declared.store.Root.{Root}
use Rattle.class_defs.specs.declared.store.Setup.{Setup}
use Rattle.disk_trait.specs.Disks.{Disks, OnDisk, WhereTold}
use Rattle.log_frame.proofs.LogAppends.{told_on}
use Rattle.page_format.specs.Pages.{Contents}
use Rattle.page_format.specs.Sides.{side_in_use}
use Rattle.page_store.proofs.Stores.{in_use_here, in_use_other}
use Rattle.page_store.specs.Objects.{Spells, empty_page}
use Rattle.page_store.specs.Sides.{KeepsSides, Shows, side_bytes}
use Rattle.repo_durable.specs.Pages.{ArePages}
use Rattle.std.proofs.Common.{Bool, Err, IfErr, IfOk, List, None, Ok, Option, Result, Some, [], ap, arith, cond, false, max, nat_eq, nat_lt, refl, subst, sym, true, ◌&&◌, ◌+◌, ◌<◌, ◌∙◌, ◌∷◌, ◌≡◌, ◌≤◌, ℕ, inl, inr}
use Rattle.std.proofs.Math.Nat.{eq-or-lt_of_le}
use Rattle.std.proofs.lemmas.Bool.Decides.{nat_tests}
use Rattle.std.proofs.lemmas.Bool.{cases_eq, cases_lt}
use Rattle.std.specs.BTreeMap.{insert_entry}
use Rattle.std.specs.List.{fold}
use Rattle.std.specs.Ordering.{nat_cmp}
use Rattle.repo_format.specs.Fresh.{page_behind, page_count}
use Rattle.repo_format.specs.Pages.{HasRoots, HasRootsTo, PutsPage, first_page, lies_on, page_by, with_own_root, with_root}
use Rattle.thor_value.specs.Spelling.{ValueFits}

-- ---- one page

-- a page as it stands on a side of a disk
shows_kept : (sides : List (ℕ × ℕ)) (before after : List ℕ) (page : ℕ) (that : Contents) (in_use : Option ℕ) → KeepsSides sides before after → side_in_use sides page ≡ in_use → Shows before in_use page that → Shows after in_use page that
shows_kept sides before after page that None keeps is shows = shows
shows_kept sides before after page that (Some side) keeps is shows = subst (λ (bytes : List ℕ). Spells bytes page that) (sym (keeps page side is)) shows

pub puts_page : (old new : Disks) (before mid after : List (ℕ × ℕ)) (page side : ℕ) (contents first : Contents) → contents.number ≡ page → contents ≡ first → mid ≡ before → after ≡ insert_entry nat_cmp mid page side
    → WhereTold new 2 (λ disk. Spells (side_bytes disk contents.number side) contents.number contents)
    → WhereTold old 2 (λ was. WhereTold new 2 (λ disk. KeepsSides before was disk))
    → PutsPage old new before after page first
puts_page old new before mid after page side contents first number made same settled written kept = record {
  here = λ disk told.
      subst (λ (u : Option ℕ). Shows disk u page first) (sym (ap (λ (s : List (ℕ × ℕ)). side_in_use s page) in_use ∙ in_use_here before page side))
      (subst (λ (c : Contents). Spells (side_bytes disk page side) page c) made (subst (λ (n : ℕ). Spells (side_bytes disk n side) n contents) number (written disk told)));
  others = λ was was_told disk told other that apart shows.
      subst (λ (u : Option ℕ). Shows disk u other that) (sym (ap (λ (s : List (ℕ × ℕ)). side_in_use s other) in_use ∙ in_use_other before page side other apart))
      (shows_kept before was disk other that (side_in_use before other) (kept was was_told disk told) refl shows);
}
  where
    in_use : after ≡ insert_entry nat_cmp before page side
    in_use = settled ∙ ap (λ (s : List (ℕ × ℕ)). insert_entry nat_cmp s page side) same

-- ---- page by page

not_before : (page : ℕ) → nat_lt page 0 ≡ false
not_before page = grind (arith, nat_tests)

-- before the first one
pub none_written : (repo : ℕ) (setup : Setup) (sides : List (ℕ × ℕ)) (disk : List ℕ) → sides ≡ [] → HasRootsTo 0 repo setup sides disk
none_written repo setup sides disk none = record {
  each = λ page.
      subst (λ (s : List (ℕ × ℕ)). Shows disk (side_in_use s page) page (page_by 0 repo setup page)) (sym none)
      (ap (λ (b : Bool). cond b (first_page repo setup page) (empty_page page)) (not_before page));
}

at_next : (page end : ℕ) → page ≡ end → nat_lt page (end + 1) ≡ true
at_next page end at = grind (arith, nat_tests, at)

not_at : (page end : ℕ) → (page ≡ end → ⊥) → nat_lt page (end + 1) ≡ nat_lt page end
not_at page end apart = elim (cases_lt page end) [
  | inl below ↦ by_below below
  | inr above ↦ by_above above
]
  where
    by_below : page < end → nat_lt page (end + 1) ≡ nat_lt page end
    by_below below =
        let a : nat_lt page (end + 1) ≡ true = grind (arith, nat_tests, below) in
        let b : nat_lt page end ≡ true = grind (arith, nat_tests, below) in
        a ∙ sym b

    by_more : end < page → nat_lt page (end + 1) ≡ nat_lt page end
    by_more more =
        let a : nat_lt page (end + 1) ≡ false = grind (arith, nat_tests, more) in
        let b : nat_lt page end ≡ false = grind (arith, nat_tests, more) in
        a ∙ sym b

    by_above : end ≤ page → nat_lt page (end + 1) ≡ nat_lt page end
    by_above above =
        elim (eq-or-lt_of_le above) [
          | inl at ↦ absurd (apart (sym at))
          | inr more ↦ by_more more
        ]

pub one_written : (old new : Disks) (before after : List (ℕ × ℕ)) (end repo : ℕ) (setup : Setup) → OnDisk old new 2 → PutsPage old new before after end (first_page repo setup end) → WhereTold old 2 (HasRootsTo end repo setup before) → WhereTold new 2 (HasRootsTo (end + 1) repo setup after)
one_written old new before after end repo setup alone puts had = λ disk told.
    let was = told_on (new.content 2) (old.content 2) disk (sym alone.told) told in
    record {
      each = λ page. elim (cases_eq page end) [
        | inl at ↦
            subst (λ (b : Bool). Shows disk (side_in_use after page) page (cond b (first_page repo setup page) (empty_page page))) (sym (at_next page end at))
            (subst (λ (n : ℕ). Shows disk (side_in_use after n) n (first_page repo setup n)) (sym at) (puts.here disk told))
        | inr off ↦ subst (λ (b : Bool). Shows disk (side_in_use after page) page (cond b (first_page repo setup page) (empty_page page))) (sym (not_at page end off)) (puts.others was.0 was.1 disk told page (page_by end repo setup page) off ((had was.0 was.1).each page))
      ];
    }

-- ---- no root lies behind the last page

behind_grows : (repo : ℕ) (roots : List Root) (n : ℕ) → n ≤ fold (page_behind repo) n roots
behind_grows repo [] n = omega arith
behind_grows repo (r ∷ rs) n = by (nat_eq r.oref.repo repo) (behind_grows repo rs (max n (r.oref.page + 1))) (behind_grows repo rs n)
  where
    by : (b : Bool) → max n (r.oref.page + 1) ≤ fold (page_behind repo) (max n (r.oref.page + 1)) rs → n ≤ fold (page_behind repo) n rs → n ≤ fold (page_behind repo) (cond b (max n (r.oref.page + 1)) n) rs
    by true more same = omega (arith, more)
    by false more same = same

-- a root of a page below
lies_off : (repo page n : ℕ) (r : Root) (b : Bool) → nat_eq r.oref.repo repo ≡ b → cond b (max n (r.oref.page + 1)) n ≤ page → lies_on repo page r ≡ false
lies_off repo page n r true here low =
    let below : r.oref.page < page = omega (arith, low) in
    let apart : nat_eq r.oref.page page ≡ false = grind (arith, nat_tests, below) in
    ap (λ (x : Bool). nat_eq r.oref.repo repo && x) apart ∙ ap (λ (x : Bool). x && false) here
lies_off repo page n r false there low = ap (λ (x : Bool). x && nat_eq r.oref.page page) there

below : (a b c : ℕ) → a ≤ b → b ≤ c → a ≤ c
below a b c first then = omega (arith, first, then)

none_lies : (classes : List Class) (repo page n : ℕ) (roots : List Root) (made : Contents) → fold (page_behind repo) n roots ≤ page → fold (with_own_root classes repo page) made roots ≡ made
none_lies classes repo page n [] made low = refl
none_lies classes repo page n (r ∷ rs) made low =
    let grows = behind_grows repo rs (page_behind repo n r) in
    let off = lies_off repo page n r (nat_eq r.oref.repo repo) refl (below (page_behind repo n r) (fold (page_behind repo) (page_behind repo n r) rs) page grows low) in
    ap (λ (b : Bool). fold (with_own_root classes repo page) (cond b (with_root classes made r) made) rs) off
    ∙ none_lies classes repo page (page_behind repo n r) rs made low

-- all are written
pub all_written : (end repo : ℕ) (setup : Setup) (sides : List (ℕ × ℕ)) (disk : List ℕ) → page_count repo setup.roots ≤ end → HasRootsTo end repo setup sides disk → HasRoots repo setup sides disk
all_written end repo setup sides disk whole has = record { each = λ page. by page (nat_lt page end) refl (has.each page) }
  where
    by : (page : ℕ) (b : Bool) → nat_lt page end ≡ b → Shows disk (side_in_use sides page) page (cond b (first_page repo setup page) (empty_page page)) → Shows disk (side_in_use sides page) page (first_page repo setup page)
    by page true test shows = shows
    by page false test shows =
        let past : end ≤ page = grind (arith, nat_tests, test) in
        subst (λ (c : Contents). Shows disk (side_in_use sides page) page c) (sym (none_lies setup.schema.classes repo page 0 setup.roots (empty_page page) (below (page_count repo setup.roots) end page whole past))) shows

-- sides with the roots are pages
pub roots_pages : (repo : ℕ) (setup : Setup) (sides : List (ℕ × ℕ)) (disk : List ℕ) → HasRoots repo setup sides disk → ArePages sides disk
roots_pages repo setup sides disk has = λ page side used.
    (first_page repo setup page, subst (λ (u : Option ℕ). Shows disk u page (first_page repo setup page)) used (has.each page))

-- ---- fields

-- the value with which a field begins can be written
pub begins_fit : (t : ExprType) → ValueFits (beginning t)
begins_fit type.Int = grind arith
begins_fit type.Text = refl
begins_fit type.Null = tt
begins_fit (type.Class c) = tt
begins_fit type.Untold = tt

-- ---- for the calls

pub ok_of_two : {T E : Type 0} (A B C : T → Type 0) (r : Result T E) → ((x : T) → A x → B x → C x) → IfOk r A → IfOk r B → IfOk r C
ok_of_two A B C (Ok x) f p q = f x p q
ok_of_two A B C (Err e) f p q = tt

-- what is told where it is refused
pub err_on : {T E : Type 0} (r : Result T E) (A B : E → Type 0) → ((e : E) → A e → B e) → IfErr r A → IfErr r B
err_on (Ok x) A B f h = tt
err_on (Err e) A B f h = f e h
