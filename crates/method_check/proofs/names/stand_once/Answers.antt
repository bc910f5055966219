use Rattle.std.proofs.Common.{◌≡◌, ℕ, ◌+◌, ◌<◌, List, [], ◌∷◌, ◌++◌, length, drop, take, get_or, not, ◌∙◌, ap, sym, subst, Option}
use Rattle.std.specs.Prelude.{Vec}
use Rattle.std.specs.HashSet.{HashSet}
use Rattle.method_check.specs.Seen.{Has}
use Rattle.std.specs.List.{list_any}
use Rattle.std.specs.Str.{bytes_eq}
use Rattle.std.proofs.lemmas.List.{at_drop_more, take_more}
use Rattle.class_defs.specs.Rules.{least_with, must, stand_once}
use Rattle.class_defs.specs.declared.expressions.Name.{Name}
use Rattle.class_defs.specs.declared.rules.Rule.TheVariants.{T1}
use Rattle.class_defs.specs.declared.rules.RuleFault.{RuleFault}
use Rattle.method_check.proofs.Pieces.{least_append}
use Rattle.method_check.proofs.names.stand_once.Goals as goal

one_more : (all : List Name) (i : ℕ) (n : Name) (found whole : Option RuleFault) → i < length all → n ≡ get_or all i n → least_with found (stand_once (take i all) (drop i all)) ≡ whole → least_with (least_with found (must (not (list_any (λ m. bytes_eq m.text n.text) (take i all))) T1 n.line)) (stand_once (take (i + 1) all) (drop (i + 1) all)) ≡ whole
one_more all i n found whole within is h =
    let own : List RuleFault = must (not (list_any (λ (m : Name). bytes_eq m.text n.text) (take i all))) T1 n.line in
    ap (λ t. least_with (least_with found own) (stand_once t (drop (i + 1) all))) (take_more all i n within ∙ ap (λ q. take i all ++ q ∷ []) (sym is))
    ∙ sym (least_append found own (stand_once (take i all ++ n ∷ []) (drop (i + 1) all)))
    ∙ ap (λ q. least_with found (stand_once (take i all) (q ∷ drop (i + 1) all))) is
    ∙ sym (at_drop_more (λ more. least_with found (stand_once (take i all) more)) all i n within)
    ∙ h

module _ {Y S : Type 0} where
  seen_more : (all : List Name) (i : ℕ) (n : Name) (seen : HashSet (Vec ℕ Y) S) → i < length all → n ≡ get_or all i n → Has seen (take i all ++ n ∷ []) → Has seen (take (i + 1) all)
  seen_more all i n seen within is has = subst (Has seen) (sym (take_more all i n within ∙ ap (λ q. take i all ++ q ∷ []) (sym is))) has

pub loop-place-preserved : goal.loop-place-preserved
loop-place-preserved c =
    let before = rw (← c.as_slice-all.ensures) at c.loop-place.invariant.broken in
    let seen : Has c.loop-place.seen (take c.loop-place.place c.as_slice-all.result.now) = subst (λ (names : List Name). Has c.loop-place.seen (take c.loop-place.place names)) (sym c.as_slice-all.ensures) c.loop-place.invariant.seen in
    let once = c.in_ok-stands_once.ensures in
    let step = one_more c.as_slice-all.result.now c.loop-place.place c.index-all-place.result c.loop-place.found _ c.loop-place-test.true c.index-all-place.is before in
    let more = seen_more c.as_slice-all.result.now c.loop-place.place c.index-all-place.result c.stands_once.new.seen c.loop-place-test.true c.index-all-place.is (once.seen (take c.loop-place.place c.as_slice-all.result.now) seen) in
    record {
      broken = rw (once.found (take c.loop-place.place c.as_slice-all.result.now) seen, ← c.as_slice-all.ensures) step;
      seen = rw (← c.as_slice-all.ensures) more;
    }
