use Rattle.std.proofs.Common.{◌≡◌, ℕ, ◌+◌, ◌<◌, List, ◌∷◌, [], ◌++◌, length, drop, take, get_or, append_assoc, arith, ◌∙◌, ap, sym}
use Rattle.std.proofs.lemmas.List.{at_drop_more, take_more}
use Rattle.std.proofs.lemmas.Grind.{common_steps}
use Rattle.class_defs.specs.declared.declarations.WrittenRoot.{WrittenRoot}
use Rattle.class_defs.specs.declared.store.RootDeclaration.{RootDeclaration}
use Rattle.script_check.specs.Opened.{placed_behind, placed}
use Rattle.script_check.proofs.opening.placed_roots.Goals as goal

taken : (rs : List WrittenRoot) (i : ℕ) (r : WrittenRoot) → i < length rs → r ≡ get_or rs i r → take (i + 1) rs ≡ take i rs ++ r ∷ []
taken rs i r within is = take_more rs i r within ∙ ap (λ q. take i rs ++ q ∷ []) (sym is)

one_more : (rs : List WrittenRoot) (i : ℕ) (r : WrittenRoot) (done all : List RootDeclaration) → i < length rs → r ≡ get_or rs i r
    → done ++ placed_behind (take i rs) (drop i rs) ≡ all → (done ++ placed (take i rs) r ∷ []) ++ placed_behind (take (i + 1) rs) (drop (i + 1) rs) ≡ all
one_more rs i r done all within is h =
    append_assoc done _ _
    ∙ ap (λ front. done ++ placed (take i rs) r ∷ placed_behind front (drop (i + 1) rs)) (taken rs i r within is)
    ∙ ap (λ q. done ++ placed (take i rs) q ∷ placed_behind (take i rs ++ q ∷ []) (drop (i + 1) rs)) is
    ∙ sym (ap (λ rest. done ++ rest) (at_drop_more (λ qs. placed_behind (take i rs) qs) rs i r within))
    ∙ h

pub loop-place-preserved : goal.loop-place-preserved
loop-place-preserved c = grind (arith, common_steps, one_more c.args.roots.now c.loop-place.place c.index-roots-place.result c.loop-place.done)
