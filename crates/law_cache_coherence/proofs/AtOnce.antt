-- A request that commits at its own entry has committed behind that.
use Rattle.log_entries.specs.declared.entry.Entry.{Entry}
use Rattle.log_entries.specs.declared.request.Request.{Request}
use Rattle.spec_history.proofs.Growth.{state-end}
use Rattle.spec_history.proofs.LastWrite.{commit_here}
use Rattle.spec_history.proofs.Places.{placed}
use Rattle.spec_history.specs.History.{Base, Committed, Known, State, commit_of, known_by, known_in, state}
use Rattle.spec_history.specs.Sound.{sound}
use Rattle.std.proofs.Common.{List, [], ap, sym, ◌++◌, ◌∙◌, ◌∷◌, ◌≡◌}
use Rattle.std.proofs.lemmas.Option.{same_Some}
use Rattle.std.specs.Prelude.{Some}
use Rattle.thor_value.specs.declared.names.Ts.{Ts}

pub commits_at_once : (b : Base) (H : List Entry) (e : Entry) (q : Request) → sound b H → commit_of b (state b H) e ≡ ((state b H).length, q) ∷ [] → (t : Ts) (w : Known) → known_by b (H ++ e ∷ []) t ≡ Some w → q.tx ≡ t → w.fate ≡ Committed (state b H).length
commits_at_once b H e q s commits t w is named =
    let here = commit_here b (state b H) e q (placed b H s) commits in
    let now : known_by b (H ++ e ∷ []) q.tx ≡ Some here.0 = ap (λ (S : State). known_in b S q.tx) (state-end b H e) ∙ here.1 in
    let both : here.0 ≡ w = same_Some here.0 w (sym now ∙ ap (known_by b (H ++ e ∷ [])) named ∙ is) in
    ap (λ (z : Known). z.fate) (sym both) ∙ here.3
