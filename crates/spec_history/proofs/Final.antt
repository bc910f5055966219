-- What is final, in the words of the laws.
use Rattle.log_entries.specs.declared.entry.Entry.TheVariants.{Life}
use Rattle.log_entries.specs.declared.entry.Entry.{Entry}
use Rattle.spec_history.proofs.Growth.{sound-beginning, state-end}
use Rattle.spec_history.proofs.Places.{Placed, placed, stays}
use Rattle.spec_history.proofs.Prefixes.{stood}
use Rattle.spec_history.specs.History.{Aborted, Base, Committed, Fate, Open, Known, State, lapse, or_lost, put, known_in, known_by, state}
use Rattle.spec_history.specs.Laws.{Stays}
use Rattle.spec_history.specs.Sound.{sound}
use Rattle.std.proofs.Common.{List, [], ap, length, refl, subst, sym, take, ℕ, ◌++◌, ◌<◌, ◌≡◌, ◌≢◌, ◌≤◌, ◌∷◌, eq-eqb}
use Rattle.std.proofs.lemmas.Bool.{lt-ltb, and_from}
use Rattle.std.proofs.lemmas.Option.{same_Some}
use Rattle.std.specs.Option.{IfSome, IsSomeAnd, option_map}
use Rattle.std.specs.Prelude.{Bool, None, Option, Some, nat_eq, true, ◌&&◌}
use Rattle.thor_value.specs.FiniteMap.{get}
use Rattle.thor_value.specs.declared.names.Ts.{Ts}

if_some : {X : Type 0} (o : Option X) (P : X → Type 0) → ((x : X) → o ≡ Some x → P x) → IfSome o P
if_some None P h = tt
if_some (Some x) P h = h x refl

pub stays_some : (b : Base) (H more : List Entry) → sound b (H ++ more) → (t : Ts) → IfSome (known_by b H t) (λ o. IsSomeAnd (known_by b (H ++ more) t) (λ w. Stays o w))
stays_some b H more sd t = if_some (known_by b H t) (λ o. IsSomeAnd (known_by b (H ++ more) t) (λ w. Stays o w)) (λ o is.
    let y = stays b H more sd t o is in
    subst (λ k. IsSomeAnd k (λ w. Stays o w)) (sym y.1) y.2)

pub stood_some : (b : Base) (H : List Entry) → sound b H → (n : ℕ) → n ≤ length H → (t : Ts) (w : Known) → known_by b H t ≡ Some w → w.place < n → IsSomeAnd (known_by b (take n H) t) (λ o. Stays o w)
stood_some b H sd n h t w is l =
    let y = stood b H sd n h t w is l in
    subst (λ k. IsSomeAnd k (λ o. Stays o w)) (sym y.1) y.2

ended : (f : Fate) (lost : Bool) → lost ≡ true → lapse f lost ≢ Open
ended Open true e f = cc
ended Open Bool.false e f = cc
ended (Committed at) lost e f = cc
ended Aborted lost e f = cc

module _ (b : Base) where
  behind_life : (S : State) (n : ℕ) (t : Ts) (o : Known) → Placed b S → t.repo ≡ b.repo → (k : Option Known) → get S.known t ≡ k → option_map (or_lost b (put b S (Life n)) t) k ≡ Some o → o.fate ≢ Open
  behind_life S n t o h own None known is = cc
  behind_life S n t o h own (Some p) known is =
      let before : known_in b S t ≡ Some (or_lost b S t p) = ap (option_map (or_lost b S t)) known in
      let l : p.place < S.length = (h.fits t (or_lost b S t p) before).below in
      let lost = and_from (nat_eq t.repo b.repo) _ (eq-eqb t.repo b.repo own) (lt-ltb p.place S.length l) in
      subst (λ (w : Known). w.fate ≢ Open) (same_Some _ o is) (ended p.fate _ lost)

  -- a Life leaves none undecided that this repository coordinates
  pub life_ends : (H : List Entry) (n : ℕ) → sound b (H ++ Life n ∷ []) → (t : Ts) (o : Known) → known_by b (H ++ Life n ∷ []) t ≡ Some o → t.repo ≡ b.repo → o.fate ≢ Open
  life_ends H n sd t o is own =
      behind_life (state b H) n t o (placed b H (sound-beginning b H (Life n ∷ []) sd)) own (get (state b H).known t) refl (subst (λ S. known_in b S t ≡ Some o) (state-end b H (Life n)) is)
