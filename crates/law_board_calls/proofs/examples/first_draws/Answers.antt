use Rattle.std.proofs.Common.{◌≡◌, ℕ, List, [], ◌∷◌, ◌++◌, Some, refl, ap, sym, ◌∙◌, subst, arith}
use Rattle.log_entries.specs.declared.entry.Entry.TheVariants.{Life, Prepared}
use Rattle.spec_trace.specs.Trace.{E, Item, M}
use Rattle.spec_trace.specs.declared.mark.Mark.TheVariants as the
use Rattle.thor_value.specs.declared.names.Ts.{Ts}
use Rattle.law_board_calls.specs.Examples.{at, drawn, part}
use Rattle.law_board_calls.specs.Shown.{client_of}
use Rattle.law_board_calls.proofs.examples.first_draws.Goals as goal

-- the one draw of the trace is that of session 1, at time 5, behind the two items before it
the_draw : (before rest : List Item) (s : ℕ) (t : Ts) → (before ++ M (the.Drew s t) ∷ []) ++ rest ≡ drawn → (s ≡ 1) × (t ≡ at 5) × (client_of 1 before ≡ Some 3)
the_draw [] rest s t is = absurd (cc is)
the_draw (a ∷ []) rest s t is = absurd (cc is)
the_draw (a ∷ b ∷ []) rest s t is =
    let first : a ≡ E (Life 1) = cc is in
    let second : b ≡ M (the.Connected 1 3) = cc is in
    let session : s ≡ 1 = cc is in
    let time : t ≡ at 5 = cc is in
    (session, time, (λ j. client_of 1 (first j ∷ second j ∷ [])))
the_draw (a ∷ b ∷ c ∷ []) rest s t is = absurd (cc is)
the_draw (a ∷ b ∷ c ∷ d ∷ before) rest s t is = absurd (cc is)

pub returns-clause-drawn : goal.returns-clause-drawn
returns-clause-drawn c = (drawn, ([], refl), (E (Life 1) ∷ M (the.Connected 1 3) ∷ [], 1, refl, refl, refl))

pub returns-clause-still : goal.returns-clause-still
returns-clause-still c = (drawn, (E (Prepared (part 5 1 (1 ∷ []))) ∷ [], refl), (E (Life 1) ∷ M (the.Connected 1 3) ∷ [], 1, refl, refl, refl))

pub returns-clause-another_client : goal.returns-clause-another_client
returns-clause-another_client c = λ d.
    let there = d.2 in
    let one = the_draw there.0 d.1.0 there.1 (at 5) (ap (λ (l : List Item). l ++ d.1.0) (sym there.2) ∙ d.1.1) in
    let two : client_of 1 there.0 ≡ Some 2 = subst (λ (s : ℕ). client_of s there.0 ≡ Some 2) one.0 there.4 in
    let same : Some 3 ≡ Some 2 = sym one.2 ∙ two in
    cc same

pub returns-clause-another_time : goal.returns-clause-another_time
returns-clause-another_time c = λ d.
    let there = d.2 in
    let one = the_draw there.0 d.1.0 there.1 (at 6) (ap (λ (l : List Item). l ++ d.1.0) (sym there.2) ∙ d.1.1) in
    let time : (at 6).time ≡ (at 5).time = ap (λ (t : Ts). t.time) one.1 in
    absurd (omega (arith, time))
