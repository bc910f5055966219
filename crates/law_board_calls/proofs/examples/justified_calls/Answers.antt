use Rattle.std.proofs.Common.{◌≡◌, Bool, true, false, ◌||◌, [], ◌∷◌, ◌++◌, refl, inl, inr}
use Rattle.log_entries.specs.declared.entry.Entry.TheVariants.{Decided, Finished, Life}
use Rattle.spec_trace.specs.Trace.{E, M}
use Rattle.spec_trace.specs.declared.mark.Mark.TheVariants as the
use Rattle.law_board_calls.specs.Examples.{at, away, home, part}
use Rattle.law_board_calls.proofs.examples.justified_calls.Goals as goal

either_way : (a b : Bool) → (a || (b || false)) ≡ (b || (a || false))
either_way true true = refl
either_way true false = refl
either_way false true = refl
either_way false false = refl

pub returns : goal.returns
returns c = record {
  session = (home, ([], refl), refl);
  below = ((λ _. (home, ([], refl), (part 5 1 (1 ∷ []), refl, record { who = refl; kind = refl; fresh = refl; answer = refl; participants = λ r. either_way _ _ }))), tt);
  all = (part 5 1 (1 ∷ []), (home, ([], refl), refl), ((away, ([], refl), (part 5 2 (0 ∷ []), refl)), tt));
  committed = (home ++ E (Decided (at 5) true) ∷ [], ([], refl), refl);
  aborted = inl (home ++ E (Decided (at 5) false) ∷ [], ([], refl), refl);
  undecided_at_a_life = inr (inl (home ++ E (Life 2) ∷ [], ([], refl), (home, 2, refl, refl)));
  forgotten = inr (inr (home ++ M (the.Forgot (at 5)) ∷ [], ([], refl), refl));
  finished = (part 5 1 (1 ∷ []), (home, ([], refl), refl), ((away ++ E (Finished (at 5) true) ∷ [], ([], refl), refl), tt));
}
