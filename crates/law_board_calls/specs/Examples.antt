-- Two small traces on which the definitions are computed. Client 3 has session 1 at repository 0 and
-- session 2 at repository 1, and its transaction of time 5 takes part in both.
use Rattle.log_entries.specs.declared.entry.Entry.TheVariants.{Life, Prepared}
use Rattle.log_entries.specs.declared.request.Kind.TheVariants.{App}
use Rattle.log_entries.specs.declared.request.Request.{Request}
use Rattle.spec_trace.specs.Trace.{E, Item, M}
use Rattle.spec_trace.specs.declared.mark.Mark.TheVariants as the
use Rattle.std.specs.Prelude.{List, [], suc, zero, ℕ, ◌∷◌}
use Rattle.thor_value.specs.declared.names.Ts.{Ts}
use Rattle.thor_value.specs.declared.values.Answer.TheVariants.{Ints}

abbrev pub at : ℕ → Ts
at n = record { time = n; repo = 0; life = 1 }

-- the part of the transaction of this time that a session sends, with these other participants
abbrev pub part : ℕ → ℕ → List ℕ → Request
part n session others = record {
  tx = at n;
  who = record { client = 3; index = 1 };
  session = session;
  kind = App;
  epoch = 0;
  upto = 0;
  ros = [];
  writes = [];
  fresh = [];
  answer = Ints [];
  others = others;
}

-- repository 0 before its part is prepared, and behind that
abbrev pub drawn : List Item
drawn = E (Life 1) ∷ M (the.Connected 1 3) ∷ M (the.Drew 1 (at 5)) ∷ []

abbrev pub home : List Item
home = E (Life 1) ∷ M (the.Connected 1 3) ∷ M (the.Drew 1 (at 5)) ∷ E (Prepared (part 5 1 (1 ∷ []))) ∷ []

-- repository 1 likewise
abbrev pub connected : List Item
connected = E (Life 1) ∷ M (the.Connected 2 3) ∷ []

abbrev pub away : List Item
away = E (Life 1) ∷ M (the.Connected 2 3) ∷ E (Prepared (part 5 2 (0 ∷ []))) ∷ []

-- the traces, with these of repositories 0 and 1
abbrev pub two : List Item → List Item → ℕ → List Item
two first second zero = first
two first second (suc zero) = second
two first second (suc (suc n)) = []
