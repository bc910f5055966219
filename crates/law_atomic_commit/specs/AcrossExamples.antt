-- Two repositories, on which the definitions are computed. The objects x and y lie at repository 0,
-- z and v at repository 1; each has one field, 0 at first.
use Rattle.law_atomic_commit.specs.Several.{Several}
use Rattle.log_entries.specs.declared.entry.Entry.TheVariants.{Decided, Finished, Life, One, Prepared}
use Rattle.log_entries.specs.declared.entry.Entry.{Entry}
use Rattle.log_entries.specs.declared.request.Kind.TheVariants.{App}
use Rattle.log_entries.specs.declared.request.Request.{Request}
use Rattle.spec_history.specs.History.{Base}
use Rattle.std.specs.Prelude.{List, None, [], false, pos, suc, true, zero, ℕ, ◌∷◌}
use Rattle.thor_value.specs.FiniteMap.{empty, overwrite}
use Rattle.thor_value.specs.Names.{zero_ts}
use Rattle.thor_value.specs.declared.names.Oref.{Oref}
use Rattle.thor_value.specs.declared.names.Ts.{Ts}
use Rattle.thor_value.specs.declared.values.Answer.TheVariants.{Ints}
use Rattle.thor_value.specs.declared.values.Obj.{Obj}
use Rattle.thor_value.specs.declared.values.Value.TheVariants.{Int}

abbrev pub x : Oref
x = record { repo = 0; page = 0; slot = 0 }

abbrev pub y : Oref
y = record { repo = 0; page = 0; slot = 1 }

abbrev pub z : Oref
z = record { repo = 1; page = 0; slot = 0 }

abbrev pub v : Oref
v = record { repo = 1; page = 0; slot = 1 }

abbrev pub box : ℕ → Obj
box n = record { class = 0; ver = 0; fields = Int (pos n) ∷ [] }

abbrev objects_of : ℕ → List (Oref × Obj)
objects_of zero = (x, box 0) ∷ (y, box 0) ∷ []
objects_of (suc n) = (z, box 0) ∷ (v, box 0) ∷ []

abbrev pub base_of : ℕ → Base
base_of r = record {
  repo = r;
  repos = 2;
  life = 0;
  count = 0;
  limit = 1048576;
  objects = overwrite empty (objects_of r);
  top = zero_ts;
  roots = x ∷ y ∷ z ∷ v ∷ [];
  texts = [];
  next_page = 1;
  alone = empty;
  left = empty;
  silence = None;
  tells = true;
}

-- the transaction of this time with repository 0 as its coordinator, and with repository 1
abbrev pub at : ℕ → Ts
at n = record { time = n; repo = 0; life = 1 }

abbrev pub abroad : ℕ → Ts
abroad n = record { time = n; repo = 1; life = 1 }

-- t reads these, and writes k at the one name
abbrev pub setting : Ts → List Oref → Oref → ℕ → List ℕ → Request
setting t ros name k others = record {
  tx = t;
  who = record { client = 1; index = 1 };
  session = 1;
  kind = App;
  epoch = 0;
  upto = 0;
  ros = ros;
  writes = (name, box k) ∷ [];
  fresh = [];
  answer = Ints [];
  others = others;
}

abbrev histories_of : List Entry → List Entry → ℕ → List Entry
histories_of H K zero = H
histories_of H K (suc zero) = K
histories_of H K (suc (suc n)) = []

abbrev two : List Entry → List Entry → Several
two H K = record { repos = 2; base = base_of; history = histories_of H K }

-- 1 writes x and z, 2 writes y and v, and is prepared at repository 1 before 1 is. 1 commits and 2 is
-- aborted; 3 commits alone at repository 0, where it read what 1 wrote. Repository 1 hasn't heard of
-- the commit of 1.
abbrev pub crossing : Several
crossing = two
    (Life 1 ∷ Prepared (setting (at 1) (x ∷ []) x 5 (1 ∷ [])) ∷ Prepared (setting (at 2) (y ∷ []) y 7 (1 ∷ [])) ∷ Decided (at 1) true ∷ Decided (at 2) false ∷ One (setting (at 3) (x ∷ y ∷ []) y 8 []) ∷ [])
    (Life 1 ∷ Prepared (setting (at 2) (v ∷ []) v 7 (0 ∷ [])) ∷ Prepared (setting (at 1) (z ∷ []) z 6 (0 ∷ [])) ∷ Finished (at 2) false ∷ [])

-- 1 was aborted by its coordinator and committed by repository 1, where 2 read what it wrote.
abbrev pub parted : Several
parted = two
    (Life 1 ∷ Prepared (setting (at 1) (x ∷ []) x 5 (1 ∷ [])) ∷ Decided (at 1) false ∷ [])
    (Life 1 ∷ Prepared (setting (at 1) (z ∷ []) z 6 (0 ∷ [])) ∷ Finished (at 1) true ∷ One (setting (abroad 2) (z ∷ v ∷ []) v 9 []) ∷ [])

-- 1 was committed by its coordinator and aborted by repository 1, where 2 read what was before.
abbrev pub dropped : Several
dropped = two
    (Life 1 ∷ Prepared (setting (at 1) (x ∷ []) x 5 (1 ∷ [])) ∷ Decided (at 1) true ∷ [])
    (Life 1 ∷ Prepared (setting (at 1) (z ∷ []) z 6 (0 ∷ [])) ∷ Finished (at 1) false ∷ One (setting (abroad 2) (z ∷ v ∷ []) v 9 []) ∷ [])

-- 1 committed at its coordinator before repository 1 had prepared it; 2 read there what was before.
abbrev pub hasty : Several
hasty = two
    (Life 1 ∷ Prepared (setting (at 1) (x ∷ []) x 5 (1 ∷ [])) ∷ Decided (at 1) true ∷ [])
    (Life 1 ∷ One (setting (abroad 2) (z ∷ v ∷ []) v 9 []) ∷ [])

-- 1 stands committed at repository 1 and its coordinator doesn't know it.
abbrev pub unheard : Several
unheard = two (Life 1 ∷ [])
    (Life 1 ∷ Prepared (setting (at 1) (z ∷ []) z 6 (0 ∷ [])) ∷ Finished (at 1) true ∷ One (setting (abroad 2) (z ∷ v ∷ []) v 9 []) ∷ [])
