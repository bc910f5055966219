-- The end of a whole log: what stands before it, and what may be put there.
use Rattle.std.proofs.Common.{◌≡◌, ◌≢◌, ℕ, ◌+◌, ◌<◌, Bool, true, false, ◌==◌, if◌then◌else◌, List, [], ◌∷◌, ◌++◌, length, take, drop, get_or, slice_index, sum_by, Some, None, Result, Ok, Err, refl, ap, sym, ◌∙◌, subst, arith, length-append, append_assoc, take-append-drop, inl, inr, ◌⊎◌}
use Rattle.std.proofs.lemmas.List.{length-take-le, length-take, length-drop, get_or-append-add}
use Rattle.std.proofs.lemmas.List.Sums.{sum_by-cons}
use Rattle.std.proofs.lemmas.Bool.{cases_eq}
use Rattle.std.proofs.lemmas.Bool.Decides.{nat_tests}
use Rattle.log_frame.specs.Log.{Opened, Stands, u32_in, u64_in, is_whole, body_in, with_first, bodies_from, opened_by, read_open, read_log, end_of}
use Rattle.log_frame.proofs.Frames.{prepend, take_add, u32_taken, framed, Unframed, unframed, bodies_skip, bodies_closed, bodies_open, prepend_none, prepend_first}
use Rattle.log_frame.proofs.Headers.{read_open_whole, header_read, u64_taken}

-- how far bodies reach from the gate of the first
abbrev pub reach : List (List ℕ) → ℕ
reach bodies = sum_by (λ (body : List ℕ). 5 + length body) bodies

-- Records that end in these bytes: a gate that isn't open stands behind them, and before anything else in
-- its place they are read as well.
pub record Ends (bodies : List (List ℕ)) (place : ℕ) (bytes : List ℕ) : Type 0 where
  pub within : reach bodies < length bytes
  pub shut : slice_index bytes (reach bodies) ≢ 1
  pub again : (tail : List ℕ) → 0 < length tail → bodies_from 0 place (take (reach bodies) bytes ++ tail) ≡ prepend bodies (bodies_from 0 (place + reach bodies) tail)

ends_none : (place gate : ℕ) (rest : List ℕ) → gate ≢ 1 → Ends [] place (gate ∷ rest)
ends_none place gate rest shut = record {
  within = omega arith;
  shut = shut;
  again = λ tail more. let e : place ≡ place + 0 = omega arith in ap (λ (k : ℕ). bodies_from 0 k tail) e ∙ sym (prepend_none (bodies_from 0 (place + 0) tail));
}

-- one record before those that end
ends_more : (place : ℕ) (rest body behind : List ℕ) (bodies : List (List ℕ)) → rest ≡ take 4 rest ++ (body ++ behind) → length (take 4 rest) ≡ 4 → u32_in (take 4 rest) ≡ length body → Ends bodies (place + (5 + length body)) behind → Ends (body ∷ bodies) place (1 ∷ rest)
ends_more place rest body behind bodies split four number more =
    let sums : reach (body ∷ bodies) ≡ 5 + length body + reach bodies = sum_by-cons (λ (b : List ℕ). 5 + length b) body bodies in
    let front : List ℕ = 1 ∷ (take 4 rest ++ body) in
    let size : length front ≡ 5 + length body = omega (arith, length-append (take 4 rest) body, four) in
    let whole : 1 ∷ rest ≡ front ++ behind = ap (λ (l : List ℕ). 1 ∷ l) (split ∙ sym (append_assoc (take 4 rest) body behind)) in
    let far : reach (body ∷ bodies) ≡ length front + reach bodies = omega (arith, sums, size) in
    let taken : take (reach (body ∷ bodies)) (1 ∷ rest) ≡ front ++ take (reach bodies) behind =
    ap (λ (k : ℕ). take k (1 ∷ rest)) far ∙ ap (take (length front + reach bodies)) whole ∙ take_add front behind (reach bodies) in
    record {
      within = omega (arith, sums, more.within, ap length whole, length-append front behind, size);
      shut = λ open_gate. more.shut (sym (get_or-append-add front behind (reach bodies) 0) ∙ ap (λ (l : List ℕ). get_or l (length front + reach bodies) 0) (sym whole) ∙ ap (λ (k : ℕ). get_or (1 ∷ rest) k 0) (sym far) ∙ open_gate);
      again = λ tail some.
          let inner = take (reach bodies) behind ++ tail in
          let place_is : place + (5 + length body) + reach bodies ≡ place + reach (body ∷ bodies) = omega (arith, sums) in
          let frame = framed (take 4 rest) body inner four number (omega (arith, length-append (take (reach bodies) behind) tail, some)) in
          ap (λ (l : List ℕ). bodies_from 0 place (l ++ tail)) taken
          ∙ ap (bodies_from 0 place) (append_assoc front (take (reach bodies) behind) tail)
          ∙ ap (λ (l : List ℕ). bodies_from 0 place (1 ∷ l)) (append_assoc (take 4 rest) body inner)
          ∙ bodies_open place (take 4 rest ++ (body ++ inner)) body inner frame
          ∙ ap (with_first body) (more.again tail some)
          ∙ prepend_first body bodies (bodies_from 0 (place + (5 + length body) + reach bodies) tail)
          ∙ ap (λ (k : ℕ). prepend (body ∷ bodies) (bodies_from 0 k tail)) place_is;
    }

-- Records that are read end.
pub ends : (bodies : List (List ℕ)) (place : ℕ) (bytes : List ℕ) → 0 < length bytes → bodies_from 0 place bytes ≡ Ok bodies → Ends bodies place bytes
ends bodies place [] some read = absurd (omega arith)
ends [] place (gate ∷ rest) some read = by_gate (cases_eq gate 1)
  where
    none_first : (body : List ℕ) (more : Result (List (List ℕ)) ℕ) → with_first body more ≢ Ok []
    none_first body (Ok more) is = cc
    none_first body (Err at) is = cc

    open_not : (whole : Bool) → (if whole then with_first (body_in rest) (bodies_from (4 + u32_in rest) (place + 1) rest) else Err place) ≢ Ok []
    open_not true is = none_first _ _ is
    open_not false is = cc

    by_gate : (gate ≡ 1) ⊎ (gate ≡ 1 → ⊥) → Ends [] place (gate ∷ rest)
    by_gate (inr shut) = ends_none place gate rest shut
    by_gate (inl is) = absurd (open_not (is_whole rest) (ap (λ (g : ℕ). bodies_from 0 place (g ∷ rest)) (sym is) ∙ read))
ends (body ∷ bodies) place (gate ∷ rest) some read = by_gate (λ p b. ends bodies p b) (cases_eq gate 1)
  where
    first_is : (one : List ℕ) (more : Result (List (List ℕ)) ℕ) → with_first one more ≡ Ok (body ∷ bodies) → (one ≡ body) × (more ≡ Ok bodies)
    first_is one (Ok more) is = (cc, cc)
    first_is one (Err at) is = cc

    by_whole : ((p : ℕ) (b : List ℕ) → 0 < length b → bodies_from 0 p b ≡ Ok bodies → Ends bodies p b) → (whole : Bool) → is_whole rest ≡ whole → (if whole then with_first (body_in rest) (bodies_from (4 + u32_in rest) (place + 1) rest) else Err place) ≡ Ok (body ∷ bodies) → Ends (body ∷ bodies) place (1 ∷ rest)
    by_whole rec false cut is = cc
    by_whole rec true whole is =
        let parts = unframed rest whole in
        let here = first_is (body_in rest) (bodies_from (4 + u32_in rest) (place + 1) rest) is in
        let size : length body ≡ u32_in rest = sym (ap length here.0) ∙ parts.size in
        let place_is : place + 1 + (4 + u32_in rest) ≡ place + (5 + length body) = omega (arith, size) in
        let behind : List ℕ = drop (4 + u32_in rest) rest in
        let read_on : bodies_from 0 (place + (5 + length body)) (drop (4 + u32_in rest) rest) ≡ Ok bodies =
        ap (λ (k : ℕ). bodies_from 0 k (drop (4 + u32_in rest) rest)) (sym place_is) ∙ sym (bodies_skip (4 + u32_in rest) (place + 1) rest) ∙ here.1 in
        ends_more place rest body (drop (4 + u32_in rest) rest) bodies
        (parts.split ∙ ap (λ (l : List ℕ). take 4 rest ++ (l ++ drop (4 + u32_in rest) rest)) here.0)
        parts.four (u32_taken rest ∙ sym size)
        (rec (place + (5 + length body)) (drop (4 + u32_in rest) rest) parts.more read_on)

    by_gate : ((p : ℕ) (b : List ℕ) → 0 < length b → bodies_from 0 p b ≡ Ok bodies → Ends bodies p b) → (gate ≡ 1) ⊎ (gate ≡ 1 → ⊥) → Ends (body ∷ bodies) place (gate ∷ rest)
    by_gate rec (inr shut) = let no : Ok [] ≡ Ok (body ∷ bodies) = sym (bodies_closed place gate rest shut) ∙ read in cc
    by_gate rec (inl is) = subst (λ (g : ℕ). Ends (body ∷ bodies) place (g ∷ rest)) (sym is) (by_whole rec (is_whole rest) refl (ap (λ (g : ℕ). bodies_from 0 place (g ∷ rest)) (sym is) ∙ read))

pub opened_by_ok : (sequence : ℕ) (head : List ℕ) (read : Result (List (List ℕ)) ℕ) (opened : Opened) → opened_by sequence head read ≡ Ok opened → (opened ≡ record { sequence = sequence; head = head; bodies = opened.bodies }) × (read ≡ Ok opened.bodies)
opened_by_ok sequence head (Ok bodies) opened is = let e : record { sequence = sequence; head = head; bodies = bodies } ≡ opened = cc in (by_parts e, ap (λ (o : Opened). Ok o.bodies) e)
  where
    by_parts : record { sequence = sequence; head = head; bodies = bodies } ≡ opened → opened ≡ record { sequence = sequence; head = head; bodies = opened.bodies }
    by_parts e = sym e ∙ ap (λ (o : Opened). record { sequence = sequence; head = head; bodies = o.bodies }) e
opened_by_ok sequence head (Err place) opened is = cc

-- What stands at the end of a whole log.
pub record LogEnds (opened : Opened) (bytes : List ℕ) : Type 0 where
  pub within : end_of opened < length bytes
  pub shut : slice_index bytes (end_of opened) ≢ 1
  pub again : (tail : List ℕ) → 0 < length tail → read_log (take (end_of opened) bytes ++ tail) ≡ Some (opened_by opened.sequence opened.head (prepend opened.bodies (bodies_from 0 (end_of opened) tail)))

-- a log of these parts ends where its records end
log_ends_by : (eight four head behind : List ℕ) (opened : Opened) → length eight ≡ 8 → length four ≡ 4 → u32_in four ≡ length head → Ends opened.bodies (13 + length head) behind → opened ≡ record { sequence = u64_in eight; head = head; bodies = opened.bodies } → LogEnds opened (1 ∷ (eight ++ (four ++ (head ++ behind))))
log_ends_by eight four head behind opened size four_size number more is =
    let front : List ℕ = 1 ∷ (eight ++ (four ++ head)) in
    let front_size : length front ≡ 13 + length head = omega (arith, length-append eight (four ++ head), length-append four head, size, four_size) in
    let whole : 1 ∷ (eight ++ (four ++ (head ++ behind))) ≡ front ++ behind =
    ap (λ (l : List ℕ). 1 ∷ l) (ap (λ (l : List ℕ). eight ++ l) (sym (append_assoc four head behind)) ∙ sym (append_assoc eight (four ++ head) behind)) in
    let far : end_of opened ≡ length front + reach opened.bodies = omega (arith, front_size, ap (λ (o : Opened). length o.head) is) in
    let taken : take (end_of opened) (1 ∷ (eight ++ (four ++ (head ++ behind)))) ≡ front ++ take (reach opened.bodies) behind =
    ap (λ (k : ℕ). take k (1 ∷ (eight ++ (four ++ (head ++ behind))))) far ∙ ap (take (length front + reach opened.bodies)) whole ∙ take_add front behind (reach opened.bodies) in
    record {
      within = omega (arith, far, more.within, ap length whole, length-append front behind);
      shut = λ open_gate. more.shut (sym (get_or-append-add front behind (reach opened.bodies) 0) ∙ ap (λ (l : List ℕ). get_or l (length front + reach opened.bodies) 0) (sym whole) ∙ ap (λ (k : ℕ). get_or (1 ∷ (eight ++ (four ++ (head ++ behind)))) k 0) (sym far) ∙ open_gate);
      again = λ tail some.
          let inner : List ℕ = take (reach opened.bodies) behind ++ tail in
          let place_is : 13 + length head + reach opened.bodies ≡ end_of opened = omega (arith, far, front_size) in
          ap (λ (l : List ℕ). read_log (l ++ tail)) taken
          ∙ ap read_log (append_assoc front (take (reach opened.bodies) behind) tail)
          ∙ ap (λ (l : List ℕ). read_log (1 ∷ l)) (append_assoc eight (four ++ head) inner ∙ ap (λ (l : List ℕ). eight ++ l) (append_assoc four head inner))
          ∙ header_read eight four head inner size four_size number (omega (arith, length-append (take (reach opened.bodies) behind) tail, some))
          ∙ ap (λ r. Some (opened_by (u64_in eight) head r)) (more.again tail some)
          ∙ ap (λ (k : ℕ). Some (opened_by (u64_in eight) head (prepend opened.bodies (bodies_from 0 k tail)))) place_is
          ∙ sym (ap (λ (o : Opened). Some (opened_by o.sequence o.head (prepend opened.bodies (bodies_from 0 (end_of opened) tail)))) is);
    }

log_ends_open : (rest : List ℕ) (opened : Opened) → read_open rest ≡ Ok opened → LogEnds opened (1 ∷ rest)
log_ends_open rest opened read = subst (λ (l : List ℕ). LogEnds opened (1 ∷ l)) (sym split) (log_ends_by (take 8 rest) (take 4 (drop 8 rest)) (body_in (drop 8 rest)) (drop (4 + u32_in (drop 8 rest)) (drop 8 rest)) opened eight_size parts.four (u32_taken (drop 8 rest) ∙ sym parts.size) records is)
  where
    there : (whole : Bool) → is_whole (drop 8 rest) ≡ whole → (if whole then opened_by (u64_in rest) (body_in (drop 8 rest)) (bodies_from (12 + u32_in (drop 8 rest)) 1 rest) else Err 0) ≡ Ok opened → is_whole (drop 8 rest) ≡ true
    there true whole found = whole
    there false cut found = cc

    is_there : is_whole (drop 8 rest) ≡ true
    is_there = there (is_whole (drop 8 rest)) refl read

    parts : Unframed (drop 8 rest)
    parts = unframed (drop 8 rest) is_there

    eight_size : length (take 8 rest) ≡ 8
    eight_size = length-take-le 8 rest (omega (arith, length-drop 8 rest, length-take 4 (drop 8 rest), parts.four))

    split : rest ≡ take 8 rest ++ (take 4 (drop 8 rest) ++ (body_in (drop 8 rest) ++ drop (4 + u32_in (drop 8 rest)) (drop 8 rest)))
    split = sym (take-append-drop 8 rest) ∙ ap (λ (l : List ℕ). take 8 rest ++ l) parts.split

    found : (opened ≡ record { sequence = u64_in rest; head = body_in (drop 8 rest); bodies = opened.bodies }) × (bodies_from 0 (9 + (4 + u32_in (drop 8 rest))) (drop (4 + u32_in (drop 8 rest)) (drop 8 rest)) ≡ Ok opened.bodies)
    found = opened_by_ok (u64_in rest) (body_in (drop 8 rest)) _ opened (sym (read_open_whole rest (drop 8 rest) (4 + u32_in (drop 8 rest)) (u64_in rest) (body_in (drop 8 rest)) refl is_there refl refl refl) ∙ read)

    place_is : 9 + (4 + u32_in (drop 8 rest)) ≡ 13 + length (body_in (drop 8 rest))
    place_is = omega (arith, parts.size)

    records : Ends opened.bodies (13 + length (body_in (drop 8 rest))) (drop (4 + u32_in (drop 8 rest)) (drop 8 rest))
    records = ends opened.bodies (13 + length (body_in (drop 8 rest))) (drop (4 + u32_in (drop 8 rest)) (drop 8 rest)) parts.more (ap (λ (k : ℕ). bodies_from 0 k (drop (4 + u32_in (drop 8 rest)) (drop 8 rest))) (sym place_is) ∙ found.1)

    is : opened ≡ record { sequence = u64_in (take 8 rest); head = body_in (drop 8 rest); bodies = opened.bodies }
    is = found.0 ∙ ap (λ (k : ℕ). record { sequence = k; head = body_in (drop 8 rest); bodies = opened.bodies }) (sym (u64_taken rest))

-- Whole logs end.
pub log_ends : (bytes : List ℕ) (opened : Opened) → Stands bytes opened → LogEnds opened bytes
log_ends [] opened stands = cc
log_ends (gate ∷ []) opened stands = cc
log_ends (gate ∷ byte ∷ rest) opened stands = by_gate (cases_eq gate 1)
  where
    some_is : (test : Bool) → (if test then Some (read_open (byte ∷ rest)) else None) ≡ Some (Ok opened) → read_open (byte ∷ rest) ≡ Ok opened
    some_is true is = cc
    some_is false is = cc

    tested : (test : Bool) → test ≡ false → (if test then Some (read_open (byte ∷ rest)) else None) ≡ Some (Ok opened) → ⊥
    tested true is found = cc
    tested false is found = cc

    by_gate : (gate ≡ 1) ⊎ (gate ≡ 1 → ⊥) → LogEnds opened (gate ∷ byte ∷ rest)
    by_gate (inl is) = subst (λ (g : ℕ). LogEnds opened (g ∷ byte ∷ rest)) (sym is) (log_ends_open (byte ∷ rest) opened (some_is (gate == 1) stands))
    by_gate (inr shut) = absurd (tested (gate == 1) (grind (arith, nat_tests)) stands)
