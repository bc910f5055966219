-- What a crash leaves in each of the two steps of an append.
use Rattle.std.proofs.Common.{◌≡◌, ◌≢◌, ℕ, ◌+◌, ◌<◌, ◌^◌, List, [], ◌∷◌, ◌++◌, length, take, drop, slice_index, Some, Ok, refl, ap, sym, ◌∙◌, subst, arith, length-append, append_assoc, inl, inr}
use Rattle.std.proofs.lemmas.List.{append-nil, take_at, drop_at, length-take-le, take_more}
use Rattle.std.proofs.lemmas.List.Sums.{sum_by-append}
use Rattle.std.proofs.lemmas.Bool.{cases_eq}
use Rattle.std.specs.Int.{w32, to_be_bytes}
use Rattle.disk_trait.specs.Disks.{Torn, written}
use Rattle.log_frame.specs.Log.{Opened, Stands, with_body, IsBeforeOrAfter, bodies_from, opened_by, with_first, read_log, end_of, closed_record}
use Rattle.log_frame.proofs.Frames.{prepend, framed, bodies_closed, bodies_open, u32_spelled}
use Rattle.log_frame.proofs.Ends.{LogEnds, log_ends}
use Rattle.log_frame.proofs.Tears.{torn_behind_place, torn_byte_place, written_within}

module _ (bytes : List ℕ) (opened : Opened) (stands : Stands bytes opened) where
  log_end : LogEnds opened bytes
  log_end = log_ends bytes opened stands

  pub gate_there : end_of opened < length bytes
  gate_there = log_end.within

  -- a gate that isn't open in its place
  closed_again : (gate : ℕ) (rest : List ℕ) → gate ≢ 1 → Stands (take (end_of opened) bytes ++ (gate ∷ rest)) opened
  closed_again gate rest shut =
      log_end.again (gate ∷ rest) (omega arith)
      ∙ ap (λ r. Some (opened_by opened.sequence opened.head (prepend opened.bodies r))) (bodies_closed (end_of opened) gate rest shut)
      ∙ ap (λ (l : List (List ℕ)). Some (Ok (record opened { bodies = l }))) (append-nil opened.bodies)

  -- behind the gate anything may stand
  pub torn_behind : (n : ℕ) (image : List ℕ) → Torn (end_of opened + 1) n bytes image → Stands image opened
  torn_behind n image torn =
      ap read_log (torn_behind_place (end_of opened) n bytes image torn gate_there)
      ∙ closed_again (slice_index bytes (end_of opened)) (drop (end_of opened + 1) image) log_end.shut

  module _ (body : List ℕ) (fits : length body < 2 ^ 32) where
    -- what stands behind the new record
    behind : List ℕ
    behind = drop (end_of opened + 1 + length (closed_record body)) bytes

    -- the log with a record and any gate before it
    abbrev pub gated : ℕ → List ℕ → List ℕ
    gated gate rest = take (end_of opened) bytes ++ (gate ∷ (closed_record body ++ rest))

    open_again : (rest : List ℕ) → Stands (take (end_of opened) bytes ++ (1 ∷ (closed_record body ++ rest))) (with_body opened body)
    open_again rest =
        let four = to_be_bytes w32 (length body) in
        let whole : closed_record body ++ rest ≡ to_be_bytes w32 (length body) ++ (body ++ (0 ∷ rest)) =
        append_assoc (to_be_bytes w32 (length body)) (body ++ 0 ∷ []) rest ∙ ap (λ (l : List ℕ). to_be_bytes w32 (length body) ++ l) (append_assoc body (0 ∷ []) rest) in
        let frame = framed (to_be_bytes w32 (length body)) body (0 ∷ rest) refl (u32_spelled (length body) fits) (omega arith) in
        log_end.again (1 ∷ (closed_record body ++ rest)) (omega arith)
        ∙ ap (λ (l : List ℕ). Some (opened_by opened.sequence opened.head (prepend opened.bodies (bodies_from 0 (end_of opened) (1 ∷ l))))) whole
        ∙ ap (λ r. Some (opened_by opened.sequence opened.head (prepend opened.bodies r))) (bodies_open (end_of opened) (to_be_bytes w32 (length body) ++ (body ++ (0 ∷ rest))) body (0 ∷ rest) frame)
        ∙ ap (λ r. Some (opened_by opened.sequence opened.head (prepend opened.bodies (with_first body r)))) (bodies_closed (end_of opened + (5 + length body)) 0 rest (omega arith))

    any_gate : (gate : ℕ) (rest : List ℕ) → IsBeforeOrAfter opened body (take (end_of opened) bytes ++ (gate ∷ (closed_record body ++ rest)))
    any_gate gate rest = elim (cases_eq gate 1) [
      | inl is ↦ inr (ap (λ (g : ℕ). read_log (take (end_of opened) bytes ++ (g ∷ (closed_record body ++ rest)))) is ∙ open_again rest)
      | inr shut ↦ inl (closed_again gate (closed_record body ++ rest) shut)
    ]

    -- after the first write
    staged_is : written bytes (end_of opened + 1) (closed_record body) ≡ take (end_of opened) bytes ++ (slice_index bytes (end_of opened) ∷ (closed_record body ++ drop (end_of opened + 1 + length (closed_record body)) bytes))
    staged_is =
        let rest : List ℕ = closed_record body ++ drop (end_of opened + 1 + length (closed_record body)) bytes in
        written_within bytes (end_of opened + 1) (closed_record body) (omega (arith, gate_there))
        ∙ ap (λ (l : List ℕ). l ++ (closed_record body ++ drop (end_of opened + 1 + length (closed_record body)) bytes)) (take_more bytes (end_of opened) 0 gate_there)
        ∙ append_assoc (take (end_of opened) bytes) (slice_index bytes (end_of opened) ∷ []) (closed_record body ++ drop (end_of opened + 1 + length (closed_record body)) bytes)

    front_size : length (take (end_of opened) bytes) ≡ end_of opened
    front_size = length-take-le (end_of opened) bytes (omega (arith, gate_there))

    staged_front : take (end_of opened) (written bytes (end_of opened + 1) (closed_record body)) ≡ take (end_of opened) bytes
    staged_front = ap (take (end_of opened)) staged_is ∙ take_at (take (end_of opened) bytes) _ (end_of opened) front_size

    staged_back : drop (end_of opened + 1) (written bytes (end_of opened + 1) (closed_record body)) ≡ closed_record body ++ drop (end_of opened + 1 + length (closed_record body)) bytes
    staged_back =
        ap (drop (end_of opened + 1)) (staged_is ∙ sym (append_assoc (take (end_of opened) bytes) (slice_index bytes (end_of opened) ∷ []) _))
        ∙ drop_at (take (end_of opened) bytes ++ (slice_index bytes (end_of opened) ∷ [])) _ (end_of opened + 1) (omega (arith, front_size, length-append (take (end_of opened) bytes) (slice_index bytes (end_of opened) ∷ [])))

    pub staged_there : end_of opened < length (written bytes (end_of opened + 1) (closed_record body))
    staged_there = omega (arith, ap length staged_is, length-append (take (end_of opened) bytes) (slice_index bytes (end_of opened) ∷ (closed_record body ++ drop (end_of opened + 1 + length (closed_record body)) bytes)), front_size)

    -- the gate may be torn as well
    pub torn_gate : (image : List ℕ) → Torn (end_of opened) 1 (written bytes (end_of opened + 1) (closed_record body)) image → IsBeforeOrAfter opened body image
    torn_gate image torn =
        let is : image ≡ take (end_of opened) bytes ++ (slice_index image (end_of opened) ∷ (closed_record body ++ drop (end_of opened + 1 + length (closed_record body)) bytes)) =
        torn_byte_place (end_of opened) (written bytes (end_of opened + 1) (closed_record body)) image torn staged_there
        ∙ ap (λ (l : List ℕ). l ++ (slice_index image (end_of opened) ∷ drop (end_of opened + 1) (written bytes (end_of opened + 1) (closed_record body)))) staged_front
        ∙ ap (λ (l : List ℕ). take (end_of opened) bytes ++ (slice_index image (end_of opened) ∷ l)) staged_back in
        subst (IsBeforeOrAfter opened body) (sym is) (any_gate (slice_index image (end_of opened)) (drop (end_of opened + 1 + length (closed_record body)) bytes))

    -- after the second write
    pub done_stands : Stands (written (written bytes (end_of opened + 1) (closed_record body)) (end_of opened) (1 ∷ [])) (with_body opened body)
    done_stands =
        ap read_log (
        written_within (written bytes (end_of opened + 1) (closed_record body)) (end_of opened) (1 ∷ []) (omega (arith, staged_there))
        ∙ ap (λ (l : List ℕ). l ++ (1 ∷ drop (end_of opened + 1) (written bytes (end_of opened + 1) (closed_record body)))) staged_front
        ∙ ap (λ (l : List ℕ). take (end_of opened) bytes ++ (1 ∷ l)) staged_back
        ) ∙ open_again (drop (end_of opened + 1 + length (closed_record body)) bytes)

-- the gate behind one record more
pub end_more : (opened : Opened) (body : List ℕ) → end_of (with_body opened body) ≡ end_of opened + (5 + length body)
end_more opened body = omega (arith, sum_by-append (λ (b : List ℕ). 5 + length b) opened.bodies (body ∷ []))

pub record_size : (body : List ℕ) → length (closed_record body) ≡ 5 + length body
record_size body = omega (arith, length-append (to_be_bytes w32 (length body)) (body ++ 0 ∷ []), length-append body (0 ∷ []))
