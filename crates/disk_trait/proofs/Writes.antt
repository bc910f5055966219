-- What a write in memory does to the bytes.
use Rattle.std.proofs.Common.{◌≡◌, ℕ, ◌+◌, ◌-◌, ◌≤◌, min, List, [], ◌++◌, length, take, drop, replicate, refl, ap, sym, ◌∙◌, arith, inl, inr, length-append, length-drop, append_assoc, take-append-drop, add-zero}
use Rattle.std.proofs.lemmas.List.{append-nil, take_all, drop_all, take-append-le, drop_at, take_at, length-take-le, drop-drop, length-replicate}
use Rattle.std.proofs.lemmas.Bool.{cases_lt}
use Rattle.disk_trait.specs.Disks.{written}
use Rattle.disk_trait.specs.Write.{grown, over, inside, change_of}
use Rattle.disk_trait.specs.Change.{put_back}
use Rattle.disk_trait.specs.Kept.{Kept, noted, WroteTo}
use Rattle.disk_trait.specs.declared.record.Did.TheVariants.{Wrote}

-- a write inside
pub written_inside : (old : List ℕ) (at : ℕ) (put : List ℕ) → at ≤ length old → written old at put ≡ take at old ++ put ++ drop (at + length put) old
written_inside old at put within =
    let none : at - length old ≡ 0 = omega arith in
    rw (none, append-nil old) refl

past_the_end : (old : List ℕ) (at : ℕ) (put : List ℕ) → length old ≤ at → over (grown old at put) (length old) (take 0 put) ≡ written old at put
past_the_end old at put past =
    let padded = old ++ replicate (at - length old) 0 in
    let no_skip : length old - at ≡ 0 = omega arith in
    let whole : length padded ≡ at = omega (arith, length-append old (replicate (at - length old) 0), length-replicate {A = ℕ} (at - length old) 0) in
    let left : over (padded ++ put) (length old) [] ≡ padded ++ put = simp (append-nil, add-zero, take-append-drop) in
    let right : written old at put ≡ padded ++ put = rw (take_all at padded (omega (arith, whole)), drop_all (at + length put) old (omega arith)) (append-nil (padded ++ put)) in
    rw no_skip (left ∙ sym right)

inside_the_end : (old : List ℕ) (at : ℕ) (put : List ℕ) → at + length put ≤ length old → over (grown old at put) at (take (length put) put) ≡ written old at put
inside_the_end old at put inside =
    let no_gap : at - length old ≡ 0 = omega arith in
    let none_left : drop (length old - at) put ≡ [] = drop_all (length old - at) put (omega arith) in
    rw (none_left, no_gap, take_all (length put) put (omega arith)) (simp append-nil)

over_the_end : (old : List ℕ) (at : ℕ) (put : List ℕ) → at ≤ length old → length old ≤ at + length put → over (grown old at put) at (take (length old - at) put) ≡ written old at put
over_the_end old at put within over_end =
    let k = length old - at in
    let no_gap : at - length old ≡ 0 = omega arith in
    let long : at + length (take k put) ≡ length old = omega (arith, length-take-le k put (omega arith)) in
    let front : take at (old ++ [] ++ drop k put) ≡ take at old = rw (append-nil old) (take-append-le at old (drop k put) within) in
    let back : drop (length old) (old ++ [] ++ drop k put) ≡ drop k put = rw (append-nil old) (drop_at old (drop k put) (length old) refl) in
    let none : drop (at + length put) old ≡ [] = drop_all (at + length put) old over_end in
    rw (long, no_gap, front, back, none, append-nil old) (append_assoc (take at old) (take k put) (drop k put) ∙ ap (λ (l : List ℕ). take at old ++ l) (take-append-drop k put) ∙ sym (append-nil (take at old ++ put)))

-- the bytes that grew, written over where some stood before, are those written
pub grown_written : (old : List ℕ) (at : ℕ) (put : List ℕ) → over (grown old at put) (min at (length old)) (take (inside old at (length put)) put) ≡ written old at put
grown_written old at put = elim (cases_lt at (length old)) [
  | inr past ↦
      let from : min at (length old) ≡ length old = omega arith in
      let inside : min (at + length put) (length old) - length old ≡ 0 = omega arith in
      rw (from, inside) (past_the_end old at put past)
  | inl within ↦
      let from : min at (length old) ≡ at = omega arith in
      elim (cases_lt (at + length put) (length old)) [
        | inr over_end ↦
            let inside : min (at + length put) (length old) - at ≡ length old - at = omega arith in
            rw (from, inside) (over_the_end old at put (omega arith) over_end)
        | inl in_end ↦
            let inside : min (at + length put) (length old) - at ≡ length put = omega arith in
            rw (from, inside) (inside_the_end old at put (omega arith))
      ]
]

-- what stood in a range of the old bytes, and what stands behind the range
rest_of : (old : List ℕ) (at n : ℕ) → at ≤ length old → take (min (at + n) (length old) - at) (drop at old) ++ drop (at + n) old ≡ drop at old
rest_of old at n within = elim (cases_lt (at + n) (length old)) [
  | inl ends ↦
      let size : min (at + n) (length old) - at ≡ n = omega arith in
      rw (size, ← (drop-drop n at old)) (take-append-drop n (drop at old))
  | inr over_end ↦
      let none : drop (at + n) old ≡ [] = drop_all (at + n) old over_end in
      let all : take (min (at + n) (length old) - at) (drop at old) ≡ drop at old = take_all _ (drop at old) (omega (arith, length-drop at old)) in
      rw (none, all) (append-nil (drop at old))
]

back_inside : (old : List ℕ) (at : ℕ) (put : List ℕ) → at ≤ length old → take at (written old at put) ++ take (min (at + length put) (length old) - at) (drop at old) ++ drop (at + length put) (written old at put) ≡ old
back_inside old at put within =
    let front : take at (take at old ++ put ++ drop (at + length put) old) ≡ take at old = rw (append_assoc (take at old) put (drop (at + length put) old)) (take_at (take at old) (put ++ drop (at + length put) old) at (length-take-le at old within)) in
    let back : drop (at + length put) (take at old ++ put ++ drop (at + length put) old) ≡ drop (at + length put) old = drop_at (take at old ++ put) (drop (at + length put) old) (at + length put) (omega (arith, length-append (take at old) put, length-take-le at old within)) in
    rw (written_inside old at put within, front, back) (append_assoc (take at old) _ _ ∙ ap (λ (l : List ℕ). take at old ++ l) (rest_of old at (length put) within) ∙ take-append-drop at old)

back_past : (old : List ℕ) (at : ℕ) (put : List ℕ) → length old ≤ at → take (length old) (written old at put) ++ [] ++ drop (at + length put) (written old at put) ≡ old
back_past old at put past =
    let padded = old ++ replicate (at - length old) 0 in
    let whole : length padded ≡ at = omega (arith, length-append old (replicate (at - length old) 0), length-replicate {A = ℕ} (at - length old) 0) in
    let is : written old at put ≡ padded ++ put = rw (take_all at padded (omega (arith, whole)), drop_all (at + length put) old (omega arith)) (append-nil (padded ++ put)) in
    let front : take (length old) (padded ++ put) ≡ old = rw (append_assoc old (replicate (at - length old) 0) put) (take_at old _ (length old) refl) in
    let none : drop (at + length put) (padded ++ put) ≡ [] = drop_all _ (padded ++ put) (omega (arith, length-append padded put, whole)) in
    rw (is, front, none, append-nil old) (append-nil old)

-- what a write put there, taken back
pub written_back : (old : List ℕ) (at : ℕ) (put : List ℕ) → put_back (change_of old at (length put)) (written old at put) ≡ old
written_back old at put = elim (cases_lt at (length old)) [
  | inl within ↦
      let from : min at (length old) ≡ at = omega arith in
      rw from (back_inside old at put (omega arith))
  | inr past ↦
      let from : min at (length old) ≡ length old = omega arith in
      let none : min (at + length put) (length old) - length old ≡ 0 = omega arith in
      rw (from, none) (back_past old at put past)
]

pub wrote : (old : Kept) (moment at : ℕ) (put : List ℕ) → WroteTo old (record (noted (record old { bytes = grown old.bytes at put }) moment (Wrote at (change_of old.bytes at (length put)))) { bytes = over (grown old.bytes at put) (min at (length old.bytes)) (take (inside old.bytes at (length put)) put) }) moment at put
wrote old moment at put =
    record {
      change = change_of old.bytes at (length put);
      is = ap (λ (bytes : List ℕ). record (noted old moment (Wrote at (change_of old.bytes at (length put)))) { bytes = bytes }) (grown_written old.bytes at put);
      end = refl;
      back = ap (put_back (change_of old.bytes at (length put))) (grown_written old.bytes at put) ∙ written_back old.bytes at put;
    }
