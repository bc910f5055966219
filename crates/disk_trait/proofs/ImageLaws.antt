-- The disk model: what holds of images.
use Rattle.std.proofs.Common.{◌≡◌, ℕ, ◌+◌, ◌-◌, ◌%◌, ◌<◌, ◌≤◌, min, max, Bool, true, false, cond, ◌&&◌, ◌||◌, nat_le, nat_lt, List, [], ◌∷◌, ◌++◌, length, take, drop, get_or, replicate, slice_index, refl, ap, sym, ◌∙◌, arith, inl, inr, ◌⊎◌, length-append}
use Rattle.std.proofs.lemmas.List.{length-take, get_or-take, get_or_append_left, get_or-append_right, get_or-drop, length-drop, length-replicate}
use Rattle.std.proofs.lemmas.Grind.{same_number_lists}
use Rattle.std.proofs.lemmas.Bool.{cases_lt, false≢true, or_parts}
use Rattle.std.proofs.lemmas.Bool.Decides.{nat_tests}
use Rattle.disk_trait.specs.Disks.{Torn, written}
use Rattle.disk_trait.specs.Images.{is_in, greatest, Image}
use Rattle.disk_trait.specs.Record.{at_places, torn}
use Rattle.disk_trait.proofs.Torn.{length-at_places, get_or-at_places, length-torn, get_or-torn}

-- a disk without unsynced writes keeps its bytes
pub image_settled : (synced image : List ℕ) → Image synced [] image → image ≡ synced
image_settled synced image is = same_number_lists image synced (omega (arith, is.no_shorter, is.no_longer)) (λ k h. is.outside k (omega (arith, h, is.no_longer)) refl)

-- and no length is less than that of the last sync
pub least : (n : ℕ) (ranges : List (ℕ × ℕ)) → n ≤ greatest n ranges
least n [] = omega arith
least n (range ∷ ranges) = omega (arith, least n ranges)

-- what was synced may be left
pub image_synced : (synced : List ℕ) (ranges : List (ℕ × ℕ)) → Image synced ranges synced
image_synced synced ranges = record { no_shorter = omega arith; no_longer = least (length synced) ranges; outside = λ i within out. refl }

-- What a crash may leave behind one write more is what it could leave before, with this write torn.
module _ (synced : List ℕ) (ranges : List (ℕ × ℕ)) (at end : ℕ) (image : List ℕ) (is : Image synced ((at, end) ∷ ranges) image) where
  -- the place was written
  hit : ℕ → Bool
  hit i = nat_le at i && nat_lt i end

  -- the bytes of the sync in the range of the write
  before_byte : ℕ → ℕ → ℕ
  before_byte i byte = cond (nat_le at i && nat_lt i end) (slice_index synced i) byte

  short : List ℕ
  short = take (greatest (length synced) ranges) image

  -- an image from before the write
  abbrev pub image_before : List ℕ
  image_before = at_places (λ i byte. cond (nat_le at i && nat_lt i end) (slice_index synced i) byte) 0 (take (greatest (length synced) ranges) image)

  pub length_before : length image_before ≡ min (greatest (length synced) ranges) (length image)
  length_before = length-at_places _ 0 (take (greatest (length synced) ranges) image) ∙ length-take (greatest (length synced) ranges) image

  at_place : (i : ℕ) → i < length image_before → slice_index image_before i ≡ cond (nat_le at i && nat_lt i end) (slice_index synced i) (slice_index image i)
  at_place i within =
      let size = length-take (greatest (length synced) ranges) image in
      let e : 0 + i ≡ i = omega arith in
      get_or-at_places (λ i byte. cond (nat_le at i && nat_lt i end) (slice_index synced i) byte) 0 (take (greatest (length synced) ranges) image) i (omega (arith, within, length_before, size))
      ∙ ap (λ n. cond (nat_le at n && nat_lt n end) (slice_index synced n) (get_or (take (greatest (length synced) ranges) image) i 0)) e
      ∙ ap (cond (nat_le at i && nat_lt i end) (slice_index synced i)) (get_or-take (greatest (length synced) ranges) image i 0 (omega (arith, within, length_before)))

  pub is_before : Image synced ranges image_before
  is_before = record {
    no_shorter = omega (arith, length_before, least (length synced) ranges, is.no_shorter);
    no_longer = omega (arith, length_before);
    outside = λ i within out.
        at_place i (omega (arith, within, length_before, least (length synced) ranges, is.no_shorter)) ∙ by_test i within out (nat_le at i && nat_lt i end) refl;
  }
    where
      by_test : (i : ℕ) → i < length synced → is_in ranges i ≡ false → (test : Bool) → (nat_le at i && nat_lt i end) ≡ test → cond test (slice_index synced i) (slice_index image i) ≡ slice_index synced i
      by_test i within out true here = refl
      by_test i within out false here = is.outside i within (ap (λ b. b || is_in ranges i) here ∙ out)

  pub torn_from : (n : ℕ) → end ≡ at + n → Torn at n image_before image
  torn_from n ends = record {
    no_shorter = omega (arith, length_before);
    no_longer = omega (arith, length_before, is.no_longer, ends);
    outside = λ i within out. sym (at_place i within ∙ ap (λ b. cond b (slice_index synced i) (slice_index image i)) (missed i out));
  }
    where
      missed : (i : ℕ) → (i < at) ⊎ (at + n ≤ i) → (nat_le at i && nat_lt i end) ≡ false
      missed i (inl before) = grind (arith, nat_tests)
      missed i (inr behind) = grind (arith, nat_tests)

-- how long a disk is after a write
pub length-written : (old : List ℕ) (at : ℕ) (put : List ℕ) → length (written old at put) ≡ max (length old) (at + length put)
length-written old at put =
    let padded = old ++ replicate (at - length old) 0 in
    let size : length padded ≡ max (length old) at = omega (arith, length-append old (replicate (at - length old) 0), length-replicate {A = ℕ} (at - length old) 0) in
    omega (arith, length-append (take at padded ++ put) (drop (at + length put) old), length-append (take at padded) put, length-take at padded, length-drop (at + length put) old, size)

-- a byte that was there outside the range of a write stays
pub written_outside : (old : List ℕ) (at : ℕ) (put : List ℕ) (i : ℕ) → i < length old → (i < at) ⊎ (at + length put ≤ i) → slice_index (written old at put) i ≡ slice_index old i
written_outside old at put i within (inl before) =
    let padded = old ++ replicate (at - length old) 0 in
    let size : length padded ≡ max (length old) at = omega (arith, length-append old (replicate (at - length old) 0), length-replicate {A = ℕ} (at - length old) 0) in
    let front : length (take at padded) ≡ at = omega (arith, length-take at padded, size) in
    get_or_append_left (take at padded ++ put) (drop (at + length put) old) 0 i (omega (arith, length-append (take at padded) put, front))
    ∙ get_or_append_left (take at padded) put 0 i (omega (arith, front))
    ∙ get_or-take at padded i 0 before
    ∙ get_or_append_left old (replicate (at - length old) 0) 0 i within
written_outside old at put i within (inr behind) =
    let padded = old ++ replicate (at - length old) 0 in
    let size : length padded ≡ max (length old) at = omega (arith, length-append old (replicate (at - length old) 0), length-replicate {A = ℕ} (at - length old) 0) in
    let front : length (take at padded ++ put) ≡ at + length put = omega (arith, length-append (take at padded) put, length-take at padded, size) in
    let same : at + length put + (i - (at + length put)) ≡ i = omega arith in
    get_or-append_right (take at padded ++ put) (drop (at + length put) old) (at + length put) i 0 front behind
    ∙ get_or-drop (at + length put) old (i - (at + length put)) 0
    ∙ ap (λ n. get_or old n 0) same

-- what a read gives after a write is one of the images
pub image_written : (synced : List ℕ) (ranges : List (ℕ × ℕ)) (old : List ℕ) (at : ℕ) (put : List ℕ) → Image synced ranges old → Image synced ((at, at + length put) ∷ ranges) (written old at put)
image_written synced ranges old at put is = record {
  no_shorter = omega (arith, is.no_shorter, length-written old at put);
  no_longer = omega (arith, is.no_longer, length-written old at put);
  outside = λ i within out.
      let apart = or_parts (nat_le at i && nat_lt i (at + length put)) (is_in ranges i) out in
      written_outside old at put i (omega (arith, within, is.no_shorter)) (missed i apart.0) ∙ is.outside i within apart.1;
}
  where
    missed : (i : ℕ) → (nat_le at i && nat_lt i (at + length put)) ≡ false → (i < at) ⊎ (at + length put ≤ i)
    missed i miss = elim (cases_lt i at) [
      | inl before ↦ inl before
      | inr from ↦ elim (cases_lt i (at + length put)) [
        | inr behind ↦ inr behind
        | inl inside ↦
            let hit : (nat_le at i && nat_lt i (at + length put)) ≡ true = grind (arith, nat_tests) in
            absurd (false≢true (sym miss ∙ hit))
      ]
    ]

-- what a pick tears is one of the images
pub image_torn : (pick : ℕ) (synced : List ℕ) (ranges : List (ℕ × ℕ)) (bytes : List ℕ) → Image synced ranges bytes → Image synced ranges (torn pick ((length synced, length bytes) ∷ ranges) bytes)
image_torn pick synced ranges bytes is = record {
  no_shorter = omega (arith, is.no_shorter, length-torn pick ((length synced, length bytes) ∷ ranges) bytes);
  no_longer = omega (arith, is.no_longer, length-torn pick ((length synced, length bytes) ∷ ranges) bytes);
  outside = λ i within out.
      let before : (nat_le (length synced) i && nat_lt i (length bytes)) ≡ false = before_end i within in
      get_or-torn pick ((length synced, length bytes) ∷ ranges) bytes i (omega (arith, within, is.no_shorter))
      ∙ ap (λ b. cond (b || is_in ranges i) ((pick + i) % 256) (slice_index bytes i)) before
      ∙ ap (λ b. cond b ((pick + i) % 256) (slice_index bytes i)) out
      ∙ is.outside i within out;
}
  where
    before_end : (i : ℕ) → i < length synced → (nat_le (length synced) i && nat_lt i (length bytes)) ≡ false
    before_end i within = grind (arith, nat_tests)
