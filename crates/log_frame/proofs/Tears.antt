-- What a crash leaves of a write that isn't synced, as parts of the bytes.
use Rattle.std.proofs.Common.{◌≡◌, ℕ, ◌+◌, ◌-◌, ◌<◌, ◌≤◌, List, ◌∷◌, ◌++◌, length, take, drop, slice_index, ap, sym, ◌∙◌, arith, append_assoc, take-append-drop, inl, inr}
use Rattle.std.proofs.lemmas.List.{append-nil, length-take-le, length-drop, get_or-take, get_or-drop, drop_more}
use Rattle.std.proofs.lemmas.Grind.{same_number_lists}
use Rattle.disk_trait.specs.Disks.{Torn, written}

-- What stands before the write stays.
pub torn_front : (at n k : ℕ) (old image : List ℕ) → Torn at n old image → k ≤ at → k ≤ length old → take k image ≡ take k old
torn_front at n k old image torn before within =
    let size : length (take k image) ≡ k = length-take-le k image (omega (arith, torn.no_shorter, within)) in
    same_number_lists (take k image) (take k old) (size ∙ sym (length-take-le k old within)) (λ (i : ℕ) (h : i < length (take k image)).
    let here : i < k = omega (arith, h, size) in
    get_or-take k image i 0 here ∙ torn.outside i (omega (arith, here, within)) (inl (omega (arith, here, before))) ∙ sym (get_or-take k old i 0 here))

-- Where the write lies within the old bytes, what stands behind it stays.
pub torn_back : (at n : ℕ) (old image : List ℕ) → Torn at n old image → at + n ≤ length old → drop (at + n) image ≡ drop (at + n) old
torn_back at n old image torn within =
    let size : length image ≡ length old = omega (arith, torn.no_shorter, torn.no_longer, within) in
    same_number_lists (drop (at + n) image) (drop (at + n) old) (length-drop (at + n) image ∙ omega (arith, size, length-drop (at + n) old)) (λ (i : ℕ) (h : i < length (drop (at + n) image)).
    get_or-drop (at + n) image i 0 ∙ torn.outside (at + n + i) (omega (arith, h, length-drop (at + n) image, size)) (inr (omega arith)) ∙ sym (get_or-drop (at + n) old i 0))

-- bytes at a place within them
pub split_at_place : (bytes : List ℕ) (k : ℕ) → k < length bytes → bytes ≡ take k bytes ++ (slice_index bytes k ∷ drop (k + 1) bytes)
split_at_place bytes k within = sym (take-append-drop k bytes) ∙ ap (λ (l : List ℕ). take k bytes ++ l) (drop_more bytes k 0 within)

-- A write that begins within the bytes.
pub written_within : (old : List ℕ) (at : ℕ) (put : List ℕ) → at ≤ length old → written old at put ≡ take at old ++ (put ++ drop (at + length put) old)
written_within old at put within =
    let none : at - length old ≡ 0 = omega arith in
    rw (none, append-nil old) (append_assoc (take at old) put (drop (at + length put) old))

-- A byte behind a torn write that begins right after it stays, and what stands before.
pub torn_behind_place : (k n : ℕ) (old image : List ℕ) → Torn (k + 1) n old image → k < length old → image ≡ take k old ++ (slice_index old k ∷ drop (k + 1) image)
torn_behind_place k n old image torn within =
    split_at_place image k (omega (arith, torn.no_shorter, within))
    ∙ ap (λ (l : List ℕ). l ++ (slice_index image k ∷ drop (k + 1) image)) (torn_front (k + 1) n k old image torn (omega arith) (omega (arith, within)))
    ∙ ap (λ (byte : ℕ). take k old ++ (byte ∷ drop (k + 1) image)) (torn.outside k within (inl (omega arith)))

-- A torn write of one byte changes that byte alone.
pub torn_byte_place : (k : ℕ) (old image : List ℕ) → Torn k 1 old image → k < length old → image ≡ take k old ++ (slice_index image k ∷ drop (k + 1) old)
torn_byte_place k old image torn within =
    split_at_place image k (omega (arith, torn.no_shorter, within))
    ∙ ap (λ (l : List ℕ). l ++ (slice_index image k ∷ drop (k + 1) image)) (torn_front k 1 k old image torn (omega arith) (omega (arith, within)))
    ∙ ap (λ (l : List ℕ). take k old ++ (slice_index image k ∷ l)) (torn_back k 1 old image torn (omega (arith, within)))
