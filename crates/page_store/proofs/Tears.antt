-- What a write leaves as it was, torn or whole.
use Rattle.std.proofs.Common.{◌≡◌, ℕ, ◌+◌, ◌-◌, ◌<◌, ◌≤◌, List, [], ◌∷◌, ◌++◌, length, take, drop, replicate, slice_index, Some, Result, refl, ap, sym, subst, ◌∙◌, arith, inl, inr, ◌⊎◌, length-append, append_assoc}
use Rattle.std.proofs.lemmas.List.{length-take-le, length-drop, length-replicate, get_or-take, get_or-drop, get_or_append_left, get_or-append_right, take_at, drop_at}
use Rattle.std.proofs.lemmas.Grind.{same_number_lists}
use Rattle.disk_trait.specs.Disks.{Disks, Leaves, IsSettled, Torn, TornAlone, NoNewImage, written}
use Rattle.disk_trait.specs.Calls.{IsCall}
use Rattle.disk_trait.specs.declared.parts.Outage.{Outage}
use Rattle.disk_trait.proofs.Runs.{leaves_none, leaves_call}

-- each byte that was there and lies outside the range stays
pub record Outside (at n : ℕ) (old new : List ℕ) : Type 0 where
  pub no_shorter : length old ≤ length new
  pub stays : (i : ℕ) → i < length old → (i < at) ⊎ (at + n ≤ i) → slice_index new i ≡ slice_index old i

pub torn_outside : (at n : ℕ) (old new : List ℕ) → Torn at n old new → Outside at n old new
torn_outside at n old new torn = record { no_shorter = torn.no_shorter; stays = torn.outside }

-- before the write
pub torn_none : (at n : ℕ) (old : List ℕ) → Torn at n old old
torn_none at n old = record { no_shorter = omega arith; no_longer = omega arith; outside = λ i within out. refl }

-- ---- the whole write

abbrev padded : List ℕ → ℕ → List ℕ
padded old at = take at (old ++ replicate (at - length old) 0)

length_padded : (old : List ℕ) (at : ℕ) → length (padded old at) ≡ at
length_padded old at = length-take-le at (old ++ replicate (at - length old) 0) (omega (arith, length-append old (replicate (at - length old) 0), length-replicate {A = ℕ} (at - length old) 0))

pub written_here : (old : List ℕ) (at : ℕ) (put : List ℕ) → take (length put) (drop at (written old at put)) ≡ put
written_here old at put =
    ap (λ (l : List ℕ). take (length put) (drop at l)) (append_assoc (padded old at) put (drop (at + length put) old))
    ∙ ap (take (length put)) (drop_at (padded old at) (put ++ drop (at + length put) old) at (length_padded old at))
    ∙ take_at put (drop (at + length put) old) (length put) refl

length_written : (old : List ℕ) (at : ℕ) (put : List ℕ) → length (written old at put) ≡ at + length put + (length old - (at + length put))
length_written old at put =
    length-append (padded old at ++ put) (drop (at + length put) old) ∙ omega (arith, length-append (padded old at) put, length_padded old at, length-drop (at + length put) old)

stays_before : (old : List ℕ) (at : ℕ) (put : List ℕ) (i : ℕ) → i < length old → i < at → slice_index (written old at put) i ≡ slice_index old i
stays_before old at put i within before =
    get_or_append_left (padded old at ++ put) (drop (at + length put) old) 0 i (omega (arith, length-append (padded old at) put, length_padded old at, before))
    ∙ get_or_append_left (padded old at) put 0 i (omega (arith, length_padded old at, before))
    ∙ get_or-take at (old ++ replicate (at - length old) 0) i 0 before
    ∙ get_or_append_left old (replicate (at - length old) 0) 0 i within

stays_behind : (old : List ℕ) (at : ℕ) (put : List ℕ) (i : ℕ) → i < length old → at + length put ≤ i → slice_index (written old at put) i ≡ slice_index old i
stays_behind old at put i within behind =
    let size : length (padded old at ++ put) ≡ at + length put = omega (arith, length-append (padded old at) put, length_padded old at) in
    let place : at + length put + (i - (at + length put)) ≡ i = omega (arith, behind) in
    get_or-append_right (padded old at ++ put) (drop (at + length put) old) (at + length put) i 0 size behind
    ∙ get_or-drop (at + length put) old (i - (at + length put)) 0
    ∙ ap (slice_index old) place

pub written_outside : (old : List ℕ) (at : ℕ) (put : List ℕ) → Outside at (length put) old (written old at put)
written_outside old at put = record {
  no_shorter = omega (arith, length_written old at put);
  stays = λ i within out. elim out [ inl before ↦ stays_before old at put i within before | inr behind ↦ stays_behind old at put i within behind ];
}

-- ---- bytes elsewhere

pub kept_elsewhere : (at n from size : ℕ) (old new : List ℕ) → Outside at n old new → from + size ≤ length old → (from + size ≤ at) ⊎ (at + n ≤ from) → take size (drop from new) ≡ take size (drop from old)
kept_elsewhere at n from size old new outside within apart =
    let more = outside.no_shorter in
    let long : length (take size (drop from new)) ≡ size = length-take-le size (drop from new) (omega (arith, length-drop from new, more, within)) in
    let was : length (take size (drop from old)) ≡ size = length-take-le size (drop from old) (omega (arith, length-drop from old, within)) in
    same_number_lists (take size (drop from new)) (take size (drop from old)) (long ∙ sym was) (λ (i : ℕ) (h : i < length (take size (drop from new))).
    let here : i < size = omega (arith, h, long) in
    let out : (from + i < at) ⊎ (at + n ≤ from + i) = elim apart [ inl before ↦ inl (omega (arith, before, here)) | inr behind ↦ inr (omega (arith, behind)) ] in
    get_or-take size (drop from new) i 0 here ∙ get_or-drop from new i 0
    ∙ outside.stays (from + i) (omega (arith, here, within)) out
    ∙ sym (get_or-drop from old i 0) ∙ sym (get_or-take size (drop from old) i 0 here))

-- ---- the two calls of a write

pub write_leaves : (d0 d1 : Disks) (at n : ℕ) (disk : List ℕ) (result : Result Unit Outage) → IsSettled d0 2 → d0.content 2 ≡ Some disk → IsCall d0 d1 2 result → TornAlone d0 d1 2 at n → Leaves d0 d1 2 (Torn at n disk)
write_leaves d0 d1 at n disk result settled told call torn =
    leaves_call d0 d0 d1 2 (Torn at n disk) result
    (leaves_none d0 2 (Torn at n disk) (λ image left. subst (Torn at n disk) (sym (settled disk told image left)) (torn_none at n disk))) call
    (λ image left. let before = torn image left in subst (λ (l : List ℕ). Torn at n l image) (settled disk told before.0 before.1) before.2)

pub sync_leaves : (d0 d1 d2 : Disks) (P : List ℕ → Type 0) (result : Result Unit Outage) → Leaves d0 d1 2 P → IsCall d1 d2 2 result → NoNewImage d1 d2 2 → Leaves d0 d2 2 P
sync_leaves d0 d1 d2 P result first call same =
    leaves_call d0 d1 d2 2 P result first call (λ image left. first.each d1.time image first.alone.later (omega arith) (same image left))
