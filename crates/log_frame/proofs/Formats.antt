-- What a crash leaves in each step of formatting.
use Rattle.std.proofs.Common.{◌≡◌, ◌≢◌, ℕ, ◌+◌, ◌<◌, ◌^◌, List, [], ◌∷◌, ◌++◌, length, drop, slice_index, Some, None, Result, Ok, Bool, true, false, ◌==◌, if◌then◌else◌, refl, ap, sym, ◌∙◌, subst, arith, append_assoc, inl, inr}
use Rattle.std.proofs.lemmas.List.{take_more}
use Rattle.std.proofs.lemmas.Bool.{cases_eq, cases_lt}
use Rattle.std.proofs.lemmas.Bool.Decides.{nat_tests}
use Rattle.std.specs.Int.{w32, w64, to_be_bytes}
use Rattle.disk_trait.specs.Disks.{Disks, OnDisk, Leaves, MayLeave, IsSettled, WhereTold, Torn, written}
use Rattle.disk_trait.specs.Calls.{Writes, Syncs}
use Rattle.disk_trait.specs.declared.parts.Outage.{Outage}
use Rattle.disk_trait.proofs.Runs.{leaves_none, leaves_call}
use Rattle.log_frame.specs.Log.{Stands, u64_in, opened_by, read_open, read_log, new_log, closed_record, header_bytes, IsShut, MayBeOpen, IsOldOrShut, IsShutOrNew}
use Rattle.log_frame.proofs.Frames.{bodies_closed, u32_spelled}
use Rattle.log_frame.proofs.Headers.{header_read, u64_spelled}
use Rattle.log_frame.proofs.LogAppends.{told_on}
use Rattle.log_frame.proofs.Tears.{torn_byte_place, split_at_place, written_within}

-- no open header in front
pub shut_none : (bytes : List ℕ) → slice_index bytes 0 ≢ 1 → read_log bytes ≡ None
shut_none [] shut = refl
shut_none (gate ∷ []) shut = refl
shut_none (gate ∷ byte ∷ rest) shut = by_test (gate == 1) (grind (arith, nat_tests))
  where
    by_test : (test : Bool) → test ≡ false → (if test then Some (read_open (byte ∷ rest)) else None) ≡ None
    by_test true is = cc
    by_test false is = refl

-- nor where fewer than two bytes stand
short_none : (bytes : List ℕ) → length bytes < 2 → read_log bytes ≡ None
short_none [] short = refl
short_none (gate ∷ []) short = refl
short_none (gate ∷ byte ∷ rest) short = absurd (omega arith)

-- the gate of a header, torn while it is closed
pub torn_shut : (bytes image : List ℕ) → MayBeOpen bytes → Torn 0 1 bytes image → IsOldOrShut bytes image
torn_shut bytes image open_there torn = elim (cases_lt 1 (length bytes)) [
  | inr short ↦ inr (short_none image (omega (arith, torn.no_longer, short)))
  | inl long ↦ elim (cases_eq (slice_index image 0) 1) [
    | inr shut ↦ inr (shut_none image shut)
    | inl same ↦
        let gate : slice_index image 0 ≡ slice_index bytes 0 = same ∙ sym (open_there long) in
        inl (torn_byte_place 0 bytes image torn (omega arith) ∙ ap (λ (g : ℕ). g ∷ drop 1 bytes) gate ∙ sym (split_at_place bytes 0 (omega arith)))
  ]
]

pub shut_written : (bytes : List ℕ) → IsShut (written bytes 0 (0 ∷ []))
shut_written bytes = subst IsShut (sym (written_within bytes 0 (0 ∷ []) (omega arith))) (omega arith, omega arith)

-- behind a gate that is shut anything may stand
pub torn_header : (n : ℕ) (bytes image : List ℕ) → IsShut bytes → Torn 1 n bytes image → read_log image ≡ None
torn_header n bytes image shut torn = shut_none image (λ open_gate. shut.1 (sym (torn.outside 0 shut.0 (inl (omega arith))) ∙ open_gate))

module _ (sequence : ℕ) (head : List ℕ) (small : sequence < 2 ^ 64) (fits : length head < 2 ^ 32) where
  -- a new log behind an open gate
  opened_now : (rest : List ℕ) → Stands (1 ∷ (header_bytes sequence head ++ rest)) (new_log sequence head)
  opened_now rest =
      let whole : header_bytes sequence head ++ rest ≡ to_be_bytes w64 sequence ++ (to_be_bytes w32 (length head) ++ (head ++ (0 ∷ rest))) =
      append_assoc (to_be_bytes w64 sequence) (closed_record head) rest
      ∙ ap (λ (l : List ℕ). to_be_bytes w64 sequence ++ l) (append_assoc (to_be_bytes w32 (length head)) (head ++ 0 ∷ []) rest ∙ ap (λ (l : List ℕ). to_be_bytes w32 (length head) ++ l) (append_assoc head (0 ∷ []) rest)) in
      ap (λ (l : List ℕ). read_log (1 ∷ l)) whole
      ∙ header_read (to_be_bytes w64 sequence) (to_be_bytes w32 (length head)) head (0 ∷ rest) refl refl (u32_spelled (length head) fits) (omega arith)
      ∙ ap (λ r. Some (opened_by (u64_in (to_be_bytes w64 sequence)) head r)) (bodies_closed (13 + length head) 0 rest (omega arith))
      ∙ ap (λ (k : ℕ). Some (Ok (record { sequence = k; head = head; bodies = [] }))) (u64_spelled sequence small)

  module _ (bytes : List ℕ) (shut : IsShut bytes) where
    -- after the first write
    header_front : written bytes 1 (header_bytes sequence head) ≡ slice_index bytes 0 ∷ (header_bytes sequence head ++ drop (1 + length (header_bytes sequence head)) bytes)
    header_front =
        written_within bytes 1 (header_bytes sequence head) (omega (arith, shut.0))
        ∙ ap (λ (l : List ℕ). l ++ (header_bytes sequence head ++ drop (1 + length (header_bytes sequence head)) bytes)) (take_more bytes 0 0 shut.0)

    header_there : 0 < length (written bytes 1 (header_bytes sequence head))
    header_there = omega (arith, ap length header_front)

    header_back : drop 1 (written bytes 1 (header_bytes sequence head)) ≡ header_bytes sequence head ++ drop (1 + length (header_bytes sequence head)) bytes
    header_back = ap (drop 1) header_front

    pub torn_open : (image : List ℕ) → Torn 0 1 (written bytes 1 (header_bytes sequence head)) image → IsShutOrNew (new_log sequence head) image
    torn_open image torn = elim (cases_eq (slice_index image 0) 1) [
      | inr shut_still ↦ inl (shut_none image shut_still)
      | inl is ↦ inr (
          ap read_log (torn_byte_place 0 (written bytes 1 (header_bytes sequence head)) image torn header_there ∙ ap (λ (g : ℕ). g ∷ drop 1 (written bytes 1 (header_bytes sequence head))) is ∙ ap (λ (l : List ℕ). 1 ∷ l) header_back)
          ∙ opened_now (drop (1 + length (header_bytes sequence head)) bytes)
          )
    ]

    pub opened_written : Stands (written (written bytes 1 (header_bytes sequence head)) 0 (1 ∷ [])) (new_log sequence head)
    opened_written =
        ap read_log (written_within (written bytes 1 (header_bytes sequence head)) 0 (1 ∷ []) (omega arith) ∙ ap (λ (l : List ℕ). 1 ∷ l) header_back)
        ∙ opened_now (drop (1 + length (header_bytes sequence head)) bytes)

-- The two device calls that close a header.
module _ (d0 : Disks) (disk : ℕ) (settled : IsSettled d0 disk) (bytes : List ℕ) (told : d0.content disk ≡ Some bytes) (open_there : MayBeOpen bytes) where
  module _ {T : Type 0} (d1 : Disks) (first : Result T Outage) (write : Writes d0 d1 disk 0 (0 ∷ []) first) where
    shut_now : (image : List ℕ) → MayLeave d1 disk image → IsOldOrShut bytes image
    shut_now image left =
        let from = write.crash image left in
        torn_shut bytes image open_there (subst (λ (l : List ℕ). Torn 0 1 l image) (settled bytes told from.0 from.1) from.2)

    pub after_shut_write : Leaves d0 d1 disk (IsOldOrShut bytes)
    after_shut_write = leaves_call d0 d0 d1 disk (IsOldOrShut bytes) first (leaves_none d0 disk (IsOldOrShut bytes) (λ image left. inl (settled bytes told image left))) write.call shut_now

    pub after_shut_sync : (d2 : Disks) (second : Result T Outage) → Syncs d1 d2 disk second → Leaves d0 d2 disk (IsOldOrShut bytes)
    after_shut_sync d2 second sync = leaves_call d0 d1 d2 disk (IsOldOrShut bytes) second after_shut_write sync.call (λ image left. shut_now image (sync.crash image left))

-- The four device calls behind it.
module _ (d0 : Disks) (disk : ℕ) (put : List ℕ) (settled : IsSettled d0 disk) (sequence : ℕ) (head : List ℕ) (is : put ≡ header_bytes sequence head) (small : sequence < 2 ^ 64) (fits : length head < 2 ^ 32) (bytes : List ℕ) (told : d0.content disk ≡ Some bytes) (shut : IsShut bytes) where
  module _ {T : Type 0} (d1 : Disks) (first : Result T Outage) (write : Writes d0 d1 disk 1 put first) where
    header_now : (image : List ℕ) → MayLeave d1 disk image → read_log image ≡ None
    header_now image left =
        let from = write.crash image left in
        torn_header (length put) bytes image shut (subst (λ (l : List ℕ). Torn 1 (length put) l image) (settled bytes told from.0 from.1) from.2)

    pub after_header : Leaves d0 d1 disk (IsShutOrNew (new_log sequence head))
    after_header = leaves_call d0 d0 d1 disk (IsShutOrNew (new_log sequence head)) first (leaves_none d0 disk (IsShutOrNew (new_log sequence head)) (λ image left. inl (ap read_log (settled bytes told image left) ∙ shut_none bytes shut.1))) write.call (λ image left. inl (header_now image left))

    module _ (d2 : Disks) (second : Result T Outage) (sync : Syncs d1 d2 disk second) where
      pub after_header_sync : Leaves d0 d2 disk (IsShutOrNew (new_log sequence head))
      after_header_sync = leaves_call d0 d1 d2 disk (IsShutOrNew (new_log sequence head)) second after_header sync.call (λ image left. inl (header_now image (sync.crash image left)))

      module _ (wrote : WhereTold d0 disk (λ old. d1.content disk ≡ Some (written old 1 put))) (synced : IsSettled d2 disk) where
        told_header : d2.content disk ≡ Some (written bytes 1 (header_bytes sequence head))
        told_header = sync.content ∙ wrote bytes told ∙ ap (λ (l : List ℕ). Some (written bytes 1 l)) is

        module _ (d3 : Disks) (third : Result T Outage) (gate : Writes d2 d3 disk 0 (1 ∷ []) third) where
          open_now : (image : List ℕ) → MayLeave d3 disk image → IsShutOrNew (new_log sequence head) image
          open_now image left =
              let from = gate.crash image left in
              torn_open sequence head small fits bytes shut image (subst (λ (l : List ℕ). Torn 0 1 l image) (synced _ told_header from.0 from.1) from.2)

          pub after_open : Leaves d0 d3 disk (IsShutOrNew (new_log sequence head))
          after_open = leaves_call d0 d2 d3 disk (IsShutOrNew (new_log sequence head)) third after_header_sync gate.call open_now

          module _ (d4 : Disks) (fourth : Result T Outage) (last : Syncs d3 d4 disk fourth) where
            pub after_open_sync : Leaves d0 d4 disk (IsShutOrNew (new_log sequence head))
            after_open_sync = leaves_call d0 d3 d4 disk (IsShutOrNew (new_log sequence head)) fourth after_open last.call (λ image left. open_now image (last.crash image left))

            pub formatted : WhereTold d2 disk (λ old. d3.content disk ≡ Some (written old 0 (1 ∷ []))) → (final : List ℕ) → d4.content disk ≡ Some final → Stands final (new_log sequence head)
            formatted opened_gate final reads =
                let now : Some final ≡ Some (written (written bytes 1 (header_bytes sequence head)) 0 (1 ∷ [])) = sym reads ∙ last.content ∙ opened_gate _ told_header in
                let same : final ≡ written (written bytes 1 (header_bytes sequence head)) 0 (1 ∷ []) = cc in
                subst (λ (l : List ℕ). Stands l (new_log sequence head)) (sym same) (opened_written sequence head small fits bytes shut)

-- After both calls the header reads as closed.
pub shut_reads : (d0 d1 d2 : Disks) (disk : ℕ) → OnDisk d0 d1 disk → WhereTold d0 disk (λ old. d1.content disk ≡ Some (written old 0 (0 ∷ []))) → d2.content disk ≡ d1.content disk → WhereTold d2 disk IsShut
shut_reads d0 d1 d2 disk alone wrote same final reads =
    let was = told_on (d1.content disk) (d0.content disk) final (sym alone.told) (sym same ∙ reads) in
    let now : Some final ≡ Some (written was.0 0 (0 ∷ [])) = sym reads ∙ same ∙ wrote was.0 was.1 in
    let is : final ≡ written was.0 0 (0 ∷ []) = cc in
    subst IsShut (sym is) (shut_written was.0)
