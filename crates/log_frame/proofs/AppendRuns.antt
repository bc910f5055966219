-- The four device calls of an append, one after the other.
use Rattle.std.proofs.Common.{◌≡◌, ℕ, ◌+◌, ◌<◌, ◌^◌, List, [], ◌∷◌, length, Some, Result, ap, sym, ◌∙◌, subst, inl}
use Rattle.disk_trait.specs.Disks.{Disks, Leaves, MayLeave, IsSettled, WhereTold, Torn, written}
use Rattle.disk_trait.specs.Calls.{Writes, Syncs}
use Rattle.disk_trait.specs.declared.parts.Outage.{Outage}
use Rattle.disk_trait.proofs.Runs.{leaves_none, leaves_call}
use Rattle.log_frame.specs.Log.{Opened, Stands, with_body, IsBeforeOrAfter, end_of, closed_record}
use Rattle.log_frame.proofs.Appends.{torn_behind, torn_gate, done_stands}

module _ (d0 : Disks) (disk end : ℕ) (put : List ℕ) (settled : IsSettled d0 disk) (opened : Opened) (body : List ℕ) (is : put ≡ closed_record body) (fits : length body < 2 ^ 32) (end_is : end ≡ end_of opened) (bytes : List ℕ) (told : d0.content disk ≡ Some bytes) (stands : Stands bytes opened) where
  before_all : Leaves d0 d0 disk (IsBeforeOrAfter opened body)
  before_all = leaves_none d0 disk (IsBeforeOrAfter opened body) (λ image left. inl (subst (λ (l : List ℕ). Stands l opened) (sym (settled bytes told image left)) stands))

  -- the bytes with the record behind the gate
  staged : List ℕ
  staged = written bytes (end_of opened + 1) (closed_record body)

  module _ {T : Type 0} (d1 : Disks) (first : Result T Outage) (write : Writes d0 d1 disk (end + 1) put first) where
    behind_now : (image : List ℕ) → MayLeave d1 disk image → Stands image opened
    behind_now image left =
        let from = write.crash image left in
        let torn : Torn (end + 1) (length put) bytes image = subst (λ (l : List ℕ). Torn (end + 1) (length put) l image) (settled bytes told from.0 from.1) from.2 in
        torn_behind bytes opened stands (length put) image (subst (λ (k : ℕ). Torn (k + 1) (length put) bytes image) end_is torn)

    pub after_write : Leaves d0 d1 disk (IsBeforeOrAfter opened body)
    after_write = leaves_call d0 d0 d1 disk (IsBeforeOrAfter opened body) first before_all write.call (λ image left. inl (behind_now image left))

    module _ (d2 : Disks) (second : Result T Outage) (sync : Syncs d1 d2 disk second) where
      pub after_sync : Leaves d0 d2 disk (IsBeforeOrAfter opened body)
      after_sync = leaves_call d0 d1 d2 disk (IsBeforeOrAfter opened body) second after_write sync.call (λ image left. inl (behind_now image (sync.crash image left)))

      module _ (wrote : WhereTold d0 disk (λ old. d1.content disk ≡ Some (written old (end + 1) put))) (synced : IsSettled d2 disk) where
        told_staged : d2.content disk ≡ Some (written bytes (end_of opened + 1) (closed_record body))
        told_staged =
            sync.content ∙ wrote bytes told
            ∙ ap (λ (k : ℕ). Some (written bytes (k + 1) put)) end_is
            ∙ ap (λ (l : List ℕ). Some (written bytes (end_of opened + 1) l)) is

        module _ (d3 : Disks) (third : Result T Outage) (gate : Writes d2 d3 disk end (1 ∷ []) third) where
          gate_now : (image : List ℕ) → MayLeave d3 disk image → IsBeforeOrAfter opened body image
          gate_now image left =
              let from = gate.crash image left in
              let torn : Torn end 1 (written bytes (end_of opened + 1) (closed_record body)) image = subst (λ (l : List ℕ). Torn end 1 l image) (synced _ told_staged from.0 from.1) from.2 in
              torn_gate bytes opened stands body fits image (subst (λ (k : ℕ). Torn k 1 (written bytes (end_of opened + 1) (closed_record body)) image) end_is torn)

          pub after_gate : Leaves d0 d3 disk (IsBeforeOrAfter opened body)
          after_gate = leaves_call d0 d2 d3 disk (IsBeforeOrAfter opened body) third after_sync gate.call gate_now

          module _ (d4 : Disks) (fourth : Result T Outage) (last : Syncs d3 d4 disk fourth) where
            pub after_all : Leaves d0 d4 disk (IsBeforeOrAfter opened body)
            after_all = leaves_call d0 d3 d4 disk (IsBeforeOrAfter opened body) fourth after_gate last.call (λ image left. gate_now image (last.crash image left))

            -- after the last sync the disk reads as the log with the record
            pub appended : WhereTold d2 disk (λ old. d3.content disk ≡ Some (written old end (1 ∷ []))) → (final : List ℕ) → d4.content disk ≡ Some final → Stands final (with_body opened body)
            appended opened_gate final reads =
                let now : Some final ≡ Some (written (written bytes (end_of opened + 1) (closed_record body)) (end_of opened) (1 ∷ [])) =
                sym reads ∙ last.content ∙ opened_gate _ told_staged ∙ ap (λ (k : ℕ). Some (written (written bytes (end_of opened + 1) (closed_record body)) k (1 ∷ []))) end_is in
                let same : final ≡ written (written bytes (end_of opened + 1) (closed_record body)) (end_of opened) (1 ∷ []) = cc in
                subst (λ (l : List ℕ). Stands l (with_body opened body)) (sym same) (done_stands bytes opened stands body fits)
