-- An append to a log that agrees with its disk.
use Rattle.std.proofs.Common.{◌≡◌, ℕ, ◌+◌, List, length, Option, Some, None, Ok, is_some, refl, ap, sym, ◌∙◌, subst, arith, inl}
use Rattle.disk_trait.specs.Disks.{Disks, OnDisk, Leaves, MayLeave, IsSettled, WhereTold}
use Rattle.disk_trait.proofs.Runs.{leaves_none}
use Rattle.log_frame.specs.Log.{Opened, Place, Agrees, Stands, with_body, IsBeforeOrAfter, end_of}
use Rattle.log_frame.proofs.Appends.{end_more}

-- bytes stand for one log
pub same_log : (bytes : List ℕ) (some other : Opened) → Stands bytes some → Stands bytes other → some ≡ other
same_log bytes some other is was = let e : Some (Ok some) ≡ Some (Ok other) = sym is ∙ was in cc

-- what a log that agrees has for its end is that of the log that its disk stands for
pub end_agrees : (place : Place) (bytes : List ℕ) (opened : Opened) → Agrees place bytes → Stands bytes opened → place.end ≡ end_of opened
end_agrees place bytes opened agrees stands = agrees.end ∙ ap end_of (same_log bytes agrees.opened opened agrees.stands stands)

-- a call that was not made leaves what stood there
pub none_leaves : (disks : Disks) (disk : ℕ) (opened : Opened) (body bytes : List ℕ) → IsSettled disks disk → disks.content disk ≡ Some bytes → Stands bytes opened → Leaves disks disks disk (IsBeforeOrAfter opened body)
none_leaves disks disk opened body bytes settled told stands =
    leaves_none disks disk (IsBeforeOrAfter opened body) (λ image left. inl (subst (λ (l : List ℕ). Stands l opened) (sym (settled bytes told image left)) stands))

-- a disk that told its content goes on to tell it
pub told_on : (before after : Option (List ℕ)) (bytes : List ℕ) → is_some after ≡ is_some before → before ≡ Some bytes → (now : List ℕ) × (after ≡ Some now)
told_on before (Some now) bytes same told = (now, refl)
told_on (Some old) None bytes same told = cc
told_on None None bytes same told = cc

-- After Ok each image has the record.
pub kept_after : (d0 d1 : Disks) (disk : ℕ) (after : Opened) (bytes : List ℕ) → OnDisk d0 d1 disk → IsSettled d1 disk → d0.content disk ≡ Some bytes → WhereTold d1 disk (λ final. Stands final after) → (image : List ℕ) → MayLeave d1 disk image → Stands image after
kept_after d0 d1 disk after bytes alone settled told stands image left =
    let now = told_on (d0.content disk) (d1.content disk) bytes alone.told told in
    subst (λ (l : List ℕ). Stands l after) (sym (settled now.0 now.1 image left)) (stands now.0 now.1)

-- The log agrees with its disk again.
pub agrees_after : (d0 d1 : Disks) (old new : Place) (body : List ℕ) → OnDisk d0 d1 old.disk → WhereTold d0 old.disk (Agrees old) → new.sequence ≡ old.sequence → new.end ≡ old.end + (5 + length body) → ((opened : Opened) → old.end ≡ end_of opened → WhereTold d0 old.disk (λ bytes. Stands bytes opened → WhereTold d1 old.disk (λ final. Stands final (with_body opened body)))) → WhereTold d1 old.disk (Agrees new)
agrees_after d0 d1 old new body alone agrees sequence end appended final told =
    let was = told_on (d1.content old.disk) (d0.content old.disk) final (sym alone.told) told in
    let before = agrees was.0 was.1 in
    record {
      opened = with_body before.opened body;
      stands = appended before.opened before.end was.0 was.1 before.stands final told;
      sequence = sequence ∙ before.sequence;
      end = omega (arith, end, before.end, end_more before.opened body);
    }
