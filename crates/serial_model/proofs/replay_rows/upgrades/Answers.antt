use Rattle.std.proofs.Common.{◌≡◌, ap, arith, length, refl, [], Option, Some, unwrap_or}
use Rattle.class_defs.specs.UpgradeLinesAside.{upgrade_on_line_1}
use Rattle.class_defs.specs.Upgrades.{up}
use Rattle.class_defs.specs.declared.upgrades.Upgrade.{Upgrade}
use Rattle.serial_model.specs.ReplayRows.{shift}
use Rattle.serial_model.proofs.replay_rows.upgrades.Goals as goal

-- upgrades that are one name as many classes
as_many : (a b : Upgrade) → (let o : Option Upgrade = Some a in o ≡ Some b) → length a.classes ≡ length b.classes
as_many a b h = ap (λ (o : Option Upgrade). length (unwrap_or o a).classes) h

pub returns : goal.returns
unfolding up
returns c = record {
  first = record { rising = tt; each = (record { number = refl; fresh = refl; answer = refl; upgrade = refl }, tt) };
  number_of_a_later_one = λ h. let e = h.each.0.number in absurd (omega arith);
  number_of_a_transaction = λ h. let e = h.each.0.number in absurd (omega arith);
  installed_twice = λ h. let e = h.each.1.0.number in absurd (omega arith);
  that_nobody_declared = λ h. let e = h.each.1.0.upgrade in cc;
  on_another_line = record { rising = tt; each = (record { number = refl; fresh = refl; answer = refl; upgrade = refl }, tt) };
  another_one = λ h. let e : 1 ≡ 0 = as_many (upgrade_on_line_1 (shift 9)) (upgrade_on_line_1 (record (shift 9) { classes = [] })) h.each.0.upgrade in absurd (omega arith);
  that_prints = λ h. let e = h.each.0.answer in cc;
  that_creates = λ h. let e = h.each.0.fresh in cc;
}
