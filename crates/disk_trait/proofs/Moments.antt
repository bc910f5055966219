-- What a disk in memory could have left at each moment.
use Rattle.std.proofs.Common.{◌≡◌, ℕ, ◌<◌, ◌≤◌, Bool, true, false, nat_le, List, [], ◌∷◌, MatchBool, sym, subst, arith}
use Rattle.std.proofs.lemmas.Bool.Decides.{nat_tests}
use Rattle.disk_trait.specs.Record.{ImageNow, ImageAt, undone, newest}
use Rattle.disk_trait.specs.declared.record.Call.{Call}

pick_true : (test : Bool) (P Q : Type 0) → test ≡ true → MatchBool test P Q → P
pick_true true P Q is h = h
pick_true false P Q is h = cc

pick_false : (test : Bool) (P Q : Type 0) → test ≡ false → MatchBool test P Q → Q
pick_false true P Q is h = cc
pick_false false P Q is h = h

give_false : (test : Bool) (P Q : Type 0) → test ≡ false → Q → MatchBool test P Q
give_false true P Q is h = cc
give_false false P Q is h = h

-- From the newest call on a crash leaves what it leaves now.
pub at_now : (moment : ℕ) (calls : List Call) (bytes image : List ℕ) → newest calls ≤ moment → ImageAt moment calls bytes image → ImageNow calls bytes image
at_now moment [] bytes image past left = left
at_now moment (call ∷ calls) bytes image past left = pick_true (nat_le call.time moment) _ _ (grind (arith, nat_tests)) left

-- Before a call it left what it left without the call.
module _ (moment : ℕ) (call : Call) (calls : List Call) (old new image : List ℕ) (earlier : moment < call.time) (back : undone call.did new ≡ old) where
  later : nat_le call.time moment ≡ false
  later = grind (arith, nat_tests)

  pub at_before : ImageAt moment (call ∷ calls) new image → ImageAt moment calls old image
  at_before left = subst (λ bytes. ImageAt moment calls bytes image) back (pick_false (nat_le call.time moment) _ _ later left)

  pub before_at : ImageAt moment calls old image → ImageAt moment (call ∷ calls) new image
  before_at left = give_false (nat_le call.time moment) _ _ later (subst (λ bytes. ImageAt moment calls bytes image) (sym back) left)
