-- What a client's try has written stays what its transaction writes, until that is sent.
use Rattle.client_cache.specs.Copies.{changed}
use Rattle.client_state.proofs.Writing.{nothing_unsent, still_writes}
use Rattle.client_state.specs.Writing.{unsent}
use Rattle.client_state.specs.declared.transaction.Share.{Share}
use Rattle.front_end.specs.Writing.{ClientWrites}
use Rattle.front_end.specs.declared.client.Client.{Client}
use Rattle.paused_eval.specs.declared.copies.Copies.{Copies}
use Rattle.std.proofs.Common.{List, [], ap, arith, length, nat_eq, refl, suc, true, ◌∷◌, ◌≡◌}
use Rattle.std.proofs.lemmas.Bool.{eqb-true}
use Rattle.std.specs.Prelude.{None}

-- the phase and the copies stay
pub same_client : (a b : Client) → b.phase ≡ a.phase → b.held.cache ≡ a.held.cache → ClientWrites a → ClientWrites b
same_client a b p c w = still_writes a.phase b.phase a.held.cache.cache b.held.cache.cache (ap unsent p) (λ x. ap (λ (k : Copies). changed k.cache x) c) w

-- nothing is still to be sent
pub none_unsent : (a : Client) → unsent a.phase ≡ None → ClientWrites a
none_unsent a h = nothing_unsent a.phase a.held.cache.cache h

-- nothing is left to be sent
pub none_left : (shares : List Share) → nat_eq (length shares) 0 ≡ true → shares ≡ []
none_left [] h = refl
none_left (share ∷ shares) h = let none : suc (length shares) ≡ 0 = eqb-true (suc (length shares)) 0 h in absurd (omega (arith, none))
