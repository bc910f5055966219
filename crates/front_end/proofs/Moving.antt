-- What is left for a client falls.
use Rattle.front_end.specs.Moving.{Keeps, left_of, standing_of, uncounted}
use Rattle.front_end.specs.declared.client.Client.{Client}
use Rattle.front_end.specs.declared.front_end.FrontEnd.{FrontEnd}
use Rattle.client_items.proofs.Falling.{both_fall, nothing_rises, stands_still, uncounted_falls}
use Rattle.client_items.specs.Falling.{Falls, Left, NeverRises, left_by}
use Rattle.std.proofs.Common.{ap, inl, inr, subst, sym, ◌<◌, ◌≡◌, ◌∙◌, ℕ}
use Rattle.std.proofs.Math.Nat.{le_of_eq}
use Rattle.std.specs.Prelude.{◌≤◌}

-- Nothing of what is counted has changed, and what isn't has fallen.
pub same_standing_falls : (old new : FrontEnd) → new.progress ≡ old.progress → new.attempts ≡ old.attempts
    → uncounted old.attempts.each new.client < uncounted old.attempts.each old.client → Falls (left_of old) (left_of new)
same_standing_falls old new progress attempts less = subst (λ each. Falls (left_of old) (left_by (standing_of new) (uncounted each new.client))) (ap (λ a. a.each) (sym attempts)) (uncounted_falls (standing_of old) (standing_of new) (uncounted old.attempts.each old.client) (uncounted old.attempts.each new.client) (inl (stands_still (standing_of old) (standing_of new) progress attempts)) less)

-- what stays or falls, twice
pub both_keep : (a b c : Left) → Keeps a b → Keeps b c → Keeps a c
both_keep a b c (inl p) (inl q) = inl (q ∙ p)
both_keep a b c (inl p) (inr q) = inr (subst (λ l. Falls l c) p q)
both_keep a b c (inr p) (inl q) = inr (subst (Falls a) (sym q) p)
both_keep a b c (inr p) (inr q) = inr (both_fall a b c p q)

-- What a client's function has left uncounted, with what was taken down behind it, never rises.
pub keeps_behind : (old new : FrontEnd) (client : Client) → NeverRises (standing_of old) (standing_of new) → new.attempts.each ≡ old.attempts.each
    → ((n : ℕ) → uncounted n new.client ≡ uncounted n client) → ((n : ℕ) → uncounted n client ≤ uncounted n old.client)
    → Keeps (left_of old) (left_of new)
keeps_behind old new client never each same less = subst (λ (m : ℕ). Keeps (left_of old) (left_by (standing_of new) m)) (sym (ap (λ (e : ℕ). uncounted e new.client) each ∙ same old.attempts.each)) (nothing_rises (standing_of old) (standing_of new) (uncounted old.attempts.each old.client) (uncounted old.attempts.each client) never (less old.attempts.each))

-- What isn't counted has fallen by a client's function, and what was taken down behind it never rises.
pub falls_behind : (old new : FrontEnd) (client : Client) (tries : ℕ) → NeverRises (standing_of old) (standing_of new) → new.attempts.each ≡ old.attempts.each
    → ((n : ℕ) → uncounted n new.client ≡ uncounted n client) → tries ≡ old.attempts.each → uncounted tries client < uncounted tries old.client
    → Falls (left_of old) (left_of new)
falls_behind old new client tries never each same is less = subst (λ (m : ℕ). Falls (left_of old) (left_by (standing_of new) m)) (sym (ap (λ (e : ℕ). uncounted e new.client) each ∙ same old.attempts.each)) (uncounted_falls (standing_of old) (standing_of new) (uncounted old.attempts.each old.client) (uncounted old.attempts.each client) never (subst (λ (e : ℕ). uncounted e client < uncounted e old.client) is less))

-- a client of which what it holds has changed alone owes as much
pub nothing_owed : (old new : Client) → new ≡ record old { held = new.held } → (n : ℕ) → uncounted n new ≤ uncounted n old
nothing_owed old new same n = le_of_eq (ap (λ (c : Client). uncounted n c) same)
