-- What was taken and what waits is what was pushed.
use Rattle.session_outbox.specs.Calls.{Call, Push, Take, after, call, pushed, pushed_by, taken, taken_by}
use Rattle.session_outbox.specs.Messages.{NeverFall, NeverFallFrom, first, place_of}
use Rattle.session_outbox.specs.Outbox as outbox
use Rattle.session_outbox.specs.Outbox.{Waiting, pushed_to, replace, taken_from, waiting}
use Rattle.session_outbox.specs.declared.message.Message.{Message}
use Rattle.std.proofs.Common.{Bool, List, [], ap, append_assoc, cond, drop, false, map, nat_eq, refl, subst, sym, true, ◌++◌, ◌∙◌, ◌∷◌, ◌≡◌, ℕ}
use Rattle.std.proofs.lemmas.Bool.{eq-eqb, eqb-true}
use Rattle.std.proofs.lemmas.Cmp.{eq_by_cmp_equiv}
use Rattle.std.proofs.lemmas.List.{append-nil, map-append}
use Rattle.std.proofs.lemmas.Map.{lookup-set_value}
use Rattle.std.specs.BTreeMap.{is_at}
use Rattle.std.specs.Cmp.{nat_cmp_total}
use Rattle.std.specs.Option.{IsSome, option_to_list, unwrap_or}
use Rattle.std.specs.Ordering.{eq_by_cmp, is_eq, nat_cmp}
use Rattle.std.specs.Prelude.{None, Option, Some}
use Rattle.std.specs.declared.cmp.Ordering.TheVariants.{Equal, Greater, Less}
use Rattle.std.specs.declared.cmp.Ordering.{Ordering}
use Rattle.thor_value.proofs.FiniteMap.{get-insert}
use Rattle.thor_value.specs.FiniteMap.{empty, get, insert}

-- ---- the lines of one session

equal : (r : Ordering) → is_eq r ≡ true → r ≡ Equal
equal Equal h = refl
equal Less h = cc
equal Greater h = cc

-- two numbers are one by the order exactly where they are
same_test : (a b : ℕ) → eq_by_cmp nat_cmp a b ≡ nat_eq a b
same_test a b = grind (Rattle.std.proofs.Common.arith, Rattle.std.proofs.lemmas.Bool.Decides.nat_tests)

get_replace : (W : Waiting) (n s : ℕ) (ms os : List Message) → get W n ≡ Some os → get (replace W n ms) s ≡ cond (nat_eq n s) (Some ms) (get W s)
get_replace W n s ms os h =
    let there : IsSome (get W n) = rw h refl in
    lookup-set_value (eq_by_cmp_equiv nat_cmp_total) (is_at (nat_cmp n)) (λ x y t. (eq_by_cmp_equiv nat_cmp_total).congr n x y t) s ms W.pairs there
    ∙ ap (λ (t : Bool). cond t (Some ms) (get W s)) (same_test n s)

pub get_with : (W : Waiting) (n s : ℕ) (ms : List Message) → get (insert W n ms) s ≡ cond (nat_eq n s) (Some ms) (get W s)
get_with W n s ms = get-insert nat_cmp_total W n ms s ∙ ap (λ (t : Bool). cond t (Some ms) (get W s)) (same_test s n ∙ turned (nat_eq s n) refl (nat_eq n s) refl)
  where
    turned : (a : Bool) → nat_eq s n ≡ a → (b : Bool) → nat_eq n s ≡ b → a ≡ b
    turned true e true f = refl
    turned false e false f = refl
    turned true e false f = let g : nat_eq n s ≡ true = eq-eqb n s (sym (eqb-true s n e)) in cc
    turned false e true f = let g : nat_eq s n ≡ true = eq-eqb s n (sym (eqb-true n s f)) in cc

-- what waits for s behind a message for n
pub behind_push : (W : Waiting) (n s : ℕ) (m : Message) → waiting (outbox.push W n m) s ≡ waiting W s ++ cond (nat_eq n s) (m ∷ []) []
behind_push W n s m = by (get W n) refl (nat_eq n s) refl
  where
    by : (o : Option (List Message)) → get W n ≡ o → (t : Bool) → nat_eq n s ≡ t → waiting (pushed_to W n m o) s ≡ waiting W s ++ cond t (m ∷ []) []
    by None f true e = let a : n ≡ s = eqb-true n s e in let b : get W s ≡ None = ap (get W) (sym a) ∙ f in rw (get_with W n s (m ∷ []), e, b) refl
    by None f false e = rw (get_with W n s (m ∷ []), e) (sym (append-nil (waiting W s)))
    by (Some ms) f true e = let a : n ≡ s = eqb-true n s e in let b : get W s ≡ Some ms = ap (get W) (sym a) ∙ f in rw (get_replace W n s (ms ++ m ∷ []) ms f, e, b) refl
    by (Some ms) f false e = rw (get_replace W n s (ms ++ m ∷ []) ms f, e) (sym (append-nil (waiting W s)))

-- what n takes, and what waits for s behind it
pub behind_take : (W : Waiting) (n s : ℕ) → cond (nat_eq n s) (option_to_list (first (waiting W n))) [] ++ waiting (outbox.take W n) s ≡ waiting W s
behind_take W n s = by (get W n) refl (nat_eq n s) refl
  where
    split : (ms : List Message) → option_to_list (first ms) ++ drop 1 ms ≡ ms
    split [] = refl
    split (m ∷ ms) = refl

    by : (o : Option (List Message)) → get W n ≡ o → (t : Bool) → nat_eq n s ≡ t → cond t (option_to_list (first (unwrap_or o []))) [] ++ waiting (taken_from W n o) s ≡ waiting W s
    by None f true e = refl
    by None f false e = refl
    by (Some ms) f true e = let a : n ≡ s = eqb-true n s e in let b : get W s ≡ Some ms = ap (get W) (sym a) ∙ f in rw (get_replace W n s (drop 1 ms) ms f, e, b) (split ms)
    by (Some ms) f false e = rw (get_replace W n s (drop 1 ms) ms f, e) refl

-- ---- sequences of calls

one_call : (s : ℕ) (W : Waiting) (c : Call) → taken_by s W c ++ waiting (call W c) s ≡ waiting W s ++ pushed_by s c
one_call s W (Push n m) = behind_push W n s m
one_call s W (Take n) = behind_take W n s ∙ sym (append-nil (waiting W s))

ordered_from : (s : ℕ) (W : Waiting) (cs : List Call) → taken s W cs ++ waiting (after W cs) s ≡ waiting W s ++ pushed s cs
ordered_from s W [] = sym (append-nil (waiting W s))
ordered_from s W (c ∷ cs) =
    append_assoc (taken_by s W c) (taken s (call W c) cs) (waiting (after (call W c) cs) s)
    ∙ ap (λ (ms : List Message). taken_by s W c ++ ms) (ordered_from s (call W c) cs)
    ∙ sym (append_assoc (taken_by s W c) (waiting (call W c) s) (pushed s cs))
    ∙ ap (λ (ms : List Message). ms ++ pushed s cs) (one_call s W c)
    ∙ append_assoc (waiting W s) (pushed_by s c) (pushed s cs)

pub ordered : (cs : List Call) (s : ℕ) → taken s empty cs ++ waiting (after empty cs) s ≡ pushed s cs
ordered cs s = ordered_from s empty cs

front_never_falls : (o : Option ℕ) (xs ys : List ℕ) → NeverFallFrom o (xs ++ ys) → NeverFallFrom o xs
front_never_falls o [] ys h = tt
front_never_falls o (x ∷ xs) ys h = (h.0, front_never_falls (Some x) xs ys h.1)

pub never_fall : (cs : List Call) (s : ℕ) → NeverFall (map place_of (pushed s cs)) → NeverFall (map place_of (taken s empty cs))
never_fall cs s h =
    let parts : map place_of (pushed s cs) ≡ map place_of (taken s empty cs) ++ map place_of (waiting (after empty cs) s) =
    ap (map place_of) (sym (ordered cs s)) ∙ map-append place_of (taken s empty cs) (waiting (after empty cs) s) in
    front_never_falls None (map place_of (taken s empty cs)) (map place_of (waiting (after empty cs) s)) (subst NeverFall parts h)
