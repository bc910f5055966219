-- The commits of a history below a place are those of its list whose places are below.
use Rattle.log_entries.specs.declared.entry.Entry.{Entry}
use Rattle.log_entries.specs.declared.request.Request.{Request}
use Rattle.spec_history.proofs.Growth.{length-state}
use Rattle.spec_history.proofs.LastWrite.{commit_shape}
use Rattle.spec_history.specs.History.{Base, State, commit_of, commits, commits_from, put, start, state}
use Rattle.std.proofs.Common.{List, [], ap, arith, drop, inl, inr, length, refl, subst, sym, take, ℕ, ◌+◌, ◌++◌, ◌<◌, ◌≡◌, ◌≤◌, ◌∙◌, ◌∷◌, append_assoc, cond, suc}
use Rattle.std.proofs.lemmas.Bool.{le-ltb, lt-ltb}
use Rattle.std.proofs.lemmas.List.Elements.{filter-append}
use Rattle.std.proofs.lemmas.List.{append-nil, length-take-le, take-append-drop}
use Rattle.std.specs.List.{AllByRecursion, filter, fold}
use Rattle.std.specs.Prelude.{Bool, false, nat_lt, true}

all_append : (P : ℕ × Request → Type 0) (xs ys : List (ℕ × Request)) → AllByRecursion P xs → AllByRecursion P ys → AllByRecursion P (xs ++ ys)
all_append P [] ys h k = k
all_append P (x ∷ xs) ys h k = (h.0, all_append P xs ys h.1 k)

all_weaker : (P Q : ℕ × Request → Type 0) (xs : List (ℕ × Request)) → ((x : ℕ × Request) → P x → Q x) → AllByRecursion P xs → AllByRecursion Q xs
all_weaker P Q [] f h = tt
all_weaker P Q (x ∷ xs) f h = (f x h.0, all_weaker P Q xs f h.1)

filter_all : (p : ℕ × Request → Bool) (xs : List (ℕ × Request)) → AllByRecursion (λ x. p x ≡ true) xs → filter p xs ≡ xs
filter_all p [] h = refl
filter_all p (x ∷ xs) h = ap (λ c. cond c (x ∷ filter p xs) (filter p xs)) h.0 ∙ ap (λ ys. x ∷ ys) (filter_all p xs h.1)

filter_none : (p : ℕ × Request → Bool) (xs : List (ℕ × Request)) → AllByRecursion (λ x. p x ≡ false) xs → filter p xs ≡ []
filter_none p [] h = refl
filter_none p (x ∷ xs) h = ap (λ c. cond c (x ∷ filter p xs) (filter p xs)) h.0 ∙ filter_none p xs h.1

module _ (b : Base) where
  -- the commits of some entries stand at their places
  pub within : (S : State) (H : List Entry) → AllByRecursion (λ c. (S.length ≤ c.0) × (c.0 < S.length + length H)) (commits_from b S H)
  within S [] = tt
  within S (e ∷ H) = all_append _ (commit_of b S e) (commits_from b (put b S e) H)
      (elim (commit_shape b S e) [
        | inl none ↦ subst (AllByRecursion (λ c. (S.length ≤ c.0) × (c.0 < S.length + suc (length H)))) (sym none) tt
        | inr one ↦ subst (AllByRecursion (λ c. (S.length ≤ c.0) × (c.0 < S.length + suc (length H)))) (sym one.1) ((omega arith, omega arith), tt)
      ])
      (all_weaker (λ c. (S.length + 1 ≤ c.0) × (c.0 < (S.length + 1) + length H)) (λ c. (S.length ≤ c.0) × (c.0 < S.length + suc (length H))) (commits_from b (put b S e) H)
      (λ c h. let low : S.length + 1 ≤ c.0 = h.0 in let high : c.0 < (S.length + 1) + length H = h.1 in (omega arith, omega arith))
      (within (put b S e) H))

  commits_from-append : (S : State) (H more : List Entry) → commits_from b S (H ++ more) ≡ commits_from b S H ++ commits_from b (fold (put b) S H) more
  commits_from-append S [] more = refl
  commits_from-append S (e ∷ H) more =
      ap (λ cs. commit_of b S e ++ cs) (commits_from-append (put b S e) H more)
      ∙ sym (append_assoc (commit_of b S e) (commits_from b (put b S e) H) (commits_from b (fold (put b) (put b S e) H) more))

  -- the commits below the place n
  pub commits-take : (n : ℕ) (H : List Entry) → n ≤ length H → commits b (take n H) ≡ filter (λ c. nat_lt c.0 n) (commits b H)
  commits-take n H l =
      let p = λ (c : ℕ × Request). nat_lt c.0 n in
      let G : List Entry = take n H in
      let R : List Entry = drop n H in
      let len : length G ≡ n = length-take-le n H l in
      let end : (state b G).length ≡ length G = length-state b G in
      let early : AllByRecursion (λ c. p c ≡ true) (commits b G) =
      all_weaker (λ c. ((start b).length ≤ c.0) × (c.0 < (start b).length + length G)) (λ c. p c ≡ true) (commits b G)
      (λ c h. let high : c.0 < 0 + length G = h.1 in lt-ltb c.0 n (omega arith)) (within (start b) G) in
      let late : AllByRecursion (λ c. p c ≡ false) (commits_from b (state b G) R) =
      all_weaker (λ c. ((state b G).length ≤ c.0) × (c.0 < (state b G).length + length R)) (λ c. p c ≡ false) (commits_from b (state b G) R)
      (λ c h. let low : (state b G).length ≤ c.0 = h.0 in le-ltb c.0 n (omega arith)) (within (state b G) R) in
      let whole : commits b H ≡ commits b G ++ commits_from b (state b G) R = ap (λ (K : List Entry). commits b K) (sym (take-append-drop n H)) ∙ commits_from-append (start b) G R in
      sym (
      ap (filter p) whole
      ∙ filter-append p (commits b G) (commits_from b (state b G) R)
      ∙ ap (λ cs. cs ++ filter p (commits_from b (state b G) R)) (filter_all p (commits b G) early)
      ∙ ap (λ cs. commits b G ++ cs) (filter_none p (commits_from b (state b G) R) late)
      ∙ append-nil (commits b G)
      )
