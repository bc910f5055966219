-- Tokens are a text of a grammar, or can't go on at one place.
use Rattle.std.proofs.Common.{◌≡◌, ◌⊎◌, ℕ, List, [], ◌∷◌, ◌++◌, refl, sym, ap, ◌∙◌, subst, inl, inr, append_assoc, append-nil}
use Rattle.script_text.specs.declared.token.Token.{Token}
use Rattle.method_parse.specs.Texts.{Begins, IsFaultAt}

head_same : (a b : Token) (xs bs : List Token) → a ∷ xs ≡ b ∷ bs → a ≡ b
head_same a b xs bs e = cc

tail_same : (a b : Token) (xs bs : List Token) → a ∷ xs ≡ b ∷ bs → xs ≡ bs
tail_same a b xs bs e = cc

-- of two places in a list: they are one, or one lies before the other
abbrev pub Places : List Token → Token → List Token → Token → Type 0
Places before token other next =
    ((before ≡ other) × (token ≡ next)) ⊎ (((m : List Token) × (other ≡ before ++ token ∷ m)) ⊎ ((m : List Token) × (before ≡ other ++ next ∷ m)))

further : (b o : Token) (before other : List Token) (token next : Token) → b ≡ o → Places before token other next → Places (b ∷ before) token (o ∷ other) next
further b o before other token next e (inl p) = inl (ap (λ t. t ∷ before) e ∙ ap (λ l. o ∷ l) p.0, p.1)
further b o before other token next e (inr (inl k)) = inr (inl (k.0, ap (λ t. t ∷ other) (sym e) ∙ ap (λ l. b ∷ l) k.1))
further b o before other token next e (inr (inr k)) = inr (inr (k.0, ap (λ t. t ∷ before) e ∙ ap (λ l. o ∷ l) k.1))

pub places : (before behind other after : List Token) (token next : Token) → before ++ token ∷ behind ≡ other ++ next ∷ after → Places before token other next
places [] behind [] after token next e = inl (refl, head_same token next behind after e)
places [] behind (o ∷ other) after token next e = inr (inl (other, ap (λ t. t ∷ other) (sym (head_same token o behind (other ++ next ∷ after) e))))
places (b ∷ before) behind [] after token next e = inr (inr (before, ap (λ t. t ∷ before) (head_same b next (before ++ token ∷ behind) after e)))
places (b ∷ before) behind (o ∷ other) after token next e =
    further b o before other token next (head_same b o (before ++ token ∷ behind) (other ++ next ∷ after) e)
    (places before behind other after token next (tail_same b o (before ++ token ∷ behind) (other ++ next ∷ after) e))

module _ {X : Type 0} (Spells : List Token → X → Type 0) where
  -- what begins with more tokens begins with fewer
  pub begins_less : (front more : List Token) → Begins Spells (front ++ more) → Begins Spells front
  begins_less front more b = (more ++ b.0, b.1, subst (λ (l : List Token). Spells l b.1) (append_assoc front more b.0) b.2)

  pub begins_at : (tokens before : List Token) (token : Token) (behind : List Token) → tokens ≡ before ++ token ∷ behind → Begins Spells tokens → Begins Spells (before ++ token ∷ [])
  begins_at tokens before token behind parts b =
      begins_less (before ++ token ∷ []) behind (subst (λ (l : List Token). Begins Spells l) (parts ∙ sym (append_assoc before (token ∷ []) behind)) b)

  pub spelled_begins : (tokens : List Token) (tree : X) → Spells tokens tree → Begins Spells tokens
  spelled_begins tokens tree spells = ([], tree, subst (λ (l : List Token). Spells l tree) (sym (append-nil tokens)) spells)

  -- a text of the grammar has no fault
  pub no_fault : (tokens : List Token) (tree : X) (line : ℕ) → Spells tokens tree → IsFaultAt Spells tokens line → ⊥
  no_fault tokens tree line spells (inl f) = f.ends (begins_at tokens f.before f.token f.behind f.parts (spelled_begins tokens tree spells))
  no_fault tokens tree line spells (inr c) = c.none tree spells

  same_token : (before other : List Token) (token next : Token) → Begins Spells before → (Begins Spells (before ++ token ∷ []) → ⊥)
      → Begins Spells other → (Begins Spells (other ++ next ∷ []) → ⊥) → Places before token other next → token ≡ next
  same_token before other token next b e d f (inl p) = p.1
  same_token before other token next b e d f (inr (inl k)) = absurd (e (begins_at other before token k.0 k.1 d))
  same_token before other token next b e d f (inr (inr k)) = absurd (f (begins_at before other next k.0 k.1 b))

  -- and a fault is on one line
  pub one_line : (tokens : List Token) (line other : ℕ) → IsFaultAt Spells tokens line → IsFaultAt Spells tokens other → line ≡ other
  one_line tokens line other (inl f) (inl g) =
      let same : f.token ≡ g.token = same_token f.before g.before f.token g.token f.begins f.ends g.begins g.ends
      (places f.before f.behind g.before g.behind f.token g.token (sym f.parts ∙ g.parts)) in
      f.on_line ∙ ap (λ (t : Token). t.line) same ∙ sym g.on_line
  one_line tokens line other (inl f) (inr c) = absurd (f.ends (begins_at tokens f.before f.token f.behind f.parts c.begins))
  one_line tokens line other (inr c) (inl f) = absurd (f.ends (begins_at tokens f.before f.token f.behind f.parts c.begins))
  one_line tokens line other (inr c) (inr d) = c.on_line ∙ sym d.on_line
