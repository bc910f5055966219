-- How readers of parts make a reader of the whole.
use Rattle.std.proofs.Common.{◌≡◌, ap, sym, ◌∙◌, append_assoc, subst, inl, inr, List, [], ◌∷◌, ◌++◌, Err}
use Rattle.script_parse.specs.Reads.{Each, FirstRefused, Reads}
use Rattle.script_parse.specs.declared.error.ReadError.{ReadError}
use Rattle.script_parse.specs.declared.error.ReadError.TheVariants as errors
use Rattle.script_parse.specs.declared.refusal.Refusal.{Refusal}

-- one more of some texts was taken
pub behind_one : {A : Type 0} (yielded rest left all : List A) (text : A) → yielded ++ rest ≡ all → rest ≡ text ∷ left → yielded ++ text ∷ left ≡ all
behind_one yielded rest left all text whole next = ap (λ xs. yielded ++ xs) (sym next) ∙ whole

pub next_one : {A : Type 0} (yielded rest left all : List A) (text : A) → yielded ++ rest ≡ all → rest ≡ text ∷ left → (yielded ++ text ∷ []) ++ left ≡ all
next_one yielded rest left all text whole next = append_assoc yielded (text ∷ []) left ∙ behind_one yielded rest left all text whole next

module _ {A T : Type 0} (Is : A → T → Type 0) (IsRefused : A → Refusal → Type 0) where
  each_end : (texts : List A) (trees : List T) (text : A) (tree : T) → Each Is texts trees → Is text tree → Each Is (texts ++ text ∷ []) (trees ++ tree ∷ [])
  each_end [] [] text tree each is = (is, tt)
  each_end [] (t ∷ trees) text tree each is = absurd each
  each_end (a ∷ texts) [] text tree each is = absurd each
  each_end (a ∷ texts) (t ∷ trees) text tree each is = (each.0, each_end texts trees text tree each.1 is)

  -- one more text that is a tree
  pub each_more : (texts : List A) (trees pushed : List T) (text : A) (tree : T) → pushed ≡ trees ++ tree ∷ [] → Each Is texts trees → Is text tree → Each Is (texts ++ text ∷ []) pushed
  each_more texts trees pushed text tree put each is =
      let P : List T → Type 0 = λ ts. Each Is (texts ++ text ∷ []) ts in
      subst P (sym put) (each_end texts trees text tree each is)

  -- the first one that is none
  refused_at : (texts : List A) (trees : List T) (text : A) (rest : List A) (r : Refusal) → Each Is texts trees → IsRefused text r → FirstRefused Is IsRefused (texts ++ text ∷ rest) r
  refused_at [] trees text rest r each refused = inl refused
  refused_at (a ∷ texts) [] text rest r each refused = absurd each
  refused_at (a ∷ texts) (t ∷ trees) text rest r each refused = inr (t, (each.0, refused_at texts trees text rest r each.1 refused))

  pub refused_first : (texts : List A) (trees : List T) (text : A) (rest all : List A) (error : ReadError) → texts ++ text ∷ rest ≡ all → Each Is texts trees → Reads (Is text) (IsRefused text) (Err error)
      → Reads (Each Is all) (FirstRefused Is IsRefused all) (Err error)
  refused_first texts trees text rest all (errors.Refused r) whole each refused = let P : List A → Type 0 = λ xs. FirstRefused Is IsRefused xs r in subst P whole (refused_at texts trees text rest r each refused)
  refused_first texts trees text rest all errors.NoMemory whole each refused = tt
