-- What holds of a reader: what it takes from the front says the value, and where it is stuck, the tokens
-- before begin a text that says some value.
use Rattle.std.proofs.Common.{◌≡◌, ℕ, zero, suc, Bool, true, false, cond, List, [], ◌∷◌, ◌++◌, length, Result, Ok, Err, refl, sym, ap, subst, ◌∙◌, append_assoc}
use Rattle.std.proofs.lemmas.List.{append-nil}
use Rattle.script_text.specs.declared.token.Token.{Token}
use Rattle.method_parse.specs.Reader.{Reader, onward, ◌>>=◌, give, stuck, next, if_next, repeat, repeat_all}

-- which tokens say a value
abbrev pub Says : Type 0 → Type 1
Says X = X → List Token → Type 0

-- a front of the tokens, of which a fact holds
pub record Took (tokens rest : List Token) (P : List Token → Type 0) : Type 0 where
  pub front : List Token
  pub parts : tokens ≡ front ++ rest
  pub said : P front

-- a front of the tokens, and what could stand behind it
pub record Broke {X : Type 0} (S : Says X) (tokens : List Token) (left : ℕ) : Type 0 where
  pub front : List Token
  pub rest : List Token
  pub more : List Token
  pub value : X
  pub parts : tokens ≡ front ++ rest
  pub at : left ≡ length rest
  pub begins : S value (front ++ more)

abbrev pub Reads : {X : Type 0} → Says X → List Token → Result (X × List Token) ℕ → Type 0
Reads S tokens (Ok read) = Took tokens read.1 (S read.0)
Reads S tokens (Err left) = Broke S tokens left

-- some text of a value
pub record Some_text {X : Type 0} (S : Says X) : Type 0 where
  pub value : X
  pub text : List Token
  pub said : S value text

pub record Lawful {X : Type 0} (S : Says X) (reader : Reader X) : Type 0 where
  pub reads : (tokens : List Token) → Reads S tokens (reader tokens)
  pub some : Some_text S

-- a relation behind tokens that were taken
abbrev pub behind : {X : Type 0} → List Token → Says X → Says X
behind front S = λ x text. S x (front ++ text)

some_behind : {X : Type 0} (S : Says X) (front : List Token) → Some_text (behind front S) → Some_text S
some_behind S front some = record { value = some.value; text = front ++ some.text; said = some.said }

reads_behind : {X : Type 0} (S : Says X) (tokens front rest : List Token) (r : Result (X × List Token) ℕ) → tokens ≡ front ++ rest
    → Reads (behind front S) rest r → Reads S tokens r
reads_behind S tokens front rest (Ok read) parts took = record {
  front = front ++ took.front;
  parts = parts ∙ ap (λ (t : List Token). front ++ t) took.parts ∙ sym (append_assoc front took.front read.1);
  said = took.said;
}
reads_behind S tokens front rest (Err left) parts broke = record {
  front = front ++ broke.front;
  rest = broke.rest;
  more = broke.more;
  value = broke.value;
  parts = parts ∙ ap (λ (t : List Token). front ++ t) broke.parts ∙ sym (append_assoc front broke.front broke.rest);
  at = broke.at;
  begins = subst (λ (t : List Token). S broke.value t) (sym (append_assoc front broke.front broke.more)) broke.begins;
}

reads_onward : {A B : Type 0} (SA : Says A) (SB : Says B) (next : A → Reader B) (tokens : List Token) (r : Result (A × List Token) ℕ)
    → Reads SA tokens r → ((a : A) (front : List Token) → SA a front → Lawful (behind front SB) (next a)) → Reads SB tokens (onward r next)
reads_onward SA SB next tokens (Ok read) took law =
    reads_behind SB tokens took.front read.1 (next read.0 read.1) took.parts ((law read.0 took.front took.said).reads read.1)
reads_onward SA SB next tokens (Err left) broke law =
    let some = (law broke.value (broke.front ++ broke.more) broke.begins).some in
    record {
      front = broke.front;
      rest = broke.rest;
      more = broke.more ++ some.text;
      value = some.value;
      parts = broke.parts;
      at = broke.at;
      begins = subst (λ (t : List Token). SB some.value t) (append_assoc broke.front broke.more some.text) some.said;
    }

-- one reader behind another
pub lawful_bind : {A B : Type 0} {SA : Says A} {SB : Says B} {reader : Reader A} {next : A → Reader B} → Lawful SA reader
    → ((a : A) (front : List Token) → SA a front → Lawful (behind front SB) (next a)) → Lawful SB (reader >>= next)
lawful_bind {SA = SA} {SB = SB} {reader = reader} {next = next} first law = record {
  reads = λ tokens. reads_onward SA SB next tokens (reader tokens) (first.reads tokens) law;
  some = some_behind SB first.some.text (law first.some.value first.some.text first.some.said).some;
}

-- a value that was said by no more tokens
pub lawful_give : {X : Type 0} {S : Says X} (x : X) → S x [] → Lawful S (give x)
lawful_give x said = record {
  reads = λ tokens. record { front = []; parts = refl; said = said };
  some = record { value = x; text = []; said = said };
}

reads_made : {A B : Type 0} (SA : Says A) (SB : Says B) (made : A → B) (tokens : List Token) (r : Result (A × List Token) ℕ)
    → Reads SA tokens r → ((a : A) (front : List Token) → SA a front → SB (made a) front) → Reads SB tokens (onward r (λ a. give (made a)))
reads_made SA SB made tokens (Ok read) took law = record { front = took.front; parts = took.parts; said = law read.0 took.front took.said }
reads_made SA SB made tokens (Err left) broke law = record {
  front = broke.front;
  rest = broke.rest;
  more = broke.more;
  value = made broke.value;
  parts = broke.parts;
  at = broke.at;
  begins = law broke.value (broke.front ++ broke.more) broke.begins;
}

-- the last reader of a row, and what is made of all
pub lawful_last : {A B : Type 0} {SA : Says A} {SB : Says B} {reader : Reader A} (made : A → B) → Lawful SA reader
    → ((a : A) (front : List Token) → SA a front → SB (made a) front) → Lawful SB (reader >>= λ a. give (made a))
lawful_last {SA = SA} {SB = SB} {reader = reader} made last law = record {
  reads = λ tokens. reads_made SA SB made tokens (reader tokens) (last.reads tokens) law;
  some = record { value = made last.some.value; text = last.some.text; said = law last.some.value last.some.text last.some.said };
}

-- no token can stand here, where some text can
pub lawful_stuck : {X : Type 0} {S : Says X} → Some_text S → Lawful S stuck
lawful_stuck some = record {
  reads = λ tokens. record { front = []; rest = tokens; more = some.text; value = some.value; parts = refl; at = refl; begins = some.said };
  some = some;
}

-- the same under a weaker relation
reads_as : {X : Type 0} (S T : Says X) (tokens : List Token) (r : Result (X × List Token) ℕ) → ((x : X) (text : List Token) → S x text → T x text)
    → Reads S tokens r → Reads T tokens r
reads_as S T tokens (Ok read) weaker took = record { front = took.front; parts = took.parts; said = weaker read.0 took.front took.said }
reads_as S T tokens (Err left) weaker broke = record {
  front = broke.front;
  rest = broke.rest;
  more = broke.more;
  value = broke.value;
  parts = broke.parts;
  at = broke.at;
  begins = weaker broke.value (broke.front ++ broke.more) broke.begins;
}

pub lawful_as : {X : Type 0} {S T : Says X} {reader : Reader X} → ((x : X) (text : List Token) → S x text → T x text) → Lawful S reader → Lawful T reader
lawful_as {S = S} {T = T} {reader = reader} weaker law = record {
  reads = λ tokens. reads_as S T tokens (reader tokens) weaker (law.reads tokens);
  some = record { value = law.some.value; text = law.some.text; said = weaker law.some.value law.some.text law.some.said };
}

chosen : {X : Type 0} (S : Says X) (one other : Reader X) (tokens : List Token) (b : Bool) → (b ≡ true → Reads S tokens (one tokens)) → Reads S tokens (other tokens)
    → Reads S tokens (cond b (one tokens) (other tokens))
chosen S one other tokens true first second = first refl
chosen S one other tokens false first second = second

-- where the test holds of the next token, one reader, else another
passes : {X : Type 0} (S : Says X) (test : Token → Bool) (one : Reader X) → ((t : Token) → test t ≡ true → Lawful S one) → (tokens : List Token) → next test tokens ≡ true → Reads S tokens (one tokens)
passes S test one law [] e = absurd cc
passes S test one law (t ∷ ts) e = (law t e).reads (t ∷ ts)

pub lawful_if : {X : Type 0} {S : Says X} (test : Token → Bool) {one other : Reader X} → ((t : Token) → test t ≡ true → Lawful S one) → Lawful S other → Lawful S (if_next test one other)
lawful_if {S = S} test {one = one} {other = other} first second = record {
  reads = λ tokens. chosen S one other tokens (next test tokens) (passes S test one first tokens) (second.reads tokens);
  some = second.some;
}

-- each step goes on with what was said so far
pub lawful_repeat : {X : Type 0} (S : Says X) (test : X → Token → Bool) (step : X → Reader X)
    → ((x : X) (front : List Token) → S x front → (t : Token) → test x t ≡ true → Lawful (behind front S) (step x))
    → (n : ℕ) (x : X) (front : List Token) → S x front → Lawful (behind front S) (repeat n test step x)
unfolding repeat
lawful_repeat S test step law zero x front said = lawful_give x (subst (λ (t : List Token). S x t) (sym (append-nil front)) said)
lawful_repeat S test step law (suc n) x front said =
    lawful_if (test x)
    (λ t e. lawful_bind (law x front said t e) (λ y more s.
    lawful_as (λ z text h. subst (λ (t : List Token). S z t) (append_assoc front more text) h) (lawful_repeat S test step law n y (front ++ more) s)))
    (lawful_give x (subst (λ (t : List Token). S x t) (sym (append-nil front)) said))

pub lawful_repeat_all : {X : Type 0} (S : Says X) (test : X → Token → Bool) (step : X → Reader X)
    → ((x : X) (front : List Token) → S x front → (t : Token) → test x t ≡ true → Lawful (behind front S) (step x))
    → (x : X) (front : List Token) → S x front → Lawful (behind front S) (repeat_all test step x)
lawful_repeat_all S test step law x front said = record {
  reads = λ tokens. (lawful_repeat S test step law (length tokens) x front said).reads tokens;
  some = (lawful_repeat S test step law 0 x front said).some;
}

-- at most so many steps
pub lawful_repeat_up_to : {X : Type 0} (S : ℕ → Says X) (T : Says X) (test : X → Token → Bool) (step : X → Reader X)
    → ((k : ℕ) (x : X) (front : List Token) → S (suc k) x front → (t : Token) → test x t ≡ true → Lawful (behind front (S k)) (step x))
    → ((k : ℕ) (x : X) (text : List Token) → S k x text → T x text)
    → (n : ℕ) (x : X) (front : List Token) → S n x front → Lawful (behind front T) (repeat n test step x)
unfolding repeat
lawful_repeat_up_to S T test step law weaker zero x front said = lawful_give x (subst (λ (t : List Token). T x t) (sym (append-nil front)) (weaker 0 x front said))
lawful_repeat_up_to S T test step law weaker (suc n) x front said =
    lawful_if (test x)
    (λ t e. lawful_bind (law n x front said t e) (λ y more s.
    lawful_as (λ z text h. subst (λ (t : List Token). T z t) (append_assoc front more text) h) (lawful_repeat_up_to S T test step law weaker n y (front ++ more) s)))
    (lawful_give x (subst (λ (t : List Token). T x t) (sym (append-nil front)) (weaker (suc n) x front said)))
