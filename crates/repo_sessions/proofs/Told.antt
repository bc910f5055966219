-- What each session was told of a commit, and which of them are given up.
use Rattle.cached_sets.specs.Noted.{Noted, is_silent, places_of}
use Rattle.cached_sets.specs.Sets as sets
use Rattle.cached_sets.specs.Sets.{Sets}
use Rattle.repo_sessions.proofs.Noted.{place_for, places_noted, places_order, silent_are}
use Rattle.repo_sessions.proofs.Sending.{message_for, names_order, names_wait, upgrade_order, upgrade_waits}
use Rattle.repo_sessions.specs.Noting.{AreNoted, IsGathered, if_any, named, names_of, names_sent, upgrade_sent}
use Rattle.repo_sessions.specs.Sessions.{IsTold, Kept, retire}
use Rattle.repo_sessions.specs.Telling.{Retires, UpgradeTold, WritesTold, message_of, names_for}
use Rattle.session_outbox.specs.Messages.{place_of}
use Rattle.session_outbox.specs.Outbox.{Waiting, waiting}
use Rattle.session_outbox.specs.declared.message.Message.TheVariants.{Invalid, Upgrade}
use Rattle.session_outbox.specs.declared.message.Message.{Message}
use Rattle.std.proofs.Common.{Bool, List, [], ap, cond, false, map, nat_eq, refl, subst, sym, true, ◌++◌, ◌∙◌, ◌∷◌, ◌≡◌, ℕ}
use Rattle.std.specs.List.{fold, list_any}
use Rattle.std.specs.Map.{keys_of}
use Rattle.std.specs.Option.{is_some}
use Rattle.std.specs.Prelude.{None, Option, Some}
use Rattle.thor_value.specs.FiniteMap.{IsSorted, get}
use Rattle.thor_value.specs.declared.names.Oref.{Oref}

any_message : (names : List Oref) (k : ℕ) → message_for (λ ns. Invalid ns k) (if_any names) ≡ message_of names k
any_message [] k = refl
any_message (x ∷ xs) k = refl

any_place : (names : List Oref) (k : ℕ) → place_for k (if_any names) ≡ map place_of (message_of names k)
any_place [] k = refl
any_place (x ∷ xs) k = refl

-- ---- which are given up

retires : (K L M : Kept) (touched : Sets) (ss : List ℕ) (k : ℕ) (silent : List ℕ) → touched.noted ≡ K.sets.noted → AreNoted touched L.sets ss k silent → M ≡ fold retire L silent → Retires K L M
retires K L M touched ss k silent same h rest = record {
  silent = silent;
  each = λ s before.
      ap (list_any (nat_eq s)) h.silent_are
      ∙ silent_are touched.noted ss k s (ap (λ (N : Noted). is_silent N s) same ∙ before)
      ∙ sym (ap (λ (S : Sets). is_silent S.noted s) h.sets);
  rest = rest;
}

-- ---- what is told

-- where the sets were touched, places were noted and each session's names were sent to it
writes_told : (K L : Kept) (w : ℕ) (names : List Oref) (k : ℕ) (es : List (ℕ × List Oref)) (silent : List ℕ) → IsTold K L → AreNoted (sets.touch K.sets w names k) L.sets (keys_of es) k silent → IsGathered K.sets.cached w names (named es) → L.waiting ≡ names_sent K.waiting es k → WritesTold K L w names k
writes_told K L w names k es silent same noted held sent = record {
  same = same;
  sets = noted.sets ∙ ap (λ (N : Noted). record (sets.touch K.sets w names k) { noted = N }) (sym (ap (λ (S : Sets). S.noted) noted.sets));
  notes = λ s.
      ap (λ (S : Sets). places_of S.noted s) noted.sets
      ∙ places_noted K.sets.noted es k s held.order
      ∙ ap (λ (o : Option (List Oref)). places_of K.sets.noted s ++ place_for k o) (held.full s)
      ∙ ap (λ (ks : List ℕ). places_of K.sets.noted s ++ ks) (any_place (names_of (named es) s) k ∙ ap (λ (ns : List Oref). map place_of (message_of ns k)) (held.names_are s) ∙ ap (map place_of) (by s (nat_eq s w)));
  news = λ s.
      ap (λ (W : Waiting). waiting W s) sent
      ∙ names_wait K.waiting es k s held.order
      ∙ ap (λ (o : Option (List Oref)). waiting K.waiting s ++ message_for (λ ns. Invalid ns k) o) (held.full s)
      ∙ ap (λ (ms : List Message). waiting K.waiting s ++ ms) (any_message (names_of (named es) s) k ∙ ap (λ (ns : List Oref). message_of ns k) (held.names_are s) ∙ by s (nat_eq s w));
  order = λ h. subst (λ (W : Waiting). IsSorted W) (sym sent) (names_order K.waiting es k h);
  notes_order = λ h. subst (λ (S : Sets). IsSorted S.noted) (sym noted.sets) (places_order K.sets.noted (keys_of es) k h);
}
  where
    by : (s : ℕ) (t : Bool) → message_of (cond t [] (names_for K.sets s names)) k ≡ cond t [] (message_of (names_for K.sets s names) k)
    by s true = refl
    by s false = refl

pub told_writes : (K L M : Kept) (w : ℕ) (names : List Oref) (k : ℕ) (es : List (ℕ × List Oref)) (silent : List ℕ) → IsTold K L → AreNoted (sets.touch K.sets w names k) L.sets (keys_of es) k silent → IsGathered K.sets.cached w names (named es) → L.waiting ≡ names_sent K.waiting es k
    → M ≡ fold retire L silent → (told : Kept) × WritesTold K told w names k × Retires K told M
told_writes K L M w names k es silent same noted held sent rest =
    (L, writes_told K L w names k es silent same noted held sent, retires K L M (sets.touch K.sets w names k) (keys_of es) k silent refl noted rest)

upgrade_told : (K L : Kept) (number : ℕ) (text : List ℕ) (k : ℕ) (silent : List ℕ) → IsTold K L → AreNoted K.sets L.sets (keys_of K.clients.pairs) k silent → IsSorted K.clients → L.waiting ≡ upgrade_sent K.waiting K.clients.pairs number text k → UpgradeTold K L number text k
upgrade_told K L number text k silent same noted order sent = record {
  same = same;
  sets = noted.sets ∙ ap (λ (N : Noted). record K.sets { noted = N }) (sym (ap (λ (S : Sets). S.noted) noted.sets));
  notes = λ s.
      ap (λ (S : Sets). places_of S.noted s) noted.sets
      ∙ places_noted K.sets.noted K.clients.pairs k s order
      ∙ ap (λ (ks : List ℕ). places_of K.sets.noted s ++ ks) (there (get K.clients s));
  news = λ s.
      ap (λ (W : Waiting). waiting W s) sent
      ∙ upgrade_waits K.waiting K.clients.pairs number text k s order
      ∙ ap (λ (ms : List Message). waiting K.waiting s ++ ms) (by (get K.clients s));
  order = λ h. subst (λ (W : Waiting). IsSorted W) (sym sent) (upgrade_order K.waiting K.clients.pairs number text k h);
  notes_order = λ h. subst (λ (S : Sets). IsSorted S.noted) (sym noted.sets) (places_order K.sets.noted (keys_of K.clients.pairs) k h);
}
  where
    by : (o : Option ℕ) → message_for (λ c. Upgrade number text k) o ≡ cond (is_some o) (Upgrade number text k ∷ []) []
    by None = refl
    by (Some c) = refl

    there : (o : Option ℕ) → place_for k o ≡ cond (is_some o) (k ∷ []) []
    there None = refl
    there (Some c) = refl

pub told_upgrade : (K L M : Kept) (number : ℕ) (text : List ℕ) (k : ℕ) (silent : List ℕ) → IsTold K L → AreNoted K.sets L.sets (keys_of K.clients.pairs) k silent → IsSorted K.clients → L.waiting ≡ upgrade_sent K.waiting K.clients.pairs number text k
    → M ≡ fold retire L silent → (told : Kept) × UpgradeTold K told number text k × Retires K told M
told_upgrade K L M number text k silent same noted order sent rest =
    (L, upgrade_told K L number text k silent same noted order sent, retires K L M K.sets (keys_of K.clients.pairs) k silent refl noted rest)
