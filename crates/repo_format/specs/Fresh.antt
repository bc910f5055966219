-- What is held of a repository of a new store, before its first Life.
use Rattle.class_defs.specs.Printed.{printed_class}
use Rattle.class_defs.specs.declared.classes.Class.{Class}
use Rattle.class_defs.specs.declared.store.Root.{Root}
use Rattle.class_defs.specs.declared.store.Setup.{Setup}
use Rattle.repo_state.specs.Said.{said}
use Rattle.repo_state.specs.declared.held.Held.{Held}
use Rattle.log_codec.specs.declared.state.State.{State}
use Rattle.page_format.specs.declared.format.StoreFormat.TheVariants.{Two}
use Rattle.std.specs.List.{fold}
use Rattle.std.specs.Prelude.{List, [], cond, max, nat_eq, ◌++◌, ◌+◌, ◌∷◌, ◌≡◌, ℕ}
use Rattle.thor_value.specs.declared.names.Ts.{Ts}

-- the page behind that of a root of this repository, where it is above n
abbrev pub page_behind : ℕ → ℕ → Root → ℕ
page_behind repo n r = cond (nat_eq r.oref.repo repo) (max n (r.oref.page + 1)) n

-- how many pages the roots of a repository take
abbrev pub page_count : ℕ → List Root → ℕ
page_count repo roots = fold (page_behind repo) 0 roots

-- a text behind another: one space stands between two
abbrev pub joined_texts : List ℕ → List ℕ → List ℕ
joined_texts [] text = text
joined_texts (b ∷ bs) text = (b ∷ bs) ++ 32 ∷ text

-- the classes as one text
abbrev pub classes_text : List Class → List ℕ
classes_text classes = fold (λ text c. joined_texts text (printed_class c)) [] classes

-- the timestamp before all others
abbrev pub first_ts : Ts
first_ts = record { time = 0; repo = 0; life = 0 }

-- the state of a repository in which nothing has happened yet, with these pages installed
abbrev pub first_state : ℕ → ℕ → Setup → List (ℕ × ℕ) → State
first_state repo repos setup installed =
    record {
      format = Two;
      repo = repo;
      repos = repos;
      life = 0;
      count = 0;
      threshold = first_ts;
      next_page = page_count repo setup.roots;
      classes = classes_text setup.schema.classes;
      roots = setup.roots;
      upgrades = [];
      installed = installed;
      mob = [];
      prepared = [];
      kept = [];
      alone = [];
    }

-- What is held of a repository of a new store: the first state over its pages, with an empty buffer that is full
-- at so many bytes.
pub record IsFresh (repo repos : ℕ) (setup : Setup) (mob : ℕ) (held : Held) : Type 0 where
  pub said : said held ≡ first_state repo repos setup held.objects.pages.sides
  pub granted : held.next_grant ≡ page_count repo setup.roots
  pub limit : held.objects.mob.limit ≡ mob
