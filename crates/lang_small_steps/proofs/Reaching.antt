-- Runs of small steps: they go on, over any objects that agree on what was read, and with any more names.
use Rattle.std.proofs.Common.{◌≡◌, ℕ, List, [], ◌∷◌, ◌++◌, Option, Result, Ok, Err, refl, ap, sym, ◌∙◌, subst}
use Rattle.std.proofs.Common.{append_assoc}
use Rattle.std.proofs.lemmas.List.{append-nil}
use Rattle.thor_value.specs.declared.names.Oref.{Oref}
use Rattle.law_frame.proofs.Alike.{Sound}
use Rattle.lang_small_steps.proofs.AlikeMoves.{Goes, move_goes}
use Rattle.lang_small_steps.proofs.MoreCreated.{GoesOn, move_more}
use Rattle.lang_small_steps.proofs.Sound.{move_sound}
use Rattle.lang_small_steps.specs.Reaches.{Agree, Begins, Reaches, granted, over}
use Rattle.lang_small_steps.specs.Resume.{Left, move, rest_of}
use Rattle.class_defs.specs.Run.{execute_all}
use Rattle.class_defs.specs.Statements.{block_of}
use Rattle.class_defs.specs.Steps.{Action, after}
use Rattle.class_defs.specs.declared.machine.Flow.{Flow}
use Rattle.class_defs.specs.declared.machine.Machine.{Machine}
use Rattle.class_defs.specs.declared.machine.Stop.{Stop}
use Rattle.class_defs.specs.declared.statements.Stmt.{Stmt}
use Rattle.class_defs.specs.declared.store.Object.{Object}
use Rattle.class_defs.specs.declared.store.Schema.{Schema}
use Rattle.lang_small_steps.specs.declared.frames.Doing.TheVariants as doing

none_granted : (m : Machine) → granted [] m ≡ m
none_granted m = ap (λ (xs : List Oref). record m { names = record m.names { waiting = xs } }) (append-nil m.names.waiting)

granted_on : (new more : List Oref) (m : Machine) → granted more (granted new m) ≡ granted (new ++ more) m
granted_on new more m = ap (λ (xs : List Oref). record m { names = record m.names { waiting = xs } }) (append_assoc m.names.waiting new more)

module _ (s : Schema) (f : Oref → Option Object) where
  pub goes_on : (a b c : Left) (m n o : Machine) → Reaches s f a m b n → move (over s f) b.doing b.stack n ≡ (Ok c, o) → Reaches s f a m c o
  goes_on a b c m n o so_far is =
      let known : Sound n = record { this = so_far.this; created = so_far.created } in
      let goes : (g : Oref → Option Object) → Goes s f g n (Ok c) o (move (over s g) b.doing b.stack n) = λ g.
      subst (λ (p : Result Left Stop × Machine). Goes s f g n p.0 p.1 (move (over s g) b.doing b.stack n)) is (move_goes s f g b.doing b.stack n known so_far.waiting) in
      let then_known : Sound o = (goes f).went.sound c refl in
      let on : (more : List Oref) → GoesOn (over s f) b.doing b.stack more n c o = λ more. move_more (over s f) b.doing b.stack more n o c so_far.names is in
      record {
        same = λ g agree more.
            so_far.same g (λ x h. agree x ((goes f).went.grows.reads x h)) more
            ∙ ap (λ (q : Action Flow). q (granted more n)) (move_sound (over s g) b.doing b.stack)
            ∙ ap (λ (p : Result Left Stop × Machine). after p.0 p.1 (rest_of (over s g))) (move_more (over s g) b.doing b.stack more n o c so_far.names ((goes g).went.same tt agree)).0;
        reads = λ x h. (goes f).went.grows.reads x (so_far.reads x h);
        this = then_known.this;
        created = then_known.created;
        waiting = (goes f).waiting c refl;
        names = (on []).1;
      }

  pub begins : (tx : List Stmt) (names : List Oref) → Begins s f tx names
  unfolding execute_all block_of
  begins tx names = (λ more. refl, record { same = λ g agree more. refl; reads = λ x h. h; this = tt; created = λ x h. cc; waiting = (tt, (tt, tt)); names = refl })

  -- over other objects that agree
  pub over_others : (g : Oref → Option Object) (a b : Left) (m n : Machine) → Reaches s f a m b n → Agree f g n → Reaches s g a m b n
  over_others g a b m n r agree = record {
    same = λ h more_agree more. r.same h (λ x k. more_agree x k ∙ agree x k) more;
    reads = r.reads;
    this = r.this;
    created = r.created;
    waiting = r.waiting;
    names = r.names;
  }

  -- with more names
  pub with_more : (new : List Oref) (a b : Left) (m n : Machine) → Reaches s f a m b n → Reaches s f a (granted new m) b (granted new n)
  with_more new a b m n r = record {
    same = λ g agree more.
        ap (λ (o : Machine). rest_of (over s g) a o) (granted_on new more m)
        ∙ r.same g agree (new ++ more)
        ∙ ap (λ (o : Machine). rest_of (over s g) b o) (sym (granted_on new more n));
    reads = r.reads;
    this = r.this;
    created = r.created;
    waiting = r.waiting;
    names = r.names;
  }

  -- as it stands
  comes_to : (a b : Left) (m n : Machine) → Reaches s f a m b n → rest_of (over s f) a m ≡ rest_of (over s f) b n
  comes_to a b m n r =
      ap (λ (o : Machine). rest_of (over s f) a o) (sym (none_granted m))
      ∙ r.same f (λ x h. refl) []
      ∙ ap (λ (o : Machine). rest_of (over s f) b o) (none_granted n)

  pub ends : (a : Left) (m n : Machine) (g : Flow) → Reaches s f a m (record { doing = doing.Give g; stack = [] }) n → rest_of (over s f) a m ≡ (Ok g, n)
  ends a m n g r = comes_to a (record { doing = doing.Give g; stack = [] }) m n r

  pub stops : (a b : Left) (m n o : Machine) (t : Stop) → Reaches s f a m b n → move (over s f) b.doing b.stack n ≡ (Err t, o) → rest_of (over s f) a m ≡ (Err t, o)
  stops a b m n o t r is =
      comes_to a b m n r
      ∙ ap (λ (q : Action Flow). q n) (move_sound (over s f) b.doing b.stack)
      ∙ ap (λ (p : Result Left Stop × Machine). after p.0 p.1 (rest_of (over s f))) is
