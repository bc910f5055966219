-- What is read of a trace is what the definitions say of it, part by part.
use Rattle.log_entries.specs.declared.entry.Entry.{Entry}
use Rattle.log_entries.specs.declared.request.Request.{Request}
use Rattle.spec_history.specs.History.{Base, State, commit_of, commits_from, put, start}
use Rattle.spec_trace.specs.Calls.{connected_at, drawn_from, granted_at}
use Rattle.spec_trace.specs.Session.{session_from}
use Rattle.spec_trace.specs.Trace.{E, Item, M, entries}
use Rattle.std.proofs.Common.{append-nil, append_assoc, ap, arith, refl, subst, sym, ◌≡◌, ◌∙◌}
use Rattle.std.proofs.Math.Nat.{max-zero}
use Rattle.std.specs.List.{fold}
use Rattle.std.specs.Prelude.{List, [], length, max, ℕ, ◌+◌, ◌++◌, ◌∷◌}
use Rattle.model_reading.specs.Reading.{Reading, Tells, begin, reading, step}
use Rattle.spec_trace.specs.Verdict.{verdict}
use Rattle.model_reading.specs.Against.{against}
use Rattle.repo_refusals.specs.Window.{window_from}

module _ (b : Base) (s : ℕ) where
  states : (R : Reading) (T : List Item) → (fold (step b s) R T).state ≡ fold (put b) R.state (entries T)
  states R [] = refl
  states R (E e ∷ is) = states (step b s R (E e)) is
  states R (M m ∷ is) = states (step b s R (M m)) is

  windows : (R : Reading) (T : List Item) → (fold (step b s) R T).window ≡ window_from b R.state R.window (entries T)
  windows R [] = refl
  windows R (E e ∷ is) = windows (step b s R (E e)) is
  windows R (M m ∷ is) = windows (step b s R (M m)) is

  all_commits : (R : Reading) (T : List Item) → (fold (step b s) R T).commits ≡ R.commits ++ commits_from b R.state (entries T)
  all_commits R [] = sym (append-nil R.commits)
  all_commits R (E e ∷ is) = all_commits (step b s R (E e)) is ∙ append_assoc R.commits (commit_of b R.state e) (commits_from b (put b R.state e) (entries is))
  all_commits R (M m ∷ is) = all_commits (step b s R (M m)) is

  sessions : (R : Reading) (T : List Item) → (fold (step b s) R T).session ≡ session_from b s R.state R.session T
  sessions R [] = refl
  sessions R (E e ∷ is) = sessions (step b s R (E e)) is
  sessions R (M m ∷ is) = sessions (step b s R (M m)) is

  drawns : (R : Reading) (T : List Item) → (fold (step b s) R T).drawn ≡ drawn_from b R.state R.drawn T
  drawns R [] = refl
  drawns R (E e ∷ is) = drawns (step b s R (E e)) is
  drawns R (M m ∷ is) = drawns (step b s R (M m)) is

  lasts : (R : Reading) (T : List Item) → (fold (step b s) R T).last_session ≡ fold (λ n i. max n (connected_at i)) R.last_session T
  lasts R [] = refl
  lasts R (E e ∷ is) = lasts (step b s R (E e)) is ∙ ap (λ (n : ℕ). fold (λ n i. max n (connected_at i)) n is) (sym (max-zero R.last_session))
  lasts R (M m ∷ is) = lasts (step b s R (M m)) is

  pages : (R : Reading) (T : List Item) → (fold (step b s) R T).next_page ≡ fold (λ n i. max n (granted_at i)) R.next_page T
  pages R [] = refl
  pages R (E e ∷ is) = pages (step b s R (E e)) is ∙ ap (λ (n : ℕ). fold (λ n i. max n (granted_at i)) n is) (sym (max-zero R.next_page))
  pages R (M m ∷ is) = pages (step b s R (M m)) is

  zero_sum : (n : ℕ) → 0 + n ≡ n
  zero_sum n = omega arith

  counts : (S : State) (H : List Entry) → (fold (put b) S H).length ≡ S.length + length H
  counts S [] = omega arith
  counts S (e ∷ es) = let h : (fold (put b) (put b S e) es).length ≡ (S.length + 1) + length es = counts (put b S e) es in omega (arith, h)

  pub tells : (T : List Item) → Tells b s T (reading b s T)
  tells T = record {
    state_is = states (begin b) T;
    window_is = windows (begin b) T;
    commits_are = all_commits (begin b) T;
    session_is = sessions (begin b) T;
    last_is = lasts (begin b) T;
    page_is = pages (begin b) T;
    drawn_is = drawns (begin b) T;
    count_is = ap (λ (S : State). S.length) (states (begin b) T) ∙ counts (start b) (entries T) ∙ zero_sum (length (entries T));
  }

pub tells_of : (b : Base) (s : ℕ) (T : List Item) (R : Reading) → R ≡ reading b s T → Tells b s T R
tells_of b s T R e = subst (λ (x : Reading). Tells b s T x) (sym e) (tells b s T)

-- what stands against a request is the verdict
pub judges : (b : Base) (s : ℕ) (T : List Item) (R : Reading) (q : Request) → Tells b s T R → verdict b T s q ≡ against b R s q
judges b s T R q h = rw (h.state_is, h.window_is, h.commits_are, h.session_is) refl
