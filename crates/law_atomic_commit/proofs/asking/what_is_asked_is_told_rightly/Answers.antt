use Rattle.law_atomic_commit.proofs.Asked.{aborted-told, committed-told, may-abort, may-commit, open-told, remembered}
use Rattle.law_atomic_commit.proofs.asking.what_is_asked_is_told_rightly.Goals as goal

pub returns : goal.returns
returns c = record {
  undecided = λ R sd at t h. open-told R sd at t h;
  committed = λ R sd t h. committed-told R sd t h;
  aborted = λ R sd t h. aborted-told R sd t h;
  remembered = λ R sd t w h kept why. remembered R sd t w h kept why;
  commits = λ R sd at before n t o other is first h. may-commit R sd at n t o other is first before h;
  aborts = λ R sd at al forgotten n t o other is first h. may-abort R sd at n t o other is first al forgotten h;
}
