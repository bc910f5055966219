-- What is told of the repositories of a run, and what is replied of it.
use Rattle.cluster_threads.specs.Histories.{AreHistories, AreHistoriesIf, EndsAs}
use Rattle.cluster_threads.specs.Seated.{AreLeft, AreRight, IsFound, run_of}
use Rattle.cluster_threads.specs.declared.Finished.{Finished}
use Rattle.cluster_threads.specs.declared.Ran.{Ran}
use Rattle.cluster_threads.specs.declared.Start.{Start}
use Rattle.disk_trait.specs.Disks.{Disks}
use Rattle.repo_trace.specs.declared.trace.Trace.{Trace}
use Rattle.std.proofs.Common.{Err, IfErr, IfOk, List, Ok, Result, [], ap, inl, inr, length, subst, sym, ℕ, ◌∙◌, ◌≡◌}
use Rattle.std.proofs.lemmas.Option.{same_Some}
use Rattle.std.proofs.lemmas.Slice.Zip.{AllZip-long}
use Rattle.std.specs.Prelude.{IsOk, Some, false, true}
use Rattle.store_opening.specs.Seated.{AreSeated, IsSeated}
use Rattle.store_opening.specs.declared.closed.Closed.{Closed}
use Rattle.thor_top.proofs.StageLaws.{told_writes, unsettled_writes}
use Rattle.thor_top.specs.Stages.{AreTracesOf, Foretells, IsInTurn, IsPlayed, IsToldOf, TracesOf, WasMade}
use Rattle.thor_top.specs.declared.expected.Expected.{Expected}
use Rattle.thor_value.specs.declared.memory.NoMemory.{NoMemory}
use Rattle.top_judging.specs.Stages.{RepliesUnsettled}
use Rattle.top_reply.specs.declared.reply.Reply.{Reply}
use Rattle.top_statement.specs.Kept.{WritesNothing}
use Rattle.top_words.specs.Words.{plan_of}
use Rattle.top_words.specs.declared.command.Command.{Command}
use Rattle.top_words.specs.declared.command.Command.TheVariants.{Run}
use Rattle.top_words.specs.declared.command.Plan.{Plan}

module _ {P : Type 0} (disks : P → Disks) (given : List P) (places : List (Closed P)) (mob : ℕ) (s : Start) (seated : AreSeated disks given places) (n : ℕ) (all : n ≡ length places) (traces : List Trace) where
  -- each repository that was found has a part
  as_many : n ≡ length given
  as_many = all ∙ AllZip-long (IsSeated disks) given places seated

  of_made : (r : Ran) → traces ≡ r.traces → AreRight (run_of places mob s) 0 r.traces → length r.traces ≡ n → IsFound disks places s → AreHistories disks given traces
  of_made r is right many stands = record { places = places; mob = mob; start = s; count = ap length is ∙ (many ∙ as_many); seated = seated; found = stands; right = subst (AreRight (run_of places mob s) 0) (sym is) right }

  of_ran : {E : Type 0} (ran : Result Ran E) → TracesOf ran traces → IfOk ran (λ r. AreRight (run_of places mob s) 0 r.traces) → IfOk ran (λ r. length r.traces ≡ n) → IsFound disks places s → AreHistoriesIf disks given traces
  of_ran (Err e) is right many stands = inl is
  of_ran (Ok r) is right many stands = inr (of_made r is right many stands)

  -- those of a run that was made on what was found
  pub of_played : {E : Type 0} (played : Result (Finished P) E) → AreTracesOf played traces → IfOk played (λ f. IfOk f.ran (λ r. AreRight (run_of places mob s) 0 r.traces)) → IfOk played (λ f. IfOk f.ran (λ r. length r.traces ≡ n)) → IfOk played (λ _. IsFound disks places s) → AreHistoriesIf disks given traces
  of_played (Err e) is right many stands = inl is
  of_played (Ok f) is right many stands = of_ran f.ran is right many stands

  of_told_ran : {E : Type 0} (ran : Result Ran E) → IsOk ran → TracesOf ran traces → IfOk ran (λ r. AreRight (run_of places mob s) 0 r.traces) → IfOk ran (λ r. length r.traces ≡ n) → IsFound disks places s → AreHistories disks given traces
  of_told_ran (Err e) made is right many stands = absurd (let no : false ≡ true = made in cc)
  of_told_ran (Ok r) made is right many stands = of_made r is right many stands

  -- those of one that is told
  pub of_told : {E : Type 0} (played : Result (Finished P) E) → WasMade played → AreTracesOf played traces → IfOk played (λ f. IfOk f.ran (λ r. AreRight (run_of places mob s) 0 r.traces)) → IfOk played (λ f. IfOk f.ran (λ r. length r.traces ≡ n)) → IfOk played (λ _. IsFound disks places s) → AreHistories disks given traces
  of_told (Err e) made is right many stands = absurd made
  of_told (Ok f) made is right many stands = of_told_ran f.ran made is right many stands

  -- ---- and what the disks of the parts say that come back

  ended_made : (ended : List P) (r : Ran) → traces ≡ r.traces → AreRight (run_of places mob s) 0 r.traces → length r.traces ≡ n → AreLeft disks (run_of places mob s) 0 ended r.traces → IsFound disks places s → EndsAs disks given ended traces
  ended_made ended r is right many left stands = record {
    histories = record { places = places; mob = mob; start = s; count = ap length is ∙ (many ∙ as_many); seated = seated; found = stands; right = subst (AreRight (run_of places mob s) 0) (sym is) right };
    left = subst (AreLeft disks (run_of places mob s) 0 ended) (sym is) left;
  }

  ended_ran : {E : Type 0} (ended : List P) (ran : Result Ran E) → IsOk ran → TracesOf ran traces → IfOk ran (λ r. AreRight (run_of places mob s) 0 r.traces) → IfOk ran (λ r. length r.traces ≡ n) → IfOk ran (λ r. AreLeft disks (run_of places mob s) 0 ended r.traces) → IsFound disks places s → EndsAs disks given ended traces
  ended_ran ended (Err e) made is right many left stands = absurd (let no : false ≡ true = made in cc)
  ended_ran ended (Ok r) made is right many left stands = ended_made ended r is right many left stands

  pub of_ended : {E V : Type 0} (parts : V) (of_ok : Finished P → V) (items : V → List P) (played : Result (Finished P) E) → IfOk played (λ f. parts ≡ of_ok f) → WasMade played → AreTracesOf played traces → IfOk played (λ f. IfOk f.ran (λ r. AreRight (run_of places mob s) 0 r.traces)) → IfOk played (λ f. IfOk f.ran (λ r. length r.traces ≡ n))
      → IfOk played (λ f. IfOk f.ran (λ r. AreLeft disks (run_of places mob s) 0 (items (of_ok f)) r.traces)) → IfOk played (λ _. IsFound disks places s) → EndsAs disks given (items parts) traces
  of_ended parts of_ok items (Err e) same made is right many left stands = absurd made
  of_ended parts of_ok items (Ok f) same made is right many left stands = subst (λ (v : _). EndsAs disks given (items v) traces) (sym same) (ended_ran (items (of_ok f)) f.ran made is right many left stands)

-- as many parts come back
pub many_of : {A B V : Type 0} (len : V → ℕ) (of_ok : A → V) (of_err : B → V) (played : Result A B) (parts : V) (n : ℕ) → IfOk played (λ f. len (of_ok f) ≡ n) → IfErr played (λ f. len (of_err f) ≡ n) → IfOk played (λ f. parts ≡ of_ok f) → IfErr played (λ f. parts ≡ of_err f) → len parts ≡ n
many_of len of_ok of_err (Ok f) parts n ok err same_ok same_err = ap len same_ok ∙ ok
many_of len of_ok of_err (Err f) parts n ok err same_ok same_err = ap len same_err ∙ err

-- ---- what is replied

pub told_says : (Says : Reply → Type 0) (e : Expected) (r : Result Reply NoMemory) → Foretells Says e → ((w : Reply) → RepliesUnsettled w → Says w) → IfOk r (IsToldOf e) → IfOk r Says
told_says Says e (Err n) foretells fails told = tt
told_says Says e (Ok w) foretells fails (inl reported) = foretells.says w reported
told_says Says e (Ok w) foretells fails (inr failed) = fails w failed

pub told_writes_not : (c : Command) (e : Expected) (r : Result Reply NoMemory) → IsPlayed c → IfOk r (IsToldOf e) → WritesNothing c r → ⊥
told_writes_not c e (Err n) played told writes = told_writes c e.running e.form e.opened.schemas e.opened.store e.script (Err n) played tt writes
told_writes_not c e (Ok w) played (inl reported) writes = told_writes c e.running e.form e.opened.schemas e.opened.store e.script (Ok w) played reported writes
told_writes_not c e (Ok w) played (inr failed) writes = unsettled_writes c (Ok w) played failed writes

-- ---- by the command

pub not_in_turn : (c : Command) → c ≡ Run → IsInTurn c → ⊥
not_in_turn c is turn = subst IsInTurn is turn

pub one_in_turn : (words : List (List ℕ)) (plan p : Plan) → plan_of words ≡ Some plan → plan_of words ≡ Some p → IsInTurn p.command → IsInTurn plan.command
one_in_turn words plan p is is_p turn = subst (λ (q : Plan). IsInTurn q.command) (same_Some p plan (sym is_p ∙ is)) turn
