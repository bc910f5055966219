use Rattle.repo_opening.specs.declared.repository.Read.{Read}
use Rattle.repo_opening.specs.declared.unopened.Unopened.TheVariants.{Damaged}
use Rattle.std.proofs.Common.{IsErrOf, List, rules, subst, sym}
use Rattle.store_opening.proofs.Misfits.{misfit, on_ok_at, some_of}
use Rattle.store_opening.specs.Joined.{read_states}
use Rattle.store_opening.specs.Reading.{PutsAll, StandFor}
use Rattle.store_opening.specs.Unsound.{HaveLogs}
use Rattle.thor_value.specs.FiniteMap.{empty}
use Rattle.thor_value.specs.declared.oref_map.OrefMap.{OrefMap}
use Rattle.thor_value.specs.declared.values.Obj.{Obj}
use Rattle.store_opening.proofs.found.store_of.Goals as goal

pub returns-in_err-objects-clause-damaged : goal.returns-in_err-objects-clause-damaged
returns-in_err-objects-clause-damaged g c = λ parts images r d place seated reads put before is.
    let wrong : IsErrOf c.args.read (Damaged r d place) = search rules in
    before wrong

pub returns-in-Some-clause-stored : goal.returns-in-Some-clause-stored
returns-in-Some-clause-stored g c = λ parts images seated reads put.
    let stand : StandFor images (read_states c.in-Some.reads.items) = some_of c.reads_of.result c.in_ok-objects-2.reads c.in-Some.reads (λ rs. StandFor images (read_states rs.items)) c.in_ok-objects-2.ensures.made.1 c.in-Some.is (c.reads_of.ensures.stand parts images seated reads) in
    let first : PutsAll images empty c.args.objects = on_ok_at c.args.read c.in_ok-objects.field-0-1 (PutsAll images empty c.args.objects) c.in_ok-objects.ensures.made.1 put in
    c.open_store.ensures.stored images (subst (λ (rs : List Read). StandFor images (read_states rs)) (sym c.as_slice.ensures.value) stand)
    (subst (λ (o : OrefMap Obj). PutsAll images empty o) (sym c.in_ok-objects-2.ensures.made.0) (subst (λ (o : OrefMap Obj). PutsAll images empty o) (sym c.in_ok-objects.ensures.made.0) first))

pub returns-in-Some-clause-spelled : goal.returns-in-Some-clause-spelled
returns-in-Some-clause-spelled g c = λ parts images seated reads.
    let stand : StandFor images (read_states c.in-Some.reads.items) = some_of c.reads_of.result c.in_ok-objects-2.reads c.in-Some.reads (λ rs. StandFor images (read_states rs.items)) c.in_ok-objects-2.ensures.made.1 c.in-Some.is (c.reads_of.ensures.stand parts images seated reads) in
    c.open_store.ensures.spelled images (subst (λ (rs : List Read). StandFor images (read_states rs)) (sym c.as_slice.ensures.value) stand)

pub returns-in-Some-clause-fit : goal.returns-in-Some-clause-fit
returns-in-Some-clause-fit g c = λ parts images seated reads put.
    let stand : StandFor images (read_states c.in-Some.reads.items) = some_of c.reads_of.result c.in_ok-objects-2.reads c.in-Some.reads (λ rs. StandFor images (read_states rs.items)) c.in_ok-objects-2.ensures.made.1 c.in-Some.is (c.reads_of.ensures.stand parts images seated reads) in
    let first : PutsAll images empty c.args.objects = on_ok_at c.args.read c.in_ok-objects.field-0-1 (PutsAll images empty c.args.objects) c.in_ok-objects.ensures.made.1 put in
    c.open_store.ensures.fit images (subst (λ (rs : List Read). StandFor images (read_states rs)) (sym c.as_slice.ensures.value) stand)
    (subst (λ (o : OrefMap Obj). PutsAll images empty o) (sym c.in_ok-objects-2.ensures.made.0) (subst (λ (o : OrefMap Obj). PutsAll images empty o) (sym c.in_ok-objects.ensures.made.0) first))

pub returns-in-Some-clause-damaged : goal.returns-in-Some-clause-damaged
returns-in-Some-clause-damaged g c = λ parts images r d place seated reads put before is.
    let stand : StandFor images (read_states c.in-Some.reads.items) = some_of c.reads_of.result c.in_ok-objects-2.reads c.in-Some.reads (λ rs. StandFor images (read_states rs.items)) c.in_ok-objects-2.ensures.made.1 c.in-Some.is (c.reads_of.ensures.stand parts images seated reads) in
    let first : PutsAll images empty c.args.objects = on_ok_at c.args.read c.in_ok-objects.field-0-1 (PutsAll images empty c.args.objects) c.in_ok-objects.ensures.made.1 put in
    let logs : HaveLogs images c.in-Some.reads.items = some_of c.reads_of.result c.in_ok-objects-2.reads c.in-Some.reads (λ rs. HaveLogs images rs.items) c.in_ok-objects-2.ensures.made.1 c.in-Some.is (c.reads_of.ensures.logs parts images seated reads) in
    misfit images c.as_slice.result.now c.in_ok-objects-2.objects r d place (subst (λ (rs : List Read). StandFor images (read_states rs)) (sym c.as_slice.ensures.value) stand)
    (subst (λ (o : OrefMap Obj). PutsAll images empty o) (sym c.in_ok-objects-2.ensures.made.0) (subst (λ (o : OrefMap Obj). PutsAll images empty o) (sym c.in_ok-objects.ensures.made.0) first))
    (subst (λ (rs : List Read). HaveLogs images rs) (sym c.as_slice.ensures.value) logs) (c.open_store.ensures.damaged r d place is)

pub returns-in_err-objects-clause-failed : goal.returns-in_err-objects-clause-failed
returns-in_err-objects-clause-failed g c = λ r is. search rules
