use Rattle.paused_eval.proofs.Methods.{found_is, is_typed}
use Rattle.paused_eval.proofs.bodies.method_in.Goals as goal

pub returns-clause-found : goal.returns-clause-found
returns-clause-found g c = found_is c.args.program.now.schema.now.classes c.args.bodies.now.methods.now c.args.class c.args.name.now _ c.requires.known c.shared_method.ensures

pub returns-clause-typed : goal.returns-clause-typed
returns-clause-typed g c = is_typed c.args.program.now.schema.now.classes c.args.bodies.now.methods.now c.args.class c.args.name.now _ c.requires.known c.shared_method.ensures
