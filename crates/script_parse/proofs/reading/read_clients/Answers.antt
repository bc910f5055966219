use Rattle.script_parse.specs.Script.{AreItems, AreRefusedItems}
use Rattle.script_parse.proofs.ReadingParts.{behind_one, each_more, next_one, refused_first}
use Rattle.script_parse.proofs.reading.read_clients.Goals as goal

pub loop-client-preserved : goal.loop-client-preserved
loop-client-preserved c = (
  next_one c.loop-client.yielded _ c.next.new.self.rest.items c.args.clients c.in-Some.client c.loop-client.invariant.0 c.in-Some.ensures.steps.0,
  each_more AreItems AreRefusedItems c.loop-client.yielded c.loop-client.read c.push.new.self c.in-Some.client c.in-Ok.items c.in_ok-push-in-Ok.ensures.ok c.loop-client.invariant.1 c.in-Ok.ensures,
)

pub returns-in-Err : goal.returns-in-Err
returns-in-Err c =
    refused_first AreItems AreRefusedItems c.loop-client.yielded c.loop-client.read c.in-Some.client c.next.new.self.rest.items c.args.clients c.in-Err.error
    (behind_one c.loop-client.yielded _ c.next.new.self.rest.items c.args.clients c.in-Some.client c.loop-client.invariant.0 c.in-Some.ensures.steps.0) c.loop-client.invariant.1 c.in-Err.ensures
