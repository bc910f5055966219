use Rattle.script_parse.specs.Script.{IsItem, IsRefusedItem}
use Rattle.script_parse.proofs.ReadingParts.{behind_one, each_more, next_one, refused_first}
use Rattle.script_parse.proofs.reading.read_items.Goals as goal

pub loop-item-preserved : goal.loop-item-preserved
loop-item-preserved c = (
  next_one c.loop-item.yielded _ c.next.new.self.rest.items c.args.items c.in-Some.item c.loop-item.invariant.0 c.in-Some.ensures.steps.0,
  each_more IsItem IsRefusedItem c.loop-item.yielded c.loop-item.whats c.push.new.self c.in-Some.item c.in-Ok.what c.in_ok-push-in-Ok.ensures.ok c.loop-item.invariant.1 c.in-Ok.ensures,
)

pub returns-in-Err : goal.returns-in-Err
returns-in-Err c =
    refused_first IsItem IsRefusedItem c.loop-item.yielded c.loop-item.whats c.in-Some.item c.next.new.self.rest.items c.args.items c.in-Err.error
    (behind_one c.loop-item.yielded _ c.next.new.self.rest.items c.args.items c.in-Some.item c.loop-item.invariant.0 c.in-Some.ensures.steps.0) c.loop-item.invariant.1 c.in-Err.ensures
