use Rattle.std.proofs.Common.{refl}
use Rattle.law_client_views.proofs.examples.what_calls_do.Goals as goal

pub returns : goal.returns
returns c = record {
  connects = (record { session = refl; epoch = refl; threshold = refl; place = refl; upgrades = refl }, (refl, refl));
  fetches = (refl, (refl, refl));
  takes = (refl, refl, (refl, refl));
  none_waits = (refl, refl, (refl, refl));
  stale = ((refl, refl), (refl, refl));
  decides = (refl, refl, (refl, (refl, refl)));
  forgets = (refl, refl);
  asks = ((refl, λ later. refl), (refl, refl));
  gone = (refl, refl, (refl, refl));
  stops = (refl, (refl, refl));
  down = (refl, refl);
  waits = (refl, refl, refl);
}
