use Rattle.law_client_views.proofs.Stopping.{halted_behind, halted_life, kept_behind, kept_life, life_alone, life_behind, others_behind, others_life, owed_behind, owed_life}
use Rattle.law_client_views.proofs.outages.restarts_are_growth.Goals as goal

pub returns : goal.returns
returns c = record {
  without = life_alone;
  with = life_behind;
  others = others_life;
  others_with = others_behind;
  halted = halted_life;
  halted_with = halted_behind;
  owed = owed_life;
  owed_with = owed_behind;
  kept = kept_life;
  kept_with = kept_behind;
}
