-- What a new repository begins with (this project's).
use Rattle.spec_history.specs.History.{Base}
use Rattle.std.specs.Map.{keys_of}
use Rattle.std.specs.Prelude.{None, [], true}
use Rattle.thor_value.specs.FiniteMap.{empty, overwrite}
use Rattle.thor_value.specs.Names.{zero_ts}
use Rattle.model_reading.specs.declared.opening.Opening.{Opening}

-- the base of a run that begins with it
abbrev pub base_of : Opening → Base
base_of o = record {
  repo = o.repo;
  repos = o.repos;
  life = 0;
  count = 0;
  limit = o.limit;
  objects = overwrite empty o.objects;
  top = zero_ts;
  roots = keys_of o.objects;
  texts = [];
  next_page = o.next_page;
  alone = empty;
  left = empty;
  silence = None;
  tells = true;
}
