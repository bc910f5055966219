use Rattle.thor_value.specs.Spelling.{OrefFits, oref_bytes, TsFits, ts_bytes, ValueFits, value_bytes}
use Rattle.thor_value.specs.Reading.{oref_at, ts_at, value_at}
use Rattle.thor_value.specs.declared.bytes.ReadFault.TheVariants.{Short}
use Rattle.thor_value.proofs.Exactness.{apart}
use Rattle.thor_value.proofs.Spellings.{exact_oref, exact_ts, exact_value}
use Rattle.thor_value.proofs.bytes.spellings_are_apart.Goals as goal

pub returns-clause-orefs : goal.returns-clause-orefs
returns-clause-orefs c = apart OrefFits oref_bytes Short oref_at exact_oref

pub returns-clause-timestamps : goal.returns-clause-timestamps
returns-clause-timestamps c = apart TsFits ts_bytes Short ts_at exact_ts

pub returns-clause-values : goal.returns-clause-values
returns-clause-values c = apart ValueFits value_bytes Short value_at exact_value
