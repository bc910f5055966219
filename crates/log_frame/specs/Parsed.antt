-- What was read of a log disk.
use Rattle.log_frame.specs.Log.{Opened}
use Rattle.log_frame.specs.declared.reading.Parsed.{Parsed}

abbrev pub opened_of : Parsed → Opened
opened_of parsed = record { sequence = parsed.sequence; head = parsed.head; bodies = parsed.bodies }
