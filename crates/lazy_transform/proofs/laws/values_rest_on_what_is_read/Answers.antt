use Rattle.lazy_transform.proofs.ReadAlike.{values_alike}
use Rattle.lazy_transform.proofs.laws.values_rest_on_what_is_read.Goals as goal

pub returns : goal.returns
returns c = record {
  value = λ s m n k o h. (values_alike s m n k o h).value;
  reads = λ s m n k o h. (values_alike s m n k o h).reads;
}
