use Rattle.law_global_order.proofs.Staying.{met-before, prepared-grown, whole-stays}
use Rattle.law_global_order.proofs.laws.prepared_transactions_stay.Goals as goal

pub returns : goal.returns
returns c = record {
  prepared = λ S r e sd go t w h. prepared-grown S r e sd go t w h;
  whole = λ S r e sd go t w h. whole-stays S r e sd go t w h;
  met = λ S r e sd go t w h L met. met-before S r e sd go t w h L met;
}
