use Rattle.flow_core_laws.proofs.Windows.{window_at, window_stands, length-windows}
use Rattle.flow_core_laws.proofs.laws.windows_in_order.Goals as goal

pub returns : goal.returns
returns c = λ activations. record { one_each = length-windows activations; stands = window_stands activations; claims = λ i w h. (window_at activations i w h).is_claim; begins = λ i w h. (window_at activations i w h).begins }
