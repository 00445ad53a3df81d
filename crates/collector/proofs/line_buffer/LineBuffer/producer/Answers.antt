use Rattle.std.proofs.Common.{ap}
use Rattle.collector.specs.Report.{producer_text}
use Rattle.collector.proofs.Buffered.{on}
use Rattle.collector.proofs.line_buffer.LineBuffer.producer.Goals as goal

pub returns-in_ok-number-in-Some : goal.returns-in_ok-number-in-Some
returns-in_ok-number-in-Some g c = on c.in_ok-number-in-Some.ensures.ok c.text.ensures (ap producer_text c.in-Some.is)
