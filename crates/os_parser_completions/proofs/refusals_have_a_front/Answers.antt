use Rattle.os_parser_completions.proofs.FrontOfRefusal.{front}
use Rattle.os_parser_completions.proofs.refusals_have_a_front.Goals as goal

pub returns : goal.returns
returns c = front
