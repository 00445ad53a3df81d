use Rattle.os_parser_grammar.proofs.Programs.{whole, again, never}
use Rattle.os_parser_grammar.proofs.laws.programs_are_what_tokens_mean.Goals as goal

pub returns : goal.returns
returns c = record { given = whole; taken = again; refused = never }
