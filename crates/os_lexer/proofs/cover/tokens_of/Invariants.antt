use Rattle.std.proofs.Common.{◌-◌, length}
use Rattle.os_lexer.specs.Cover.{text_start, Leads}
use Rattle.os_lexer.specs.States.{point_of, IsState}
use Rattle.os_lexer.proofs.cover.tokens_of.Given as goal

abbrev pub invariant-loop-lexer : goal.invariant-loop-lexer
invariant-loop-lexer l = record {
  state : IsState l.text l.lexer;
  reached : Leads l.text text_start (point_of l.lexer);
}

abbrev pub decreases-loop-lexer : goal.decreases-loop-lexer
decreases-loop-lexer l = length l.text - l.lexer.at
