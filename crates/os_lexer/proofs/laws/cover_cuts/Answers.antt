use Rattle.os_lexer.proofs.PointCuts.{cover_cuts}
use Rattle.os_lexer.proofs.FewTokens.{few_tokens}
use Rattle.os_lexer.proofs.TokenNumbers.{numbers_fit}
use Rattle.os_lexer.proofs.laws.cover_cuts.Goals as goal

pub returns : goal.returns
returns c = record { cuts = cover_cuts; few = few_tokens; fit = numbers_fit }
