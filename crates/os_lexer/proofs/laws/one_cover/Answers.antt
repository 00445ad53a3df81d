use Rattle.os_lexer.proofs.CoverLaws.{one_cover, one_fault, cover_or_fault, never_both}
use Rattle.os_lexer.proofs.laws.one_cover.Goals as goal

pub returns : goal.returns
returns c = record { one_cover = one_cover; one_fault = one_fault; some = cover_or_fault; never_both = never_both }
