use Rattle.std.proofs.Common.{◌≡◌, drop}
use Rattle.os_lexer.specs.Reading.{key_in}
use Rattle.os_lexer.proofs.words.key_in.Given as goal

abbrev pub invariant-loop-spelling : goal.invariant-loop-spelling
invariant-loop-spelling l = key_in (drop l.spelling-index l.table) l.word ≡ key_in l.table l.word
