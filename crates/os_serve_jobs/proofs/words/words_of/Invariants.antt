use Rattle.std.proofs.Common.{◌≡◌, ◌≤◌, ◌-◌, ◌++◌, All, drop, length, map}
use Rattle.std.specs.Prelude.{string_bytes}
use Rattle.std.specs.Str.{IsUtf8}
use Rattle.os_serve_jobs.specs.Words.{line_words}
use Rattle.os_serve_jobs.proofs.words.words_of.Given as goal

-- the words so far and those of the rest are those of the line
abbrev pub invariant-loop-next : goal.invariant-loop-next
invariant-loop-next l = record {
  within : l.next ≤ length l.line;
  words : map string_bytes l.words.items ++ line_words (drop l.next l.line) ≡ line_words l.line;
  text : All IsUtf8 (map string_bytes l.words.items);
}

abbrev pub decreases-loop-next : goal.decreases-loop-next
decreases-loop-next l = length l.line - l.next
