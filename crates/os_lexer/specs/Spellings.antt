-- The map from spellings to first indices, in the code.
use Rattle.std.specs.Prelude.{ℕ, List, Option}
use Rattle.std.specs.BTreeMap.{get_by}
use Rattle.std.specs.Cmp.Lexicographic.{slice_cmp}
use Rattle.std.specs.Ordering.{nat_cmp}
use Rattle.os_lexer.specs.declared.spellings.Spellings.{Spellings}

-- the index that it has for a spelling
abbrev pub first_of : Spellings → List ℕ → Option ℕ
first_of spellings name = get_by (λ k. slice_cmp nat_cmp name k.now) spellings.first
