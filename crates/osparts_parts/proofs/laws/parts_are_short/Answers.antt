use Rattle.std.proofs.Common.{ℕ, List, length, ◌≤◌, ◌+◌}
use Rattle.std.proofs.lemmas.List.Elements.{All-from_recursion}
use Rattle.osparts_parts.specs.Parts.{count_of, first_numbers, parts_of}
use Rattle.osparts_parts.proofs.Covering.{all_short, ends_one}
use Rattle.osparts_parts.proofs.laws.parts_are_short.Goals as goal

pub returns-clause-short : goal.returns-clause-short
returns-clause-short c = λ bytes terms. All-from_recursion (λ (part : List ℕ). length part ≤ terms.part + terms.overlap) (parts_of bytes terms) (all_short bytes terms (first_numbers (count_of terms.part (length bytes))))

pub returns-clause-ends : goal.returns-clause-ends
returns-clause-ends c = ends_one
