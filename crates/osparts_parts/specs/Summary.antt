-- The line that sums a run in parts up.
use Rattle.std.specs.Prelude.{ℕ, ◌==◌, List, ◌++◌, codes, if◌then◌else◌}
use Rattle.std.specs.Fmt.{decimal}

-- what stands after a word for so many
abbrev pub plural : ℕ → List ℕ
plural count = if count == 1 then codes "" else codes "s"

-- so many parts, which have so many bytes in all, and each of which is all done
abbrev pub summary_line : (parts bytes : ℕ) → List ℕ
summary_line parts bytes =
    decimal parts ++ codes " part" ++ plural parts ++ codes ", all done, " ++ decimal bytes ++ codes " byte" ++ plural bytes ++ codes "\n"
