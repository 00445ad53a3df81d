-- When a run passes its case, and where it fails.
use Rattle.std.specs.Prelude.{◌≡◌, ◌≢◌, ℕ, List, slice_get, take}
use Rattle.sha2.specs.Sha256.{sha256}
use Rattle.osvectors_cases.specs.declared.verdict.Expected.{Expected as Lent}
use Rattle.osvectors_cases.specs.declared.verdict.Expected.TheVariants as lent
use Rattle.osvectors_cases.specs.declared.verdict.Verdict.{Verdict}
use Rattle.osvectors_cases.specs.declared.verdict.Verdict.TheVariants as verdicts

-- the output is wanted: it is these bytes, or has this sum
abbrev pub IsWanted : (output : List ℕ) → Lent → Type 0
IsWanted output (lent.Bytes bytes) = output ≡ bytes.items
IsWanted output (lent.Sum sum) = sha256 output ≡ sum

-- A run passes: its status is 0, and its output is wanted.
abbrev pub Passes : (status : ℕ) (output : List ℕ) → Lent → Type 0
Passes status output wanted = (status ≡ 0) × IsWanted output wanted

-- Up to a place both lists are the same, and there they aren't; one of them may end there.
pub record DifferFirst (one other : List ℕ) (place : ℕ) : Type 0 where
  pub same : take place one ≡ take place other
  pub differ : slice_get one place ≢ slice_get other place

-- the output isn't the wanted bytes, and this is the first place where it isn't
abbrev pub DiffersFrom : (output : List ℕ) → Lent → ℕ → Type 0
DiffersFrom output (lent.Bytes bytes) place = DifferFirst output bytes.items place
DiffersFrom output (lent.Sum sum) place = ⊥

-- the output has another sum than the wanted one
abbrev pub HasOtherSum : (output : List ℕ) → Lent → Type 0
HasOtherSum output (lent.Bytes bytes) = ⊥
HasOtherSum output (lent.Sum sum) = sha256 output ≢ sum

-- What is judged of a run.
abbrev pub IsVerdict : (status : ℕ) (output : List ℕ) → Lent → Verdict → Type 0
IsVerdict status output wanted verdicts.Passed = Passes status output wanted
IsVerdict status output wanted (verdicts.Ended own) = (status ≢ 0) × (own ≡ status)
IsVerdict status output wanted (verdicts.Differs place) = (status ≡ 0) × DiffersFrom output wanted place
IsVerdict status output wanted verdicts.OtherSum = (status ≡ 0) × HasOtherSum output wanted
