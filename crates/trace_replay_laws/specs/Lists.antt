-- Lists of frames, and orders of all their numbers.
use Rattle.std.specs.Prelude.{◌≡◌, ℕ, ◌==◌, ◌<◌, ◌≤◌, ◌⊎◌, List, [], ◌∷◌, ◌++◌, Option, Some, None, All, length, map, slice_get, option_and_then}
use Rattle.std.specs.List.{filter}
use Rattle.flow_core_laws.specs.Round.{IsEnabled}
use Rattle.trace_replay_laws.specs.Orders.{state_after, IsLawful}

-- The number at a place of a list, if there is one.
abbrev pub number_in : List (List ℕ) → ℕ → ℕ → Option ℕ
number_in lists list place = option_and_then (λ (numbers : List ℕ). slice_get numbers place) (slice_get lists list)

-- One place comes before another: in an earlier list, or earlier in the same one.
abbrev pub IsBefore : (list place other_list other_place : ℕ) → Type 0
IsBefore list place other_list other_place = (list < other_list) ⊎ ((list ≡ other_list) × (place < other_place))

-- Each number is below a bound.
abbrev pub AreBelow : ℕ → List (List ℕ) → Type 0
AreBelow count lists = (list place frame : ℕ) → number_in lists list place ≡ Some frame → frame < count

-- A place has the first number that isn't below a bound, by list and then by place.
pub record IsFirstStranger (count : ℕ) (lists : List (List ℕ)) (list place : ℕ) : Type 0 where
  pub frame : ℕ
  pub stands : number_in lists list place ≡ Some frame
  pub is_strange : count ≤ frame
  pub is_first : (l p f : ℕ) → IsBefore l p list place → number_in lists l p ≡ Some f → f < count

-- No number stands at two places.
abbrev pub HaveNoRepeat : List (List ℕ) → Type 0
HaveNoRepeat lists =
    (list place other_list other_place frame : ℕ) → number_in lists list place ≡ Some frame → number_in lists other_list other_place ≡ Some frame
    → (list ≡ other_list) × (place ≡ other_place)

-- A number stands somewhere before a place.
abbrev pub StoodBefore : List (List ℕ) → (list place frame : ℕ) → Type 0
StoodBefore lists list place frame = (l : ℕ) × (p : ℕ) × IsBefore l p list place × (number_in lists l p ≡ Some frame)

-- The lists put together have a number that stands there before, and this is the first such number.
pub record IsFirstRepeat (lists : List (List ℕ)) (frame : ℕ) : Type 0 where
  pub list : ℕ
  pub place : ℕ
  pub stands : number_in lists list place ≡ Some frame
  pub stood_before : StoodBefore lists list place frame
  pub is_first : (l p f : ℕ) → IsBefore l p list place → number_in lists l p ≡ Some f → StoodBefore lists l p f → ⊥

-- A number of an order, with the list from which it comes.
pub record Taken : Type 0 where
  pub list : ℕ
  pub frame : ℕ

-- the numbers of an order
abbrev pub frames_of : List Taken → List ℕ
frames_of order = map (λ (t : Taken). t.frame) order

-- what an order takes from a list
abbrev pub taken_from : ℕ → List Taken → List ℕ
taken_from list order = frames_of (filter (λ (t : Taken). t.list == list) order)

-- An order of all numbers of lists: it takes each list whole, in the list's order, and nothing else.
pub record IsOrderOf (lists : List (List ℕ)) (order : List Taken) : Type 0 where
  pub of_lists : All (λ t. t.list < length lists) order
  pub takes_each : (k : ℕ) (list : List ℕ) → slice_get lists k ≡ Some list → taken_from k order ≡ list

-- An order of heads: it takes a front of each list, in the list's order, and nothing else.
pub record IsOrderOfHeads (lists : List (List ℕ)) (order : List Taken) : Type 0 where
  pub of_lists : All (λ t. t.list < length lists) order
  pub takes_fronts : (k : ℕ) (list : List ℕ) → slice_get lists k ≡ Some list → (rest : List ℕ) × (taken_from k order ++ rest ≡ list)

-- The head of a list behind such an order: its first number that isn't taken, if one is left.
abbrev pub head_after : List (List ℕ) → List Taken → ℕ → Option ℕ
head_after lists order list = number_in lists list (length (taken_from list order))

-- Heads were run as long as one was enabled: in a lawful order, and no head that is left is enabled.
pub record HaveRun {S V O : Type 0} (element : List (Option O) → S → Option V) (reads : ℕ → List S) (body : ℕ → List V → O) (count : ℕ)
    (lists : List (List ℕ)) (order : List Taken) : Type 0 where
  pub of_heads : IsOrderOfHeads lists order
  pub lawful : IsLawful element reads body count (frames_of order)
  pub none_is_enabled : (k f : ℕ) → head_after lists order k ≡ Some f
      → ¬ (IsEnabled element reads (state_after element reads body count (frames_of order)) f)
