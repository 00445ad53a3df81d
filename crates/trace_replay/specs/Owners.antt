-- Which list a frame stands in.
use Rattle.std.specs.Prelude.{◌≡◌, ◌≢◌, ℕ, ◌<◌, List, Some, length, slice_index}
use Rattle.flow_core_laws.specs.Limits.{workers_limit}
use Rattle.trace_replay_laws.specs.Lists.{number_in, IsBefore, StoodBefore, HaveNoRepeat, IsFirstRepeat}
use Rattle.trace_replay.specs.declared.owners.Owners.{Owners}
use Rattle.trace_replay.specs.declared.owners.Owners.TheVariants.{Of, Repeat}

-- Each number of a list has it as its owner.
pub record AreOwners (lists : List (List ℕ)) (frames : ℕ) (owners : List ℕ) : Type 0 where
  pub of_frames : length owners ≡ frames
  pub own : (k j f : ℕ) → number_in lists k j ≡ Some f → slice_index owners f ≡ k

-- Each frame has one list at most, and these are the lists; or this one is the first that stood before.
abbrev pub AreOwnersOf : List (List ℕ) → ℕ → Owners → Type 0
AreOwnersOf lists frames (Of owners) = HaveNoRepeat lists × AreOwners lists frames owners.items
AreOwnersOf lists frames (Repeat frame) = IsFirstRepeat lists frame

-- The lists up to a place own their numbers: no frame is the number of two, and the others have no owner.
pub record OwnBefore (lists : List (List ℕ)) (list place : ℕ) (owners : List ℕ) : Type 0 where
  pub own : (k j f : ℕ) → IsBefore k j list place → number_in lists k j ≡ Some f → slice_index owners f ≡ k
  pub have_stood : (f : ℕ) → f < length owners → slice_index owners f ≢ workers_limit → StoodBefore lists list place f
  pub none_twice : (k j f : ℕ) → IsBefore k j list place → number_in lists k j ≡ Some f → StoodBefore lists k j f → ⊥
