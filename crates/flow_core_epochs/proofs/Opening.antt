-- What an epoch gives to the proofs.
use Rattle.std.proofs.Common.{◌≢◌, ℕ, ℤ, List, ◌++◌, length, sym, subst}
use Rattle.std.specs.Prelude.{All, IsSome}
use Rattle.flow_core_laws.specs.declared.activation.Activation.{Activation}
use Rattle.flow_core_laws.specs.declared.plan.Plan.{Plan}
use Rattle.flow_core_laws.specs.declared.outcome.Outcome.{Outcome}
use Rattle.flow_core_laws.specs.declared.place.Place.{Place}
use Rattle.flow_core_laws.specs.Place.{input_places}
use Rattle.flow_core_laws.specs.Outcome.{State}
use Rattle.flow_core_laws.specs.Streams.{stream_meaning, stream_source, stream_element}
use Rattle.flow_core_epochs.specs.Epoch.{Kept, IsEpoch, AreChosen, value_kept}
use Rattle.flow_core_epochs.proofs.Frames.{ascending_numbered}
use Rattle.flow_core_epochs.proofs.Taken.{AreTaken}
use Rattle.flow_core_epochs.proofs.Epochs.{HasEpoch}
use Rattle.flow_core_epochs.proofs.Members.{Has}
use Rattle.flow_core_epochs.proofs.Carried.{all_has, has_all, in_open}

pub has_epoch : (before new : List Activation) (input : List ℕ) (body : ℕ → List ℤ → Outcome) (state : State) (readers frames : List ℕ) (kept : List Kept) (plan : Plan) (places : List Place) → IsEpoch before new input body state readers frames kept plan places → HasEpoch before new input body state readers frames kept plan places
has_epoch before new input body state readers frames kept plan places e = record { part = e.state_is_part; readers_are = e.readers_are_open; are_open = taken; kept_well = record { are_there = e.has_kept.are_there; none_is_missing = frames_keep }; stands = e.plan_stands }
  where
    chosen : AreChosen before new input body state frames
    chosen = e.frames_are_chosen

    taken : AreTaken state (stream_meaning (before ++ new) input body) (length (before ++ new)) frames
    taken = record {
      exists = λ f a h. (chosen.are_open f a h).0;
      waits = λ f a h. (chosen.are_open f a h).1;
      numbered = ascending_numbered frames chosen.ascend;
      others = chosen.others_get_none;
    }

    Keeps : ℕ → Type 0
    Keeps a = All (λ (p : Place). p.stream ≢ 0 → IsSome (stream_element state (stream_source (before ++ new) input p)) → IsSome (value_kept kept p)) (input_places (before ++ new) a)

    frames_keep : All (λ a. All (λ (p : Place). p.stream ≢ 0 → IsSome (stream_element state (stream_source (before ++ new) input p)) → IsSome (value_kept kept p)) (input_places (before ++ new) a)) frames
    frames_keep = has_all Keeps frames (λ a h. let (f, at) = h in all_has Keeps readers a e.has_kept.none_is_missing (subst (λ (xs : List ℕ). Has xs a) (sym e.readers_are_open) (in_open state (length (before ++ new)) a (chosen.are_open f a at).0 (chosen.are_open f a at).1)))
