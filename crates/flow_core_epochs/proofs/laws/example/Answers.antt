use Rattle.std.proofs.Common.{◌≡◌, ◌≢◌, ℕ, zero, suc, [], ◌∷◌, ◌++◌, ◌<◌, Some, None, map, length, refl, ap, ◌∙◌, sym, arith}
use Rattle.std.specs.Prelude.{slice_get, All, IsSome}
use Rattle.std.proofs.lemmas.Option.{same_Some}
use Rattle.flow_core_laws.specs.declared.activation.Activation.{Activation}
use Rattle.flow_core_laws.specs.Outcome.{outcome_at}
use Rattle.flow_core_laws.specs.Window.{windows}
use Rattle.flow_core_laws.specs.Place.{input_places}
use Rattle.flow_core_laws.specs.Round.{meaning, rounds, round}
use Rattle.flow_core_laws.specs.Streams.{output_count, stream_source, stream_element, stream_meaning}
use Rattle.flow_core_epochs.specs.Epoch.{number_among, Kept, IsKeptFor, StandsForEpoch, AreChosen, epoch_source, value_kept}
use Rattle.flow_core_laws.specs.declared.elem.Elem.TheVariants.{Poison}
use Rattle.flow_core_laws.specs.declared.place.Place.{Place}
use Rattle.flow_core_laws.specs.declared.task_end.TaskEnd.TheVariants.{Done, Trapped}
use Rattle.flow_core_laws.specs.Plans.{cell_source, frame_at, plan_reads}
use Rattle.flow_core_laws.proofs.SoundTests.{IsSound-from_tests}
use Rattle.flow_core_epochs.specs.Example.{before, new, body, kept, plan, places}
use Rattle.flow_core_epochs.proofs.laws.example.Goals as goal

kept_well : IsKeptFor (before ++ new) [] (stream_meaning before [] (body (Trapped 2 5) Done)) (1 ∷ 2 ∷ []) (kept (Poison 0))
unfolding windows input_places meaning rounds round
kept_well = record { are_there = there; none_is_missing = frames }
  where
    there : All (λ (k : Kept). (k.place.stream ≢ 0) × (stream_element (stream_meaning before [] (body (Trapped 2 5) Done)) (stream_source (before ++ new) [] k.place) ≡ Some k.value)) (kept (Poison 0))
    there zero d lt = ((λ z. absurd (omega arith)), refl)
    there (suc k) d lt = absurd (omega arith)

    places_of_reader : All (λ (p : Place). p.stream ≢ 0 → IsSome (stream_element (stream_meaning before [] (body (Trapped 2 5) Done)) (stream_source (before ++ new) [] p)) → IsSome (value_kept (kept (Poison 0)) p)) (input_places (before ++ new) 1)
    places_of_reader zero d lt other there = refl
    places_of_reader (suc zero) d lt other there = absurd (cc)
    places_of_reader (suc (suc k)) d lt other there = absurd (omega arith)

    frames : All (λ a. All (λ (p : Place). p.stream ≢ 0 → IsSome (stream_element (stream_meaning before [] (body (Trapped 2 5) Done)) (stream_source (before ++ new) [] p)) → IsSome (value_kept (kept (Poison 0)) p)) (input_places (before ++ new) a)) (1 ∷ 2 ∷ [])
    frames zero d lt = places_of_reader
    frames (suc zero) d lt = λ k e l. absurd (omega arith)
    frames (suc (suc k)) d lt = absurd (omega arith)

chosen : AreChosen before new [] (body (Trapped 2 5) Done) (stream_meaning before [] (body (Trapped 2 5) Done)) (1 ∷ 2 ∷ [])
unfolding windows input_places meaning rounds round
chosen = record { are_open = wait; ascend = ascend; others_get_none = others }
  where
    wait : (f a : ℕ) → slice_get (1 ∷ 2 ∷ []) f ≡ Some a → (a < length (before ++ new)) × (outcome_at (stream_meaning before [] (body (Trapped 2 5) Done)) a ≡ None)
    wait zero a h = let e = same_Some 1 a h in (omega arith, ap (outcome_at (stream_meaning before [] (body (Trapped 2 5) Done))) (sym e))
    wait (suc zero) a h = let e = same_Some 2 a h in (omega arith, ap (outcome_at (stream_meaning before [] (body (Trapped 2 5) Done))) (sym e))
    wait (suc (suc f)) a h = absurd (cc)

    ascend : (f g a b : ℕ) → f < g → slice_get (1 ∷ 2 ∷ []) f ≡ Some a → slice_get (1 ∷ 2 ∷ []) g ≡ Some b → a < b
    ascend zero (suc zero) a b lt a_at b_at = omega (arith, same_Some 1 a a_at, same_Some 2 b b_at)
    ascend zero zero a b lt a_at b_at = absurd (omega arith)
    ascend (suc zero) zero a b lt a_at b_at = absurd (omega arith)
    ascend (suc zero) (suc zero) a b lt a_at b_at = absurd (omega arith)
    ascend f (suc (suc g)) a b lt a_at b_at = absurd (cc)
    ascend (suc (suc f)) g a b lt a_at b_at = absurd (cc)

    others : (a : ℕ) → a < length (before ++ new) → outcome_at (stream_meaning before [] (body (Trapped 2 5) Done)) a ≡ None → number_among (1 ∷ 2 ∷ []) a ≡ None → outcome_at (stream_meaning (before ++ new) [] (body (Trapped 2 5) Done)) a ≡ None
    others zero lt none out = absurd (cc)
    others (suc zero) lt none out = absurd (cc)
    others (suc (suc zero)) lt none out = absurd (cc)
    others (suc (suc (suc a))) lt none out = absurd (omega arith)

stands : StandsForEpoch (plan (Poison 0)) (before ++ new) [] (1 ∷ 2 ∷ []) (1 ∷ 2 ∷ []) (kept (Poison 0)) places
unfolding windows input_places cell_source
stands = record { frames_are_these = refl; numbers_are_theirs = refl; outputs_are_written = outputs; cells_are_window_elements = cells; places_leave = refl; sink_is_places = refl }
  where
    outputs : (f a : ℕ) (x : Activation) → slice_get (1 ∷ 2 ∷ []) f ≡ Some a → slice_get (before ++ new) a ≡ Some x → (frame_at (plan (Poison 0)) f).outputs ≡ output_count x
    outputs zero a x f_is x_is = ap output_count (same_Some _ x (ap (slice_get (before ++ new)) (same_Some 1 a f_is) ∙ x_is))
    outputs (suc zero) a x f_is x_is = ap output_count (same_Some _ x (ap (slice_get (before ++ new)) (same_Some 2 a f_is) ∙ x_is))
    outputs (suc (suc f)) a x f_is x_is = absurd (cc)

    cells : (f a : ℕ) → slice_get (1 ∷ 2 ∷ []) f ≡ Some a → plan_reads (plan (Poison 0)) f ≡ map (epoch_source (before ++ new) [] (1 ∷ 2 ∷ []) (kept (Poison 0))) (input_places (before ++ new) a)
    cells zero a f_is = ap (λ b. map (epoch_source (before ++ new) [] (1 ∷ 2 ∷ []) (kept (Poison 0))) (input_places (before ++ new) b)) (same_Some 1 a f_is)
    cells (suc zero) a f_is = ap (λ b. map (epoch_source (before ++ new) [] (1 ∷ 2 ∷ []) (kept (Poison 0))) (input_places (before ++ new) b)) (same_Some 2 a f_is)
    cells (suc (suc f)) a f_is = absurd (cc)

pub returns-clause-is_epoch : goal.returns-clause-is_epoch
unfolding windows input_places meaning rounds round
returns-clause-is_epoch c = record { state_is_part = record { agrees = λ a o h. h }; readers_are_open = refl; frames_are_chosen = chosen; has_kept = kept_well; plan_stands = stands }

pub returns-clause-sound : goal.returns-clause-sound
returns-clause-sound c = IsSound-from_tests (plan (Poison 0)) refl refl refl refl refl refl refl refl refl refl refl refl refl refl

pub returns-clause-kept_poison : goal.returns-clause-kept_poison
unfolding windows input_places meaning rounds round cell_source
returns-clause-kept_poison c = refl

pub returns-clause-new_poison : goal.returns-clause-new_poison
unfolding windows input_places meaning rounds round cell_source
returns-clause-new_poison c = refl
