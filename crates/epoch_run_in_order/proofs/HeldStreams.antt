-- What is held of activations that ran in control order.
use Rattle.std.proofs.Common.{◌≡◌, ℕ, zero, suc, ◌+◌, ◌-◌, ◌<◌, ◌≤◌, ◌++◌, [], List, Option, length, sym, ap, ◌∙◌, subst, arith}
use Rattle.std.specs.List.{flat_map, range_with_len}
use Rattle.std.specs.Prelude.{slice_index_or}
use Rattle.std.proofs.lemmas.List.{append-nil, append_assoc}
use Rattle.std.proofs.lemmas.List.Elements.{All-weaker}
use Rattle.epoch_run_bodies.specs.Frames.{frame_outcome}
use Rattle.epoch_run_in_order_laws.specs.InOrder.{kept_in}
use Rattle.epoch_run_in_order_laws.specs.Laws.{IsHeldInOrder}
use Rattle.flow_core_epochs.specs.Epoch.{IsHeld, Kept}
use Rattle.flow_core_laws.specs.declared.activation.Activation.{Activation}
use Rattle.flow_core_laws.specs.declared.claim.Claim.{Claim}
use Rattle.flow_core_laws.specs.declared.elem.Elem.{Elem}
use Rattle.flow_core_laws.specs.declared.task_end.TaskEnd.{TaskEnd}
use Rattle.flow_core_laws.specs.Outcome.{ends_of}
use Rattle.flow_core_laws.specs.Window.{claims_of}
use Rattle.os_code.specs.declared.parts.Parts.{Parts}
use Rattle.stream_match_layouts.specs.Lawful.{AreLawful, IsLawfulClaim}
use Rattle.epoch_run_in_order.specs.Standing.{StandsBehind, meaning_in}
use Rattle.epoch_run_in_order.specs.declared.in_order.InOrder.{InOrder}

-- one more number of a range
flat_more : {A : Type 0} (f : ℕ → List A) (a n : ℕ) → flat_map f (range_with_len a (suc n)) ≡ flat_map f (range_with_len a n) ++ f (a + n)
flat_more f a zero = append-nil (f a) ∙ ap f (let e : a ≡ a + 0 = omega arith in e)
flat_more f a (suc n) =
    ap (λ xs. f a ++ xs) (flat_more f (a + 1) n ∙ ap (λ k. flat_map f (range_with_len (a + 1) n) ++ f k) (let e : (a + 1) + n ≡ a + suc n = omega arith in e))
    ∙ sym (append_assoc (f a) (flat_map f (range_with_len (a + 1) n)) (f (a + suc n)))

-- one more stream
pub stream_more : {A : Type 0} (f : ℕ → List A) (n : ℕ) (mid new : List A) → 2 ≤ n → mid ≡ flat_map f (range_with_len 2 (n - 2)) → new ≡ mid ++ f n
    → new ≡ flat_map f (range_with_len 2 ((n + 1) - 2))
stream_more f n mid new low before step =
    step
    ∙ ap (λ xs. xs ++ f n) before
    ∙ ap (λ k. flat_map f (range_with_len 2 (n - 2)) ++ f k) (let e : n ≡ 2 + (n - 2) = omega arith in e)
    ∙ sym (flat_more f 2 (n - 2))
    ∙ ap (λ k. flat_map f (range_with_len 2 k)) (let e : suc (n - 2) ≡ (n + 1) - 2 = omega arith in e)

-- what the streams hold, with the ends, is held of the activations
pub held_of : (law : IsHeldInOrder) (code : Parts) (all before : List Activation) (input : List ℕ) (budget : ℕ) (order : InOrder)
    (ends : List (Option TaskEnd)) (kept : List Kept) (output : List (Option Elem))
    → ends ≡ order.ends → kept ≡ kept_in order.streams.elements order.streams.firsts → output ≡ slice_index_or order.streams.elements 1 []
    → AreLawful (length order.streams.elements) before → StandsBehind code all before input budget order
    → IsHeld before input (frame_outcome code all budget) ends kept output
held_of law code all before input budget order ends kept output ends_are kept_is output_is lawful stands =
    let body = frame_outcome code all budget in
    let base = law before input body order.streams.elements order.streams.firsts stands.have_ended stands.hold
    (All-weaker (IsLawfulClaim (length order.streams.elements)) (λ (c : Claim). c.stream < length order.streams.elements) (λ c l. l.stream_exists)
    (claims_of before) lawful.claims_are_lawful) in
    subst (λ es. IsHeld before input body es kept output) (sym (ends_are ∙ stands.ends_are))
    (subst (λ ks. IsHeld before input body (ends_of (meaning_in code all before input budget)) ks output) (sym kept_is)
    (subst (λ out. IsHeld before input body (ends_of (meaning_in code all before input budget))
    (kept_in order.streams.elements order.streams.firsts) out) (sym output_is) base))
