-- The tasks of a run begin with `int`s.
use Rattle.std.proofs.Common.{◌≡◌, ◌≤◌, ℕ, zero, suc, ℤ, List, [], ◌∷◌, ◌++◌, All, Option, Some, None, length, slice_get, refl, sym, subst}
use Rattle.std.specs.Option.{option_map_or}
use Rattle.std.proofs.lemmas.List.{drop_at, take_at}
use Rattle.std.proofs.lemmas.List.Elements.{All-drop, All-get_or, All-take, All-weaker}
use Rattle.std.proofs.lemmas.Option.{get_or_from_slice_get, slice_get_within}
use Rattle.cddf_meaning.specs.Body.{body}
use Rattle.cddf_meaning.specs.Control.{control}
use Rattle.cddf_meaning_laws.specs.Beginning.{AreInts, BodiesGiveInts, HasSmallClaims, TasksCaptureInts}
use Rattle.cddf_meaning_laws.specs.Beginning as beginning
use Rattle.cddf_meaning_laws.specs.Reading.{ReadsInts}
use Rattle.flow_core_laws.specs.Outcome.{over_budget}
use Rattle.flow_core_laws.specs.Poisoning.{values_of}
use Rattle.flow_core_laws.specs.Window.{claims_of}
use Rattle.flow_core_laws.specs.declared.activation.Activation.{Activation}
use Rattle.flow_core_laws.specs.declared.claim.Claim.{Claim}
use Rattle.lowering_laws.specs.Laws.{CreatesLawful, OfAccepted}
use Rattle.os_ast.specs.Violations.{streams}
use Rattle.stream_match_layouts.specs.Lawful.{IsLawfulClaim}
use Rattle.wait_certs_runs.specs.Meant.{body_at}
use Rattle.wait_certs_runs.specs.Types.{BeginsTasksWithInts}

-- what holds of all claims holds of those of each activation
claims_at : (P : Claim → Type 0) (activations : List Activation) → All P (claims_of activations) → (a : ℕ) (x : Activation) → slice_get activations a ≡ Some x
    → All P x.claims
claims_at P [] all a x at = absurd (cc)
claims_at P (y ∷ ys) all zero x at =
    let same : y ≡ x = cc in
    subst (λ (z : Activation). All P z.claims) same
    (subst (All P) (take_at y.claims (claims_of ys) (length y.claims) refl) (All-take P (length y.claims) (y.claims ++ claims_of ys) all))
claims_at P (y ∷ ys) all (suc a) x at =
    claims_at P ys (subst (All P) (drop_at y.claims (claims_of ys) (length y.claims) refl) (All-drop P (length y.claims) (y.claims ++ claims_of ys) all)) a x at

pub begin : OfAccepted CreatesLawful → TasksCaptureInts → beginning.TasksBeginWithInts → BodiesGiveInts → ReadsInts → OfAccepted BeginsTasksWithInts
begin creates captures begins gives reads text p short accepted input task_budget control_budget a x m t read small bytes low at is_main is_task is_read =
    begins t x (values_of read) (caught a x at) (small_at a x at)
    (reads activations input (body_at p activations task_budget) bytes (λ b inputs lt ints. given b (slice_get activations b) refl inputs ints) a read is_read)
  where
    activations : List Activation
    activations = (control p (length input) control_budget).activations

    all_caught : All (λ (y : Activation). AreInts y.captured) activations
    all_caught = captures p (length input) control_budget accepted.0.2.leveled small

    caught : (b : ℕ) (y : Activation) → slice_get activations b ≡ Some y → AreInts y.captured
    caught b y there =
        subst (λ (z : Activation). AreInts z.captured) (get_or_from_slice_get activations b y y there)
        (All-get_or (λ (z : Activation). AreInts z.captured) activations b y (slice_get_within activations b y there) all_caught)

    small_at : (b : ℕ) (y : Activation) → slice_get activations b ≡ Some y → HasSmallClaims y
    small_at b y there =
        All-weaker (IsLawfulClaim (streams p)) (λ (c : Claim). c.horizon ≤ 65536) (λ c lawful. lawful.largest) y.claims
        (claims_at (IsLawfulClaim (streams p)) activations (creates text p short accepted (length input) control_budget low).claims_are_lawful b y there)

    given : (b : ℕ) (o : Option Activation) → slice_get activations b ≡ o → (inputs : List ℤ) → AreInts inputs → AreInts (body_at p activations task_budget b inputs).outputs
    given b None there inputs ints =
        subst (λ (q : Option Activation). AreInts (option_map_or (λ (y : Activation). body p y inputs task_budget) q over_budget).outputs) (sym there) refl
    given b (Some y) there inputs ints =
        subst (λ (q : Option Activation). AreInts (option_map_or (λ (z : Activation). body p z inputs task_budget) q over_budget).outputs) (sym there)
        (gives p y inputs task_budget accepted.0.2.leveled (caught b y there) (small_at b y there) ints)
