use Rattle.std.proofs.Common.{◌≡◌, ◌∙◌, ◌<◌, ℕ, Bool, true, false, List, Option, Some, None, length, refl, sym, subst, arith}
use Rattle.std.specs.Prelude.{IfSome}
use Rattle.flow_core_laws.specs.declared.activation.Activation.{Activation}
use Rattle.flow_core_laws.specs.Outcome.{has_end_at}
use Rattle.stream_match_layouts.specs.Layout.{IsLayoutOf}
use Rattle.stream_match_layouts.proofs.Tallies.{frame_count-is}
use Rattle.wait_certs.proofs.Lasts.{last_exists}
use Rattle.wait_certs_laws.specs.Walk.{IsWalk}
use Rattle.wait_certs.proofs.finding.find.Goals as goal

-- an activation with a walk has no end
no_end : (b : Bool) (o : Option (List ℕ)) (members : List ℕ) → o ≡ Some members → (b ≡ true → o ≡ None) → b ≡ false
no_end false o members is h = refl
no_end true o members is h = absurd (let never : None ≡ Some members = sym (h refl) ∙ is in cc)

pub returns-then-activation-frames : goal.returns-then-activation-frames
returns-then-activation-frames c = λ activations of.
    let past = c.if-activation-frames.true in
    omega (arith, past, c.frames.ensures, frame_count-is c.args.layout.now activations of)

pub starved-requires-clause-last_exists : goal.starved-requires-clause-last_exists
starved-requires-clause-last_exists c =
    let l = c.args.layout.now in
    let is = c.requires.layout in
    let walks = subst (λ o. IfSome o (λ members. (activations : List Activation) → IsLayoutOf l activations
    → IsWalk activations l.input_len c.args.ends.now.ends c.args.activation members)) c.in-Some.is c.in_ok-members.ensures.walk in
    let within = c.if-activation-frames.false in
    last_exists l is is.activations is.is_of c.args.ends.now.ends c.args.activation c.in-Some.members (walks is.activations is.is_of)
    (omega (arith, within, c.frames.ensures))

pub returns-in-Some : goal.returns-in-Some
returns-in-Some c = λ activations of.
    let l = c.args.layout.now in
    let walks = subst (λ o. IfSome o (λ members. (activations : List Activation) → IsLayoutOf l activations
    → IsWalk activations l.input_len c.args.ends.now.ends c.args.activation members)) c.in-Some.is c.in_ok-members.ensures.walk in
    let within = c.if-activation-frames.false in
    let exists : c.args.activation < length activations = omega (arith, within, c.frames.ensures, frame_count-is l activations of) in
    let none = no_end (has_end_at c.args.ends.now.ends c.args.activation) c.in_ok-members.members c.in-Some.members c.in-Some.is c.in_ok-members.ensures.none.1 in
    rw (c.starved.ensures activations of) (exists, none, walks activations of, refl)

pub returns-in-None : goal.returns-in-None
returns-in-None c = λ activations of.
    let within = c.if-activation-frames.false in
    (omega (arith, within, c.frames.ensures, frame_count-is c.args.layout.now activations of), c.in_ok-members.ensures.none.0 c.in-None.is)
