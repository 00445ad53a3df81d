use Rattle.std.proofs.Common.{◌≡◌, ◌∙◌, ◌<◌, ℕ, Option, Some, None, ap, refl, sym}
use Rattle.std.specs.Prelude.{IfSome, option_and_then}
use Rattle.collector.specs.declared.missing.Missing.{Missing}
use Rattle.wait_certs.proofs.Growth.{next_exists}
use Rattle.wait_certs.proofs.walking.producer_missed.Goals as goal

if_exists : (o : Option ℕ) (bound : ℕ) → ((b : ℕ) → o ≡ Some b → b < bound) → IfSome o (λ b. b < bound)
if_exists None bound h = tt
if_exists (Some b) bound h = h b refl

pub returns-clause-exists : goal.returns-clause-exists
returns-clause-exists c =
    let is = c.requires.layout in
    if_exists c.in_ok-missing.missing.producer _ (λ b e.
    next_exists c.args.layout.now is is.activations is.is_of c.args.ends.now.ends c.args.frame b
    (ap (option_and_then (λ (m : Missing). m.producer)) (sym (c.in_ok-missing.ensures.missing is.activations is.is_of)) ∙ e))
