-- Which trap and which limit has a code.
use Rattle.std.proofs.Common.{◌≡◌, ℕ, ◌==◌, false, List, [], ◌∷◌, Option, Some, None, IfSome, if◌then◌else◌, find, refl, sym, ap, ◌∙◌}
use Rattle.std.specs.Prelude.{unwrap_or}
use Rattle.std.proofs.lemmas.Bool.{ne_eqb}
use Rattle.c_int.specs.ControlLimits.{limit_code}
use Rattle.c_int.specs.Traps.{trap_code}
use Rattle.c_int.specs.declared.control_limit.ControlLimit.{ControlLimit}
use Rattle.c_int.specs.declared.control_limit.ControlLimit.TheVariants.{Activations, Elements}
use Rattle.c_int.specs.declared.trap.Trap.{Trap}
use Rattle.osview_sentences.specs.Report.{limit_text, limit_words, limits}
use Rattle.osview_sentences.specs.Sentences.{trap_of, traps}

none_among : {A : Type 0} (code_of : A → ℕ) (code : ℕ) → ((x : A) → (code == code_of x) ≡ false) → (xs : List A) → find (λ x. code == code_of x) xs ≡ None
none_among code_of code misses [] = refl
none_among code_of code misses (x ∷ rest) =
    ap (λ b. if b then Some x else find (λ x. code == code_of x) rest) (misses x) ∙ none_among code_of code misses rest

pub trap_of_no_code : (code : ℕ) → ((trap : Trap) → trap_code trap ≡ code → ◌≡◌ {A = Option Trap} None (Some trap)) → trap_of code ≡ None
trap_of_no_code code none = none_among trap_code code (λ trap. ne_eqb code (trap_code trap) (λ e. let missed = none trap (sym e) in cc)) traps

-- a code of no limit is told as one of the windows' elements
pub limit_of_code : (code : ℕ) (limit : Option ControlLimit) → IfSome limit (λ l. limit_code l ≡ code) → ((l : ControlLimit) → limit_code l ≡ code → limit ≡ Some l)
    → limit_words (unwrap_or limit Elements) ≡ limit_text code
limit_of_code code (Some Activations) has finds = ap limit_text has
limit_of_code code (Some Elements) has finds = ap limit_text has
limit_of_code code None has finds =
    sym (ap (λ limit. limit_words (unwrap_or limit Elements))
    (none_among limit_code code (λ limit. ne_eqb code (limit_code limit) (λ e. let missed = finds limit (sym e) in cc)) limits))
