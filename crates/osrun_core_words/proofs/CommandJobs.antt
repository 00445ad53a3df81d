-- What a command's reader concludes from a parse without fault.
use Rattle.std.proofs.Common.{◌≡◌, ◌∙◌, ℕ, List, [], ◌∷◌, Option, Some, None, Result, Ok, Err, ap, refl, subst, sym, arith}
use Rattle.std.specs.Prelude.{unwrap_or}
use Rattle.std.specs.Result.{IsErrAnd}
use Rattle.std.specs.Str.Parse.{ParsesUnsigned, digits_value, without_leading_plus}
use Rattle.clap.specs.Words.{IsUnsignedIn, Kinds, ReadsOne, Text, fault_of, found_of, matches_of, one_text, rows_of}
use Rattle.clap.specs.declared.parser.matches.ArgMatches.{ArgMatches}
use Rattle.clap.proofs.WalkLemmas.{one_text-rows}
use Rattle.osrun_core_words.specs.Arguments.{Argument, name, number, option, id_of, argument_number}
use Rattle.osrun_core_words.specs.Command.{CommandForm, app_of_form, request_by, unless}
use Rattle.osrun_core_jobs.specs.Jobs.{Request}
use Rattle.osrun_core_words.specs.Parsed.{IsNumber, IsNumberGiven, IsParsedBy}
use Rattle.osrun_core_jobs.specs.declared.job.Request.{Request as Lent}
use Rattle.osrun_core_words.specs.declared.words_error.WordsError.{WordsError}
use Rattle.osrun_core_words.specs.declared.words_error.WordsError.TheVariants as errors

-- ---- a request

-- words with no fault ask for what the matches that the parse found ask for
pub request_read : (form : CommandForm) (words : List Text) (m : ArgMatches) (request : Request) → IsParsedBy (app_of_form form) words m
    → form.request (rows_of (found_of m)) ≡ request → request_by form words ≡ Some request
unfolding request_by
request_read form words m request p is =
    ap (λ (k : Kinds). unless k (form.request (matches_of (app_of_form form) words))) p.no_fault
    ∙ ap Some (ap form.request (sym p.rows) ∙ is)

-- and words with a fault ask for nothing
no_request : (form : CommandForm) (words : List Text) → (fault_of (app_of_form form) words ≡ [] → ⊥) → request_by form words ≡ None
unfolding request_by
no_request form words fault = go (fault_of (app_of_form form) words) fault
  where
    go : (k : Kinds) → (k ≡ [] → ⊥) → unless k (form.request (matches_of (app_of_form form) words)) ≡ None
    go [] h = absurd (h refl)
    go (k ∷ ks) h = refl

-- a reader that hands an error on refuses words with a fault
pub refused : (form : CommandForm) (words : List Text) (r : Result Lent WordsError) (e : WordsError) → IsErrAnd r (λ y. y ≡ e)
    → (◌≡◌ {A = Result ArgMatches WordsError} (Err e) (Err errors.Refused) → fault_of (app_of_form form) words ≡ [] → ⊥)
    → r ≡ Err errors.Refused → request_by form words ≡ None
refused form words r e is faulty refuses =
    let same : errors.Refused ≡ e = subst (λ (x : Result Lent WordsError). IsErrAnd x (λ y. y ≡ e)) refuses is in
    no_request form words (faulty (ap Err (sym same)))

-- ---- a number

in_u64 : (least most : ℕ) (t : Option Text) → IsNumber least most t → IsNumber 0 18446744073709551615 t
in_u64 least most t n = (n.0, n.1, (n.2.0, n.2.1, omega arith, omega arith))

given_number : (m : ArgMatches) (a : Argument) → IsNumberGiven m a → IsNumber 0 18446744073709551615 (one_text (found_of m) (id_of a))
given_number m (name id) n = absurd n
given_number m (number id least most) n = in_u64 least most _ n
given_number m (option id default least most) n = in_u64 least most _ n

read_number : (E : Type 0) (G : Text → Result ℕ E → Type 0) (t : Text) (r : Option ℕ) → ReadsOne G t r
    → ((u : Text) (x : Result ℕ E) → G u x → ParsesUnsigned 64 10 u x) → IsUnsignedIn 0 18446744073709551615 t
    → unwrap_or r 0 ≡ digits_value 10 (without_leading_plus t)
read_number E G t (Some n) read only is = (only t (Ok n) read).1
read_number E G t None read only is = absurd (only t (Err read.0) read.1 (is.0, is.1))

-- what a parse reads of a number that was given is the number in its matches
pub number_read : (E : Type 0) (G : Text → Result ℕ E → Type 0) (m : ArgMatches) (a : Argument) (r : Option ℕ) → IsNumberGiven m a
    → ((t : Text) → one_text (found_of m) (id_of a) ≡ Some t → ReadsOne G t r)
    → ((u : Text) (x : Result ℕ E) → G u x → ParsesUnsigned 64 10 u x)
    → unwrap_or r 0 ≡ argument_number (rows_of (found_of m)) (id_of a)
number_read E G m a r given read only =
    let n = given_number m a given in
    read_number E G n.0 r (read n.0 n.1) only n.2
    ∙ ap (λ (o : Option Text). digits_value 10 (without_leading_plus (unwrap_or o []))) (sym n.1 ∙ one_text-rows (found_of m) (id_of a))
