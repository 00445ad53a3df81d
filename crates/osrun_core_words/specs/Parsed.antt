-- What a parse leaves of a command that was made for it.
use Rattle.std.specs.Prelude.{◌≡◌, ◌≤◌, ◌⊎◌, ◌==◌, ◌&&◌, ◌||◌, not, true, Bool, false, [], ◌∷◌, List, ℕ, Option, Some}
use Rattle.std.specs.List.{list_all, list_any}
use Rattle.std.specs.Str.{bytes_eq}
use Rattle.clap.specs.Words.{App, IsParsed, IsUnsignedIn, Rule, app_of, built, fault_of, found_of}
use Rattle.clap.specs.Words.{has_subcommand, is_simple_and_free, matches_of, one_text, rows_of, Text}
use Rattle.clap.specs.Facts.{unwrap_or_range}
use Rattle.clap.specs.Walk.{action_of, is_empty}
use Rattle.clap.specs.declared.builder.ArgAction.{ArgAction}
use Rattle.clap.specs.declared.builder.ArgAction.TheVariants.{Count}
use Rattle.clap.specs.declared.builder.ValueParser.{ValueParser}
use Rattle.clap.specs.declared.builder.ValueParser.TheVariants.{Unsigned}
use Rattle.clap.specs.declared.builder.command.Command.{Command}
use Rattle.clap.specs.declared.parser.matches.ArgMatches.{ArgMatches}
use Rattle.osrun_core_words.specs.Arguments.{Argument, name, number, option, arguments_of, simple_command}
use Rattle.osrun_core_words.specs.declared.table.CommandForm.{CommandForm as Form}

-- ---- what is parsed

-- a command parsed the words without fault: the matches are those that it defines, and hold what a parse
-- promises
pub record IsParsedBy (app : App) (words : List Text) (m : ArgMatches) : Type 0 where
  pub no_fault : fault_of app words ≡ []
  pub rows : rows_of (found_of m) ≡ matches_of app words
  pub command : Command
  pub shape : (app_of command ≡ app) ⊎ (app_of command ≡ built app)
  pub parsed : IsParsed command (found_of m) (has_subcommand m)

-- the text is there, and writes a number within bounds
abbrev pub IsNumber : ℕ → ℕ → Option Text → Type 0
IsNumber least most text = (t : Text) × (text ≡ Some t) × IsUnsignedIn least most t

-- a number was given to the argument, within its bounds
abbrev pub IsNumberGiven : ArgMatches → Argument → Type 0
IsNumberGiven m (name id) = ⊥
IsNumberGiven m (number id least most) = IsNumber least most (one_text (found_of m) id)
IsNumberGiven m (option id default least most) = IsNumber least most (one_text (found_of m) id)

-- a number within the argument's bounds
abbrev pub IsNumberFor : Argument → ℕ → Type 0
IsNumberFor (name id) n = ⊥
IsNumberFor (number id least most) n = (least ≤ n) × (n ≤ most)
IsNumberFor (option id default least most) n = (least ≤ n) × (n ≤ most)

-- what a parse supplies an argument with: of a name nothing is said here
abbrev pub IsSupplied : ArgMatches → Argument → Type 0
IsSupplied m (name id) = Unit {0}
IsSupplied m (number id least most) = IsNumberGiven m (number id least most)
IsSupplied m (option id default least most) = IsNumberGiven m (option id default least most)

abbrev pub AreSupplied : ArgMatches → List Argument → Type 0
AreSupplied m [] = Unit {0}
AreSupplied m (a ∷ rest) = IsSupplied m a × AreSupplied m rest

-- ---- arguments whose numbers can be read back

abbrev pub is_count : ArgAction → Bool
is_count Count = true
is_count _ = false

-- an argument of this id takes one value, by a parser that passes the test
abbrev pub takes_one : Text → (Option ValueParser → Bool) → Rule → Bool
takes_one id test r = not (bytes_eq r.id id)
    || (test r.parser && (r.is_simple && ((unwrap_or_range r.range).start_inclusive == 1
    && not (is_count (action_of r)))))

abbrev pub is_number : ℕ → ℕ → Option ValueParser → Bool
is_number least most (Some (Unsigned a b)) = (a == least) && (b == most)
is_number least most _ = false

-- the arguments of this id take one number within the bounds
abbrev pub is_number_id : Text → ℕ → ℕ → List Rule → Bool
is_number_id id least most rules =
    not (is_empty id) && list_all (takes_one id (is_number least most)) rules

abbrev pub has_default : Text → Rule → Bool
has_default id r = bytes_eq r.id id && (r.is_simple && not (is_empty r.defaults))

abbrev pub is_required : Text → Rule → Bool
is_required id r = bytes_eq r.id id && r.required

abbrev pub is_option_of : App → Text → ℕ → ℕ → Bool
is_option_of app id least most = (is_number_id id least most app.top.rules
    && is_number_id id least most (built app).top.rules)
    && (list_any (has_default id) app.top.rules && list_any (has_default id) (built app).top.rules)

abbrev pub is_required_of : App → Text → ℕ → ℕ → Bool
is_required_of app id least most = (is_number_id id least most app.top.rules
    && is_number_id id least most (built app).top.rules)
    && (list_any (is_required id) (built app).top.rules
    && not (built app).top.subcommand_negates_reqs)

abbrev pub is_argument_of : App → Argument → Bool
is_argument_of app (name id) = true
is_argument_of app (number id least most) = is_required_of app id least most
is_argument_of app (option id default least most) = is_option_of app id least most

-- the arguments make a simple command, none says anything of another one, and the numbers among them can be
-- read back
abbrev pub is_readable : Text → List Argument → Bool
is_readable word arguments = is_simple_and_free (simple_command word arguments)
    && list_all (is_argument_of (simple_command word arguments)) arguments

-- ---- what the code's values show

-- the simple command that a form makes
abbrev pub app_for : Form → App
app_for form = simple_command form.word.now (arguments_of form.arguments.now)
