-- The arguments of a command, the simple command of clap that they make, and what they are given.
use Rattle.std.specs.Prelude.{ℕ, true, List, [], ◌∷◌, Some, map, unwrap_or}
use Rattle.std.specs.Str.Parse.{digits_value, without_leading_plus}
use Rattle.clap.specs.Words.{App, Row, Rule, Text, first_of, new_app, new_rule, one_of}
use Rattle.clap.specs.declared.builder.ValueParser.TheVariants.{Unsigned}
use Rattle.osrun_core_words.specs.declared.argument.Argument.{Argument as Lent}
use Rattle.osrun_core_words.specs.declared.argument.Argument.TheVariants as lent

-- ---- what a command takes

pub data Argument : Type 0 where
  -- a name that has to be given
  name : Text → Argument
  -- a number that has to be given, from the least to the most
  number : Text → ℕ → ℕ → Argument
  -- `--id N`: a number from the least to the most, and where none is given the default
  option : Text → Text → ℕ → ℕ → Argument

-- what the argument is called
abbrev pub id_of : Argument → Text
id_of (name id) = id
id_of (number id least most) = id
id_of (option id default least most) = id

-- the argument as clap takes it
abbrev pub rule_for : Argument → Rule
rule_for (name id) = record (new_rule id) { required = true }
rule_for (number id least most) =
    record (new_rule id) { required = true; parser = Some (Unsigned least most) }
rule_for (option id default least most) = record (new_rule id) {
  long = Some id;
  defaults = default ∷ [];
  parser = Some (Unsigned least most);
}

-- the simple command with these arguments and nothing else
abbrev pub simple_command : Text → List Argument → App
simple_command word arguments =
    record (new_app word) { top = record (new_app word).top { rules = map rule_for arguments } }

-- ---- what the matches of a simple command give an argument: where the words have no fault, a value is there

-- the name: its first value
abbrev pub name_in : List Row → Text → Text
name_in rows id = unwrap_or (first_of id rows) []

-- the number: the digits of its value, behind a plus or none
abbrev pub argument_number : List Row → Text → ℕ
argument_number rows id = digits_value 10 (without_leading_plus (unwrap_or (one_of id rows) []))

-- ---- what the code's values show

abbrev pub argument_of : Lent → Argument
argument_of (lent.Name id) = name id.now
argument_of (lent.Number id least most) = number id.now least most
argument_of (lent.Option id default least most) = option id.now default.now least most

abbrev pub arguments_of : List Lent → List Argument
arguments_of arguments = map argument_of arguments
