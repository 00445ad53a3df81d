-- What the parse of a simple command says, of the app that the command was made for.
use Rattle.std.proofs.Common.{◌≡◌, ◌⊎◌, ◌∙◌, true, false, List, [], ap, subst, inl, inr}
use Rattle.clap.specs.Words.{App, BuildsOrBreaks, BuildsTo, HasKind, HasMatchesOf, IsParsed, Kinds, Text, app_of, built, fault_of, found_of, has_subcommand, is_broken, is_simple, is_simple_and_free, kind_of}
use Rattle.clap.specs.Simple.{has_simple_rules, is_buildable, is_ready, shape_of}
use Rattle.clap.specs.declared.builder.command.Command.{Command}
use Rattle.clap.specs.declared.builder.command.Command.TheViews.{out-Command}
use Rattle.clap.specs.declared.error.Error.{Error}
use Rattle.clap.specs.declared.error.ErrorKind.TheVariants.{OutOfMemory}
use Rattle.clap.specs.declared.parser.matches.ArgMatches.{ArgMatches}
use Rattle.clap.proofs.SimpleLemmas.{plain_fields}
use Rattle.clap.proofs.WalkLemmas.{both}
use Rattle.osrun_core_words.specs.Parsed.{IsParsedBy}

pub simple_of : (app : App) → is_simple_and_free app ≡ true → is_simple app ≡ true
simple_of app e = (both (is_simple app) _ e).0

plain_before : (app : App) → is_simple app ≡ true → app.top.is_plain ≡ true
plain_before app e = (both app.top.is_plain _ (both (has_simple_rules app.top) _ (both (is_buildable app) _ e).0).0).0

plain_built : (app : App) → is_simple app ≡ true → (built app).top.is_plain ≡ true
plain_built app e =
    let ready = (both (is_ready (built app).top) _ (both (is_buildable app) _ e).1).0 in
    (both (built app).top.is_plain _ (both (has_simple_rules (built app).top) _ ready).0).0

-- the command that the parse leaves is as it was or built, so it is plain
pub is_plain_after : (app : App) (c : Command) → is_simple app ≡ true → (app_of c ≡ app) ⊎ (app_of c ≡ built app) → (shape_of c).is_plain ≡ true
is_plain_after app c e (inl h) = ap (λ (a : App). a.top.is_plain) h ∙ plain_before app e
is_plain_after app c e (inr h) = ap (λ (a : App). a.top.is_plain) h ∙ plain_built app e

shape_after : (app : App) (old new : Command) → is_simple app ≡ true → app_of old ≡ app → BuildsOrBreaks old new → (is_broken new ≡ true → ⊥)
    → (app_of new ≡ app) ⊎ (app_of new ≡ built app)
shape_after app old new e was (inl broken) whole = absurd (whole broken)
shape_after app old new e was (inr after) whole = elim after.2 [
  | inl same ↦ inl (same ∙ was)
  | inr made ↦ inr (made (ap is_buildable was ∙ (both (is_buildable app) _ e).0) ∙ ap built was)
]

pub parsed_by : (app : App) (words : List Text) (old new : Command) (m : ArgMatches) → is_simple_and_free app ≡ true → app_of old ≡ app
    → BuildsTo old new × ((out-Command new).has_globals ≡ false → IsParsed new (found_of m) (has_subcommand m)) × HasMatchesOf (app_of old) words m
    → (is_simple_and_free (app_of old) ≡ true → fault_of (app_of old) words ≡ [])
    → BuildsOrBreaks old new → (is_broken new ≡ true → ⊥)
    → IsParsedBy app words m
parsed_by app words old new m free was ok kinds after whole =
    let simple = simple_of app free in
    let shape = shape_after app old new simple was after whole in
    record {
      no_fault = subst (λ (a : App). fault_of a words ≡ []) was (kinds (ap is_simple_and_free was ∙ free));
      rows = (subst (λ (a : App). HasMatchesOf a words m) was ok.2 simple).0;
      command = new;
      shape = shape;
      parsed = ok.1 (plain_fields new (is_plain_after app new simple shape)).globals;
    }

pub has_fault : (app : App) (words : List Text) (old : Command) (e : Error) → is_simple_and_free app ≡ true → app_of old ≡ app
    → (is_simple_and_free (app_of old) ≡ true → HasKind (fault_of (app_of old) words) e) → (kind_of e ≡ OutOfMemory → ⊥)
    → fault_of app words ≡ [] → ⊥
has_fault app words old e free was kinds other none =
    go (subst (λ (k : Kinds). HasKind k e) (ap (λ (a : App). fault_of a words) was ∙ none) (kinds (ap is_simple_and_free was ∙ free)))
  where
    go : HasKind [] e → ⊥
    go (inl h) = other h
    go (inr h) = h
