-- What a command's own arguments hold after a parse without fault.
use Rattle.std.proofs.Common.{◌≡◌, ◌∙◌, ◌&&◌, ◌||◌, ◌<◌, ◌==◌, ℕ, Bool, true, false, not, zero, suc, List, [], ◌∷◌, Option, Some, is_some, map, option_map, length, ap, ap₂, sym, subst, refl, inl, inr, arith, true≢false, eqb-true}
use Rattle.std.specs.List.{All, list_all, list_any, slice_index_or}
use Rattle.std.specs.Prelude.{find}
use Rattle.std.specs.Str.{bytes_eq}
use Rattle.std.specs.Borrow.{Bor}
use Rattle.std.proofs.lemmas.Slice.Eq.{bytes_eq-Decides}
use Rattle.clap.specs.Words.{App, Kinds, Row, Rule, Text, app_of, args_of, built, fault_of, found_of, has_subcommand, is_simple_and_free, matched_of, matches_of, one_text, rule_of}
use Rattle.clap.specs.Facts.{Entry, HasId, WantsDefault}
use Rattle.clap.specs.Faults.{check_fault, defaults_fault, entered_fault, settle_fault, walk_fault}
use Rattle.clap.specs.Kinds.{check_kinds, or_else}
use Rattle.clap.specs.Simple.{argument_words, entered, names_of}
use Rattle.clap.specs.Takes.{is_given}
use Rattle.clap.specs.Walk.{is_empty, is_simple_arg, nothing_held, settled, stop_after, texts, walk, walk_from}
use Rattle.clap.specs.declared.builder.Arg.{Arg}
use Rattle.clap.specs.declared.builder.ValueParser.{ValueParser}
use Rattle.clap.specs.declared.builder.ValueParser.TheVariants as parser
use Rattle.clap.specs.declared.parser.matches.ArgMatches.{ArgMatches}
use Rattle.clap.specs.declared.parser.matches.Found.{Found}
use Rattle.clap.proofs.CallerLemmas.{present_has_entry}
use Rattle.clap.proofs.SimpleLemmas.{is_false, is_nil, plain_fields}
use Rattle.clap.proofs.TakesLemmas.{present_row}
use Rattle.clap.proofs.WalkLemmas.{both}
use Rattle.osrun_core_words.specs.Parsed.{AreSupplied, IsNumber, IsParsedBy, has_default, is_argument_of, is_number, is_number_id, is_option_of, is_required, is_required_of, is_readable}
use Rattle.osrun_core_words.specs.Arguments.{Argument, name, number, option, simple_command}
use Rattle.osrun_core_words.proofs.CommandParses.{is_plain_after, simple_of}
use Rattle.osrun_core_words.proofs.ArgumentValues.{Held, held_at}

-- ---- a number

unsigned_is : (low high : ℕ) (q : Option ValueParser) → is_number low high q ≡ true → q ≡ Some (parser.Unsigned low high)
unsigned_is low high (Some (parser.Unsigned a b)) e =
    let p = both (a == low) _ e in
    ap₂ (λ (x y : ℕ). Some (parser.Unsigned x y)) (eqb-true a low p.0) (eqb-true b high p.1)
unsigned_is low high _ e = absurd (true≢false (sym e))

number_held : (low high : ℕ) (f : Found) (id : Text) → Held f id (is_number low high) → IsNumber low high (one_text f id)
number_held low high f id held =
    let by_reader = unsigned_is low high held.reader.value_parser held.reads in
    let by_passer = unsigned_is low high held.passer.value_parser held.passes in
    (held.text, rw by_reader at held.one, rw by_passer at held.accepted)

-- ---- what is there

all_rest : {X : Type 0} (P : X → Type 0) (x : X) (xs : List X) → All P (x ∷ xs) → All P xs
all_rest P x xs h = λ k d lt. h (suc k) d (omega arith)

entry_found : (xs : List Entry) (id : Text) (i : ℕ) → i < length xs → ((d : Entry) → bytes_eq (slice_index_or xs i d).0.now id ≡ true)
    → is_some (option_map (λ (e : Entry). e.1) (find (λ (e : Entry). bytes_eq e.0.now id) xs)) ≡ true
entry_found [] id i lt at = absurd (omega arith)
entry_found (x ∷ xs) id zero lt at = rw (at x) refl
entry_found (x ∷ xs) id (suc i) lt at = go (bytes_eq x.0.now id) refl (entry_found xs id i (omega arith) at)
  where
    go : (b : Bool) → bytes_eq x.0.now id ≡ b → is_some (option_map (λ (e : Entry). e.1) (find (λ (e : Entry). bytes_eq e.0.now id) xs)) ≡ true
        → is_some (option_map (λ (e : Entry). e.1) (find (λ (e : Entry). bytes_eq e.0.now id) (x ∷ xs))) ≡ true
    go true e rest = rw e refl
    go false e rest = rw e rest

-- an argument of this id has a default

some_text : (xs : List (Bor Text)) → not (is_empty (texts xs)) ≡ true → 0 < length xs
some_text [] e = absurd (true≢false (sym e))
some_text (x ∷ xs) e = omega arith

plain_default : (a : Arg) → is_simple_arg a ≡ true → a.default_vals_ifs.items ≡ []
plain_default a e =
    let p = both (is_empty a.overrides.items) _ e in
    is_nil a.default_vals_ifs.items (both (is_empty a.default_vals_ifs.items) _ p.1).0

wants : (id : Text) (a : Arg) → has_default id (rule_of a) ≡ true → (a.id.now ≡ id) × WantsDefault a
wants id a e =
    let p = both (bytes_eq a.id.now id) _ e in
    let q = both (rule_of a).is_simple _ p.1 in
    ((bytes_eq-Decides a.id.now id).0 p.0, (plain_default a q.0, some_text _ q.1))

default_there : (id : Text) (f : Found) (args : List Arg) → All (λ a. WantsDefault a → HasId f a.id.now) args
    → list_any (has_default id) (map rule_of args) ≡ true → is_some (matched_of f id) ≡ true
default_there id f [] all e = absurd (true≢false (sym e))
default_there id f (a ∷ args) all e = go (has_default id (rule_of a)) refl e (default_there id f args (all_rest (λ (x : Arg). WantsDefault x → HasId f x.id.now) a args all))
  where
    go : (b : Bool) → has_default id (rule_of a) ≡ b → (b || list_any (has_default id) (map rule_of args)) ≡ true
        → (list_any (has_default id) (map rule_of args) ≡ true → is_some (matched_of f id) ≡ true) → is_some (matched_of f id) ≡ true
    go true is e rest =
        let w = wants id a is in
        let has = subst (λ (i : Text). HasId f i) w.0 (all 0 a (omega arith) w.1) in
        entry_found f.entries.items id has.0 has.1 has.2
    go false is e rest = rest e

-- an argument of this id is required

neither : (a b : Bool) → (a || b) ≡ false → (a ≡ false) × (b ≡ false)
neither false b e = (refl, e)
neither true b e = absurd (true≢false e)

needed : (q g : Bool) → (q && not g) ≡ false → q ≡ true → g ≡ true
needed true true e is = refl
needed true false e is = absurd (true≢false e)
needed false g e is = absurd (true≢false (sym is))

given_there : (id : Text) (rows : List Row) (rs : List Rule) → list_any (λ a. a.required && not (is_given a.id rows)) rs ≡ false
    → list_any (is_required id) rs ≡ true → is_given id rows ≡ true
given_there id rows [] none e = absurd (true≢false (sym e))
given_there id rows (r ∷ rs) none e = go (is_required id r) refl e (given_there id rows rs (neither (r.required && not (is_given r.id rows)) _ none).1)
  where
    go : (b : Bool) → is_required id r ≡ b → (b || list_any (is_required id) rs) ≡ true
        → (list_any (is_required id) rs ≡ true → is_given id rows ≡ true) → is_given id rows ≡ true
    go true is e rest =
        let p = both (bytes_eq r.id id) _ is in
        subst (λ (i : Text). is_given i rows ≡ true) ((bytes_eq-Decides r.id id).0 p.0)
        (needed r.required _ (neither (r.required && not (is_given r.id rows)) _ none).0 p.1)
    go false is e rest = rest e

second : (a b : Kinds) → or_else a b ≡ [] → b ≡ []
second [] b e = e
second (k ∷ ks) b e = cc

third : (a b c : Bool) → check_kinds a b c ≡ [] → c ≡ false
third false false false e = refl
third false false true e = cc
third false true c e = cc
third true b c e = cc

-- where no word has a fault, what is required was given
all_given : (app : App) (words : List Text) → (built app).top.subcommand_negates_reqs ≡ false → fault_of app words ≡ []
    → list_any (λ a. a.required && not (is_given a.id (matches_of app words))) (built app).top.rules ≡ false
all_given app words negates e =
    let check : check_fault (built app).top (matches_of app words) (is_some (entered (built app) (stop_after (built app).top.rules (names_of (built app)) (argument_words app words)))) ≡ [] =
    let end = (walk (built app).top.rules (names_of (built app)) nothing_held (argument_words app words)) in
    let s = (built app).top in
    second (defaults_fault (settled s.rules end.held).rows s.rules) _
    (second (settle_fault s.rules s.args_override_self end.held) _
    (second (entered_fault (built app) end.stopped) _
    (second (walk_fault s (names_of (built app)) (walk_from nothing_held) (argument_words app words)) _ e))) in
    go (built app).top.subcommand_negates_reqs _ negates (third _ _ _ check)
  where
    go : (n x : Bool) → n ≡ false → (not (n && x) && list_any (λ a. a.required && not (is_given a.id (matches_of app words))) (built app).top.rules) ≡ false
        → list_any (λ a. a.required && not (is_given a.id (matches_of app words))) (built app).top.rules ≡ false
    go false x is e = e
    go true x is e = absurd (true≢false is)

-- ---- what a command's reader cites

-- the arguments of this id take one number within the bounds

number_at : (app : App) (words : List Text) (m : ArgMatches) → is_simple_and_free app ≡ true → IsParsedBy app words m → (low high : ℕ) (id : Text)
    → is_number_id id low high app.top.rules ≡ true → is_number_id id low high (built app).top.rules ≡ true
    → is_some (matched_of (found_of m) id) ≡ true → IsNumber low high (one_text (found_of m) id)
number_at app words m free p low high id before after there =
    let test : is_number_id id low high (app_of p.command).top.rules ≡ true = elim p.shape [
      | inl h ↦ subst (λ (a : App). is_number_id id low high a.top.rules ≡ true) (sym h) before
      | inr h ↦ subst (λ (a : App). is_number_id id low high a.top.rules ≡ true) (sym h) after
    ] in
    let parts = both (not (is_empty id)) _ test in
    let named : id ≡ [] → ⊥ = λ e.
    let bad : not (is_empty {X = ℕ} []) ≡ true = subst (λ (i : Text). not (is_empty i) ≡ true) e parts.0 in absurd (true≢false (sym bad)) in
    let groups = (plain_fields p.command (is_plain_after app p.command (simple_of app free) p.shape)).groups in
    number_held low high (found_of m) id (held_at p.command (found_of m) (has_subcommand m) id (is_number low high) p.parsed groups parts.1 named there)

-- an option with a default holds a number within its bounds
pub option_number : (app : App) (words : List Text) (m : ArgMatches) → is_simple_and_free app ≡ true → IsParsedBy app words m → (low high : ℕ) (id : Text)
    → is_number_id id low high app.top.rules ≡ true → is_number_id id low high (built app).top.rules ≡ true
    → list_any (has_default id) app.top.rules ≡ true → list_any (has_default id) (built app).top.rules ≡ true
    → IsNumber low high (one_text (found_of m) id)
option_number app words m free p low high id before after has-before has-after =
    let default : list_any (has_default id) (app_of p.command).top.rules ≡ true = elim p.shape [
      | inl h ↦ subst (λ (a : App). list_any (has_default id) a.top.rules ≡ true) (sym h) has-before
      | inr h ↦ subst (λ (a : App). list_any (has_default id) a.top.rules ≡ true) (sym h) has-after
    ] in
    number_at app words m free p low high id before after (default_there id (found_of m) (args_of p.command) p.parsed.defaults default)

-- and so does a number that has to be given
pub required_number : (app : App) (words : List Text) (m : ArgMatches) → is_simple_and_free app ≡ true → IsParsedBy app words m → (low high : ℕ) (id : Text)
    → is_number_id id low high app.top.rules ≡ true → is_number_id id low high (built app).top.rules ≡ true
    → list_any (is_required id) (built app).top.rules ≡ true → (built app).top.subcommand_negates_reqs ≡ false
    → IsNumber low high (one_text (found_of m) id)
required_number app words m free p low high id before after required negates =
    let given = given_there id (matches_of app words) (built app).top.rules (all_given app words negates p.no_fault) required in
    number_at app words m free p low high id before after
    (present_has_entry (found_of m) id (present_row (found_of m) id ∙ (ap (is_given id) p.rows ∙ given)))

-- ---- and of a whole table

option_held : (app : App) (words : List Text) (m : ArgMatches) → is_simple_and_free app ≡ true → IsParsedBy app words m → (id : Text) (low high : ℕ)
    → is_option_of app id low high ≡ true → IsNumber low high (one_text (found_of m) id)
option_held app words m free p id low high e =
    let halves = both (is_number_id id low high app.top.rules && is_number_id id low high (built app).top.rules) _ e in
    let ids = both (is_number_id id low high app.top.rules) _ halves.0 in
    let defaults = both (list_any (has_default id) app.top.rules) _ halves.1 in
    option_number app words m free p low high id ids.0 ids.1 defaults.0 defaults.1

required_held : (app : App) (words : List Text) (m : ArgMatches) → is_simple_and_free app ≡ true → IsParsedBy app words m → (id : Text) (low high : ℕ)
    → is_required_of app id low high ≡ true → IsNumber low high (one_text (found_of m) id)
required_held app words m free p id low high e =
    let halves = both (is_number_id id low high app.top.rules && is_number_id id low high (built app).top.rules) _ e in
    let ids = both (is_number_id id low high app.top.rules) _ halves.0 in
    let there = both (list_any (is_required id) (built app).top.rules) _ halves.1 in
    required_number app words m free p low high id ids.0 ids.1 there.0 (is_false _ there.1)

each_given : (app : App) (words : List Text) (m : ArgMatches) → is_simple_and_free app ≡ true → IsParsedBy app words m → (table : List Argument)
    → list_all (is_argument_of app) table ≡ true → AreSupplied m table
each_given app words m free p [] e = tt
each_given app words m free p (name id ∷ rest) e = (tt, each_given app words m free p rest e)
each_given app words m free p (number id low high ∷ rest) e =
    let parts = both (is_required_of app id low high) _ e in
    (required_held app words m free p id low high parts.0, each_given app words m free p rest parts.1)
each_given app words m free p (option id default low high ∷ rest) e =
    let parts = both (is_option_of app id low high) _ e in
    (option_held app words m free p id low high parts.0, each_given app words m free p rest parts.1)

pub table_simple : (word : Text) (table : List Argument) → is_readable word table ≡ true → is_simple_and_free (simple_command word table) ≡ true
table_simple word table e = (both (is_simple_and_free (simple_command word table)) _ e).0

pub table_given : (word : Text) (table : List Argument) (words : List Text) (m : ArgMatches) → is_readable word table ≡ true
    → IsParsedBy (simple_command word table) words m → AreSupplied m table
table_given word table words m e p =
    let parts = both (is_simple_and_free (simple_command word table)) _ e in
    each_given (simple_command word table) words m parts.0 p table parts.1
