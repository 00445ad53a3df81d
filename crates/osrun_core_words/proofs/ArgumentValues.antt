-- What an argument holds after a parse without fault: one value, which passed its parser.
use Rattle.std.proofs.Common.{◌≡◌, ◌∙◌, ◌||◌, ◌<◌, ◌==◌, ℕ, Bool, true, false, not, List, [], ◌∷◌, Option, Some, None, is_some, map, length, ap, sym, subst, refl, inl, inr, arith, true≢false}
use Rattle.std.specs.List.{All, list_all, slice_index_or}
use Rattle.std.specs.Prelude.{unwrap_or}
use Rattle.std.specs.Str.{bytes_eq}
use Rattle.std.specs.Borrow.{Bor}
use Rattle.std.proofs.lemmas.Slice.Eq.{bytes_eq-Decides}
use Rattle.std.proofs.lemmas.List.Elements.{All-get_or}
use Rattle.clap.specs.Words.{Accepts, IsParsed, Text, args_of, groups_of, first_value, matched_of, one_text, parser_of, read_as, reading_of, rule_of}
use Rattle.clap.specs.Facts.{Entry, EntryPasses, PassesArg, unwrap_or_range}
use Rattle.clap.specs.Walk.{is_empty, is_simple_arg}
use Rattle.clap.specs.declared.builder.Arg.{Arg}
use Rattle.clap.specs.declared.builder.ArgAction.{ArgAction}
use Rattle.clap.specs.declared.builder.ArgAction.TheVariants.{Count, Set}
use Rattle.clap.specs.declared.builder.ValueParser.{ValueParser}
use Rattle.clap.specs.declared.builder.command.Command.{Command}
use Rattle.clap.specs.declared.parser.matches.Found.{Found}
use Rattle.clap.specs.declared.parser.matches.MatchedArg.{MatchedArg}
use Rattle.osrun_core_words.specs.Parsed.{is_count, takes_one}
use Rattle.clap.proofs.CallerLemmas.{entry_by_id}
use Rattle.clap.proofs.TakesLemmas.{each_rule}
use Rattle.clap.proofs.WalkLemmas.{both}

pub record TakesOne (test : Option ValueParser → Bool) (a : Arg) : Type 0 where
  pub parser : test a.value_parser ≡ true
  pub delimiter : not (is_some a.val_delim) ≡ true
  pub least : ((unwrap_or_range a.num_vals).start_inclusive == 1) ≡ true
  pub counts : not (is_count (unwrap_or a.action Set)) ≡ true

past : (b rest : Bool) → (not b || rest) ≡ true → b ≡ true → rest ≡ true
past true rest e same = e
past false rest e same = absurd (true≢false (sym same))

-- what a simple argument leaves out
delimits_none : (a : Arg) → is_simple_arg a ≡ true → not (is_some a.val_delim) ≡ true
delimits_none a e =
    let p = both (is_empty a.overrides.items) _ e in
    let q = both (is_empty a.default_vals_ifs.items) _ p.1 in
    let r = both (is_empty a.groups.items) _ q.1 in
    (both (not (is_some a.val_delim)) _ r.1).0

takes_of : (id : Text) (test : Option ValueParser → Bool) (a : Arg) → takes_one id test (rule_of a) ≡ true → bytes_eq a.id.now id ≡ true → TakesOne test a
takes_of id test a e same =
    let p = both (test a.value_parser) _ (past (bytes_eq a.id.now id) _ e same) in
    let q = both (rule_of a).is_simple _ p.1 in
    let r = both ((unwrap_or_range a.num_vals).start_inclusive == 1) _ q.1 in
    record { parser = p.0; delimiter = delimits_none a q.0; least = r.0; counts = r.1 }

-- what an argument holds: a text, by the argument that read it and the one whose parser it passed
pub record Held (f : Found) (id : Text) (test : Option ValueParser → Bool) : Type 0 where
  pub text : Text
  pub reader : Arg
  pub passer : Arg
  pub reads : test reader.value_parser ≡ true
  pub passes : test passer.value_parser ≡ true
  pub one : one_text f id ≡ Some (read_as (reading_of (parser_of reader)) text)
  pub first : first_value f id ≡ Some text
  pub accepted : Accepts passer.ignore_case (parser_of passer) text

module _ (c : Command) (f : Found) (used : Bool) (id : Text) (test : Option ValueParser → Bool) (parsed : IsParsed c f used)
    (no_groups : groups_of c ≡ []) (each : list_all (takes_one id test) (map rule_of (args_of c)) ≡ true) (named : id ≡ [] → ⊥) where
  takes_at : (k : ℕ) (a : Arg) → k < length (args_of c) → slice_index_or (args_of c) k a ≡ a → bytes_eq a.id.now id ≡ true → TakesOne test a
  takes_at k a lt at same = takes_of id test a (subst (λ (x : Arg). takes_one id test (rule_of x) ≡ true) at (each_rule (takes_one id test) (args_of c) each k a lt)) same

  first_at : (x : MatchedArg) (reader : Arg) (vs : List (Bor Text)) → matched_of f id ≡ Some x → x.vals.items ≡ vs → 0 < length vs
      → All (λ v. PassesArg c id v.now) vs → x.reading ≡ reading_of (parser_of reader) → test reader.value_parser ≡ true → Held f id test
  first_at x reader [] found are lt all how reads = absurd (omega arith)
  first_at x reader (v ∷ vs) found are lt all how reads =
      let pass = All-get_or (λ (w : Bor Text). PassesArg c id w.now) (v ∷ vs) 0 v (omega arith) all in
      let takes = takes_at pass.0 pass.1 pass.2 pass.3 pass.4.0 in
      record {
        text = v.now;
        reader = reader;
        passer = pass.1;
        reads = reads;
        passes = takes.parser;
        one = rw (found, are, how) refl;
        first = rw (found, are) refl;
        accepted = pass.4.1;
      }

  entry_at : (x : MatchedArg) (e : Entry) → matched_of f id ≡ Some x → e.1 ≡ x → e.0.now ≡ id → EntryPasses c e → Held f id test
  entry_at x e found same key pass =
      let no_group : e.1.is_group ≡ true → ⊥ = λ g. elim (pass.3 g) [
        | inl empty ↦ named (sym key ∙ empty)
        | inr lots ↦
            let bad : 0 < 0 = rw no_groups at lots in
            absurd (omega arith)
      ] in
      let all : All (λ v. PassesArg c id v.now) e.1.vals.items = elim pass.0 [
        | inl g ↦ absurd (no_group g)
        | inr vals ↦ subst (λ (w : Text). All (λ v. PassesArg c w v.now) e.1.vals.items) key vals
      ] in
      let some : 0 < length e.1.vals.items = elim pass.1 [
        | inl g ↦ absurd (no_group g.0)
        | inr (inl lt) ↦ lt
        | inr (inr (inl count)) ↦
            let any = count.1 in
            let takes = takes_at any.0 any.1 any.2 any.3 (subst (λ (w : Text). bytes_eq any.1.id.now w ≡ true) key any.4.0) in
            let bad : not (is_count Count) ≡ true = subst (λ (w : ArgAction). not (is_count w) ≡ true) any.4.1 takes.counts in
            absurd (true≢false (sym bad))
        | inr (inr (inr any)) ↦
            let takes = takes_at any.0 any.1 any.2 any.3 (subst (λ (w : Text). bytes_eq any.1.id.now w ≡ true) key any.4.0) in
            elim any.4.1 [
              | inl none ↦
                  let least = takes.least in
                  let bad : false ≡ true = rw none at least in
                  absurd (true≢false (sym bad))
              | inr has ↦
                  let none = takes.delimiter in
                  let bad : false ≡ true = rw has at none in
                  absurd (true≢false (sym bad))
            ]
      ] in
      elim pass.4 [
        | inl g ↦ absurd (no_group g)
        | inr any ↦
            let takes = takes_at any.0 any.1 any.2 any.3 (subst (λ (w : Text). bytes_eq any.1.id.now w ≡ true) key any.4.0) in
            first_at x any.1 e.1.vals.items found (ap (λ (y : MatchedArg). y.vals.items) (sym same)) some all
            (ap (λ (y : MatchedArg). y.reading) (sym same) ∙ sym any.4.1) takes.parser
      ]

  pub held_at : is_some (matched_of f id) ≡ true → Held f id test
  held_at has = go (matched_of f id) refl has
    where
      go : (o : Option MatchedArg) → matched_of f id ≡ o → is_some o ≡ true → Held f id test
      go None e h = absurd (true≢false (sym h))
      go (Some x) e h =
          let got = entry_by_id (EntryPasses c) f.entries.items id x parsed.values e in
          entry_at x got.0 e got.1 ((bytes_eq-Decides got.0.0.now id).0 got.2) got.3
