use Rattle.std.proofs.Common.{◌≡◌, Option, None, Some, refl, ◌∙◌, ◌∷◌, ◌+◌, All, ap, append_assoc, drop, List, ℕ, subst, sym, take, [], ◌++◌, get_or}
use Rattle.std.specs.Prelude.{IfNone}
use Rattle.std.proofs.lemmas.List.{get_or_default, take-append-drop, take_all, take_more}
use Rattle.std.proofs.lemmas.List.Elements.{All-more}
use Rattle.osview_sentences.specs.declared.stream_name.StreamName.{StreamName}
use Rattle.osview_stream.specs.Called.{IsOf}
use Rattle.osview_stream.proofs.called.stream_in_text.Goals as goal

-- what stands for a name where there is none
no_name : StreamName
no_name = record { first = 0; count = 0; start = 0; end = 0 }

-- what holds where nothing was found
none_of : (found : Option ℕ) (P : Type 0) → ((stream : ℕ) → found ≡ Some stream → ⊥) → IfNone found P → P
none_of None P never is = is
none_of (Some stream) P never is = absurd (never stream refl)

pub returns-in-Some-clause-some : goal.returns-in-Some-clause-some
returns-in-Some-clause-some c =
    let k = c.loop-name.name-index in
    let names = c.args.names.now in
    let name = get_or names k no_name in
    let rest = drop (k + 1) names in
    record {
      before = take k names;
      name = name;
      behind = rest;
      names_are = sym (take-append-drop (k + 1) names) ∙ ap (λ xs. xs ++ rest) (take_more names k no_name c.loop-name-test.true) ∙ append_assoc (take k names) (name ∷ []) rest;
      none_before = c.loop-name.invariant;
      is_of = subst (λ (n : StreamName). IsOf c.args.text.now c.args.streams c.args.word.now n c.in-Some.stream) (get_or_default names k _ no_name c.loop-name-test.true) c.in-Some.ensures.some;
    }

pub loop-name-preserved : goal.loop-name-preserved
loop-name-preserved c =
    let none = none_of c.stream_of.result _ c.in_default.not-Some c.stream_of.ensures.none in
    All-more (λ (n : StreamName). (stream : ℕ) → ¬ (IsOf c.args.text.now c.args.streams c.args.word.now n stream)) c.args.names.now c.loop-name.name-index no_name c.loop-name-test.true c.loop-name.invariant
    (subst (λ (n : StreamName). (stream : ℕ) → ¬ (IsOf c.args.text.now c.args.streams c.args.word.now n stream)) (get_or_default c.args.names.now c.loop-name.name-index _ no_name c.loop-name-test.true) none)

pub returns-clause-none : goal.returns-clause-none
returns-clause-none c =
    subst (λ (ns : List StreamName). All (λ (n : StreamName). (stream : ℕ) → ¬ (IsOf c.args.text.now c.args.streams c.args.word.now n stream)) ns) (take_all c.loop-name.name-index c.args.names.now c.loop-name-test.false) c.loop-name.invariant
