use Rattle.std.proofs.Common.{sym, subst, ◌∙◌}
use Rattle.std.proofs.lemmas.Result.{err_from_is_err_and}
use Rattle.os_code.specs.declared.parts.Parts.{Parts}
use Rattle.os_code.specs.IsValid.{IsValid}
use Rattle.os_object.specs.Object.{parts_numbers}
use Rattle.os_object.proofs.Objects.{numbers_are, spells-from, refused_as}
use Rattle.os_object.proofs.Spelling.{one_reading}
use Rattle.os_object.proofs.decoding.decode.Goals as goal

pub returns-in_err-numbers-clause-exact : goal.returns-in_err-numbers-clause-exact
returns-in_err-numbers-clause-exact c parts spells =
    let p = err_from_is_err_and c.from_residual.result c.from_residual.ensures.1 in
    rw (p.1, p.2) (refused_as c.in_err-numbers.field-0.0 _ parts c.in_err-numbers.ensures.err (λ none. none (parts_numbers parts) spells.are_object))

pub returns-in_err-parts-clause-exact : goal.returns-in_err-parts-clause-exact
returns-in_err-parts-clause-exact c parts spells =
    let p = err_from_is_err_and c.from_residual-in_err-parts.result c.from_residual-in_err-parts.ensures.1 in
    let are = c.as_slice.ensures.value ∙ numbers_are c.args.bytes.now parts c.in_ok-numbers.numbers.items spells c.in_ok-numbers.ensures.ok in
    rw (p.1, p.2) (refused_as c.in_err-parts.field-0.0 _ parts c.in_err-parts.ensures.err (λ none. none parts are))

pub returns-then-not-branch-clause-exact : goal.returns-then-not-branch-clause-exact
returns-then-not-branch-clause-exact c parts spells valid =
    let mine = spells-from c.args.bytes.now c.in_ok-parts.parts c.in_ok-numbers.numbers.items c.in_ok-numbers.ensures.ok
    (sym c.as_slice.ensures.value ∙ c.in_ok-parts.ensures.ok.1) c.in_ok-parts.ensures.ok.0 in
    let same = one_reading c.args.bytes.now parts c.in_ok-parts.parts spells mine in
    c.in_ok-is_valid.ensures.not_valid c.if-not-branch.true (subst (λ (code : Parts). IsValid code) same valid)

pub returns-clause-exact : goal.returns-clause-exact
returns-clause-exact c parts spells =
    let mine = spells-from c.args.bytes.now c.in_ok-parts.parts c.in_ok-numbers.numbers.items c.in_ok-numbers.ensures.ok
    (sym c.as_slice.ensures.value ∙ c.in_ok-parts.ensures.ok.1) c.in_ok-parts.ensures.ok.0 in
    c.in_ok-new.ensures ∙ sym (one_reading c.args.bytes.now parts c.in_ok-parts.parts spells mine)
