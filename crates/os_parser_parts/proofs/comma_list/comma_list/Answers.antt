use Rattle.std.proofs.Common.{◌≡◌, ◌+◌, [], ◌∷◌, ◌++◌, length, true, false, refl, ap, ◌∙◌, arith}
use Rattle.std.proofs.lemmas.Result.{err_from_is_err_and}
use Rattle.std.proofs.lemmas.List.{length_push}
use Rattle.os_lexer.specs.declared.token.Kind.TheVariants as kind
use Rattle.os_lexer.specs.declared.token.Punct.TheVariants as puncts
use Rattle.os_parser_grammar.specs.Reading.{after, begins}
use Rattle.os_parser_grammar.specs.Statements.{list_of}
use Rattle.os_parser_grammar.proofs.Lists as lists
use Rattle.os_parser_expressions.proofs.Refusals.{refuses-on}
use Rattle.os_parser_grammar.proofs.Tokens.{begins-takes}
use Rattle.os_parser_parts.proofs.comma_list.comma_list.Goals as goal

pub returns-in_err-read-clause-gives : goal.returns-in_err-read-clause-gives
unfolding list_of
returns-in_err-read-clause-gives g c =
    let p = err_from_is_err_and c.from_residual.result c.from_residual.ensures.1 in
    rw (p.1, p.2) (refuses-on c.in_err-read.field-0.0 c.read.new.cursor _ _ c.in_err-read.ensures.gives (λ e. rw e refl))

pub loop-alloc-init : goal.loop-alloc-init
loop-alloc-init g c =
    let pushed : c.push.new.self ≡ [] ++ c.in_ok-read.field-0 ∷ [] = c.in_ok-push.ensures.ok ∙ ap (λ xs. xs ++ c.in_ok-read.field-0 ∷ []) c.new-items.ensures in
    let one : length c.push.new.self ≡ 1 = ap length pushed in
    record {
      read = rw pushed (lists.list_of-start g.P.Production.view (g.P.Production.reads c.args.part.now) c.args.cursor.now c.read.new.cursor c.in_ok-read.field-0 c.in_ok-read.ensures.gives);
      within = omega arith;
      some = omega arith;
      shorter = c.in_ok-read.ensures.within;
    }

pub returns-in_err-read-2-clause-gives : goal.returns-in_err-read-2-clause-gives
returns-in_err-read-2-clause-gives g c =
    let p = err_from_is_err_and c.from_residual-in_err-read-2.result c.from_residual-in_err-read-2.ensures.1 in
    let comma : begins (kind.Punct puncts.Comma) c.loop-alloc.cursor ≡ true = cc in
    rw (p.1, p.2)
    (refuses-on c.in_err-read-2.field-0.0 c.read-in-loop-alloc.new.cursor _ _ c.in_err-read-2.ensures.gives
    (λ e. c.loop-alloc.invariant.read
    ∙ lists.with_list-fails (length c.read.new.cursor + 2) g.P.Production.view c.loop-alloc.items (begins (kind.Punct puncts.Comma)) (λ ts. g.P.Production.reads c.args.part.now (after ts))
    c.loop-alloc.cursor c.read-in-loop-alloc.new.cursor (omega arith) comma (rw (← c.advance.ensures) e)))

pub loop-alloc-preserved : goal.loop-alloc-preserved
loop-alloc-preserved g c =
    let comma : begins (kind.Punct puncts.Comma) c.loop-alloc.cursor ≡ true = cc in
    let x = c.in_ok-read-2.field-0 in
    let pushed : c.push-in-loop-alloc.new.self ≡ c.loop-alloc.items ++ x ∷ [] = c.in_ok-push-2.ensures.ok in
    let longer : length c.push-in-loop-alloc.new.self ≡ length c.loop-alloc.items + 1 = ap length pushed ∙ length_push c.loop-alloc.items x in
    record {
      read = rw pushed (c.loop-alloc.invariant.read
          ∙ lists.with_list-more (length c.read.new.cursor + 2) g.P.Production.view c.loop-alloc.items (begins (kind.Punct puncts.Comma)) (λ ts. g.P.Production.reads c.args.part.now (after ts))
          c.loop-alloc.cursor c.read-in-loop-alloc.new.cursor x (omega arith) comma (rw (← c.advance.ensures) c.in_ok-read-2.ensures.gives));
      within =
          let past = begins-takes (kind.Punct puncts.Comma) c.loop-alloc.cursor comma in
          let rest : length c.advance.new.self ≡ length (after c.loop-alloc.cursor) = ap length c.advance.ensures in
          omega (arith, c.in_ok-read-2.ensures.within);
      some = omega arith;
      shorter = c.loop-alloc.invariant.shorter;
    }

pub loop-alloc-smaller : goal.loop-alloc-smaller
loop-alloc-smaller g c =
    let comma : begins (kind.Punct puncts.Comma) c.loop-alloc.cursor ≡ true = cc in
    let past = begins-takes (kind.Punct puncts.Comma) c.loop-alloc.cursor comma in
    let rest : length c.advance.new.self ≡ length (after c.loop-alloc.cursor) = ap length c.advance.ensures in
    omega (arith, c.in_ok-read-2.ensures.within)

pub returns-clause-gives : goal.returns-clause-gives
returns-clause-gives g c =
    let none : begins (kind.Punct puncts.Comma) c.loop-alloc.cursor ≡ false = cc in
    c.loop-alloc.invariant.read
    ∙ lists.with_list-end (length c.read.new.cursor + 2) g.P.Production.view c.loop-alloc.items (begins (kind.Punct puncts.Comma)) (λ ts. g.P.Production.reads c.args.part.now (after ts))
    c.loop-alloc.cursor (omega arith) none

pub returns-clause-within : goal.returns-clause-within
returns-clause-within g c = omega (arith, c.loop-alloc.invariant.within, c.loop-alloc.invariant.shorter)
