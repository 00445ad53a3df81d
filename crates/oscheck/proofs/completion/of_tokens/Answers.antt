use Rattle.oscheck.proofs.completion.of_tokens.Goals as goal

pub at_place-requires-clause-refused : goal.at_place-requires-clause-refused
at_place-requires-clause-refused c =
    let p = c.in-Err-Syntax in (p.field-0-1, p.ensures.refused p.place p.field-0-1 (cc p.field-0-is))
