use Rattle.front_end.proofs.Answers as answers
use Rattle.front_end.proofs.reading.one_answer.Goals as goal

pub returns-clause-program : goal.returns-clause-program
returns-clause-program c = answers.one_program c.one_cover.ensures.one_cover c.one_reading.ensures

pub returns-clause-never_both : goal.returns-clause-never_both
returns-clause-never_both c =
    answers.never_both c.one_cover.ensures.one_cover c.one_cover.ensures.never_both c.one_reading.ensures

pub returns-clause-refusal : goal.returns-clause-refusal
returns-clause-refusal c =
    answers.one_refusal c.meaning_by_tokens.ensures.marks c.meaning_by_tokens.ensures.kinds
    c.one_cover.ensures.one_cover c.one_cover.ensures.one_fault c.one_cover.ensures.never_both c.one_reading.ensures c.one_place.ensures.one

pub returns-clause-either : goal.returns-clause-either
returns-clause-either c = answers.accepted_or_refused c.one_cover.ensures.some c.one_place.ensures.some
