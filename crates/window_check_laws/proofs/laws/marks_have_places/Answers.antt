use Rattle.window_check_laws.proofs.laws.marks_have_places.Goals as goal

pub returns : goal.returns
returns c tokens p means place mark h = (c.meaning_by_tokens.ensures.marks tokens p place mark means h).place
