use Rattle.flow_core_concurrent.proofs.Cells.{next_is_empty}
use Rattle.flow_core_concurrent.proofs.Stores.{has_output}
use Rattle.flow_core_concurrent.proofs.laws.store_finds_empty.Goals as goal

pub returns : goal.returns
returns c = λ known state seat view run piece fit good can. (next_is_empty known state seat view run piece good can.is_seat.sees can.runs can.stands fit.plan_is_sound can.has_more, has_output known run piece run.stored fit ((good.views_are_sound seat view can.is_seat.sees).runs_at_a_place run can.runs).of_a_frame (good.runs_have_ends seat view run can.is_seat.sees can.runs) can.stands can.has_more)
