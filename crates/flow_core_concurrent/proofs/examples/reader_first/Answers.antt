use Rattle.std.proofs.Common.{refl}
use Rattle.flow_core_concurrent.proofs.Fitting.{reader_meant, reader_fit}
use Rattle.flow_core_concurrent.proofs.examples.reader_first.Goals as goal

pub returns-clause-fit : goal.returns-clause-fit
returns-clause-fit c = reader_fit

pub returns-clause-meaning : goal.returns-clause-meaning
returns-clause-meaning c = reader_meant

pub returns-clause-states : goal.returns-clause-states
returns-clause-states c = refl

pub returns-clause-no_sink_no_second_seat_no_run : goal.returns-clause-no_sink_no_second_seat_no_run
returns-clause-no_sink_no_second_seat_no_run c = refl

pub returns-clause-first_store_then_sub_then_finish : goal.returns-clause-first_store_then_sub_then_finish
returns-clause-first_store_then_sub_then_finish c = refl

pub returns-clause-stores_each_once : goal.returns-clause-stores_each_once
returns-clause-stores_each_once c = refl

pub returns-clause-counts_each_once : goal.returns-clause-counts_each_once
returns-clause-counts_each_once c = refl

pub returns-clause-reads_its_own_before_it_gives : goal.returns-clause-reads_its_own_before_it_gives
returns-clause-reads_its_own_before_it_gives c = refl

pub returns-clause-reads_no_more : goal.returns-clause-reads_no_more
returns-clause-reads_no_more c = refl
