use Rattle.std.proofs.Common.{◌∙◌, ◌++◌, ◌<◌, [], get_or, length, refl, ap, arith}
use Rattle.collector.specs.Report.{control_line, output_line}
use Rattle.collector.specs.Written.{written}
use Rattle.collector.proofs.Buffered.{on, out, told_ok, told_err}
use Rattle.collector.proofs.Reported.{report_is}
use Rattle.collector.proofs.report.report_lines.Goals as goal

pub returns-in_err-activation_lines-clause-err : goal.returns-in_err-activation_lines-clause-err
returns-in_err-activation_lines-clause-err g c = λ activations of.
    let l = c.args.layout.now in
    let ends = c.args.ends.now in
    let control = c.args.control.now in
    let two : 1 < length l.writers = let h = c.requires.layout.has_output in omega arith in
    let count = length (written ends.output) in
    let claimed = get_or l.cursors.writes 1 0 in
    let whole = report_is l activations of two l.input_len ends control count claimed refl refl in
    told_err c.from_residual.result (out [] (control_line control ++ (output_line count claimed ++ [])) _ _ c.from_residual.ensures.1 (λ y q. q) (c.in_err-activation_lines.ensures activations of).err whole) c.new-buffer.ensures

pub returns-in_err-control-clause-err : goal.returns-in_err-control-clause-err
returns-in_err-control-clause-err g c = λ activations of.
    let l = c.args.layout.now in
    let ends = c.args.ends.now in
    let control = c.args.control.now in
    let two : 1 < length l.writers = let h = c.requires.layout.has_output in omega arith in
    let count = length (written ends.output) in
    let claimed = get_or l.cursors.writes 1 0 in
    let whole = report_is l activations of two l.input_len ends control count claimed refl refl in
    told_err c.from_residual-in_err-control.result (on (c.in_ok-activation_lines.ensures activations of).ok (out [] (output_line count claimed ++ []) _ _ c.from_residual-in_err-control.ensures.1 (λ y q. q) c.in_err-control.ensures.err refl) whole) c.new-buffer.ensures

pub returns-in_err-output-clause-err : goal.returns-in_err-output-clause-err
returns-in_err-output-clause-err g c = λ activations of.
    let l = c.args.layout.now in
    let ends = c.args.ends.now in
    let control = c.args.control.now in
    let two : 1 < length l.writers = let h = c.requires.layout.has_output in omega arith in
    let count = c.written_length-count.result in
    let claimed = get_or c.as_slice-2.result.now 1 0 in
    let whole = report_is l activations of two l.input_len ends control count claimed (c.written_length-count.ensures ∙ ap (λ xs. length (written xs)) c.as_slice.ensures) (ap (λ xs. get_or xs 1 0) c.as_slice-2.ensures) in
    told_err c.from_residual-in_err-output.result (on (c.in_ok-activation_lines.ensures activations of).ok (on c.in_ok-control.ensures.ok (out [] [] _ _ c.from_residual-in_err-output.ensures.1 (λ y q. q) c.in_err-output.ensures.err refl) refl) whole) c.new-buffer.ensures

pub returns-clause-err : goal.returns-clause-err
returns-clause-err g c = λ activations of.
    let l = c.args.layout.now in
    let ends = c.args.ends.now in
    let control = c.args.control.now in
    let two : 1 < length l.writers = let h = c.requires.layout.has_output in omega arith in
    let count = c.written_length-count.result in
    let claimed = get_or c.as_slice-2.result.now 1 0 in
    let whole = report_is l activations of two l.input_len ends control count claimed (c.written_length-count.ensures ∙ ap (λ xs. length (written xs)) c.as_slice.ensures) (ap (λ xs. get_or xs 1 0) c.as_slice-2.ensures) in
    told_err c.flush.result (on (c.in_ok-activation_lines.ensures activations of).ok (on c.in_ok-control.ensures.ok (on c.in_ok-output.ensures.ok c.flush.ensures.goes_on refl) refl) whole) c.new-buffer.ensures

pub returns-clause-ok : goal.returns-clause-ok
returns-clause-ok g c = λ activations of.
    let l = c.args.layout.now in
    let ends = c.args.ends.now in
    let control = c.args.control.now in
    let two : 1 < length l.writers = let h = c.requires.layout.has_output in omega arith in
    let count = c.written_length-count.result in
    let claimed = get_or c.as_slice-2.result.now 1 0 in
    let whole = report_is l activations of two l.input_len ends control count claimed (c.written_length-count.ensures ∙ ap (λ xs. length (written xs)) c.as_slice.ensures) (ap (λ xs. get_or xs 1 0) c.as_slice-2.ensures) in
    told_ok c.flush.result (on (c.in_ok-activation_lines.ensures activations of).ok (on c.in_ok-control.ensures.ok (on c.in_ok-output.ensures.ok c.flush.ensures.goes_on refl) refl) whole) c.new-buffer.ensures c.flush.ensures.empty
