use Rattle.std.proofs.Common.{◌≡◌, ◌++◌, ◌+◌, [], ◌∷◌, refl, sym, take, drop, get_or, append_assoc, ap, ◌∙◌}
use Rattle.std.proofs.lemmas.List.{take-append-drop, take_more}
use Rattle.collector.proofs.Buffered.{on, out}
use Rattle.collector.proofs.line_buffer.LineBuffer.text.Goals as goal

pub returns-in_err-push : goal.returns-in_err-push
returns-in_err-push g c =
    let k = c.loop-byte.byte-index in
    let text = c.args.text.now in
    let rest = drop (k + 1) text in
    let whole : text ≡ take k text ++ get_or text k 0 ∷ rest = sym (take-append-drop (k + 1) text) ∙ ap (λ xs. xs ++ rest) (take_more text k 0 c.loop-byte-test.true) ∙ append_assoc (take k text) (get_or text k 0 ∷ []) rest in
    on c.loop-byte.invariant (out _ rest _ _ c.from_residual.ensures.1 (λ y q. q) c.in_err-push.ensures.err refl) whole

pub loop-byte-preserved : goal.loop-byte-preserved
loop-byte-preserved g c = (on c.loop-byte.invariant c.in_ok-push.ensures (take_more c.args.text.now c.loop-byte.byte-index 0 c.loop-byte-test.true)).ok
