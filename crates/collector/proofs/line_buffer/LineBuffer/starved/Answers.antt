use Rattle.std.proofs.Common.{◌++◌, ◌∷◌, [], refl, codes}
use Rattle.std.specs.Fmt.{decimal}
use Rattle.collector.specs.Report.{producer_text}
use Rattle.collector.proofs.Buffered.{eight_parts, on, out}
use Rattle.collector.proofs.line_buffer.LineBuffer.starved.Goals as goal

pub returns-in_err-field : goal.returns-in_err-field
returns-in_err-field g c =
    let m = c.args.missing in
    let p = producer_text m.producer in
    out _ ((codes " stream " ++ decimal m.stream) ++ ((codes " position " ++ decimal m.position) ++ ((codes " producer ") ++ ((p) ++ ((10 ∷ [])))))) _ _ c.from_residual.ensures.1 (λ y q. q) c.in_err-field.ensures.err (eight_parts (codes "starved ") (decimal c.args.frame) (codes " stream ") (decimal m.stream) (codes " position ") (decimal m.position) (codes " producer ") p (10 ∷ []))

pub returns-in_err-field-2 : goal.returns-in_err-field-2
returns-in_err-field-2 g c =
    let m = c.args.missing in
    let p = producer_text m.producer in
    on c.in_ok-field.ensures.ok (out _ ((codes " position " ++ decimal m.position) ++ ((codes " producer ") ++ ((p) ++ ((10 ∷ []))))) _ _ c.from_residual-in_err-field-2.ensures.1 (λ y q. q) c.in_err-field-2.ensures.err refl) (eight_parts (codes "starved ") (decimal c.args.frame) (codes " stream ") (decimal m.stream) (codes " position ") (decimal m.position) (codes " producer ") p (10 ∷ []))

pub returns-in_err-field-3 : goal.returns-in_err-field-3
returns-in_err-field-3 g c =
    let m = c.args.missing in
    let p = producer_text m.producer in
    on c.in_ok-field.ensures.ok (on c.in_ok-field-2.ensures.ok (out _ ((codes " producer ") ++ ((p) ++ ((10 ∷ [])))) _ _ c.from_residual-in_err-field-3.ensures.1 (λ y q. q) c.in_err-field-3.ensures.err refl) refl) (eight_parts (codes "starved ") (decimal c.args.frame) (codes " stream ") (decimal m.stream) (codes " position ") (decimal m.position) (codes " producer ") p (10 ∷ []))

pub returns-in_err-text : goal.returns-in_err-text
returns-in_err-text g c =
    let m = c.args.missing in
    let p = producer_text m.producer in
    on c.in_ok-field.ensures.ok (on c.in_ok-field-2.ensures.ok (on c.in_ok-field-3.ensures.ok (out _ ((p) ++ ((10 ∷ []))) _ _ c.from_residual-in_err-text.ensures.1 (λ y q. q) c.in_err-text.ensures.err refl) refl) refl) (eight_parts (codes "starved ") (decimal c.args.frame) (codes " stream ") (decimal m.stream) (codes " position ") (decimal m.position) (codes " producer ") p (10 ∷ []))

pub returns-in_err-producer : goal.returns-in_err-producer
returns-in_err-producer g c =
    let m = c.args.missing in
    let p = producer_text m.producer in
    on c.in_ok-field.ensures.ok (on c.in_ok-field-2.ensures.ok (on c.in_ok-field-3.ensures.ok (on c.in_ok-text.ensures.ok (out _ ((10 ∷ [])) _ _ c.from_residual-in_err-producer.ensures.1 (λ y q. q) c.in_err-producer.ensures.err refl) refl) refl) refl) (eight_parts (codes "starved ") (decimal c.args.frame) (codes " stream ") (decimal m.stream) (codes " position ") (decimal m.position) (codes " producer ") p (10 ∷ []))

pub returns : goal.returns
returns g c =
    let m = c.args.missing in
    let p = producer_text m.producer in
    on c.in_ok-field.ensures.ok (on c.in_ok-field-2.ensures.ok (on c.in_ok-field-3.ensures.ok (on c.in_ok-text.ensures.ok (on c.in_ok-producer.ensures.ok c.text-2.ensures refl) refl) refl) refl) (eight_parts (codes "starved ") (decimal c.args.frame) (codes " stream ") (decimal m.stream) (codes " position ") (decimal m.position) (codes " producer ") p (10 ∷ []))
