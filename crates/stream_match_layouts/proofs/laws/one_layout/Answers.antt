use Rattle.std.proofs.Common.{◌≡◌, map, sym, ap, ◌∙◌}
use Rattle.std.specs.List.{range_with_len}
use Rattle.flow_core_laws.specs.FirstPosition.{read_cursor, write_cursor}
use Rattle.flow_core_laws.specs.Window.{windows}
use Rattle.stream_match_layouts.specs.declared.cursors.Cursors.{Cursors}
use Rattle.stream_match_layouts.specs.declared.layout.Layout.{Layout}
use Rattle.stream_match_layouts.specs.Layout.{claims_in, writers_of}
use Rattle.stream_match_layouts.proofs.laws.one_layout.Goals as goal

-- cursors with the same fields are the same, and so are layouts
same_cursors : (one other : Cursors) → one.reads ≡ other.reads → one.writes ≡ other.writes → one ≡ other
same_cursors one other reads writes =
    ap (λ x. record { reads = x; writes = one.writes }) reads
    ∙ ap (λ x. record { reads = other.reads; writes = x }) writes

same : (one other : Layout) → one.spans ≡ other.spans → one.starts ≡ other.starts → one.writers ≡ other.writers → one.cursors ≡ other.cursors → one.input_len ≡ other.input_len → one ≡ other
same one other spans starts writers cursors input =
    ap (λ x. record { spans = x; starts = one.starts; writers = one.writers; cursors = one.cursors; input_len = one.input_len }) spans
    ∙ ap (λ x. record { spans = other.spans; starts = x; writers = one.writers; cursors = one.cursors; input_len = one.input_len }) starts
    ∙ ap (λ x. record { spans = other.spans; starts = other.starts; writers = x; cursors = one.cursors; input_len = one.input_len }) writers
    ∙ ap (λ x. record { spans = other.spans; starts = other.starts; writers = other.writers; cursors = x; input_len = one.input_len }) cursors
    ∙ ap (λ x. record { spans = other.spans; starts = other.starts; writers = other.writers; cursors = other.cursors; input_len = x }) input

pub returns : goal.returns
returns c = λ one other activations is_one is_other streams input.
    same one other
    (is_one.of_windows.spans ∙ sym is_other.of_windows.spans)
    (is_one.starts ∙ sym is_other.starts)
    (is_one.of_windows.writers ∙ ap (λ n. map (writers_of (windows activations)) (range_with_len 0 n)) streams ∙ sym is_other.of_windows.writers)
    (same_cursors one.cursors other.cursors
    (is_one.of_windows.reads ∙ ap (λ n. map (λ stream. read_cursor stream (claims_in (windows activations))) (range_with_len 0 n)) streams ∙ sym is_other.of_windows.reads)
    (is_one.of_windows.writes ∙ ap (λ n. map (λ stream. write_cursor stream (claims_in (windows activations))) (range_with_len 0 n)) streams ∙ sym is_other.of_windows.writes))
    input
