-- What sentences are told over.
use Rattle.std.specs.Prelude.{ℕ, List}
use Rattle.osview_sentences.specs.FirstReaders.{AreReaders}
use Rattle.osview_sentences.specs.Reaches.{IsAsked}
use Rattle.osview_sentences.specs.Readers.{spans_of}
use Rattle.osview_sentences.specs.Whole.{whole_text}
use Rattle.osview_sentences.specs.declared.context.Context.{Context}
use Rattle.osview_sentences.specs.declared.fact.Sentence.{Sentence}
use Rattle.osview_sentences.specs.declared.told_run.ToldRun.{ToldRun}
use Rattle.stream_match_layouts.specs.Layout.{IsLayout, IsLayoutOf}

-- the layout is that of the activations
pub record IsToldRun (run : ToldRun) : Type 0 where
  pub layout : IsLayout run.layout.now
  pub laid : IsLayoutOf run.layout.now run.activations.now

-- what is kept of the claims is that of the run's activations
pub record IsContext (over : Context) : Type 0 where
  pub is_run : IsToldRun over.run
  pub readers : AreReaders (spans_of over.run.activations.now) over.run.lines.now over.readers.now
  pub asked : IsAsked (spans_of over.run.activations.now) over.asked.now

-- all that is said of an activation of a run
abbrev pub say_over : ToldRun → Sentence → List ℕ
say_over run = whole_text run.text.now run.names.now run.lines.now run.activations.now run.layout.now.input_len
