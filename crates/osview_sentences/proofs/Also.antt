-- What else is said where an activation waits, by the tasks that are found to read its stream.
use Rattle.std.proofs.Common.{◌≡◌, ℕ, List, refl, ap}
use Rattle.osview_sentences.specs.FirstReaders.{AreReaders, also_found}
use Rattle.osview_sentences.specs.Readers.{also_text, shared_text}
use Rattle.osview_sentences.specs.declared.fact.Fact.{Fact}
use Rattle.osview_sentences.specs.declared.fact.Fact.TheVariants as fact
use Rattle.osview_sentences.specs.declared.readers.Readers.{Readers}
use Rattle.stream_match_layouts.specs.declared.span.Span.{Span}

pub also_so : (spans : List Span) (lines : List ℕ) (readers : Readers) (at : ℕ) (f : Fact) → AreReaders spans lines readers → also_found readers at f ≡ also_text spans lines at f
also_so spans lines readers at (fact.Trapped code line) h = refl
also_so spans lines readers at fact.OverBudget h = refl
also_so spans lines readers at (fact.Poisoned root) h = refl
also_so spans lines readers at (fact.Waits stream position by) h = ap (shared_text by) (h stream at)
