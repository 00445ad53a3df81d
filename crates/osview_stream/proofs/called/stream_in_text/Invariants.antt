use Rattle.std.proofs.Common.{take}
use Rattle.osview_stream.specs.Called.{IsNoneOf}
use Rattle.osview_stream.proofs.called.stream_in_text.Given as goal

-- none of the names so far has a stream that is called so
abbrev pub invariant-loop-name : goal.invariant-loop-name
invariant-loop-name l = IsNoneOf l.text l.streams l.word (take l.name-index l.names)
