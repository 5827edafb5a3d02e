-- What of a frame lies elsewhere.
use Rattle.std.specs.Prelude.{ℕ, List, [], ◌++◌, None, Some}
use Rattle.std.specs.declared.option.Option.{Option}
use Rattle.session.specs.declared.wire.large_frames.FrameEnd.{FrameEnd}

-- the octets of a frame's end, if there is one: the arguments, and what closes the message behind them
abbrev pub octets_in : Option FrameEnd → List ℕ
octets_in None = []
octets_in (Some end) = end.arguments.now ++ end.closing.now
