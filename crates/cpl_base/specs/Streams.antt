-- The stream that a sink of the process writes to.
use Rattle.std.specs.Prelude.{ℕ, List, Option, None}
use Rattle.cpl_base.specs.declared.std_sink.StdSink.{StdSink}

-- the stream behind the sink
abbrev pub stream_of : {W : Type 0} → StdSink W → W
stream_of sink = sink.stream

-- what such a sink tells of its bytes: nothing
abbrev pub untold_bytes : Option (List ℕ)
untold_bytes = None
