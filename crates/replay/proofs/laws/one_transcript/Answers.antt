use Rattle.replay.proofs.OneTranscript.{one-transcript as law}
use Rattle.replay.proofs.laws.one_transcript.Goals as goal

pub returns : goal.returns
returns c = law
