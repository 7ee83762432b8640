use Rattle.wac_soundness.proofs.Encoded.{encoded_worlds_are_true}
use Rattle.wac_soundness.proofs.encoded_worlds_are_true.Goals as goal

pub returns : goal.returns
returns c = encoded_worlds_are_true
