use Rattle.wac_texts.proofs.Defined.{worlds_are_defined}
use Rattle.wac_texts.proofs.declared_worlds_are_defined.Goals as goal

pub returns : goal.returns
returns c = worlds_are_defined
