use Rattle.std.proofs.Common.{inr, refl}
use Rattle.wac_texts.proofs.declared.world_in.Goals as goal

pub returns-in-None-clause-refused : goal.returns-in-None-clause-refused
returns-in-None-clause-refused c = inr (c.in-World.is, c.in-None.ensures.none refl)
