use Rattle.wac_names.specs.ComponentNames.{IsInside}
use Rattle.wac_names.proofs.NameKinds.{behind_some, behind_none}
use Rattle.wac_names.proofs.names.is_enclosed.Goals as goal

pub returns-in-None : goal.returns-in-None
returns-in-None c = behind_none c.args.front.now c.args.text.now IsInside c.in-None.ensures.cases

pub returns-in-Some : goal.returns-in-Some
returns-in-Some c = behind_some c.args.front.now c.args.text.now c.in-Some.rest.now c.is_inside.result IsInside c.in-Some.ensures.cases.0 c.in-Some.ensures.cases.1 c.is_inside.ensures
