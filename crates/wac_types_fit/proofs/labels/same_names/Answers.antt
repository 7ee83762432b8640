use Rattle.wac_types_fit.proofs.ValueTrees.{names_decided}
use Rattle.wac_types_fit.proofs.labels.same_names.Goals as goal

pub returns : goal.returns
returns c = names_decided c.args.a.now c.args.b.now c.eq.result c.eq.ensures
