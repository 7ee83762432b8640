use Rattle.std.proofs.Common.{subst}
use Rattle.std.proofs.lemmas.Result.{on_ok_weaker}
use Rattle.wac_graph_encode.specs.Rooting.{IsRepeatedBy}
use Rattle.wac_graph_encode.proofs.Rooting.{adds_plain}
use Rattle.wac_graph_encode.proofs.declarations.add_entry.Goals as goal

pub add_repeated-requires : goal.add_repeated-requires
add_repeated-requires c = subst (IsRepeatedBy c.args.declaration) c.in-Some.is c.repeated.ensures

pub returns-in-None : goal.returns-in-None
returns-in-None c =
    on_ok_weaker c.add_plain.result
    (adds_plain c.args.early.now.entries c.args.declaration c.args.entries.now.items c.add_plain.new.entries.items c.args.exported.now (subst (IsRepeatedBy c.args.declaration) c.in-None.is c.repeated.ensures))
    c.add_plain.ensures
