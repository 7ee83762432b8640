use Rattle.std.proofs.Common.{refl}
use Rattle.wac_graph_scopes.proofs.items.ItemScope.new.Goals as goal

pub returns : goal.returns
returns c w cc outer = record { written = c.new.ensures w cc outer; cores = refl; funcs = refl; components = refl; instances = refl; modules = refl }
