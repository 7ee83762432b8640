use Rattle.std.proofs.Common.{◌∷◌, refl}
use Rattle.wac_graph_bytes.specs.Typing.{no_scope}
use Rattle.wac_graph_scopes.proofs.ScopeLaws.{scope_empty}
use Rattle.wac_graph_scopes.proofs.scope.TypeScope.new.Goals as goal

pub returns : goal.returns
returns c w cc outer = scope_empty w cc outer _ c.new-declarations.ensures.items refl (c.new-known.ensures w (no_scope ∷ outer) cc) c.new-resources.ensures
