use Rattle.std.proofs.Common.{refl}
use Rattle.wac_graph_bytes.specs.declared.entry.Declaration.TheVariants.{Export}
use Rattle.wac_graph_bytes.specs.declared.value.Description.TheVariants.{Equal}
use Rattle.wac_graph_scopes.proofs.CountLaws.{types_next}
use Rattle.wac_graph_scopes.proofs.ExportLaws.{type_exported}
use Rattle.wac_graph_scopes.proofs.scope.TypeScope.export_type.Goals as goal

pub returns-clause-exports : goal.returns-clause-exports
returns-clause-exports c w cc outer i t h at =
    let s = c.args.self.now in
    let next = types_next w cc outer i s c.push.new.self (Export c.args.name (Equal c.args.ty)) c.next_of-self.result h c.in_ok-push.ensures.items c.next_of-self.ensures in
    type_exported w cc outer i c.args.name c.args.ty t s (record s { declarations = c.push.new.self; types = c.next_of-self.result }) h at c.in_ok-push.ensures.items next refl refl
