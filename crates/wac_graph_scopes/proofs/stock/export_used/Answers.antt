use Rattle.std.proofs.Common.{◌∷◌}
use Rattle.wac_types_fit.specs.Trees.{tree_in}
use Rattle.wac_graph_scopes.proofs.ItemLaws.{ItemsGo-refl}
use Rattle.wac_graph_scopes.proofs.UsedLaws.{notable}
use Rattle.wac_graph_scopes.proofs.WritingLaws.{type_exports, export_noted}
use Rattle.wac_graph_scopes.proofs.StockLaws.{KeepsTypes-trans, keeps_same}
use Rattle.wac_graph_scopes.proofs.stock.export_used.Goals as goal

pub returns-then-not-is_taken-clause-exports : goal.returns-then-not-is_taken-clause-exports
returns-then-not-is_taken-clause-exports c w outer i h stands used a =
    let types = c.args.types.now in
    (i, ItemsGo-refl w types outer i c.note.new.self (c.in_ok-note.ensures.notes w outer i h (notable w types (i.here ∷ outer) c.args.alias.item c.args.alias.index stands a)))

pub returns-clause-exports : goal.returns-clause-exports
returns-clause-exports c w outer i h stands used a =
    let types = c.args.types.now in
    let t = tree_in types c.args.alias.item in
    let e = c.in_ok-own.ensures.exports w types outer i a.there h.written a.reads in
    let x = type_exports w types outer i _ c.args.used.name.now a.there t c.args.scope.now c.export_type.new.self c.in_ok-own.own c.in_ok-text.ensures.ok a.item h e in
    let n = c.in_ok-note-2.ensures.notes w outer x.0.after x.0.stands (notable w types (x.0.after.here ∷ outer) c.args.alias.item c.in_ok-own.own stands x.1) in
    (t, c.in_ok-is_taken.ensures.yes stands used c.if-not-is_taken.false, export_noted w types outer i c.args.used.name.now t _ c.note-2.new.self x.0 n)

pub returns-clause-given : goal.returns-clause-given
returns-clause-given c stands used e = c.in_ok-is_taken.ensures.yes stands used c.if-not-is_taken.false

pub returns-clause-keeps : goal.returns-clause-keeps
returns-clause-keeps c =
    let s = c.args.scope.now.types in
    let m = c.export_type.new.self in
    KeepsTypes-trans s m c.note-2.new.self.types (keeps_same s m c.export_type.ensures.known c.export_type.ensures.resources) c.in_ok-note-2.ensures.keeps
