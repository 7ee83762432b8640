use Rattle.std.proofs.Common.{ℕ, List, [], refl, sym, ap, inl, subst, ◌∙◌}
use Rattle.indexmap.specs.IndexMap.{insert_entry}
use Rattle.wac_graph_scopes.specs.declared.imports.SortIndex.{SortIndex}
use Rattle.wac_graph_scopes.specs.Imports.{WritesOn}
use Rattle.wac_graph_scopes.proofs.ImportLaws.{GoesOn-refl}
use Rattle.wac_graph_encode.specs.Defining.{DefinesIn, HoldsDefinitions}
use Rattle.wac_graph_encode.specs.declared.root.Defined.{Defined}
use Rattle.wac_graph_core.specs.contracts.ids.NodeIdPartialEq.TheImpl as node_id
use Rattle.wac_graph_bytes.specs.declared.value.Sort.TheVariants as sort
use Rattle.wac_graph_encode.proofs.Entries.{same_node}
use Rattle.wac_graph_encode.proofs.Readying.{names_inserted}
use Rattle.wac_graph_encode.proofs.RootedDefinitions.{defined_entry, entry_noted}
use Rattle.wac_graph_encode.proofs.root.add_definition.Goals as goal

pub returns-in_ok-insert : goal.returns-in_ok-insert
returns-in_ok-insert c sound to w i imported holds =
    let g = c.args.graph.now in
    let a = c.args.all in
    let x = c.args.definition.now in
    let of = (to x (inl refl)).node in
    let from = holds.written.goes.writing.inside in
    let mid = c.write_definition.new.scope in
    let d = c.in_ok-description.description in
    let before = c.args.defined.now in
    let then : Defined = record before { known = c.write_definition.new.known } in
    let base : WritesOn w a.types.now [] a.world from c.args.scope.now imported [] = record { goes = holds.written.goes; on = GoesOn-refl from } in
    let defines : DefinesIn g w a.types.now a.world from imported x mid c.write_definition.new.known d = c.in_ok-description.ensures (to x (inl refl)) w from imported base holds.knows in
    let entry = defined_entry g sound w a.types.now a.world i imported x of c.args.scope.now mid before then holds d defines refl refl c.in-Equal.index c.in-Equal.is in
    let last = c.in_ok-index.ensures sound of w a.types.now a.world i imported entry in
    let held = entry_noted g sound w a.types.now a.world i imported x of c.export_definition.new.scope c.export_definition.new.defined before.nodes.entries c.in_ok-index.index last in (
      subst (λ (es : List (ℕ × SortIndex)). HoldsDefinitions g w a.types.now a.world i imported c.export_definition.new.scope c.export_definition.new.defined.known es c.export_definition.new.defined.early.entries)
          (sym (c.in_ok-insert.ensures.entries ∙ ap (λ (es : List (ℕ × SortIndex)). insert_entry node_id.eq-value.it es x.node (record { sort = sort.Ty; index = c.in_ok-index.index })) last.same)) held,
      names_inserted node_id.eq-value.it same_node before.nodes.entries c.insert.new.self.entries x.node (record { sort = sort.Ty; index = c.in_ok-index.index })
          (c.in_ok-insert.ensures.entries ∙ ap (λ (es : List (ℕ × SortIndex)). insert_entry node_id.eq-value.it es x.node (record { sort = sort.Ty; index = c.in_ok-index.index })) last.same),
    )

pub returns-in_default : goal.returns-in_default
returns-in_default c sound to w i imported holds =
    let g = c.args.graph.now in
    let a = c.args.all in
    let x = c.args.definition.now in
    let from = holds.written.goes.writing.inside in
    let new = c.write_definition.new.scope in
    let d = c.in_ok-description.description in
    let base : WritesOn w a.types.now [] a.world from c.args.scope.now imported [] = record { goes = holds.written.goes; on = GoesOn-refl from } in
    let defines : DefinesIn g w a.types.now a.world from imported x new c.write_definition.new.known d = c.in_ok-description.ensures (to x (inl refl)) w from imported base holds.knows in
    absurd (c.in_default.not-Equal defines.entry.0 defines.entry.1)
