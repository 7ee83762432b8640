use Rattle.std.proofs.Common.{◌≡◌, [], Some, sym, ap, subst, ◌∙◌, slice_get}
use Rattle.wac_types_base.specs.declared.item.ItemKind.{ItemKind}
use Rattle.wac_types_base.specs.Record.{Collection}
use Rattle.wac_types_base.specs.Stated.{stated_of}
use Rattle.wac_types_base.specs.Tree.{tree}
use Rattle.wac_types_written.specs.Written.{written_definition}
use Rattle.wac_graph_scopes.specs.Scopes.{AreKnown}
use Rattle.wac_graph_bytes.specs.Typing.{Known, item_of}
use Rattle.wac_graph_encode.proofs.RootedDefinitions.{entry_exported}
use Rattle.wac_graph_encode.proofs.root.export_definition.Goals as goal

pub returns : goal.returns
returns c sound of w types world i imported h =
    let inside = h.holds.written.goes.writing.inside in
    let same : h.entry.0 ≡ c.args.index = cc (sym h.entry.1) in
    let at : slice_get inside.here.types c.args.index ≡ Some (Known h.entry.2) = ap (slice_get inside.here.types) (sym same) ∙ h.entry.3 in
    entry_exported c.args.graph.now sound w types world i imported c.args.definition.now of c.args.scope.now c.repeat_type.new.self c.args.defined.now c.put_known.new.self c.note_early.new.self c.args.index c.in_ok-own.own h
    (c.in_ok-own.ensures.repeats w types [] inside (Known h.entry.2) h.holds.written.goes.writing.stands at)
    (c.is_exported.ensures c.if-not-is_exported.false) (λ ss u knows reads is. subst (λ (t : Collection). AreKnown w ss t c.put_known.new.self.known) c.types.ensures
    (c.in_ok-put_known.ensures.known w ss u (subst (λ (t : Collection). AreKnown w ss t c.args.defined.now.known) (sym c.types.ensures) knows) reads
    (subst (λ (t : Collection). item_of u ≡ tree (written_definition (stated_of t (ItemKind.Ty c.args.definition.now.ty)))) (sym c.types.ensures) is))) c.put_known.ensures.nodes c.put_known.ensures.early c.in_ok-note_early.ensures

pub returns-then-not-is_exported : goal.returns-then-not-is_exported
returns-then-not-is_exported c sound of w types world i imported h = h
