use Rattle.std.specs.Prelude.{IfNone}
use Rattle.std.proofs.Common.{◌≡◌, ◌∷◌, [], ◌++◌, ◌≤◌, ◌<◌, List, ℕ, Some, slice_get, length, take, refl, sym, ap, ◌∙◌, subst, arith, inl, inr}
use Rattle.wac_types_base.specs.declared.item.ItemKind.{ItemKind}
use Rattle.wac_types_base.specs.Graph.{Among}
use Rattle.wac_types_base.specs.Entries.{Name, names_of, put_name}
use Rattle.wac_types_base.proofs.Standing.{interface_found}
use Rattle.wac_types_fit.specs.Trees.{tree_in}
use Rattle.wac_graph_bytes.specs.declared.value.Description.{Description}
use Rattle.wac_graph_bytes.specs.Typing.{Known}
use Rattle.wac_graph_bytes.specs.Views.{declarations_of}
use Rattle.wac_types_parts.specs.Parts.{exports_of}
use Rattle.wac_graph_scopes.specs.Items.{Describes, ItemsWritten, StatesInstance}
use Rattle.wac_types_parts.proofs.PartLaws.{exports_there, name_at}
use Rattle.wac_graph_scopes.proofs.ItemLaws.{used_deeper, index_follows}
use Rattle.wac_graph_scopes.proofs.WritingLaws.{writes_none, writes_more, states_instance, instance_described, interface_stands, instance_reads, component_reads, type_given, instance_declared, component_declared, described_entry, no_entry, take_or, all_taken, put_there, put_keeps, among_has, value_here}
use Rattle.wac_types_base.proofs.Lists.{not_among}
use Rattle.std.proofs.Common.{get_or}
use Rattle.std.proofs.lemmas.List.{take_all}
use Rattle.std.proofs.lemmas.Option.{slice_get-get_or, slice_get_within}
use Rattle.std.proofs.lemmas.List.{length-map}
use Rattle.wac_graph_bytes.specs.declared.value.Sort.TheVariants as sort
use Rattle.wac_graph_bytes.specs.Typing.{Item, found}
use Rattle.wac_types_base.proofs.Looked.{take-one_more}
use Rattle.wac_types_fit.proofs.Items.{Among-last}
use Rattle.wac_graph_scopes.specs.Items.{IsInstanceAt, sort_of}
use Rattle.wac_types_base.proofs.Looked.{put_name-new}
use Rattle.wac_graph_scopes.specs.Orders.{IsOrder}
use Rattle.wac_types_parts.specs.Parts.{imports_of, world_exports_of}
use Rattle.wac_graph_scopes.specs.Imports.{WritesWorld, MayDescribeIn, ExportsWritten, names_at}
use Rattle.wac_graph_scopes.specs.Items.{StatesComponent}
use Rattle.wac_graph_scopes.proofs.OrderLaws.{distinct-left, distinct-right}
use Rattle.wac_graph_scopes.proofs.ImportLaws.{written, world_describes, world_exports_indexed, place_of_name, no_name_at, name_added, next_new, next_names, all_named, others_new, ordered_names, states_component, component_described, world_stands}
use Rattle.std.proofs.lemmas.Result.{err_from_is_err_and, IfOk-weaker, on_ok_weaker}
use Rattle.wac_types_base.proofs.Looked.{among-get}
use Rattle.wac_graph_scopes.specs.Used.{Used}
use Rattle.wac_graph_scopes.specs.InstanceRefusals.{InstanceRefused, LacksIdentifiers, too_deep, use_refused}
use Rattle.wac_graph_scopes.specs.ImportRefusals.{UsesUnnamed}
use Rattle.wac_graph_scopes.proofs.StockLaws.{KeepsTypes-trans, keeps_listed, stock_on, refused_memory, item_refused, export_is_refused, one_interface}
use Rattle.wac_graph_scopes.specs.ItemRefusals.{RefusedItem}
use Rattle.wac_graph_scopes.proofs.RefusedLaws.{if_err_map, memory_apart, interface_unsaid, world_unsaid}
use Rattle.wac_graph_scopes.specs.Prepared.{IsPrepared}
use Rattle.wac_graph_scopes.proofs.ImportRefusals.{refused_then, exporting_refused}
use Rattle.wac_graph_scopes.proofs.+types.Goals as goal

pub items::push_instance_type-returns-clause-states : goal.items::push_instance_type-returns-clause-states
items::push_instance_type-returns-clause-states m c stands w outer i h are =
    let types = c.args.types.now in
    let t = tree_in types (ItemKind.Instance c.args.id) in
    let inner = c.in_ok-inner.inner in
    let deep = used_deeper w types (i.here ∷ outer) c.args.around.depth inner.depth c.args.around.used.now inner.used.now c.in_ok-inner.ensures.depth c.in_ok-inner.ensures.used are in
    let reads = c.in_ok-declarations.ensures.makes stands w (i.here ∷ outer) deep in
    IfOk-weaker c.add_type.result _ _ (λ k a. type_given w types outer i t c.add_type.new.self k a) (c.add_type.ensures.adds w types outer i (Known t) h (instance_reads w outer i c.in_ok-declarations.declarations t reads))

pub items::instance_type-returns-clause-makes : goal.items::instance_type-returns-clause-makes
items::instance_type-returns-clause-makes m c stands w outer around =
    let types = c.args.all.types.now in
    c.write_instance.ensures.writes stands w outer around (writes_none w types outer c.args.all.id c.new-scope.result (c.new-scope.ensures w types outer))

pub items::write_instance-returns-clause-writes : goal.items::write_instance-returns-clause-writes
items::write_instance-returns-clause-writes m c stands w outer around k =
    let types = c.args.all.types.now in
    let id = c.args.all.id in
    let es = exports_of types id in
    let o = c.in_ok-export_others.ensures.writes stands w outer around (c.in_ok-given.ensures.begins w outer around k) in
    let x = interface_found types id stands in
    let all = λ (n : Name) (a : Among n (names_of es)). o.all_before n (all_taken es n a) in
    subst (λ ds. StatesInstance w outer (tree_in types (ItemKind.Instance id)) (declarations_of ds)) (sym c.take_declarations.ensures)
    (states_instance w types c.see_acyclic.ensures outer id x.value c.export_others.new.scope c.export_others.new.given x.at x.own (exports_there types id x.value x.at x.own) o.writing all)

pub items::export_others-returns-clause-writes : goal.items::export_others-returns-clause-writes
items::export_others-returns-clause-writes m c stands w outer around k =
    let types = c.args.all.types.now in
    let end : c.loop-at.at ≡ length (exports_of types c.args.all.id) = omega (arith, c.loop-at-test.false, c.export_count-count.ensures.len) in
    subst (λ (n : ℕ). ItemsWritten w types outer c.args.all.id n c.loop-at.scope c.loop-at.given) end (c.loop-at.invariant.written stands w outer around k)

pub items::export_other_at-returns-in_ok-add_name-in-Some-clause-writes : goal.items::export_other_at-returns-in_ok-add_name-in-Some-clause-writes
items::export_other_at-returns-in_ok-add_name-in-Some-clause-writes m c stands w outer around o =
    let types = c.args.all.types.now in
    let es = exports_of types c.args.all.id in
    let item = c.in-Some.item in
    let n = item.name.now in
    let given = c.args.given.now in
    let k = o.writing in
    let entry = c.in-Some.ensures.entry in
    let e = (c.in_ok-export_item-in-Some.ensures.exports c.in-Some.ensures.inside.0 w outer k.inside k.stands (around k.inside.here)).exported in
    let more = c.in_ok-add_name-in-Some.ensures in
    let here = name_at es c.args.at n item.kind entry in
    record {
      writing = writes_more w types outer [] es [] given c.args.scope.now c.export_item.new.scope k n (tree_in types item.kind) c.add_name.new.names
          (item.kind, value_here es c.args.at n item.kind c.requires entry, refl) e (not_among given n c.in-Some.ensures.new) more;
      all_before = λ p a. elim (take_or p (names_of es) c.args.at a) [
        | inl old ↦ subst (λ (l : List Name). Among p l) (sym more) (put_keeps given n p (o.all_before p old))
        | inr at ↦ let same : n ≡ p = cc (here, at) in subst (λ (l : List Name). Among p l) (sym more) (subst (λ (x : Name). Among x (put_name given n)) same (put_there given n))
      ];
    }

pub items::export_other_at-returns-in-None-clause-writes : goal.items::export_other_at-returns-in-None-clause-writes
items::export_other_at-returns-in-None-clause-writes m c stands w outer around o = record {
  writing = o.writing;
  all_before = λ p a. elim (take_or p (names_of (exports_of c.args.all.types.now c.args.all.id)) c.args.at a) [ inl old ↦ o.all_before p old | inr at ↦ among_has c.args.given.now p (c.in-None.ensures.none p at) ];
}

pub items::export_item-returns-clause-exports : goal.items::export_item-returns-clause-exports
items::export_item-returns-clause-exports m c stands w outer i h are =
    let types = c.args.types.now in
    let n = c.args.item.name.now in
    let d = c.in_ok-description.ensures.describes w outer i h are in
    IfOk-weaker c.export_described.result _ _ (λ u e. index_follows w types outer i d.after n c.args.item.kind c.describe.new.scope c.export_described.new.scope u d.goes e)
    (c.export_described.ensures.exports w outer d.after d.goes.stands stands d.sorted (d.reads n))

pub items::describe-returns-in-Some-clause-describes : goal.items::describe-returns-in-Some-clause-describes
items::describe-returns-in-Some-clause-describes m c w outer i h are =
    let types = c.args.types.now in
    let id = c.in-Some.id in
    let is = c.in-Some.ensures.kind in
    let stands = c.in-Some.ensures.stands in
    let a = c.in_ok-index.ensures.states (interface_stands types c.args.kind id is stands) w outer i h are in
    subst (λ (d : Description). Describes w types outer i c.args.kind c.push_instance_type.new.scope d) (sym c.described.ensures)
    (instance_described types c.see_acyclic.ensures w outer i c.args.kind id c.push_instance_type.new.scope c.in_ok-index.index is stands a)

pub items::describe-returns-in-Some-world_of-clause-describes : goal.items::describe-returns-in-Some-world_of-clause-describes
items::describe-returns-in-Some-world_of-clause-describes m c w outer i h are =
    let types = c.args.types.now in
    let id = c.in-Some-world_of.id in
    let is = c.in-Some-world_of.ensures.kind in
    let stands = c.in-Some-world_of.ensures.stands in
    let a = c.in_ok-index-2.ensures.states (world_stands types c.args.kind id is stands) w outer i h in
    subst (λ (d : Description). Describes w types outer i c.args.kind c.push_component_type.new.scope d) (sym c.described-in-Some-world_of.ensures)
    (component_described types c.see_acyclic.ensures w outer i c.args.kind id c.push_component_type.new.scope c.in_ok-index-2.index is stands a)

pub items::push_component_type-returns-clause-states : goal.items::push_component_type-returns-clause-states
items::push_component_type-returns-clause-states m c stands w outer i h =
    let types = c.args.types.now in
    let t = tree_in types (ItemKind.Component c.args.id) in
    let reads = c.in_ok-declarations.ensures stands w (i.here ∷ outer) in
    IfOk-weaker c.add_type.result _ _ (λ k a. type_given w types outer i t c.add_type.new.self k a) (c.add_type.ensures.adds w types outer i (Known t) h (component_reads w outer i c.in_ok-declarations.declarations t reads))

pub items::describe-returns-in-Some-clause-own : goal.items::describe-returns-in-Some-clause-own
items::describe-returns-in-Some-clause-own m c own w outer i h = (c.in_ok-index.index, c.described.ensures ∙ described_entry c.args.kind c.in_ok-index.index own, c.in_ok-index.ensures.entry w outer i h)

pub items::describe-returns-in-Some-world_of-clause-own : goal.items::describe-returns-in-Some-world_of-clause-own
items::describe-returns-in-Some-world_of-clause-own m c own w outer i h = (c.in_ok-index-2.index, c.described-in-Some-world_of.ensures ∙ described_entry c.args.kind c.in_ok-index-2.index own, c.in_ok-index-2.ensures.entry w outer i h)

pub items::describe-returns-clause-own : goal.items::describe-returns-clause-own
items::describe-returns-clause-own m c own = absurd (no_entry c.args.kind own (c.in_default.ensures.none (c.if-not-has.ensures.0 refl)) (c.in_default-world_of.ensures.none (c.if-not-has.ensures.0 refl)))

pub items::push_instance_type-returns-clause-entry : goal.items::push_instance_type-returns-clause-entry
items::push_instance_type-returns-clause-entry m c w outer i h = c.add_type.ensures.entry (instance_declared c.in_ok-declarations.declarations) w c.args.types.now outer i h

pub items::push_component_type-returns-clause-entry : goal.items::push_component_type-returns-clause-entry
items::push_component_type-returns-clause-entry m c w outer i h = c.add_type.ensures.entry (component_declared c.in_ok-declarations.declarations) w c.args.types.now outer i h

-- ---- why an instance type is refused

pub items::push_instance_type-returns-in_err-inner-clause-refused : goal.items::push_instance_type-returns-in_err-inner-clause-refused
items::push_instance_type-returns-in_err-inner-clause-refused m c stands id is w outer i h are =
    let p = err_from_is_err_and c.from_residual.result c.from_residual.ensures.1 in
    rw (p.1, p.2) (λ un. too_deep c.in_err-inner.ensures.refused.1)

pub items::push_instance_type-returns-in_err-declarations-clause-refused : goal.items::push_instance_type-returns-in_err-declarations-clause-refused
items::push_instance_type-returns-in_err-declarations-clause-refused m c stands id is w outer i h are =
    let types = c.args.types.now in
    let inner = c.in_ok-inner.inner in
    let depth = c.args.around.depth in
    let deep = used_deeper w types (i.here ∷ outer) depth inner.depth c.args.around.used.now inner.used.now c.in_ok-inner.ensures.depth c.in_ok-inner.ensures.used are in
    let p = err_from_is_err_and c.from_residual-in_err-declarations.result c.from_residual-in_err-declarations.ensures.1 in
    rw (p.1, p.2) (λ un.
    let refused = c.in_err-declarations.ensures.refused stands w (i.here ∷ outer) deep un depth c.in_ok-inner.ensures.depth in
    subst (InstanceRefused types c.args.around.used.now depth) is (subst (λ (us : Used). InstanceRefused types us depth c.args.id) c.in_ok-inner.ensures.used refused))

pub items::push_instance_type-returns-clause-refused : goal.items::push_instance_type-returns-clause-refused
items::push_instance_type-returns-clause-refused m c stands id is w outer i h are = refused_memory c.add_type.result _ c.add_type.ensures.refused

pub items::instance_type-returns-clause-refused : goal.items::instance_type-returns-clause-refused
items::instance_type-returns-clause-refused m c stands w outer around =
    let types = c.args.all.types.now in
    c.write_instance.ensures.refused stands w outer around (writes_none w types outer c.args.all.id c.new-scope.result (c.new-scope.ensures w types outer))

pub items::write_instance-returns-in_err-given-clause-refused : goal.items::write_instance-returns-in_err-given-clause-refused
items::write_instance-returns-in_err-given-clause-refused m c stands w outer around k =
    let p = err_from_is_err_and c.from_residual.result c.from_residual.ensures.1 in
    rw (p.1, p.2) (λ un depth e. use_refused (c.in_err-given.ensures.refused un))

pub items::write_instance-returns-in_err-export_others-clause-refused : goal.items::write_instance-returns-in_err-export_others-clause-refused
items::write_instance-returns-in_err-export_others-clause-refused m c stands w outer around k =
    let p = err_from_is_err_and c.from_residual-in_err-export_others.result c.from_residual-in_err-export_others.ensures.1 in
    rw (p.1, p.2) (c.in_err-export_others.ensures.refused stands c.in_ok-given.ensures.held w outer around (c.in_ok-given.ensures.begins w outer around k))

pub items::export_others-returns-in_err-export_other_at-clause-refused : goal.items::export_others-returns-in_err-export_other_at-clause-refused
items::export_others-returns-in_err-export_other_at-clause-refused m c stands stock w outer around k =
    let types = c.args.all.types.now in
    let there = stock_on types c.args.all.around.used.now c.args.all.id c.args.scope.now.types c.loop-at.scope.types c.loop-at.invariant.keeps stock in
    let p = err_from_is_err_and c.from_residual.result c.from_residual.ensures.1 in
    rw (p.1, p.2) (c.in_err-export_other_at.ensures.refused stands there w outer around (c.loop-at.invariant.written stands w outer around k).writing)

pub items::export_others-loop-at-preserved : goal.items::export_others-loop-at-preserved
items::export_others-loop-at-preserved m c = record {
  written = λ stands w outer around k. c.in_ok-export_other_at.ensures.writes stands w outer around (c.loop-at.invariant.written stands w outer around k);
  keeps = KeepsTypes-trans c.args.scope.now.types c.loop-at.scope.types c.export_other_at.new.scope.types c.loop-at.invariant.keeps c.in_ok-export_other_at.ensures.keeps;
}

pub items::export_other_at-returns-in_err-export_item-in-Some-clause-refused : goal.items::export_other_at-returns-in_err-export_item-in-Some-clause-refused
items::export_other_at-returns-in_err-export_item-in-Some-clause-refused m c stands stock w outer around k =
    let types = c.args.all.types.now in
    let id = c.args.all.id in
    let item = c.in-Some.item in
    let entry = c.in-Some.ensures.entry in
    let among = among-get (exports_of types id) c.args.at (item.name.now, item.kind) entry in
    let p = err_from_is_err_and c.from_residual.result c.from_residual.ensures.1 in
    rw (p.1, p.2) (λ un depth e.
    export_is_refused types c.args.all.around.used.now depth c.args.all.around.depth id item.name.now item.kind e among
    (c.in_err-export_item-in-Some.ensures.refused c.in-Some.ensures.inside.0 w outer k.inside k.stands (around k.inside.here) id stock un))

pub items::export_item-returns-in_err-description-clause-item : goal.items::export_item-returns-in_err-description-clause-item
items::export_item-returns-in_err-description-clause-item m c stands =
    let k = c.args.item.kind in
    let p = err_from_is_err_and c.from_residual.result c.from_residual.ensures.1 in
    rw (p.1, p.2) (λ un. subst (RefusedItem c.args.types.now k c.args.scope.now c.describe.new.scope) un (c.in_err-description.ensures.refused stands))

pub items::export_item-returns-clause-item : goal.items::export_item-returns-clause-item
items::export_item-returns-clause-item m c stands = if_err_map c.export_described.result (λ e g un. absurd (memory_apart (sym g ∙ un))) c.export_described.ensures.refused

pub items::export_item-returns-in_err-description-clause-instance : goal.items::export_item-returns-in_err-description-clause-instance
items::export_item-returns-in_err-description-clause-instance m c stands id of w outer i h are =
    let p = err_from_is_err_and c.from_residual.result c.from_residual.ensures.1 in
    rw (p.1, p.2) (λ un. c.in_err-description.ensures.instance stands id of w outer i h are un)

pub items::export_item-returns-clause-instance : goal.items::export_item-returns-clause-instance
items::export_item-returns-clause-instance m c stands id of w outer i h are = if_err_map c.export_described.result (λ e g un. absurd (memory_apart (sym g ∙ un))) c.export_described.ensures.refused

pub items::export_item-returns-in_err-description-clause-refused : goal.items::export_item-returns-in_err-description-clause-refused
items::export_item-returns-in_err-description-clause-refused m c stands w outer i h are id stock =
    let types = c.args.types.now in
    let s = c.args.scope.now in
    let u = c.describe.new.scope in
    let kind = c.args.item.kind in
    let around = c.args.around in
    let e = c.in_err-description.field-0.0 in
    let p = err_from_is_err_and c.from_residual.result c.from_residual.ensures.1 in
    rw (p.1, p.2) (item_refused types c.see_acyclic.ensures around.used.now around.depth id kind s u e stock (w, outer, i, h.written) stands c.describe.ensures.resources (c.in_err-description.ensures.refused stands)
    (λ inner of un. c.in_err-description.ensures.instance stands inner of w outer i h are un))

pub items::export_item-returns-clause-refused : goal.items::export_item-returns-clause-refused
items::export_item-returns-clause-refused m c stands w outer i h are id stock = refused_memory c.export_described.result _ c.export_described.ensures.refused

pub items::export_item-returns-clause-keeps : goal.items::export_item-returns-clause-keeps
items::export_item-returns-clause-keeps m c =
    let s = c.args.scope.now.types in
    let u = c.describe.new.scope.types in
    on_ok_weaker c.export_described.result (KeepsTypes-trans s u c.export_described.new.scope.types (keeps_listed s u c.in_ok-description.ensures.known c.describe.ensures.resources)) c.export_described.ensures.keeps

pub items::describe-returns-in_err-index-clause-instance : goal.items::describe-returns-in_err-index-clause-instance
items::describe-returns-in_err-index-clause-instance m c stands id is w outer i h are =
    let types = c.args.types.now in
    let own = c.in-Some.id in
    let of = c.in-Some.ensures.kind in
    let same = one_interface c.args.kind own id of is in
    let p = err_from_is_err_and c.from_residual.result c.from_residual.ensures.1 in
    rw (p.1, p.2) (λ un. subst (InstanceRefused types c.args.around.used.now c.args.around.depth) same (c.in_err-index.ensures.refused (interface_stands types c.args.kind own of stands) own refl w outer i h are un))

-- of a world that is no interface nothing is said here
pub items::describe-returns-in_err-index-2-clause-instance : goal.items::describe-returns-in_err-index-2-clause-instance
items::describe-returns-in_err-index-2-clause-instance m c stands id is w outer i h are = absurd (c.in_default.ensures.none stands id is)

pub items::describe-returns-clause-instance : goal.items::describe-returns-clause-instance
items::describe-returns-clause-instance m c stands id is w outer i h are = absurd (c.in_default.ensures.none stands id is)

-- ---- imports

pub imports::ImportScope::describe-returns-clause-describes : goal.imports::ImportScope::describe-returns-clause-describes
imports::ImportScope::describe-returns-clause-describes m c world n w outer i imported exported h =
    let types = c.args.types.now in
    IfOk-weaker c.describe.result _ _ (λ d a. world_describes w types outer world imported exported i c.args.self.now c.describe.new.scope h n c.args.kind d a)
    (c.describe.ensures.describes w outer h.goes.writing.inside h.goes.writing.stands h.goes.used)

pub imports::ImportScope::describe_import-returns-in-Some-clause-describes : goal.imports::ImportScope::describe_import-returns-in-Some-clause-describes
imports::ImportScope::describe_import-returns-in-Some-clause-describes m c w outer i imported exported h =
    subst (MayDescribeIn w c.args.all.types.now outer c.args.all.world i c.args.import.name.now c.args.import.kind c.describe_plainly.new.self imported exported) c.in-Some.is (c.in_ok-plainly.ensures.describes w outer i imported exported h)

pub imports::ImportScope::describe_import-returns-in-None-clause-describes : goal.imports::ImportScope::describe_import-returns-in-None-clause-describes
imports::ImportScope::describe_import-returns-in-None-clause-describes m c w outer i imported exported h =
    c.describe.ensures.describes c.args.all.world c.args.import.name.now w outer i imported exported
    (subst (MayDescribeIn w c.args.all.types.now outer c.args.all.world i c.args.import.name.now c.args.import.kind c.describe_plainly.new.self imported exported) c.in-None.is (c.in_ok-plainly.ensures.describes w outer i imported exported h))

pub imports::ImportScope::describe_import-returns-in_err-plainly-clause-refused : goal.imports::ImportScope::describe_import-returns-in_err-plainly-clause-refused
imports::ImportScope::describe_import-returns-in_err-plainly-clause-refused m c stands w outer imported exported h =
    let p = err_from_is_err_and c.from_residual.result c.from_residual.ensures.1 in
    rw (p.1, p.2) (λ un. inl (c.in_err-plainly.ensures.refused un))

pub imports::ImportScope::describe_import-returns-in-None-clause-refused : goal.imports::ImportScope::describe_import-returns-in-None-clause-refused
imports::ImportScope::describe_import-returns-in-None-clause-refused m c stands w outer imported exported h =
    let types = c.args.all.types.now in
    let world = c.args.all.world in
    let k = c.args.import.kind in
    let between = c.describe_plainly.new.self in
    let goes = (subst (MayDescribeIn w types outer world h.writing.inside c.args.import.name.now k between imported exported) c.in-None.is
    (c.in_ok-plainly.ensures.describes w outer h.writing.inside imported exported (written w types outer world imported exported c.args.self.now h))).goes in
    let prepared = subst (λ o. IfNone o (IsPrepared c.args.all between k)) c.in-None.is c.in_ok-plainly.ensures.prepared in
    refused_then w c.args.all outer imported exported k c.args.self.now between c.describe.new.self (UsesUnnamed c.args.all c.args.import) c.in_ok-plainly.ensures.kept prepared c.describe.result goes (c.describe.ensures.refused stands)
    (λ id of. c.describe.ensures.instance stands id of w outer goes.writing.inside goes.writing.stands goes.used)

pub imports::ImportScope::write_import-returns-in_err-description-in-Some-clause-refused : goal.imports::ImportScope::write_import-returns-in_err-description-in-Some-clause-refused
imports::ImportScope::write_import-returns-in_err-description-in-Some-clause-refused m c w outer imported exported h =
    let p = err_from_is_err_and c.from_residual.result c.from_residual.ensures.1 in
    rw (p.1, p.2) (λ un. (c.in-Some.import, c.in-Some.ensures.entry, c.in_err-description-in-Some.ensures.refused c.in-Some.ensures.inside.0 w outer imported exported h un))

pub imports::ImportScope::write_import-returns-in_ok-description-in-Some-clause-refused : goal.imports::ImportScope::write_import-returns-in_ok-description-in-Some-clause-refused
imports::ImportScope::write_import-returns-in_ok-description-in-Some-clause-refused m c w outer imported exported h =
    if_err_map c.import_placed.result (λ e g un. absurd (memory_apart (sym g ∙ un))) c.import_placed.ensures.refused

pub imports::ImportScope::export-returns-in_err-prepare-clause-refused : goal.imports::ImportScope::export-returns-in_err-prepare-clause-refused
imports::ImportScope::export-returns-in_err-prepare-clause-refused m c stands w outer imported exported h =
    let p = err_from_is_err_and c.from_residual.result c.from_residual.ensures.1 in
    rw (p.1, p.2) (λ un. inl (c.in_err-prepare.ensures.refused un))

pub imports::ImportScope::export-returns-clause-refused : goal.imports::ImportScope::export-returns-clause-refused
imports::ImportScope::export-returns-clause-refused m c stands w outer imported exported h =
    let types = c.args.all.types.now in
    let world = c.args.all.world in
    let k = c.args.item.kind in
    let between = c.prepare.new.self in
    let goes = (c.in_ok-prepare.ensures.keeps w outer h.writing.inside imported exported (written w types outer world imported exported c.args.self.now h)).goes in
    exporting_refused w c.args.all outer imported exported k c.args.self.now between (record between { scope = c.export_item.new.scope }) (LacksIdentifiers types k) c.in_ok-prepare.ensures.kept c.in_ok-prepare.ensures.stands c.export_item.result goes
    (c.export_item.ensures.item stands) (λ id of. c.export_item.ensures.instance stands id of w outer goes.writing.inside goes.writing.stands goes.used)

pub imports::ImportScope::write_import-returns-then-at-count-clause-writes : goal.imports::ImportScope::write_import-returns-then-at-count-clause-writes
imports::ImportScope::write_import-returns-then-at-count-clause-writes m c w outer imported exported h new =
    let types = c.args.all.types.now in
    let world = c.args.all.world in
    let is = imports_of types world in
    let past : length is ≤ c.args.at = omega (arith, c.if-at-count.true, c.import_count-count.ensures.len) in
    subst (λ (l : List Name). WritesWorld w types outer world c.args.self.now l exported) (sym (no_name_at is c.args.at imported past)) h

pub imports::ImportScope::write_import-returns-in_ok-description-in-Some-clause-writes : goal.imports::ImportScope::write_import-returns-in_ok-description-in-Some-clause-writes
imports::ImportScope::write_import-returns-in_ok-description-in-Some-clause-writes m c w outer imported exported h new =
    let types = c.args.all.types.now in
    let world = c.args.all.world in
    let is = imports_of types world in
    let import = c.in-Some.import in
    let n = import.name.now in
    let entry = c.in-Some.ensures.entry in
    let d = c.in_ok-description-in-Some.ensures.describes w outer h.writing.inside imported exported (written w types outer world imported exported c.args.self.now h) in
    IfOk-weaker c.import_placed.result _ _ (λ u a. subst (λ (l : List Name). WritesWorld w types outer world c.import_placed.new.self l exported) (name_added is c.args.at n import.kind imported entry) a)
    (c.import_placed.ensures.imports w outer h.writing.inside imported exported c.import_count-count.ensures.distinct c.in-Some.ensures.inside.0 entry (new n (name_at is c.args.at n import.kind entry)) d)

pub imports::ImportScope::export-returns-clause-exports : goal.imports::ImportScope::export-returns-clause-exports
imports::ImportScope::export-returns-clause-exports m c w outer imported exported stands is new h =
    let types = c.args.all.types.now in
    let world = c.args.all.world in
    let n = c.args.item.name.now in
    let k = (c.in_ok-prepare.ensures.keeps w outer h.writing.inside imported exported (written w types outer world imported exported c.args.self.now h)).goes in
    let i = k.writing.inside in
    IfOk-weaker c.export_item.result _ _ (λ u e. world_exports_indexed w types outer world imported exported c.prepare.new.self c.export_item.new.scope k n c.args.item.kind (exported ++ n ∷ []) u is e new (sym (put_name-new exported n new)))
    (c.export_item.ensures.exports stands w outer i k.writing.stands k.used)

pub worlds::write_imports-loop-at-preserved : goal.worlds::write_imports-loop-at-preserved
worlds::write_imports-loop-at-preserved m c w outer imported exported dn d new h =
    let types = c.args.all.types.now in
    let world = c.args.all.world in
    let ns = names_of (imports_of types world) in
    let order = c.args.order.now in
    let i = c.loop-at.at-index in
    let k = get_or order i 0 in
    let at = slice_get-get_or order i 0 c.loop-at-test.true in
    let a = c.loop-at.invariant w outer imported exported dn d new h in
    let b = c.in_ok-write_import.ensures.writes w outer (imported ++ names_at ns (take i order)) exported a (next_new ns order imported i k dn d new at) in
    subst (λ (l : List Name). WritesWorld w types outer world c.write_import.new.self l exported) (next_names ns order imported i k at) b

pub worlds::write_imports-returns : goal.worlds::write_imports-returns
worlds::write_imports-returns m c w outer imported exported dn d new h =
    let types = c.args.all.types.now in
    let world = c.args.all.world in
    let order = c.args.order.now in
    let le : length order ≤ c.loop-at.at-index = omega (arith, c.loop-at-test.false) in
    subst (λ (ks : List ℕ). WritesWorld w types outer world c.loop-at.scope (imported ++ names_at (names_of (imports_of types world)) ks) exported) (take_all c.loop-at.at-index order le) (c.loop-at.invariant w outer imported exported dn d new h)

pub worlds::export_other-returns-in-Some : goal.worlds::export_other-returns-in-Some
worlds::export_other-returns-in-Some m c w outer imported exported stands is new h =
    let types = c.args.all.types.now in
    let world = c.args.all.world in
    let n = c.args.item.name.now in
    let id = c.in-Some.id in
    let e = c.in_ok-index.ensures.exports w outer imported exported stands is new h in
    let i = e.goes.writing.inside in
    let instance : IsInstanceAt w (i.here ∷ outer) (tree_in types (ItemKind.Instance id)) c.in_ok-index.index =
    (Item n sort.Instance (tree_in types (ItemKind.Instance id)), subst (λ (k : ItemKind). found (i.here ∷ outer) sort.Instance c.in_ok-index.index ≡ Some (Item n sort.Instance (tree_in types k))) c.in-Some.ensures (e.means sort.Instance (ap sort_of c.in-Some.ensures)), refl) in
    IfOk-weaker c.alias_types.result _ _ (λ u on. on.goes)
    (c.alias_types.ensures w outer i imported (exported ++ n ∷ []) (written w types outer world imported (exported ++ n ∷ []) c.export.new.self e.goes) instance)

pub worlds::export_other-returns-in-None : goal.worlds::export_other-returns-in-None
worlds::export_other-returns-in-None m c w outer imported exported stands is new h = (c.in_ok-index.ensures.exports w outer imported exported stands is new h).goes

pub worlds::export_other_at-returns-in_ok-add_name-in-Some : goal.worlds::export_other_at-returns-in_ok-add_name-in-Some
worlds::export_other_at-returns-in_ok-add_name-in-Some m c w outer imported places o =
    let types = c.args.all.types.now in
    let world = c.args.all.world in
    let es = world_exports_of types world in
    let item = c.in-Some.item in
    let n = item.name.now in
    let given = c.args.exported.now in
    let entry = c.in-Some.ensures.entry in
    let fresh = not_among given n c.in-Some.ensures.new in
    let e = c.in_ok-export_other-in-Some.ensures w outer imported given c.in-Some.ensures.inside.0 (item.kind, value_here es c.args.at n item.kind c.requires entry, refl) fresh o.goes in
    let more = c.in_ok-add_name-in-Some.ensures in
    let here = name_at es c.args.at n item.kind entry in
    record {
      goes = subst (λ (l : List Name). WritesWorld w types outer world c.export_other.new.scope imported l) (sym (more ∙ put_name-new given n fresh)) e;
      those = λ k p a at. elim (Among-last places c.args.at k a) [
        | inl old ↦ subst (λ (l : List Name). Among p l) (sym more) (put_keeps given n p (o.those k p old at))
        | inr same ↦
            let there = ap (slice_get (names_of es)) (sym same) ∙ at in
            let is : n ≡ p = cc (here, there) in
            subst (λ (l : List Name). Among p l) (sym more) (subst (λ (x : Name). Among x (put_name given n)) is (put_there given n))
      ];
    }

pub worlds::export_other_at-returns-in-None : goal.worlds::export_other_at-returns-in-None
worlds::export_other_at-returns-in-None m c w outer imported places o = record {
  goes = o.goes;
  those = λ k p a at. elim (Among-last places c.args.at k a) [
    | inl old ↦ o.those k p old at
    | inr same ↦ among_has c.args.exported.now p (c.in-None.ensures.none p (ap (slice_get (names_of (world_exports_of c.args.all.types.now c.args.all.world))) (sym same) ∙ at))
  ];
}

pub worlds::export_in_order-loop-at-preserved : goal.worlds::export_in_order-loop-at-preserved
worlds::export_in_order-loop-at-preserved m c w outer imported h =
    let order = c.args.order.now in
    let i = c.loop-at.at-index in
    let k = get_or order i 0 in
    let at = slice_get-get_or order i 0 c.loop-at-test.true in
    let a = c.loop-at.invariant w outer imported h in
    let b = c.in_ok-export_other_at.ensures w outer imported (take i order) a in
    subst (λ (ks : List ℕ). ExportsWritten w c.args.all.types.now outer c.args.all.world ks c.export_other_at.new.scope imported c.export_other_at.new.exported) (sym (take-one_more order i k at)) b

pub worlds::export_in_order-returns : goal.worlds::export_in_order-returns
worlds::export_in_order-returns m c w outer imported h =
    let order = c.args.order.now in
    let le : length order ≤ c.loop-at.at-index = omega (arith, c.loop-at-test.false) in
    subst (λ (ks : List ℕ). ExportsWritten w c.args.all.types.now outer c.args.all.world ks c.loop-at.scope imported c.loop-at.exported) (take_all c.loop-at.at-index order le) (c.loop-at.invariant w outer imported h)

pub worlds::export_others-returns : goal.worlds::export_others-returns
worlds::export_others-returns m c w outer imported h =
    let types = c.args.all.types.now in
    let world = c.args.all.world in
    let es = world_exports_of types world in
    let order = c.as_slice.result.now in
    let is : IsOrder (length es) [] order = subst (λ (l : List ℕ). IsOrder (length es) [] l) (sym c.as_slice.ensures.value) c.in_ok-order.ensures.order in
    IfOk-weaker c.export_in_order.result _ _
    (λ u o. (o.goes, λ n m. let a = place_of_name (names_of es) n m in let within : a.0 < length es = omega (arith, slice_get_within (names_of es) a.0 n a.1, length-map es (λ e. e.0)) in o.those a.0 n (is.all a.0 within) a.1))
    (c.export_in_order.ensures w outer imported h)

pub worlds::write_before_others-returns : goal.worlds::write_before_others-returns
worlds::write_before_others-returns m c w outer h =
    let types = c.args.all.types.now in
    let ns = names_of (imports_of types c.args.all.world) in
    let sources = c.as_slice.result.now in
    let others = c.as_slice-2.result.now in
    let dn = c.in_ok-order.ensures.distinct in
    let given = ordered_names (imports_of types c.args.all.world) c.in_ok-order.order.sources.items c.in_ok-order.order.others.items c.in_ok-order.ensures.order in
    let half = subst (λ (l : List ℕ). IsOrder (length ns) l c.in_ok-order.order.others.items) (sym c.as_slice.ensures.value) given in
    let o : IsOrder (length ns) sources others = subst (λ (l : List ℕ). IsOrder (length ns) sources l) (sym c.as_slice-2.ensures.value) half in
    let one = [] ++ names_at ns sources in
    let a = c.in_ok-write_imports.ensures w outer [] [] dn (distinct-left sources others o.distinct) (λ k x n at y. y) h in
    let b = c.in_ok-exported.ensures w outer one a in
    let d = c.in_ok-write_imports-2.ensures w outer one c.in_ok-exported.exported dn (distinct-right sources others o.distinct) (others_new ns sources others o dn) b in
    let e = c.in_ok-export_resources.ensures w outer (one ++ names_at ns others) d in
    (one ++ names_at ns others, e, all_named ns sources others o)

pub worlds::write_component-returns : goal.worlds::write_component-returns
worlds::write_component-returns m c stands w outer =
    let types = c.args.all.types.now in
    let world = c.args.all.world in
    let b = c.in_ok-exported.ensures w outer (c.requires w outer) in
    let o = c.in_ok-export_others.ensures w outer b.0 b.1 in
    subst (λ ds. StatesComponent w outer (tree_in types (ItemKind.Component world)) (declarations_of ds)) (sym c.take_declarations.ensures)
    (states_component w types c.see_acyclic.ensures outer world c.export_others.new.scope b.0 c.export_others.new.exported stands o.0 b.2 o.1)

pub items::describe-returns-in_err-index-clause-refused : goal.items::describe-returns-in_err-index-clause-refused
items::describe-returns-in_err-index-clause-refused m c stands =
    let p = err_from_is_err_and c.from_residual.result c.from_residual.ensures.1 in
    rw (p.1, p.2) (interface_unsaid c.args.types.now c.args.kind c.in-Some.id c.args.scope.now c.push_instance_type.new.scope c.in_err-index.field-0.0 c.in-Some.ensures.kind)

pub items::describe-returns-in_err-index-2-clause-refused : goal.items::describe-returns-in_err-index-2-clause-refused
items::describe-returns-in_err-index-2-clause-refused m c stands =
    let p = err_from_is_err_and c.from_residual-in_err-index-2.result c.from_residual-in_err-index-2.ensures.1 in
    rw (p.1, p.2) (world_unsaid c.args.types.now c.args.kind c.in-Some-world_of.id c.args.scope.now c.push_component_type.new.scope c.in_err-index-2.field-0.0 c.in-Some-world_of.ensures.kind)
