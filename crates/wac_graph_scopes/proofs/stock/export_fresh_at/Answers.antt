use Rattle.wac_types_fit.specs.Trees.{tree_in}
use Rattle.wac_types_parts.specs.Parts.{exports_of}
use Rattle.wac_graph_scopes.proofs.WritingLaws.{writes_more, value_here}
use Rattle.wac_types_base.proofs.Lists.{not_among}
use Rattle.std.proofs.Common.{◌≡◌, [], refl, sym, ◌∙◌}
use Rattle.wac_graph_scopes.proofs.WritingLaws.{among_has}
use Rattle.wac_graph_scopes.proofs.StockLaws.{exports_named, export_held}
use Rattle.wac_graph_scopes.proofs.FoundLaws.{kind_of}
use Rattle.wac_graph_scopes.proofs.stock.export_fresh_at.Goals as goal

pub returns-in_ok-add_name-in-Some-clause-writes : goal.returns-in_ok-add_name-in-Some-clause-writes
returns-in_ok-add_name-in-Some-clause-writes c w outer k =
    let types = c.args.types.now in
    let es = exports_of types c.args.id in
    let item = c.in-Some.item in
    let n = item.name.now in
    let e = c.in_ok-export_resource-in-Some.ensures.exports w outer k.inside k.stands c.in-Some.ensures.fresh in
    writes_more w types outer [] es [] c.args.given.now c.args.scope.now c.export_resource.new.scope k n (tree_in types item.kind) c.add_name.new.names
    (item.kind, value_here es c.args.at n item.kind c.requires c.in-Some.ensures.entry, refl) e (not_among c.args.given.now n c.in-Some.ensures.new) c.in_ok-add_name-in-Some.ensures

pub returns-in_ok-add_name-in-Some-clause-given : goal.returns-in_ok-add_name-in-Some-clause-given
returns-in_ok-add_name-in-Some-clause-given c h =
    let types = c.args.types.now in
    let item = c.in-Some.item in
    let u = c.export_resource.new.scope.types in
    let made = c.in_ok-export_resource-in-Some.ensures in
    exports_named types c.args.id c.args.scope.now.types u made.keeps c.args.given.now c.add_name.new.names item.name.now c.in_ok-add_name-in-Some.ensures h
    (λ k at f.
    let here = value_here (exports_of types c.args.id) c.args.at item.name.now item.kind c.requires c.in-Some.ensures.entry in
    let same : k ≡ item.kind = cc (at, here) in
    export_held types c.see_acyclic.ensures item.name.now item.name.now item.kind k u c.in-Some.ensures.fresh (made.held c.in-Some.ensures.fresh.0) f same)

pub returns-in_ok-add_name-in-Some-clause-own : goal.returns-in_ok-add_name-in-Some-clause-own
returns-in_ok-add_name-in-Some-clause-own c h n k at f =
    let types = c.args.types.now in
    let item = c.in-Some.item in
    let this = kind_of (n, k) (item.name.now, item.kind) (sym at ∙ c.in-Some.ensures.entry) in
    export_held types c.see_acyclic.ensures item.name.now n item.kind k c.export_resource.new.scope.types c.in-Some.ensures.fresh (c.in_ok-export_resource-in-Some.ensures.held c.in-Some.ensures.fresh.0) f this

pub returns-in-None-clause-own : goal.returns-in-None-clause-own
returns-in-None-clause-own c h n k at f =
    let types = c.args.types.now in
    let es = exports_of types c.args.id in
    h n (among_has c.args.given.now n (c.in-None.ensures.none n k at f)) k (value_here es c.args.at n k c.requires at) f
