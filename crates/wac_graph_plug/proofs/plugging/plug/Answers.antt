use Rattle.std.proofs.Common.{◌≡◌, refl, rules, ap, subst, ◌∙◌}
use Rattle.std.proofs.lemmas.Result.{err_from_is_err_and}
use Rattle.wac_types_base.specs.Collection.{IsAcyclic}
use Rattle.wac_types_base.specs.Entries.{names_of, texts_of, AreDistinct}
use Rattle.wac_types_base.specs.Graph.{Among}
use Rattle.wac_types_base.specs.Stated.{exports_of}
use Rattle.wac_types_base.proofs.Adding.{All-among}
use Rattle.wac_graph_core.specs.Graph.{ContainsPackage}
use Rattle.wac_graph_plug.specs.Steps.{ExportsAll}
use Rattle.wac_graph_plug.specs.Stops.{PlugsAll, StopsEach, StopsExporting, socket_exports}
use Rattle.wac_graph_plug.proofs.Growing.{Grown-trans, Grown-instance, ContainsPackage-grown, HasExport-grown}
use Rattle.wac_graph_core.proofs.Made.{instance_there}
use Rattle.wac_graph_plug.proofs.Calls.{world_is, name_has}
use Rattle.wac_graph_plug.proofs.Final.{are_matched, is_plugged}
use Rattle.wac_graph_plug.proofs.Whole.{refused_first, refused_stop, cause_stop, refused_none, refused_export, cause_export, plugs_whole}
use Rattle.wac_graph_plug.proofs.plugging.plug.Goals as goal

pub plug_each-requires-clause-plugs : goal.plug_each-requires-clause-plugs
plug_each-requires-clause-plugs c =
    let g = c.args.graph.now in
    let first = c.instantiate.new.self in
    let s = c.in_ok-instance.instance in
    let ids = c.args.plugs.items in
    let made = c.in_ok-instance.ensures.instantiated in
    let grown = Grown-instance g first c.args.socket s made in
    λ id at. ContainsPackage-grown g first grown id (All-among (ContainsPackage g) ids id c.requires.plugs (subst (Among id) c.as_slice.ensures.value at))

pub plug_each-requires-clause-instance : goal.plug_each-requires-clause-instance
plug_each-requires-clause-instance c =
    instance_there c.args.graph.now c.instantiate.new.self c.args.socket c.in_ok-instance.instance c.in_ok-instance.ensures.instantiated

pub returns-in_err-names-clause-refused : goal.returns-in_err-names-clause-refused
returns-in_err-names-clause-refused c = refused_first c.from_residual.result c.args.graph.now c.args.graph.now c.args.socket c.args.plugs.items refl (search rules)

pub returns-in_err-instance-clause-refused : goal.returns-in_err-instance-clause-refused
returns-in_err-instance-clause-refused c = refused_first c.from_residual-in_err-instance.result c.args.graph.now c.instantiate.new.self c.args.socket c.args.plugs.items c.in_err-instance.ensures.kept (search rules)

pub returns-in_err-happened-clause-refused : goal.returns-in_err-happened-clause-refused
returns-in_err-happened-clause-refused c =
    let g = c.args.graph.now in
    let first = c.instantiate.new.self in
    let second = c.plug_each.new.graph in
    let s = c.in_ok-instance.instance in
    let ids = c.args.plugs.items in
    let made = c.in_ok-instance.ensures.instantiated in
    let grown = Grown-instance g first c.args.socket s made in
    let stopped : StopsEach first second c.args.socket ids s c.in_err-happened.field-0.0 =
    subst (λ l. StopsEach first second c.args.socket l s c.in_err-happened.field-0.0) c.as_slice.ensures.value c.in_err-happened.ensures.stopped in
    let p = err_from_is_err_and c.from_residual-in_err-happened.result c.from_residual-in_err-happened.ensures.1 in
    rw (p.1, p.2) (refused_stop g first second c.args.socket ids s made c.in_err-happened.field-0.0 stopped)

pub returns-in_err-happened-clause-cause : goal.returns-in_err-happened-clause-cause
returns-in_err-happened-clause-cause c =
    let g = c.args.graph.now in
    let first = c.instantiate.new.self in
    let second = c.plug_each.new.graph in
    let s = c.in_ok-instance.instance in
    let ids = c.args.plugs.items in
    let made = c.in_ok-instance.ensures.instantiated in
    let grown = Grown-instance g first c.args.socket s made in
    let stopped : StopsEach first second c.args.socket ids s c.in_err-happened.field-0.0 =
    subst (λ l. StopsEach first second c.args.socket l s c.in_err-happened.field-0.0) c.as_slice.ensures.value c.in_err-happened.ensures.stopped in
    let acyclic = subst IsAcyclic c.types.ensures c.see_acyclic.ensures in
    let p = err_from_is_err_and c.from_residual-in_err-happened.result c.from_residual-in_err-happened.ensures.1 in
    rw (p.1, p.2) (cause_stop g first second c.args.socket ids s made c.see_sound.ensures acyclic c.in_err-happened.field-0.0 stopped)

pub returns-in_err-happened-clause-grown : goal.returns-in_err-happened-clause-grown
returns-in_err-happened-clause-grown c =
    let g = c.args.graph.now in
    let first = c.instantiate.new.self in
    let second = c.plug_each.new.graph in
    let s = c.in_ok-instance.instance in
    let ids = c.args.plugs.items in
    let made = c.in_ok-instance.ensures.instantiated in
    let grown = Grown-instance g first c.args.socket s made in
    Grown-trans g first second grown c.plug_each.ensures.grown

pub returns-then-not-happened-clause-refused : goal.returns-then-not-happened-clause-refused
returns-then-not-happened-clause-refused c =
    let g = c.args.graph.now in
    let first = c.instantiate.new.self in
    let second = c.plug_each.new.graph in
    let s = c.in_ok-instance.instance in
    let ids = c.args.plugs.items in
    let made = c.in_ok-instance.ensures.instantiated in
    let grown = Grown-instance g first c.args.socket s made in
    let plugged : PlugsAll first second c.args.socket ids s c.in_ok-happened.happened = subst (λ l. PlugsAll first second c.args.socket l s c.in_ok-happened.happened) c.as_slice.ensures.value c.in_ok-happened.ensures.plugged in
    refused_none g first second c.args.socket ids s made c.in_ok-happened.happened plugged c.if-not-happened.true

pub returns-then-not-happened-clause-grown : goal.returns-then-not-happened-clause-grown
returns-then-not-happened-clause-grown c =
    let g = c.args.graph.now in
    let first = c.instantiate.new.self in
    let second = c.plug_each.new.graph in
    let s = c.in_ok-instance.instance in
    let ids = c.args.plugs.items in
    let made = c.in_ok-instance.ensures.instantiated in
    let grown = Grown-instance g first c.args.socket s made in
    Grown-trans g first second grown c.plug_each.ensures.grown

pub export_all-requires : goal.export_all-requires
export_all-requires c =
    let g = c.args.graph.now in
    let first = c.instantiate.new.self in
    let second = c.plug_each.new.graph in
    let s = c.in_ok-instance.instance in
    let ids = c.args.plugs.items in
    let made = c.in_ok-instance.ensures.instantiated in
    let grown = Grown-instance g first c.args.socket s made in
    let world = world_is g c.args.socket c.index.result.now c.types-2.result.now c.ty.result c.index.ensures c.ty.ensures c.types-2.ensures in
    let names : texts_of c.in_ok-names.names.items ≡ socket_exports g c.args.socket = c.in_ok-names.ensures.names ∙ ap (λ w. names_of (exports_of w)) world in
    let acyclic = subst IsAcyclic c.types.ensures c.see_acyclic.ensures in
    λ n at.
    HasExport-grown first second c.plug_each.ensures.grown s n
    (name_has g first c.args.socket s c.see_sound.ensures acyclic made (subst AreDistinct names c.in_ok-names.ensures.distinct) n (subst (Among n) (ap texts_of c.as_slice-2.ensures.value ∙ names) at))

pub returns-clause-plugged : goal.returns-clause-plugged
returns-clause-plugged c =
    let g = c.args.graph.now in
    let first = c.instantiate.new.self in
    let second = c.plug_each.new.graph in
    let s = c.in_ok-instance.instance in
    let ids = c.args.plugs.items in
    let made = c.in_ok-instance.ensures.instantiated in
    let grown = Grown-instance g first c.args.socket s made in
    let plugged : PlugsAll first second c.args.socket ids s c.in_ok-happened.happened = subst (λ l. PlugsAll first second c.args.socket l s c.in_ok-happened.happened) c.as_slice.ensures.value c.in_ok-happened.ensures.plugged in
    let world = world_is g c.args.socket c.index.result.now c.types-2.result.now c.ty.result c.index.ensures c.ty.ensures c.types-2.ensures in
    let names : texts_of c.in_ok-names.names.items ≡ socket_exports g c.args.socket = c.in_ok-names.ensures.names ∙ ap (λ w. names_of (exports_of w)) world in
    let exported : ExportsAll s (socket_exports g c.args.socket) second c.export_all.new.graph =
    subst (λ l. ExportsAll s l second c.export_all.new.graph) (ap texts_of c.as_slice-2.ensures.value ∙ names) c.in_ok-export_all.ensures.exported in
    plugs_whole g first second c.export_all.new.graph c.args.socket ids s c.in_ok-happened.happened made plugged c.if-not-happened.false exported

pub returns-clause-accepted : goal.returns-clause-accepted
returns-clause-accepted c =
    let g = c.args.graph.now in
    let first = c.instantiate.new.self in
    let second = c.plug_each.new.graph in
    let s = c.in_ok-instance.instance in
    let ids = c.args.plugs.items in
    let made = c.in_ok-instance.ensures.instantiated in
    let plugged : PlugsAll first second c.args.socket ids s c.in_ok-happened.happened = subst (λ l. PlugsAll first second c.args.socket l s c.in_ok-happened.happened) c.as_slice.ensures.value c.in_ok-happened.ensures.plugged in
    let world = world_is g c.args.socket c.index.result.now c.types-2.result.now c.ty.result c.index.ensures c.ty.ensures c.types-2.ensures in
    let names : texts_of c.in_ok-names.names.items ≡ socket_exports g c.args.socket = c.in_ok-names.ensures.names ∙ ap (λ w. names_of (exports_of w)) world in
    let exported : ExportsAll s (socket_exports g c.args.socket) second c.export_all.new.graph =
    subst (λ l. ExportsAll s l second c.export_all.new.graph) (ap texts_of c.as_slice-2.ensures.value ∙ names) c.in_ok-export_all.ensures.exported in
    are_matched g c.export_all.new.graph c.args.socket ids c.see_sound.ensures (plugs_whole g first second c.export_all.new.graph c.args.socket ids s c.in_ok-happened.happened made plugged c.if-not-happened.false exported)

pub returns-clause-wired : goal.returns-clause-wired
returns-clause-wired c =
    let g = c.args.graph.now in
    let first = c.instantiate.new.self in
    let second = c.plug_each.new.graph in
    let s = c.in_ok-instance.instance in
    let ids = c.args.plugs.items in
    let made = c.in_ok-instance.ensures.instantiated in
    let grown = Grown-instance g first c.args.socket s made in
    let plugged : PlugsAll first second c.args.socket ids s c.in_ok-happened.happened = subst (λ l. PlugsAll first second c.args.socket l s c.in_ok-happened.happened) c.as_slice.ensures.value c.in_ok-happened.ensures.plugged in
    let world = world_is g c.args.socket c.index.result.now c.types-2.result.now c.ty.result c.index.ensures c.ty.ensures c.types-2.ensures in
    let names : texts_of c.in_ok-names.names.items ≡ socket_exports g c.args.socket = c.in_ok-names.ensures.names ∙ ap (λ w. names_of (exports_of w)) world in
    let exported : ExportsAll s (socket_exports g c.args.socket) second c.export_all.new.graph =
    subst (λ l. ExportsAll s l second c.export_all.new.graph) (ap texts_of c.as_slice-2.ensures.value ∙ names) c.in_ok-export_all.ensures.exported in
    let acyclic = subst IsAcyclic c.types.ensures c.see_acyclic.ensures in
    λ fresh. is_plugged g c.export_all.new.graph c.args.socket ids c.see_sound.ensures c.see_sound-2.ensures acyclic fresh (plugs_whole g first second c.export_all.new.graph c.args.socket ids s c.in_ok-happened.happened made plugged c.if-not-happened.false exported)

pub returns-clause-grown : goal.returns-clause-grown
returns-clause-grown c =
    let g = c.args.graph.now in
    let first = c.instantiate.new.self in
    let second = c.plug_each.new.graph in
    let s = c.in_ok-instance.instance in
    let ids = c.args.plugs.items in
    let made = c.in_ok-instance.ensures.instantiated in
    let grown = Grown-instance g first c.args.socket s made in
    Grown-trans g second c.export_all.new.graph (Grown-trans g first second grown c.plug_each.ensures.grown) c.export_all.ensures.grown

pub returns-in_err-export_all-clause-refused : goal.returns-in_err-export_all-clause-refused
returns-in_err-export_all-clause-refused c =
    let g = c.args.graph.now in
    let first = c.instantiate.new.self in
    let second = c.plug_each.new.graph in
    let s = c.in_ok-instance.instance in
    let ids = c.args.plugs.items in
    let made = c.in_ok-instance.ensures.instantiated in
    let grown = Grown-instance g first c.args.socket s made in
    let plugged : PlugsAll first second c.args.socket ids s c.in_ok-happened.happened = subst (λ l. PlugsAll first second c.args.socket l s c.in_ok-happened.happened) c.as_slice.ensures.value c.in_ok-happened.ensures.plugged in
    let world = world_is g c.args.socket c.index.result.now c.types-2.result.now c.ty.result c.index.ensures c.ty.ensures c.types-2.ensures in
    let names : texts_of c.in_ok-names.names.items ≡ socket_exports g c.args.socket = c.in_ok-names.ensures.names ∙ ap (λ w. names_of (exports_of w)) world in
    let stops : StopsExporting s (socket_exports g c.args.socket) c.in_err-export_all.field-0.0 second c.export_all.new.graph =
    subst (λ l. StopsExporting s l c.in_err-export_all.field-0.0 second c.export_all.new.graph) (ap texts_of c.as_slice-2.ensures.value ∙ names) c.in_err-export_all.ensures.stopped in
    let p = err_from_is_err_and c.from_residual-in_err-export_all.result c.from_residual-in_err-export_all.ensures.1 in
    rw (p.1, p.2) (refused_export g first second c.export_all.new.graph c.args.socket ids s c.in_ok-happened.happened made plugged c.if-not-happened.false c.in_err-export_all.field-0.0 stops)

pub returns-in_err-export_all-clause-cause : goal.returns-in_err-export_all-clause-cause
returns-in_err-export_all-clause-cause c =
    let g = c.args.graph.now in
    let first = c.instantiate.new.self in
    let second = c.plug_each.new.graph in
    let s = c.in_ok-instance.instance in
    let ids = c.args.plugs.items in
    let made = c.in_ok-instance.ensures.instantiated in
    let grown = Grown-instance g first c.args.socket s made in
    let plugged : PlugsAll first second c.args.socket ids s c.in_ok-happened.happened = subst (λ l. PlugsAll first second c.args.socket l s c.in_ok-happened.happened) c.as_slice.ensures.value c.in_ok-happened.ensures.plugged in
    let world = world_is g c.args.socket c.index.result.now c.types-2.result.now c.ty.result c.index.ensures c.ty.ensures c.types-2.ensures in
    let names : texts_of c.in_ok-names.names.items ≡ socket_exports g c.args.socket = c.in_ok-names.ensures.names ∙ ap (λ w. names_of (exports_of w)) world in
    let stops : StopsExporting s (socket_exports g c.args.socket) c.in_err-export_all.field-0.0 second c.export_all.new.graph =
    subst (λ l. StopsExporting s l c.in_err-export_all.field-0.0 second c.export_all.new.graph) (ap texts_of c.as_slice-2.ensures.value ∙ names) c.in_err-export_all.ensures.stopped in
    let p = err_from_is_err_and c.from_residual-in_err-export_all.result c.from_residual-in_err-export_all.ensures.1 in
    rw (p.1, p.2) (cause_export g first second c.export_all.new.graph c.args.socket ids s c.in_ok-happened.happened made plugged c.if-not-happened.false c.in_err-export_all.field-0.0 stops)

pub returns-in_err-export_all-clause-grown : goal.returns-in_err-export_all-clause-grown
returns-in_err-export_all-clause-grown c =
    let g = c.args.graph.now in
    let first = c.instantiate.new.self in
    let second = c.plug_each.new.graph in
    let s = c.in_ok-instance.instance in
    let ids = c.args.plugs.items in
    let made = c.in_ok-instance.ensures.instantiated in
    let grown = Grown-instance g first c.args.socket s made in
    Grown-trans g second c.export_all.new.graph (Grown-trans g first second grown c.plug_each.ensures.grown) c.export_all.ensures.grown
