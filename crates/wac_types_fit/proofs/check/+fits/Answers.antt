use Rattle.std.proofs.Common.{[], Some, None, sym, subst, ap, ◌∙◌, inl, inr, arith}
use Rattle.wac_types_base.specs.declared.item.ItemKind.{ItemKind}
use Rattle.wac_types_base.specs.Fits.{Fits}
use Rattle.wac_types_fit.specs.Frames.{Disagree}
use Rattle.wac_types_fit.specs.Trees.{tree_in}
use Rattle.wac_types_fit.specs.Checking.{module_tree}
use Rattle.wac_types_fit.proofs.TreeLaws.{Fits-refl}
use Rattle.wac_types_fit.proofs.Unfolded.{module_tree as tree_of_module}
use Rattle.wac_types_fit.proofs.ItemKinds.{other_type, other_func, other_instance, other_component, other_module, other_value, other_resource_type, other_func_type, other_value_type, other_interface_type, other_world_type, other_module_type}
use Rattle.wac_types_fit.proofs.Items.{exports_inside, world_imports_inside, world_exports_inside, found_inside, instance_gives, instance_misses, component_gives, exports_miss, imports_miss, among-value_at, gives_more}
use Rattle.wac_types_fit.proofs.Numbered.{remember_true, only_trans, only_more, true_turned, apart_turned}
use Rattle.wac_types_fit.proofs.Checks.{on_ok, missing_here, differs_here, types_tested, types_fit_as, types_disagree_as, with_trees, func_type_is, func_type_stands, value_type_is, value_type_stands, interface_type_is, interface_type_stands, interface_type_size, world_type_is, world_type_stands, world_type_size, module_type_is, module_type_stands}
use Rattle.wac_types_fit.proofs.Worded.{called_as, called_turned, missing_called, item_called_in, named_called, instance_called, interface_called, component_called, world_called, module_called, module_type_called}
use Rattle.wac_types_fit.specs.Errors.{steps_of, words_of}
use Rattle.wac_types_fit.specs.Words.{in_turn, Called, ItemsCalled, NamedCalled, InstanceCalled, WorldCalled, CoreCalled}
use Rattle.wac_types_fit.proofs.check.+fits.Goals.{types_fit-in_default-via-in-Resource+in_default, types_fit-in_default-via-in-Func+in_default, types_fit-in_default-via-in-Value+in_default, types_fit-in_default-via-in-Interface+in_default, types_fit-in_default-via-in-World+in_default, types_fit-in_default-via-in-Module+in_default, unfolded-in_default-via-in-Ty+in_default, unfolded-in_default-via-in-Func+in_default, unfolded-in_default-via-in-Instance+in_default, unfolded-in_default-via-in-Component+in_default, unfolded-in_default-via-in-Module+in_default, unfolded-in_default-via-in-Value+in_default}
use Rattle.wac_types_fit.proofs.check.+fits.Goals as goal
use Rattle.std.proofs.lemmas.Result.{err_from_is_err_and}
use Rattle.wac_types_base.proofs.Looked.{among-get}

pub fits-returns-in-Ok-clause-only : goal.fits-returns-in-Ok-clause-only
fits-returns-in-Ok-clause-only t c = λ was.
    only_trans c.args.sides.given.now c.args.sides.asked.now c.args.cache.now.keys c.unfolded.new.cache.keys c.remember.new.cache.keys (c.unfolded.ensures.only was)
    (only_more c.args.sides.given.now c.args.sides.asked.now c.unfolded.new.cache.keys c.remember.new.cache.keys c.args.a c.args.b (record { given = c.requires.given; asked = c.requires.asked; fits = c.in_ok-unfolded.ensures.yes was }) c.remember.ensures.only)

pub fits-returns-in-Ok-clause-cache : goal.fits-returns-in-Ok-clause-cache
fits-returns-in-Ok-clause-cache t c = λ was.
    remember_true c.args.sides.given.now c.args.sides.asked.now c.see_acyclic.ensures c.see_acyclic-2.ensures c.requires.apart c.unfolded.new.cache.keys c.remember.new.cache.keys c.args.a c.args.b c.requires.given c.requires.asked (c.in_ok-unfolded.ensures.yes was) (c.unfolded.ensures.cache was) c.remember.ensures.only

pub fits-returns-in-Err-clause-only : goal.fits-returns-in-Err-clause-only
fits-returns-in-Err-clause-only t c = λ was.
    only_trans c.args.sides.given.now c.args.sides.asked.now c.args.cache.now.keys c.unfolded.new.cache.keys c.remember.new.cache.keys (c.unfolded.ensures.only was)
    (only_more c.args.sides.given.now c.args.sides.asked.now c.unfolded.new.cache.keys c.remember.new.cache.keys c.args.a c.args.b (record { given = c.requires.given; asked = c.requires.asked; fits = c.in_ok-unfolded.ensures.yes was }) c.remember.ensures.only)

pub fits-returns-in-Err-clause-cache : goal.fits-returns-in-Err-clause-cache
fits-returns-in-Err-clause-cache t c = λ was.
    remember_true c.args.sides.given.now c.args.sides.asked.now c.see_acyclic.ensures c.see_acyclic-2.ensures c.requires.apart c.unfolded.new.cache.keys c.remember.new.cache.keys c.args.a c.args.b c.requires.given c.requires.asked (c.in_ok-unfolded.ensures.yes was) (c.unfolded.ensures.cache was) c.remember.ensures.only

pub instances_fit-items_fit-requires : goal.instances_fit-items_fit-requires
instances_fit-items_fit-requires t c =
    let s = exports_inside c.args.sides.given.now c.interface-given.ensures.acyclic c.args.a c.interface-given.result.now c.requires.given c.interface-given.ensures.entry c.interface-given.ensures.own in
    let r = exports_inside c.args.sides.asked.now c.interface-asked.ensures.acyclic c.args.b c.interface-asked.result.now c.requires.asked c.interface-asked.ensures.entry c.interface-asked.ensures.own in
    (omega (arith, c.decreases), (s, (r, c.requires.apart)))

pub instances_fit-returns-clause-yes : goal.instances_fit-returns-clause-yes
instances_fit-returns-clause-yes t c =
    on_ok c.items_fit.result _ _ c.items_fit.ensures.yes (λ h was. instance_gives c.args.sides.given.now c.args.sides.asked.now c.interface-given.ensures.acyclic c.interface-asked.ensures.acyclic c.args.a c.args.b c.interface-given.result.now c.interface-asked.result.now c.interface-given.ensures.entry c.interface-given.ensures.own c.interface-asked.ensures.entry c.interface-asked.ensures.own (h was))

pub instances_fit-returns-clause-no : goal.instances_fit-returns-clause-no
instances_fit-returns-clause-no t c ss e =
    instance_misses c.args.sides.given.now c.args.sides.asked.now c.interface-given.ensures.acyclic c.interface-asked.ensures.acyclic c.args.a c.args.b c.interface-given.result.now c.interface-asked.result.now c.interface-given.ensures.entry c.interface-given.ensures.own c.interface-asked.ensures.entry c.interface-asked.ensures.own
    ss (c.items_fit.ensures.no ss e)

pub item_fits-fits-requires : goal.item_fits-fits-requires
item_fits-fits-requires t c =
    let s = found_inside c.args.sides.given.now c.args.given.of c.args.given.items.now c.requires.given c.args.asked.name.now c.in-Some.found.now (sym c.in-Some.ensures) in
    (omega (arith, s.1, c.decreases), (s.0, (c.requires.asked, c.requires.apart)))

pub item_fits-returns-in-None-clause-no : goal.item_fits-returns-in-None-clause-no
item_fits-returns-in-None-clause-no t c ss e =
    let w = c.within.ensures.steps ss e in
    missing_here c.args.side c.args.sides.given.now c.args.given.items.now c.args.sides.asked.now c.args.asked.name.now c.args.asked.kind (steps_of c.mismatch-fault.result) ss w.0 (sym c.in-None.ensures) c.mismatch-fault.ensures.steps w.1 w.2

pub item_fits-returns-in-Err-clause-no : goal.item_fits-returns-in-Err-clause-no
item_fits-returns-in-Err-clause-no t c ss e =
    let w = c.within-in-Err.ensures.steps ss e in
    differs_here c.args.side c.args.sides.given.now c.args.given.items.now c.args.sides.asked.now c.args.asked.name.now c.args.asked.kind c.in-Some.found.now ss w.0 (sym c.in-Some.ensures) (c.in-Err.ensures.no w.0 w.1) w.2

pub items_fit-item_fits-requires : goal.items_fit-item_fits-requires
items_fit-item_fits-requires t c =
    let n = c.entry.result.0.now in
    let k = c.entry.result.1.now in
    let s = c.requires.asked n k (among-get c.args.asked.items.now c.loop-index.index (n, k) c.entry.ensures) in
    (omega (arith, s.1, c.decreases), (c.requires.given, (s.0, c.requires.apart)))

pub items_fit-loop-index-preserved : goal.items_fit-loop-index-preserved
items_fit-loop-index-preserved t c = λ was.
    let so = c.loop-index.invariant was in (
      gives_more c.args.sides.given.now c.args.sides.asked.now c.args.given.items.now c.args.asked.items.now c.loop-index.index c.entry.result.0.now c.entry.result.1.now c.entry.ensures so.0 (c.in_ok-item_fits.ensures.yes so.2),
      only_trans c.args.sides.given.now c.args.sides.asked.now c.args.cache.now.keys c.loop-index.cache.keys c.item_fits.new.cache.keys so.1 (c.item_fits.ensures.only so.2),
      c.item_fits.ensures.cache so.2,
    )

pub items_fit-returns-in_err-item_fits-clause-no : goal.items_fit-returns-in_err-item_fits-clause-no
items_fit-returns-in_err-item_fits-clause-no t c =
    let p = err_from_is_err_and c.from_residual.result c.from_residual.ensures.1 in
    let n = c.entry.result.0.now in
    let k = c.entry.result.1.now in
    let at = among-value_at c.args.asked.items.now n k c.len-index-end.ensures.distinct (among-get c.args.asked.items.now c.loop-index.index (n, k) c.entry.ensures) in
    rw (p.1, p.2) (λ ss e. record { name = n; kind = k; asked = at; disagrees = c.in_err-item_fits.ensures.no ss e })

pub types_fit-differ-requires : goal.types_fit-differ-requires
types_fit-differ-requires t c = record {
  given = c.requires.given;
  asked = c.requires.asked;
  apart = elim c.in_default.branch [
    | types_fit-in_default-via-in-Resource+in_default w ↦ other_resource_type c.args.sides.given.now c.args.sides.asked.now c.see_acyclic.ensures c.see_acyclic-2.ensures c.args.a c.args.b c.requires.given c.requires.asked w.in_default.field-0-0 w.in_default.is-0 w.in_default.not-Resource-1
    | types_fit-in_default-via-in-Func+in_default w ↦ other_func_type c.args.sides.given.now c.args.sides.asked.now c.see_acyclic.ensures c.see_acyclic-2.ensures c.args.a c.args.b c.requires.given c.requires.asked w.in_default.field-0-0 w.in_default.is-0 w.in_default.not-Func-1
    | types_fit-in_default-via-in-Value+in_default w ↦ other_value_type c.args.sides.given.now c.args.sides.asked.now c.see_acyclic.ensures c.see_acyclic-2.ensures c.args.a c.args.b c.requires.given c.requires.asked w.in_default.field-0-0 w.in_default.is-0 w.in_default.not-Value-1
    | types_fit-in_default-via-in-Interface+in_default w ↦ other_interface_type c.args.sides.given.now c.args.sides.asked.now c.see_acyclic.ensures c.see_acyclic-2.ensures c.args.a c.args.b c.requires.given c.requires.asked w.in_default.field-0-0 w.in_default.is-0 w.in_default.not-Interface-1
    | types_fit-in_default-via-in-World+in_default w ↦ other_world_type c.args.sides.given.now c.args.sides.asked.now c.see_acyclic.ensures c.see_acyclic-2.ensures c.args.a c.args.b c.requires.given c.requires.asked w.in_default.field-0-0 w.in_default.is-0 w.in_default.not-World-1
    | types_fit-in_default-via-in-Module+in_default w ↦ other_module_type c.args.sides.given.now c.args.sides.asked.now c.see_acyclic.ensures c.see_acyclic-2.ensures c.args.a c.args.b c.requires.given c.requires.asked w.in_default.field-0-0 w.in_default.is-0 w.in_default.not-Module-1
  ];
}

pub types_fit-same_funcs-same-requires-clause-given : goal.types_fit-same_funcs-same-requires-clause-given
types_fit-same_funcs-same-requires-clause-given t c = func_type_stands c.args.sides.given.now c.args.a c.in-Func-Func.f c.in-Func-Func.is-0 c.requires.given

pub types_fit-same_funcs-same-requires-clause-asked : goal.types_fit-same_funcs-same-requires-clause-asked
types_fit-same_funcs-same-requires-clause-asked t c = func_type_stands c.args.sides.asked.now c.args.b c.in-Func-Func.g c.in-Func-Func.is-1 c.requires.asked

pub types_fit-alike-requires-in-Func-Func-clause-tested : goal.types_fit-alike-requires-in-Func-Func-clause-tested
types_fit-alike-requires-in-Func-Func-clause-tested t c =
    types_tested c.args.sides.given.now c.args.sides.asked.now (ItemKind.Ty c.args.a) (ItemKind.Ty c.args.b) (ItemKind.Func c.in-Func-Func.f) (ItemKind.Func c.in-Func-Func.g) c.same_funcs-same.result
    (func_type_is c.args.sides.given.now c.see_acyclic.ensures c.args.a c.in-Func-Func.f c.in-Func-Func.is-0 c.requires.given) (func_type_is c.args.sides.asked.now c.see_acyclic-2.ensures c.args.b c.in-Func-Func.g c.in-Func-Func.is-1 c.requires.asked) c.same_funcs-same.ensures

pub types_fit-same_values-same-requires-clause-given : goal.types_fit-same_values-same-requires-clause-given
types_fit-same_values-same-requires-clause-given t c = value_type_stands c.args.sides.given.now c.args.a c.in-Value-Value.x c.in-Value-Value.is-0 c.requires.given

pub types_fit-same_values-same-requires-clause-asked : goal.types_fit-same_values-same-requires-clause-asked
types_fit-same_values-same-requires-clause-asked t c = value_type_stands c.args.sides.asked.now c.args.b c.in-Value-Value.y c.in-Value-Value.is-1 c.requires.asked

pub types_fit-alike-requires-in-Value-Value-clause-tested : goal.types_fit-alike-requires-in-Value-Value-clause-tested
types_fit-alike-requires-in-Value-Value-clause-tested t c =
    types_tested c.args.sides.given.now c.args.sides.asked.now (ItemKind.Ty c.args.a) (ItemKind.Ty c.args.b) (ItemKind.Value c.in-Value-Value.x) (ItemKind.Value c.in-Value-Value.y) c.same_values-same.result
    (value_type_is c.args.sides.given.now c.see_acyclic.ensures c.args.a c.in-Value-Value.x c.in-Value-Value.is-0 c.requires.given) (value_type_is c.args.sides.asked.now c.see_acyclic-2.ensures c.args.b c.in-Value-Value.y c.in-Value-Value.is-1 c.requires.asked) c.same_values-same.ensures

pub types_fit-instances_fit-requires : goal.types_fit-instances_fit-requires
types_fit-instances_fit-requires t c =
    let s = interface_type_size c.args.sides.given.now c.see_acyclic.ensures c.args.a c.in-Interface-Interface.i c.in-Interface-Interface.is-0 c.requires.given in
    let r = interface_type_size c.args.sides.asked.now c.see_acyclic-2.ensures c.args.b c.in-Interface-Interface.j c.in-Interface-Interface.is-1 c.requires.asked in
    (omega (arith, s, r, c.decreases), (interface_type_stands c.args.sides.given.now c.args.a c.in-Interface-Interface.i c.in-Interface-Interface.is-0 c.requires.given, (interface_type_stands c.args.sides.asked.now c.args.b c.in-Interface-Interface.j c.in-Interface-Interface.is-1 c.requires.asked, c.requires.apart)))

pub types_fit-returns-in-Interface-Interface-clause-yes : goal.types_fit-returns-in-Interface-Interface-clause-yes
types_fit-returns-in-Interface-Interface-clause-yes t c = on_ok c.instances_fit.result _ _ c.instances_fit.ensures.yes (λ h was. types_fit_as c.args.sides.given.now c.args.sides.asked.now (ItemKind.Ty c.args.a) (ItemKind.Ty c.args.b) (ItemKind.Instance c.in-Interface-Interface.i) (ItemKind.Instance c.in-Interface-Interface.j) (interface_type_is c.args.sides.given.now c.see_acyclic.ensures c.args.a c.in-Interface-Interface.i c.in-Interface-Interface.is-0 c.requires.given) (interface_type_is c.args.sides.asked.now c.see_acyclic-2.ensures c.args.b c.in-Interface-Interface.j c.in-Interface-Interface.is-1 c.requires.asked) (h was))

pub types_fit-returns-in-Interface-Interface-clause-no : goal.types_fit-returns-in-Interface-Interface-clause-no
types_fit-returns-in-Interface-Interface-clause-no t c ss e = types_disagree_as c.args.sides.given.now c.args.sides.asked.now (ItemKind.Ty c.args.a) (ItemKind.Ty c.args.b) (ItemKind.Instance c.in-Interface-Interface.i) (ItemKind.Instance c.in-Interface-Interface.j) (interface_type_is c.args.sides.given.now c.see_acyclic.ensures c.args.a c.in-Interface-Interface.i c.in-Interface-Interface.is-0 c.requires.given) (interface_type_is c.args.sides.asked.now c.see_acyclic-2.ensures c.args.b c.in-Interface-Interface.j c.in-Interface-Interface.is-1 c.requires.asked) ss (c.instances_fit.ensures.no ss e)

pub types_fit-worlds_fit-requires : goal.types_fit-worlds_fit-requires
types_fit-worlds_fit-requires t c =
    let s = world_type_size c.args.sides.given.now c.see_acyclic.ensures c.args.a c.in-World-World.i c.in-World-World.is-0 c.requires.given in
    let r = world_type_size c.args.sides.asked.now c.see_acyclic-2.ensures c.args.b c.in-World-World.j c.in-World-World.is-1 c.requires.asked in
    (omega (arith, s, r, c.decreases), (world_type_stands c.args.sides.given.now c.args.a c.in-World-World.i c.in-World-World.is-0 c.requires.given, (world_type_stands c.args.sides.asked.now c.args.b c.in-World-World.j c.in-World-World.is-1 c.requires.asked, c.requires.apart)))

pub types_fit-returns-in-World-World-clause-yes : goal.types_fit-returns-in-World-World-clause-yes
types_fit-returns-in-World-World-clause-yes t c = on_ok c.worlds_fit.result _ _ c.worlds_fit.ensures.yes (λ h was. types_fit_as c.args.sides.given.now c.args.sides.asked.now (ItemKind.Ty c.args.a) (ItemKind.Ty c.args.b) (ItemKind.Component c.in-World-World.i) (ItemKind.Component c.in-World-World.j) (world_type_is c.args.sides.given.now c.see_acyclic.ensures c.args.a c.in-World-World.i c.in-World-World.is-0 c.requires.given) (world_type_is c.args.sides.asked.now c.see_acyclic-2.ensures c.args.b c.in-World-World.j c.in-World-World.is-1 c.requires.asked) (h was))

pub types_fit-returns-in-World-World-clause-no : goal.types_fit-returns-in-World-World-clause-no
types_fit-returns-in-World-World-clause-no t c ss e = types_disagree_as c.args.sides.given.now c.args.sides.asked.now (ItemKind.Ty c.args.a) (ItemKind.Ty c.args.b) (ItemKind.Component c.in-World-World.i) (ItemKind.Component c.in-World-World.j) (world_type_is c.args.sides.given.now c.see_acyclic.ensures c.args.a c.in-World-World.i c.in-World-World.is-0 c.requires.given) (world_type_is c.args.sides.asked.now c.see_acyclic-2.ensures c.args.b c.in-World-World.j c.in-World-World.is-1 c.requires.asked) ss (c.worlds_fit.ensures.no ss e)

pub types_fit-module_type-given-requires : goal.types_fit-module_type-given-requires
types_fit-module_type-given-requires t c = module_type_stands c.args.sides.given.now c.args.a c.in-Module-Module.i c.in-Module-Module.is-0 c.requires.given

pub types_fit-module_type-asked-requires : goal.types_fit-module_type-asked-requires
types_fit-module_type-asked-requires t c = module_type_stands c.args.sides.asked.now c.args.b c.in-Module-Module.j c.in-Module-Module.is-1 c.requires.asked

pub types_fit-returns-in-Module-Module-clause-yes : goal.types_fit-returns-in-Module-Module-clause-yes
types_fit-returns-in-Module-Module-clause-yes t c =
    on_ok c.modules_fit.result _ _ c.modules_fit.ensures.yes (λ f was. types_fit_as c.args.sides.given.now c.args.sides.asked.now (ItemKind.Ty c.args.a) (ItemKind.Ty c.args.b) (ItemKind.Module c.in-Module-Module.i) (ItemKind.Module c.in-Module-Module.j) (module_type_is c.args.sides.given.now c.see_acyclic.ensures c.args.a c.in-Module-Module.i c.in-Module-Module.is-0 c.requires.given) (module_type_is c.args.sides.asked.now c.see_acyclic-2.ensures c.args.b c.in-Module-Module.j c.in-Module-Module.is-1 c.requires.asked)
    (with_trees Fits (tree_in c.args.sides.given.now (ItemKind.Module c.in-Module-Module.i)) (module_tree c.module_type-given.result.now) (tree_in c.args.sides.asked.now (ItemKind.Module c.in-Module-Module.j)) (module_tree c.module_type-asked.result.now) (tree_of_module c.args.sides.given.now c.see_acyclic.ensures c.in-Module-Module.i c.module_type-given.result.now c.module_type-given.ensures.entry c.module_type-given.ensures.own) (tree_of_module c.args.sides.asked.now c.see_acyclic-2.ensures c.in-Module-Module.j c.module_type-asked.result.now c.module_type-asked.ensures.entry c.module_type-asked.ensures.own) f))

pub types_fit-returns-in-Module-Module-clause-no : goal.types_fit-returns-in-Module-Module-clause-no
types_fit-returns-in-Module-Module-clause-no t c ss e =
    types_disagree_as c.args.sides.given.now c.args.sides.asked.now (ItemKind.Ty c.args.a) (ItemKind.Ty c.args.b) (ItemKind.Module c.in-Module-Module.i) (ItemKind.Module c.in-Module-Module.j) (module_type_is c.args.sides.given.now c.see_acyclic.ensures c.args.a c.in-Module-Module.i c.in-Module-Module.is-0 c.requires.given) (module_type_is c.args.sides.asked.now c.see_acyclic-2.ensures c.args.b c.in-Module-Module.j c.in-Module-Module.is-1 c.requires.asked) ss
    (with_trees (Disagree ss) (tree_in c.args.sides.given.now (ItemKind.Module c.in-Module-Module.i)) (module_tree c.module_type-given.result.now) (tree_in c.args.sides.asked.now (ItemKind.Module c.in-Module-Module.j)) (module_tree c.module_type-asked.result.now) (tree_of_module c.args.sides.given.now c.see_acyclic.ensures c.in-Module-Module.i c.module_type-given.result.now c.module_type-given.ensures.entry c.module_type-given.ensures.own) (tree_of_module c.args.sides.asked.now c.see_acyclic-2.ensures c.in-Module-Module.j c.module_type-asked.result.now c.module_type-asked.ensures.entry c.module_type-asked.ensures.own) (c.modules_fit.ensures.no ss e))

pub unfolded-differ-requires : goal.unfolded-differ-requires
unfolded-differ-requires t c = record {
  given = c.requires.given;
  asked = c.requires.asked;
  apart = elim c.in_default.branch [
    | unfolded-in_default-via-in-Ty+in_default w ↦ other_type c.args.sides.given.now c.args.sides.asked.now c.see_acyclic.ensures c.see_acyclic-2.ensures c.args.a c.args.b c.requires.given c.requires.asked w.in_default.field-0-0 w.in_default.is-0 w.in_default.not-Ty-1
    | unfolded-in_default-via-in-Func+in_default w ↦ other_func c.args.sides.given.now c.args.sides.asked.now c.see_acyclic.ensures c.see_acyclic-2.ensures c.args.a c.args.b c.requires.given c.requires.asked w.in_default.field-0-0 w.in_default.is-0 w.in_default.not-Func-1
    | unfolded-in_default-via-in-Instance+in_default w ↦ other_instance c.args.sides.given.now c.args.sides.asked.now c.see_acyclic.ensures c.see_acyclic-2.ensures c.args.a c.args.b c.requires.given c.requires.asked w.in_default.field-0-0 w.in_default.is-0 w.in_default.not-Instance-1
    | unfolded-in_default-via-in-Component+in_default w ↦ other_component c.args.sides.given.now c.args.sides.asked.now c.see_acyclic.ensures c.see_acyclic-2.ensures c.args.a c.args.b c.requires.given c.requires.asked w.in_default.field-0-0 w.in_default.is-0 w.in_default.not-Component-1
    | unfolded-in_default-via-in-Module+in_default w ↦ other_module c.args.sides.given.now c.args.sides.asked.now c.see_acyclic.ensures c.see_acyclic-2.ensures c.args.a c.args.b c.requires.given c.requires.asked w.in_default.field-0-0 w.in_default.is-0 w.in_default.not-Module-1
    | unfolded-in_default-via-in-Value+in_default w ↦ other_value c.args.sides.given.now c.args.sides.asked.now c.see_acyclic.ensures c.see_acyclic-2.ensures c.args.a c.args.b c.requires.given c.requires.asked w.in_default.field-0-0 w.in_default.is-0 w.in_default.not-Value-1
  ];
}

pub unfolded-returns-then-is_one-clause-yes : goal.unfolded-returns-then-is_one-clause-yes
unfolded-returns-then-is_one-clause-yes t c = λ was.
    let same = c.is_one.ensures c.if-is_one.true in
    subst (Fits (tree_in c.args.sides.given.now c.args.a)) same (Fits-refl (tree_in c.args.sides.given.now c.args.a))

pub unfolded-returns-in-Module-Module-clause-yes : goal.unfolded-returns-in-Module-Module-clause-yes
unfolded-returns-in-Module-Module-clause-yes t c =
    on_ok c.modules_fit.result _ _ c.modules_fit.ensures.yes (λ f was. with_trees Fits (tree_in c.args.sides.given.now c.args.a) (module_tree c.module_type-given.result.now) (tree_in c.args.sides.asked.now c.args.b) (module_tree c.module_type-asked.result.now) (ap (tree_in c.args.sides.given.now) c.in-Module-Module.is-0 ∙ tree_of_module c.args.sides.given.now c.see_acyclic.ensures c.in-Module-Module.i c.module_type-given.result.now c.module_type-given.ensures.entry c.module_type-given.ensures.own) (ap (tree_in c.args.sides.asked.now) c.in-Module-Module.is-1 ∙ tree_of_module c.args.sides.asked.now c.see_acyclic-2.ensures c.in-Module-Module.j c.module_type-asked.result.now c.module_type-asked.ensures.entry c.module_type-asked.ensures.own) f)

pub unfolded-returns-in-Module-Module-clause-no : goal.unfolded-returns-in-Module-Module-clause-no
unfolded-returns-in-Module-Module-clause-no t c ss e =
    with_trees (Disagree ss) (tree_in c.args.sides.given.now c.args.a) (module_tree c.module_type-given.result.now) (tree_in c.args.sides.asked.now c.args.b) (module_tree c.module_type-asked.result.now) (ap (tree_in c.args.sides.given.now) c.in-Module-Module.is-0 ∙ tree_of_module c.args.sides.given.now c.see_acyclic.ensures c.in-Module-Module.i c.module_type-given.result.now c.module_type-given.ensures.entry c.module_type-given.ensures.own) (ap (tree_in c.args.sides.asked.now) c.in-Module-Module.is-1 ∙ tree_of_module c.args.sides.asked.now c.see_acyclic-2.ensures c.in-Module-Module.j c.module_type-asked.result.now c.module_type-asked.ensures.entry c.module_type-asked.ensures.own) (c.modules_fit.ensures.no ss e)

pub worlds_fit-items_fit-requires : goal.worlds_fit-items_fit-requires
worlds_fit-items_fit-requires t c =
    let s = world_imports_inside c.args.sides.given.now c.world-given.ensures.acyclic c.args.a c.world-given.result.now c.requires.given c.world-given.ensures.entry c.world-given.ensures.own in
    let r = world_imports_inside c.args.sides.asked.now c.world-asked.ensures.acyclic c.args.b c.world-asked.result.now c.requires.asked c.world-asked.ensures.entry c.world-asked.ensures.own in
    (omega (arith, c.decreases), (r, (s, apart_turned c.args.sides.given.now c.args.sides.asked.now c.requires.apart)))

pub worlds_fit-returns-in_err-items_fit-clause-no : goal.worlds_fit-returns-in_err-items_fit-clause-no
worlds_fit-returns-in_err-items_fit-clause-no t c =
    let p = err_from_is_err_and c.from_residual.result c.from_residual.ensures.1 in
    rw (p.1, p.2) (λ ss e. imports_miss c.args.sides.given.now c.args.sides.asked.now c.world-given.ensures.acyclic c.world-asked.ensures.acyclic c.args.a c.args.b c.world-given.result.now c.world-asked.result.now c.world-given.ensures.entry c.world-given.ensures.own c.world-asked.ensures.entry c.world-asked.ensures.own ss (c.in_err-items_fit.ensures.no ss e))

pub worlds_fit-items_fit-requires-2 : goal.worlds_fit-items_fit-requires-2
worlds_fit-items_fit-requires-2 t c =
    let s = world_exports_inside c.args.sides.given.now c.world-given.ensures.acyclic c.args.a c.world-given.result.now c.requires.given c.world-given.ensures.entry c.world-given.ensures.own in
    let r = world_exports_inside c.args.sides.asked.now c.world-asked.ensures.acyclic c.args.b c.world-asked.result.now c.requires.asked c.world-asked.ensures.entry c.world-asked.ensures.own in
    (omega (arith, c.decreases), (s, (r, c.requires.apart)))

pub worlds_fit-returns-clause-yes : goal.worlds_fit-returns-clause-yes
worlds_fit-returns-clause-yes t c = on_ok c.items_fit-2.result _ _ c.items_fit-2.ensures.yes (λ h was. component_gives c.args.sides.given.now c.args.sides.asked.now c.world-given.ensures.acyclic c.world-asked.ensures.acyclic c.args.a c.args.b c.world-given.result.now c.world-asked.result.now c.world-given.ensures.entry c.world-given.ensures.own c.world-asked.ensures.entry c.world-asked.ensures.own (c.in_ok-items_fit.ensures.yes (true_turned c.args.sides.given.now c.args.sides.asked.now c.args.cache.now.keys was)) (h (true_turned c.args.sides.asked.now c.args.sides.given.now c.items_fit.new.cache.keys (c.items_fit.ensures.cache (true_turned c.args.sides.given.now c.args.sides.asked.now c.args.cache.now.keys was)))))

pub worlds_fit-returns-clause-no : goal.worlds_fit-returns-clause-no
worlds_fit-returns-clause-no t c ss e = exports_miss c.args.sides.given.now c.args.sides.asked.now c.world-given.ensures.acyclic c.world-asked.ensures.acyclic c.args.a c.args.b c.world-given.result.now c.world-asked.result.now c.world-given.ensures.entry c.world-given.ensures.own c.world-asked.ensures.entry c.world-asked.ensures.own ss (c.items_fit-2.ensures.no ss e)

-- ---- how the two items are called

pub item_fits-returns-in-None-clause-words : goal.item_fits-returns-in-None-clause-words
item_fits-returns-in-None-clause-words t c ss e f said =
    let w = c.within.ensures.words ss e f said in
    missing_called c.args.sides.turned c.args.side c.args.sides.given.now c.args.given.items.now c.args.sides.asked.now c.args.asked.name.now c.args.asked.kind (words_of c.mismatch-fault.result) ss w.0 e f (sym c.in-None.ensures)
    (c.mismatch-fault.ensures.words ∙ ap (λ d. Some ([], in_turn c.args.sides.turned (Some d) None)) c.desc.ensures) w.1 w.2

pub item_fits-returns-in-Err-clause-words : goal.item_fits-returns-in-Err-clause-words
item_fits-returns-in-Err-clause-words t c ss e f said =
    let w = c.within-in-Err.ensures.words ss e f said in
    item_called_in c.args.sides.turned c.args.side c.args.sides.given.now c.args.given.items.now c.args.sides.asked.now c.args.asked.name.now c.args.asked.kind c.in-Some.found.now ss w.0 e f (sym c.in-Some.ensures) (c.in-Err.ensures.words w.0 e f w.1) w.2

pub instances_fit-returns-clause-words : goal.instances_fit-returns-clause-words
instances_fit-returns-clause-words t c ss e f said =
    called_as c.args.sides.turned _ (InstanceCalled c.args.sides.given.now c.args.a ss) _ (InstanceCalled c.args.sides.asked.now c.args.b ss) e f
    (λ w x. (c.interface-given.result.now, c.interface-given.ensures.entry, x)) (λ w x. (c.interface-asked.result.now, c.interface-asked.ensures.entry, x)) (c.items_fit.ensures.words ss e f said)

pub items_fit-returns-in_err-item_fits-clause-words : goal.items_fit-returns-in_err-item_fits-clause-words
items_fit-returns-in_err-item_fits-clause-words t c =
    let p = err_from_is_err_and c.from_residual.result c.from_residual.ensures.1 in
    let n = c.entry.result.0.now in
    let k = c.entry.result.1.now in
    let at = among-value_at c.args.asked.items.now n k c.len-index-end.ensures.distinct (among-get c.args.asked.items.now c.loop-index.index (n, k) c.entry.ensures) in
    rw (p.1, p.2) (λ ss e f said. called_as c.args.sides.turned (ItemsCalled c.args.sides.given.now c.args.side c.args.given.items.now ss) (ItemsCalled c.args.sides.given.now c.args.side c.args.given.items.now ss) (NamedCalled c.args.sides.asked.now c.args.side n k ss) (ItemsCalled c.args.sides.asked.now c.args.side c.args.asked.items.now ss) e f
    (λ w x. x) (λ w x. named_called c.args.sides.asked.now c.args.side c.args.asked.items.now n k ss w at x) (c.in_err-item_fits.ensures.words ss e f said))

pub worlds_fit-returns-in_err-items_fit-clause-words : goal.worlds_fit-returns-in_err-items_fit-clause-words
worlds_fit-returns-in_err-items_fit-clause-words t c =
    let p = err_from_is_err_and c.from_residual.result c.from_residual.ensures.1 in
    rw (p.1, p.2) (λ ss e f said. called_as c.args.sides.turned _ (WorldCalled c.args.sides.given.now c.args.a ss) _ (WorldCalled c.args.sides.asked.now c.args.b ss) e f
    (λ w x. (c.world-given.result.now, c.world-given.ensures.entry, inl x)) (λ w x. (c.world-asked.result.now, c.world-asked.ensures.entry, inl x))
    (called_turned c.args.sides.turned _ _ e f (c.in_err-items_fit.ensures.words ss e f said)))

pub worlds_fit-returns-clause-words : goal.worlds_fit-returns-clause-words
worlds_fit-returns-clause-words t c ss e f said =
    called_as c.args.sides.turned _ (WorldCalled c.args.sides.given.now c.args.a ss) _ (WorldCalled c.args.sides.asked.now c.args.b ss) e f
    (λ w x. (c.world-given.result.now, c.world-given.ensures.entry, inr x)) (λ w x. (c.world-asked.result.now, c.world-asked.ensures.entry, inr x)) (c.items_fit-2.ensures.words ss e f said)

pub types_fit-returns-in-Interface-Interface-clause-words : goal.types_fit-returns-in-Interface-Interface-clause-words
types_fit-returns-in-Interface-Interface-clause-words t c ss e f said =
    called_as c.args.sides.turned (InstanceCalled c.args.sides.given.now c.in-Interface-Interface.i ss) (Called c.args.sides.given.now (ItemKind.Ty c.args.a) ss) (InstanceCalled c.args.sides.asked.now c.in-Interface-Interface.j ss) (Called c.args.sides.asked.now (ItemKind.Ty c.args.b) ss) e f
    (λ w x. interface_called c.args.sides.given.now ss w c.args.a c.in-Interface-Interface.i c.in-Interface-Interface.is-0 x) (λ w x. interface_called c.args.sides.asked.now ss w c.args.b c.in-Interface-Interface.j c.in-Interface-Interface.is-1 x) (c.instances_fit.ensures.words ss e f said)

pub types_fit-returns-in-World-World-clause-words : goal.types_fit-returns-in-World-World-clause-words
types_fit-returns-in-World-World-clause-words t c ss e f said =
    called_as c.args.sides.turned (WorldCalled c.args.sides.given.now c.in-World-World.i ss) (Called c.args.sides.given.now (ItemKind.Ty c.args.a) ss) (WorldCalled c.args.sides.asked.now c.in-World-World.j ss) (Called c.args.sides.asked.now (ItemKind.Ty c.args.b) ss) e f
    (λ w x. world_called c.args.sides.given.now ss w c.args.a c.in-World-World.i c.in-World-World.is-0 x) (λ w x. world_called c.args.sides.asked.now ss w c.args.b c.in-World-World.j c.in-World-World.is-1 x) (c.worlds_fit.ensures.words ss e f said)

pub types_fit-returns-in-Module-Module-clause-words : goal.types_fit-returns-in-Module-Module-clause-words
types_fit-returns-in-Module-Module-clause-words t c ss e f said =
    called_as c.args.sides.turned (CoreCalled c.module_type-given.result.now ss) (Called c.args.sides.given.now (ItemKind.Ty c.args.a) ss) (CoreCalled c.module_type-asked.result.now ss) (Called c.args.sides.asked.now (ItemKind.Ty c.args.b) ss) e f
    (λ w x. module_type_called c.args.sides.given.now ss w c.args.a c.in-Module-Module.i c.module_type-given.result.now c.in-Module-Module.is-0 c.module_type-given.ensures.entry x)
    (λ w x. module_type_called c.args.sides.asked.now ss w c.args.b c.in-Module-Module.j c.module_type-asked.result.now c.in-Module-Module.is-1 c.module_type-asked.ensures.entry x) (c.modules_fit.ensures.words ss e f said)

pub unfolded-returns-in-Instance-Instance-clause-words : goal.unfolded-returns-in-Instance-Instance-clause-words
unfolded-returns-in-Instance-Instance-clause-words t c ss e f said =
    called_as c.args.sides.turned (InstanceCalled c.args.sides.given.now c.in-Instance-Instance.i ss) (Called c.args.sides.given.now c.args.a ss) (InstanceCalled c.args.sides.asked.now c.in-Instance-Instance.j ss) (Called c.args.sides.asked.now c.args.b ss) e f
    (λ w x. instance_called c.args.sides.given.now ss w c.args.a c.in-Instance-Instance.i c.in-Instance-Instance.is-0 x) (λ w x. instance_called c.args.sides.asked.now ss w c.args.b c.in-Instance-Instance.j c.in-Instance-Instance.is-1 x) (c.instances_fit.ensures.words ss e f said)

pub unfolded-returns-in-Component-Component-clause-words : goal.unfolded-returns-in-Component-Component-clause-words
unfolded-returns-in-Component-Component-clause-words t c ss e f said =
    called_as c.args.sides.turned (WorldCalled c.args.sides.given.now c.in-Component-Component.i ss) (Called c.args.sides.given.now c.args.a ss) (WorldCalled c.args.sides.asked.now c.in-Component-Component.j ss) (Called c.args.sides.asked.now c.args.b ss) e f
    (λ w x. component_called c.args.sides.given.now ss w c.args.a c.in-Component-Component.i c.in-Component-Component.is-0 x) (λ w x. component_called c.args.sides.asked.now ss w c.args.b c.in-Component-Component.j c.in-Component-Component.is-1 x) (c.worlds_fit.ensures.words ss e f said)

pub unfolded-returns-in-Module-Module-clause-words : goal.unfolded-returns-in-Module-Module-clause-words
unfolded-returns-in-Module-Module-clause-words t c ss e f said =
    called_as c.args.sides.turned (CoreCalled c.module_type-given.result.now ss) (Called c.args.sides.given.now c.args.a ss) (CoreCalled c.module_type-asked.result.now ss) (Called c.args.sides.asked.now c.args.b ss) e f
    (λ w x. module_called c.args.sides.given.now ss w c.args.a c.in-Module-Module.i c.module_type-given.result.now c.in-Module-Module.is-0 c.module_type-given.ensures.entry x)
    (λ w x. module_called c.args.sides.asked.now ss w c.args.b c.in-Module-Module.j c.module_type-asked.result.now c.in-Module-Module.is-1 c.module_type-asked.ensures.entry x) (c.modules_fit.ensures.words ss e f said)
