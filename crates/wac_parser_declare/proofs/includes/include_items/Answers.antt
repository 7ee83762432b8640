use Rattle.std.specs.Prelude.{⊤}
use Rattle.std.proofs.Common.{refl}
use Rattle.wac_types_base.specs.declared.item.ItemKind.{ItemKind}
use Rattle.wac_types_base.specs.Stated.{stated_of}
use Rattle.wac_parser_tree.specs.Views.{view_world_ref}
use Rattle.wac_parser_refusals.proofs.Outcomes.{refused_outcome}
use Rattle.wac_parser_declare.specs.Bodies as stated
use Rattle.wac_parser_declare.specs.Held.{stated_body}
use Rattle.wac_parser_declare.specs.InBodies.{IsBody}
use Rattle.wac_parser_declare.specs.InIncludes.{renamings}
use Rattle.wac_parser_declare.specs.Scope.{world_path}
use Rattle.wac_parser_declare.specs.Worlds.{include_items}
use Rattle.wac_parser_declare.proofs.Exports.{component_exports, component_imports}
use Rattle.wac_parser_declare.proofs.InIncludes.{all_said, exports_refused, imports_refused}
use Rattle.wac_parser_declare.proofs.Standing.{ok_of, world_exports, world_imports}
use Rattle.wac_parser_declare.proofs.includes.include_items.Goals as goal

pub returns-in_err-include_imports-clause-outcome : goal.returns-in_err-include_imports-clause-outcome
returns-in_err-include_imports-clause-outcome c =
    let d = c.args.types.now in
    let w = c.args.world in
    let e = c.world-world.ensures in
    let p = world_path (view_world_ref c.args.include.now.world) in
    let ws = renamings c.args.include.now.with.items in
    let b = stated_body d c.args.body.now in
    let x = stated_of d (ItemKind.Component w) in
    refused_outcome (λ (y : stated.Body) (u : ⊤). IsBody d y (record { names = c.args.body.now.names; uses = c.args.body.now.uses; items = c.include_imports.new.stand; exports = c.args.body.now.exports }))
    (include_items c.args.to.now b p ws x) _ _ c.from_residual.ensures.1
    (imports_refused d c.args.to.now b p ws x c.world-world.result.now (component_imports d e.acyclic w c.world-world.result.now e.entry e.own) c.in_err-include_imports.field-0.0 (c.in_err-include_imports.ensures.outcome d))

pub returns-in_err-include_exports-clause-outcome : goal.returns-in_err-include_exports-clause-outcome
returns-in_err-include_exports-clause-outcome c =
    let d = c.args.types.now in
    let w = c.args.world in
    let e = c.world-world.ensures in
    let v = c.world-world.result.now in
    let p = world_path (view_world_ref c.args.include.now.world) in
    let ws = renamings c.args.include.now.with.items in
    let b = stated_body d c.args.body.now in
    let x = stated_of d (ItemKind.Component w) in
    let imports = component_imports d e.acyclic w v e.entry e.own in
    refused_outcome (λ (y : stated.Body) (u : ⊤). IsBody d y (record { names = c.args.body.now.names; uses = c.args.body.now.uses; items = c.include_imports.new.stand; exports = c.include_exports.new.stand }))
    (include_items c.args.to.now b p ws x) _ _ c.from_residual-in_err-include_exports.ensures.1
    (exports_refused d c.args.to.now b p ws x v imports (component_exports d e.acyclic w v e.entry e.own) c.include_imports.new.stand (c.in_ok-include_imports.ensures.outcome d) c.in_err-include_exports.field-0.0
    (c.in_err-include_exports.ensures.outcome d x imports))

pub returns-clause-outcome : goal.returns-clause-outcome
returns-clause-outcome c =
    let d = c.args.types.now in
    let w = c.args.world in
    let e = c.world-world.ensures in
    let v = c.world-world.result.now in
    let p = world_path (view_world_ref c.args.include.now.world) in
    let ws = renamings c.args.include.now.with.items in
    let b = stated_body d c.args.body.now in
    let x = stated_of d (ItemKind.Component w) in
    let imports = component_imports d e.acyclic w v e.entry e.own in
    let exports = component_exports d e.acyclic w v e.entry e.own in
    let k : stated.Body → ⊤ → Type 0 = λ y u. IsBody d y (record { names = c.args.body.now.names; uses = c.args.body.now.uses; items = c.include_imports.new.stand; exports = c.include_exports.new.stand }) in
    all_said d c.args.to.now b p ws x v imports exports c.include_imports.new.stand (c.in_ok-include_imports.ensures.outcome d) c.include_exports.new.stand (c.in_ok-include_exports.ensures.outcome d x imports) k c.check_met.result
    (c.check_met.ensures d x imports exports) refl

pub returns-clause-body : goal.returns-clause-body
returns-clause-body c =
    let e = c.world-world.ensures in
    ok_of c.check_met.result (record {
      names = c.requires.body.names;
      uses = c.requires.body.uses;
      items = c.in_ok-include_imports.ensures.stand c.args.types.now c.requires.body.items (world_imports c.args.types.now e.acyclic c.args.world c.world-world.result.now e.entry e.own);
      exports = c.in_ok-include_exports.ensures.stand c.args.types.now c.requires.body.exports (world_exports c.args.types.now e.acyclic c.args.world c.world-world.result.now e.entry e.own);
    })
