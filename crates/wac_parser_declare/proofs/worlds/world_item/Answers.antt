use Rattle.std.specs.Prelude.{⊤}
use Rattle.std.proofs.Common.{subst, sym}
use Rattle.wac_types_base.specs.declared.item.ItemKind.{ItemKind}
use Rattle.wac_types_base.specs.declared.item.«Type».{«Type» as TypeKind}
use Rattle.wac_types_base.specs.Record.{Collection}
use Rattle.wac_types_base.specs.Stated.{Stated, stated_of}
use Rattle.wac_parser_tree.specs.declared.world.WorldItemPath.{WorldItemPath}
use Rattle.wac_parser_tree.specs.Views.{view_ident, view_package_path, view_world_item_path}
use Rattle.wac_parser_refusals.specs.Causes.{Answer}
use Rattle.wac_parser_refusals.specs.Outcomes.{IsOutcome, IsRefusal}
use Rattle.wac_parser_refusals.proofs.Outcomes.{refused_outcome, then_refused}
use Rattle.wac_parser_declare.specs.Bodies as stated
use Rattle.wac_parser_declare.specs.Bodies.{Items, interface_at}
use Rattle.wac_parser_declare.specs.Held.{stated_body}
use Rattle.wac_parser_declare.specs.InBodies.{IsBody}
use Rattle.wac_parser_declare.specs.InWorlds.{AddsInterface, item_at, items_on, on_side}
use Rattle.wac_parser_declare.specs.Scope.{at_root, in_package}
use Rattle.wac_parser_declare.specs.Worlds.{interface_added}
use Rattle.wac_parser_declare.proofs.InBodies.{body-kept}
use Rattle.wac_parser_declare.proofs.InWorlds.{path_outcome, side_refused}
use Rattle.wac_parser_declare.proofs.worlds.world_item.Goals as goal

pub returns-in_err-interface-in-Package-clause-outcome : goal.returns-in_err-interface-in-Package-clause-outcome
returns-in_err-interface-in-Package-clause-outcome g c x s =
    let old = g.T.GrowingTypes.collection c.args.types.now in
    let b = stated_body old c.args.body.now in
    let o = c.args.owner in
    let p = c.in-Package.path in
    let e = c.in_err-interface-in-Package.field-0.0 in
    let add : Stated → Answer Items = interface_added o.world.now o.kind (items_on o.kind b) p.span in
    refused_outcome _ _ _ _ c.from_residual.ensures.1
    (subst (λ (y : WorldItemPath). IsRefusal (item_at x o.world.now o.kind b (view_world_item_path y)) e) (sym c.in-Package.is)
    (side_refused o.kind b _ e (then_refused add (interface_at x (in_package (view_package_path p))) e (c.in_err-interface-in-Package.ensures.outcome x s))))

pub returns-in-Named-clause-outcome : goal.returns-in-Named-clause-outcome
returns-in-Named-clause-outcome g c x s =
    let old = g.T.GrowingTypes.collection c.args.types.now in
    let new = g.T.GrowingTypes.collection c.named_item.new.types in
    let b = stated_body old c.args.body.now in
    let o = c.args.owner in
    let k : stated.Body → ⊤ → Type 0 = λ y u. IsBody new y c.named_item.new.body in
    subst (λ (y : WorldItemPath). IsOutcome k (item_at x o.world.now o.kind b (view_world_item_path y)) c.named_item.result) (sym c.in-Named.is) (c.named_item.ensures.outcome x s)

pub returns-in_ok-interface-in-Package-clause-outcome : goal.returns-in_ok-interface-in-Package-clause-outcome
returns-in_ok-interface-in-Package-clause-outcome g c x s =
    let old = g.T.GrowingTypes.collection c.args.types.now in
    let new = g.T.GrowingTypes.collection c.package_interface.new.types in
    let b = stated_body old c.args.body.now in
    let o = c.args.owner in
    let p = c.in-Package.path in
    let i = c.in_ok-interface-in-Package.interface in
    let after = c.add_interface.new.body in
    let r = c.add_interface.result in
    let k : stated.Body → ⊤ → Type 0 = λ y u. IsBody new y after in
    let added : AddsInterface o new i p.span c.args.body.now after r = subst (λ (d : Collection). AddsInterface o d i p.span c.args.body.now after r) c.types.ensures c.add_interface.ensures.outcome in
    subst (λ (y : WorldItemPath). IsOutcome k (item_at x o.world.now o.kind b (view_world_item_path y)) r) (sym c.in-Package.is)
    (path_outcome k o.kind b new r (interface_added o.world.now o.kind (items_on o.kind b) p.span) (interface_at x (in_package (view_package_path p))) i (c.in_ok-interface-in-Package.ensures.outcome x s)
    (subst (λ (y : stated.Body). IsOutcome k (on_side o.kind y (interface_added o.world.now o.kind (items_on o.kind y) p.span (stated_of new (ItemKind.Ty (TypeKind.Interface i))))) r)
    (body-kept old new c.in_ok-interface-in-Package.ensures.grows c.args.body.now c.requires.body) added))

pub returns-in_ok-interface-in-Ident-clause-outcome : goal.returns-in_ok-interface-in-Ident-clause-outcome
returns-in_ok-interface-in-Ident-clause-outcome g c x s =
    let old = g.T.GrowingTypes.collection c.args.types.now in
    let new = g.T.GrowingTypes.collection c.root_interface.new.types in
    let b = stated_body old c.args.body.now in
    let o = c.args.owner in
    let p = c.in-Ident.id in
    let i = c.in_ok-interface-in-Ident.interface in
    let after = c.add_interface-in-Ident.new.body in
    let r = c.add_interface-in-Ident.result in
    let k : stated.Body → ⊤ → Type 0 = λ y u. IsBody new y after in
    let added : AddsInterface o new i p.span c.args.body.now after r =
    subst (λ (d : Collection). AddsInterface o d i p.span c.args.body.now after r) c.types-in-Ident.ensures c.add_interface-in-Ident.ensures.outcome in
    subst (λ (y : WorldItemPath). IsOutcome k (item_at x o.world.now o.kind b (view_world_item_path y)) r) (sym c.in-Ident.is)
    (path_outcome k o.kind b new r (interface_added o.world.now o.kind (items_on o.kind b) p.span) (interface_at x (at_root (view_ident p))) i (c.in_ok-interface-in-Ident.ensures.outcome x s.root)
    (subst (λ (y : stated.Body). IsOutcome k (on_side o.kind y (interface_added o.world.now o.kind (items_on o.kind y) p.span (stated_of new (ItemKind.Ty (TypeKind.Interface i))))) r)
    (body-kept old new c.in_ok-interface-in-Ident.ensures.grows c.args.body.now c.requires.body) added))
