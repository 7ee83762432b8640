use Rattle.std.proofs.Common.{sym, ap, subst, map, ◌∙◌}
use Rattle.wac_types_base.specs.Record.{Kept}
use Rattle.wac_types_base.specs.Collection.{IsAcyclic}
use Rattle.wac_types_base.specs.Copying.{IsCopy}
use Rattle.wac_types_base.specs.Copies.{copied_ids}
use Rattle.wac_types_base.specs.Renaming.{defined_renamed, resource_renamed, func_renamed, interface_renamed, world_renamed, kind_under}
use Rattle.wac_types_base.proofs.Renamed.{no_copies, renumbered_by, IsAcyclic-renumbered, IsCopy-renumbered}
use Rattle.wac_types_base.proofs.types.Types.copy_as.Goals as goal

pub invariant_of-result : goal.invariant_of-result
invariant_of-result c =
    let m = copied_ids c.new-same_indexes.result in
    let q : Kept = record { defined_types = c.in_ok-defined_types.defined_types.kept; resources = c.in_ok-resources.resources.kept; func_types = c.in_ok-func_types.func_types.kept; interfaces = c.in_ok-interfaces.interfaces.kept; worlds = c.in_ok-worlds.worlds.kept; modules = c.in_ok-modules.modules.kept } in
    let same = renumbered_by c.args.number c.args.self.now q m (no_copies c.new-same_indexes.result c.args.number c.new-same_indexes.ensures.number c.new-same_indexes.ensures.none)
    c.in_ok-defined_types.defined_types.given c.in_ok-resources.resources.given c.in_ok-func_types.func_types.given c.in_ok-interfaces.interfaces.given c.in_ok-worlds.worlds.given c.in_ok-modules.modules.given
    (c.in_ok-defined_types.ensures ∙ ap (map (defined_renamed m)) (ap (λ t. t.defined_types) c.self.view_is))
    (c.in_ok-resources.ensures ∙ ap (map (resource_renamed m)) (ap (λ t. t.resources) c.self.view_is))
    (c.in_ok-func_types.ensures ∙ ap (map (func_renamed m)) (ap (λ t. t.func_types) c.self.view_is))
    (c.in_ok-interfaces.ensures ∙ ap (map (interface_renamed m)) (ap (λ t. t.interfaces) c.self.view_is))
    (c.in_ok-worlds.ensures ∙ ap (map (world_renamed m)) (ap (λ t. t.worlds) c.self.view_is))
    (c.in_ok-modules.ensures ∙ ap (map (λ x. x)) (ap (λ t. t.modules) c.self.view_is)) in
    subst IsAcyclic (sym same) (IsAcyclic-renumbered c.args.number c.args.self.now q c.see_acyclic.ensures)

pub returns-clause-renumbered : goal.returns-clause-renumbered
returns-clause-renumbered c =
    let m = copied_ids c.new-same_indexes.result in
    let q : Kept = record { defined_types = c.in_ok-defined_types.defined_types.kept; resources = c.in_ok-resources.resources.kept; func_types = c.in_ok-func_types.func_types.kept; interfaces = c.in_ok-interfaces.interfaces.kept; worlds = c.in_ok-worlds.worlds.kept; modules = c.in_ok-modules.modules.kept } in
    let same = renumbered_by c.args.number c.args.self.now q m (no_copies c.new-same_indexes.result c.args.number c.new-same_indexes.ensures.number c.new-same_indexes.ensures.none)
    c.in_ok-defined_types.defined_types.given c.in_ok-resources.resources.given c.in_ok-func_types.func_types.given c.in_ok-interfaces.interfaces.given c.in_ok-worlds.worlds.given c.in_ok-modules.modules.given
    (c.in_ok-defined_types.ensures ∙ ap (map (defined_renamed m)) (ap (λ t. t.defined_types) c.self.view_is))
    (c.in_ok-resources.ensures ∙ ap (map (resource_renamed m)) (ap (λ t. t.resources) c.self.view_is))
    (c.in_ok-func_types.ensures ∙ ap (map (func_renamed m)) (ap (λ t. t.func_types) c.self.view_is))
    (c.in_ok-interfaces.ensures ∙ ap (map (interface_renamed m)) (ap (λ t. t.interfaces) c.self.view_is))
    (c.in_ok-worlds.ensures ∙ ap (map (world_renamed m)) (ap (λ t. t.worlds) c.self.view_is))
    (c.in_ok-modules.ensures ∙ ap (map (λ x. x)) (ap (λ t. t.modules) c.self.view_is)) in
    same

pub returns-clause-copied : goal.returns-clause-copied
returns-clause-copied c k stands =
    let m = copied_ids c.new-same_indexes.result in
    let q : Kept = record { defined_types = c.in_ok-defined_types.defined_types.kept; resources = c.in_ok-resources.resources.kept; func_types = c.in_ok-func_types.func_types.kept; interfaces = c.in_ok-interfaces.interfaces.kept; worlds = c.in_ok-worlds.worlds.kept; modules = c.in_ok-modules.modules.kept } in
    let same = renumbered_by c.args.number c.args.self.now q m (no_copies c.new-same_indexes.result c.args.number c.new-same_indexes.ensures.number c.new-same_indexes.ensures.none)
    c.in_ok-defined_types.defined_types.given c.in_ok-resources.resources.given c.in_ok-func_types.func_types.given c.in_ok-interfaces.interfaces.given c.in_ok-worlds.worlds.given c.in_ok-modules.modules.given
    (c.in_ok-defined_types.ensures ∙ ap (map (defined_renamed m)) (ap (λ t. t.defined_types) c.self.view_is))
    (c.in_ok-resources.ensures ∙ ap (map (resource_renamed m)) (ap (λ t. t.resources) c.self.view_is))
    (c.in_ok-func_types.ensures ∙ ap (map (func_renamed m)) (ap (λ t. t.func_types) c.self.view_is))
    (c.in_ok-interfaces.ensures ∙ ap (map (interface_renamed m)) (ap (λ t. t.interfaces) c.self.view_is))
    (c.in_ok-worlds.ensures ∙ ap (map (world_renamed m)) (ap (λ t. t.worlds) c.self.view_is))
    (c.in_ok-modules.ensures ∙ ap (map (λ x. x)) (ap (λ t. t.modules) c.self.view_is)) in
    subst (λ t. IsCopy c.args.self.now t k (kind_under c.args.number k)) (sym same) (IsCopy-renumbered c.args.number c.args.self.now q c.see_acyclic.ensures k stands)
