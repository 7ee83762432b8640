use Rattle.std.proofs.Common.{◌≡◌, drop}
use Rattle.wac_types_base.specs.Record.{Collection}
use Rattle.wac_types_base.specs.Stated.{Stated}
use Rattle.wac_parser_tree.specs.Views.{view_world_ref}
use Rattle.wac_parser_refusals.specs.Causes.{each}
use Rattle.wac_parser_declare.specs.InIncludes.{HasExports, HasImports, renamings}
use Rattle.wac_parser_declare.specs.Scope.{world_path}
use Rattle.wac_parser_declare.specs.Worlds.{unmet}
use Rattle.wac_parser_declare.proofs.includes.check_met.Given as goal

abbrev pub invariant-loop-item : goal.invariant-loop-item
invariant-loop-item l =
    (c : Collection) (x : Stated) → HasImports c x l.world → HasExports c x l.world
    → each (unmet (world_path (view_world_ref l.include.world)) x) tt (renamings l.include.with.items) ≡ each (unmet (world_path (view_world_ref l.include.world)) x) tt (renamings (drop l.item-index l.item-items))
