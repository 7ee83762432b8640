use Rattle.std.proofs.Common.{◌≡◌, drop}
use Rattle.wac_types_base.specs.Record.{Collection}
use Rattle.wac_types_base.specs.Entries.{with_values}
use Rattle.wac_types_base.specs.Stated.{Stated, stated_of}
use Rattle.wac_parser_refusals.specs.Causes.{each}
use Rattle.wac_parser_declare.specs.Holding.{ItemsStand}
use Rattle.wac_parser_declare.specs.InIncludes.{HasImports, helps, path_of, renamings}
use Rattle.wac_parser_declare.specs.Worlds.{include_one, left_for_exports}
use Rattle.wac_parser_declare.proofs.includes.include_exports.Given as goal

-- what is left over what was included gives the same as all
abbrev pub invariant-loop-at : goal.invariant-loop-at
invariant-loop-at l = record {
  stand : (c : Collection) → ItemsStand c l.initial.stand → ItemsStand c l.world.exports → ItemsStand c l.stand;
  rest : (c : Collection) (x : Stated) → HasImports c x l.world →
      each (include_one l.inclusion.to.now (path_of l.inclusion) (helps l.inclusion) (left_for_exports x (renamings l.inclusion.include.now.with.items)) l.inclusion.kind) (with_values (stated_of c) l.initial.stand) (with_values (stated_of c) l.world.exports)
      ≡ each (include_one l.inclusion.to.now (path_of l.inclusion) (helps l.inclusion) (left_for_exports x (renamings l.inclusion.include.now.with.items)) l.inclusion.kind) (with_values (stated_of c) l.stand) (with_values (stated_of c) (drop l.at l.world.exports));
}
