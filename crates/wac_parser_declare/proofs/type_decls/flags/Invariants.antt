use Rattle.std.proofs.Common.{◌≡◌, [], map, drop}
use Rattle.wac_parser_tree.specs.Views.{view_flag}
use Rattle.wac_parser_refusals.specs.Causes.{each}
use Rattle.wac_parser_declare.specs.Declarations.{flag_of}
use Rattle.wac_parser_declare.proofs.type_decls.flags.Given as goal

-- what is left over what was found gives the same as all
abbrev pub invariant-loop-flag : goal.invariant-loop-flag
invariant-loop-flag l =
    each (flag_of l.decl.id.string.now) [] (map view_flag l.decl.flags.items) ≡ each (flag_of l.decl.id.string.now) l.found (map view_flag (drop l.flag-index l.flag-items))
