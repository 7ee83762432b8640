use Rattle.std.proofs.Common.{◌≡◌, [], map, drop}
use Rattle.wac_parser_tree.specs.Views.{view_enum_case}
use Rattle.wac_parser_refusals.specs.Causes.{each}
use Rattle.wac_parser_declare.specs.Declarations.{enum_case_of}
use Rattle.wac_parser_declare.proofs.type_decls.enum_cases.Given as goal

-- what is left over what was found gives the same as all
abbrev pub invariant-loop-case : goal.invariant-loop-case
invariant-loop-case l =
    each (enum_case_of l.decl.id.string.now) [] (map view_enum_case l.decl.cases.items) ≡ each (enum_case_of l.decl.id.string.now) l.found (map view_enum_case (drop l.case-index l.case-items))
