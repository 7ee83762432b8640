-- The texts and the value of the examples, by computation.
use Rattle.std.proofs.Common.{◌≡◌, ℕ, List, codes, refl}
use Rattle.wac_parser_tree.specs.Trees as t
use Rattle.wac_parser_print.specs.Texts.{nothing, word, slice, ◌>>◌, line_end, indent, each, joined}
use Rattle.wac_parser_print.specs.Printing.{docs, begin, ty, payload, func_type, named_types, result_list, type_alias_kind, type_alias, type_decl, type_statement, statement, target, package_directive, document, printed_document}
use Rattle.wac_parser_print.specs.Objects.{span, version}
use Rattle.wac_parser_print.specs.Values as values
use Rattle.wac_parser_print.specs.Examples.{package_alone, with_target, with_function, with_result, package_value}

-- over this source the tree is printed as this text, four blanks a level
abbrev IsPrintedAs : List ℕ → t.Document → List ℕ → Type 0
IsPrintedAs source tree text = printed_document (codes "    ") source tree ≡ text

pub target_text : IsPrintedAs (codes "package a:b targets c:d/e;") with_target (codes "package a:b targets c:d/e;\n\n")
unfolding nothing word slice ◌>>◌ line_end indent each joined docs target package_directive document
target_text = refl

pub function_text : IsPrintedAs (codes "package a:b; type t = func() -> ;") with_function (codes "package a:b;\n\ntype t = func();\n")
unfolding nothing word slice ◌>>◌ line_end indent each joined begin docs target package_directive document statement type_statement type_decl type_alias type_alias_kind func_type named_types result_list
function_text = refl

pub result_text : IsPrintedAs (codes "package a:b; type t = result<_, _>;") with_result (codes "package a:b;\n\ntype t = result;\n")
unfolding nothing word slice ◌>>◌ line_end indent each joined begin docs target package_directive document statement type_statement type_decl type_alias type_alias_kind ty payload
result_text = refl

pub value_of_package : values.document package_alone ≡ package_value
unfolding span version values.document values.package_directive values.package_name
value_of_package = refl
