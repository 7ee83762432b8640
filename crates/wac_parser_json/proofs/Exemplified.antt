-- The texts of the examples, by computation.
use Rattle.std.proofs.Common.{◌≡◌, refl}
use Rattle.std.specs.Fmt.{digits}
use Rattle.json.specs.Print.{escape_byte}
use Rattle.wac_parser_print.specs.Objects.{span, version}
use Rattle.wac_parser_print.specs.Values.{document, package_directive, package_name, package_path, doc_comment, statement, type_statement, type_decl, type_alias, type_alias_kind, ident, ty, maybe_ty}
use Rattle.wac_parser_print.specs.Examples.{with_target, with_result}
use Rattle.wac_parser_json.specs.Texts.{json_text}
use Rattle.wac_parser_json.specs.Examples.{target_json, result_json, with_comment, comment_json}

pub target_text : json_text with_target ≡ target_json
unfolding digits escape_byte span version document package_directive package_name package_path
target_text = refl

pub result_text : json_text with_result ≡ result_json
unfolding digits escape_byte span version document package_directive package_name statement type_statement type_decl type_alias type_alias_kind ident ty maybe_ty
result_text = refl

pub comment_text : json_text with_comment ≡ comment_json
unfolding digits escape_byte span version document package_directive package_name doc_comment
comment_text = refl
