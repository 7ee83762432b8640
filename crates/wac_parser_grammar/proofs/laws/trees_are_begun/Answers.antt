-- Each tree, by its own law.
use Rattle.std.proofs.Common.{List}
use Rattle.wac_parser_lexer.specs.declared.token.Token.{Token}
use Rattle.wac_parser_grammar.specs.Rules.{Rule}
use Rattle.wac_parser_grammar.specs.Laws.{IsBegun}
use Rattle.wac_parser_grammar.specs.Expressions.{expr}
use Rattle.wac_parser_grammar.proofs.Exact.{Takes, Begins}
use Rattle.wac_parser_grammar.proofs.NameLaws.{ident_begins, string_begins, package_path_begins, ident_takes, string_takes, package_path_takes}
use Rattle.wac_parser_grammar.proofs.TypeLaws.{value_type_begins, named_type_begins, func_type_begins, value_type_takes, named_type_takes, func_type_takes}
use Rattle.wac_parser_grammar.proofs.ExprLaws.{argument_name_begins, access_expr_begins, named_access_expr_begins, instantiation_argument_begins, named_argument_begins, nested_expr_begins, new_expr_begins, argument_name_takes, access_expr_takes, named_access_expr_takes, instantiation_argument_takes, named_argument_takes, nested_expr_takes, new_expr_takes, expr_exact, expr_takes}
use Rattle.wac_parser_grammar.proofs.DeclLaws.{variant_case_begins, variant_decl_begins, field_begins, record_decl_begins, flag_begins, flags_decl_begins, enum_case_begins, enum_decl_begins, type_alias_begins, constructor_begins, method_begins, resource_method_begins, resource_decl_begins, type_decl_begins, item_type_decl_begins, variant_case_takes, variant_decl_takes, field_takes, record_decl_takes, flag_takes, flags_decl_takes, enum_case_takes, enum_decl_takes, type_alias_takes, constructor_takes, method_takes, resource_method_takes, resource_decl_takes, type_decl_takes, item_type_decl_takes}
use Rattle.wac_parser_grammar.proofs.WorldLaws.{use_path_begins, use_item_begins, use_types_begins, interface_export_begins, interface_item_begins, interface_decl_begins, inline_interface_begins, named_world_item_begins, world_import_begins, world_export_begins, world_include_item_begins, world_include_begins, world_item_begins, world_decl_begins, use_path_takes, use_item_takes, use_types_takes, interface_export_takes, interface_item_takes, interface_decl_takes, inline_interface_takes, named_world_item_takes, world_import_takes, world_export_takes, world_include_item_takes, world_include_takes, world_item_takes, world_decl_takes}
use Rattle.wac_parser_grammar.proofs.DocumentLaws.{extern_name_begins, import_statement_begins, let_statement_begins, export_statement_begins, type_statement_begins, statement_begins, package_directive_begins, extern_name_takes, import_statement_takes, let_statement_takes, export_statement_takes, type_statement_takes, statement_takes, package_directive_takes}
use Rattle.wac_parser_grammar.proofs.laws.trees_are_begun.Goals as goal

both : {X : Type 0} (first : List Token) (p : Rule X) → Begins first p → Takes p → IsBegun first p
both first p b t = record { begins = b.begins; takes = t.takes }

pub returns : goal.returns
returns c = record {
  ident = both _ _ ident_begins ident_takes;
  string = both _ _ string_begins string_takes;
  package_path = both _ _ package_path_begins package_path_takes;
  value_type = both _ _ value_type_begins value_type_takes;
  named_type = both _ _ named_type_begins named_type_takes;
  func_type = both _ _ func_type_begins func_type_takes;
  argument_name = both _ _ argument_name_begins argument_name_takes;
  access_expr = both _ _ access_expr_begins access_expr_takes;
  named_access_expr = both _ _ named_access_expr_begins named_access_expr_takes;
  variant_case = both _ _ variant_case_begins variant_case_takes;
  variant_decl = both _ _ variant_decl_begins variant_decl_takes;
  field = both _ _ field_begins field_takes;
  record_decl = both _ _ record_decl_begins record_decl_takes;
  flag = both _ _ flag_begins flag_takes;
  flags_decl = both _ _ flags_decl_begins flags_decl_takes;
  enum_case = both _ _ enum_case_begins enum_case_takes;
  enum_decl = both _ _ enum_decl_begins enum_decl_takes;
  type_alias = both _ _ type_alias_begins type_alias_takes;
  constructor = both _ _ constructor_begins constructor_takes;
  method = both _ _ method_begins method_takes;
  resource_method = both _ _ resource_method_begins resource_method_takes;
  resource_decl = both _ _ resource_decl_begins resource_decl_takes;
  type_decl = both _ _ type_decl_begins type_decl_takes;
  item_type_decl = both _ _ item_type_decl_begins item_type_decl_takes;
  use_path = both _ _ use_path_begins use_path_takes;
  use_item = both _ _ use_item_begins use_item_takes;
  use_types = both _ _ use_types_begins use_types_takes;
  interface_export = both _ _ interface_export_begins interface_export_takes;
  interface_item = both _ _ interface_item_begins interface_item_takes;
  interface_decl = both _ _ interface_decl_begins interface_decl_takes;
  inline_interface = both _ _ inline_interface_begins inline_interface_takes;
  named_world_item = both _ _ named_world_item_begins named_world_item_takes;
  world_import = both _ _ world_import_begins world_import_takes;
  world_export = both _ _ world_export_begins world_export_takes;
  world_include_item = both _ _ world_include_item_begins world_include_item_takes;
  world_include = both _ _ world_include_begins world_include_takes;
  world_item = both _ _ world_item_begins world_item_takes;
  world_decl = both _ _ world_decl_begins world_decl_takes;
  extern_name = both _ _ extern_name_begins extern_name_takes;
  import_statement = both _ _ import_statement_begins import_statement_takes;
  let_statement = both _ _ let_statement_begins let_statement_takes;
  export_statement = both _ _ export_statement_begins export_statement_takes;
  type_statement = both _ _ type_statement_begins type_statement_takes;
  statement = both _ _ statement_begins statement_takes;
  package_directive = both _ _ package_directive_begins package_directive_takes;
  instantiation_argument = λ depth. both _ _ (instantiation_argument_begins (expr depth) (expr_exact depth) (expr_takes depth)) (instantiation_argument_takes (expr depth) (expr_exact depth) (expr_takes depth));
  named_argument = λ depth. both _ _ (named_argument_begins (expr depth) (expr_exact depth) (expr_takes depth)) (named_argument_takes (expr depth) (expr_exact depth) (expr_takes depth));
  nested_expr = λ depth. both _ _ (nested_expr_begins (expr depth) (expr_exact depth) (expr_takes depth)) (nested_expr_takes (expr depth) (expr_exact depth) (expr_takes depth));
  new_expr = λ depth. both _ _ (new_expr_begins (expr depth) (expr_exact depth) (expr_takes depth)) (new_expr_takes (expr depth) (expr_exact depth) (expr_takes depth));
}
