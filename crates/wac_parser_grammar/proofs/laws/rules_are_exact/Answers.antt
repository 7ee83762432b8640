-- Each rule, by its own law.
use Rattle.wac_parser_grammar.specs.Rules.{Rule}
use Rattle.wac_parser_grammar.specs.Laws.{IsExact}
use Rattle.wac_parser_grammar.specs.Expressions.{expr}
use Rattle.wac_parser_grammar.specs.ValueTypes.{value_type}
use Rattle.wac_parser_grammar.proofs.Exact.{Exact, token_exact}
use Rattle.wac_parser_grammar.proofs.NameLaws.{docs_exact, ident_exact, string_exact, package_name_exact, new_package_exact, package_path_exact}
use Rattle.wac_parser_grammar.proofs.TypeLaws.{payload_exact, value_type_exact, value_type_takes, value_type_begins, named_type_exact, result_list_exact, func_type_exact, func_type_ref_exact}
use Rattle.wac_parser_grammar.proofs.ExprLaws.{argument_name_exact, access_expr_exact, named_access_expr_exact, expression_exact, instantiation_argument_exact, named_argument_exact, nested_expr_exact, new_expr_exact, primary_expr_exact, expr_exact, expr_takes}
use Rattle.wac_parser_grammar.proofs.DeclLaws.{variant_case_exact, variant_decl_exact, field_exact, record_decl_exact, flag_exact, flags_decl_exact, enum_case_exact, enum_decl_exact, type_alias_kind_exact, type_alias_exact, constructor_exact, method_exact, resource_method_exact, resource_decl_exact, type_decl_exact, item_type_decl_exact}
use Rattle.wac_parser_grammar.proofs.WorldLaws.{use_path_exact, use_item_exact, use_types_exact, interface_export_exact, interface_item_exact, interface_decl_exact, inline_interface_exact, extern_type_exact, named_world_item_exact, world_item_path_exact, world_import_exact, world_export_exact, world_ref_exact, world_include_item_exact, world_include_exact, world_item_exact, world_decl_exact}
use Rattle.wac_parser_grammar.proofs.DocumentLaws.{extern_name_exact, import_type_exact, import_statement_exact, let_statement_exact, export_options_exact, export_statement_exact, type_statement_exact, statement_exact, package_directive_exact, document_exact}
use Rattle.wac_parser_grammar.proofs.laws.rules_are_exact.Goals as goal

same : {X : Type 0} (p : Rule X) → Exact p → IsExact p
same p e = record { sound = e.sound; complete = e.complete }

pub returns : goal.returns
returns c = record {
  token = λ x. same _ (token_exact x);
  payload = λ start. same _ (payload_exact value_type value_type_exact value_type_takes value_type_begins start);
  docs = same _ docs_exact;
  ident = same _ ident_exact;
  string = same _ string_exact;
  package_name = same _ package_name_exact;
  new_package = same _ new_package_exact;
  package_path = same _ package_path_exact;
  value_type = same _ value_type_exact;
  named_type = same _ named_type_exact;
  result_list = same _ result_list_exact;
  func_type = same _ func_type_exact;
  func_type_ref = same _ func_type_ref_exact;
  argument_name = same _ argument_name_exact;
  access_expr = same _ access_expr_exact;
  named_access_expr = same _ named_access_expr_exact;
  expression = same _ expression_exact;
  instantiation_argument = λ depth. same _ (instantiation_argument_exact (expr depth) (expr_exact depth) (expr_takes depth));
  named_argument = λ depth. same _ (named_argument_exact (expr depth) (expr_exact depth) (expr_takes depth));
  nested_expr = λ depth. same _ (nested_expr_exact (expr depth) (expr_exact depth) (expr_takes depth));
  new_expr = λ depth. same _ (new_expr_exact (expr depth) (expr_exact depth) (expr_takes depth));
  primary_expr = λ depth. same _ (primary_expr_exact (expr depth) (expr_exact depth) (expr_takes depth));
  variant_case = same _ variant_case_exact;
  variant_decl = same _ variant_decl_exact;
  field = same _ field_exact;
  record_decl = same _ record_decl_exact;
  flag = same _ flag_exact;
  flags_decl = same _ flags_decl_exact;
  enum_case = same _ enum_case_exact;
  enum_decl = same _ enum_decl_exact;
  type_alias_kind = same _ type_alias_kind_exact;
  type_alias = same _ type_alias_exact;
  constructor = same _ constructor_exact;
  method = same _ method_exact;
  resource_method = same _ resource_method_exact;
  resource_decl = same _ resource_decl_exact;
  type_decl = same _ type_decl_exact;
  item_type_decl = same _ item_type_decl_exact;
  use_path = same _ use_path_exact;
  use_item = same _ use_item_exact;
  use_types = same _ use_types_exact;
  interface_export = same _ interface_export_exact;
  interface_item = same _ interface_item_exact;
  interface_decl = same _ interface_decl_exact;
  inline_interface = same _ inline_interface_exact;
  extern_type = same _ extern_type_exact;
  named_world_item = same _ named_world_item_exact;
  world_item_path = same _ world_item_path_exact;
  world_import = same _ world_import_exact;
  world_export = same _ world_export_exact;
  world_ref = same _ world_ref_exact;
  world_include_item = same _ world_include_item_exact;
  world_include = same _ world_include_exact;
  world_item = same _ world_item_exact;
  world_decl = same _ world_decl_exact;
  extern_name = same _ extern_name_exact;
  import_type = same _ import_type_exact;
  import_statement = same _ import_statement_exact;
  let_statement = same _ let_statement_exact;
  export_options = same _ export_options_exact;
  export_statement = same _ export_statement_exact;
  type_statement = same _ type_statement_exact;
  statement = same _ statement_exact;
  package_directive = same _ package_directive_exact;
  document = same _ document_exact;
}
