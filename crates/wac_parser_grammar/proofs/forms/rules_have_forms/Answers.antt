-- Each rule, by its own law.
use Rattle.wac_parser_grammar.specs.Rules.{Rule}
use Rattle.wac_parser_grammar.specs.Expressions.{expr}
use Rattle.wac_parser_grammar.specs.Forms.{Part}
use Rattle.wac_parser_grammar.specs.FormLaws.{HasForm}
use Rattle.wac_parser_grammar.proofs.ExprLaws.{expr_exact, expr_takes, instantiation_argument_begins}
use Rattle.wac_parser_grammar.proofs.TableLaws.{Within}
use Rattle.wac_parser_grammar.proofs.TableTypes.{docs_within, ident_within, string_within, package_name_within, new_package_within, package_path_within, value_type_within, named_type_within, func_type_within, func_type_ref_within}
use Rattle.wac_parser_grammar.proofs.TableExprs.{argument_name_within, access_expr_within, named_access_expr_within, postfix_expr_within, expression_within, new_expr_within, nested_expr_within, primary_expr_within, named_argument_within, instantiation_argument_within, expr_within}
use Rattle.wac_parser_grammar.proofs.TableDecls.{variant_case_within, variant_decl_within, field_within, record_decl_within, flag_within, flags_decl_within, enum_case_within, enum_decl_within, type_alias_kind_within, type_alias_within, constructor_within, method_within, resource_method_within, resource_decl_within, type_decl_within, item_type_decl_within}
use Rattle.wac_parser_grammar.proofs.TableWorlds.{use_path_within, use_item_within, use_types_within, interface_export_within, interface_item_within, interface_decl_within, inline_interface_within, extern_type_within, named_world_item_within, world_item_path_within, world_import_within, world_export_within, world_ref_within, world_include_item_within, world_include_within, world_item_within, world_decl_within}
use Rattle.wac_parser_grammar.proofs.TableDocuments.{extern_name_within, import_type_within, import_statement_within, let_statement_within, export_options_within, export_statement_within, type_statement_within, statement_within, package_directive_within, document_within}
use Rattle.wac_parser_grammar.proofs.forms.rules_have_forms.Goals as goal

same : {X : Type 0} (p : Rule X) (F : X → Part) → Within p F → HasForm p F
same p F w = record { form = w.within }

pub returns : goal.returns
returns c = record {
  docs = same _ _ docs_within;
  ident = same _ _ ident_within;
  string = same _ _ string_within;
  package_name = same _ _ package_name_within;
  new_package = same _ _ new_package_within;
  package_path = same _ _ package_path_within;
  value_type = same _ _ value_type_within;
  named_type = same _ _ named_type_within;
  func_type = same _ _ func_type_within;
  func_type_ref = same _ _ func_type_ref_within;
  argument_name = same _ _ argument_name_within;
  access_expr = same _ _ access_expr_within;
  named_access_expr = same _ _ named_access_expr_within;
  postfix_expr = same _ _ postfix_expr_within;
  expression = same _ _ expression_within;
  variant_case = same _ _ variant_case_within;
  variant_decl = same _ _ variant_decl_within;
  field = same _ _ field_within;
  record_decl = same _ _ record_decl_within;
  flag = same _ _ flag_within;
  flags_decl = same _ _ flags_decl_within;
  enum_case = same _ _ enum_case_within;
  enum_decl = same _ _ enum_decl_within;
  type_alias_kind = same _ _ type_alias_kind_within;
  type_alias = same _ _ type_alias_within;
  constructor = same _ _ constructor_within;
  method = same _ _ method_within;
  resource_method = same _ _ resource_method_within;
  resource_decl = same _ _ resource_decl_within;
  type_decl = same _ _ type_decl_within;
  item_type_decl = same _ _ item_type_decl_within;
  use_path = same _ _ use_path_within;
  use_item = same _ _ use_item_within;
  use_types = same _ _ use_types_within;
  interface_export = same _ _ interface_export_within;
  interface_item = same _ _ interface_item_within;
  interface_decl = same _ _ interface_decl_within;
  inline_interface = same _ _ inline_interface_within;
  extern_type = same _ _ extern_type_within;
  named_world_item = same _ _ named_world_item_within;
  world_item_path = same _ _ world_item_path_within;
  world_import = same _ _ world_import_within;
  world_export = same _ _ world_export_within;
  world_ref = same _ _ world_ref_within;
  world_include_item = same _ _ world_include_item_within;
  world_include = same _ _ world_include_within;
  world_item = same _ _ world_item_within;
  world_decl = same _ _ world_decl_within;
  extern_name = same _ _ extern_name_within;
  import_type = same _ _ import_type_within;
  import_statement = same _ _ import_statement_within;
  let_statement = same _ _ let_statement_within;
  export_options = same _ _ export_options_within;
  export_statement = same _ _ export_statement_within;
  type_statement = same _ _ type_statement_within;
  statement = same _ _ statement_within;
  package_directive = same _ _ package_directive_within;
  document = same _ _ document_within;
  new_expr = λ depth. same _ _ (new_expr_within (expr depth) (expr_within depth) (instantiation_argument_begins (expr depth) (expr_exact depth) (expr_takes depth)));
  nested_expr = λ depth. same _ _ (nested_expr_within (expr depth) (expr_within depth) (instantiation_argument_begins (expr depth) (expr_exact depth) (expr_takes depth)));
  primary_expr = λ depth. same _ _ (primary_expr_within (expr depth) (expr_within depth) (instantiation_argument_begins (expr depth) (expr_exact depth) (expr_takes depth)));
  named_argument = λ depth. same _ _ (named_argument_within (expr depth) (expr_within depth) (instantiation_argument_begins (expr depth) (expr_exact depth) (expr_takes depth)));
  instantiation_argument = λ depth. same _ _ (instantiation_argument_within (expr depth) (expr_within depth) (instantiation_argument_begins (expr depth) (expr_exact depth) (expr_takes depth)));
}
