-- Each form, by its own law.
use Rattle.wac_parser_grammar.specs.Expressions.{expr}
use Rattle.wac_parser_grammar.specs.Names as n
use Rattle.wac_parser_grammar.proofs.ExprLaws.{expr_exact, expr_takes, instantiation_argument_begins}
use Rattle.wac_parser_grammar.proofs.TableBack.{ident_back, string_back, package_name_back, new_package_back, package_path_back, value_type_back}
use Rattle.wac_parser_grammar.proofs.TableBackFuncs.{named_type_back, func_type_back, func_type_ref_back}
use Rattle.wac_parser_grammar.proofs.TableBackDecls.{variant_case_back, variant_decl_back, field_back, record_decl_back, flag_back, flags_decl_back, enum_case_back, enum_decl_back, type_alias_kind_back, type_alias_back}
use Rattle.wac_parser_grammar.proofs.TableBackResources.{constructor_back, method_back, resource_method_back, resource_decl_back}
use Rattle.wac_parser_grammar.proofs.TableBackChoices.{all_always}
use Rattle.wac_parser_grammar.proofs.TableBackInterfaces.{type_decl_back, item_type_decl_back, use_path_back, use_item_back, use_types_back, interface_export_back, interface_item_back, interface_decl_back, inline_interface_back}
use Rattle.wac_parser_grammar.proofs.TableBackWorlds.{extern_type_back, named_world_item_back, world_item_path_back, world_import_back, world_export_back, world_ref_back, world_include_item_back, world_include_back, world_item_back, world_decl_back}
use Rattle.wac_parser_grammar.proofs.TableBackExprs.{argument_name_back, access_expr_back, named_access_expr_back, postfix_expr_back, nested_expr_back, named_argument_back, instantiation_argument_back, new_expr_back, primary_expr_back, expr_back, expression_back}
use Rattle.wac_parser_grammar.proofs.TableBackDocuments.{extern_name_back, import_type_back, import_statement_back, let_statement_back, export_options_back, export_statement_back, type_statement_back, statement_back, package_directive_back, document_back}
use Rattle.wac_parser_grammar.proofs.forms.forms_are_taken.Goals as goal

pub returns : goal.returns
unfolding n.docs
returns c = record {
  docs = record { taken = λ s x r fits h stops. h };
  ident = record { taken = λ s x r fits h stops. ident_back s x r h };
  string = record { taken = λ s x r fits h stops. string_back s x r h };
  package_name = record { taken = λ s x r fits h stops. package_name_back s x r h };
  new_package = record { taken = λ s x r fits h stops. new_package_back s x r h };
  package_path = record { taken = λ s x r fits h stops. package_path_back s x r h };
  named_type = record { taken = named_type_back };
  func_type = record { taken = func_type_back };
  func_type_ref = record { taken = func_type_ref_back };
  variant_case = record { taken = variant_case_back };
  field = record { taken = field_back };
  flag = record { taken = flag_back };
  enum_case = record { taken = enum_case_back };
  type_alias_kind = record { taken = type_alias_kind_back };
  variant_decl = record { taken = λ s x r fits h stops. variant_decl_back s x r fits h };
  record_decl = record { taken = λ s x r fits h stops. record_decl_back s x r fits h };
  flags_decl = record { taken = λ s x r fits h stops. flags_decl_back s x r (all_always x.flags) h };
  enum_decl = record { taken = λ s x r fits h stops. enum_decl_back s x r (all_always x.cases) h };
  type_alias = record { taken = λ s x r fits h stops. type_alias_back s x r fits h };
  constructor = record { taken = λ s x r fits h stops. constructor_back s x r fits h };
  method = record { taken = λ s x r fits h stops. method_back s x r fits h };
  resource_method = record { taken = λ s x r fits h stops. resource_method_back s x r fits h };
  resource_decl = record { taken = λ s x r fits h stops. resource_decl_back s x r fits h };
  value_type = record { taken = λ s x r fits h stops. value_type_back s x r fits h stops };
  type_decl = record { taken = λ s x r fits h stops. type_decl_back s x r fits h };
  item_type_decl = record { taken = λ s x r fits h stops. item_type_decl_back s x r fits h };
  use_path = record { taken = λ s x r fits h stops. use_path_back s x r h };
  use_item = record { taken = use_item_back };
  use_types = record { taken = λ s x r fits h stops. use_types_back s x r h };
  interface_export = record { taken = λ s x r fits h stops. interface_export_back s x r fits h };
  interface_item = record { taken = λ s x r fits h stops. interface_item_back s x r fits h };
  interface_decl = record { taken = λ s x r fits h stops. interface_decl_back s x r fits h };
  inline_interface = record { taken = λ s x r fits h stops. inline_interface_back s x r fits h };
  extern_type = record { taken = extern_type_back };
  named_world_item = record { taken = named_world_item_back };
  world_item_path = record { taken = world_item_path_back };
  world_import = record { taken = λ s x r fits h stops. world_import_back s x r fits h };
  world_export = record { taken = λ s x r fits h stops. world_export_back s x r fits h };
  world_ref = record { taken = λ s x r fits h stops. world_ref_back s x r h };
  world_include_item = record { taken = world_include_item_back };
  world_include = record { taken = λ s x r fits h stops. world_include_back s x r h };
  world_item = record { taken = λ s x r fits h stops. world_item_back s x r fits h };
  world_decl = record { taken = λ s x r fits h stops. world_decl_back s x r fits h };
  argument_name = record { taken = λ s x r fits h stops. argument_name_back s x r h };
  access_expr = record { taken = λ s x r fits h stops. access_expr_back s x r h };
  named_access_expr = record { taken = λ s x r fits h stops. named_access_expr_back s x r h };
  postfix_expr = record { taken = λ s x r fits h stops. postfix_expr_back s x r h };
  expression = record { taken = expression_back };
  new_expr = λ depth. record { taken = λ s x r fits h stops. new_expr_back depth (expr depth) (expr_back depth) (instantiation_argument_begins (expr depth) (expr_exact depth) (expr_takes depth)) s x r fits h };
  nested_expr = λ depth. record { taken = λ s x r fits h stops. nested_expr_back depth (expr depth) (expr_back depth) (instantiation_argument_begins (expr depth) (expr_exact depth) (expr_takes depth)) s x r fits h };
  primary_expr = λ depth. record { taken = λ s x r fits h stops. primary_expr_back depth (expr depth) (expr_back depth) (instantiation_argument_begins (expr depth) (expr_exact depth) (expr_takes depth)) s x r fits h };
  named_argument = λ depth. record { taken = named_argument_back depth (expr depth) (expr_back depth) (instantiation_argument_begins (expr depth) (expr_exact depth) (expr_takes depth)) };
  instantiation_argument = λ depth. record { taken = instantiation_argument_back depth (expr depth) (expr_back depth) (instantiation_argument_begins (expr depth) (expr_exact depth) (expr_takes depth)) };
  extern_name = record { taken = λ s x r fits h stops. extern_name_back s x r h };
  import_type = record { taken = import_type_back };
  import_statement = record { taken = λ s x r fits h stops. import_statement_back s x r fits h };
  let_statement = record { taken = λ s x r fits h stops. let_statement_back s x r fits h };
  export_options = record { taken = λ s x r fits h stops. export_options_back s x r h stops };
  export_statement = record { taken = λ s x r fits h stops. export_statement_back s x r fits h };
  type_statement = record { taken = λ s x r fits h stops. type_statement_back s x r fits h };
  statement = record { taken = λ s x r fits h stops. statement_back s x r fits h };
  package_directive = record { taken = λ s x r fits h stops. package_directive_back s x r h };
  document = record { taken = λ s x r fits h stops. document_back s x r fits h stops };
}
