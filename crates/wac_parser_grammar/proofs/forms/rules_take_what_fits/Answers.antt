-- Each rule, by its own law.
use Rattle.wac_parser_grammar.specs.Expressions.{expr}
use Rattle.wac_parser_grammar.proofs.FitsTypes.{value_type_fits, named_type_fits, func_type_fits, func_type_ref_fits}
use Rattle.wac_parser_grammar.proofs.FitsDecls.{variant_case_fits, variant_decl_fits, field_fits, record_decl_fits, type_alias_kind_fits, type_alias_fits, constructor_fits, method_fits, resource_method_fits, resource_decl_fits, type_decl_fits, item_type_decl_fits, interface_export_fits, interface_item_fits, interface_decl_fits, inline_interface_fits, extern_type_fits, named_world_item_fits, world_item_path_fits, world_import_fits, world_export_fits, world_item_fits, world_decl_fits}
use Rattle.wac_parser_grammar.proofs.FitsDocuments.{expression_fits, expr_fits, new_expr_fits, nested_expr_fits, primary_expr_fits, named_argument_fits, instantiation_argument_fits, import_type_fits, import_statement_fits, let_statement_fits, export_statement_fits, type_statement_fits, statement_fits, document_fits}
use Rattle.wac_parser_grammar.proofs.forms.rules_take_what_fits.Goals as goal

pub returns : goal.returns
returns c = record {
  value_type = value_type_fits;
  named_type = named_type_fits;
  func_type = func_type_fits;
  func_type_ref = func_type_ref_fits;
  variant_case = variant_case_fits;
  variant_decl = variant_decl_fits;
  field = field_fits;
  record_decl = record_decl_fits;
  type_alias_kind = type_alias_kind_fits;
  type_alias = type_alias_fits;
  constructor = constructor_fits;
  method = method_fits;
  resource_method = resource_method_fits;
  resource_decl = resource_decl_fits;
  type_decl = type_decl_fits;
  item_type_decl = item_type_decl_fits;
  interface_export = interface_export_fits;
  interface_item = interface_item_fits;
  interface_decl = interface_decl_fits;
  inline_interface = inline_interface_fits;
  extern_type = extern_type_fits;
  named_world_item = named_world_item_fits;
  world_item_path = world_item_path_fits;
  world_import = world_import_fits;
  world_export = world_export_fits;
  world_item = world_item_fits;
  world_decl = world_decl_fits;
  expression = expression_fits;
  new_expr = λ depth. new_expr_fits depth (expr depth) (expr_fits depth);
  nested_expr = λ depth. nested_expr_fits depth (expr depth) (expr_fits depth);
  primary_expr = λ depth. primary_expr_fits depth (expr depth) (expr_fits depth);
  named_argument = λ depth. named_argument_fits depth (expr depth) (expr_fits depth);
  instantiation_argument = λ depth. instantiation_argument_fits depth (expr depth) (expr_fits depth);
  import_type = import_type_fits;
  import_statement = import_statement_fits;
  let_statement = let_statement_fits;
  export_statement = export_statement_fits;
  type_statement = type_statement_fits;
  statement = statement_fits;
  document = document_fits;
}
