-- Each rule, by its own law.
use Rattle.std.proofs.Common.{ℕ, List}
use Rattle.wac_parser_grammar.specs.Rules.{Rule}
use Rattle.wac_parser_grammar.specs.Laws.{FaultsStandWithin}
use Rattle.wac_parser_grammar.specs.Standing.{IsTooDeep}
use Rattle.wac_types_names.specs.Tracks.{IsTrack}
use Rattle.wac_parser_grammar.specs.ValueTypes.{value_type}
use Rattle.wac_parser_grammar.proofs.TypeLaws.{value_type_exact, value_type_takes}
use Rattle.wac_parser_grammar.proofs.Faithful.{FaithfulBy, Any, token_faithful}
use Rattle.wac_parser_grammar.proofs.NameFaults.{docs_faithful, ident_faithful, string_faithful, package_name_faithful, new_package_faithful, package_path_faithful}
use Rattle.wac_parser_grammar.proofs.TypeFaults.{payload_faithful, value_type_faithful, named_type_faithful, result_list_faithful, func_type_faithful, func_type_ref_faithful}
use Rattle.wac_parser_grammar.proofs.ExprFaults.{argument_name_faithful, access_expr_faithful, named_access_expr_faithful, expression_faithful, argument_by, named_by, nested_by, new_by, primary_by}
use Rattle.wac_parser_grammar.proofs.DeclFaults.{variant_case_faithful, variant_decl_faithful, field_faithful, record_decl_faithful, flag_faithful, flags_decl_faithful, enum_case_faithful, enum_decl_faithful, type_alias_kind_faithful, type_alias_faithful, constructor_faithful, method_faithful, resource_method_faithful, resource_decl_faithful, type_decl_faithful, item_type_decl_faithful}
use Rattle.wac_parser_grammar.proofs.WorldFaults.{use_path_faithful, use_item_faithful, use_types_faithful, interface_export_faithful, interface_item_faithful, interface_decl_faithful, inline_interface_faithful, extern_type_faithful, named_world_item_faithful, world_item_path_faithful, world_import_faithful, world_export_faithful, world_ref_faithful, world_include_item_faithful, world_include_faithful, world_item_faithful, world_decl_faithful}
use Rattle.wac_parser_grammar.proofs.DocumentFaults.{extern_name_faithful, import_type_faithful, import_statement_faithful, let_statement_faithful, export_options_faithful, export_statement_faithful, type_statement_faithful, statement_faithful, package_directive_faithful, document_faithful}
use Rattle.wac_parser_grammar.proofs.laws.faults_stand.Goals as goal

stand : {X : Type 0} {n : ℕ} (p : Rule X) → FaithfulBy (IsTooDeep n) Any p → FaultsStandWithin n p
stand p e = record { goes_on = λ s x r h. e.goes s x r tt h; stands = λ s f h. e.stands s f tt h }

-- nothing is said of a text
anything : (text : List ℕ) → (IsTrack text → ⊥) → Unit {0}
anything text h = tt

pub returns : goal.returns
returns c = record {
  token = λ x. stand _ (token_faithful x);
  payload = λ start. stand _ (payload_faithful value_type value_type_exact value_type_takes value_type_faithful start);
  docs = stand _ docs_faithful;
  ident = stand _ ident_faithful;
  string = stand _ string_faithful;
  package_name = stand _ package_name_faithful;
  new_package = stand _ (new_package_faithful (λ text h. tt));
  package_path = stand _ package_path_faithful;
  value_type = stand _ value_type_faithful;
  named_type = stand _ named_type_faithful;
  result_list = stand _ result_list_faithful;
  func_type = stand _ func_type_faithful;
  func_type_ref = stand _ func_type_ref_faithful;
  argument_name = stand _ argument_name_faithful;
  access_expr = stand _ access_expr_faithful;
  named_access_expr = stand _ named_access_expr_faithful;
  expression = stand _ expression_faithful;
  instantiation_argument = λ depth. stand _ (argument_by _ anything depth);
  named_argument = λ depth. stand _ (named_by _ anything depth);
  nested_expr = λ depth. stand _ (nested_by _ anything depth);
  new_expr = λ depth. stand _ (new_by _ anything depth);
  primary_expr = λ depth. stand _ (primary_by _ anything depth);
  variant_case = stand _ variant_case_faithful;
  variant_decl = stand _ variant_decl_faithful;
  field = stand _ field_faithful;
  record_decl = stand _ record_decl_faithful;
  flag = stand _ flag_faithful;
  flags_decl = stand _ flags_decl_faithful;
  enum_case = stand _ enum_case_faithful;
  enum_decl = stand _ enum_decl_faithful;
  type_alias_kind = stand _ type_alias_kind_faithful;
  type_alias = stand _ type_alias_faithful;
  constructor = stand _ constructor_faithful;
  method = stand _ method_faithful;
  resource_method = stand _ resource_method_faithful;
  resource_decl = stand _ resource_decl_faithful;
  type_decl = stand _ type_decl_faithful;
  item_type_decl = stand _ item_type_decl_faithful;
  use_path = stand _ use_path_faithful;
  use_item = stand _ use_item_faithful;
  use_types = stand _ use_types_faithful;
  interface_export = stand _ interface_export_faithful;
  interface_item = stand _ interface_item_faithful;
  interface_decl = stand _ interface_decl_faithful;
  inline_interface = stand _ inline_interface_faithful;
  extern_type = stand _ extern_type_faithful;
  named_world_item = stand _ named_world_item_faithful;
  world_item_path = stand _ world_item_path_faithful;
  world_import = stand _ world_import_faithful;
  world_export = stand _ world_export_faithful;
  world_ref = stand _ world_ref_faithful;
  world_include_item = stand _ world_include_item_faithful;
  world_include = stand _ world_include_faithful;
  world_item = stand _ world_item_faithful;
  world_decl = stand _ world_decl_faithful;
  extern_name = stand _ extern_name_faithful;
  import_type = stand _ import_type_faithful;
  import_statement = stand _ import_statement_faithful;
  let_statement = stand _ let_statement_faithful;
  export_options = stand _ export_options_faithful;
  export_statement = stand _ export_statement_faithful;
  type_statement = stand _ type_statement_faithful;
  statement = stand _ statement_faithful;
  package_directive = stand _ package_directive_faithful;
  document = stand _ document_faithful;
}
