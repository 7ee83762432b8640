-- The faults of statements and documents stand in the source.
use Rattle.wac_parser_lexer.specs.declared.token.Token.TheVariants as k
use Rattle.wac_parser_grammar.proofs.Faithful.{Faithful, FaithfulBy, Any, anywhere, bind_faithful, pure_faithful, choose_faithful, none_both, refuse_faithful, token_faithful, begin_faithful, begin_any_faithful, optional_faithful}
use Rattle.wac_parser_grammar.proofs.FaithfulLists.{all_faithful}
use Rattle.wac_parser_grammar.specs.Standing.{Saying}
use Rattle.wac_parser_grammar.specs.Expressions.{expression}
use Rattle.wac_parser_grammar.specs.ValueTypes.{func_first}
use Rattle.wac_parser_grammar.specs.Declarations.{type_decl_first}
use Rattle.wac_parser_grammar.specs.Documents.{type_statement_first, extern_name, import_type, import_name, import_statement, let_statement, export_options, export_statement, type_statement, statement, targets, package_directive, document}
use Rattle.wac_parser_grammar.proofs.NameFaults.{docs_faithful, ident_faithful, string_faithful, package_name_faithful, package_path_faithful}
use Rattle.wac_parser_grammar.proofs.TypeFaults.{func_type_faithful}
use Rattle.wac_parser_grammar.proofs.ExprFaults.{expression_faithful}
use Rattle.wac_parser_grammar.proofs.DeclFaults.{type_decl_faithful}
use Rattle.wac_parser_grammar.proofs.WorldFaults.{inline_interface_faithful, interface_decl_faithful, world_decl_faithful}

pub extern_name_faithful : {N : Saying} → FaithfulBy N Any extern_name
unfolding extern_name
extern_name_faithful = begin_faithful k.Ident _ _ (bind_faithful _ _ (ident_faithful) (λ v0. pure_faithful _)) (begin_faithful k.String _ _ (bind_faithful _ _ (anywhere (string_faithful)) (λ v0. pure_faithful _)) (refuse_faithful _ (λ s h. none_both _ _ _ h.0.1 h.1)))

pub import_type_faithful : Faithful Any import_type
unfolding import_type
import_type_faithful = begin_any_faithful func_first _ _ (bind_faithful _ _ (func_type_faithful) (λ v0. pure_faithful _)) (begin_faithful k.InterfaceKeyword _ _ (bind_faithful _ _ (anywhere (inline_interface_faithful)) (λ v0. pure_faithful _)) (begin_faithful k.PackagePath _ _ (bind_faithful _ _ (anywhere (package_path_faithful)) (λ v0. pure_faithful _)) (begin_faithful k.Ident _ _ (bind_faithful _ _ (anywhere (ident_faithful)) (λ v0. pure_faithful _)) (refuse_faithful _ (λ s h. none_both _ _ _ h.0.0.0.1 (none_both _ _ _ h.0.0.1 (none_both _ _ _ h.0.1 h.1)))))))

pub import_name_faithful : Faithful Any import_name
unfolding import_name
import_name_faithful = bind_faithful _ _ (optional_faithful k.AsKeyword) (λ v0. choose_faithful v0 _ _ (bind_faithful _ _ (extern_name_faithful) (λ v1. pure_faithful _)) (pure_faithful _))

pub import_statement_faithful : Faithful Any import_statement
unfolding import_statement
import_statement_faithful = bind_faithful _ _ (docs_faithful) (λ v0. bind_faithful _ _ (token_faithful k.ImportKeyword) (λ v1. bind_faithful _ _ (ident_faithful) (λ v2. bind_faithful _ _ (import_name_faithful) (λ v3. bind_faithful _ _ (token_faithful k.Colon) (λ v4. bind_faithful _ _ (import_type_faithful) (λ v5. bind_faithful _ _ (token_faithful k.Semicolon) (λ v6. pure_faithful _)))))))

-- for what is said of the faults of expressions
pub let_by : {N : Saying} → FaithfulBy N Any expression → FaithfulBy N Any let_statement
unfolding let_statement
let_by said = bind_faithful _ _ (docs_faithful) (λ v0. bind_faithful _ _ (token_faithful k.LetKeyword) (λ v1. bind_faithful _ _ (ident_faithful) (λ v2. bind_faithful _ _ (token_faithful k.Equals) (λ v3. bind_faithful _ _ (said) (λ v4. bind_faithful _ _ (token_faithful k.Semicolon) (λ v5. pure_faithful _))))))

pub let_statement_faithful : Faithful Any let_statement
let_statement_faithful = let_by expression_faithful

pub export_options_faithful : {N : Saying} → FaithfulBy N Any export_options
unfolding export_options
export_options_faithful = begin_faithful k.Ellipsis _ _ (bind_faithful _ _ (token_faithful k.Ellipsis) (λ v0. pure_faithful _)) (begin_faithful k.AsKeyword _ _ (bind_faithful _ _ (bind_faithful _ _ (anywhere (token_faithful k.AsKeyword)) (λ v0. extern_name_faithful)) (λ v0. pure_faithful _)) (pure_faithful _))

pub export_by : {N : Saying} → FaithfulBy N Any expression → FaithfulBy N Any export_statement
unfolding export_statement
export_by said = bind_faithful _ _ (docs_faithful) (λ v0. bind_faithful _ _ (token_faithful k.ExportKeyword) (λ v1. bind_faithful _ _ (said) (λ v2. bind_faithful _ _ (export_options_faithful) (λ v3. bind_faithful _ _ (token_faithful k.Semicolon) (λ v4. pure_faithful _)))))

pub export_statement_faithful : Faithful Any export_statement
export_statement_faithful = export_by expression_faithful

pub type_statement_faithful : Faithful Any type_statement
unfolding type_statement
type_statement_faithful = begin_faithful k.InterfaceKeyword _ _ (bind_faithful _ _ (interface_decl_faithful) (λ v0. pure_faithful _)) (begin_faithful k.WorldKeyword _ _ (bind_faithful _ _ (anywhere (world_decl_faithful)) (λ v0. pure_faithful _)) (begin_any_faithful type_decl_first _ _ (bind_faithful _ _ (anywhere (type_decl_faithful)) (λ v0. pure_faithful _)) (refuse_faithful _ (λ s h. none_both _ _ _ h.0.0.1 (none_both _ _ _ h.0.1 h.1)))))

pub statement_faithful : Faithful Any statement
unfolding statement
statement_faithful = begin_faithful k.ImportKeyword _ _ (bind_faithful _ _ (import_statement_faithful) (λ v0. pure_faithful _)) (begin_faithful k.LetKeyword _ _ (bind_faithful _ _ (anywhere (let_statement_faithful)) (λ v0. pure_faithful _)) (begin_faithful k.ExportKeyword _ _ (bind_faithful _ _ (anywhere (export_statement_faithful)) (λ v0. pure_faithful _)) (begin_any_faithful type_statement_first _ _ (bind_faithful _ _ (anywhere (type_statement_faithful)) (λ v0. pure_faithful _)) (refuse_faithful _ (λ s h. none_both _ _ _ h.0.0.0.1 (none_both _ _ _ h.0.0.1 (none_both _ _ _ h.0.1 h.1)))))))

pub targets_faithful : Faithful Any targets
unfolding targets
targets_faithful = bind_faithful _ _ (optional_faithful k.TargetsKeyword) (λ v0. choose_faithful v0 _ _ (bind_faithful _ _ (package_path_faithful) (λ v1. pure_faithful _)) (pure_faithful _))

pub package_directive_faithful : Faithful Any package_directive
unfolding package_directive
package_directive_faithful = bind_faithful _ _ (token_faithful k.PackageKeyword) (λ v0. bind_faithful _ _ (package_name_faithful) (λ v1. bind_faithful _ _ (targets_faithful) (λ v2. bind_faithful _ _ (token_faithful k.Semicolon) (λ v3. pure_faithful _))))

pub document_faithful : Faithful Any document
unfolding document
document_faithful = bind_faithful _ _ (docs_faithful) (λ v0. bind_faithful _ _ (package_directive_faithful) (λ v1. bind_faithful _ _ (all_faithful statement statement_faithful) (λ v2. pure_faithful _)))
