-- The rules of statements and documents read just what they say.
use Rattle.std.proofs.Common.{◌≡◌, [], ◌∷◌, Option, Some, None, Result, Ok, Err, refl, ap}
use Rattle.wac_parser_lexer.specs.declared.span.SourceSpan.{SourceSpan}
use Rattle.wac_parser_lexer.specs.declared.error.Error.{Error}
use Rattle.wac_parser_lexer.specs.Items.{Input}
use Rattle.wac_parser_tree.specs.Trees as t
use Rattle.wac_parser_grammar.specs.Faults.{Fault}
use Rattle.wac_parser_grammar.specs.Reads.{by_refusal}
use Rattle.wac_parser_lexer.specs.declared.token.Token.TheVariants as k
use Rattle.wac_parser_grammar.proofs.Exact.{Exact, Takes, Keeps, Begins, bind, pure_exact, refuse_exact, choose_exact, begin_exact, begin_any_exact, token_exact, optional_exact, bind_takes, bind_keeps, then_takes, still_keeps, pure_keeps, refuse_takes, token_takes, choose_keeps, begin_takes, begin_keeps, begin_any_takes, optional_keeps, token_begins, bind_begins, silent_begins, refuse_begins, begin_begins, last_begins}
use Rattle.wac_parser_grammar.proofs.ExactLists.{all_exact, all_keeps}
use Rattle.wac_parser_grammar.specs.ValueTypes.{func_first}
use Rattle.wac_parser_grammar.specs.Declarations.{type_decl_first}
use Rattle.wac_parser_grammar.specs.Names.{docs}
use Rattle.wac_parser_grammar.specs.Expressions.{name_first}
use Rattle.wac_parser_grammar.specs.Documents.{statement_first, type_statement_first, extern_name, import_type, import_name, import_statement, let_statement, export_options, export_statement, type_statement, statement, targets, package_directive, document}
use Rattle.wac_parser_grammar.proofs.NameLaws.{docs_exact, docs_keeps, docs_silent, ident_exact, ident_takes, string_exact, string_takes, package_name_exact, package_name_takes, package_path_exact, package_path_takes}
use Rattle.wac_parser_grammar.proofs.TypeLaws.{func_type_exact, func_type_takes}
use Rattle.wac_parser_grammar.proofs.ExprLaws.{expression_exact, expression_takes}
use Rattle.wac_parser_grammar.proofs.DeclLaws.{type_decl_exact, type_decl_takes}
use Rattle.wac_parser_grammar.proofs.WorldLaws.{inline_interface_exact, inline_interface_takes, interface_decl_exact, interface_decl_takes, world_decl_exact, world_decl_takes}

pub extern_name_exact : Exact extern_name
unfolding extern_name
extern_name_exact = begin_exact k.Ident _ _ (bind _ _ (ident_exact) (λ v0. pure_exact _)) (begin_exact k.String _ _ (bind _ _ (string_exact) (λ v0. pure_exact _)) (refuse_exact _))

pub extern_name_takes : Takes extern_name
unfolding extern_name
extern_name_takes = begin_takes k.Ident _ _ (bind_takes _ _ (ident_takes) (λ v0. pure_keeps _)) (begin_takes k.String _ _ (bind_takes _ _ (string_takes) (λ v0. pure_keeps _)) (refuse_takes _))

pub extern_name_begins : Begins name_first extern_name
unfolding extern_name
extern_name_begins = begin_begins k.Ident _ _ _ (begin_begins k.String _ _ _ (refuse_begins _ _))

pub import_type_exact : Exact import_type
unfolding import_type
import_type_exact = begin_any_exact func_first _ _ (bind _ _ (func_type_exact) (λ v0. pure_exact _)) (begin_exact k.InterfaceKeyword _ _ (bind _ _ (inline_interface_exact) (λ v0. pure_exact _)) (begin_exact k.PackagePath _ _ (bind _ _ (package_path_exact) (λ v0. pure_exact _)) (begin_exact k.Ident _ _ (bind _ _ (ident_exact) (λ v0. pure_exact _)) (refuse_exact _))))

pub import_type_takes : Takes import_type
unfolding import_type
import_type_takes = begin_any_takes func_first _ _ (bind_takes _ _ (func_type_takes) (λ v0. pure_keeps _)) (begin_takes k.InterfaceKeyword _ _ (bind_takes _ _ (inline_interface_takes) (λ v0. pure_keeps _)) (begin_takes k.PackagePath _ _ (bind_takes _ _ (package_path_takes) (λ v0. pure_keeps _)) (begin_takes k.Ident _ _ (bind_takes _ _ (ident_takes) (λ v0. pure_keeps _)) (refuse_takes _))))

pub import_name_exact : Exact import_name
unfolding import_name
import_name_exact = bind _ _ (optional_exact k.AsKeyword) (λ v0. choose_exact v0 _ _ (bind _ _ (extern_name_exact) (λ v1. pure_exact _)) (pure_exact _))

pub import_name_keeps : Keeps import_name
unfolding import_name
import_name_keeps = bind_keeps _ _ (optional_keeps k.AsKeyword) (λ v0. choose_keeps v0 _ _ (bind_keeps _ _ (still_keeps _ (extern_name_takes)) (λ v1. pure_keeps _)) (pure_keeps _))

pub import_statement_exact : Exact import_statement
unfolding import_statement
import_statement_exact = bind _ _ (docs_exact) (λ v0. bind _ _ (token_exact k.ImportKeyword) (λ v1. bind _ _ (ident_exact) (λ v2. bind _ _ (import_name_exact) (λ v3. bind _ _ (token_exact k.Colon) (λ v4. bind _ _ (import_type_exact) (λ v5. bind _ _ (token_exact k.Semicolon) (λ v6. pure_exact _)))))))

pub import_statement_takes : Takes import_statement
unfolding import_statement
import_statement_takes = then_takes _ _ (docs_keeps) (λ v0. bind_takes _ _ (token_takes k.ImportKeyword) (λ v1. bind_keeps _ _ (still_keeps _ (ident_takes)) (λ v2. bind_keeps _ _ (import_name_keeps) (λ v3. bind_keeps _ _ (still_keeps _ (token_takes k.Colon)) (λ v4. bind_keeps _ _ (still_keeps _ (import_type_takes)) (λ v5. bind_keeps _ _ (still_keeps _ (token_takes k.Semicolon)) (λ v6. pure_keeps _)))))))

pub import_statement_begins : Begins (k.ImportKeyword ∷ []) import_statement
unfolding import_statement
import_statement_begins = silent_begins _ docs _ docs_silent (λ v. bind_begins _ _ _ (token_begins k.ImportKeyword _))

pub let_statement_exact : Exact let_statement
unfolding let_statement
let_statement_exact = bind _ _ (docs_exact) (λ v0. bind _ _ (token_exact k.LetKeyword) (λ v1. bind _ _ (ident_exact) (λ v2. bind _ _ (token_exact k.Equals) (λ v3. bind _ _ (expression_exact) (λ v4. bind _ _ (token_exact k.Semicolon) (λ v5. pure_exact _))))))

pub let_statement_takes : Takes let_statement
unfolding let_statement
let_statement_takes = then_takes _ _ (docs_keeps) (λ v0. bind_takes _ _ (token_takes k.LetKeyword) (λ v1. bind_keeps _ _ (still_keeps _ (ident_takes)) (λ v2. bind_keeps _ _ (still_keeps _ (token_takes k.Equals)) (λ v3. bind_keeps _ _ (still_keeps _ (expression_takes)) (λ v4. bind_keeps _ _ (still_keeps _ (token_takes k.Semicolon)) (λ v5. pure_keeps _))))))

pub let_statement_begins : Begins (k.LetKeyword ∷ []) let_statement
unfolding let_statement
let_statement_begins = silent_begins _ docs _ docs_silent (λ v. bind_begins _ _ _ (token_begins k.LetKeyword _))

pub export_options_exact : Exact export_options
unfolding export_options
export_options_exact = begin_exact k.Ellipsis _ _ (bind _ _ (token_exact k.Ellipsis) (λ v0. pure_exact _)) (begin_exact k.AsKeyword _ _ (bind _ _ (bind _ _ (token_exact k.AsKeyword) (λ v0. extern_name_exact)) (λ v0. pure_exact _)) (pure_exact _))

pub export_options_keeps : Keeps export_options
unfolding export_options
export_options_keeps = begin_keeps k.Ellipsis _ _ (bind_keeps _ _ (still_keeps _ (token_takes k.Ellipsis)) (λ v0. pure_keeps _)) (begin_keeps k.AsKeyword _ _ (bind_keeps _ _ (bind_keeps _ _ (still_keeps _ (token_takes k.AsKeyword)) (λ v0. still_keeps _ (extern_name_takes))) (λ v0. pure_keeps _)) (pure_keeps _))

pub export_statement_exact : Exact export_statement
unfolding export_statement
export_statement_exact = bind _ _ (docs_exact) (λ v0. bind _ _ (token_exact k.ExportKeyword) (λ v1. bind _ _ (expression_exact) (λ v2. bind _ _ (export_options_exact) (λ v3. bind _ _ (token_exact k.Semicolon) (λ v4. pure_exact _)))))

pub export_statement_takes : Takes export_statement
unfolding export_statement
export_statement_takes = then_takes _ _ (docs_keeps) (λ v0. bind_takes _ _ (token_takes k.ExportKeyword) (λ v1. bind_keeps _ _ (still_keeps _ (expression_takes)) (λ v2. bind_keeps _ _ (export_options_keeps) (λ v3. bind_keeps _ _ (still_keeps _ (token_takes k.Semicolon)) (λ v4. pure_keeps _)))))

pub export_statement_begins : Begins (k.ExportKeyword ∷ []) export_statement
unfolding export_statement
export_statement_begins = silent_begins _ docs _ docs_silent (λ v. bind_begins _ _ _ (token_begins k.ExportKeyword _))

pub type_statement_exact : Exact type_statement
unfolding type_statement
type_statement_exact = begin_exact k.InterfaceKeyword _ _ (bind _ _ (interface_decl_exact) (λ v0. pure_exact _)) (begin_exact k.WorldKeyword _ _ (bind _ _ (world_decl_exact) (λ v0. pure_exact _)) (begin_any_exact type_decl_first _ _ (bind _ _ (type_decl_exact) (λ v0. pure_exact _)) (refuse_exact _)))

pub type_statement_takes : Takes type_statement
unfolding type_statement
type_statement_takes = begin_takes k.InterfaceKeyword _ _ (bind_takes _ _ (interface_decl_takes) (λ v0. pure_keeps _)) (begin_takes k.WorldKeyword _ _ (bind_takes _ _ (world_decl_takes) (λ v0. pure_keeps _)) (begin_any_takes type_decl_first _ _ (bind_takes _ _ (type_decl_takes) (λ v0. pure_keeps _)) (refuse_takes _)))

pub type_statement_begins : Begins type_statement_first type_statement
unfolding type_statement
type_statement_begins = begin_begins k.InterfaceKeyword _ _ _ (begin_begins k.WorldKeyword _ _ _ (last_begins type_decl_first _ _))

pub statement_exact : Exact statement
unfolding statement
statement_exact = begin_exact k.ImportKeyword _ _ (bind _ _ (import_statement_exact) (λ v0. pure_exact _)) (begin_exact k.LetKeyword _ _ (bind _ _ (let_statement_exact) (λ v0. pure_exact _)) (begin_exact k.ExportKeyword _ _ (bind _ _ (export_statement_exact) (λ v0. pure_exact _)) (begin_any_exact type_statement_first _ _ (bind _ _ (type_statement_exact) (λ v0. pure_exact _)) (refuse_exact _))))

pub statement_takes : Takes statement
unfolding statement
statement_takes = begin_takes k.ImportKeyword _ _ (bind_takes _ _ (import_statement_takes) (λ v0. pure_keeps _)) (begin_takes k.LetKeyword _ _ (bind_takes _ _ (let_statement_takes) (λ v0. pure_keeps _)) (begin_takes k.ExportKeyword _ _ (bind_takes _ _ (export_statement_takes) (λ v0. pure_keeps _)) (begin_any_takes type_statement_first _ _ (bind_takes _ _ (type_statement_takes) (λ v0. pure_keeps _)) (refuse_takes _))))

pub statement_begins : Begins statement_first statement
unfolding statement
statement_begins = begin_begins k.ImportKeyword _ _ _ (begin_begins k.LetKeyword _ _ _ (begin_begins k.ExportKeyword _ _ _ (last_begins type_statement_first _ _)))

pub targets_exact : Exact targets
unfolding targets
targets_exact = bind _ _ (optional_exact k.TargetsKeyword) (λ v0. choose_exact v0 _ _ (bind _ _ (package_path_exact) (λ v1. pure_exact _)) (pure_exact _))

pub targets_keeps : Keeps targets
unfolding targets
targets_keeps = bind_keeps _ _ (optional_keeps k.TargetsKeyword) (λ v0. choose_keeps v0 _ _ (bind_keeps _ _ (still_keeps _ (package_path_takes)) (λ v1. pure_keeps _)) (pure_keeps _))

pub package_directive_exact : Exact package_directive
unfolding package_directive
package_directive_exact = bind _ _ (token_exact k.PackageKeyword) (λ v0. bind _ _ (package_name_exact) (λ v1. bind _ _ (targets_exact) (λ v2. bind _ _ (token_exact k.Semicolon) (λ v3. pure_exact _))))

pub package_directive_takes : Takes package_directive
unfolding package_directive
package_directive_takes = bind_takes _ _ (token_takes k.PackageKeyword) (λ v0. bind_keeps _ _ (still_keeps _ (package_name_takes)) (λ v1. bind_keeps _ _ (targets_keeps) (λ v2. bind_keeps _ _ (still_keeps _ (token_takes k.Semicolon)) (λ v3. pure_keeps _))))

pub package_directive_begins : Begins (k.PackageKeyword ∷ []) package_directive
unfolding package_directive
package_directive_begins = bind_begins _ _ _ (token_begins k.PackageKeyword _)

pub document_exact : Exact document
unfolding document
document_exact = bind _ _ (docs_exact) (λ v0. bind _ _ (package_directive_exact) (λ v1. bind _ _ (all_exact statement statement_exact statement_takes) (λ v2. pure_exact _)))

pub document_takes : Takes document
unfolding document
document_takes = then_takes _ _ (docs_keeps) (λ v0. bind_takes _ _ (package_directive_takes) (λ v1. bind_keeps _ _ (all_keeps statement statement_exact statement_takes) (λ v2. pure_keeps _)))

-- a source that is read as a document has no refused character, and the rule reads it
pub read_by : (o : Option (Error × SourceSpan)) (r : Result (t.Document × Input) Fault) (d : t.Document) → by_refusal o r ≡ Ok d → (o ≡ None) × (end : Input) × (r ≡ Ok (d, end))
read_by (Some e) r d h = cc
read_by None (Ok p) d h = (refl, p.1, let same : p.0 ≡ d = cc in ap (λ (x : t.Document). Ok (x, p.1)) same)
read_by None (Err f) d h = cc
