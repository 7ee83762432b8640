-- The rules of statements and documents accept only their plain forms.
use Rattle.std.proofs.Common.{refl}
use Rattle.wac_parser_lexer.specs.declared.token.Token.TheVariants as k
use Rattle.wac_parser_tree.specs.Trees as t
use Rattle.wac_parser_grammar.specs.Rules.{◌>>◌, token}
use Rattle.wac_parser_grammar.specs.Names as n
use Rattle.wac_parser_grammar.specs.ValueTypes as v
use Rattle.wac_parser_grammar.specs.Declarations as d
use Rattle.wac_parser_grammar.specs.Worlds as w
use Rattle.wac_parser_grammar.specs.Documents as o
use Rattle.wac_parser_grammar.specs.Forms.{Word, ◌⨾◌, Behind, PackagePath}
use Rattle.wac_parser_grammar.specs.FormsOfDeclarations.{ExternName, ImportType, ImportStatement, LetStatement, ExportOptions, ExportStatement, TypeStatement, Statement, PackageDirective, Document}
use Rattle.wac_parser_grammar.proofs.TableExprs.{expression_within}
use Rattle.wac_parser_grammar.proofs.TableDecls.{type_decl_within}
use Rattle.wac_parser_grammar.proofs.TableWorlds.{interface_decl_within, inline_interface_within, world_decl_within}
use Rattle.wac_parser_grammar.proofs.TableLaws.{Within, pure_within, refuse_within, made, begin_within, begin_any_within, behind_token_within, all_within}
use Rattle.wac_parser_grammar.proofs.TableTypes.{docs_within, ident_within, string_within, package_name_within, package_path_within, func_type_within}

pub extern_name_within : Within o.extern_name ExternName
unfolding o.extern_name
extern_name_within =
    begin_within k.Ident _ _ ExternName (made n.ident t.ExternName.ident ExternName (record { within = ident_within.within }))
    (begin_within k.String _ _ ExternName (made n.string t.ExternName.string ExternName (record { within = string_within.within }))
    (refuse_within _ ExternName))

pub import_type_within : Within o.import_type ImportType
unfolding o.import_type
import_type_within =
    begin_any_within v.func_first _ _ ImportType (made v.func_type t.ImportType.func ImportType (record { within = func_type_within.within }))
    (begin_within k.InterfaceKeyword _ _ ImportType (made w.inline_interface t.ImportType.interface ImportType (record { within = inline_interface_within.within }))
    (begin_within k.PackagePath _ _ ImportType (made n.package_path t.ImportType.package_path ImportType (record { within = package_path_within.within }))
    (begin_within k.Ident _ _ ImportType (made n.ident t.ImportType.ident ImportType (record { within = ident_within.within }))
    (refuse_within _ ImportType))))

pub import_name_within : Within o.import_name (Behind k.AsKeyword ExternName)
unfolding o.import_name
import_name_within = behind_token_within k.AsKeyword o.extern_name ExternName extern_name_within

pub import_statement_within : Within o.import_statement ImportStatement
unfolding o.import_statement
import_statement_within = record { within = λ s x r h. rw (h.3.3.3.3.3.3.3.0, h.3.3.3.3.3.3.3.1) (h.1, docs_within.within s h.0 h.1 h.2, (h.3.1, (h.3.0, h.3.2), (h.3.3.1, ident_within.within h.3.1 h.3.3.0 h.3.3.1 h.3.3.2, (h.3.3.3.1, import_name_within.within h.3.3.1 h.3.3.3.0 h.3.3.3.1 h.3.3.3.2, (h.3.3.3.3.1, (h.3.3.3.3.0, h.3.3.3.3.2), (h.3.3.3.3.3.1, import_type_within.within h.3.3.3.3.1 h.3.3.3.3.3.0 h.3.3.3.3.3.1 h.3.3.3.3.3.2, (h.3.3.3.3.3.3.0, h.3.3.3.3.3.3.2))))))) }

pub let_statement_within : Within o.let_statement LetStatement
unfolding o.let_statement
let_statement_within = record { within = λ s x r h. rw (h.3.3.3.3.3.3.0, h.3.3.3.3.3.3.1) (h.1, docs_within.within s h.0 h.1 h.2, (h.3.1, (h.3.0, h.3.2), (h.3.3.1, ident_within.within h.3.1 h.3.3.0 h.3.3.1 h.3.3.2, (h.3.3.3.1, (h.3.3.3.0, h.3.3.3.2), (h.3.3.3.3.1, expression_within.within h.3.3.3.1 h.3.3.3.3.0 h.3.3.3.3.1 h.3.3.3.3.2, (h.3.3.3.3.3.0, h.3.3.3.3.3.2)))))) }

renamed : Within (token k.AsKeyword >> o.extern_name) (λ name. Word k.AsKeyword ⨾ ExternName name)
renamed = record { within = λ s x r h. (h.1, (h.0, h.2), extern_name_within.within h.1 x r h.3) }

pub export_options_within : Within o.export_options ExportOptions
unfolding o.export_options
export_options_within =
    begin_within k.Ellipsis _ _ ExportOptions (made (token k.Ellipsis) t.ExportOptions.spread ExportOptions (record { within = λ s x r h. h }))
    (begin_within k.AsKeyword _ _ ExportOptions (made (token k.AsKeyword >> o.extern_name) t.ExportOptions.rename ExportOptions (record { within = renamed.within }))
    (pure_within t.ExportOptions.none ExportOptions (λ s. refl)))

pub export_statement_within : Within o.export_statement ExportStatement
unfolding o.export_statement
export_statement_within = record { within = λ s x r h. rw (h.3.3.3.3.3.0, h.3.3.3.3.3.1) (h.1, docs_within.within s h.0 h.1 h.2, (h.3.1, (h.3.0, h.3.2), (h.3.3.1, expression_within.within h.3.1 h.3.3.0 h.3.3.1 h.3.3.2, (h.3.3.3.1, export_options_within.within h.3.3.1 h.3.3.3.0 h.3.3.3.1 h.3.3.3.2, (h.3.3.3.3.0, h.3.3.3.3.2))))) }

pub type_statement_within : Within o.type_statement TypeStatement
unfolding o.type_statement
type_statement_within =
    begin_within k.InterfaceKeyword _ _ TypeStatement (made w.interface_decl t.TypeStatement.interface TypeStatement (record { within = interface_decl_within.within }))
    (begin_within k.WorldKeyword _ _ TypeStatement (made w.world_decl t.TypeStatement.world TypeStatement (record { within = world_decl_within.within }))
    (begin_any_within d.type_decl_first _ _ TypeStatement (made d.type_decl t.TypeStatement.ty TypeStatement (record { within = type_decl_within.within }))
    (refuse_within _ TypeStatement)))

pub statement_within : Within o.statement Statement
unfolding o.statement
statement_within =
    begin_within k.ImportKeyword _ _ Statement (made o.import_statement t.Statement.import Statement (record { within = import_statement_within.within }))
    (begin_within k.LetKeyword _ _ Statement (made o.let_statement t.Statement.let_ Statement (record { within = let_statement_within.within }))
    (begin_within k.ExportKeyword _ _ Statement (made o.export_statement t.Statement.export Statement (record { within = export_statement_within.within }))
    (begin_any_within o.type_statement_first _ _ Statement (made o.type_statement t.Statement.ty Statement (record { within = type_statement_within.within }))
    (refuse_within _ Statement))))

pub targets_within : Within o.targets (Behind k.TargetsKeyword PackagePath)
unfolding o.targets
targets_within = behind_token_within k.TargetsKeyword n.package_path PackagePath package_path_within

pub package_directive_within : Within o.package_directive PackageDirective
unfolding o.package_directive
package_directive_within = record { within = λ s x r h. rw (h.3.3.3.3.0, h.3.3.3.3.1) (h.1, (h.0, h.2), (h.3.1, package_name_within.within h.1 h.3.0 h.3.1 h.3.2, (h.3.3.1, targets_within.within h.3.1 h.3.3.0 h.3.3.1 h.3.3.2, (h.3.3.3.0, h.3.3.3.2)))) }

pub document_within : Within o.document Document
unfolding o.document
document_within = record { within = λ s x r h. rw (h.3.3.3.0, h.3.3.3.1) (h.1, docs_within.within s h.0 h.1 h.2, (h.3.1, package_directive_within.within h.1 h.3.0 h.3.1 h.3.2, (all_within o.statement Statement statement_within).within h.3.1 h.3.3.0 h.3.3.1 h.3.3.2)) }
