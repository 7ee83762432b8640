-- What has the plain form of a statement or a document is read, or refused as nested too deep.
use Rattle.std.proofs.Common.{◌≡◌, true, refl}
use Rattle.wac_parser_lexer.specs.declared.token.Token.TheVariants as k
use Rattle.wac_parser_lexer.specs.Items.{Input}
use Rattle.wac_parser_tree.specs.Trees as t
use Rattle.wac_parser_grammar.specs.Ahead.{same_token, sees_any}
use Rattle.wac_parser_grammar.specs.Expressions as e
use Rattle.wac_parser_grammar.specs.Declarations as d
use Rattle.wac_parser_grammar.specs.Documents as o
use Rattle.wac_parser_grammar.specs.FormsOfDeclarations.{ImportType, ImportStatement, LetStatement, ExportStatement, TypeStatement, Statement, Document}
use Rattle.wac_parser_grammar.specs.FormDepths.{FuncEnds, OptionsEnd, AtEnd}
use Rattle.wac_parser_grammar.proofs.DocumentLaws.{import_name_exact, export_options_exact, statement_exact, statement_takes, package_directive_exact}
use Rattle.wac_parser_grammar.proofs.TableBack.{sees_at, any_at, ends_at}
use Rattle.wac_parser_grammar.proofs.TableBackFuncs.{func_begun}
use Rattle.wac_parser_grammar.proofs.TableBackChoices.{other, func_ends}
use Rattle.wac_parser_grammar.proofs.TableBackDocuments.{export_options_back, package_directive_back, options_end, import_name_back}
use Rattle.wac_parser.proofs.OrDeep.{Meets, met, taken, go, at, as_one, next, behind_docs, seeing_any, come, pass, past, any_here, pass_any, docs_met, ident_met, package_path_met}
use Rattle.wac_parser.proofs.OrDeepLists.{all_met}
use Rattle.wac_parser.proofs.FuncsOrDeep.{func_type_met}
use Rattle.wac_parser.proofs.DeclsOrDeep.{type_decl_met, type_decl_begun}
use Rattle.wac_parser.proofs.WorldsOrDeep.{wider, interface_decl_met, inline_interface_met, world_decl_met}
use Rattle.wac_parser.proofs.ExprsOrDeep.{expression_met}

-- ---- imports

import_type_met : (s : Input) (x : t.ImportType) (r : Input) → ImportType x s r → FuncEnds r → Meets o.import_type s x r
unfolding o.import_type same_token
import_type_met s (t.ImportType.package_path x) r h stop =
    let nx = next h.0 in pass_any _ _ nx refl (pass _ _ nx refl (come _ nx (as_one t.ImportType.package_path (package_path_met h))))
import_type_met s (t.ImportType.func x) r h stop = any_here _ _ (func_begun x.is_async s h.0 h.2.0 h.2.1.0 h.1 h.2.1.1) (as_one t.ImportType.func (func_type_met s x r h stop))
import_type_met s (t.ImportType.interface x) r h stop =
    let nx = next h.1.1 in pass_any _ _ nx refl (come _ nx (as_one t.ImportType.interface (inline_interface_met s x r h)))
import_type_met s (t.ImportType.ident id) r h stop =
    let nx = next h.0 in pass_any _ _ nx refl (pass _ _ nx refl (pass _ _ nx refl (come _ nx (as_one t.ImportType.ident (ident_met h)))))

import_statement_met : (s : Input) (x : t.ImportStatement) (r : Input) → ImportStatement x s r → Meets o.import_statement s x r
unfolding o.import_statement same_token
import_statement_met s x r h =
    let i = h.2.2 in
    let name = i.2 in
    let colon = name.2 in
    let ty = colon.2 in
    let end = ty.2 in
    let named = import_name_back i.0 x.name name.0 name.1 (ends_at k.Colon k.AsKeyword colon.1.0 name.0 colon.0 refl colon.1.1) in
    go _ (docs_met h.1) (go _ (at h.2.1.1) (go _ (ident_met i.1) (go _ (taken import_name_exact named)
    (go _ (at colon.1.1) (go _ (import_type_met colon.0 x.ty ty.0 ty.1 (func_ends end.0 ty.0 r end.1)) (go _ (at end.1) (met refl)))))))

-- ---- expressions

let_statement_met : (s : Input) (x : t.LetStatement) (r : Input) → LetStatement x s r → Meets o.let_statement s x r
unfolding o.let_statement same_token
let_statement_met s x r h =
    let i = h.2.2 in
    let equals = i.2 in
    let value = equals.2 in
    let end = value.2 in
    go _ (docs_met h.1) (go _ (at h.2.1.1) (go _ (ident_met i.1) (go _ (at equals.1.1)
    (go _ (expression_met equals.0 x.expr value.0 value.1 (any_at k.Semicolon e.postfix_first end.0 value.0 r end.1)) (go _ (at end.1) (met refl))))))

export_statement_met : (s : Input) (x : t.ExportStatement) (r : Input) → ExportStatement x s r → Meets o.export_statement s x r
unfolding o.export_statement same_token
export_statement_met s x r h =
    let i = h.2.2 in
    let options = i.2 in
    let end = options.2 in
    let no_options : OptionsEnd options.0 = (sees_at k.Semicolon k.Ellipsis end.0 options.0 r end.1, sees_at k.Semicolon k.AsKeyword end.0 options.0 r end.1) in
    go _ (docs_met h.1) (go _ (at h.2.1.1) (go _ (expression_met h.2.0 x.expr i.0 i.1 (options_end x.options i.0 options.0 r end.0 options.1 end.1))
    (go _ (taken export_options_exact (export_options_back i.0 x.options options.0 options.1 no_options)) (go _ (at end.1) (met refl)))))

-- ---- statements

type_statement_met : (s : Input) (x : t.TypeStatement) (r : Input) → TypeStatement x s r → Meets o.type_statement s x r
unfolding o.type_statement same_token
type_statement_met s (t.TypeStatement.interface x) r h = come _ (behind_docs h.1.1 h.2.1.1) (as_one t.TypeStatement.interface (interface_decl_met s x r h))
type_statement_met s (t.TypeStatement.world x) r h =
    let nx = behind_docs h.1.1 h.2.1.1 in pass _ _ nx refl (come _ nx (as_one t.TypeStatement.world (world_decl_met s x r h)))
type_statement_met s (t.TypeStatement.ty x) r h =
    let begun = type_decl_begun s x r h in
    past k.InterfaceKeyword _ (other k.InterfaceKeyword d.type_decl_first s refl begun) (past k.WorldKeyword _ (other k.WorldKeyword d.type_decl_first s refl begun)
    (any_here _ _ begun (as_one t.TypeStatement.ty (type_decl_met s x r h))))

type_statement_begun : (s : Input) (x : t.TypeStatement) (r : Input) → TypeStatement x s r → sees_any o.type_statement_first s ≡ true
unfolding same_token
type_statement_begun s (t.TypeStatement.interface x) r h = seeing_any o.type_statement_first (behind_docs h.1.1 h.2.1.1)
type_statement_begun s (t.TypeStatement.world x) r h = seeing_any o.type_statement_first (behind_docs h.1.1 h.2.1.1)
type_statement_begun s (t.TypeStatement.ty x) r h = wider k.InterfaceKeyword _ s (wider k.WorldKeyword _ s (type_decl_begun s x r h))

statement_met : (s : Input) (x : t.Statement) (r : Input) → Statement x s r → Meets o.statement s x r
unfolding o.statement same_token
statement_met s (t.Statement.import x) r h = come _ (behind_docs h.1.1 h.2.1.1) (as_one t.Statement.import (import_statement_met s x r h))
statement_met s (t.Statement.let_ x) r h = let nx = behind_docs h.1.1 h.2.1.1 in pass _ _ nx refl (come _ nx (as_one t.Statement.let_ (let_statement_met s x r h)))
statement_met s (t.Statement.export x) r h =
    let nx = behind_docs h.1.1 h.2.1.1 in pass _ _ nx refl (pass _ _ nx refl (come _ nx (as_one t.Statement.export (export_statement_met s x r h))))
statement_met s (t.Statement.ty x) r h =
    let begun = type_statement_begun s x r h in
    past k.ImportKeyword _ (other k.ImportKeyword o.type_statement_first s refl begun) (past k.LetKeyword _ (other k.LetKeyword o.type_statement_first s refl begun)
    (past k.ExportKeyword _ (other k.ExportKeyword o.type_statement_first s refl begun) (any_here _ _ begun (as_one t.Statement.ty (type_statement_met s x r h)))))

statement_begun : (s : Input) (x : t.Statement) (r : Input) → Statement x s r → sees_any o.statement_first s ≡ true
unfolding same_token
statement_begun s (t.Statement.import x) r h = seeing_any o.statement_first (behind_docs h.1.1 h.2.1.1)
statement_begun s (t.Statement.let_ x) r h = seeing_any o.statement_first (behind_docs h.1.1 h.2.1.1)
statement_begun s (t.Statement.export x) r h = seeing_any o.statement_first (behind_docs h.1.1 h.2.1.1)
statement_begun s (t.Statement.ty x) r h = wider k.ImportKeyword _ s (wider k.LetKeyword _ s (wider k.ExportKeyword _ s (type_statement_begun s x r h)))

-- ---- documents

pub document_met : (s : Input) (x : t.Document) (r : Input) → Document x s r → AtEnd r → Meets o.document s x r
unfolding o.document
document_met s x r h end =
    let i = h.2 in
    go _ (docs_met h.1) (go _ (taken package_directive_exact (package_directive_back h.0 x.directive i.0 i.1))
    (go _ (all_met o.statement Statement o.statement_first statement_met statement_begun statement_exact statement_takes x.statements i.0 r i.2 end) (met refl)))
