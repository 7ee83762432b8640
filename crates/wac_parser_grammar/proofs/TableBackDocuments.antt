-- What has the plain form of a statement or a document is taken by the rule.
use Rattle.std.proofs.Common.{◌≤◌, inl, inr, true, false, List, [], ◌∷◌, Option, refl, subst, sym}
use Rattle.wac_parser_lexer.specs.declared.token.Token.TheVariants as k
use Rattle.wac_parser_lexer.specs.Items.{Input}
use Rattle.wac_parser_tree.specs.Trees as t
use Rattle.wac_parser_grammar.specs.Ahead.{same_token}
use Rattle.wac_parser_grammar.specs.Rules.{IsAll}
use Rattle.wac_parser_grammar.specs.Names as n
use Rattle.wac_parser_grammar.specs.ValueTypes as v
use Rattle.wac_parser_grammar.specs.Expressions as e
use Rattle.wac_parser_grammar.specs.Declarations as d
use Rattle.wac_parser_grammar.specs.Documents as o
use Rattle.wac_parser_grammar.specs.Forms.{At, Row, Behind, PackagePath}
use Rattle.wac_parser_grammar.specs.FormsOfDeclarations.{ExternName, ImportType, ImportStatement, LetStatement, ExportOptions, ExportStatement, TypeStatement, Statement, PackageDirective, Document}
use Rattle.wac_parser_grammar.specs.FormDepths.{Ends, AllFit, FuncEnds, expression_levels, ExpressionEnds, ImportTypeFits, OptionsEnd, TypeStatementFits, StatementFits, DocumentFits, AtEnd}
use Rattle.wac_parser_grammar.proofs.DeclLaws.{type_decl_begins}
use Rattle.wac_parser_grammar.proofs.WorldLaws.{interface_decl_begins, world_decl_begins}
use Rattle.wac_parser_grammar.proofs.DocumentLaws.{import_statement_begins, let_statement_begins, export_statement_begins, type_statement_begins}
use Rattle.wac_parser_grammar.proofs.TableBack.{seen, sees_at, any_at, ends_at, ident_back, string_back, package_name_back, package_path_back}
use Rattle.wac_parser_grammar.proofs.TableBackFuncs.{func_type_back, func_begun}
use Rattle.wac_parser_grammar.proofs.TableBackChoices.{only, other, func_ends, behind_back}
use Rattle.wac_parser_grammar.proofs.TableBackInterfaces.{type_decl_back, interface_decl_back, inline_interface_back}
use Rattle.wac_parser_grammar.proofs.TableBackWorlds.{world_decl_back}
use Rattle.wac_parser_grammar.proofs.TableBackExprs.{expression_back}

-- ---- imports

pub extern_name_back : (s : Input) (x : t.ExternName) (r : Input) → ExternName x s r → o.extern_name.Is x s r
unfolding o.extern_name same_token
extern_name_back s (t.ExternName.ident id) r h =
    (true, s, (sym (seen k.Ident id.span s r h.0), refl), inl (refl, (id, r, ident_back s id r h, (refl, refl))))
extern_name_back s (t.ExternName.string x) r h = (
  false,
  s,
  (sym (sees_at k.String k.Ident x.span s r h.0), refl),
  inr (
    refl,
    (true, s, (sym (seen k.String x.span s r h.0), refl), inl (refl, (x, r, string_back s x r h, (refl, refl)))),
  ),
)

pub import_type_back : (s : Input) (x : t.ImportType) (r : Input) → ImportTypeFits x → ImportType x s r → FuncEnds r → o.import_type.Is x s r
unfolding o.import_type same_token
import_type_back s (t.ImportType.package_path x) r fits h stop = (
  false,
  s,
  (sym (any_at k.PackagePath v.func_first x.span s r h.0), refl),
  inr (
    refl,
    (
      false,
      s,
      (sym (sees_at k.PackagePath k.InterfaceKeyword x.span s r h.0), refl),
      inr (
        refl,
        (true, s, (sym (seen k.PackagePath x.span s r h.0), refl), inl (refl, (x, r, package_path_back s x r h, (refl, refl)))),
      ),
    ),
  ),
)
import_type_back s (t.ImportType.func x) r fits h stop =
    let begun = func_begun x.is_async s h.0 h.2.0 h.2.1.0 h.1 h.2.1.1 in
    (true, s, (sym begun, refl), inl (refl, (x, r, func_type_back s x r fits h stop, (refl, refl))))
import_type_back s (t.ImportType.interface x) r fits h stop = (
  false,
  s,
  (sym (any_at k.InterfaceKeyword v.func_first h.1.0 s h.0 h.1.1), refl),
  inr (
    refl,
    (true, s, (sym (seen k.InterfaceKeyword h.1.0 s h.0 h.1.1), refl), inl (refl, (x, r, inline_interface_back s x r fits h, (refl, refl)))),
  ),
)
import_type_back s (t.ImportType.ident id) r fits h stop = (
  false,
  s,
  (sym (any_at k.Ident v.func_first id.span s r h.0), refl),
  inr (
    refl,
    (
      false,
      s,
      (sym (sees_at k.Ident k.InterfaceKeyword id.span s r h.0), refl),
      inr (
        refl,
        (
          false,
          s,
          (sym (sees_at k.Ident k.PackagePath id.span s r h.0), refl),
          inr (
            refl,
            (true, s, (sym (seen k.Ident id.span s r h.0), refl), inl (refl, (id, r, ident_back s id r h, (refl, refl)))),
          ),
        ),
      ),
    ),
  ),
)

pub import_name_back : (s : Input) (x : Option t.ExternName) (r : Input) → Behind k.AsKeyword ExternName x s r → Ends k.AsKeyword r → o.import_name.Is x s r
unfolding o.import_name
import_name_back s x r h stop = behind_back k.AsKeyword o.extern_name ExternName extern_name_back s x r h stop

pub import_statement_back : (s : Input) (x : t.ImportStatement) (r : Input) → ImportTypeFits x.ty → ImportStatement x s r → o.import_statement.Is x s r
unfolding o.import_statement n.docs same_token
import_statement_back s x r fits h =
    let i = h.2.2 in
    let name = i.2 in
    let colon = name.2 in
    let ty = colon.2 in (
      x.docs,
      h.0,
      h.1,
      (
        h.2.1.0,
        h.2.0,
        h.2.1.1,
        (
          x.id,
          i.0,
          ident_back h.2.0 x.id i.0 i.1,
          (
            x.name,
            name.0,
            import_name_back i.0 x.name name.0 name.1 (ends_at k.Colon k.AsKeyword colon.1.0 name.0 colon.0 refl colon.1.1),
            (
              colon.1.0,
              colon.0,
              colon.1.1,
              (x.ty, ty.0, import_type_back colon.0 x.ty ty.0 fits ty.1 (func_ends ty.2.0 ty.0 r ty.2.1), (ty.2.0, r, ty.2.1, (refl, refl))),
            ),
          ),
        ),
      ),
    )

-- ---- expressions

pub let_statement_back : (s : Input) (x : t.LetStatement) (r : Input) → expression_levels x.expr ≤ 128 → LetStatement x s r → o.let_statement.Is x s r
unfolding o.let_statement n.docs same_token
let_statement_back s x r few h =
    let i = h.2.2 in
    let equals = i.2 in
    let value = equals.2 in (
      x.docs,
      h.0,
      h.1,
      (
        h.2.1.0,
        h.2.0,
        h.2.1.1,
        (
          x.id,
          i.0,
          ident_back h.2.0 x.id i.0 i.1,
          (
            equals.1.0,
            equals.0,
            equals.1.1,
            (
              x.expr,
              value.0,
              expression_back equals.0 x.expr value.0 few value.1 (any_at k.Semicolon e.postfix_first value.2.0 value.0 r value.2.1),
              (value.2.0, r, value.2.1, (refl, refl)),
            ),
          ),
        ),
      ),
    )

pub export_options_back : (s : Input) (x : t.ExportOptions) (r : Input) → ExportOptions x s r → OptionsEnd r → o.export_options.Is x s r
unfolding o.export_options same_token
export_options_back s t.ExportOptions.none r h stop =
    let P : Input → Type 0 = λ (i : Input). OptionsEnd i in
    let ends = subst P h stop in
    (false, s, (sym ends.0, refl), inr (refl, (false, s, (sym ends.1, refl), inr (refl, (refl, h)))))
export_options_back s (t.ExportOptions.spread span) r h stop = (true, s, (sym (seen k.Ellipsis span s r h), refl), inl (refl, (span, r, h, (refl, refl))))
export_options_back s (t.ExportOptions.rename name) r h stop = (
  false,
  s,
  (sym (sees_at k.AsKeyword k.Ellipsis h.1.0 s h.0 h.1.1), refl),
  inr (
    refl,
    (
      true,
      s,
      (sym (seen k.AsKeyword h.1.0 s h.0 h.1.1), refl),
      inl (
        refl,
        (name, r, (h.1.0, h.0, h.1.1, extern_name_back h.0 name r h.2), (refl, refl)),
      ),
    ),
  ),
)

-- the options, or the semicolon behind them, end an expression
pub options_end : (x : t.ExportOptions) (s r m : Input) (span : t.Span) → ExportOptions x s r → At k.Semicolon span r m → ExpressionEnds s
unfolding same_token
options_end t.ExportOptions.none s r m span h at = let P : Input → Type 0 = λ (i : Input). ExpressionEnds i in subst P h (any_at k.Semicolon e.postfix_first span r m at)
options_end (t.ExportOptions.spread mark) s r m span h at = any_at k.Ellipsis e.postfix_first mark s r h
options_end (t.ExportOptions.rename name) s r m span h at = any_at k.AsKeyword e.postfix_first h.1.0 s h.0 h.1.1

pub export_statement_back : (s : Input) (x : t.ExportStatement) (r : Input) → expression_levels x.expr ≤ 128 → ExportStatement x s r → o.export_statement.Is x s r
unfolding o.export_statement n.docs same_token
export_statement_back s x r few h =
    let i = h.2.2 in
    let options = i.2 in
    let end = options.2 in
    let no_options : OptionsEnd options.0 = (sees_at k.Semicolon k.Ellipsis end.0 options.0 r end.1, sees_at k.Semicolon k.AsKeyword end.0 options.0 r end.1) in (
      x.docs,
      h.0,
      h.1,
      (
        h.2.1.0,
        h.2.0,
        h.2.1.1,
        (
          x.expr,
          i.0,
          expression_back h.2.0 x.expr i.0 few i.1 (options_end x.options i.0 options.0 r end.0 options.1 end.1),
          (x.options, options.0, export_options_back i.0 x.options options.0 options.1 no_options, (end.0, r, end.1, (refl, refl))),
        ),
      ),
    )

-- ---- statements

pub type_statement_back : (s : Input) (x : t.TypeStatement) (r : Input) → TypeStatementFits x → TypeStatement x s r → o.type_statement.Is x s r
unfolding o.type_statement same_token
type_statement_back s (t.TypeStatement.interface x) r fits h =
    let is = interface_decl_back s x r fits h in
    let begun = interface_decl_begins.begins s x r is in
    (true, s, (sym (only k.InterfaceKeyword s begun), refl), inl (refl, (x, r, is, (refl, refl))))
type_statement_back s (t.TypeStatement.world x) r fits h =
    let is = world_decl_back s x r fits h in
    let begun = world_decl_begins.begins s x r is in (
      false,
      s,
      (sym (other k.InterfaceKeyword (k.WorldKeyword ∷ []) s refl begun), refl),
      inr (
        refl,
        (true, s, (sym (only k.WorldKeyword s begun), refl), inl (refl, (x, r, is, (refl, refl)))),
      ),
    )
type_statement_back s (t.TypeStatement.ty x) r fits h =
    let is = type_decl_back s x r fits h in
    let begun = type_decl_begins.begins s x r is in (
      false,
      s,
      (sym (other k.InterfaceKeyword d.type_decl_first s refl begun), refl),
      inr (
        refl,
        (
          false,
          s,
          (sym (other k.WorldKeyword d.type_decl_first s refl begun), refl),
          inr (
            refl,
            (true, s, (sym begun, refl), inl (refl, (x, r, is, (refl, refl)))),
          ),
        ),
      ),
    )

pub statement_back : (s : Input) (x : t.Statement) (r : Input) → StatementFits x → Statement x s r → o.statement.Is x s r
unfolding o.statement same_token
statement_back s (t.Statement.import x) r fits h =
    let is = import_statement_back s x r fits h in
    let begun = import_statement_begins.begins s x r is in
    (true, s, (sym (only k.ImportKeyword s begun), refl), inl (refl, (x, r, is, (refl, refl))))
statement_back s (t.Statement.let_ x) r fits h =
    let is = let_statement_back s x r fits h in
    let begun = let_statement_begins.begins s x r is in (
      false,
      s,
      (sym (other k.ImportKeyword (k.LetKeyword ∷ []) s refl begun), refl),
      inr (
        refl,
        (true, s, (sym (only k.LetKeyword s begun), refl), inl (refl, (x, r, is, (refl, refl)))),
      ),
    )
statement_back s (t.Statement.export x) r fits h =
    let is = export_statement_back s x r fits h in
    let begun = export_statement_begins.begins s x r is in (
      false,
      s,
      (sym (other k.ImportKeyword (k.ExportKeyword ∷ []) s refl begun), refl),
      inr (
        refl,
        (
          false,
          s,
          (sym (other k.LetKeyword (k.ExportKeyword ∷ []) s refl begun), refl),
          inr (
            refl,
            (true, s, (sym (only k.ExportKeyword s begun), refl), inl (refl, (x, r, is, (refl, refl)))),
          ),
        ),
      ),
    )
statement_back s (t.Statement.ty x) r fits h =
    let is = type_statement_back s x r fits h in
    let begun = type_statement_begins.begins s x r is in (
      false,
      s,
      (sym (other k.ImportKeyword o.type_statement_first s refl begun), refl),
      inr (
        refl,
        (
          false,
          s,
          (sym (other k.LetKeyword o.type_statement_first s refl begun), refl),
          inr (
            refl,
            (
              false,
              s,
              (sym (other k.ExportKeyword o.type_statement_first s refl begun), refl),
              inr (
                refl,
                (true, s, (sym begun, refl), inl (refl, (x, r, is, (refl, refl)))),
              ),
            ),
          ),
        ),
      ),
    )

-- ---- documents

targets_back : (s : Input) (x : Option t.PackagePath) (r : Input) → Behind k.TargetsKeyword PackagePath x s r → Ends k.TargetsKeyword r → o.targets.Is x s r
unfolding o.targets
targets_back s x r h stop = behind_back k.TargetsKeyword n.package_path PackagePath package_path_back s x r h stop

pub package_directive_back : (s : Input) (x : t.PackageDirective) (r : Input) → PackageDirective x s r → o.package_directive.Is x s r
unfolding o.package_directive same_token
package_directive_back s x r h =
    let i = h.2 in
    let j = i.2 in
    let path = targets_back i.0 x.targets j.0 j.1 (ends_at k.Semicolon k.TargetsKeyword j.2.0 j.0 r refl j.2.1) in
    (h.1.0, h.0, h.1.1, (x.«package», i.0, package_name_back h.0 x.«package» i.0 i.1, (x.targets, j.0, path, (j.2.0, r, j.2.1, (refl, refl)))))

statements_back : (xs : List t.Statement) (s r : Input) → AllFit StatementFits xs → Row Statement xs s r → AtEnd r → IsAll o.statement.Is xs s r
statements_back [] s r fits h stop = let P : Input → Type 0 = λ (i : Input). AtEnd i in (subst P h stop, h)
statements_back (x ∷ xs) s r fits h stop = (h.0, statement_back s x h.0 fits.0 h.1, statements_back xs h.0 r fits.1 h.2 stop)

pub document_back : (s : Input) (x : t.Document) (r : Input) → DocumentFits x → Document x s r → AtEnd r → o.document.Is x s r
unfolding o.document n.docs
document_back s x r fits h stop =
    (x.docs, h.0, h.1, (x.directive, h.2.0, package_directive_back h.0 x.directive h.2.0 h.2.1, (x.statements, r, statements_back x.statements h.2.0 r fits h.2.2 stop, (refl, refl))))
