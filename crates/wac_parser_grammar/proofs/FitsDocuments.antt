-- What the rules of expressions, statements and documents take is nested no deeper than they have room for.
use Rattle.std.proofs.Common.{ℕ, zero, suc, ◌≤◌, inl, inr, true, List, [], ◌∷◌, arith}
use Rattle.std.proofs.Math.Nat.{max-le}
use Rattle.wac_parser_lexer.specs.declared.token.Token.TheVariants as k
use Rattle.wac_parser_tree.specs.Trees as t
use Rattle.wac_parser_grammar.specs.Rules.{Rule}
use Rattle.wac_parser_grammar.specs.Names as n
use Rattle.wac_parser_grammar.specs.ValueTypes as v
use Rattle.wac_parser_grammar.specs.Expressions as e
use Rattle.wac_parser_grammar.specs.Declarations as d
use Rattle.wac_parser_grammar.specs.Worlds as w
use Rattle.wac_parser_grammar.specs.Documents as o
use Rattle.wac_parser_grammar.specs.FormDepths.{expression_levels, primary_levels, new_levels, argument_levels, named_levels, nested_levels, levels_of_arguments, AllFit, ImportTypeFits, TypeStatementFits, StatementFits, DocumentFits, IsFitting}
use Rattle.wac_parser_grammar.proofs.FitsTypes.{refuse_fits, made_fits, made_always, begin_fits, begin_any_fits, list_fits, all_fit, func_type_fits}
use Rattle.wac_parser_grammar.proofs.FitsDecls.{type_decl_fits, interface_decl_fits, inline_interface_fits, world_decl_fits}

-- ---- expressions

listed_levels : (depth : ℕ) (xs : List t.InstantiationArgument) → AllFit (λ x. argument_levels x ≤ depth) xs → levels_of_arguments (t.arguments xs) ≤ depth
listed_levels depth [] f = omega arith
listed_levels depth (x ∷ xs) f = max-le f.0 (listed_levels depth xs f.1)

module _ (depth : ℕ) (inner : Rule t.Expr) (inside : IsFitting inner (λ x. expression_levels x ≤ depth)) where
  abbrev ArgumentFits : t.InstantiationArgument → Type 0
  ArgumentFits x = argument_levels x ≤ depth

  abbrev PrimaryFits : t.PrimaryExpr → Type 0
  PrimaryFits x = primary_levels x ≤ depth

  pub nested_expr_fits : IsFitting (e.nested_expr inner) (λ x. nested_levels x ≤ depth)
  unfolding e.nested_expr
  nested_expr_fits = record { fits = λ s x r h. rw (h.3.3.3.0) (inside.fits h.1 h.3.0 h.3.1 h.3.2) }

  value_fits : (name : t.InstantiationArgumentName) → IsFitting (e.argument_value inner name) (λ x. named_levels x ≤ depth)
  unfolding e.argument_value
  value_fits name = record { fits = λ s x r h. rw (h.3.3.0) (inside.fits h.1 h.3.0 h.3.1 h.3.2) }

  pub named_argument_fits : IsFitting (e.named_argument inner) (λ x. named_levels x ≤ depth)
  unfolding e.named_argument
  named_argument_fits = record { fits = λ s x r h. (value_fits h.0).fits h.1 x r h.3 }

  ident_argument_fits : IsFitting (e.ident_argument inner) ArgumentFits
  unfolding e.ident_argument
  ident_argument_fits = record {
    fits = λ s x r h. elim h.3.3 [
      | inl c ↦ rw (c.1.3.0) ((value_fits (t.InstantiationArgumentName.ident h.0)).fits h.3.1 c.1.0 c.1.1 c.1.2)
      | inr c ↦ rw (c.1.0) (omega arith)
    ];
  }

  string_argument_fits : IsFitting (e.string_argument inner) ArgumentFits
  unfolding e.string_argument
  string_argument_fits = record {
    fits = λ s x r h. elim h.3.3 [
      | inl c ↦ rw (c.1.3.0) ((value_fits (t.InstantiationArgumentName.string h.0)).fits h.3.1 c.1.0 c.1.1 c.1.2)
      | inr c ↦ absurd c.1
    ];
  }

  spread_or_fill_fits : IsFitting e.spread_or_fill ArgumentFits
  unfolding e.spread_or_fill
  spread_or_fill_fits = record { fits = λ s x r h. elim h.3.3 [ inl c ↦ rw (c.1.0) (omega arith) | inr c ↦ rw (c.1.3.0) (omega arith) ] }

  pub instantiation_argument_fits : IsFitting (e.instantiation_argument inner) ArgumentFits
  unfolding e.instantiation_argument
  instantiation_argument_fits =
      begin_fits k.Ellipsis _ _ ArgumentFits spread_or_fill_fits
      (begin_fits k.Ident _ _ ArgumentFits ident_argument_fits (begin_fits k.String _ _ ArgumentFits string_argument_fits (refuse_fits _ ArgumentFits)))

  pub new_expr_fits : IsFitting (e.new_expr inner) (λ x. new_levels x ≤ depth)
  unfolding e.new_expr
  new_expr_fits = record {
    fits = λ s x r h.
        let all = list_fits (e.instantiation_argument inner) ArgumentFits instantiation_argument_fits k.CloseBrace true h.3.3.3.0 h.3.3.1 h.3.3.3.1 h.3.3.3.2 in
        rw (h.3.3.3.3.3.0) (listed_levels depth h.3.3.3.0 all);
  }

  pub primary_expr_fits : IsFitting (e.primary_expr inner) PrimaryFits
  unfolding e.primary_expr
  primary_expr_fits =
      begin_fits k.NewKeyword _ _ PrimaryFits (made_fits (e.new_expr inner) t.PrimaryExpr.new PrimaryFits (record { fits = new_expr_fits.fits }))
      (begin_fits k.OpenParen _ _ PrimaryFits (made_fits (e.nested_expr inner) t.PrimaryExpr.nested PrimaryFits (record { fits = nested_expr_fits.fits }))
      (begin_fits k.Ident _ _ PrimaryFits (made_always n.ident t.PrimaryExpr.ident PrimaryFits (λ id. omega arith)) (refuse_fits _ PrimaryFits)))

  expr_level_fits : IsFitting (e.expr_level inner) (λ x. expression_levels x ≤ suc depth)
  unfolding e.expr_level
  expr_level_fits = record { fits = λ s x r h. let few = primary_expr_fits.fits s h.0 h.1 h.2 in rw (h.3.3.0) (omega (arith, few)) }

pub expr_fits : (depth : ℕ) → IsFitting (e.expr depth) (λ x. expression_levels x ≤ depth)
unfolding e.expr
expr_fits zero = begin_any_fits e.expr_first _ _ (λ x. expression_levels x ≤ 0) (refuse_fits _ (λ x. expression_levels x ≤ 0)) (refuse_fits _ (λ x. expression_levels x ≤ 0))
expr_fits (suc depth) = expr_level_fits depth (e.expr depth) (expr_fits depth)

pub expression_fits : IsFitting e.expression (λ x. expression_levels x ≤ 128)
unfolding e.expression
expression_fits = expr_fits 128

-- ---- statements and documents

pub import_type_fits : IsFitting o.import_type ImportTypeFits
unfolding o.import_type
import_type_fits =
    begin_any_fits v.func_first _ _ ImportTypeFits (made_fits v.func_type t.ImportType.func ImportTypeFits (record { fits = func_type_fits.fits }))
    (begin_fits k.InterfaceKeyword _ _ ImportTypeFits (made_fits w.inline_interface t.ImportType.interface ImportTypeFits (record { fits = inline_interface_fits.fits }))
    (begin_fits k.PackagePath _ _ ImportTypeFits (made_always n.package_path t.ImportType.package_path ImportTypeFits (λ x. tt))
    (begin_fits k.Ident _ _ ImportTypeFits (made_always n.ident t.ImportType.ident ImportTypeFits (λ id. tt)) (refuse_fits _ ImportTypeFits))))

pub import_statement_fits : IsFitting o.import_statement (λ x. ImportTypeFits x.ty)
unfolding o.import_statement
import_statement_fits = record { fits = λ s x r h. rw (h.3.3.3.3.3.3.3.0) (import_type_fits.fits h.3.3.3.3.1 h.3.3.3.3.3.0 h.3.3.3.3.3.1 h.3.3.3.3.3.2) }

pub let_statement_fits : IsFitting o.let_statement (λ x. expression_levels x.expr ≤ 128)
unfolding o.let_statement
let_statement_fits = record { fits = λ s x r h. rw (h.3.3.3.3.3.3.0) (expression_fits.fits h.3.3.3.1 h.3.3.3.3.0 h.3.3.3.3.1 h.3.3.3.3.2) }

pub export_statement_fits : IsFitting o.export_statement (λ x. expression_levels x.expr ≤ 128)
unfolding o.export_statement
export_statement_fits = record { fits = λ s x r h. rw (h.3.3.3.3.3.0) (expression_fits.fits h.3.1 h.3.3.0 h.3.3.1 h.3.3.2) }

pub type_statement_fits : IsFitting o.type_statement TypeStatementFits
unfolding o.type_statement
type_statement_fits =
    begin_fits k.InterfaceKeyword _ _ TypeStatementFits (made_fits w.interface_decl t.TypeStatement.interface TypeStatementFits (record { fits = interface_decl_fits.fits }))
    (begin_fits k.WorldKeyword _ _ TypeStatementFits (made_fits w.world_decl t.TypeStatement.world TypeStatementFits (record { fits = world_decl_fits.fits }))
    (begin_any_fits d.type_decl_first _ _ TypeStatementFits (made_fits d.type_decl t.TypeStatement.ty TypeStatementFits (record { fits = type_decl_fits.fits }))
    (refuse_fits _ TypeStatementFits)))

pub statement_fits : IsFitting o.statement StatementFits
unfolding o.statement
statement_fits =
    begin_fits k.ImportKeyword _ _ StatementFits (made_fits o.import_statement t.Statement.import StatementFits (record { fits = import_statement_fits.fits }))
    (begin_fits k.LetKeyword _ _ StatementFits (made_fits o.let_statement t.Statement.let_ StatementFits (record { fits = let_statement_fits.fits }))
    (begin_fits k.ExportKeyword _ _ StatementFits (made_fits o.export_statement t.Statement.export StatementFits (record { fits = export_statement_fits.fits }))
    (begin_any_fits o.type_statement_first _ _ StatementFits (made_fits o.type_statement t.Statement.ty StatementFits (record { fits = type_statement_fits.fits }))
    (refuse_fits _ StatementFits))))

pub document_fits : IsFitting o.document DocumentFits
unfolding o.document
document_fits = record { fits = λ s x r h. rw (h.3.3.3.0) (all_fit o.statement StatementFits statement_fits h.3.3.0 h.3.1 h.3.3.1 h.3.3.2) }
