-- The rules of expressions accept only their plain forms.
use Rattle.std.proofs.Common.{ℕ, zero, suc, inl, inr, true, List, [], ◌∷◌, refl, ◌∙◌}
use Rattle.wac_parser_lexer.specs.declared.token.Token.TheVariants as k
use Rattle.wac_parser_lexer.specs.Items.{Input}
use Rattle.wac_parser_tree.specs.Trees as t
use Rattle.wac_parser_grammar.specs.Rules.{Rule, list_of}
use Rattle.wac_parser_grammar.specs.Names as n
use Rattle.wac_parser_grammar.specs.Expressions as e
use Rattle.wac_parser_grammar.specs.Forms.{Further, Separated, Ident, ArgumentName, Access, NamedAccess, Postfix, Expr, Primary, New, Argument, NamedArgument, Nested, Arguments, FurtherArguments}
use Rattle.wac_parser_grammar.proofs.Exact.{Begins}
use Rattle.wac_parser_grammar.proofs.ExprLaws.{expr_exact, expr_takes, instantiation_argument_begins}
use Rattle.wac_parser_grammar.proofs.TableLaws.{Within, refuse_within, made, begin_within, begin_any_within, moved, list_within, while_within}
use Rattle.wac_parser_grammar.proofs.TableTypes.{ident_within, string_within, new_package_within}

pub argument_name_within : Within e.argument_name ArgumentName
unfolding e.argument_name
argument_name_within =
    begin_within k.Ident _ _ ArgumentName (made n.ident t.InstantiationArgumentName.ident ArgumentName (record { within = ident_within.within }))
    (begin_within k.String _ _ ArgumentName (made n.string t.InstantiationArgumentName.string ArgumentName (record { within = string_within.within }))
    (refuse_within _ ArgumentName))

pub access_expr_within : Within e.access_expr Access
unfolding e.access_expr
access_expr_within = record { within = λ s x r h. rw (h.3.3.0, h.3.3.1) (h.0, refl, (h.1, h.2, ident_within.within h.1 h.3.0 h.3.1 h.3.2)) }

pub named_access_expr_within : Within e.named_access_expr NamedAccess
unfolding e.named_access_expr
named_access_expr_within = record { within = λ s x r h. rw (h.3.3.3.0, h.3.3.3.1) (h.0, h.3.3.0, refl, (h.1, h.2, (h.3.1, string_within.within h.1 h.3.0 h.3.1 h.3.2, h.3.3.2))) }

pub postfix_expr_within : Within e.postfix_expr Postfix
unfolding e.postfix_expr
postfix_expr_within =
    begin_within k.Dot _ _ Postfix (made e.access_expr t.PostfixExpr.access Postfix (record { within = access_expr_within.within }))
    (made e.named_access_expr t.PostfixExpr.named_access Postfix (record { within = named_access_expr_within.within }))

pub spread_or_fill_within : Within e.spread_or_fill Argument
unfolding e.spread_or_fill
spread_or_fill_within = record {
  within = λ s x r h. elim h.3.3 [
    | inl w ↦ rw (w.1.0, w.1.1 ∙ h.3.2.1) h.2
    | inr w ↦ rw (w.1.3.0, w.1.3.1) (h.1, (h.0, h.2), moved (Ident w.1.0) h.3.1 h.1 w.1.1 h.3.2.1 (ident_within.within h.3.1 w.1.0 w.1.1 w.1.2))
  ];
}

further_arguments : (xs : List t.InstantiationArgument) (s r : Input) → Further Argument xs s r → FurtherArguments (t.arguments xs) s r
further_arguments [] s r h = h
further_arguments (x ∷ xs) s r h = (h.0, h.1, (h.2.0, h.2.1, further_arguments xs h.2.0 r h.2.2))

arguments : (xs : List t.InstantiationArgument) (s r : Input) → Separated Argument xs s r → Arguments (t.arguments xs) s r
arguments [] s r h = h
arguments (x ∷ xs) s r h = (h.0, h.1, further_arguments xs h.0 r h.2)

module _ (inner : Rule t.Expr) (value : Within inner Expr) (begins : Begins e.argument_first (e.instantiation_argument inner)) where
  pub nested_expr_within : Within (e.nested_expr inner) Nested
  unfolding e.nested_expr
  nested_expr_within = record { within = λ s x r h. rw (h.3.3.3.0, h.3.3.3.1) (h.0, h.3.3.0, refl, (h.1, h.2, (h.3.1, value.within h.1 h.3.0 h.3.1 h.3.2, h.3.3.2))) }

  value_by : (name : t.InstantiationArgumentName) (s m : Input) → ArgumentName name s m → (x : t.NamedInstantiationArgument) (r : Input) → (e.argument_value inner name).Is x m r → NamedArgument x s r
  unfolding e.argument_value
  value_by name s m named x r h = rw (h.3.3.0, h.3.3.1) (m, named, (h.1, (h.0, h.2), value.within h.1 h.3.0 h.3.1 h.3.2))

  pub named_argument_within : Within (e.named_argument inner) NamedArgument
  unfolding e.named_argument
  named_argument_within = record { within = λ s x r h. value_by h.0 s h.1 (argument_name_within.within s h.0 h.1 h.2) x r h.3 }

  ident_argument_within : Within (e.ident_argument inner) Argument
  unfolding e.ident_argument
  ident_argument_within = record {
    within = λ s x r h. let id = ident_within.within s h.0 h.1 h.2 in
        let name = t.InstantiationArgumentName.ident h.0 in
        elim h.3.3 [
          | inl w ↦ rw (w.1.3.0, w.1.3.1) (value_by name s h.1 id w.1.0 w.1.1 (moved ((e.argument_value inner name).Is w.1.0) h.3.1 h.1 w.1.1 h.3.2.1 w.1.2))
          | inr w ↦ rw (w.1.0, w.1.1 ∙ h.3.2.1) id
        ];
  }

  string_argument_within : Within (e.string_argument inner) Argument
  unfolding e.string_argument
  string_argument_within = record {
    within = λ s x r h. let text = string_within.within s h.0 h.1 h.2 in
        let name = t.InstantiationArgumentName.string h.0 in
        elim h.3.3 [
          | inl w ↦ rw (w.1.3.0, w.1.3.1) (value_by name s h.1 text w.1.0 w.1.1 (moved ((e.argument_value inner name).Is w.1.0) h.3.1 h.1 w.1.1 h.3.2.1 w.1.2))
          | inr w ↦ absurd w.1
        ];
  }

  pub instantiation_argument_within : Within (e.instantiation_argument inner) Argument
  unfolding e.instantiation_argument
  instantiation_argument_within =
      begin_within k.Ellipsis _ _ Argument spread_or_fill_within (begin_within k.Ident _ _ Argument ident_argument_within
      (begin_within k.String _ _ Argument string_argument_within (refuse_within _ Argument)))

  listed : (xs : List t.InstantiationArgument) (s r : Input) → (list_of (e.instantiation_argument inner) e.argument_first k.CloseBrace true).Is xs s r → Arguments (t.arguments xs) s r
  listed xs s r h = arguments xs s r ((list_within (e.instantiation_argument inner) Argument instantiation_argument_within e.argument_first k.CloseBrace begins).within s xs r h)

  pub new_expr_within : Within (e.new_expr inner) New
  unfolding e.new_expr
  new_expr_within = record { within = λ s x r h. rw (h.3.3.3.3.3.0, h.3.3.3.3.3.1) (h.0, h.3.3.3.3.0, refl, (h.1, h.2, (h.3.3.3.1, (h.3.1, new_package_within.within h.1 h.3.0 h.3.1 h.3.2, (h.3.3.1, (h.3.3.0, h.3.3.2), listed h.3.3.3.0 h.3.3.1 h.3.3.3.1 h.3.3.3.2)), h.3.3.3.3.2))) }

  pub primary_expr_within : Within (e.primary_expr inner) Primary
  unfolding e.primary_expr
  primary_expr_within =
      begin_within k.NewKeyword _ _ Primary (made (e.new_expr inner) t.PrimaryExpr.new Primary (record { within = new_expr_within.within }))
      (begin_within k.OpenParen _ _ Primary (made (e.nested_expr inner) t.PrimaryExpr.nested Primary (record { within = nested_expr_within.within }))
      (begin_within k.Ident _ _ Primary (made n.ident t.PrimaryExpr.ident Primary (record { within = ident_within.within }))
      (refuse_within _ Primary)))

  pub expr_level_within : Within (e.expr_level inner) Expr
  unfolding e.expr_level
  expr_level_within = record {
    within = λ s x r h. rw (h.3.3.0, h.3.3.1)
        (refl, (h.1, primary_expr_within.within s h.0 h.1 h.2, (while_within e.postfix_expr Postfix postfix_expr_within e.postfix_first).within h.1 h.3.0 h.3.1 h.3.2));
  }

pub expr_within : (depth : ℕ) → Within (e.expr depth) Expr
unfolding e.expr
expr_within zero = begin_any_within e.expr_first _ _ Expr (refuse_within _ Expr) (refuse_within _ Expr)
expr_within (suc depth) = expr_level_within (e.expr depth) (expr_within depth) (instantiation_argument_begins (e.expr depth) (expr_exact depth) (expr_takes depth))

pub expression_within : Within e.expression Expr
unfolding e.expression
expression_within = expr_within 128
