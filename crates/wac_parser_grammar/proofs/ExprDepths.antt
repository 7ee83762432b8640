-- An expression that is nested too deep stands as many levels deeper as there was room for.
use Rattle.std.proofs.Common.{◌≡◌, ℕ, zero, suc, ◌+◌, true, [], ◌∷◌, refl, subst, arith}
use Rattle.wac_parser_lexer.specs.declared.token.Token.TheVariants as k
use Rattle.wac_parser_tree.specs.Trees as t
use Rattle.wac_parser_grammar.specs.Rules.{Rule}
use Rattle.wac_parser_grammar.specs.Ahead.{same_token}
use Rattle.wac_parser_grammar.specs.Names.{ident, string, new_package}
use Rattle.wac_parser_grammar.specs.ValueTypes.{too_deep}
use Rattle.wac_parser_grammar.specs.Expressions.{expr_first, postfix_first, argument_first, access_expr, named_access_expr, postfix_expr, spread_or_fill, nested_expr, argument_value, ident_argument, string_argument, instantiation_argument, new_expr, primary_expr, expr_level, expr}
use Rattle.wac_parser_grammar.specs.Nesting.{expressions}
use Rattle.wac_parser_grammar.proofs.Sinking.{Sinks, step, bind_sinks, pure_sinks, refuse_sinks, begin_sinks, begin_any_sinks, none_never, token_sinks, behind_sinks, ident_sinks, string_sinks, new_package_sinks, too_deep_sinks, list_sinks, while_sinks}

opens_paren : (l : ℕ) → suc l + step expressions.closing k.OpenParen ≡ l + step expressions.opening k.OpenParen
unfolding same_token
opens_paren l = omega arith

closes_paren : (l : ℕ) → l + step expressions.closing k.CloseParen ≡ suc l + step expressions.opening k.CloseParen
unfolding same_token
closes_paren l = omega arith

opens_brace : (l : ℕ) → suc l + step expressions.closing k.OpenBrace ≡ l + step expressions.opening k.OpenBrace
unfolding same_token
opens_brace l = omega arith

closes_brace : (l : ℕ) → l + step expressions.closing k.CloseBrace ≡ suc l + step expressions.opening k.CloseBrace
unfolding same_token
closes_brace l = omega arith

module _ {n : ℕ} where
  id_sinks : {l : ℕ} → Sinks expressions n l (λ _. l) ident
  unfolding same_token
  id_sinks = ident_sinks refl

  text_sinks : {l : ℕ} → Sinks expressions n l (λ _. l) string
  unfolding same_token
  text_sinks = string_sinks refl

  name_sinks : {l : ℕ} → Sinks expressions n l (λ _. l) new_package
  unfolding same_token
  name_sinks = new_package_sinks refl

  access_sinks : {l : ℕ} → Sinks expressions n l (λ _. l) access_expr
  unfolding access_expr same_token
  access_sinks {l = l} = bind_sinks _ _ (token_sinks k.Dot l l refl) (λ v0. bind_sinks _ _ id_sinks (λ v1. pure_sinks _))

  named_access_sinks : {l : ℕ} → Sinks expressions n l (λ _. l) named_access_expr
  unfolding named_access_expr same_token
  named_access_sinks {l = l} = bind_sinks _ _ (token_sinks k.OpenBracket l l refl) (λ v0. bind_sinks _ _ text_sinks (λ v1. bind_sinks _ _ (token_sinks k.CloseBracket l l refl) (λ v2. pure_sinks _)))

  postfix_sinks : {l : ℕ} → Sinks expressions n l (λ _. l) postfix_expr
  unfolding postfix_expr
  postfix_sinks = begin_sinks k.Dot _ _ (bind_sinks _ _ access_sinks (λ v0. pure_sinks _)) (bind_sinks _ _ named_access_sinks (λ v0. pure_sinks _))

  spread_sinks : {l : ℕ} → Sinks expressions n l (λ _. l) spread_or_fill
  unfolding spread_or_fill same_token
  spread_sinks {l = l} = bind_sinks _ _ (token_sinks k.Ellipsis l l refl) (λ v0. begin_any_sinks (k.Comma ∷ k.CloseBrace ∷ []) _ _ (pure_sinks _) (bind_sinks _ _ id_sinks (λ v1. pure_sinks _)))

  module _ {l : ℕ} (inner : Rule t.Expr) (deeper : Sinks expressions n (suc l) (λ _. suc l) inner) where
    pub nested_sinks : Sinks expressions n l (λ _. l) (nested_expr inner)
    unfolding nested_expr
    nested_sinks =
        bind_sinks _ _ (token_sinks k.OpenParen l (suc l) (opens_paren l)) (λ v0. bind_sinks _ _ deeper (λ v1. bind_sinks _ _ (token_sinks k.CloseParen (suc l) l (closes_paren l)) (λ v2. pure_sinks _)))

    value_sinks : (name : t.InstantiationArgumentName) → Sinks expressions n (suc l) (λ _. suc l) (argument_value inner name)
    unfolding argument_value same_token
    value_sinks name = bind_sinks _ _ (token_sinks k.Colon (suc l) (suc l) refl) (λ v0. bind_sinks _ _ deeper (λ v1. pure_sinks _))

    ident_argument_sinks : Sinks expressions n (suc l) (λ _. suc l) (ident_argument inner)
    unfolding ident_argument
    ident_argument_sinks = bind_sinks _ _ id_sinks (λ v0. begin_sinks k.Colon _ _ (bind_sinks _ _ (value_sinks _) (λ v1. pure_sinks _)) (pure_sinks _))

    string_argument_sinks : Sinks expressions n (suc l) (λ _. suc l) (string_argument inner)
    unfolding string_argument
    string_argument_sinks = bind_sinks _ _ text_sinks (λ v0. begin_sinks k.Colon _ _ (bind_sinks _ _ (value_sinks _) (λ v1. pure_sinks _)) (refuse_sinks _ (λ s span h. cc)))

    argument_sinks : Sinks expressions n (suc l) (λ _. suc l) (instantiation_argument inner)
    unfolding instantiation_argument
    argument_sinks = begin_sinks k.Ellipsis _ _ spread_sinks (begin_sinks k.Ident _ _ ident_argument_sinks (begin_sinks k.String _ _ string_argument_sinks (refuse_sinks _ (none_never _))))

    pub new_sinks : Sinks expressions n l (λ _. l) (new_expr inner)
    unfolding new_expr same_token
    new_sinks =
        bind_sinks _ _ (token_sinks k.NewKeyword l l refl) (λ v0. bind_sinks _ _ name_sinks (λ v1. bind_sinks _ _ (token_sinks k.OpenBrace l (suc l) (opens_brace l)) (λ v2.
        bind_sinks _ _ (list_sinks (instantiation_argument inner) argument_sinks argument_first k.CloseBrace true (behind_sinks k.CloseBrace true refl)) (λ v3.
        bind_sinks _ _ (token_sinks k.CloseBrace (suc l) l (closes_brace l)) (λ v4. pure_sinks _)))))

    pub primary_sinks : Sinks expressions n l (λ _. l) (primary_expr inner)
    unfolding primary_expr
    primary_sinks =
        begin_sinks k.NewKeyword _ _ (bind_sinks _ _ new_sinks (λ v0. pure_sinks _))
        (begin_sinks k.OpenParen _ _ (bind_sinks _ _ nested_sinks (λ v0. pure_sinks _)) (begin_sinks k.Ident _ _ (bind_sinks _ _ id_sinks (λ v0. pure_sinks _)) (refuse_sinks _ (none_never _))))

    level_sinks : Sinks expressions n l (λ _. l) (expr_level inner)
    unfolding expr_level
    level_sinks = bind_sinks _ _ primary_sinks (λ v0. bind_sinks _ _ (while_sinks postfix_expr postfix_sinks postfix_first) (λ v1. pure_sinks _))

  pub expr_sinks : (j l : ℕ) → j + l ≡ n → Sinks expressions n l (λ _. l) (expr j)
  unfolding expr
  expr_sinks zero l e = let P : ℕ → Type 0 = λ (i : ℕ). Sinks expressions n i (λ _. i) (too_deep {X = t.Expr} expr_first) in let same : n ≡ l = omega (arith, e) in subst P same too_deep_sinks
  expr_sinks (suc j) l e = level_sinks (expr j) (expr_sinks j (suc l) (omega (arith, e)))
