-- The rules of expressions read just what they say.
use Rattle.std.proofs.Common.{ℕ, zero, suc, true, [], ◌∷◌}
use Rattle.wac_parser_lexer.specs.declared.token.Token.TheVariants as k
use Rattle.wac_parser_tree.specs.Trees as t
use Rattle.wac_parser_grammar.specs.Rules.{Rule}
use Rattle.wac_parser_grammar.proofs.Exact.{Exact, Takes, Begins, bind, pure_exact, refuse_exact, begin_exact, begin_any_exact, token_exact, bind_takes, bind_keeps, still_keeps, pure_keeps, refuse_takes, token_takes, begin_takes, begin_keeps, begin_any_takes, begin_any_keeps, token_begins, bind_begins, refuse_begins, begin_begins}
use Rattle.wac_parser_grammar.proofs.ExactLists.{list_exact, list_keeps, while_exact, while_keeps}
use Rattle.wac_parser_grammar.specs.Expressions.{expr_first, postfix_first, argument_first, name_first, argument_name, access_expr, named_access_expr, postfix_expr, spread_or_fill, nested_expr, argument_value, named_argument, ident_argument, string_argument, instantiation_argument, new_expr, primary_expr, expr_level, expr, expression}
use Rattle.wac_parser_grammar.proofs.NameLaws.{ident_exact, ident_takes, string_exact, string_takes, new_package_exact, new_package_takes}

pub argument_name_exact : Exact argument_name
unfolding argument_name
argument_name_exact = begin_exact k.Ident _ _ (bind _ _ (ident_exact) (λ v0. pure_exact _)) (begin_exact k.String _ _ (bind _ _ (string_exact) (λ v0. pure_exact _)) (refuse_exact _))

pub argument_name_takes : Takes argument_name
unfolding argument_name
argument_name_takes = begin_takes k.Ident _ _ (bind_takes _ _ (ident_takes) (λ v0. pure_keeps _)) (begin_takes k.String _ _ (bind_takes _ _ (string_takes) (λ v0. pure_keeps _)) (refuse_takes _))

pub argument_name_begins : Begins name_first argument_name
unfolding argument_name
argument_name_begins = begin_begins k.Ident _ _ _ (begin_begins k.String _ _ _ (refuse_begins _ _))

pub access_expr_exact : Exact access_expr
unfolding access_expr
access_expr_exact = bind _ _ (token_exact k.Dot) (λ v0. bind _ _ (ident_exact) (λ v1. pure_exact _))

pub access_expr_takes : Takes access_expr
unfolding access_expr
access_expr_takes = bind_takes _ _ (token_takes k.Dot) (λ v0. bind_keeps _ _ (still_keeps _ (ident_takes)) (λ v1. pure_keeps _))

pub access_expr_begins : Begins (k.Dot ∷ []) access_expr
unfolding access_expr
access_expr_begins = bind_begins _ _ _ (token_begins k.Dot _)

pub named_access_expr_exact : Exact named_access_expr
unfolding named_access_expr
named_access_expr_exact = bind _ _ (token_exact k.OpenBracket) (λ v0. bind _ _ (string_exact) (λ v1. bind _ _ (token_exact k.CloseBracket) (λ v2. pure_exact _)))

pub named_access_expr_takes : Takes named_access_expr
unfolding named_access_expr
named_access_expr_takes = bind_takes _ _ (token_takes k.OpenBracket) (λ v0. bind_keeps _ _ (still_keeps _ (string_takes)) (λ v1. bind_keeps _ _ (still_keeps _ (token_takes k.CloseBracket)) (λ v2. pure_keeps _)))

pub named_access_expr_begins : Begins (k.OpenBracket ∷ []) named_access_expr
unfolding named_access_expr
named_access_expr_begins = bind_begins _ _ _ (token_begins k.OpenBracket _)

pub postfix_expr_exact : Exact postfix_expr
unfolding postfix_expr
postfix_expr_exact = begin_exact k.Dot _ _ (bind _ _ (access_expr_exact) (λ v0. pure_exact _)) (bind _ _ (named_access_expr_exact) (λ v0. pure_exact _))

pub postfix_expr_takes : Takes postfix_expr
unfolding postfix_expr
postfix_expr_takes = begin_takes k.Dot _ _ (bind_takes _ _ (access_expr_takes) (λ v0. pure_keeps _)) (bind_takes _ _ (named_access_expr_takes) (λ v0. pure_keeps _))

pub spread_or_fill_exact : Exact spread_or_fill
unfolding spread_or_fill
spread_or_fill_exact = bind _ _ (token_exact k.Ellipsis) (λ v0. begin_any_exact (k.Comma ∷ k.CloseBrace ∷ []) _ _ (pure_exact _) (bind _ _ (ident_exact) (λ v1. pure_exact _)))

pub spread_or_fill_takes : Takes spread_or_fill
unfolding spread_or_fill
spread_or_fill_takes = bind_takes _ _ (token_takes k.Ellipsis) (λ v0. begin_any_keeps (k.Comma ∷ k.CloseBrace ∷ []) _ _ (pure_keeps _) (bind_keeps _ _ (still_keeps _ (ident_takes)) (λ v1. pure_keeps _)))

module _ (inner : Rule t.Expr) (exact : Exact inner) (takes : Takes inner) where
  pub nested_expr_exact : Exact (nested_expr inner)
  unfolding nested_expr
  nested_expr_exact = bind _ _ (token_exact k.OpenParen) (λ v0. bind _ _ (exact) (λ v1. bind _ _ (token_exact k.CloseParen) (λ v2. pure_exact _)))

  pub nested_expr_takes : Takes (nested_expr inner)
  unfolding nested_expr
  nested_expr_takes = bind_takes _ _ (token_takes k.OpenParen) (λ v0. bind_keeps _ _ (still_keeps _ (takes)) (λ v1. bind_keeps _ _ (still_keeps _ (token_takes k.CloseParen)) (λ v2. pure_keeps _)))

  pub nested_expr_begins : Begins (k.OpenParen ∷ []) (nested_expr inner)
  unfolding nested_expr
  nested_expr_begins = bind_begins _ _ _ (token_begins k.OpenParen _)

  pub argument_value_exact : (name : t.InstantiationArgumentName) → Exact (argument_value inner name)
  unfolding argument_value
  argument_value_exact name = bind _ _ (token_exact k.Colon) (λ v0. bind _ _ (exact) (λ v1. pure_exact _))

  pub argument_value_takes : (name : t.InstantiationArgumentName) → Takes (argument_value inner name)
  unfolding argument_value
  argument_value_takes name = bind_takes _ _ (token_takes k.Colon) (λ v0. bind_keeps _ _ (still_keeps _ (takes)) (λ v1. pure_keeps _))

  pub named_argument_exact : Exact (named_argument inner)
  unfolding named_argument
  named_argument_exact = bind _ _ (argument_name_exact) (λ v0. argument_value_exact v0)

  pub named_argument_takes : Takes (named_argument inner)
  unfolding named_argument
  named_argument_takes = bind_takes _ _ (argument_name_takes) (λ v0. still_keeps _ (argument_value_takes v0))

  pub named_argument_begins : Begins name_first (named_argument inner)
  unfolding named_argument
  named_argument_begins = bind_begins _ _ _ (argument_name_begins)

  pub ident_argument_exact : Exact (ident_argument inner)
  unfolding ident_argument
  ident_argument_exact = bind _ _ (ident_exact) (λ v0. begin_exact k.Colon _ _ (bind _ _ (argument_value_exact _) (λ v1. pure_exact _)) (pure_exact _))

  pub ident_argument_takes : Takes (ident_argument inner)
  unfolding ident_argument
  ident_argument_takes = bind_takes _ _ (ident_takes) (λ v0. begin_keeps k.Colon _ _ (bind_keeps _ _ (still_keeps _ (argument_value_takes _)) (λ v1. pure_keeps _)) (pure_keeps _))

  pub string_argument_exact : Exact (string_argument inner)
  unfolding string_argument
  string_argument_exact = bind _ _ (string_exact) (λ v0. begin_exact k.Colon _ _ (bind _ _ (argument_value_exact _) (λ v1. pure_exact _)) (refuse_exact _))

  pub string_argument_takes : Takes (string_argument inner)
  unfolding string_argument
  string_argument_takes = bind_takes _ _ (string_takes) (λ v0. begin_keeps k.Colon _ _ (bind_keeps _ _ (still_keeps _ (argument_value_takes _)) (λ v1. pure_keeps _)) (still_keeps _ (refuse_takes _)))

  pub instantiation_argument_exact : Exact (instantiation_argument inner)
  unfolding instantiation_argument
  instantiation_argument_exact = begin_exact k.Ellipsis _ _ (spread_or_fill_exact) (begin_exact k.Ident _ _ (ident_argument_exact) (begin_exact k.String _ _ (string_argument_exact) (refuse_exact _)))

  pub instantiation_argument_takes : Takes (instantiation_argument inner)
  unfolding instantiation_argument
  instantiation_argument_takes = begin_takes k.Ellipsis _ _ (spread_or_fill_takes) (begin_takes k.Ident _ _ (ident_argument_takes) (begin_takes k.String _ _ (string_argument_takes) (refuse_takes _)))

  pub instantiation_argument_begins : Begins argument_first (instantiation_argument inner)
  unfolding instantiation_argument
  instantiation_argument_begins = begin_begins k.Ellipsis _ _ _ (begin_begins k.Ident _ _ _ (begin_begins k.String _ _ _ (refuse_begins _ _)))

  pub new_expr_exact : Exact (new_expr inner)
  unfolding new_expr
  new_expr_exact = bind _ _ (token_exact k.NewKeyword) (λ v0. bind _ _ (new_package_exact) (λ v1. bind _ _ (token_exact k.OpenBrace) (λ v2. bind _ _ (list_exact (instantiation_argument inner) argument_first k.CloseBrace true instantiation_argument_exact instantiation_argument_begins instantiation_argument_takes) (λ v3. bind _ _ (token_exact k.CloseBrace) (λ v4. pure_exact _)))))

  pub new_expr_takes : Takes (new_expr inner)
  unfolding new_expr
  new_expr_takes = bind_takes _ _ (token_takes k.NewKeyword) (λ v0. bind_keeps _ _ (still_keeps _ (new_package_takes)) (λ v1. bind_keeps _ _ (still_keeps _ (token_takes k.OpenBrace)) (λ v2. bind_keeps _ _ (list_keeps (instantiation_argument inner) argument_first k.CloseBrace true instantiation_argument_exact instantiation_argument_begins instantiation_argument_takes) (λ v3. bind_keeps _ _ (still_keeps _ (token_takes k.CloseBrace)) (λ v4. pure_keeps _)))))

  pub new_expr_begins : Begins (k.NewKeyword ∷ []) (new_expr inner)
  unfolding new_expr
  new_expr_begins = bind_begins _ _ _ (token_begins k.NewKeyword _)

  pub primary_expr_exact : Exact (primary_expr inner)
  unfolding primary_expr
  primary_expr_exact = begin_exact k.NewKeyword _ _ (bind _ _ (new_expr_exact) (λ v0. pure_exact _)) (begin_exact k.OpenParen _ _ (bind _ _ (nested_expr_exact) (λ v0. pure_exact _)) (begin_exact k.Ident _ _ (bind _ _ (ident_exact) (λ v0. pure_exact _)) (refuse_exact _)))

  pub primary_expr_takes : Takes (primary_expr inner)
  unfolding primary_expr
  primary_expr_takes = begin_takes k.NewKeyword _ _ (bind_takes _ _ (new_expr_takes) (λ v0. pure_keeps _)) (begin_takes k.OpenParen _ _ (bind_takes _ _ (nested_expr_takes) (λ v0. pure_keeps _)) (begin_takes k.Ident _ _ (bind_takes _ _ (ident_takes) (λ v0. pure_keeps _)) (refuse_takes _)))

  pub expr_level_exact : Exact (expr_level inner)
  unfolding expr_level
  expr_level_exact = bind _ _ (primary_expr_exact) (λ v0. bind _ _ (while_exact postfix_expr postfix_first postfix_expr_exact postfix_expr_takes) (λ v1. pure_exact _))

  pub expr_level_takes : Takes (expr_level inner)
  unfolding expr_level
  expr_level_takes = bind_takes _ _ (primary_expr_takes) (λ v0. bind_keeps _ _ (while_keeps postfix_expr postfix_first postfix_expr_exact postfix_expr_takes) (λ v1. pure_keeps _))

mutual
  unfolding expr

  pub expr_exact : (n : ℕ) → Exact (expr n)
  expr_exact zero = begin_any_exact expr_first _ _ (refuse_exact _) (refuse_exact _)
  expr_exact (suc n) = expr_level_exact (expr n) (expr_exact n) (expr_takes n)

  pub expr_takes : (n : ℕ) → Takes (expr n)
  expr_takes zero = begin_any_takes expr_first _ _ (refuse_takes _) (refuse_takes _)
  expr_takes (suc n) = expr_level_takes (expr n) (expr_exact n) (expr_takes n)

pub expression_exact : Exact expression
unfolding expression
expression_exact = expr_exact 128

pub expression_takes : Takes expression
unfolding expression
expression_takes = expr_takes 128
