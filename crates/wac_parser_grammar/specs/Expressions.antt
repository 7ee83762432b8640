-- How expressions are written.
use Rattle.std.specs.Prelude.{ℕ, zero, suc, true, List, [], ◌∷◌, Some}
use Rattle.wac_parser_lexer.specs.declared.span.SourceSpan.{SourceSpan}
use Rattle.wac_parser_lexer.specs.declared.token.Token.{Token}
use Rattle.wac_parser_lexer.specs.declared.token.Token.TheVariants as k
use Rattle.wac_parser_tree.specs.Trees as t
use Rattle.wac_parser_tree.specs.Accessors.{primary_expr_span, postfix_expr_span}
use Rattle.wac_parser_grammar.specs.Faults.{expected}
use Rattle.wac_parser_grammar.specs.Ahead.{none_of}
use Rattle.wac_parser_grammar.specs.Rules.{Rule, ◌>>=◌, ◌>>◌, pure, refuse, token, begin, begin_any, list_of, while_of}
use Rattle.wac_parser_grammar.specs.Names.{ident, string, new_package}
use Rattle.wac_parser_grammar.specs.ValueTypes.{through, too_deep}

-- the tokens with which an expression begins
abbrev pub expr_first : List Token
expr_first = k.NewKeyword ∷ k.OpenParen ∷ k.Ident ∷ []

abbrev pub postfix_first : List Token
postfix_first = k.Dot ∷ k.OpenBracket ∷ []

abbrev pub argument_first : List Token
argument_first = k.Ellipsis ∷ k.Ident ∷ k.String ∷ []

abbrev pub name_first : List Token
name_first = k.Ident ∷ k.String ∷ []

unfoldable pub argument_name : Rule t.InstantiationArgumentName
argument_name =
    begin k.Ident (ident >>= λ id. pure (t.InstantiationArgumentName.ident id))
    (begin k.String (string >>= λ s. pure (t.InstantiationArgumentName.string s))
    (refuse (none_of name_first)))

unfoldable pub access_expr : Rule t.AccessExpr
access_expr = do
  start ← token k.Dot
  id ← ident
  pure (record { span = through start id.span; id = id })

unfoldable pub named_access_expr : Rule t.NamedAccessExpr
named_access_expr = do
  start ← token k.OpenBracket
  name ← string
  close ← token k.CloseBracket
  pure (record { span = through start close; string = name })

unfoldable pub postfix_expr : Rule t.PostfixExpr
postfix_expr =
    begin k.Dot (access_expr >>= λ e. pure (t.PostfixExpr.access e))
    (named_access_expr >>= λ e. pure (t.PostfixExpr.named_access e))

-- from a span through those of the accesses
abbrev pub spanning : SourceSpan → List t.PostfixExpr → SourceSpan
spanning span [] = span
spanning span (p ∷ ps) = spanning (through span (postfix_expr_span p)) ps

-- nothing behind it, before a comma or a brace, or an identifier
unfoldable pub spread_or_fill : Rule t.InstantiationArgument
spread_or_fill = do
  span ← token k.Ellipsis
  begin_any (k.Comma ∷ k.CloseBrace ∷ []) (pure (t.InstantiationArgument.fill span))
      (ident >>= λ id. pure (t.InstantiationArgument.spread id))

module _ (inner : Rule t.Expr) where
  unfoldable pub nested_expr : Rule t.NestedExpr
  nested_expr = do
    start ← token k.OpenParen
    e ← inner
    close ← token k.CloseParen
    pure (t.nested_expr (through start close) e)

  -- behind the name of an argument: a colon and an expression
  unfoldable pub argument_value : t.InstantiationArgumentName → Rule t.NamedInstantiationArgument
  argument_value name = do
    token k.Colon
    e ← inner
    pure (t.named_argument name e)

  unfoldable pub named_argument : Rule t.NamedInstantiationArgument
  named_argument = do
    name ← argument_name
    argument_value name

  -- an identifier, which a colon makes a name
  unfoldable pub ident_argument : Rule t.InstantiationArgument
  ident_argument = do
    id ← ident
    begin k.Colon (argument_value (t.InstantiationArgumentName.ident id) >>= λ a. pure (t.InstantiationArgument.named a))
        (pure (t.InstantiationArgument.inferred id))

  -- a string, which only a colon makes an argument
  unfoldable pub string_argument : Rule t.InstantiationArgument
  string_argument = do
    s ← string
    begin k.Colon (argument_value (t.InstantiationArgumentName.string s) >>= λ a. pure (t.InstantiationArgument.named a))
        (refuse (λ _. expected k.Ident (Some k.String) s.span))

  unfoldable pub instantiation_argument : Rule t.InstantiationArgument
  instantiation_argument =
      begin k.Ellipsis spread_or_fill
      (begin k.Ident ident_argument
      (begin k.String string_argument
      (refuse (none_of argument_first))))

  unfoldable pub new_expr : Rule t.NewExpr
  new_expr = do
    start ← token k.NewKeyword
    named ← new_package
    token k.OpenBrace
    all ← list_of instantiation_argument argument_first k.CloseBrace true
    close ← token k.CloseBrace
    pure (t.new_expr (through start close) named.0 named.1 (t.arguments all))

  unfoldable pub primary_expr : Rule t.PrimaryExpr
  primary_expr =
      begin k.NewKeyword (new_expr >>= λ e. pure (t.PrimaryExpr.new e))
      (begin k.OpenParen (nested_expr >>= λ e. pure (t.PrimaryExpr.nested e))
      (begin k.Ident (ident >>= λ id. pure (t.PrimaryExpr.ident id))
      (refuse (none_of expr_first))))

  -- accesses are taken as long as one begins
  unfoldable pub expr_level : Rule t.Expr
  expr_level = do
    p ← primary_expr
    all ← while_of postfix_expr postfix_first
    pure (t.expr (spanning (primary_expr_span p) all) p all)

-- an expression nested no deeper than the number
unfoldable pub expr : ℕ → Rule t.Expr
expr zero = too_deep expr_first
expr (suc n) = expr_level (expr n)

-- an expression
unfoldable pub expression : Rule t.Expr
expression = expr 128
