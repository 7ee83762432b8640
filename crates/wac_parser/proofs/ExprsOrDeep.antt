-- What has the plain form of an expression is read, or refused as nested too deep.
use Rattle.std.proofs.Common.{◌≡◌, ℕ, zero, suc, true, List, [], ◌∷◌, Option, refl, ap, sym, ◌∙◌}
use Rattle.wac_parser_lexer.specs.declared.token.Token.TheVariants as k
use Rattle.wac_parser_lexer.specs.Items.{Input}
use Rattle.wac_parser_tree.specs.Trees as t
use Rattle.wac_parser_grammar.specs.Ahead.{same_token, sees_any}
use Rattle.wac_parser_grammar.specs.Rules.{Rule, list_of}
use Rattle.wac_parser_grammar.specs.ValueTypes.{through}
use Rattle.wac_parser_grammar.specs.Expressions as e
use Rattle.wac_parser_grammar.specs.Forms.{At, Word, ◌⨾◌, Expr, Primary, New, Argument, NamedArgument, Nested, Arguments}
use Rattle.wac_parser_grammar.specs.FormDepths.{ExpressionEnds, ArgumentEnds}
use Rattle.wac_parser_grammar.proofs.Exact.{Exact, Takes}
use Rattle.wac_parser_grammar.proofs.ExactLists.{while_exact}
use Rattle.wac_parser_grammar.proofs.ExprLaws.{postfix_expr_exact, postfix_expr_takes, instantiation_argument_exact, instantiation_argument_takes, expr_exact, expr_takes}
use Rattle.wac_parser_grammar.proofs.TableBack.{any_at}
use Rattle.wac_parser_grammar.proofs.TableBackExprs.{unarguments, arguments_again, listed, no_colon, no_access, accesses_back}
use Rattle.wac_parser.proofs.OrDeep.{Meets, met, taken, go, made, at, as_one, next, come, pass, past, any_here, pass_any, no_room, ident_met, string_met, new_package_met}
use Rattle.wac_parser.proofs.OrDeepLists.{list_met}

-- ---- arguments

argument_begun : (s : Input) (x : t.InstantiationArgument) (r : Input) → Argument x s r → sees_any e.argument_first s ≡ true
unfolding same_token
argument_begun s (t.InstantiationArgument.inferred id) r h = any_at k.Ident e.argument_first id.span s r h.0
argument_begun s (t.InstantiationArgument.spread id) r h = any_at k.Ellipsis e.argument_first h.1.0 s h.0 h.1.1
argument_begun s (t.InstantiationArgument.named (t.NamedInstantiationArgument.named_argument (t.InstantiationArgumentName.ident id) value)) r h =
    any_at k.Ident e.argument_first id.span s h.0 h.1.0
argument_begun s (t.InstantiationArgument.named (t.NamedInstantiationArgument.named_argument (t.InstantiationArgumentName.string text) value)) r h =
    any_at k.String e.argument_first text.span s h.0 h.1.0
argument_begun s (t.InstantiationArgument.fill span) r h = any_at k.Ellipsis e.argument_first span s r h

primary_begun : (s : Input) (x : t.PrimaryExpr) (r : Input) → Primary x s r → sees_any e.expr_first s ≡ true
unfolding same_token
primary_begun s (t.PrimaryExpr.new (t.NewExpr.new_expr span name track xs)) r h = any_at k.NewKeyword e.expr_first h.0 s h.3.0 h.3.1
primary_begun s (t.PrimaryExpr.nested (t.NestedExpr.nested_expr span value)) r h = any_at k.OpenParen e.expr_first h.0 s h.3.0 h.3.1
primary_begun s (t.PrimaryExpr.ident id) r h = any_at k.Ident e.expr_first id.span s r h.0

expr_begun : (s : Input) (x : t.Expr) (r : Input) → Expr x s r → sees_any e.expr_first s ≡ true
expr_begun s (t.Expr.expr span first accesses) r h = primary_begun s first h.1.0 h.1.1

-- ---- one level

module _ (inner : Rule t.Expr) (meets : (s : Input) (x : t.Expr) (r : Input) → Expr x s r → ExpressionEnds r → Meets inner s x r) (exact : Exact inner) (takes : Takes inner) where
  nested_met : (span : t.Span) (value : t.Expr) (s r : Input) → Nested (t.NestedExpr.nested_expr span value) s r → Meets (e.nested_expr inner) s (t.NestedExpr.nested_expr span value) r
  unfolding e.nested_expr same_token
  nested_met span value s r h =
      go _ (at h.3.1) (go _ (meets h.3.0 value h.3.2.0 h.3.2.1 (any_at k.CloseParen e.postfix_first h.1 h.3.2.0 r h.3.2.2)) (go _ (at h.3.2.2)
      (made (ap (λ (z : t.Span). t.NestedExpr.nested_expr z value) h.2))))

  value_met : (name : t.InstantiationArgumentName) (value : t.Expr) (s r : Input) → (Word k.Colon ⨾ Expr value) s r → ExpressionEnds r
      → Meets (e.argument_value inner name) s (t.NamedInstantiationArgument.named_argument name value) r
  unfolding e.argument_value
  value_met name value s r h stop = go _ (at h.1.1) (go _ (meets h.0 value r h.2 stop) (met refl))

  named_met : (s : Input) (x : t.NamedInstantiationArgument) (r : Input) → NamedArgument x s r → ArgumentEnds r → Meets (e.instantiation_argument inner) s (t.InstantiationArgument.named x) r
  unfolding e.instantiation_argument e.ident_argument e.string_argument same_token
  named_met s (t.NamedInstantiationArgument.named_argument (t.InstantiationArgumentName.ident id) value) r h ends =
      let nx = next h.1.0 in
      let is = value_met (t.InstantiationArgumentName.ident id) value h.0 r h.2 (no_access r ends) in
      pass _ _ nx refl (come _ nx (go _ (ident_met h.1) (come _ (next h.2.1.1) (as_one t.InstantiationArgument.named is))))
  named_met s (t.NamedInstantiationArgument.named_argument (t.InstantiationArgumentName.string text) value) r h ends =
      let nx = next h.1.0 in
      let is = value_met (t.InstantiationArgumentName.string text) value h.0 r h.2 (no_access r ends) in
      pass _ _ nx refl (pass _ _ nx refl (come _ nx (go _ (string_met h.1) (come _ (next h.2.1.1) (as_one t.InstantiationArgument.named is)))))

  argument_met : (s : Input) (x : t.InstantiationArgument) (r : Input) → Argument x s r → ArgumentEnds r → Meets (e.instantiation_argument inner) s x r
  unfolding e.instantiation_argument e.spread_or_fill e.ident_argument same_token
  argument_met s (t.InstantiationArgument.inferred id) r h ends =
      let nx = next h.0 in pass _ _ nx refl (come _ nx (go _ (ident_met h) (past k.Colon _ (no_colon r ends) (met refl))))
  argument_met s (t.InstantiationArgument.spread id) r h ends =
      come _ (next h.1.1) (go _ (at h.1.1) (pass_any _ _ (next h.2.0) refl (as_one t.InstantiationArgument.spread (ident_met h.2))))
  argument_met s (t.InstantiationArgument.named x) r h ends = named_met s x r h ends
  argument_met s (t.InstantiationArgument.fill span) r h ends = come _ (next h) (go _ (at h) (any_here _ _ ends (met refl)))

  arguments_met : (xs : t.Arguments) (s r m : Input) (span : t.Span) → Arguments xs s r → At k.CloseBrace span r m
      → Meets (list_of (e.instantiation_argument inner) e.argument_first k.CloseBrace true) s (unarguments xs) r
  unfolding same_token
  arguments_met xs s r m span h at =
      list_met (e.instantiation_argument inner) Argument ArgumentEnds e.argument_first k.CloseBrace argument_met argument_begun
      (instantiation_argument_exact inner exact takes) (instantiation_argument_takes inner exact takes) refl
      (λ span s m at. any_at k.Comma (k.Comma ∷ k.CloseBrace ∷ []) span s m at) (λ span s m at. any_at k.CloseBrace (k.Comma ∷ k.CloseBrace ∷ []) span s m at) refl
      (unarguments xs) s r m span (listed xs s r h) at

  new_met : (span : t.Span) (name : t.PackageName) (track : Option (List ℕ)) (xs : t.Arguments) (s r : Input) → New (t.NewExpr.new_expr span name track xs) s r → Meets (e.new_expr inner) s (t.NewExpr.new_expr span name track xs) r
  unfolding e.new_expr
  new_met span name track xs s r h =
      let i = h.3.2.1 in
      let same = ap (λ (z : t.Span). t.NewExpr.new_expr z name track xs) h.2 ∙ ap (λ (z : t.Arguments). t.NewExpr.new_expr (through h.0 h.1) name track z) (sym (arguments_again xs)) in
      go _ (at h.3.1) (go _ (new_package_met i.1) (go _ (at i.2.1.1) (go _ (arguments_met xs i.2.0 h.3.2.0 r h.1 i.2.2 h.3.2.2) (go _ (at h.3.2.2) (made same)))))

  primary_met : (s : Input) (x : t.PrimaryExpr) (r : Input) → Primary x s r → Meets (e.primary_expr inner) s x r
  unfolding e.primary_expr same_token
  primary_met s (t.PrimaryExpr.new (t.NewExpr.new_expr span name track xs)) r h = come _ (next h.3.1) (as_one t.PrimaryExpr.new (new_met span name track xs s r h))
  primary_met s (t.PrimaryExpr.nested (t.NestedExpr.nested_expr span value)) r h =
      let nx = next h.3.1 in pass _ _ nx refl (come _ nx (as_one t.PrimaryExpr.nested (nested_met span value s r h)))
  primary_met s (t.PrimaryExpr.ident id) r h = let nx = next h.0 in pass _ _ nx refl (pass _ _ nx refl (come _ nx (as_one t.PrimaryExpr.ident (ident_met h))))

  expr_level_met : (s : Input) (x : t.Expr) (r : Input) → Expr x s r → ExpressionEnds r → Meets (e.expr_level inner) s x r
  unfolding e.expr_level
  expr_level_met s (t.Expr.expr span first accesses) r h stop =
      go _ (primary_met s first h.1.0 h.1.1)
      (go _ (taken (while_exact e.postfix_expr e.postfix_first postfix_expr_exact postfix_expr_takes) (accesses_back accesses h.1.0 r h.1.2 stop))
      (made (ap (λ (z : t.Span). t.Expr.expr z first accesses) h.0)))

expr_met : (depth : ℕ) (s : Input) (x : t.Expr) (r : Input) → Expr x s r → ExpressionEnds r → Meets (e.expr depth) s x r
unfolding e.expr
expr_met zero s x r h stop = no_room e.expr_first (expr_begun s x r h)
expr_met (suc depth) s x r h stop = expr_level_met (e.expr depth) (expr_met depth) (expr_exact depth) (expr_takes depth) s x r h stop

pub expression_met : (s : Input) (x : t.Expr) (r : Input) → Expr x s r → ExpressionEnds r → Meets e.expression s x r
unfolding e.expression
expression_met s x r h stop = expr_met 128 s x r h stop
