-- What has the plain form of an expression is taken by the rule.
use Rattle.std.proofs.Common.{◌≡◌, ℕ, zero, suc, ◌≤◌, inl, inr, true, false, List, [], ◌∷◌, refl, ap, subst, sym, ◌∙◌, arith}
use Rattle.std.proofs.Math.Nat.{le-max_left, le-max_right}
use Rattle.wac_parser_lexer.specs.declared.token.Token.TheVariants as k
use Rattle.wac_parser_lexer.specs.Items.{Input}
use Rattle.wac_parser_tree.specs.Trees as t
use Rattle.wac_parser_grammar.specs.Ahead.{same_token, sees, sees_any}
use Rattle.wac_parser_grammar.specs.Rules.{Rule, IsListOf, IsWhile}
use Rattle.wac_parser_grammar.specs.ValueTypes.{through}
use Rattle.wac_parser_grammar.specs.Expressions as e
use Rattle.wac_parser_grammar.specs.Forms.{At, Word, ◌⨾◌, Row, Further, Separated, ArgumentName, Access, NamedAccess, Postfix, Expr, Primary, New, Argument, NamedArgument, Nested, Arguments, FurtherArguments}
use Rattle.wac_parser_grammar.specs.FormDepths.{AllFit, expression_levels, primary_levels, new_levels, argument_levels, named_levels, nested_levels, levels_of_arguments, ExpressionEnds, ArgumentEnds}
use Rattle.wac_parser_grammar.proofs.Exact.{Begins}
use Rattle.wac_parser_grammar.proofs.ExprLaws.{expr_exact, expr_takes, instantiation_argument_begins}
use Rattle.wac_parser_grammar.proofs.TableBack.{seen, sees_at, any_at, ident_back, string_back, new_package_back}
use Rattle.wac_parser_grammar.proofs.TableBackFuncs.{list_taken}
use Rattle.wac_parser_grammar.proofs.TableBackChoices.{other, no_two}

-- ---- names and accesses

pub argument_name_back : (s : Input) (x : t.InstantiationArgumentName) (r : Input) → ArgumentName x s r → e.argument_name.Is x s r
unfolding e.argument_name same_token
argument_name_back s (t.InstantiationArgumentName.ident id) r h =
    (true, s, (sym (seen k.Ident id.span s r h.0), refl), inl (refl, (id, r, ident_back s id r h, (refl, refl))))
argument_name_back s (t.InstantiationArgumentName.string x) r h = (
  false,
  s,
  (sym (sees_at k.String k.Ident x.span s r h.0), refl),
  inr (
    refl,
    (true, s, (sym (seen k.String x.span s r h.0), refl), inl (refl, (x, r, string_back s x r h, (refl, refl)))),
  ),
)

pub access_expr_back : (s : Input) (x : t.AccessExpr) (r : Input) → Access x s r → e.access_expr.Is x s r
unfolding e.access_expr
access_expr_back s x r h =
    (h.0, h.2.0, h.2.1, (x.id, r, ident_back h.2.0 x.id r h.2.2, (ap (λ (z : t.Span). record { span = z; id = x.id }) h.1, refl)))

pub named_access_expr_back : (s : Input) (x : t.NamedAccessExpr) (r : Input) → NamedAccess x s r → e.named_access_expr.Is x s r
unfolding e.named_access_expr
named_access_expr_back s x r h =
    (h.0, h.3.0, h.3.1, (x.string, h.3.2.0, string_back h.3.0 x.string h.3.2.0 h.3.2.1, (h.1, r, h.3.2.2, (ap (λ (z : t.Span). record { span = z; string = x.string }) h.2, refl))))

pub postfix_expr_back : (s : Input) (x : t.PostfixExpr) (r : Input) → Postfix x s r → e.postfix_expr.Is x s r
unfolding e.postfix_expr same_token
postfix_expr_back s (t.PostfixExpr.access x) r h =
    (true, s, (sym (seen k.Dot h.0 s h.2.0 h.2.1), refl), inl (refl, (x, r, access_expr_back s x r h, (refl, refl))))
postfix_expr_back s (t.PostfixExpr.named_access x) r h =
    (false, s, (sym (sees_at k.OpenBracket k.Dot h.0 s h.3.0 h.3.1), refl), inr (refl, (x, r, named_access_expr_back s x r h, (refl, refl))))

postfix_begun : (s : Input) (x : t.PostfixExpr) (r : Input) → Postfix x s r → sees_any e.postfix_first s ≡ true
unfolding same_token
postfix_begun s (t.PostfixExpr.access x) r h = any_at k.Dot e.postfix_first h.0 s h.2.0 h.2.1
postfix_begun s (t.PostfixExpr.named_access x) r h = any_at k.OpenBracket e.postfix_first h.0 s h.3.0 h.3.1

pub accesses_back : (xs : List t.PostfixExpr) (s r : Input) → Row Postfix xs s r → ExpressionEnds r → IsWhile e.postfix_expr.Is e.postfix_first xs s r
accesses_back [] s r h stop = let P : Input → Type 0 = λ (i : Input). ExpressionEnds i in (subst P h stop, h)
accesses_back (x ∷ xs) s r h stop = (postfix_begun s x h.0 h.1, h.0, postfix_expr_back s x h.0 h.1, accesses_back xs h.0 r h.2 stop)

-- ---- arguments

pub unarguments : t.Arguments → List t.InstantiationArgument
unarguments t.Arguments.no_arguments = []
unarguments (t.Arguments.argument x xs) = x ∷ unarguments xs

pub arguments_again : (xs : t.Arguments) → t.arguments (unarguments xs) ≡ xs
unfolding unarguments
arguments_again t.Arguments.no_arguments = refl
arguments_again (t.Arguments.argument x xs) = ap (t.Arguments.argument x) (arguments_again xs)

further_listed : (xs : t.Arguments) (s r : Input) → FurtherArguments xs s r → Further Argument (unarguments xs) s r
unfolding unarguments
further_listed t.Arguments.no_arguments s r h = h
further_listed (t.Arguments.argument x xs) s r h = (h.0, h.1, (h.2.0, h.2.1, further_listed xs h.2.0 r h.2.2))

pub listed : (xs : t.Arguments) (s r : Input) → Arguments xs s r → Separated Argument (unarguments xs) s r
unfolding unarguments
listed t.Arguments.no_arguments s r h = h
listed (t.Arguments.argument x xs) s r h = (h.0, h.1, further_listed xs h.0 r h.2)

abbrev ArgumentFits : ℕ → t.InstantiationArgument → Type 0
ArgumentFits depth x = argument_levels x ≤ depth

arguments_fit : (depth : ℕ) (xs : t.Arguments) → levels_of_arguments xs ≤ depth → AllFit (ArgumentFits depth) (unarguments xs)
unfolding unarguments
arguments_fit depth t.Arguments.no_arguments few = tt
arguments_fit depth (t.Arguments.argument x xs) few =
    let a = le-max_left (argument_levels x) (levels_of_arguments xs) in
    let b = le-max_right (argument_levels x) (levels_of_arguments xs) in
    (omega (arith, a, few), arguments_fit depth xs (omega (arith, b, few)))

pub no_colon : (s : Input) → ArgumentEnds s → sees k.Colon s ≡ false
unfolding same_token
no_colon s ends = other k.Colon (k.Comma ∷ k.CloseBrace ∷ []) s refl ends

pub no_access : (s : Input) → ArgumentEnds s → ExpressionEnds s
unfolding same_token
no_access s ends =
    no_two k.Dot k.OpenBracket s (other k.Dot (k.Comma ∷ k.CloseBrace ∷ []) s refl ends) (other k.OpenBracket (k.Comma ∷ k.CloseBrace ∷ []) s refl ends)

-- ---- one level

module _ (depth : ℕ) (inner : Rule t.Expr) (back : (s : Input) (x : t.Expr) (r : Input) → expression_levels x ≤ depth → Expr x s r → ExpressionEnds r → inner.Is x s r)
    (begins : Begins e.argument_first (e.instantiation_argument inner)) where
  pub nested_expr_back : (s : Input) (x : t.NestedExpr) (r : Input) → nested_levels x ≤ depth → Nested x s r → (e.nested_expr inner).Is x s r
  unfolding e.nested_expr same_token
  nested_expr_back s (t.NestedExpr.nested_expr span value) r few h = (
    h.0,
    h.3.0,
    h.3.1,
    (
      value,
      h.3.2.0,
      back h.3.0 value h.3.2.0 few h.3.2.1 (any_at k.CloseParen e.postfix_first h.1 h.3.2.0 r h.3.2.2),
      (h.1, r, h.3.2.2, (ap (λ (z : t.Span). t.NestedExpr.nested_expr z value) h.2, refl)),
    ),
  )

  value_back : (name : t.InstantiationArgumentName) (value : t.Expr) (s r : Input) → expression_levels value ≤ depth → (Word k.Colon ⨾ Expr value) s r → ExpressionEnds r
      → (e.argument_value inner name).Is (t.NamedInstantiationArgument.named_argument name value) s r
  unfolding e.argument_value
  value_back name value s r few h stop = (h.1.0, h.0, h.1.1, (value, r, back h.0 value r few h.2 stop, (refl, refl)))

  pub named_argument_back : (s : Input) (x : t.NamedInstantiationArgument) (r : Input) → named_levels x ≤ depth → NamedArgument x s r → ExpressionEnds r → (e.named_argument inner).Is x s r
  unfolding e.named_argument
  named_argument_back s (t.NamedInstantiationArgument.named_argument name value) r few h stop =
      (name, h.0, argument_name_back s name h.0 h.1, value_back name value h.0 r few h.2 stop)

  named_back : (s : Input) (x : t.NamedInstantiationArgument) (r : Input) → named_levels x ≤ depth → NamedArgument x s r → ArgumentEnds r
      → (e.instantiation_argument inner).Is (t.InstantiationArgument.named x) s r
  unfolding e.instantiation_argument e.ident_argument e.string_argument same_token
  named_back s (t.NamedInstantiationArgument.named_argument (t.InstantiationArgumentName.ident id) value) r few h ends =
      let name = t.InstantiationArgumentName.ident id in
      let x = t.NamedInstantiationArgument.named_argument name value in
      let is = value_back name value h.0 r few h.2 (no_access r ends) in (
        false,
        s,
        (sym (sees_at k.Ident k.Ellipsis id.span s h.0 h.1.0), refl),
        inr (
          refl,
          (
            true,
            s,
            (sym (seen k.Ident id.span s h.0 h.1.0), refl),
            inl (
              refl,
              (id, h.0, ident_back s id h.0 h.1, (true, h.0, (sym (seen k.Colon h.2.1.0 h.0 h.2.0 h.2.1.1), refl), inl (refl, (x, r, is, (refl, refl))))),
            ),
          ),
        ),
      )
  named_back s (t.NamedInstantiationArgument.named_argument (t.InstantiationArgumentName.string text) value) r few h ends =
      let name = t.InstantiationArgumentName.string text in
      let x = t.NamedInstantiationArgument.named_argument name value in
      let is = value_back name value h.0 r few h.2 (no_access r ends) in (
        false,
        s,
        (sym (sees_at k.String k.Ellipsis text.span s h.0 h.1.0), refl),
        inr (
          refl,
          (
            false,
            s,
            (sym (sees_at k.String k.Ident text.span s h.0 h.1.0), refl),
            inr (
              refl,
              (
                true,
                s,
                (sym (seen k.String text.span s h.0 h.1.0), refl),
                inl (
                  refl,
                  (text, h.0, string_back s text h.0 h.1, (true, h.0, (sym (seen k.Colon h.2.1.0 h.0 h.2.0 h.2.1.1), refl), inl (refl, (x, r, is, (refl, refl))))),
                ),
              ),
            ),
          ),
        ),
      )

  pub instantiation_argument_back : (s : Input) (x : t.InstantiationArgument) (r : Input) → argument_levels x ≤ depth → Argument x s r → ArgumentEnds r → (e.instantiation_argument inner).Is x s r
  unfolding e.instantiation_argument e.spread_or_fill e.ident_argument same_token
  instantiation_argument_back s (t.InstantiationArgument.inferred id) r few h ends = (
    false,
    s,
    (sym (sees_at k.Ident k.Ellipsis id.span s r h.0), refl),
    inr (
      refl,
      (
        true,
        s,
        (sym (seen k.Ident id.span s r h.0), refl),
        inl (
          refl,
          (id, r, ident_back s id r h, (false, r, (sym (no_colon r ends), refl), inr (refl, (refl, refl)))),
        ),
      ),
    ),
  )
  instantiation_argument_back s (t.InstantiationArgument.spread id) r few h ends = (
    true,
    s,
    (sym (seen k.Ellipsis h.1.0 s h.0 h.1.1), refl),
    inl (
      refl,
      (
        h.1.0,
        h.0,
        h.1.1,
        (false, h.0, (sym (any_at k.Ident (k.Comma ∷ k.CloseBrace ∷ []) id.span h.0 r h.2.0), refl), inr (refl, (id, r, ident_back h.0 id r h.2, (refl, refl)))),
      ),
    ),
  )
  instantiation_argument_back s (t.InstantiationArgument.named x) r few h ends = named_back s x r few h ends
  instantiation_argument_back s (t.InstantiationArgument.fill span) r few h ends =
      (true, s, (sym (seen k.Ellipsis span s r h), refl), inl (refl, (span, r, h, (true, r, (sym ends, refl), inl (refl, (refl, refl))))))

  arguments_back : (xs : t.Arguments) (s r m : Input) (span : t.Span) → levels_of_arguments xs ≤ depth → Arguments xs s r → At k.CloseBrace span r m
      → IsListOf (e.instantiation_argument inner).Is k.CloseBrace true (unarguments xs) s r
  unfolding same_token
  arguments_back xs s r m span few h at =
      list_taken (e.instantiation_argument inner) Argument (ArgumentFits depth) ArgumentEnds e.argument_first k.CloseBrace instantiation_argument_back begins
      (λ span s m at. any_at k.Comma (k.Comma ∷ k.CloseBrace ∷ []) span s m at) (λ span s m at. any_at k.CloseBrace (k.Comma ∷ k.CloseBrace ∷ []) span s m at) refl refl
      (unarguments xs) s r m span (arguments_fit depth xs few) (listed xs s r h) at

  pub new_expr_back : (s : Input) (x : t.NewExpr) (r : Input) → new_levels x ≤ depth → New x s r → (e.new_expr inner).Is x s r
  unfolding e.new_expr
  new_expr_back s (t.NewExpr.new_expr span name track xs) r few h =
      let i = h.3.2.1 in (
        h.0,
        h.3.0,
        h.3.1,
        (
          (name, track),
          i.0,
          new_package_back h.3.0 (name, track) i.0 i.1,
          (
            i.2.1.0,
            i.2.0,
            i.2.1.1,
            (
              unarguments xs,
              h.3.2.0,
              arguments_back xs i.2.0 h.3.2.0 r h.1 few i.2.2 h.3.2.2,
              (
                h.1,
                r,
                h.3.2.2,
                (
                  ap (λ (z : t.Span). t.NewExpr.new_expr z name track xs) h.2 ∙ ap (λ (z : t.Arguments). t.NewExpr.new_expr (through h.0 h.1) name track z) (sym (arguments_again xs)),
                  refl,
                ),
              ),
            ),
          ),
        ),
      )

  pub primary_expr_back : (s : Input) (x : t.PrimaryExpr) (r : Input) → primary_levels x ≤ depth → Primary x s r → (e.primary_expr inner).Is x s r
  unfolding e.primary_expr e.new_expr e.nested_expr same_token
  primary_expr_back s (t.PrimaryExpr.new x) r few h =
      let is = new_expr_back s x r few h in
      (true, s, (sym (seen k.NewKeyword is.0 s is.1 is.2), refl), inl (refl, (x, r, is, (refl, refl))))
  primary_expr_back s (t.PrimaryExpr.nested x) r few h =
      let is = nested_expr_back s x r few h in (
        false,
        s,
        (sym (sees_at k.OpenParen k.NewKeyword is.0 s is.1 is.2), refl),
        inr (
          refl,
          (true, s, (sym (seen k.OpenParen is.0 s is.1 is.2), refl), inl (refl, (x, r, is, (refl, refl)))),
        ),
      )
  primary_expr_back s (t.PrimaryExpr.ident id) r few h = (
    false,
    s,
    (sym (sees_at k.Ident k.NewKeyword id.span s r h.0), refl),
    inr (
      refl,
      (
        false,
        s,
        (sym (sees_at k.Ident k.OpenParen id.span s r h.0), refl),
        inr (
          refl,
          (true, s, (sym (seen k.Ident id.span s r h.0), refl), inl (refl, (id, r, ident_back s id r h, (refl, refl)))),
        ),
      ),
    ),
  )

  expr_level_back : (s : Input) (x : t.Expr) (r : Input) → expression_levels x ≤ suc depth → Expr x s r → ExpressionEnds r → (e.expr_level inner).Is x s r
  unfolding e.expr_level
  expr_level_back s (t.Expr.expr span first accesses) r few h stop = (
    first,
    h.1.0,
    primary_expr_back s first h.1.0 (omega (arith, few)) h.1.1,
    (
      accesses,
      r,
      accesses_back accesses h.1.0 r h.1.2 stop,
      (ap (λ (z : t.Span). t.Expr.expr z first accesses) h.0, refl),
    ),
  )

pub expr_back : (depth : ℕ) (s : Input) (x : t.Expr) (r : Input) → expression_levels x ≤ depth → Expr x s r → ExpressionEnds r → (e.expr depth).Is x s r
unfolding e.expr
expr_back zero s (t.Expr.expr span first accesses) r few h stop = absurd (omega (arith, few))
expr_back (suc depth) s x r few h stop =
    expr_level_back depth (e.expr depth) (expr_back depth) (instantiation_argument_begins (e.expr depth) (expr_exact depth) (expr_takes depth)) s x r few h stop

pub expression_back : (s : Input) (x : t.Expr) (r : Input) → expression_levels x ≤ 128 → Expr x s r → ExpressionEnds r → e.expression.Is x s r
unfolding e.expression
expression_back s x r few h stop = expr_back 128 s x r few h stop
