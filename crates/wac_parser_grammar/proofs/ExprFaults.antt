-- The faults of expressions stand in the source.
use Rattle.std.proofs.Common.{ℕ, zero, suc, inr, true, List, [], ◌∷◌, arith}
use Rattle.wac_types_names.specs.Tracks.{IsTrack}
use Rattle.wac_parser_lexer.specs.declared.token.Token.TheVariants as k
use Rattle.wac_parser_tree.specs.Trees as t
use Rattle.wac_parser_grammar.specs.Rules.{Rule, ◌>>=◌, pure}
use Rattle.wac_parser_grammar.proofs.Faithful.{Faithful, Any, anywhere, bind_faithful, pure_faithful, none_both, refuse_faithful, token_faithful, begin_faithful, begin_any_faithful}
use Rattle.wac_parser_grammar.proofs.FaithfulLists.{list_faithful, while_faithful}
use Rattle.wac_parser_grammar.specs.Expressions.{expr_first, postfix_first, argument_first, argument_name, access_expr, named_access_expr, postfix_expr, spread_or_fill, nested_expr, argument_value, named_argument, ident_argument, string_argument, instantiation_argument, new_expr, primary_expr, expr_level, expr, expression}
use Rattle.wac_parser_grammar.proofs.Exact.{Exact, Takes}
use Rattle.wac_parser_grammar.proofs.ExprLaws.{postfix_expr_exact, postfix_expr_takes, instantiation_argument_exact, instantiation_argument_takes, expr_exact, expr_takes}
use Rattle.wac_parser_grammar.proofs.Faithful.{FaithfulBy, Loose, too_deep_loose}
use Rattle.wac_parser_grammar.specs.Nesting.{expressions}
use Rattle.wac_parser_grammar.specs.Standing.{Saying, BeginsTooDeep, IsUntracked}
use Rattle.wac_parser_grammar.proofs.Sinking.{Sinks}
use Rattle.wac_parser_grammar.proofs.ExprDepths.{expr_sinks, nested_sinks, new_sinks, primary_sinks}
use Rattle.wac_parser_grammar.proofs.DeepFaults.{deep_faithful}
use Rattle.wac_parser_grammar.proofs.StringFaults.{string_refused}
use Rattle.wac_parser_grammar.proofs.NameFaults.{ident_faithful, string_faithful, new_package_faithful}

pub argument_name_faithful : {N : Saying} → FaithfulBy N Any argument_name
unfolding argument_name
argument_name_faithful = begin_faithful k.Ident _ _ (bind_faithful _ _ (ident_faithful) (λ v0. pure_faithful _)) (begin_faithful k.String _ _ (bind_faithful _ _ (anywhere (string_faithful)) (λ v0. pure_faithful _)) (refuse_faithful _ (λ s h. none_both _ _ _ h.0.1 h.1)))

pub access_expr_faithful : {N : Saying} → FaithfulBy N Any access_expr
unfolding access_expr
access_expr_faithful = bind_faithful _ _ (token_faithful k.Dot) (λ v0. bind_faithful _ _ (ident_faithful) (λ v1. pure_faithful _))

pub named_access_expr_faithful : {N : Saying} → FaithfulBy N Any named_access_expr
unfolding named_access_expr
named_access_expr_faithful = bind_faithful _ _ (token_faithful k.OpenBracket) (λ v0. bind_faithful _ _ (string_faithful) (λ v1. bind_faithful _ _ (token_faithful k.CloseBracket) (λ v2. pure_faithful _)))

pub postfix_expr_faithful : {N : Saying} → FaithfulBy N Any postfix_expr
unfolding postfix_expr
postfix_expr_faithful = begin_faithful k.Dot _ _ (bind_faithful _ _ (access_expr_faithful) (λ v0. pure_faithful _)) (bind_faithful _ _ (anywhere (named_access_expr_faithful)) (λ v0. pure_faithful _))

pub spread_or_fill_faithful : {N : Saying} → FaithfulBy N Any spread_or_fill
unfolding spread_or_fill
spread_or_fill_faithful = bind_faithful _ _ (token_faithful k.Ellipsis) (λ v0. begin_any_faithful (k.Comma ∷ k.CloseBrace ∷ []) _ _ (pure_faithful _) (bind_faithful _ _ (anywhere (ident_faithful)) (λ v1. pure_faithful _)))

module _ {N : Saying} (inner : Rule t.Expr) (exact : Exact inner) (takes : Takes inner) (faithful : FaithfulBy N Any inner)
    (untracked : (text : List ℕ) → (IsTrack text → ⊥) → N.unread text) where
  pub nested_expr_faithful : FaithfulBy N Any (nested_expr inner)
  unfolding nested_expr
  nested_expr_faithful = bind_faithful _ _ (token_faithful k.OpenParen) (λ v0. bind_faithful _ _ (faithful) (λ v1. bind_faithful _ _ (token_faithful k.CloseParen) (λ v2. pure_faithful _)))

  pub argument_value_faithful : (name : t.InstantiationArgumentName) → FaithfulBy N Any (argument_value inner name)
  unfolding argument_value
  argument_value_faithful name = bind_faithful _ _ (token_faithful k.Colon) (λ v0. bind_faithful _ _ (faithful) (λ v1. pure_faithful _))

  pub named_argument_faithful : FaithfulBy N Any (named_argument inner)
  unfolding named_argument
  named_argument_faithful = bind_faithful _ _ (argument_name_faithful) (λ v0. argument_value_faithful v0)

  pub ident_argument_faithful : FaithfulBy N Any (ident_argument inner)
  unfolding ident_argument
  ident_argument_faithful = bind_faithful _ _ (ident_faithful) (λ v0. begin_faithful k.Colon _ _ (bind_faithful _ _ (argument_value_faithful _) (λ v1. pure_faithful _)) (pure_faithful _))

  pub string_argument_faithful : FaithfulBy N Any (string_argument inner)
  unfolding string_argument
  string_argument_faithful = string_refused (λ s. argument_value inner (t.InstantiationArgumentName.string s) >>= (λ a. pure (t.InstantiationArgument.named a))) (λ s. bind_faithful _ _ (argument_value_faithful _) (λ a. pure_faithful _))

  pub instantiation_argument_faithful : FaithfulBy N Any (instantiation_argument inner)
  unfolding instantiation_argument
  instantiation_argument_faithful = begin_faithful k.Ellipsis _ _ (spread_or_fill_faithful) (begin_faithful k.Ident _ _ (anywhere (ident_argument_faithful)) (begin_faithful k.String _ _ (anywhere (string_argument_faithful)) (refuse_faithful _ (λ s h. none_both _ _ _ h.0.0.1 (none_both _ _ _ h.0.1 h.1)))))

  pub new_expr_faithful : FaithfulBy N Any (new_expr inner)
  unfolding new_expr
  new_expr_faithful = bind_faithful _ _ (token_faithful k.NewKeyword) (λ v0. bind_faithful _ _ (new_package_faithful untracked) (λ v1. bind_faithful _ _ (token_faithful k.OpenBrace) (λ v2. bind_faithful _ _ (list_faithful (instantiation_argument inner) argument_first k.CloseBrace true (instantiation_argument_exact inner exact takes) (instantiation_argument_takes inner exact takes) instantiation_argument_faithful) (λ v3. bind_faithful _ _ (token_faithful k.CloseBrace) (λ v4. pure_faithful _)))))

  pub primary_expr_faithful : FaithfulBy N Any (primary_expr inner)
  unfolding primary_expr
  primary_expr_faithful = begin_faithful k.NewKeyword _ _ (bind_faithful _ _ (new_expr_faithful) (λ v0. pure_faithful _)) (begin_faithful k.OpenParen _ _ (bind_faithful _ _ (anywhere (nested_expr_faithful)) (λ v0. pure_faithful _)) (begin_faithful k.Ident _ _ (bind_faithful _ _ (anywhere (ident_faithful)) (λ v0. pure_faithful _)) (refuse_faithful _ (λ s h. none_both _ _ _ h.0.0.1 (none_both _ _ _ h.0.1 h.1)))))

  pub expr_level_faithful : FaithfulBy N Any (expr_level inner)
  unfolding expr_level
  expr_level_faithful = bind_faithful _ _ (primary_expr_faithful) (λ v0. bind_faithful _ _ (while_faithful postfix_expr postfix_first postfix_expr_exact postfix_expr_takes postfix_expr_faithful) (λ v1. pure_faithful _))

-- whatever is said of nesting
expr_loose : (unread : List ℕ → Type 0) → ((text : List ℕ) → (IsTrack text → ⊥) → unread text) → (n : ℕ) → FaithfulBy (Loose unread) Any (expr n)
unfolding expr
expr_loose unread untracked zero = too_deep_loose expr_first
expr_loose unread untracked (suc n) = expr_level_faithful (expr n) (expr_exact n) (expr_takes n) (expr_loose unread untracked n) untracked

-- with so much room, for whatever is said of a text that is no track
module _ (unread : List ℕ → Type 0) (untracked : (text : List ℕ) → (IsTrack text → ⊥) → unread text) where
  abbrev Said : ℕ → Saying
  Said n = record { deep = BeginsTooDeep n; unread = unread }

  expr_by : (n : ℕ) → FaithfulBy (Said n) Any (expr n)
  expr_by n = deep_faithful {N = Said n} (expr_loose unread untracked n) (expr_sinks n 0 (omega arith)) (λ s span h. inr h)

  -- what holds expressions for which there is room for so many levels
  module _ (n : ℕ) where
    room : Sinks expressions (suc n) 1 (λ _. 1) (expr n)
    room = expr_sinks n 1 (omega arith)

    pub nested_by : FaithfulBy (Said (suc n)) Any (nested_expr (expr n))
    nested_by = deep_faithful {N = Said (suc n)} (nested_expr_faithful (expr n) (expr_exact n) (expr_takes n) (expr_loose unread untracked n) untracked) (nested_sinks (expr n) room) (λ s span h. inr h)

    pub new_by : FaithfulBy (Said (suc n)) Any (new_expr (expr n))
    new_by = deep_faithful {N = Said (suc n)} (new_expr_faithful (expr n) (expr_exact n) (expr_takes n) (expr_loose unread untracked n) untracked) (new_sinks (expr n) room) (λ s span h. inr h)

    pub primary_by : FaithfulBy (Said (suc n)) Any (primary_expr (expr n))
    primary_by = deep_faithful {N = Said (suc n)} (primary_expr_faithful (expr n) (expr_exact n) (expr_takes n) (expr_loose unread untracked n) untracked) (primary_sinks (expr n) room) (λ s span h. inr h)

    pub argument_by : FaithfulBy (Said n) Any (instantiation_argument (expr n))
    argument_by = instantiation_argument_faithful (expr n) (expr_exact n) (expr_takes n) (expr_by n) untracked

    pub named_by : FaithfulBy (Said n) Any (named_argument (expr n))
    named_by = named_argument_faithful (expr n) (expr_exact n) (expr_takes n) (expr_by n) untracked

pub expression_faithful : Faithful Any expression
unfolding expression
expression_faithful = expr_by (λ text. Unit {0}) (λ text h. tt) 128

pub expression_untracked : FaithfulBy (IsUntracked 128) Any expression
unfolding expression
expression_untracked = expr_by (λ text. IsTrack text → ⊥) (λ text h. h) 128
