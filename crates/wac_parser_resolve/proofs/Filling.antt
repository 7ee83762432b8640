-- Arguments that are filled up, and those that are missing.
use Rattle.std.proofs.Common.{◌≡◌, ℕ, ◌+◌, ◌<◌, List, ◌∷◌, map, get_or, drop, length, Bool, true, false, Option, Some, None, refl, sym, ap, subst, ◌∙◌}
use Rattle.std.specs.Prelude.{⊤}
use Rattle.std.proofs.lemmas.List.{drop_more}
use Rattle.wac_types_base.specs.Entries.{Name}
use Rattle.wac_parser_tree.specs.Trees as t
use Rattle.wac_parser_tree.specs.declared.expr.InstantiationArgument.{InstantiationArgument}
use Rattle.wac_parser_tree.specs.Views.{view_instantiation_argument}
use Rattle.wac_parser_refusals.specs.declared.refusal.Refusal.{Refusal}
use Rattle.wac_parser_refusals.specs.Causes.{MissingInstantiationArg}
use Rattle.wac_parser_refusals.specs.Outcomes.{IsHeld, IsRefusal, Refuses}
use Rattle.wac_parser_resolve.specs.Denoting.{is_filled, none_missing}

fill_by : (a : t.InstantiationArgument) (as_ : t.Arguments) → is_filled (t.argument a t.no_arguments) ≡ true → is_filled (t.argument a as_) ≡ true
fill_by (t.InstantiationArgument.fill s) as_ e = refl
fill_by (t.InstantiationArgument.inferred i) as_ e = absurd (cc e)
fill_by (t.InstantiationArgument.spread i) as_ e = absurd (cc e)
fill_by (t.InstantiationArgument.named x) as_ e = absurd (cc e)

past_by : (a : t.InstantiationArgument) (as_ : t.Arguments) → is_filled (t.argument a t.no_arguments) ≡ false → is_filled (t.argument a as_) ≡ is_filled as_
past_by (t.InstantiationArgument.fill s) as_ e = absurd (cc e)
past_by (t.InstantiationArgument.inferred i) as_ e = refl
past_by (t.InstantiationArgument.spread i) as_ e = refl
past_by (t.InstantiationArgument.named x) as_ e = refl

module _ (args : List InstantiationArgument) (i : ℕ) (this : InstantiationArgument) (lt : i < length args) (is : this ≡ get_or args i this) where
  abbrev left_at : ℕ → Bool
  left_at k = is_filled (t.arguments (map view_instantiation_argument (drop k args)))

  here : left_at i ≡ is_filled (t.argument (view_instantiation_argument this) (t.arguments (map view_instantiation_argument (drop (i + 1) args))))
  here = ap (λ (xs : List InstantiationArgument). is_filled (t.arguments (map view_instantiation_argument xs))) (drop_more args i this lt ∙ ap (λ (a : InstantiationArgument). a ∷ drop (i + 1) args) (sym is))

  pub fill_here : is_filled (t.argument (view_instantiation_argument this) t.no_arguments) ≡ true → left_at i ≡ true
  fill_here e = here ∙ fill_by (view_instantiation_argument this) _ e

  pub fill_past : is_filled (t.argument (view_instantiation_argument this) t.no_arguments) ≡ false → left_at (i + 1) ≡ left_at i
  fill_past e = sym (here ∙ past_by (view_instantiation_argument this) _ e)

-- ---- what is missing

pub missing_none : (p : t.PackageName) (o : Option Name) (v : ⊤) → o ≡ None → IsHeld (λ u w. Unit {0}) (none_missing p o) v
missing_none p None v e = tt
missing_none p (Some n) v e = absurd (cc e)

pub missing_some : (p : t.PackageName) (o : Option Name) (n : Name) (e : Refusal) → o ≡ Some n → Refuses e (MissingInstantiationArg n p.string) p.span → IsRefusal (none_missing p o) e
missing_some p None n e is r = absurd (cc is)
missing_some p (Some m) n e is r = let same : n ≡ m = sym (cc is) in subst (λ (k : Name). Refuses e (MissingInstantiationArg k p.string) p.span) same r
