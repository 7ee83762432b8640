use Rattle.std.proofs.Common.{sym, ap, subst, ◌∙◌, inl, inr}
use Rattle.wac_types_base.specs.Record.{Collection}
use Rattle.wac_types_base.specs.Collection.{Stands}
use Rattle.wac_types_base.specs.Tree.{tree}
use Rattle.wac_types_fit.specs.Trees.{tree_in}
use Rattle.wac_types_fit.proofs.values.is_one.Goals as goal

pub items_share-requires-clause-second : goal.items_share-requires-clause-second
items_share-requires-clause-second c = elim c.requires.apart [
  | inl same ↦ subst (λ (d : Collection). Stands d c.args.b) (sym same) c.requires.asked
  | inr apart ↦ absurd (apart (sym c.number.ensures ∙ c.if-number.false ∙ c.number-2.ensures))
]

pub returns : goal.returns
unfolding tree_in
returns c = λ yes. elim c.requires.apart [
  | inl same ↦ ap tree (c.items_share.ensures.stated yes) ∙ ap (λ (d : Collection). tree_in d c.args.b) same
  | inr apart ↦ absurd (apart (sym c.number.ensures ∙ c.if-number.false ∙ c.number-2.ensures))
]
