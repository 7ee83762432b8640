use Rattle.std.proofs.Common.{◌≤◌, length, Some, slice_get, refl, sym, ap, subst, ◌∙◌, arith}
use Rattle.wac_types_base.specs.declared.item.ItemKind.{ItemKind}
use Rattle.wac_types_fit.specs.Trees.{IsInside}
use Rattle.wac_types_base.specs.Entries.{Name, names_of}
use Rattle.wac_types_parts.proofs.InsideLaws.{use_inside}
use Rattle.wac_types_parts.proofs.PartLaws.{uses_there, uses_missing, name_at}
use Rattle.wac_types_parts.proofs.parts.use_at.Goals as goal

pub returns-then-at-len-clause-inside : goal.returns-then-at-len-clause-inside
returns-then-at-len-clause-inside c =
    subst (λ j. IsInside c.args.types.now (ItemKind.Instance j) (ItemKind.Instance c.args.id)) (sym c.use_of.ensures.interface)
    (use_inside c.args.types.now c.interface-interface.ensures.acyclic c.args.id c.interface-interface.result.now (c.if-not-has.ensures.0 refl) c.interface-interface.ensures.entry c.interface-interface.ensures.own
    c.args.at c.entry.result.0.now c.entry.result.1.now c.entry.ensures)

pub returns-then-at-len-clause-name : goal.returns-then-at-len-clause-name
returns-then-at-len-clause-name c =
    ap (λ l. slice_get (names_of l) c.args.at) (uses_there c.args.types.now c.args.id c.interface-interface.result.now c.interface-interface.ensures.entry c.interface-interface.ensures.own)
    ∙ name_at c.interface-interface.result.now.uses c.args.at c.entry.result.0.now c.entry.result.1.now c.entry.ensures ∙ ap (λ (n : Name). Some n) (sym c.use_of.ensures.name)

pub returns-then-at-len-clause-entry : goal.returns-then-at-len-clause-entry
returns-then-at-len-clause-entry c = (
  (c.entry.result.0.now, c.entry.result.1.now),
  ap (λ l. slice_get l c.args.at) (uses_there c.args.types.now c.args.id c.interface-interface.result.now c.interface-interface.ensures.entry c.interface-interface.ensures.own) ∙ c.entry.ensures,
  c.use_of.ensures,
)

pub returns-then-not-has-clause-none : goal.returns-then-not-has-clause-none
returns-then-not-has-clause-none c =
    subst (λ l. length l ≤ c.args.at) (sym (uses_missing c.args.types.now c.args.id (λ s. absurd (cc (c.if-not-has.ensures.1 s))))) (omega arith)

pub returns-else-at-len-clause-none : goal.returns-else-at-len-clause-none
returns-else-at-len-clause-none c =
    subst (λ l. length l ≤ c.args.at) (sym (uses_there c.args.types.now c.args.id c.interface-interface.result.now c.interface-interface.ensures.entry c.interface-interface.ensures.own)) (omega arith)
