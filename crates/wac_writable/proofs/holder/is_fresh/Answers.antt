use Rattle.std.proofs.Common.{true≢false, refl, sym, ◌∙◌}
use Rattle.wac_writable.proofs.ItemLaws.{fresh_resource, fresh_missing, fresh_other}
use Rattle.wac_writable.proofs.holder.is_fresh.Goals as goal

pub returns-then-has : goal.returns-then-has
returns-then-has c = c.eq.ensures ∙ fresh_resource c.args.types.now c.see_acyclic.ensures c.args.item.kind c.in-Some.id c.args.item.name.now c.root_name.result.now (sym c.in-Some.ensures) (c.if-has.ensures.0 refl) c.root_name.ensures

pub returns-else-has : goal.returns-else-has
returns-else-has c = c.if-has.false ∙ fresh_missing c.args.types.now c.see_acyclic.ensures c.args.item.kind c.args.item.name.now (λ s. true≢false (sym (c.if-has.ensures.1 s)))

pub returns-in-None : goal.returns-in-None
returns-in-None c = fresh_other c.args.types.now c.see_acyclic.ensures c.args.item.kind c.args.item.name.now (sym c.in-None.ensures)
