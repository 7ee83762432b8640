use Rattle.std.proofs.Common.{◌≡◌, refl, sym, subst, ◌∙◌, true}
use Rattle.std.specs.Prelude.{string_bytes, slice_index_or}
use Rattle.wac_graph_core.specs.Ties.{Passes}
use Rattle.wac_graph_core.specs.TieSteps.{TakesPassed, taken, not_passed}
use Rattle.wac_graph_core.proofs.TieKeys.{passed_at, passed_one, passed_none, passed_out}
use Rattle.wac_graph_core.proofs.ties.take_passed.Goals as goal

pub returns-then-index : goal.returns-then-index
returns-then-index c =
    not_passed (λ h. c.if-index.true (c.index.ensures ∙ sym (passed_one c.args.list.now.items c.args.name.now c.in-Ok.place c.see_sorted.ensures c.in-Ok.ensures.found c.as_slice.result.now c.as_slice.ensures.value _ c.args.node h) ∙ sym c.index-in-Ok.ensures)) refl

pub returns-else-index : goal.returns-else-index
returns-else-index c =
    let is : (slice_index_or c.as_slice.result.now c.in-Ok.place c.index-as_slice-place.result).1 ≡ c.args.node = sym c.index.ensures ∙ c.if-index.false ∙ c.index-in-Ok.ensures in
    subst (λ l. TakesPassed c.args.list.now.items l (string_bytes c.args.name.now) c.args.node true) (sym c.remove_at.ensures)
    (taken (subst (Passes c.args.list.now.items (string_bytes c.args.name.now)) is (passed_at c.args.list.now.items c.args.name.now c.in-Ok.place c.in-Ok.ensures.found c.as_slice.result.now c.as_slice.ensures.value _))
    (λ b h. passed_one c.args.list.now.items c.args.name.now c.in-Ok.place c.see_sorted.ensures c.in-Ok.ensures.found c.as_slice.result.now c.as_slice.ensures.value _ b h ∙ is)
    (passed_out c.args.list.now.items c.args.name.now c.in-Ok.place c.see_sorted.ensures c.in-Ok.ensures.found))

pub returns-in-Err : goal.returns-in-Err
returns-in-Err c = not_passed (passed_none c.args.list.now.items c.args.name.now _ c.in-Err.ensures.absent c.args.node) refl
