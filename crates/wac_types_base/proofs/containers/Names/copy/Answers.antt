use Rattle.std.proofs.Common.{◌≡◌, ◌<◌, ◌∙◌, arith, ap, sym, take, Some, slice_get, length}
use Rattle.std.specs.Prelude.{string_bytes}
use Rattle.wac_types_base.specs.Entries.{put_name}
use Rattle.wac_types_base.proofs.Looked.{put_name-new, distinct-before, take-one_more, text-place}
use Rattle.wac_types_base.proofs.containers.Names.copy.Goals as goal

pub loop-at-preserved : goal.loop-at-preserved
loop-at-preserved c =
    let n = string_bytes c.in_ok-name.name in
    let within : c.loop-at.at < length c.args.self.now = omega (arith, c.loop-at-test.true, c.len-at-end.ensures.len) in
    let place : slice_get c.args.self.now c.loop-at.at ≡ Some n = text-place c.as_slice.result.now c.args.self.now c.loop-at.at c.index-as_slice-at.result c.as_slice.ensures within
    ∙ ap (λ s. Some (string_bytes s)) (sym c.index-as_slice-at.is) ∙ ap Some (sym c.in_ok-name.ensures.cases) in
    c.in_ok-insert.ensures.ok ∙ ap (λ l. put_name l n) c.loop-at.invariant
    ∙ put_name-new (take c.loop-at.at c.args.self.now) n (distinct-before c.args.self.now c.loop-at.at n c.len-at-end.ensures.distinct place)
    ∙ sym (take-one_more c.args.self.now c.loop-at.at n place)
