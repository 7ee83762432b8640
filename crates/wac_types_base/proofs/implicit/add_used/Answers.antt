use Rattle.std.proofs.Common.{◌+◌, ◌<◌, ◌∙◌, drop, length, sym, ap, arith}
use Rattle.wac_types_base.specs.declared.item.ItemKind.{ItemKind}
use Rattle.wac_types_base.specs.Entries.{put_entry}
use Rattle.wac_types_base.specs.Implicit.{by_identifier, used_interfaces, shown}
use Rattle.wac_types_base.proofs.Loops.{get-place}
use Rattle.wac_types_base.proofs.Used.{among_at, drop_next, by_step, shown_insert}
use Rattle.wac_types_base.proofs.implicit.add_used.Goals as goal

pub interface-requires : goal.interface-requires
interface-requires c =
    let within : c.loop-used.used-index < length c.args.uses.now = omega arith in
    c.requires c.used-item.result (among_at c.args.uses.now c.loop-used.used-index c.used-item.result within c.used-item.is)

pub loop-used-preserved : goal.loop-used-preserved
loop-used-preserved c =
    let x = c.used-item.result in
    let i = c.loop-used.used-index in
    let within : i < length c.args.uses.now = omega arith in
    let rest = used_interfaces (drop (i + 1) c.args.uses.now) in
    c.loop-used.invariant
    ∙ ap (λ l. by_identifier c.args.types.now (shown c.loop-used.found.entries) (used_interfaces l)) (drop_next c.args.uses.now i x (get-place c.args.uses.now i x within c.used-item.is))
    ∙ by_step c.args.types.now (shown c.loop-used.found.entries) x.interface rest c.interface.result.now c.in-Some.id c.interface.ensures.entry c.in-Some.is
    ∙ ap (λ n. by_identifier c.args.types.now (put_entry (shown c.loop-used.found.entries) n (ItemKind.Instance x.interface)) rest) (sym c.as_str.ensures)
    ∙ ap (λ es. by_identifier c.args.types.now es rest) (sym (ap shown c.in-Ok.ensures.entries ∙ shown_insert c.loop-used.found.entries c.as_str.result (ItemKind.Instance x.interface)))
