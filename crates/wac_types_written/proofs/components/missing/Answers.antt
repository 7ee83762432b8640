use Rattle.std.proofs.Common.{◌≤◌, [], arith, length, subst, sym}
use Rattle.wac_types_base.specs.declared.item.ItemKind.{ItemKind}
use Rattle.wac_types_base.specs.declared.ids.InterfaceId.{InterfaceId}
use Rattle.wac_types_base.specs.Entries.{Name}
use Rattle.wac_types_base.proofs.Looked.{among-get}
use Rattle.wac_types_base.proofs.Loops.{take-all}
use Rattle.wac_types_written.specs.Components.{AreMissing}
use Rattle.wac_types_base.proofs.Adding.{Grows-refl, Grows-trans}
use Rattle.wac_types_written.proofs.Typing.{missing_new, missing_next, missing_none}
use Rattle.wac_types_written.proofs.components.missing.Goals as goal

pub entry-requires : goal.entry-requires
entry-requires c = omega (arith, c.loop-at-test.true, c.len-at-end.ensures.len)

pub add_missing-requires : goal.add_missing-requires
add_missing-requires c =
    let e : Name × InterfaceId = (c.entry.result.0.now, c.entry.result.1.now) in
    record {
      stands = c.loop-at.invariant.grows.stand (ItemKind.Instance c.entry.result.1.now) (c.requires e (among-get c.args.used.now c.loop-at.at e c.entry.ensures));
      stand = c.loop-at.invariant.missing.stand;
      new = missing_new c.args.types.now c.loop-at.types c.args.used.now c.args.imports.now c.loop-at.all c.loop-at.at c.entry.result.0.now c.entry.result.1.now c.len-at-end.ensures.distinct c.loop-at.invariant.missing c.entry.ensures;
    }

pub loop-at-preserved : goal.loop-at-preserved
loop-at-preserved c =
    let e : Name × InterfaceId = (c.entry.result.0.now, c.entry.result.1.now) in
    record {
      grows = Grows-trans c.args.types.now c.loop-at.types c.add_missing.new.types c.loop-at.invariant.grows c.in_ok-add_missing.ensures.grows;
      missing = missing_next c.args.types.now c.loop-at.types c.add_missing.new.types c.args.used.now c.args.imports.now c.loop-at.all c.add_missing.new.all c.loop-at.at c.entry.result.0.now c.entry.result.1.now
          c.loop-at.invariant.grows c.in_ok-add_missing.ensures.grows c.requires c.loop-at.invariant.missing c.entry.ensures (c.requires e (among-get c.args.used.now c.loop-at.at e c.entry.ensures)) c.in_ok-add_missing.ensures.added;
    }

pub loop-at-init : goal.loop-at-init
loop-at-init c = record {
  grows = Grows-refl c.args.types.now c.see_acyclic.ensures;
  missing = subst (AreMissing c.args.types.now c.args.types.now [] c.args.imports.now) (sym c.new-all.ensures) (missing_none c.args.types.now c.args.imports.now);
}

pub returns-clause-missing : goal.returns-clause-missing
returns-clause-missing c =
    let whole : length c.args.used.now ≤ c.loop-at.at = omega (arith, c.loop-at-test.false, c.len-at-end.ensures.len) in
    subst (λ l. AreMissing c.args.types.now c.loop-at.types l c.args.imports.now c.loop-at.all) (take-all c.args.used.now c.loop-at.at whole) c.loop-at.invariant.missing
