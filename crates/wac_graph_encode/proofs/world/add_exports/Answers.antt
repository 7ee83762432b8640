use Rattle.std.proofs.Common.{ℕ, ◌≡◌, List, [], Some, length, slice_get, sym, ap, subst, arith}
use Rattle.wac_types_base.specs.declared.item.ItemKind.{ItemKind}
use Rattle.wac_types_base.specs.Entries.{Name}
use Rattle.wac_types_base.proofs.Adding.{Grows-refl, Grows-trans}
use Rattle.wac_types_base.proofs.Looked.{among-get}
use Rattle.wac_graph_encode.specs.Worlds.{AreExported}
use Rattle.wac_graph_encode.proofs.Exported.{exported_all, exported_next, exported_none}
use Rattle.wac_graph_encode.proofs.Finals.{finals_kept}
use Rattle.wac_graph_encode.proofs.world.add_exports.Goals as goal

pub loop-at-init : goal.loop-at-init
loop-at-init c = record {
  grows = Grows-refl c.args.types.now c.see_acyclic.ensures;
  copies = c.requires.copies;
  exported = subst (λ (es : List (Name × ItemKind)). AreExported c.args.graph.now c.args.types.now [] es) (sym c.requires.none) (exported_none c.args.graph.now c.args.types.now);
}

pub add_export-requires-clause-there : goal.add_export-requires-clause-there
add_export-requires-clause-there c =
    let es = c.args.graph.now.exports in
    let e : Name × ℕ = (c.entry-export.result.0.now, c.entry-export.result.1) in
    let at : slice_get es c.loop-at.at ≡ Some e = subst (λ (xs : List (Name × ℕ)). slice_get xs c.loop-at.at ≡ Some e) c.exports-listed.ensures c.entry-export.ensures in
    c.see_sound.ensures.exported.stand e.0 e.1 (among-get es c.loop-at.at e at)

pub add_export-requires-clause-finals : goal.add_export-requires-clause-finals
add_export-requires-clause-finals c = finals_kept c.args.graph.now c.args.types.now c.loop-at.types c.see_acyclic.ensures c.loop-at.invariant.grows c.args.finals.now c.requires.finals

pub loop-at-preserved : goal.loop-at-preserved
loop-at-preserved c =
    let g = c.args.graph.now in
    let i = c.loop-at.at in
    let e : Name × ℕ = (c.entry-export.result.0.now, c.entry-export.result.1) in
    let at : slice_get g.exports i ≡ Some e = subst (λ (xs : List (Name × ℕ)). slice_get xs i ≡ Some e) c.exports-listed.ensures c.entry-export.ensures in
    record {
      grows = Grows-trans c.args.types.now c.loop-at.types c.add_export.new.types c.loop-at.invariant.grows c.in_ok-add_export.ensures.grows;
      copies = c.in_ok-add_export.ensures.copies;
      exported = exported_next g c.loop-at.types c.add_export.new.types c.in_ok-add_export.ensures.grows g.exports c.see_sound.ensures.exported.distinct i e.0 e.1 c.loop-at.exports c.add_export.new.exports at c.in_ok-add_export.ensures.adds c.loop-at.invariant.exported;
    }

pub returns-clause-exports : goal.returns-clause-exports
returns-clause-exports c =
    let same = ap (λ (l : List (Name × ℕ)). length l) c.exports-listed.ensures in
    exported_all c.args.graph.now c.loop-at.types c.args.graph.now.exports c.loop-at.at c.loop-at.exports
    (omega (arith, same, c.len-at-end.ensures.len, c.loop-at-test.false)) c.loop-at.invariant.exported
