use Rattle.std.proofs.Common.{refl, subst, arith}
use Rattle.std.proofs.lemmas.Option.{slice_get_within}
use Rattle.wac_types_base.proofs.Looked.{among-get}
use Rattle.wac_types_base.specs.declared.item.ItemKind.{ItemKind}
use Rattle.wac_types_parts.specs.Parts.{exports_of, IsOfInterface}
use Rattle.std.proofs.lemmas.Result.{err_from_is_err_and, on_ok_weaker}
use Rattle.wac_graph_scopes.proofs.RefusedLaws.{if_err_map}
use Rattle.wac_graph_scopes.specs.InstanceRefusals.{use_lacks, export_lacks}
use Rattle.wac_graph_scopes.proofs.StockLaws.{lacks_as, one_interface}
use Rattle.wac_graph_scopes.specs.Prepared.{AllUsedStand}
use Rattle.wac_graph_scopes.proofs.OrderLaws.{same_item}
use Rattle.wac_graph_scopes.proofs.PreparedLaws.{keeps_same, keeps_both, stands_kept, prepared_next, all_stand}
use Rattle.wac_graph_scopes.proofs.imports.ImportScope.+preparing.Goals as goal

pub prepare-returns-in-Some-clause-refused : goal.prepare-returns-in-Some-clause-refused
prepare-returns-in-Some-clause-refused t c =
    let id = c.in-Some.id in
    if_err_map c.prepare_interface.result (λ e h un. lacks_as c.args.all.types.now c.args.kind id c.in-Some.ensures.kind (ItemKind.Instance id) refl (h un)) c.prepare_interface.ensures.refused

pub prepare_interface-returns-in_err-alias_uses-clause-refused : goal.prepare_interface-returns-in_err-alias_uses-clause-refused
prepare_interface-returns-in_err-alias_uses-clause-refused t c =
    let p = err_from_is_err_and c.from_residual.result c.from_residual.ensures.1 in
    rw (p.1, p.2) (λ un. use_lacks c.args.id refl (c.in_err-alias_uses.ensures.refused un))

pub prepare_export-returns-in-Some-clause-refused : goal.prepare_export-returns-in-Some-clause-refused
prepare_export-returns-in-Some-clause-refused t c =
    let id = c.args.id in
    let item = c.in-Some.item in
    let among = among-get (exports_of c.args.all.types.now id) c.args.at (item.name.now, item.kind) c.in-Some.ensures.entry in
    if_err_map c.prepare.result (λ e h un. export_lacks id item.name.now refl among (h un)) c.prepare.ensures.refused

pub prepare_interface-loop-at-init : goal.prepare_interface-loop-at-init
prepare_interface-loop-at-init t c =
    let now = c.in_ok-alias_uses.ensures in
    record { goes = now.keeps; kept = now.kept; uses = now.stands; exports = λ m lt. absurd (omega (arith, lt)) }

pub prepare_interface-loop-at-preserved : goal.prepare_interface-loop-at-preserved
prepare_interface-loop-at-preserved t c =
    let before = c.loop-at.invariant in
    let now = c.in_ok-prepare_export.ensures in
    let a = c.args.all in
    record {
      goes = λ w outer i imported exported h. now.keeps w outer i imported exported (before.goes w outer i imported exported h);
      kept = keeps_both a c.args.self.now c.loop-at.self c.prepare_export.new.self before.kept now.kept;
      uses = λ m. stands_kept a c.loop-at.self c.prepare_export.new.self now.kept c.args.id m (before.uses m);
      exports = prepared_next a c.loop-at.self c.prepare_export.new.self now.kept c.args.id c.loop-at.at before.exports now.stands;
    }

pub prepare_interface-returns-clause-keeps : goal.prepare_interface-returns-clause-keeps
prepare_interface-returns-clause-keeps t c w outer i imported exported h = c.loop-at.invariant.goes w outer i imported exported h

pub prepare_interface-returns-clause-stands : goal.prepare_interface-returns-clause-stands
prepare_interface-returns-clause-stands t c =
    let a = c.args.all in
    let inv = c.loop-at.invariant in
    all_stand a c.loop-at.self c.args.id inv.uses (λ m n k e.
    let within = slice_get_within (exports_of a.types.now c.args.id) m (n, k) e in
    inv.exports m (omega (arith, within, c.loop-at-test.false, c.export_count-at-end.ensures.len)) n k e)

pub prepare-returns-in-Some-clause-stands : goal.prepare-returns-in-Some-clause-stands
prepare-returns-in-Some-clause-stands t c =
    let id = c.in-Some.id in
    on_ok_weaker c.prepare_interface.result
    (λ f stands j is. subst (AllUsedStand c.args.all c.prepare_interface.new.self) (one_interface c.args.kind id j c.in-Some.ensures.kind is) f) c.prepare_interface.ensures.stands

pub prepare-returns-in-None-clause-stands : goal.prepare-returns-in-None-clause-stands
prepare-returns-in-None-clause-stands t c stands id is = absurd (c.in-None.ensures.none stands id is)

pub prepare-returns-in-None-clause-kept : goal.prepare-returns-in-None-clause-kept
prepare-returns-in-None-clause-kept t c = keeps_same c.args.all c.args.self.now

pub prepare_export-returns-in-Some-clause-stands : goal.prepare_export-returns-in-Some-clause-stands
prepare_export-returns-in-Some-clause-stands t c =
    let item = c.in-Some.item in
    on_ok_weaker c.prepare.result
    (λ f n k e id is. f c.in-Some.ensures.inside.0 id (subst (λ j. IsOfInterface j id) (same_item (n, k) (item.name.now, item.kind) e c.in-Some.ensures.entry) is)) c.prepare.ensures.stands

pub prepare_export-returns-in-None-clause-stands : goal.prepare_export-returns-in-None-clause-stands
prepare_export-returns-in-None-clause-stands t c n k e =
    let within = slice_get_within (exports_of c.args.all.types.now c.args.id) c.args.at (n, k) e in
    absurd (omega (arith, within, c.in-None.ensures.none))

pub prepare_export-returns-in-None-clause-kept : goal.prepare_export-returns-in-None-clause-kept
prepare_export-returns-in-None-clause-kept t c = keeps_same c.args.all c.args.self.now
