use Rattle.std.proofs.Common.{◌∷◌, Some, refl, sym, ap, ◌∙◌}
use Rattle.indexmap.proofs.MapLemmas.{OnOk-map}
use Rattle.wac_types_base.specs.declared.item.ItemKind.{ItemKind}
use Rattle.wac_types_fit.proofs.Unfolded.{same_tree, end_no_alias}
use Rattle.wac_graph_scopes.proofs.UsedLaws.{item_value}
use Rattle.wac_graph_scopes.proofs.StockLaws.{KeepsTypes-trans}
use Rattle.wac_graph_scopes.proofs.value.note_value.Goals as goal

pub returns-clause-notes : goal.returns-clause-notes
returns-clause-notes c w outer i h e =
    let types = c.args.types.now in
    let a = c.see_acyclic.ensures in
    let r = c.resolve_value_type.ensures in
    let last = c.resolve_value_type.result in
    let stands = c.if-not-has.ensures.0 refl in
    let same = same_tree types a (ItemKind.Value last) (ItemKind.Value c.args.ty) r.stands stands r.tree in
    let value = item_value w types a (i.here ∷ outer) last c.args.ty c.args.index r.stands (end_no_alias types a r.resolved) same e in
    c.note_end.ensures.remembers types w outer i (c.in_ok-note_own.ensures.remembers w outer i h value) (value ∙ ap Some (sym same))

pub returns-clause-own : goal.returns-clause-own
returns-clause-own c stands =
    let known = c.in_ok-note_own.ensures.found in
    OnOk-map c.note_end.result _ _ (λ keeps. (known.0, keeps.known known.0 known.1, known.2, known.3)) c.note_end.ensures.keeps

pub returns-clause-keeps : goal.returns-clause-keeps
returns-clause-keeps c = OnOk-map c.note_end.result _ _ (KeepsTypes-trans c.args.scope.now c.note_own.new.scope c.note_end.new.scope c.in_ok-note_own.ensures.keeps) c.note_end.ensures.keeps
