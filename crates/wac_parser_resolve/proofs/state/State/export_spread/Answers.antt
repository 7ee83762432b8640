use Rattle.std.proofs.Common.{◌≡◌, List, true, Some, not, is_some, filter, sym, ap, subst, ◌∙◌, arith}
use Rattle.std.specs.Prelude.{⊤, vec_len}
use Rattle.wac_types_base.specs.declared.item.ItemKind.{ItemKind}
use Rattle.wac_types_base.specs.declared.ids.InterfaceId.{InterfaceId}
use Rattle.wac_types_base.specs.Collection.{IsAcyclic}
use Rattle.wac_types_base.specs.Entries.{Name, names_of, texts_of, value_at}
use Rattle.wac_types_base.specs.Stated.{exports_of, kind_of}
use Rattle.wac_composition.specs.Classes.{is_instance_kind}
use Rattle.wac_parser_refusals.specs.declared.error.InstanceOperation.{InstanceOperation}
use Rattle.wac_parser_refusals.specs.Causes.{Answer, SpreadExportNoEffect}
use Rattle.wac_parser_refusals.specs.Outcomes.{IsOutcome, IsRefusal}
use Rattle.wac_parser_declare.specs.Holding.{Holds}
use Rattle.wac_parser_declare.proofs.Members.{told}
use Rattle.wac_parser_resolve.specs.Ascribing.{State}
use Rattle.wac_parser_resolve.specs.Denoting.{asks_instance}
use Rattle.wac_parser_resolve.specs.Said.{IsSaid}
use Rattle.wac_parser_resolve.specs.Saying.{export_left}
use Rattle.wac_parser_resolve.proofs.Accesses.{held_any}
use Rattle.wac_parser_resolve.proofs.ExportStates.{left_is, none_left, some_left}
use Rattle.wac_parser_resolve.proofs.Items.{is_one}
use Rattle.wac_parser_resolve.proofs.Spreading.{needs_same, no_texts, not_zero, some_texts, zero_by}
use Rattle.wac_parser_resolve.proofs.state.State.export_spread.Goals as goal

pub returns-then-is_empty-clause-outcome : goal.returns-then-is_empty-clause-outcome
returns-then-is_empty-clause-outcome c own s d said dn spoken =
    let b = c.args.self.now in
    let g = b.board.types.graph in
    let at = c.args.span in
    let acyclic = subst IsAcyclic c.types.ensures c.see_acyclic.ensures in
    let i = c.in_ok-interface.interface in
    let left : List Name = filter (λ n. not (is_some (value_at s.exports n))) (names_of (exports_of d.item)) in
    let h = held_any (asks_instance d.item InstanceOperation.Spread at) (λ (x : InterfaceId). Holds g.types d.item (ItemKind.Instance x)) i (c.in_ok-interface.ensures.outcome d.item dn.item) in
    let one : is_instance_kind (kind_of d.item) ≡ true = is_one g.types acyclic d.item (ItemKind.Instance i) h in
    let names : texts_of c.in_ok-names.names.items ≡ left = c.in_ok-names.ensures ∙ left_is g (names_of b.board.instances.noted.items) s.exports d.item i said.exports.are h in
    subst (λ (r : Answer State). IsRefusal r c.named.result) (sym (needs_same d InstanceOperation.Spread at (export_left s at c.args.dots d left) one))
    (none_left s at c.args.dots d left c.named.result
    (sym names ∙ no_texts c.in_ok-names.names.items (let z = zero_by (vec_len c.in_ok-names.names) c.is_empty.result c.is_empty.ensures c.if-is_empty.true in omega (arith, z, c.in_ok-names.names.ok)))
    (told c.named.result SpreadExportNoEffect (Some at) c.named.ensures))

pub returns-clause-outcome : goal.returns-clause-outcome
returns-clause-outcome c own s d said dn spoken =
    let b = c.args.self.now in
    let g = b.board.types.graph in
    let at = c.args.span in
    let dots = c.args.dots in
    let acyclic = subst IsAcyclic c.types.ensures c.see_acyclic.ensures in
    let i = c.in_ok-interface.interface in
    let left : List Name = filter (λ n. not (is_some (value_at s.exports n))) (names_of (exports_of d.item)) in
    let h = held_any (asks_instance d.item InstanceOperation.Spread at) (λ (x : InterfaceId). Holds g.types d.item (ItemKind.Instance x)) i (c.in_ok-interface.ensures.outcome d.item dn.item) in
    let one : is_instance_kind (kind_of d.item) ≡ true = is_one g.types acyclic d.item (ItemKind.Instance i) h in
    let names : texts_of c.in_ok-names.names.items ≡ left = c.in_ok-names.ensures ∙ left_is g (names_of b.board.instances.noted.items) s.exports d.item i said.exports.are h in
    let some = some_texts c.in_ok-names.names.items (λ e. not_zero (vec_len c.in_ok-names.names) c.is_empty.result c.is_empty.ensures c.if-is_empty.false (omega (arith, e, c.in_ok-names.names.ok))) in
    subst (λ (r : Answer State). IsOutcome (λ (q : State) (u : ⊤). IsSaid own c.export_all.new.self q) r c.export_all.result)
    (some_left s at dots d (texts_of c.in_ok-names.names.items) some ∙ ap (export_left s at dots d) names ∙ sym (needs_same d InstanceOperation.Spread at (export_left s at dots d left) one))
    (c.export_all.ensures.outcome own s d said dn one)
