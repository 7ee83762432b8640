use Rattle.std.proofs.Common.{◌≡◌, List, true, is_some, Some, sym, ap, subst, ◌∙◌, arith}
use Rattle.std.specs.Prelude.{⊤, vec_len}
use Rattle.wac_types_base.specs.declared.item.ItemKind.{ItemKind}
use Rattle.wac_types_base.specs.declared.ids.InterfaceId.{InterfaceId}
use Rattle.wac_types_base.specs.Record.{Collection}
use Rattle.wac_types_base.specs.Collection.{IsAcyclic}
use Rattle.wac_types_base.specs.Entries.{names_of, texts_of, value_at}
use Rattle.wac_types_base.specs.Stated.{exports_of, kind_of}
use Rattle.wac_composition.specs.Classes.{is_instance_kind}
use Rattle.wac_parser_tree.specs.Views.{view_ident}
use Rattle.wac_parser_refusals.specs.declared.error.InstanceOperation.{InstanceOperation}
use Rattle.wac_parser_refusals.specs.Causes.{Answer, ◌>>◌, SpreadInstantiationNoMatch}
use Rattle.wac_parser_refusals.specs.Outcomes.{IsOutcome, IsRefusal}
use Rattle.wac_parser_refusals.proofs.Outcomes.{after_outcome, after_refused}
use Rattle.wac_parser_declare.specs.Holding.{Holds}
use Rattle.wac_parser_declare.proofs.Members.{told}
use Rattle.wac_parser_resolve.specs.Ascribing.{Denoted, State, denoted_by}
use Rattle.wac_parser_resolve.specs.Denoting as stated
use Rattle.wac_parser_resolve.specs.Denoting.{asks_instance, left_names, needs_instance, spread_all}
use Rattle.wac_parser_resolve.specs.Holding.{Denotes}
use Rattle.wac_parser_resolve.specs.InArguments.{SaysGiven, imported_by, names_left}
use Rattle.wac_parser_resolve.proofs.Accesses.{held_any}
use Rattle.wac_parser_resolve.proofs.Items.{is_one}
use Rattle.wac_parser_resolve.proofs.Spreading.{are_left, left_same, needs_same, no_texts, none_spread, not_zero, some_spread, some_texts, zero_by}
use Rattle.wac_parser_resolve.proofs.arguments.spread.Goals as goal

pub returns-then-is_empty-clause-outcome : goal.returns-then-is_empty-clause-outcome
returns-then-is_empty-clause-outcome c noted q says =
    let g = c.args.graph.now in
    let ms = names_of noted in
    let i = view_ident c.args.id.now in
    let ns = imported_by g.types c.args.world in
    let acyclic = subst IsAcyclic c.types.ensures c.see_acyclic.ensures in
    after_refused (λ (d : Denoted). needs_instance d InstanceOperation.Spread i.span >> spread_all i.span d q (left_names q.1 ns d.item)) (Denotes g ms) (denoted_by q.0 i) c.in_ok-node.node c.named.result
    (c.in_ok-node.ensures.outcome ms q.0 says.0.root)
    (λ d dn.
    let h = held_any (asks_instance d.item InstanceOperation.Spread i.span) (λ (x : InterfaceId). Holds g.types d.item (ItemKind.Instance x)) c.in_ok-interface.interface (c.in_ok-interface.ensures.outcome d.item dn.item) in
    let one : is_instance_kind (kind_of d.item) ≡ true = is_one g.types acyclic d.item (ItemKind.Instance c.in_ok-interface.interface) h in
    let names : texts_of c.in_ok-names.names.items ≡ left_names q.1 ns d.item =
    c.in_ok-names.ensures.names ∙ ap (λ (x : Collection). names_left c.args.given.now.items x c.args.world c.in_ok-interface.interface) c.types-2.ensures
    ∙ left_same g ms q.1 c.args.given.now.items d.item c.args.world c.in_ok-interface.interface says.1 h in
    subst (λ (r : Answer (State × List stated.Given)). IsRefusal r c.named.result) (sym (needs_same d InstanceOperation.Spread i.span (spread_all i.span d q (left_names q.1 ns d.item)) one))
    (none_spread i.span d q (left_names q.1 ns d.item) c.named.result (sym names ∙ no_texts c.in_ok-names.names.items (let z = zero_by (vec_len c.in_ok-names.names) c.is_empty.result c.is_empty.ensures c.if-is_empty.true in omega (arith, z, c.in_ok-names.names.ok)))
    (told c.named.result SpreadInstantiationNoMatch (Some i.span) c.named.ensures)))

pub returns-clause-outcome : goal.returns-clause-outcome
returns-clause-outcome c noted q says =
    let g = c.args.graph.now in
    let ms = names_of noted in
    let i = view_ident c.args.id.now in
    let ns = imported_by g.types c.args.world in
    let acyclic = subst IsAcyclic c.types.ensures c.see_acyclic.ensures in
    let names = c.args.root.nodes.now in
    let H : State × List stated.Given → ⊤ → Type 0 = λ p u. SaysGiven c.give_exports.new.graph noted names c.give_exports.new.given.items p in
    after_outcome (λ (d : Denoted). needs_instance d InstanceOperation.Spread i.span >> spread_all i.span d q (left_names q.1 ns d.item)) (Denotes g ms) H (denoted_by q.0 i) c.in_ok-node.node c.give_exports.result
    (c.in_ok-node.ensures.outcome ms q.0 says.0.root)
    (λ d dn.
    let h = held_any (asks_instance d.item InstanceOperation.Spread i.span) (λ (x : InterfaceId). Holds g.types d.item (ItemKind.Instance x)) c.in_ok-interface.interface (c.in_ok-interface.ensures.outcome d.item dn.item) in
    let one : is_instance_kind (kind_of d.item) ≡ true = is_one g.types acyclic d.item (ItemKind.Instance c.in_ok-interface.interface) h in
    let same : texts_of c.in_ok-names.names.items ≡ left_names q.1 ns d.item =
    c.in_ok-names.ensures.names ∙ ap (λ (x : Collection). names_left c.args.given.now.items x c.args.world c.in_ok-interface.interface) c.types-2.ensures
    ∙ left_same g ms q.1 c.args.given.now.items d.item c.args.world c.in_ok-interface.interface says.1 h in
    let left = are_left q.1 (λ n. is_some (value_at (exports_of d.item) n)) ns (texts_of c.in_ok-names.names.items) same c.in_ok-names.ensures.distinct in
    let some = some_texts c.in_ok-names.names.items (λ e. not_zero (vec_len c.in_ok-names.names) c.is_empty.result c.is_empty.ensures c.if-is_empty.false (omega (arith, e, c.in_ok-names.names.ok))) in
    subst (λ (r : Answer (State × List stated.Given)). IsOutcome H r c.give_exports.result)
    (some_spread i.span d q (texts_of c.in_ok-names.names.items) some ∙ ap (spread_all i.span d q) same ∙ sym (needs_same d InstanceOperation.Spread i.span (spread_all i.span d q (left_names q.1 ns d.item)) one))
    (c.give_exports.ensures.outcome noted names q d says dn one left))
