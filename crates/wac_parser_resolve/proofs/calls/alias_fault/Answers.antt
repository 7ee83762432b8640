use Rattle.std.proofs.Common.{Some, subst}
use Rattle.std.specs.Prelude.{string_bytes}
use Rattle.wac_types_base.specs.Record.{Collection}
use Rattle.wac_types_base.specs.Collection.{IsAcyclic}
use Rattle.wac_types_base.specs.Entries.{Name}
use Rattle.wac_graph_core.specs.Refusals.{AliasRefused}
use Rattle.wac_parser_refusals.specs.Causes.{◌>>◌, MissingInstanceExport}
use Rattle.wac_parser_refusals.specs.Outcomes.{Refuses}
use Rattle.wac_parser_refusals.proofs.Outcomes.{memory_refusal}
use Rattle.wac_parser_declare.proofs.Members.{told}
use Rattle.wac_parser_resolve.specs.Denoting.{export_named, needs_instance}
use Rattle.wac_parser_resolve.proofs.Rooted.{no_export, no_instance}
use Rattle.wac_parser_resolve.proofs.calls.alias_fault.Goals as goal

pub returns-in-NodeIsNotAnInstance : goal.returns-in-NodeIsNotAnInstance
returns-in-NodeIsNotAnInstance c n d refused item =
    let a = subst (λ (x : Collection). IsAcyclic x) c.types.ensures c.see_acyclic.ensures in
    let r = subst (AliasRefused c.args.graph.now c.args.node n) c.in-NodeIsNotAnInstance.is refused in
    no_instance c.args.graph.now a c.args.node d item c.args.access.operation c.args.access.instance c.not_an_instance.result (export_named d n c.args.access.access) r.1 (c.not_an_instance.ensures d.item item)

pub returns-in-InstanceMissingExport : goal.returns-in-InstanceMissingExport
returns-in-InstanceMissingExport c n d refused item =
    let a = subst (λ (x : Collection). IsAcyclic x) c.types.ensures c.see_acyclic.ensures in
    let r = subst (AliasRefused c.args.graph.now c.args.node n) c.in-InstanceMissingExport.is refused in
    no_export c.args.graph.now a c.args.node d item c.args.access.operation c.args.access.instance c.named.result n c.args.access.access r.2
    (subst (λ (m : Name). Refuses c.named.result (MissingInstanceExport m) c.args.access.access) r.1
    (told c.named.result (MissingInstanceExport (string_bytes c.in-InstanceMissingExport.export)) (Some c.args.access.access) c.named.ensures))

pub returns-in-Memory : goal.returns-in-Memory
returns-in-Memory c n d refused item = memory_refusal (needs_instance d c.args.access.operation c.args.access.instance >> export_named d n c.args.access.access) _ tt
