use Rattle.std.proofs.Common.{Option, refl, sym, ap, subst, ◌∙◌}
use Rattle.wac_types_base.specs.declared.ids.WorldId.{WorldId}
use Rattle.wac_types_base.specs.Entries.{Name}
use Rattle.wac_types_base.specs.Record.{Collection}
use Rattle.wac_graph_scopes.specs.declared.imports.SortIndex.{SortIndex}
use Rattle.wac_graph_encode.specs.Ready.{AllStandUnder}
use Rattle.wac_graph_encode.specs.Standing.{written_under}
use Rattle.wac_graph_encode.specs.Writing.{outer_of}
use Rattle.wac_graph_encode.proofs.Readying.{no_world, world_held}
use Rattle.wac_graph_encode.proofs.WritingSteps.{passes_if}
use Rattle.wac_graph_encode.proofs.instances.Wired.arguments.Goals as goal

pub arguments_in-requires : goal.arguments_in-requires
arguments_in-requires c =
    let w = c.args.self.now in
    let held = world_held _ c.in-Some.world (sym c.world_at.ensures.world ∙ c.in-Some.is) in
    subst (λ (f : Name → Option SortIndex). AllStandUnder c.types.result.now c.in-Some.world f w.root.nodes.entries c.args.bound.now) (sym (ap (written_under w.places.now) c.deref.ensures.value))
    (subst (λ (t : Collection). AllStandUnder t c.in-Some.world (outer_of w) w.root.nodes.entries c.args.bound.now) (sym c.types.ensures)
    (subst (λ (d : WorldId). AllStandUnder w.graph.now.types d (outer_of w) w.root.nodes.entries c.args.bound.now) held.2 (c.requires.stand held.0 held.1)))

pub returns : goal.returns
returns c =
    passes_if c.args.self.now _ refl (ap (written_under c.args.self.now.places.now) c.deref.ensures.value) c.args.id c.args.bound.now c.types.result.now c.types.ensures c.in-Some.world (sym c.in-Some.is ∙ c.world_at.ensures.world) c.arguments_in.result c.arguments_in.ensures.distinct c.arguments_in.ensures.given

pub unreachable-requires : goal.unreachable-requires
unreachable-requires c = no_world _ (sym c.world_at.ensures.world ∙ c.in-None.is) c.requires.there
