use Rattle.std.proofs.Common.{ap, refl, ◌∙◌}
use Rattle.wac_types_base.specs.Entries.{names_of}
use Rattle.wac_graph_encode.proofs.Importing.{importing_first, importing_more, importing_all}
use Rattle.wac_graph_encode.proofs.Readying.{added_all, added_first, added_next}
use Rattle.wac_graph_encode.proofs.root.import_packages.Goals as goal

pub loop-id-init : goal.loop-id-init
loop-id-init c = (
  importing_first c.args.graph.now c.args.types.now c.args.worlds.now.entries c.into_iter-id-iterator.result c.args.scope.now.scope c.args.packages.now.entries (c.into_iter-id-iterator.ensures.into_iter_gives ∙ c.iter-id-items.ensures.rest),
  refl,
  added_first (names_of c.args.worlds.now.entries) (names_of c.into_iter-id-iterator.result) (names_of c.args.packages.now.entries) (ap names_of (c.into_iter-id-iterator.ensures.into_iter_gives ∙ c.iter-id-items.ensures.rest)),
)

pub loop-id-preserved : goal.loop-id-preserved
loop-id-preserved c = (
  importing_more c.args.graph.now c.args.types.now c.args.worlds.now.entries c.loop-id.id-iterator c.next.new.self c.in-Some.id.now c.in-Some.world.now c.args.scope.now.scope c.args.packages.now.entries
      c.loop-id.scope.scope c.loop-id.packages.entries c.import_package.new.scope.scope c.import_package.new.packages.entries c.in-Some.ensures.steps c.loop-id.invariant.0 c.in_ok-import_package.ensures.imports,
  c.import_package.ensures.places ∙ c.loop-id.invariant.1,
  added_next (names_of c.args.worlds.now.entries) (names_of c.loop-id.id-iterator) (names_of c.next.new.self) c.in-Some.id.now (names_of c.args.packages.now.entries) (names_of c.loop-id.packages.entries) (names_of c.import_package.new.packages.entries)
      (ap names_of c.in-Some.ensures.steps) c.loop-id.invariant.2 c.in_ok-import_package.ensures.held,
)

pub returns-clause-held : goal.returns-clause-held
returns-clause-held c =
    added_all (names_of c.args.worlds.now.entries) (names_of c.loop-id.id-iterator) (names_of c.args.packages.now.entries) (names_of c.loop-id.packages.entries) (ap names_of c.in-None.ensures.steps.0) c.loop-id.invariant.2

pub returns-clause-imports : goal.returns-clause-imports
returns-clause-imports c =
    importing_all c.args.graph.now c.args.types.now c.args.worlds.now.entries c.loop-id.id-iterator c.args.scope.now.scope c.args.packages.now.entries c.loop-id.scope.scope c.loop-id.packages.entries
    c.in-None.ensures.steps.0 c.loop-id.invariant.0

pub returns-in_err-import_package-clause-places : goal.returns-in_err-import_package-clause-places
returns-in_err-import_package-clause-places c = c.import_package.ensures.places ∙ c.loop-id.invariant.1

pub returns-clause-places : goal.returns-clause-places
returns-clause-places c = c.loop-id.invariant.1
