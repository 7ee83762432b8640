use Rattle.std.proofs.Common.{take}
use Rattle.wac_types_base.specs.Entries.{values_of}
use Rattle.wac_graph_encode.specs.Writing.{AddsNeeded}
use Rattle.wac_graph_encode.specs.Ready.{AddsNames}
use Rattle.wac_graph_encode.proofs.instances.push_sources.Given as goal

abbrev pub invariant-loop-argument : goal.invariant-loop-argument
invariant-loop-argument l = record {
  only : AddsNeeded l.graph l.node l.fn.sources.items l.sources.items;
  all : AddsNames (take l.argument-index (values_of l.bound)) l.fn.sources.items l.sources.items;
}
