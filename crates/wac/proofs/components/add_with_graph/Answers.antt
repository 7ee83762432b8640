use Rattle.std.proofs.Common.{option_map, refl, subst}
use Rattle.std.specs.Option.{option_copied}
use Rattle.semver.specs.Identifiers.{parts_of}
use Rattle.wac_types_base.specs.Entries.{Name}
use Rattle.wac_texts.specs.Worlds.{IsDefined}
use Rattle.wac.proofs.components.add_with_graph.Goals as goal

pub returns-in-Ok-add_package-clause-added : goal.returns-in-Ok-add_package-clause-added
returns-in-Ok-add_package-clause-added c = record {
  handed = record {
    parts = record {
      key = (c.as_str-name.result.now, option_map parts_of (option_copied c.as_ref-version.result));
      bytes = c.args.added.bytes.items;
      types = c.types.result.now;
      world = c.in-Ok.world;
      number = c.args.workspace.now.next;
    };
    key = λ i. (c.as_str-name.ensures.value i, option_map parts_of (c.as_ref-version.ensures.value i));
    bytes = refl;
    fresh = c.in-Ok-add_package.ensures.bytes_new;
    added = c.in-Ok-add_package.ensures.added;
    next = c.in-Ok-add_package.ensures.numbered;
  };
  declared = c.in-Ok.ensures.declared;
  defined = subst (λ (n : Name). IsDefined c.args.graph.now n c.in-Ok.world) c.as_str.ensures.value c.in-Ok.ensures.defined;
  there = c.types.ensures;
}
