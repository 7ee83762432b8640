use Rattle.std.proofs.Common.{refl}
use Rattle.wac_graph_encode.proofs.instances.Wired.alias_of.Goals as goal

pub sort_at-sort-requires : goal.sort_at-sort-requires
sort_at-sort-requires c = c.requires.sorted

pub place_of-requires : goal.place_of-requires
place_of-requires c = c.requires.stand c.in-Some.found.0 c.in-Some.found.1.now c.in-Some.ensures.found

pub returns : goal.returns
returns c = record {
  from = c.in-Some.found.0;
  place = c.place_of.result;
  stands = c.place_of.ensures;
  same = refl;
  edge = c.in-Some.ensures.found;
  item = c.sort_at-sort.ensures;
}

pub unreachable-requires : goal.unreachable-requires
unreachable-requires c = c.in-None.ensures.none c.requires.one.0 c.requires.one.1 c.requires.one.2
