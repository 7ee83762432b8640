use Rattle.std.proofs.Common.{◌≡◌, map, take}
use Rattle.wac_parser_tree.proofs.lists.clone_all.Given as goal

abbrev pub invariant-loop-tree : goal.invariant-loop-tree
invariant-loop-tree g l = map g.T.Listed.view l.copies.items ≡ map g.T.Listed.view (take l.tree-index l.tree-items)
