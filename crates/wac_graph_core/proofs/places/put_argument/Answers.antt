use Rattle.std.proofs.Common.{ℕ, ap, subst, slice_set}
use Rattle.std.specs.Prelude.{string_bytes}
use Rattle.wac_types_base.proofs.Walking.{some_place}
use Rattle.wac_graph_core.specs.Ties.{Passes, arguments_in}
use Rattle.wac_graph_core.proofs.Placing.{at_index}
use Rattle.wac_graph_core.proofs.places.put_argument.Goals as goal

pub put_passed-requires-clause-none : goal.put_passed-requires-clause-none
put_passed-requires-clause-none c =
    let ts = c.args.ties.now.items in
    let there = at_index ts c.args.node c.index.result c.index_mut.result.now c.index.ensures (some_place ts c.args.node c.requires.room.at c.requires.room.there) c.index_mut.ensures.value in
    subst (λ xs. (a : ℕ) → Passes xs (string_bytes c.args.name) a → ⊥) (ap arguments_in there) c.requires.none

pub returns : goal.returns
returns c =
    let ts = c.args.ties.now.items in
    record {
      at = c.index_mut.result.now;
      there = at_index ts c.args.node c.index.result c.index_mut.result.now c.index.ensures (some_place ts c.args.node c.requires.room.at c.requires.room.there) c.index_mut.ensures.value;
      list = c.put_passed.new.list;
      put = c.put_passed.ensures;
      made = ap (λ j. slice_set ts j (record c.index_mut.result.now { arguments = c.put_passed.new.list })) c.index.ensures;
    }
