use Rattle.std.proofs.Common.{◌≡◌, ◌+◌, ◌≤◌, ap, sym, ◌∙◌, subst, slice_set}
use Rattle.std.specs.Prelude.{vec_len, vec_capacity}
use Rattle.std.proofs.lemmas.Option.{same_Some}
use Rattle.wac_types_base.proofs.Walking.{some_place}
use Rattle.wac_graph_core.specs.declared.ties.Ties.{Ties}
use Rattle.wac_graph_core.specs.TieSteps.{LacksTie}
use Rattle.wac_graph_core.proofs.Placing.{at_index}
use Rattle.wac_graph_core.proofs.places.put_dependant.Goals as goal

pub put_tie-requires : goal.put_tie-requires
put_tie-requires c =
    let ts = c.args.ties.now.items in
    let there = at_index ts c.args.node c.index.result c.index_mut.result.now c.index.ensures (some_place ts c.args.node c.requires.at c.requires.there) c.index_mut.ensures.value in
    let same : c.requires.at ≡ c.index_mut.result.now = same_Some _ _ (sym c.requires.there ∙ there) in
    subst (λ (x : Ties). LacksTie x.dependants.items c.args.tie → vec_len x.dependants + 1 ≤ vec_capacity x.dependants) same c.requires.room

pub returns : goal.returns
returns c =
    let ts = c.args.ties.now.items in
    record {
      at = c.index_mut.result.now;
      there = at_index ts c.args.node c.index.result c.index_mut.result.now c.index.ensures (some_place ts c.args.node c.requires.at c.requires.there) c.index_mut.ensures.value;
      list = c.put_tie.new.list;
      put = c.put_tie.ensures.put;
      len = c.put_tie.ensures.room;
      capacity = c.put_tie.ensures.capacity;
      made = ap (λ j. slice_set ts j (record c.index_mut.result.now { dependants = c.put_tie.new.list })) c.index.ensures;
    }
