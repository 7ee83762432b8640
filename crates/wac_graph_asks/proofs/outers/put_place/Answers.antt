use Rattle.std.proofs.Common.{sym, ap, ◌∙◌}
use Rattle.std.proofs.lemmas.Result.{on_ok_weaker}
use Rattle.std.specs.Map.{keys_of}
use Rattle.wac_types_base.specs.Entries.{Name, put_entry}
use Rattle.wac_graph_asks.proofs.Naming.{puts_place, puts_no_place}
use Rattle.wac_graph_asks.proofs.outers.put_place.Goals as goal

pub returns-in-Some : goal.returns-in-Some
returns-in-Some c =
    puts_place c.insert_under.result (keys_of c.args.taken.now.entries) c.args.class c.in-Some.at c.args.name.now c.args.places.now c.insert_under.new.map (sym c.in-Some.ensures.index)
    (on_ok_weaker c.insert_under.result (λ e. e ∙ ap (λ (n : Name). put_entry c.args.places.now n c.in-Some.at) c.as_str.ensures) c.insert_under.ensures)

pub returns-in-None : goal.returns-in-None
returns-in-None c = puts_no_place (keys_of c.args.taken.now.entries) c.args.class c.args.name.now c.args.places.now c.args.places.now (sym c.in-None.ensures.index)
