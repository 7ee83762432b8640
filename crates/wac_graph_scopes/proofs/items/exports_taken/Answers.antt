use Rattle.std.proofs.Common.{◌≡◌, sym, ap, ◌∙◌}
use Rattle.wac_types_fit.specs.Trees.{tree_in}
use Rattle.wac_graph_scopes.proofs.UsedLaws.{fits_used, same_fits}
use Rattle.wac_graph_scopes.proofs.items.exports_taken.Goals as goal

pub returns-in_ok-fits-in-Some-clause-yes : goal.returns-in_ok-fits-in-Some-clause-yes
returns-in_ok-fits-in-Some-clause-yes c stands used e =
    let types = c.args.types.now in
    (c.in-Some.own, sym c.in-Some.ensures.value, sym (fits_used types c.see_acyclic.ensures c.in-Some.own c.args.item used stands (c.in_ok-fits-in-Some.ensures.fits e)))

pub returns-in_ok-fits-in-Some-clause-no : goal.returns-in_ok-fits-in-Some-clause-no
returns-in_ok-fits-in-Some-clause-no c stands e h =
    let types = c.args.types.now in
    let own = c.in-Some.own in
    let this : h.0 ≡ own = cc (h.1, c.in-Some.ensures.value) in
    c.in_ok-fits-in-Some.ensures.differs e c.in-Some.ensures.stands stands (same_fits types own c.args.item (sym (h.2 ∙ ap (tree_in types) this)))

pub returns-in-None-clause-no : goal.returns-in-None-clause-no
returns-in-None-clause-no c stands e h = absurd (cc (h.1, c.in-None.ensures.value))
