use Rattle.std.proofs.Common.{◌≡◌, refl, sym, ap, subst, ◌∙◌}
use Rattle.wac_types_base.specs.Collection.{Stands}
use Rattle.wac_types_fit.specs.Trees.{tree_in}
use Rattle.wac_graph_scopes.specs.declared.used.UsedIndex.{UsedIndex}
use Rattle.wac_graph_scopes.proofs.UsedLaws.{used_fits, fits_used, same_fits, item_same}
use Rattle.wac_graph_scopes.proofs.items.find_used.Goals as goal

pub returns-then-fits-clause-reads : goal.returns-then-fits-clause-reads
returns-then-fits-clause-reads c w ss depth are =
    let types = c.args.types.now in
    let own = c.in-Some.used.item in
    let u = are c.args.name.identifier.now c.args.name.name.now c.in-Some.used (sym c.in-Some.ensures) in
    item_same w ss depth (tree_in types own) (tree_in types c.args.item) c.in-Some.used.index (used_fits types c.see_acyclic.ensures own c.args.item u.kind u.stands (c.in_ok-fits-in-Some.ensures.fits c.if-fits.true)) u.index

pub returns-then-fits-clause-found : goal.returns-then-fits-clause-found
returns-then-fits-clause-found c stands used =
    let types = c.args.types.now in
    let own = c.in-Some.used in
    let f = c.in_ok-fits-in-Some.ensures in record {
      there = own;
      found = sym c.in-Some.ensures;
      stands = f.stands c.if-fits.true;
      same = fits_used types c.see_acyclic.ensures own.item c.args.item used stands (f.fits c.if-fits.true);
      index = refl;
    }

pub returns-else-fits-clause-none : goal.returns-else-fits-clause-none
returns-else-fits-clause-none c stands k h =
    let types = c.args.types.now in
    let own = c.in-Some.used in
    let this : h.there ≡ own = cc (h.found, c.in-Some.ensures) in
    let there = subst (λ (u : UsedIndex). Stands types u.item) this h.stands in
    let same = ap (λ (u : UsedIndex). tree_in types u.item) (sym this) ∙ h.same in
    c.in_ok-fits-in-Some.ensures.differs c.if-fits.false there stands (same_fits types own.item c.args.item same)

pub returns-in-None-clause-none : goal.returns-in-None-clause-none
returns-in-None-clause-none c stands k h = absurd (cc (h.found, c.in-None.ensures))
