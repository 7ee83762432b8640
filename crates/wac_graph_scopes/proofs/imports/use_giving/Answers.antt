use Rattle.std.proofs.Common.{◌≡◌, sym, ap, ◌∙◌}
use Rattle.wac_types_fit.specs.Trees.{tree_in}
use Rattle.wac_graph_scopes.proofs.UsedLaws.{used_fits, same_fits}
use Rattle.wac_graph_scopes.proofs.FoundLaws.{taken_once}
use Rattle.wac_graph_scopes.proofs.imports.use_giving.Goals as goal

pub returns-then-fits-clause-found : goal.returns-then-fits-clause-found
returns-then-fits-clause-found c =
    let types = c.args.all.types.now in
    let f = c.in_ok-fits.ensures in record {
      use_is = c.in-Some.ensures.found;
      taken = sym c.in-Some-taken.ensures.value;
      taken_stands = c.in-Some-taken.ensures.stands;
      stands = f.other_stands c.if-fits.true;
      same = used_fits types c.see_acyclic.ensures c.in-Some-taken.item c.args.import.kind c.in-Some-taken.ensures.kind c.in-Some-taken.ensures.stands (f.fits c.if-fits.true);
    }

pub returns-else-fits-clause-none : goal.returns-else-fits-clause-none
returns-else-fits-clause-none c t g =
    let types = c.args.all.types.now in
    let item = c.in-Some-taken.item in
    let this : t.item ≡ item = cc (sym g.taken ∙ taken_once c.args.all c.args.import.name.now t.used c.in-Some.used g.use_is c.in-Some.ensures.found, c.in-Some-taken.ensures.value) in
    c.in_ok-fits.ensures.differs c.if-fits.false c.in-Some-taken.ensures.stands g.stands (same_fits types item c.args.import.kind (sym (ap (tree_in types) this) ∙ g.same))

pub returns-in_default-clause-none : goal.returns-in_default-clause-none
returns-in_default-clause-none c t g = c.in_default.ensures.none t.used g.use_is

pub returns-in_default-taken-clause-none : goal.returns-in_default-taken-clause-none
returns-in_default-taken-clause-none c t g =
    absurd (cc (sym g.taken ∙ taken_once c.args.all c.args.import.name.now t.used c.in-Some.used g.use_is c.in-Some.ensures.found, c.in_default-taken.ensures.value))
