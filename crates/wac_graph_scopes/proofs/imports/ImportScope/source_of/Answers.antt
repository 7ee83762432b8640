use Rattle.std.proofs.Common.{◌≡◌, ap, refl, subst, ◌∙◌}
use Rattle.wac_types_base.specs.declared.item.ItemKind.{ItemKind}
use Rattle.wac_types_fit.specs.Trees.{tree_in}
use Rattle.wac_graph_bytes.specs.declared.value.Sort.TheVariants as sort
use Rattle.std.proofs.Common.{slice_get, sym}
use Rattle.wac_graph_bytes.specs.Typing.{Item}
use Rattle.wac_graph_scopes.specs.declared.imports.SortIndex.{SortIndex}
use Rattle.wac_graph_scopes.specs.Imports.{all_imports, GivesAt}
use Rattle.wac_graph_scopes.proofs.ImportLaws.{export_tree}
use Rattle.wac_graph_scopes.proofs.imports.ImportScope.source_of.Goals as goal

pub returns-then-given-clause-reads : goal.returns-then-given-clause-reads
returns-then-given-clause-reads c stands used w outer imported exported h =
    let types = c.args.all.types.now in
    let g = c.in_ok-given.ensures.yes stands used c.if-given.true in
    let t = tree_in types (ItemKind.Instance g.interface) in
    let place = ap (λ l. slice_get l c.in-Some.at.now) (sym c.as_slice.ensures.value) ∙ c.in-Some-instance_index.ensures.found in
    let p : SortIndex = record { sort = sort.Instance; index = c.in-Some-instance_index.instance } in
    let a = h.placed c.in-Some.at.now g.import_is.0 (ItemKind.Instance g.interface) p g.import_is.1 place in (
      t,
      (Item g.import_is.0 sort.Instance t, a.means, refl),
      export_tree types c.see_acyclic.ensures g.interface c.args.name.name.now (tree_in types c.args.item) g.export_is,
    )

pub returns-then-given-clause-found : goal.returns-then-given-clause-found
returns-then-given-clause-found c stands used = record {
  at = c.in-Some.at.now;
  found = sym c.in-Some.ensures;
  placed = ap (λ l. slice_get l c.in-Some.at.now) (sym c.as_slice.ensures.value) ∙ c.in-Some-instance_index.ensures.found;
  gives = c.in_ok-given.ensures.yes stands used c.if-given.true;
}

pub returns-else-given-clause-none : goal.returns-else-given-clause-none
returns-else-given-clause-none c stands k h =
    let a = c.args.all in
    let at = c.in-Some.at.now in
    let this : h.at ≡ at = cc (h.found, c.in-Some.ensures) in
    c.in_ok-given.ensures.no stands c.if-given.false (subst (λ n. GivesAt a.types.now (all_imports a) n c.args.name.name.now c.args.item) this h.gives)

pub returns-in_default-clause-none : goal.returns-in_default-clause-none
returns-in_default-clause-none c stands k h = absurd (cc (h.found, c.in_default.ensures))

pub returns-in_default-instance_index-clause-none : goal.returns-in_default-instance_index-clause-none
returns-in_default-instance_index-clause-none c stands k h =
    let places = c.args.self.now.places.items in
    let this : h.at ≡ c.in-Some.at.now = cc (h.found, c.in-Some.ensures) in
    c.in_default-instance_index.ensures.none k (ap (λ l. slice_get l c.in-Some.at.now) c.as_slice.ensures.value ∙ ap (slice_get places) (sym this) ∙ h.placed)
