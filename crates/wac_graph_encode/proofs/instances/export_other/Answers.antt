use Rattle.std.proofs.Common.{◌≡◌, ℕ, Bool, true, false, [], ◌∷◌, sym, subst, ◌∙◌}
use Rattle.std.specs.Prelude.{if◌then◌else◌, not}
use Rattle.std.proofs.lemmas.Result.{on_ok_weaker}
use Rattle.wac_types_base.specs.Entries.{Name, names_of, has_name}
use Rattle.wac_graph_encode.specs.Writing.{AddsExports}
use Rattle.wac_graph_encode.proofs.Rearranging.{adds_none, adds_one, named_there}
use Rattle.wac_graph_encode.proofs.instances.export_other.Goals as goal

pub returns-then-contains : goal.returns-then-contains
returns-then-contains c =
    let x : Name × ℕ = (c.args.name.now, c.args.node) in
    let is : has_name (names_of c.args.exported.now) c.args.name.now ≡ true = named_there c.args.exported.now c.args.name.now ∙ sym c.contains.ensures ∙ c.if-contains.true in
    subst (λ (b : Bool). AddsExports c.args.nodes.now.entries (if not b then x ∷ [] else []) c.args.entries.now.items c.args.entries.now.items) (sym is) (adds_none c.args.nodes.now.entries c.args.entries.now.items)

pub returns : goal.returns
returns c =
    let x : Name × ℕ = (c.args.name.now, c.args.node) in
    let is : has_name (names_of c.args.exported.now) c.args.name.now ≡ false = named_there c.args.exported.now c.args.name.now ∙ sym c.contains.ensures ∙ c.if-contains.false in
    on_ok_weaker c.export_node.result
    (λ a. subst (λ (b : Bool). AddsExports c.args.nodes.now.entries (if not b then x ∷ [] else []) c.args.entries.now.items c.export_node.new.entries.items) (sym is) (adds_one c.args.nodes.now.entries x c.args.entries.now.items c.export_node.new.entries.items a))
    c.export_node.ensures
