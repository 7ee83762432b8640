use Rattle.std.proofs.Common.{◌≡◌, Bool, true, false, Option, Some, None, sym, ap, ◌∙◌}
use Rattle.std.specs.Map.{lookup}
use Rattle.std.specs.Prelude.{nat_eq, option_map, is_some, if◌then◌else◌}
use Rattle.wac_types_base.specs.Entries.{Name, names_of, has_name, value_at}
use Rattle.wac_graph_scopes.specs.Roots.{if_new}
use Rattle.wac_graph_encode.specs.declared.declarations.Early.{Early}
use Rattle.wac_graph_encode.specs.Rooting.{early_named}
use Rattle.wac_graph_encode.proofs.Rearranging.{named_there}
use Rattle.wac_graph_encode.proofs.declarations.early_at.Goals as goal

pub returns-then-contains : goal.returns-then-contains
returns-then-contains c =
    let seen = c.args.exported.now in
    let one : Early = c.in-Some.one.now in
    let at : lookup (nat_eq c.args.index) c.args.early.now.entries ≡ Some one = sym c.in-Some.ensures.value in
    let has : has_name (names_of seen) one.name ≡ true =
    named_there seen one.name ∙ ap (λ (n : Name). is_some (value_at seen n)) (sym c.as_str.ensures) ∙ sym c.contains.ensures ∙ c.if-contains.true in
    sym (ap (λ (o : Option Early). if_new seen (option_map early_named o)) at ∙ ap (λ (b : Bool). if b then None else Some (early_named one)) has)

pub returns-else-contains : goal.returns-else-contains
returns-else-contains c =
    let seen = c.args.exported.now in
    let one : Early = c.in-Some.one.now in
    let at : lookup (nat_eq c.args.index) c.args.early.now.entries ≡ Some one = sym c.in-Some.ensures.value in
    let has : has_name (names_of seen) one.name ≡ false =
    named_there seen one.name ∙ ap (λ (n : Name). is_some (value_at seen n)) (sym c.as_str.ensures) ∙ sym c.contains.ensures ∙ c.if-contains.false in
    sym (ap (λ (o : Option Early). if_new seen (option_map early_named o)) at ∙ ap (λ (b : Bool). if b then None else Some (early_named one)) has)
