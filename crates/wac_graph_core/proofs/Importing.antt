-- What instances import for want of an argument.
use Rattle.std.proofs.Common.{◌≡◌, ℕ, List, [], ◌∷◌, Some, refl, ap, ◌∙◌, slice_get}
use Rattle.std.specs.List.{zip}
use Rattle.wac_types_base.specs.declared.defined.World.{World}
use Rattle.wac_types_base.specs.declared.item.ItemKind.{ItemKind}
use Rattle.wac_types_base.specs.Entries.{Name, names_of, values_of}
use Rattle.wac_types_names.specs.Packaged.{Packaged}
use Rattle.wac_graph_core.specs.declared.edge.Edge.{Edge}
use Rattle.wac_graph_core.specs.Graph.{Graph}
use Rattle.wac_types_base.specs.Parts.{imports_in_world}
use Rattle.wac_graph_core.specs.Imports.{unbound_list, package_imports}

both_columns : (xs : List (Name × ItemKind)) → zip (names_of xs) (values_of xs) ≡ xs
both_columns [] = refl
both_columns (x ∷ xs) = ap (λ (l : List (Name × ItemKind)). x ∷ l) (both_columns xs)

-- by the columns of a world's imports
pub unbound_columns : (es : List Edge) (i : ℕ) (names : List Name) (kinds : List ItemKind) (xs : List (Name × ItemKind)) → names ≡ names_of xs → kinds ≡ values_of xs → unbound_list es i (zip names kinds) ≡ unbound_list es i xs
unbound_columns es i names kinds xs are values =
    ap (λ ns. unbound_list es i (zip ns kinds)) are ∙ ap (λ vs. unbound_list es i (zip (names_of xs) vs)) values ∙ ap (unbound_list es i) (both_columns xs)

pub imports_here : (g : Graph) (p : Packaged) (w : World) → slice_get g.types.worlds p.ty.index ≡ Some w → package_imports g (Some p) ≡ w.imports
imports_here g p w at = ap imports_in_world at
