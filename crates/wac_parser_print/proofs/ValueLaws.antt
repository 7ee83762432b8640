-- The values of the lists inside types and instantiations.
use Rattle.std.proofs.Common.{◌≡◌, List, [], ◌∷◌, map, refl, ap}
use Rattle.serde_json.specs.Data.{Items, item}
use Rattle.serde_json.specs.View.{items_of}
use Rattle.wac_parser_tree.specs.Trees as t
use Rattle.wac_parser_print.specs.Values.{ty, tys, argument, arguments}

pub tys_items : (xs : List t.Ty) → tys (t.tys xs) ≡ items_of (map ty xs)
unfolding tys
tys_items [] = refl
tys_items (x ∷ xs) = ap (λ (r : Items). item (ty x) r) (tys_items xs)

pub arguments_items : (xs : List t.InstantiationArgument) → arguments (t.arguments xs) ≡ items_of (map argument xs)
unfolding arguments
arguments_items [] = refl
arguments_items (x ∷ xs) = ap (λ (r : Items). item (argument x) r) (arguments_items xs)
