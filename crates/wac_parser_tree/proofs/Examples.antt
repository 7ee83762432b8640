-- The segments of the path `a:b/c/d@1.0.0` that stands at 10.
use Rattle.std.proofs.Common.{◌≡◌, [], ◌∷◌, Some, refl}
use Rattle.std.specs.Prelude.{codes}
use Rattle.wac_parser_tree.specs.Trees as t
use Rattle.wac_parser_tree.specs.Segments.{between_slashes, package_name_span, segment_spans}

example : t.PackagePath
example = record {
  span = record { offset = 10; length = 13 };
  string = codes "a:b/c/d@1.0.0";
  name = codes "a:b";
  segments = codes "c/d";
  version = Some (1, 0, 0, [], []);
}

name_of_example : package_name_span example ≡ record { offset = 10; length = 3 }
unfolding example
name_of_example = refl

segments_of_example : segment_spans example ≡ (codes "c", record { offset = 14; length = 1 }) ∷ (codes "d", record { offset = 16; length = 1 }) ∷ []
unfolding example
segments_of_example = refl

empty_texts : between_slashes (codes "/x/") ≡ [] ∷ codes "x" ∷ [] ∷ []
empty_texts = refl
