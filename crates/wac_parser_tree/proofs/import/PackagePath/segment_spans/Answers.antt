use Rattle.std.proofs.Common.{◌+◌, ◌∙◌, length}
use Rattle.wac_parser_tree.specs.Segments.{between_slashes}
use Rattle.wac_parser_tree.specs.Views.{view_package_path}
use Rattle.wac_parser_tree.proofs.SegmentLaws.{same_place, place_twice, path_stands, path_joined, path_cut}
use Rattle.wac_parser_tree.proofs.import.PackagePath.segment_spans.Goals as goal

pub returns-clause-value : goal.returns-clause-value
returns-clause-value c =
    let path = c.args.self.now in
    c.new.ensures ∙ same_place _ (path.span.offset + length path.name.now + 1) (place_twice _ _ _ _ c.saturating_add-behind_name.ensures c.saturating_add.ensures) (between_slashes path.segments.now)

pub returns-clause-slices : goal.returns-clause-slices
returns-clause-slices c source is = path_stands source (view_package_path c.args.self.now) is

pub returns-clause-joined : goal.returns-clause-joined
returns-clause-joined c = path_joined (view_package_path c.args.self.now)

pub returns-clause-cut : goal.returns-clause-cut
returns-clause-cut c = path_cut (view_package_path c.args.self.now)
