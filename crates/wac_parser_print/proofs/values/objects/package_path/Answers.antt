use Rattle.wac_parser_print.specs.Values.{package_path}
use Rattle.wac_parser_print.proofs.values.objects.package_path.Goals as goal

pub returns : goal.returns
unfolding package_path
returns c = c.into_value.ensures _ (c.with-5.ensures _ _ (c.with-4.ensures _ _ (c.with-3.ensures _ _ (c.with-2.ensures _ _ (c.with.ensures _ _ c.new.ensures c.span-at.ensures) c.try_from_str-string.ensures) c.try_from_str-name.ensures) c.try_from_str-segments.ensures) c.version-version.ensures)
