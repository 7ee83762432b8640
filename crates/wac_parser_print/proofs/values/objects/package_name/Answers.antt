use Rattle.wac_parser_print.specs.Values.{package_name}
use Rattle.wac_parser_print.proofs.values.objects.package_name.Goals as goal

pub returns : goal.returns
unfolding package_name
returns c = c.into_value.ensures _ (c.with-4.ensures _ _ (c.with-3.ensures _ _ (c.with-2.ensures _ _ (c.with.ensures _ _ c.new.ensures c.try_from_str-string.ensures) c.try_from_str-own.ensures) c.version-version.ensures) c.span-at.ensures)
