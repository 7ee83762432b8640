use Rattle.std.proofs.Common.{◌+◌, ◌*◌}
use Rattle.wac_component.proofs.numbers.+digits.Given as goal

abbrev pub decreases-read_digits : goal.decreases-read_digits
decreases-read_digits l = 2 * l.most

abbrev pub decreases-read_some_digits : goal.decreases-read_some_digits
decreases-read_some_digits l = 2 * l.more + 1
