use Rattle.std.proofs.Common.{◌+◌, ◌*◌, length}
use Rattle.wac_component.proofs.builder.Builder.+levels.Given as goal

abbrev pub decreases-read_level : goal.decreases-read_level
decreases-read_level l = 5 * l.levels

abbrev pub decreases-add_sections : goal.decreases-add_sections
decreases-add_sections l = 5 * l.levels + 4

abbrev pub decreases-add_section : goal.decreases-add_section
decreases-add_section l = 5 * l.levels + 3

abbrev pub decreases-instantiate_all : goal.decreases-instantiate_all
decreases-instantiate_all l = 5 * l.levels + 2

abbrev pub decreases-instantiate : goal.decreases-instantiate
decreases-instantiate l = 5 * l.levels + 1

abbrev pub decreases-add_sections-loop-rest : goal.decreases-add_sections-loop-rest
decreases-add_sections-loop-rest l = length l.rest
