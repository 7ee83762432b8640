use Rattle.std.proofs.Common.{◌+◌, ◌*◌, ◌-◌, ◌≡◌, map}
use Rattle.wac_component.specs.Rules.{times}
use Rattle.wac_component.specs.Numbers.{vec}
use Rattle.wac_component.specs.Declarations.{declaration, declarations}
use Rattle.wac_component.specs.Views.{declaration_view}
use Rattle.wac_component.proofs.Loops.{with_front}
use Rattle.wac_component.proofs.declarations.+declarations.Given as goal

abbrev pub decreases-read_declarations : goal.decreases-read_declarations
decreases-read_declarations l = 4 * l.levels

abbrev pub decreases-read_some_declarations : goal.decreases-read_some_declarations
decreases-read_some_declarations l = 4 * l.levels + 3

abbrev pub decreases-read_declaration : goal.decreases-read_declaration
decreases-read_declaration l = 4 * l.levels + 2

abbrev pub decreases-read_type_in : goal.decreases-read_type_in
decreases-read_type_in l = 4 * l.levels + 1

abbrev pub invariant-read_some_declarations-loop : goal.invariant-read_some_declarations-loop
invariant-read_some_declarations-loop l =
    let one = declaration (declarations l.levels) l.imports in
    with_front (map declaration_view l.values.items) ((times (l.count - l.counter) one).read l.rest) ≡ (vec one).read l.bytes
