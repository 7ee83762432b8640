use Rattle.std.proofs.Common.{◌≡◌, ◌+◌, ◌≤◌, ℕ, length, map}
use Rattle.wac_component.specs.Rules.{read_all}
use Rattle.wac_component.specs.Sections.{section}
use Rattle.wac_component.specs.Views.{section_view}
use Rattle.wac_component.proofs.Loops.{with_front}
use Rattle.wac_component.proofs.component.read_sections.Given as goal

abbrev pub decreases-loop-rest : goal.decreases-loop-rest
decreases-loop-rest l = length l.rest

abbrev pub invariant-loop-rest : goal.invariant-loop-rest
invariant-loop-rest l = record {
  reads : (n : ℕ) → with_front (map section_view l.values.items) (read_all section.read n l.rest) ≡ read_all section.read (length l.values.items + n) l.bytes;
  room : length l.values.items + length l.rest ≤ length l.bytes;
}
