use Rattle.wac_component.specs.Views.{section_view}
use Rattle.wac_component.proofs.All.{section_takes}
use Rattle.wac_component.proofs.Laws.{section_exact}
use Rattle.wac_component.proofs.builder.Builder.+levels.Goals as goal

-- each section takes some bytes
pub add_sections-loop-rest-smaller : goal.add_sections-loop-rest-smaller
add_sections-loop-rest-smaller t c =
    let read = c.in-Ok-read_section.read in
    section_takes.takes c.loop-rest.rest.now (section_view read.0) read.1.now (section_exact.sound c.loop-rest.rest.now (section_view read.0) read.1.now c.in-Ok-read_section.ensures)
