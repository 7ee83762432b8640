use Rattle.wac_soundness.proofs.Sound.{graphs_are_sound, graphs_are_wired}
use Rattle.wac_soundness.proofs.graphs_are_sound.Goals as goal

pub returns-clause-sound : goal.returns-clause-sound
returns-clause-sound c = graphs_are_sound

pub returns-clause-wired : goal.returns-clause-wired
returns-clause-wired c = graphs_are_wired
