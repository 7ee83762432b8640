use Rattle.wac_importable.proofs.Unbroken.{importable}
use Rattle.wac_importable.proofs.names_are_importable.Goals as goal

pub returns : goal.returns
returns c = λ source name stands. importable name.string name.name name.version stands.form stands.parts
