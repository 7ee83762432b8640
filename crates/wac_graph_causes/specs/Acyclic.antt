-- Which refusals come: each but that of a cycle, since no graph has one.
use Rattle.wac_graph_causes.specs.declared.error.EncodeError.{EncodeError}

abbrev pub IsNoCycle : EncodeError → Type 0
IsNoCycle (EncodeError.GraphContainsCycle node) = ⊥
IsNoCycle e = Unit {0}
