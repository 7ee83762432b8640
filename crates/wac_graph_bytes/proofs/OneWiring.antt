-- A byte string means at most one wiring.
use Rattle.std.proofs.Common.{◌≡◌, ℕ, List, Option, Some, sym, ap, ◌∙◌}
use Rattle.wac_graph_bytes.specs.Entries.{Section, entries_of}
use Rattle.wac_graph_bytes.specs.Wirings.{Wiring}
use Rattle.wac_graph_bytes.specs.Typing.{Worlds}
use Rattle.wac_graph_bytes.specs.Meaning.{State, Means, wiring_of, steps, start}
use Rattle.wac_graph_bytes.proofs.OneReading.{sections_is}

some_is : (a b : State) → Some a ≡ Some b → a ≡ b
some_is a b e = cc

pub wiring_is : (worlds : Worlds) (bytes : List ℕ) (a b : Wiring ℕ) → Means worlds bytes a → Means worlds bytes b → a ≡ b
wiring_is worlds bytes a b p q =
    let same = sections_is p.sections q.sections (sym p.spelled ∙ q.spelled) in
    let f : List Section → Option State = λ ss. steps worlds start (entries_of ss) in
    let last = some_is p.states.last q.states.last (sym p.states.read ∙ ap f same ∙ q.states.read) in
    let g : State → Wiring ℕ = λ s. wiring_of s.listed in
    sym p.states.wired ∙ ap g last ∙ q.states.wired
