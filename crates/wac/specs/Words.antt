-- The words behind the program's name.
use Rattle.std.specs.Prelude.{◌≡◌, ◌⊎◌, ℕ, List, [], ◌∷◌, codes}
use Rattle.wac_types_base.specs.Entries.{Name}
use Rattle.wac.specs.declared.program.Command.{Command}

abbrev pub word_of : Command → Name
word_of Command.Compose = codes "compose"
word_of Command.Format = codes "format"
word_of Command.Plug = codes "plug"

abbrev pub IsCommand : Name → Type 0
IsCommand word = (word ≡ codes "compose") ⊎ (word ≡ codes "format") ⊎ (word ≡ codes "plug")

-- the words are a command and a path
abbrev pub Asks : List Name → Type 0
Asks (word ∷ path ∷ []) = IsCommand word
Asks words = ⊥

-- what is told of other words
abbrev pub usage : List ℕ
usage = codes "usage: wac compose|format|plug FILE\n"
