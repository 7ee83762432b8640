-- The steps that an answer of the checker shows.
use Rattle.std.specs.Prelude.{◌≡◌, List, ◌∷◌, map, Option, Some, None, Result, Ok, Err, string_bytes, ⊤, String, option_copied}
use Rattle.wac_types_base.specs.declared.item.ExternKind.{ExternKind}
use Rattle.wac_types_base.specs.Entries.{Name}
use Rattle.wac_types_fit.specs.declared.error.SubtypeError.{SubtypeError}
use Rattle.wac_types_fit.specs.Frames.{Step}

-- the frames, with the names as their bytes
abbrev pub steps : {Z : Type 0} → List (ExternKind × String Z) → List Step
steps fs = map (λ f. (f.0, string_bytes f.1)) fs

-- the steps of a mismatch
abbrev pub steps_of : SubtypeError → Option (List Step)
steps_of (SubtypeError.Mismatch fs e f) = Some (steps fs.items)
steps_of SubtypeError.Memory = None

-- the steps of a refusal that is a mismatch
abbrev pub refusal : Result ⊤ SubtypeError → Option (List Step)
refusal (Ok x) = None
refusal (Err e) = steps_of e

-- what holds of the steps, where the answer is a mismatch
abbrev pub IfMismatch : Result ⊤ SubtypeError → (List Step → Type 0) → Type 0
IfMismatch r P = (ss : List Step) → refusal r ≡ Some ss → P ss

-- what a mismatch says: its steps, what was expected and what was found
abbrev pub Said : Type 0
Said = List Step × (Option Name × Option Name)

abbrev pub words_of : SubtypeError → Option Said
words_of (SubtypeError.Mismatch fs e f) = Some (steps fs.items, (option_copied e, option_copied f))
words_of SubtypeError.Memory = None

abbrev pub said : Result ⊤ SubtypeError → Option Said
said (Ok x) = None
said (Err e) = words_of e

-- what holds of the steps, what was expected and what was found, where the answer is a mismatch
abbrev pub IfSaid : Result ⊤ SubtypeError → (List Step → Option Name → Option Name → Type 0) → Type 0
IfSaid r P = (ss : List Step) (e f : Option Name) → said r ≡ Some (ss, (e, f)) → P ss e f

-- the words of a fault one step further out are those of the fault
abbrev pub SaysBehind : SubtypeError → Step → SubtypeError → Type 0
SaysBehind after step fault = (ss : List Step) (e f : Option Name) → words_of after ≡ Some (ss, (e, f)) →
    (rest : List Step) × (words_of fault ≡ Some (rest, (e, f))) × (ss ≡ step ∷ rest)
