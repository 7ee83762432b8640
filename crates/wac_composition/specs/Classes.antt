-- Which asks are one outer import, and how it is spelled.
use Rattle.std.specs.Prelude.{◌≡◌, ℕ, zero, suc, Bool, true, false, ◌&&◌, ◌||◌, List, [], ◌∷◌, map, length, Option, Some, None, option_map, filter, find, bytes_eq, unwrap_or, if◌then◌else◌}
use Rattle.std.specs.List.{list_any}
use Rattle.wac_types_base.specs.Entries.{Name}
use Rattle.wac_types_base.specs.Graph.{Among}
use Rattle.wac_types_base.specs.Stated.{Kind, IsInstance, kind_of, identifier_of}
use Rattle.wac_composition.specs.Names.{compatible, greatest}
use Rattle.wac_types_names.specs.InterfaceNames.{is_interface_name}
use Rattle.wac_composition.specs.Asks.{Ask}

abbrev pub is_instance_kind : Kind → Bool
is_instance_kind IsInstance = true
is_instance_kind k = false

abbrev pub same_text : Option Name → Option Name → Bool
same_text (Some m) (Some n) = bytes_eq m n
same_text _ _ = false

-- the identifier of an instance that is asked under the name of an interface
abbrev pub identifier_asked : {A : Type 0} → Ask A → Option Name
identifier_asked a = if is_instance_kind (kind_of a.item) && is_interface_name a.name then identifier_of a.item else None

-- one name, one track, or names of interfaces with one identifier
abbrev pub akin : {A : Type 0} → Ask A → Ask A → Bool
akin a b = compatible a.name b.name || same_text (identifier_asked a) (identifier_asked b)

-- those asks that are akin to one of these
abbrev pub near : {A : Type 0} → List (Ask A) → List (Ask A) → List (Ask A)
near asks ms = filter (λ b. list_any (akin b) ms) asks

-- the smallest equivalence: as many steps as there are asks reach all
abbrev pub within_steps : {A : Type 0} → ℕ → List (Ask A) → List (Ask A) → List (Ask A)
within_steps zero asks ms = ms
within_steps (suc k) asks ms = within_steps k asks (near asks ms)

-- the asks that are one outer import with this one, in asking order
abbrev pub class : {A : Type 0} → List (Ask A) → Ask A → List (Ask A)
class asks a = within_steps (length asks) asks (a ∷ [])

-- the same as a relation: from an ask to one that is akin to it, as often as one likes
pub data Linked {A : Type 0} (asks : List (Ask A)) (a : Ask A) : Ask A → Type 0 where
  itself : Linked asks a a
  joined_to : (b c : Ask A) → Linked asks a b → Among c asks → akin c b ≡ true → Linked asks a c

-- the name of greatest version on the track of the name asked first, else that name
abbrev pub spelled : {A : Type 0} → List (Ask A) → Name
spelled [] = []
spelled (a ∷ as_) = greatest a.name (map (λ b. b.name) as_)

-- the spelling of the outer import that is asked under a name
abbrev pub spelling : {A : Type 0} → List (Ask A) → Name → Name
spelling asks n = unwrap_or (option_map (λ a. spelled (class asks a)) (find (λ a. bytes_eq a.name n) asks)) n
