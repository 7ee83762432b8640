-- JSON values of plain data.
use Rattle.std.specs.Prelude.{◌≡◌, ℕ, List, [], ◌∷◌, map, Option, Some, None, Result, IfOk, String, codes}
use Rattle.std.specs.BTreeMap.{BTreeMap}
use Rattle.std.specs.declared.alloc.Global.{Global}
use Rattle.std.specs.declared.alloc.AllocError.{AllocError}
use Rattle.serde_json.specs.Data.{Data, null, number, unsigned, string, array, object, Members, no_members, put}
use Rattle.serde_json.specs.View.{items_of, members_view, view}
use Rattle.serde_json.specs.declared.value.Value.{Value}
use Rattle.semver.specs.Identifiers.{parts_text}
use Rattle.wac_parser_lexer.specs.declared.span.SourceSpan.{SourceSpan}
use Rattle.wac_parser_tree.specs.Trees as t

abbrev pub with_members : Members → List (List ℕ × Data) → Members
with_members members [] = members
with_members members (m ∷ ms) = with_members (put m.0 m.1 members) ms

-- an object with these members
abbrev pub object_of : List (List ℕ × Data) → Data
object_of ms = object (with_members no_members ms)

-- an object with one member: the name of a variant, and what it holds
abbrev pub variant : List ℕ → Data → Data
variant name contents = object_of ((name, contents) ∷ [])

-- the values of a list
abbrev pub array_of : {A : Type 0} → (A → Data) → List A → Data
array_of value xs = array (items_of (map value xs))

-- the value of what is there, or null
abbrev pub or_null : {A : Type 0} → (A → Data) → Option A → Data
or_null value None = null
or_null value (Some x) = value x

unfoldable pub span : SourceSpan → Data
span x = object_of ((codes "offset", number (unsigned x.offset)) ∷ (codes "length", number (unsigned x.length)) ∷ [])

unfoldable pub version : Option t.Version → Data
version None = null
version (Some v) = string (parts_text v)

-- the value stands for this, where there was memory for it
abbrev pub Gives : Result Value AllocError → Data → Type 0
Gives r x = IfOk r (λ v. view v ≡ x)

-- these are the members, where there was memory for them
abbrev pub GivesMembers : Result (BTreeMap (String Global) Value) AllocError → Members → Type 0
GivesMembers r ms = IfOk r (λ m. members_view m.entries ≡ ms)

-- these members and one more
abbrev pub GivesMember : Result (BTreeMap (String Global) Value) AllocError → List ℕ → Result Value AllocError →
    Result (BTreeMap (String Global) Value) AllocError → Type 0
GivesMember old name value new =
    (ms : Members) (x : Data) → GivesMembers old ms → Gives value x → GivesMembers new (put name x ms)

-- what is made of values that are given
abbrev pub GivesOf : Result Value AllocError → (Data → Data) → Result Value AllocError → Type 0
GivesOf one f r = (x : Data) → Gives one x → Gives r (f x)

abbrev pub GivesTwo : Result Value AllocError → Result Value AllocError →
    (Data → Data → Data) → Result Value AllocError → Type 0
GivesTwo one other f r = (x y : Data) → Gives one x → Gives other y → Gives r (f x y)

-- an object of two members, by their names
abbrev pub two : List ℕ → List ℕ → Data → Data → Data
two first second x y = object_of ((first, x) ∷ (second, y) ∷ [])

-- where a form stands, then its member
abbrev pub placed : SourceSpan → List ℕ → Data → Data
placed at name x = two (codes "span") name (span at) x
