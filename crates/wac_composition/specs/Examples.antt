-- Compositions from outside, for the law `examples`.
use Rattle.std.specs.Prelude.{ℕ, false, List, [], ◌∷◌, Some, None, codes}
use Rattle.wac_types_base.specs.declared.item.PrimitiveType.{PrimitiveType}
use Rattle.wac_types_base.specs.Entries.{Name}
use Rattle.wac_types_base.specs.Collection.{primitive, list, record_of, resource}
use Rattle.wac_types_base.specs.Stated.{Stated, Used, leaf, over, own, as_type, func_of, interface_of, world_of}
use Rattle.wac_types_names.specs.Keys.{Key}
use Rattle.wac_composition.specs.Composition.{instance, projected, defined, Placed, Made, Composition}

-- ---- words

-- a function without parameters and without an answer, and one with a number
abbrev pub plain_func : Stated
plain_func = func_of [] None false

abbrev pub func_of_number : Stated
func_of_number = func_of ((codes "x", leaf (primitive PrimitiveType.U32)) ∷ []) None false

-- an instance of an interface with this identifier
abbrev pub named_instance : Name → List (Name × Stated) → Stated
named_instance n es = interface_of (Some n) [] es

abbrev pub importing : List (Name × Stated) → Stated
importing is = world_of None [] is []

abbrev pub key : Name → Key
key n = (n, None)

-- the instance of this number, of a package with this world
abbrev pub made_of : ℕ → Name → Stated → Made ℕ ℕ
made_of k n w = record { by = k; number = k; key = key n; world = w; arguments = [] }

abbrev pub import_of : ℕ → Name → Stated → Placed ℕ
import_of k n x = record { by = k; name = n; item = x }

abbrev pub instances : List (Made ℕ ℕ) → Composition ℕ ℕ
instances ms = record { imports = []; made = ms; definitions = []; aliases = []; exports = [] }

abbrev pub imports_alone : List (Placed ℕ) → Composition ℕ ℕ
imports_alone is = record { imports = is; made = []; definitions = []; aliases = []; exports = [] }

-- ---- one instance, filled, and an export of it

abbrev pub passing : Stated
passing = world_of None [] ((codes "f", plain_func) ∷ []) ((codes "g", plain_func) ∷ [])

abbrev pub one_instance : Composition ℕ ℕ
one_instance =
    record (instances (made_of 0 (codes "p:p") passing ∷ []))
    { exports = (codes "g", projected (instance 0) (codes "g"), plain_func) ∷ [] }

-- ---- two versions of an interface, the second wider

abbrev pub older : Name
older = codes "a:b/c@0.2.0"

abbrev pub newer : Name
newer = codes "a:b/c@0.2.1"

abbrev pub wider : List (Name × Stated)
wider = (codes "f", plain_func) ∷ (codes "g", plain_func) ∷ []

abbrev pub two_versions : Composition ℕ ℕ
two_versions = instances
    (made_of 0 (codes "c:x") (importing ((older, named_instance older ((codes "f", plain_func) ∷ [])) ∷ []))
    ∷ made_of 1 (codes "c:y") (importing ((newer, named_instance newer wider) ∷ [])) ∷ [])

-- the same where the second has another `f`
abbrev pub clashing_versions : Composition ℕ ℕ
clashing_versions = instances
    (made_of 0 (codes "c:x") (importing ((older, named_instance older ((codes "f", plain_func) ∷ [])) ∷ []))
    ∷ made_of 1 (codes "c:y") (importing ((newer, named_instance newer ((codes "f", func_of_number) ∷ [])) ∷ [])) ∷ [])

abbrev pub clashing_imports : Composition ℕ ℕ
clashing_imports = imports_alone
    (import_of 0 older (named_instance older ((codes "f", plain_func) ∷ []))
    ∷ import_of 1 newer (named_instance newer ((codes "f", func_of_number) ∷ [])) ∷ [])

-- ---- two names with one identifier

abbrev pub one_identifier : Composition ℕ ℕ
one_identifier = instances
    (made_of 0 (codes "d:x") (importing ((codes "a:b/c", named_instance (codes "a:b/i") ((codes "f", plain_func) ∷ [])) ∷ []))
    ∷ made_of 1 (codes "d:y") (importing ((codes "a:b/e", named_instance (codes "a:b/i") wider) ∷ [])) ∷ [])

-- ---- an interface that uses a type of another

abbrev pub number_record : Stated
number_record = over (record_of (codes "x" ∷ [])) (Some (leaf (primitive PrimitiveType.U32)) ∷ [])

abbrev pub types : Stated
types = named_instance (codes "a:b/t") ((codes "r", as_type number_record) ∷ [])

abbrev pub using_types : Stated
using_types = interface_of (Some (codes "a:b/i")) (record { name = codes "r"; there = None; interface = types } ∷ [])
    ((codes "r", as_type number_record) ∷ (codes "f", func_of ((codes "v", number_record) ∷ []) None false) ∷ [])

abbrev pub used_interface : Composition ℕ ℕ
used_interface = instances (made_of 0 (codes "c:e") (importing ((codes "a:b/i", using_types) ∷ [])) ∷ [])

-- ---- a name that an import and an instance ask

abbrev pub asked_twice : Composition ℕ ℕ
asked_twice = record (instances (made_of 1 (codes "p:p") passing ∷ [])) { imports = import_of 0 (codes "f") plain_func ∷ [] }

-- ---- names that differ in case

abbrev pub alike_names : Composition ℕ ℕ
alike_names = instances (made_of 0 (codes "d:a") (importing ((codes "foo", plain_func) ∷ (codes "FOO", plain_func) ∷ [])) ∷ [])

-- ---- a resource that nothing names, and a value

abbrev pub taking_resource : Stated
taking_resource = func_of ((codes "x", own (leaf (resource (codes "r")))) ∷ []) None false

abbrev pub nameless_resource : Composition ℕ ℕ
nameless_resource = instances (made_of 0 (codes "d:b") (importing ((codes "f", taking_resource) ∷ [])) ∷ [])

abbrev pub asked_value : Composition ℕ ℕ
asked_value = instances (made_of 0 (codes "d:v") (importing ((codes "v", leaf (primitive PrimitiveType.U32)) ∷ [])) ∷ [])

-- ---- two instances of one package

abbrev pub twice_made : Composition ℕ ℕ
twice_made = instances (made_of 0 (codes "p:p") passing ∷ made_of 1 (codes "p:p") passing ∷ [])

-- ---- a definition beside an import of an equal type

abbrev pub byte_list : Stated
byte_list = as_type (over list (Some (leaf (primitive PrimitiveType.U8)) ∷ []))

abbrev pub defined_twice : Composition ℕ ℕ
defined_twice = record {
  imports = import_of 1 (codes "i") byte_list ∷ [];
  made = [];
  definitions = import_of 0 (codes "t") byte_list ∷ [];
  aliases = [];
  exports = (codes "t", defined (codes "t") byte_list, byte_list) ∷ [];
}

-- ---- a component that imports an interface of the used one's name, without what is used

abbrev pub only_functions : Stated
only_functions = named_instance (codes "a:b/t") ((codes "f", plain_func) ∷ [])

abbrev pub lacks_used : Composition ℕ ℕ
lacks_used = instances (made_of 0 (codes "p:p") (importing
    ((codes "c", importing ((codes "a:b/t", only_functions) ∷ (codes "a:b/i", using_types) ∷ [])) ∷ [])) ∷ [])

-- ---- an export of the used item's name that is another one

abbrev pub other_resource : Stated
other_resource = own (leaf (resource (codes "zz")))

abbrev pub numbers : Stated
numbers = named_instance (codes "a:b/t") ((codes "v", as_type (leaf (primitive PrimitiveType.U32))) ∷ [])

abbrev pub using_other : Stated
using_other =
    interface_of (Some (codes "a:b/i")) (record { name = codes "v"; there = None; interface = numbers } ∷ [])
    ((codes "v", as_type other_resource) ∷ [])

abbrev pub given_another : Composition ℕ ℕ
given_another = instances (made_of 0 (codes "p:p") (importing ((codes "a:b/i", using_other) ∷ [])) ∷ [])

abbrev pub resources : Stated
resources = named_instance (codes "a:b/t") ((codes "r", leaf (resource (codes "r"))) ∷ [])

abbrev pub renaming : Stated
renaming =
    interface_of (Some (codes "a:b/i")) (record { name = codes "r"; there = None; interface = resources } ∷ [])
    ((codes "r", leaf (resource (codes "zz"))) ∷ [])

abbrev pub given_renamed : Composition ℕ ℕ
given_renamed = instances (made_of 0 (codes "p:p") (importing ((codes "a:b/i", renaming) ∷ [])) ∷ [])

-- ---- two interfaces that use each other, each by another version of it

abbrev pub used_as : Name → Name → Stated → Used
used_as n there x = record { name = n; there = Some there; interface = x }

abbrev pub first_in_circle : Stated
first_in_circle = interface_of (Some (codes "a:b/i@0.2.0"))
    (used_as (codes "r") (codes "p") (named_instance (codes "a:b/t@0.2.0") ((codes "p", as_type number_record) ∷ [])) ∷ [])
    ((codes "r", as_type number_record) ∷ [])

abbrev pub second_in_circle : Stated → Stated
second_in_circle x = interface_of (Some (codes "a:b/t@0.2.1"))
    (used_as (codes "s") (codes "q") (named_instance (codes "a:b/i@0.2.1") ((codes "q", x) ∷ [])) ∷ [])
    ((codes "s", x) ∷ [])

abbrev pub in_circle_with : Stated → Composition ℕ ℕ
in_circle_with x =
    instances (made_of 0 (codes "c:e") (importing ((codes "a:b/i@0.2.0", first_in_circle)
    ∷ (codes "a:b/t@0.2.1", second_in_circle x) ∷ [])) ∷ [])

abbrev pub values_in_circle : Composition ℕ ℕ
values_in_circle = in_circle_with (as_type number_record)

-- a resource that is used under another name
abbrev pub resource_in_circle : Composition ℕ ℕ
resource_in_circle = in_circle_with (leaf (resource (codes "q")))

-- ---- the same inside a component type

-- an interface with a resource of its own and one that it uses of another interface, under another name
abbrev pub with_renamed : (own other : Name) → (fresh taken here : Name) → Stated
with_renamed own other fresh taken here = interface_of (Some own)
    (used_as here taken (named_instance other ((taken, leaf (resource taken)) ∷ [])) ∷ [])
    ((fresh, leaf (resource fresh)) ∷ (here, leaf (resource taken)) ∷ [])

abbrev pub circle_inside : Composition ℕ ℕ
circle_inside = instances (made_of 0 (codes "p:p") (importing ((
  codes "c",
  importing
      ((codes "a:b/i", with_renamed (codes "a:b/i") (codes "a:b/t") (codes "q") (codes "r") (codes "s"))
      ∷ (codes "a:b/t", with_renamed (codes "a:b/t") (codes "a:b/i") (codes "r") (codes "q") (codes "p")) ∷ []),
) ∷ [])) ∷ [])
