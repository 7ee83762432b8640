-- The entries of a map whose keys are texts, with the texts as their bytes.
use Rattle.std.specs.Prelude.{ℕ, List, [], ◌∷◌, map, Option, Some, None, if◌then◌else◌, ◌==◌, ◌||◌, ◌++◌, Bool, false, string_bytes, String}
use Rattle.wac_types_base.specs.Graph.{Among}
use Rattle.std.specs.Cmp.Lexicographic.{pointwise}

-- a name, as its bytes
abbrev pub Name : Type 0
Name = List ℕ

-- the texts as their bytes
abbrev pub texts_of : {Z : Type 0} → List (String Z) → List Name
texts_of ts = map string_bytes ts

-- the entries, with the keys as their bytes
abbrev pub entries_of : {Z T : Type 0} → List (String Z × T) → List (Name × T)
entries_of es = map (λ e. (string_bytes e.0, e.1)) es

-- the same with two names each
abbrev pub imports_in : {Y Z T : Type 0} → List ((String Y × String Z) × T) → List ((Name × Name) × T)
imports_in es = map (λ e. ((string_bytes e.0.0, string_bytes e.0.1), e.1)) es

-- pairs of texts, as their bytes
abbrev pub pairs_of : {Y Z : Type 0} → List (String Y × String Z) → List (Name × Name)
pairs_of ts = map (λ t. (string_bytes t.0, string_bytes t.1)) ts

abbrev pub names_of : {N T : Type 0} → List (N × T) → List N
names_of xs = map (λ x. x.0) xs

abbrev pub values_of : {N T : Type 0} → List (N × T) → List T
values_of xs = map (λ x. x.1) xs

-- the value of the first entry with this name
abbrev pub value_at : {T : Type 0} → List (Name × T) → Name → Option T
value_at [] n = None
value_at (e ∷ es) n = if pointwise ◌==◌ n e.0 then Some e.1 else value_at es n

-- the entries with this value under the name, in its place or last
abbrev pub put_entry : {T : Type 0} → List (Name × T) → Name → T → List (Name × T)
put_entry [] n v = (n, v) ∷ []
put_entry (e ∷ es) n v = if pointwise ◌==◌ n e.0 then (e.0, v) ∷ es else e ∷ put_entry es n v

-- no entry has this name
abbrev pub IsNew : {N T : Type 0} → N → List (N × T) → Type 0
IsNew n es = Among n (names_of es) → ⊥

-- no name stands twice
abbrev pub AreDistinct : {N : Type 0} → List N → Type 0
AreDistinct [] = Unit {0}
AreDistinct (n ∷ ns) = (Among n ns → ⊥) × AreDistinct ns

-- whether a name is among them
abbrev pub has_name : List Name → Name → Bool
has_name [] n = false
has_name (m ∷ ms) n = (pointwise ◌==◌ n m) || has_name ms n

-- the names with this one, last where it is new
abbrev pub put_name : List Name → Name → List Name
put_name ms n = if has_name ms n then ms else ms ++ n ∷ []

-- the same names with other values
abbrev pub with_values : {N T U : Type 0} → (T → U) → List (N × T) → List (N × U)
with_values f xs = map (λ x. (x.0, f x.1)) xs

-- each of the others is among the first
abbrev pub EachAmong : {T : Type 0} → List T → List T → Type 0
EachAmong xs [] = Unit {0}
EachAmong xs (y ∷ ys) = Among y xs × EachAmong xs ys
