-- What several asks of one outer import keep: in two families the greatest that fits all, else the narrower of two.
use Rattle.std.specs.Prelude.{Bool, true, false, not, ◌&&◌, ◌||◌, List, [], ◌∷◌, ◌++◌, map, Option, Some, None, is_some, is_none, option_map, filter, bytes_eq, if◌then◌else◌}
use Rattle.std.specs.List.{flat_map, list_all, list_any}
use Rattle.wac_types_base.specs.Entries.{Name, value_at}
use Rattle.wac_types_base.specs.Collection.{Shape, interface, world, module_type, type_of, resource_alias, own_of, borrow_of}
use Rattle.wac_types_base.specs.Stated.{Stated, Kind, IsFunction, IsResource, IsValueType, Parts, parts_at, Used, folded, any_place, kind_of, over, interface_of, as_type, exports_of, uses_of, identifier_of, is_interface}
use Rattle.wac_composition.specs.Names.{has_track}
use Rattle.wac_composition.specs.Tests.{same, fits}
use Rattle.wac_composition.specs.Classes.{is_instance_kind}

-- ---- the plain family: nothing reachable is a component, a world or a module, or has an identifier, a use or an owner

abbrev pub unplain_at : Shape → List (Option (Stated × Bool)) → Bool
unplain_at (interface None [] es) os = any_place (λ b. b) os
unplain_at (interface i us es) os = true
unplain_at (world i us is es) os = true
unplain_at (module_type m) os = true
unplain_at (resource_alias n) (o ∷ Some owner ∷ os) = true
unplain_at (type_of s) os = unplain_at s os
unplain_at (own_of s) os = unplain_at s os
unplain_at (borrow_of s) os = unplain_at s os
unplain_at s os = any_place (λ b. b) os

abbrev pub is_plain : Stated → Bool
is_plain x = not (folded unplain_at x)

-- ---- the other family: an instance identified by the name asked, of functions, value types and resources

abbrev pub gathered : List (Option (Stated × List Stated)) → List Stated
gathered [] = []
gathered (None ∷ os) = gathered os
gathered (Some x ∷ os) = x.1 ++ gathered os

-- the owners of the resources that something speaks of, and of those that an owner speaks of
abbrev pub owners_at : Shape → List (Option (Stated × List Stated)) → List Stated
owners_at (resource_alias n) (Some x ∷ Some owner ∷ os) = x.1 ++ owner.0 ∷ owner.1
owners_at (type_of s) os = owners_at s os
owners_at (own_of s) os = owners_at s os
owners_at (borrow_of s) os = owners_at s os
owners_at s os = gathered os

abbrev pub owners : Stated → List Stated
owners = folded owners_at

-- the interfaces reached by uses
abbrev pub reached_at : Shape → List (Option (Stated × List Stated)) → List Stated
reached_at s os = flat_map (λ u. u.0.interface ∷ u.1) (parts_at s os).uses

abbrev pub reached : Stated → List Stated
reached = folded reached_at

abbrev pub is_wit_kind : Kind → Bool
is_wit_kind IsFunction = true
is_wit_kind IsValueType = true
is_wit_kind IsResource = true
is_wit_kind k = false

abbrev pub is_called : Option Name → Name → Bool
is_called None n = false
is_called (Some m) n = bytes_eq m n

abbrev pub is_wit : Name → Stated → Bool
is_wit n x =
    is_instance_kind (kind_of x) && is_called (identifier_of x) n && list_all (λ e. is_wit_kind (kind_of e.1)) (exports_of x)
    && list_all (λ u. is_some (identifier_of u.interface)) (uses_of x)
    && list_all (λ e. list_all (λ o. list_any (same o) (reached x)) (owners e.1)) (exports_of x)

-- ---- the greatest that fits both of one family, with the identifier of the first and the uses of both

abbrev pub Merge : Type 0
Merge = Stated → Option Stated

abbrev pub both : {A B C : Type 0} → (A → B → C) → Option A → Option B → Option C
both f (Some a) (Some b) = Some (f a b)
both f _ _ = None

abbrev pub merged_with : Merge → Stated → Option Stated → Option Stated
merged_with m x None = Some x
merged_with m x (Some y) = m y

-- the exports of the first, each merged with the second's
abbrev pub merged_exports : List (Name × (Stated × Merge)) → List (Name × Stated) → Option (List (Name × Stated))
merged_exports [] fs = Some []
merged_exports (e ∷ es) fs = both (λ x xs. (e.0, x) ∷ xs) (merged_with e.1.1 e.1.0 (value_at fs e.0)) (merged_exports es fs)

abbrev pub has_use : List Used → Name → Bool
has_use us n = list_any (λ u. bytes_eq u.name n) us

-- then the second's own
abbrev pub merged_interface : Parts Merge → Stated → Option Stated
merged_interface p y = option_map
    (λ xs. interface_of p.identifier
    (map (λ u. u.0) p.uses ++ filter (λ u. not (has_use (map (λ v. v.0) p.uses) u.name)) (uses_of y))
    (xs ++ filter (λ f. is_none (value_at p.exports f.0)) (exports_of y)))
    (merged_exports p.exports (exports_of y))

abbrev pub rebuilt : {A : Type 0} → Shape → List (Option (Stated × A)) → Stated
rebuilt s os = over s (map (λ o. option_map (λ x. x.0) o) os)

abbrev pub if_kind : Bool → Option Stated → Option Stated
if_kind true o = o
if_kind false o = None

abbrev pub same_tree_as : Stated → Merge
same_tree_as x y = if_kind (fits x y && fits y x) (Some x)

abbrev pub merge_at : Shape → List (Option (Stated × Merge)) → Merge
merge_at (interface i us es) os y = if_kind (is_instance_kind (kind_of y)) (merged_interface (parts_at (interface i us es) os) y)
merge_at (type_of (interface i us es)) os y =
    if_kind (is_interface (kind_of y)) (option_map as_type (merged_interface (parts_at (interface i us es) os) y))
merge_at s os y = same_tree_as (rebuilt s os) y

abbrev pub merge : Stated → Merge
merge = folded merge_at

-- ---- what a list of asks keeps

-- a name, and what is asked under it
abbrev pub Asked : Type 0
Asked = Name × Stated

abbrev pub narrower : Stated → Merge
narrower x y = if fits x y then Some x else (if fits y x then Some y else None)

abbrev pub in_family : List Asked → Bool
in_family as_ = list_all (λ a. is_plain a.1) as_ || list_all (λ a. is_wit a.0 a.1) as_

-- the asks before, what they keep, and the rest
abbrev pub kept_from : List Asked → Option Stated → List Asked → Option Stated
kept_from before None as_ = None
kept_from before (Some x) [] = Some x
kept_from before (Some x) (a ∷ as_) =
    kept_from (before ++ a ∷ []) (if in_family (before ++ a ∷ []) then merge x a.1 else narrower x a.1) as_

abbrev pub kept : List Asked → Option Stated
kept [] = None
kept (a ∷ as_) = kept_from (a ∷ []) (Some a.1) as_

-- an instance that several ask for on a track is identified by the spelling
abbrev pub identified_by : Bool → Name → Stated → Stated
identified_by true n x = interface_of (Some n) (uses_of x) (exports_of x)
identified_by false n x = x

abbrev pub identified : Name → List Asked → Stated → Stated
identified n (a ∷ b ∷ as_) x = identified_by (is_instance_kind (kind_of x) && has_track n) n x
identified n as_ x = x
