-- The interfaces that a world imports without naming them: those that its types are used from.
use Rattle.std.specs.Prelude.{ℕ, List, [], ◌∷◌, ◌++◌, map, Option, Some, None, slice_get}
use Rattle.std.specs.Borrow.{Bor}
use Rattle.wac_types_base.specs.Parts.{identifier_in}
use Rattle.wac_types_base.specs.declared.ids.InterfaceId.{InterfaceId}
use Rattle.wac_types_base.specs.declared.item.ItemKind.{ItemKind}
use Rattle.wac_types_base.specs.declared.defined.UsedType.{UsedType}
use Rattle.wac_types_base.specs.declared.defined.Interface.{Interface}
use Rattle.wac_types_base.specs.declared.defined.World.{World}
use Rattle.wac_types_base.specs.Entries.{Name, values_of, put_entry}
use Rattle.wac_types_base.specs.Record.{Collection}

-- the interfaces that are used
abbrev pub used_interfaces : List UsedType → List InterfaceId
used_interfaces us = map (λ u. u.interface) us

abbrev pub uses_in : Option Interface → List InterfaceId
uses_in None = []
uses_in (Some i) = used_interfaces (values_of i.uses)

-- those that the uses of an instance name
abbrev pub instance_uses : Collection → ItemKind → List InterfaceId
instance_uses c (ItemKind.Instance i) = uses_in (slice_get c.interfaces i.index)
instance_uses c k = []

abbrev pub all_uses : Collection → List ItemKind → List InterfaceId
all_uses c [] = []
all_uses c (k ∷ ks) = instance_uses c k ++ all_uses c ks

-- the interfaces that the world's own uses name, then those that the uses of its imported instances name
abbrev pub implicit_interfaces : Collection → World → List InterfaceId
implicit_interfaces c w = used_interfaces (values_of w.uses) ++ all_uses c (values_of w.imports)

-- the entries with one more interface under its identifier, if it has one
abbrev pub named : List (Name × ItemKind) → InterfaceId → Option Name → Option (List (Name × ItemKind))
named es i None = None
named es i (Some n) = Some (put_entry es n (ItemKind.Instance i))

abbrev pub then_on : {A B : Type 0} → Option A → (A → Option B) → Option B
then_on None f = None
then_on (Some x) f = f x

-- the entries with these interfaces, each once under its identifier; none where one has no identifier
abbrev pub by_identifier : Collection → List (Name × ItemKind) → List InterfaceId → Option (List (Name × ItemKind))
by_identifier c es [] = Some es
by_identifier c es (i ∷ is) = then_on (named es i (identifier_in (slice_get c.interfaces i.index))) (λ fs. by_identifier c fs is)

-- entries under borrowed texts, by the texts
abbrev pub shown : {T : Type 0} → List (Bor (List ℕ) × T) → List (Name × T)
shown es = map (λ e. (e.0.now, e.1)) es
