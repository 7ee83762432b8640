-- Which exports are definitions.
use Rattle.std.proofs.Common.{◌≡◌, ℕ, ◌+◌, ◌≤◌, List, [], ◌∷◌, ◌++◌, length, take, refl, sym, ap, ◌∙◌, subst, arith, inl, inr}
use Rattle.std.specs.Prelude.{Option, Some, None, slice_get}
use Rattle.wac_types_base.specs.declared.ids.WorldId.{WorldId}
use Rattle.wac_types_base.specs.declared.item.«Type».{«Type» as TypeKind}
use Rattle.wac_types_base.specs.declared.item.ItemKind.{ItemKind}
use Rattle.wac_types_base.specs.declared.defined.World.{World}
use Rattle.wac_types_base.specs.Graph.{Among}
use Rattle.wac_types_base.specs.Record.{Collection}
use Rattle.wac_types_base.specs.Entries.{Name, IsNew, names_of, AreDistinct}
use Rattle.wac_types_base.proofs.Again.{name_before}
use Rattle.wac_types_base.proofs.Looked.{take-one_more}
use Rattle.wac_types_base.proofs.Loops.{map-take, take-all}
use Rattle.wac_names.specs.ComponentNames.{IsInterfaceName}
use Rattle.wac_types_names.specs.Packages.{meaning, Defines, IsMeaning, AreDefinitions, no_exports, defined, passed}

abbrev pub world_type : WorldId → ItemKind
world_type id = ItemKind.Ty (TypeKind.World id)

-- a list with one entry
pub one_entry : {T : Type 0} (es : List T) (x : T) → length es ≡ 1 → slice_get es 0 ≡ Some x → es ≡ x ∷ []
one_entry [] x l e = absurd cc
one_entry (y ∷ []) x l e = ap (λ z. z ∷ []) cc
one_entry (y ∷ z ∷ es) x l e = absurd (omega arith)

id_in : (i j : WorldId) → world_type i ≡ world_type j → i ≡ j
id_in i j e = cc e

world_in : (v w : World) → Some v ≡ Some w → v ≡ w
world_in v w e = cc e

first_in : (n m : Name) (k l : ItemKind) (es fs : List (Name × ItemKind)) → (n, k) ∷ es ≡ (m, l) ∷ fs → (n ≡ m) × (k ≡ l)
first_in n m k l es fs e = (ap (λ xs. name_of xs) e, ap (λ xs. kind_of xs) e)
  where
    name_of : List (Name × ItemKind) → Name
    name_of [] = n
    name_of (x ∷ xs) = x.0

    kind_of : List (Name × ItemKind) → ItemKind
    kind_of [] = k
    kind_of (x ∷ xs) = x.1

-- the world of a definition is the one of the id
pub its_world : (c : Collection) (id : WorldId) (w : World) (k : ItemKind) → slice_get c.worlds id.index ≡ Some w → (d : Defines c (world_type id) k) → w.exports ≡ (d.name, d.inner) ∷ []
its_world c id w k at d =
    let same : slice_get c.worlds id.index ≡ Some d.world = ap (λ i. slice_get c.worlds i.index) (id_in id d.id d.is) ∙ d.stands in
    ap (λ v. v.exports) (world_in w d.world (sym at ∙ same)) ∙ d.one

pub no_meaning-length : (c : Collection) (id : WorldId) (w : World) → slice_get c.worlds id.index ≡ Some w → (length w.exports ≡ 1 → ⊥) → IsMeaning c (world_type id) None
no_meaning-length c id w at off k d = off (ap length (its_world c id w k at d))

pub no_meaning-name : (c : Collection) (id : WorldId) (w : World) (n : Name) (item : ItemKind) → slice_get c.worlds id.index ≡ Some w → w.exports ≡ (n, item) ∷ [] → (IsInterfaceName n → ⊥) → IsMeaning c (world_type id) None
no_meaning-name c id w n item at one off k d = off (subst IsInterfaceName (sym (first_in n d.name item d.inner [] [] (sym one ∙ its_world c id w k at d)).0) d.interface)

pub meaning_is : (c : Collection) (id : WorldId) (w : World) (n : Name) (item : ItemKind) (o : Option ItemKind) → slice_get c.worlds id.index ≡ Some w → w.exports ≡ (n, item) ∷ [] → IsInterfaceName n → o ≡ meaning item → IsMeaning c (world_type id) o
meaning_is c id w n item None at one interface e =
    λ k d. absurd (none_some (e ∙ ap meaning (first_in n d.name item d.inner [] [] (sym one ∙ its_world c id w k at d)).1 ∙ d.meant))
  where
    none_some : {x : ItemKind} → None ≡ Some x → ⊥
    none_some h = cc h
meaning_is c id w n item (Some k) at one interface e = record { id = id; world = w; is = refl; stands = at; name = n; inner = item; one = one; interface = interface; meant = sym e }

-- ---- one export more

pub defined_more : (c : Collection) (es ds : List (Name × ItemKind)) (n : Name) (item k : ItemKind) → AreDefinitions c es ds → Defines c item k → AreDefinitions c (es ++ (n, item) ∷ []) (ds ++ (n, k) ∷ [])
defined_more c [] [] n item k no_exports d = defined n item k d no_exports
defined_more c [] (y ∷ ds) n item k x d = elim x [ ]
defined_more c (x ∷ es) (y ∷ ds) n item k (defined m i j e rest) d = defined m i j e (defined_more c es ds n item k rest d)
defined_more c (x ∷ es) ds n item k (passed m i e rest) d = passed m i e (defined_more c es ds n item k rest d)

pub passed_more : (c : Collection) (es ds : List (Name × ItemKind)) (n : Name) (item : ItemKind) → AreDefinitions c es ds → IsMeaning c item None → AreDefinitions c (es ++ (n, item) ∷ []) ds
passed_more c [] [] n item no_exports d = passed n item d no_exports
passed_more c [] (y ∷ ds) n item x d = elim x [ ]
passed_more c (x ∷ es) (y ∷ ds) n item (defined m i j e rest) d = defined m i j e (passed_more c es ds n item rest d)
passed_more c (x ∷ es) ds n item (passed m i e rest) d = passed m i e (passed_more c es ds n item rest d)

-- a name that is defined is that of an export
pub defined_among : (c : Collection) (es ds : List (Name × ItemKind)) (n : Name) → AreDefinitions c es ds → Among n (names_of ds) → Among n (names_of es)
defined_among c [] [] n no_exports a = a
defined_among c [] (y ∷ ds) n x a = elim x [ ]
defined_among c (x ∷ es) (y ∷ ds) n (defined m i j e rest) (inl s) = inl s
defined_among c (x ∷ es) (y ∷ ds) n (defined m i j e rest) (inr a) = inr (defined_among c es ds n rest a)
defined_among c (x ∷ es) ds n (passed m i e rest) a = inr (defined_among c es ds n rest a)

module _ (c : Collection) (es ds : List (Name × ItemKind)) (i : ℕ) (n : Name) (item : ItemKind) (at : slice_get es i ≡ Some (n, item)) (so_far : AreDefinitions c (take i es) ds) where
  -- the name of the next export is not defined yet
  pub new_definition : (m : Name) → AreDistinct (names_of es) → m ≡ n → IsNew m ds
  new_definition m d same a =
      name_before es i n item at (names_of (take i es)) d (map-take (λ e. e.0) es i) (subst (λ x. Among x (names_of (take i es))) same (defined_among c (take i es) ds m so_far a))

  pub next_defined : (m : Name) (k : ItemKind) (after : List (Name × ItemKind)) → m ≡ n → Defines c item k → after ≡ ds ++ (m, k) ∷ [] → AreDefinitions c (take (i + 1) es) after
  next_defined m k after same d e =
      subst (λ xs. AreDefinitions c xs after) (sym (take-one_more es i (n, item) at))
      (subst (AreDefinitions c (take i es ++ (n, item) ∷ [])) (sym (e ∙ ap (λ x. ds ++ (x, k) ∷ []) same)) (defined_more c (take i es) ds n item k so_far d))

  pub next_passed : (after : List (Name × ItemKind)) → IsMeaning c item None → after ≡ ds → AreDefinitions c (take (i + 1) es) after
  next_passed after d e =
      subst (λ xs. AreDefinitions c xs after) (sym (take-one_more es i (n, item) at))
      (subst (AreDefinitions c (take i es ++ (n, item) ∷ [])) (sym e) (passed_more c (take i es) ds n item so_far d))

-- none yet
pub first_definitions : (c : Collection) (es ds : List (Name × ItemKind)) → ds ≡ [] → AreDefinitions c (take 0 es) ds
first_definitions c es ds e = subst (AreDefinitions c (take 0 es)) (sym e) no_exports

-- all of them
pub all_definitions : (c : Collection) (es ds : List (Name × ItemKind)) (i : ℕ) → length es ≤ i → AreDefinitions c (take i es) ds → AreDefinitions c es ds
all_definitions c es ds i le d = subst (λ xs. AreDefinitions c xs ds) (take-all es i le) d
