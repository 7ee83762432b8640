-- What a package defines, by its world.
use Rattle.std.specs.Prelude.{filter_map}
use Rattle.std.proofs.Common.{◌≡◌, ◌⊎◌, ℕ, ◌<◌, ◌≤◌, ◌==◌, Bool, true, false, ◌&&◌, nat_lt, if◌then◌else◌, cond, List, [], ◌∷◌, length, Option, Some, None, option_map, slice_get, get_or, refl, sym, ap, subst, ◌∙◌, inl, inr, arith}
use Rattle.std.proofs.lemmas.Bool.{and_parts}
use Rattle.std.proofs.lemmas.Bool.Decides.{nat_tests}
use Rattle.std.proofs.lemmas.Option.{slice_get_cases}
use Rattle.std.specs.List.{cons_option}
use Rattle.std.specs.Option.{option_and_then}
use Rattle.std.specs.Cmp.Lexicographic.{pointwise, bytes_decides}
use Rattle.wac_types_base.proofs.Stating.{value_with}
use Rattle.wac_types_base.specs.Graph.{Among}
use Rattle.wac_types_base.specs.Entries.{AreDistinct, Name, names_of, value_at}
use Rattle.wac_types_base.specs.declared.item.ItemKind.{ItemKind}
use Rattle.wac_types_base.specs.declared.item.«Type».{«Type» as TypeKind}
use Rattle.wac_types_base.specs.declared.ids.WorldId.{WorldId}
use Rattle.wac_types_base.specs.declared.defined.World.{World}
use Rattle.wac_types_base.specs.Record.{Collection}
use Rattle.wac_types_base.specs.Collection.{IsAcyclic, Stands}
use Rattle.wac_types_base.specs.Entries.{with_values}
use Rattle.wac_types_base.specs.Stated.{Stated, as_type, exports_of, kind_of, stated_of}
use Rattle.wac_types_base.proofs.Telling.{item_kind, kind_stated}
use Rattle.wac_types_base.proofs.Replacing.{same_number}
use Rattle.wac_types_base.proofs.Standing.{world_stands}
use Rattle.wac_types_names.specs.Packages.{Defines, IsMeaning, meaning}
use Rattle.wac_parser_declare.specs.Holding.{Holds}
use Rattle.wac_parser_declare.specs.Packages.{HoldsIf}
use Rattle.wac_parser_declare.specs.Scope.{definition_by, definitions, is_instance_or_component, only_export}
use Rattle.wac_types_names.specs.InterfaceNames.{is_interface_name}
use Rattle.wac_types_names.proofs.InterfaceTests.{interface_told}
use Rattle.wac_parser_declare.proofs.Exports.{world_type_exports}
use Rattle.wac_parser_declare.proofs.InWorlds.{interface_typed, world_typed}
use Rattle.wac_parser_declare.proofs.Standing.{place_stands, world_exports}
use Rattle.wac_parser_resolve.specs.Knowing.{IsDefinedBy, IsDefinedIn}

module _ (f : Stated → Option Stated) where
  -- the entries that mean something, with what they mean
  abbrev pub meant_in : List (Name × Stated) → List (Name × Stated)
  meant_in es = filter_map (λ e. option_map (λ d. (e.0, d)) (f e.1)) es

  apart : (es : List (Name × Stated)) (n : Name) (e : Name × Stated) → pointwise ◌==◌ n e.0 ≡ false → (o : Option Stated)
      → value_at (cons_option (option_map (λ d. (e.0, d)) o) (meant_in es)) n ≡ value_at (meant_in es) n
  apart es n e other None = refl
  apart es n e other (Some d) = ap (λ (b : Bool). if b then Some d else value_at (meant_in es) n) other

  other_name : (n m : Name) → (n ≡ m → ⊥) → pointwise ◌==◌ n m ≡ false
  other_name n m differ = by (pointwise ◌==◌ n m) refl
    where
      by : (b : Bool) → pointwise ◌==◌ n m ≡ b → b ≡ false
      by true is = absurd (differ ((bytes_decides n m).0 is))
      by false is = refl

  absent : (es : List (Name × Stated)) (n : Name) → (Among n (names_of es) → ⊥) → value_at (meant_in es) n ≡ None
  absent [] n none = refl
  absent (e ∷ es) n none = apart es n e (other_name n e.0 (λ h. none (inl h))) (f e.1) ∙ absent es n (λ m. none (inr m))

  here : (es : List (Name × Stated)) (n : Name) (e : Name × Stated) → pointwise ◌==◌ n e.0 ≡ true → (Among e.0 (names_of es) → ⊥) → (o : Option Stated)
      → value_at (cons_option (option_map (λ d. (e.0, d)) o) (meant_in es)) n ≡ o
  here es n e is new None = absent es n (λ h. new (subst (λ (x : Name). Among x (names_of es)) ((bytes_decides n e.0).0 is) h))
  here es n e is new (Some d) = ap (λ (b : Bool). if b then Some d else value_at (meant_in es) n) is

  tested : (e : Name × Stated) (es : List (Name × Stated)) (n : Name) → (Among e.0 (names_of es) → ⊥) → value_at (meant_in es) n ≡ option_and_then f (value_at es n)
      → (b : Bool) → pointwise ◌==◌ n e.0 ≡ b → value_at (cons_option (option_map (λ d. (e.0, d)) (f e.1)) (meant_in es)) n ≡ option_and_then f (if b then Some e.1 else value_at es n)
  tested e es n new rest true is = here es n e is new (f e.1)
  tested e es n new rest false is = apart es n e is (f e.1) ∙ rest

  -- the first entry of a name is the only one
  pub meant_value : (es : List (Name × Stated)) (n : Name) → AreDistinct (names_of es) → value_at (meant_in es) n ≡ option_and_then f (value_at es n)
  meant_value [] n distinct = refl
  meant_value (e ∷ es) n distinct = tested e es n distinct.0 (meant_value es n distinct.1) (pointwise ◌==◌ n e.0) refl

-- ---- what an export defines

lt_from : (i n : ℕ) → nat_lt i n ≡ true → i < n
lt_from i n h = grind (arith, nat_tests)

module _ (c : Collection) (a : IsAcyclic c) where
  abbrev at_now : List (Name × ItemKind) → List (Name × Stated)
  at_now es = with_values (stated_of c) es

  no_item : (x : Option Stated) → x ≡ None → HoldsIf c x None
  no_item x e = record { stands = tt; same = sym e }

  an_item : (x : Stated) (k : ItemKind) → Holds c x k → HoldsIf c (Some x) (Some k)
  an_item x k h = record { stands = h.stands; same = ap Some h.same }

  -- the type of an instance or a component
  typed : (k : ItemKind) → Stands c k → HoldsIf c (cond (is_instance_or_component (kind_of (stated_of c k))) (Some (as_type (stated_of c k))) None) (meaning k)
  typed k s = subst (λ (b : Bool). HoldsIf c (cond b (Some (as_type (stated_of c k))) None) (meaning k)) (sym (ap is_instance_or_component (kind_stated c a k s))) (by k s)
    where
      by : (k : ItemKind) → Stands c k → HoldsIf c (cond (is_instance_or_component (item_kind k)) (Some (as_type (stated_of c k))) None) (meaning k)
      by (ItemKind.Ty (TypeKind.Resource r)) s = no_item None refl
      by (ItemKind.Ty (TypeKind.Func f)) s = no_item None refl
      by (ItemKind.Ty (TypeKind.Value v)) s = no_item None refl
      by (ItemKind.Ty (TypeKind.Interface i)) s = no_item None refl
      by (ItemKind.Ty (TypeKind.World w)) s = no_item None refl
      by (ItemKind.Ty (TypeKind.Module m)) s = no_item None refl
      by (ItemKind.Func f) s = no_item None refl
      by (ItemKind.Instance i) s =
          an_item (as_type (stated_of c (ItemKind.Instance i))) (ItemKind.Ty (TypeKind.Interface i)) (interface_typed c a (stated_of c (ItemKind.Instance i)) i (record { stands = s; same = refl }))
      by (ItemKind.Component w) s =
          an_item (as_type (stated_of c (ItemKind.Component w))) (ItemKind.Ty (TypeKind.World w)) (world_typed c a (stated_of c (ItemKind.Component w)) w (record { stands = s; same = refl }))
      by (ItemKind.Module m) s = no_item None refl
      by (ItemKind.Value v) s = no_item None refl

  -- the exports of a world, by its entry
  abbrev exports_stated : WorldId → List (Name × Stated)
  exports_stated w = exports_of (stated_of c (ItemKind.Ty (TypeKind.World w)))

  world_there : (w : WorldId) → Stands c (ItemKind.Ty (TypeKind.World w)) → ((x : World) × (slice_get c.worlds w.index ≡ Some x)) × (w.collection ≡ c.number)
  world_there w s =
      let p = and_parts (w.collection == c.number) (nat_lt w.index (length c.worlds)) (sym (world_stands c w) ∙ s) in
      (there (slice_get_cases c.worlds w.index).1 (lt_from w.index (length c.worlds) p.1), same_number w.collection c.number p.0)
    where
      there : ((x : World) × (w.index < length c.worlds) × (slice_get c.worlds w.index ≡ Some x) × (get_or c.worlds w.index x ≡ x)) ⊎ ((length c.worlds ≤ w.index) × (slice_get c.worlds w.index ≡ None)) → w.index < length c.worlds
          → (x : World) × (slice_get c.worlds w.index ≡ Some x)
      there (inl h) lt = (h.0, h.2)
      there (inr h) lt = absurd (omega (arith, h.0, lt))

  module _ (w : WorldId) (x : World) (at : slice_get c.worlds w.index ≡ Some x) (own : w.collection ≡ c.number) where
    -- one export, under the name of an interface or another
    one_export : (n : Name) (k : ItemKind) (named : Bool) → x.exports ≡ (n, k) ∷ [] → is_interface_name n ≡ named
        → only_export (exports_stated w) ≡ cond (named && is_instance_or_component (kind_of (stated_of c k))) (Some (as_type (stated_of c k))) None
    one_export n k named one is =
        ap only_export (world_type_exports c a w x at own ∙ ap at_now one)
        ∙ ap (λ (b : Bool). cond (b && is_instance_or_component (kind_of (stated_of c k))) (Some (as_type (stated_of c k))) None) is

    named_export : (n : Name) (k : ItemKind) → x.exports ≡ (n, k) ∷ [] → is_interface_name n ≡ true → HoldsIf c (only_export (exports_stated w)) (meaning k)
    named_export n k one named =
        subst (λ (y : Option Stated). HoldsIf c y (meaning k)) (sym (one_export n k true one named))
        (typed k (place_stands (Stands c) x.exports (world_exports c a w x at own) 0 n k (ap (λ (es : List (Name × ItemKind)). slice_get es 0) one)))

    -- a world that defines nothing
    undefined : ((m : ItemKind) → Defines c (ItemKind.Ty (TypeKind.World w)) m → ⊥) → HoldsIf c (only_export (exports_stated w)) None
    undefined none = by x.exports refl
      where
        one : (n : Name) (k : ItemKind) → x.exports ≡ (n, k) ∷ [] → (named : Bool) → is_interface_name n ≡ named → (o : Option ItemKind) → meaning k ≡ o → HoldsIf c (only_export (exports_stated w)) None
        one n k is false named o means = no_item (only_export (exports_stated w)) (one_export n k false is named)
        one n k is true named None means = subst (HoldsIf c (only_export (exports_stated w))) means (named_export n k is named)
        one n k is true named (Some m) means =
            absurd (none m (record { id = w; world = x; is = refl; stands = at; name = n; inner = k; one = is; interface = (interface_told n).0 named; meant = means }))

        by : (es : List (Name × ItemKind)) → x.exports ≡ es → HoldsIf c (only_export (exports_stated w)) None
        by [] is = no_item (only_export (exports_stated w)) (ap only_export (world_type_exports c a w x at own ∙ ap at_now is))
        by ((n, k) ∷ []) is = one n k is (is_interface_name n) refl (meaning k) refl
        by (e ∷ f ∷ es) is = no_item (only_export (exports_stated w)) (ap only_export (world_type_exports c a w x at own ∙ ap at_now is))

  world_defines : (w : WorldId) (o : Option ItemKind) → Stands c (ItemKind.Ty (TypeKind.World w)) → HoldsIf c (only_export (exports_stated w)) o → IsDefinedBy c (ItemKind.Ty (TypeKind.World w)) o
  world_defines w o s h = subst (λ (m : _). HoldsIf c (definition_by m (stated_of c (ItemKind.Ty (TypeKind.World w)))) o) (sym (kind_stated c a (ItemKind.Ty (TypeKind.World w)) s)) h

  -- it is the type of a world, or defines nothing
  world_or_none : (k : ItemKind) → ((w : WorldId) × (k ≡ ItemKind.Ty (TypeKind.World w))) ⊎ ((x : Stated) → definition_by (item_kind k) x ≡ None)
  world_or_none (ItemKind.Ty (TypeKind.Resource r)) = inr (λ x. refl)
  world_or_none (ItemKind.Ty (TypeKind.Func f)) = inr (λ x. refl)
  world_or_none (ItemKind.Ty (TypeKind.Value v)) = inr (λ x. refl)
  world_or_none (ItemKind.Ty (TypeKind.Interface i)) = inr (λ x. refl)
  world_or_none (ItemKind.Ty (TypeKind.World w)) = inl (w, refl)
  world_or_none (ItemKind.Ty (TypeKind.Module m)) = inr (λ x. refl)
  world_or_none (ItemKind.Func f) = inr (λ x. refl)
  world_or_none (ItemKind.Instance i) = inr (λ x. refl)
  world_or_none (ItemKind.Component w) = inr (λ x. refl)
  world_or_none (ItemKind.Module m) = inr (λ x. refl)
  world_or_none (ItemKind.Value v) = inr (λ x. refl)

  -- what an item means, it defines
  pub meaning_defines : (k : ItemKind) (o : Option ItemKind) → Stands c k → IsMeaning c k o → IsDefinedBy c k o
  meaning_defines k (Some m) s d =
      let stands = subst (Stands c) d.is s in
      subst (λ (j : ItemKind). IsDefinedBy c j (Some m)) (sym d.is)
      (world_defines d.id (Some m) stands (subst (HoldsIf c (only_export (exports_stated d.id))) d.meant
      (named_export d.id d.world d.stands (world_there d.id stands).1 d.name d.inner d.one ((interface_told d.name).1 d.interface))))
  meaning_defines k None s none = elim (world_or_none k) [
    | inl t ↦ let stands = subst (Stands c) t.1 s in
        let x = world_there t.0 stands in
        subst (λ (j : ItemKind). IsDefinedBy c j None) (sym t.1)
        (world_defines t.0 None stands (undefined t.0 x.0.0 x.0.1 x.1 (λ m d. none m (subst (λ (j : ItemKind). Defines c j m) (sym t.1) d))))
    | inr other ↦ no_item (definition_by (kind_of (stated_of c k)) (stated_of c k)) (ap (λ m. definition_by m (stated_of c k)) (kind_stated c a k s) ∙ other (stated_of c k))
  ]

  -- ---- what a world defines under a name

  module _ (w : WorldId) (es : List (Name × ItemKind)) (is : exports_of (stated_of c (ItemKind.Component w)) ≡ at_now es) (distinct : AreDistinct (names_of es)) (n : Name) where
    meant_at : (o : Option ItemKind) → value_at es n ≡ o
        → value_at (definitions (stated_of c (ItemKind.Component w))) n ≡ option_and_then (λ x. definition_by (kind_of x) x) (option_map (stated_of c) o)
    meant_at o at =
        ap (λ (xs : List (Name × Stated)). value_at (meant_in (λ x. definition_by (kind_of x) x) xs) n) is
        ∙ meant_value (λ x. definition_by (kind_of x) x) (at_now es) n (subst AreDistinct (sym (names_now es)) distinct)
        ∙ ap (option_and_then (λ x. definition_by (kind_of x) x)) (value_with (stated_of c) es n ∙ ap (option_map (stated_of c)) at)
      where
        names_now : (fs : List (Name × ItemKind)) → names_of (at_now fs) ≡ names_of fs
        names_now [] = refl
        names_now (f ∷ fs) = ap (λ (ms : List Name). f.0 ∷ ms) (names_now fs)

    pub exported_defines : (k : ItemKind) (o : Option ItemKind) → value_at es n ≡ Some k → IsDefinedBy c k o → IsDefinedIn c w n o
    exported_defines k o at h = subst (λ (y : Option Stated). HoldsIf c y o) (sym (meant_at (Some k) at)) h

    pub lacking_defines : value_at es n ≡ None → IsDefinedIn c w n None
    lacking_defines at = no_item (value_at (definitions (stated_of c (ItemKind.Component w))) n) (meant_at None at)
