-- Where the steps of a refusal lead.
use Rattle.std.specs.Prelude.{◌≡◌, List, [], ◌∷◌, ◌++◌, Some, None, codes}
use Rattle.wac_types_base.specs.declared.item.ExternKind.{ExternKind}
use Rattle.wac_types_base.specs.declared.core_types.CoreExtern.{CoreExtern}
use Rattle.wac_types_base.specs.Entries.{Name}
use Rattle.wac_types_base.specs.Graph.{Among}
use Rattle.wac_types_base.specs.Tree.{Tree, Fields, instance, component, core_module, type_item}
use Rattle.wac_types_base.specs.Fits.{Fits}
use Rattle.wac_types_fit.specs.Lookups.{lookup}

-- into an import or an export of this name
abbrev pub Step : Type 0
Step = ExternKind × Name

-- the name of a core import: its module's name and its own
abbrev pub joined_name : Name × Name → Name
joined_name k = (k.0 ++ codes "::") ++ k.1

-- no step leads further into the two
abbrev pub IsEnd : Tree → Tree → Type 0
IsEnd (instance xs) (instance ys) = ⊥
IsEnd (component is es) (component js fs) = ⊥
IsEnd (core_module is es) (core_module js fs) = ⊥
IsEnd (type_item t) (type_item u) = ⊥
IsEnd _ _ = Unit {0}

-- the steps lead from two trees to two that do not fit, or to one that is missing
mutual
  pub data Disagree : List Step → Tree → Tree → Type 0 where
    ends : {t u : Tree} → IsEnd t u → (Fits t u → ⊥) → Disagree [] t u
    -- no step goes through the type of a thing
    in_type : {ss : List Step} {t u : Tree} → Disagree ss t u → Disagree ss (type_item t) (type_item u)
    in_instance : {ss : List Step} {xs ys : Fields} → Misses ExternKind.Export ss xs ys → Disagree ss (instance xs) (instance ys)
    in_exports : {ss : List Step} {is es js fs : Fields} → Misses ExternKind.Export ss es fs
        → Disagree ss (component is es) (component js fs)
    -- an import of the first is asked of the second: the sides change
    in_imports : {ss : List Step} {is es js fs : Fields} → Misses ExternKind.Import ss js is
        → Disagree ss (component is es) (component js fs)
    core_export : {n : Name} (x : CoreExtern) {is js : List ((Name × Name) × CoreExtern)} {es fs : List (Name × CoreExtern)} →
        Among (n, x) fs → (Among (n, x) es → ⊥) → Disagree ((ExternKind.Export, n) ∷ []) (core_module is es) (core_module js fs)
    core_import : (k : Name × Name) (x : CoreExtern) {is js : List ((Name × Name) × CoreExtern)}
        {es fs : List (Name × CoreExtern)} →
        Among (k, x) is → (Among (k, x) js → ⊥)
        → Disagree ((ExternKind.Import, joined_name k) ∷ []) (core_module is es) (core_module js fs)

  -- an item that is asked is missing among those given, or disagrees with the one of its name
  pub data Misses : ExternKind → List Step → Fields → Fields → Type 0 where
    item_missing : {side : ExternKind} {n : Name} {u : Tree} {xs ys : Fields} → lookup n xs ≡ None → lookup n ys ≡ Some u
        → Misses side ((side, n) ∷ []) xs ys
    item_differs : {side : ExternKind} {n : Name} {t u : Tree} {xs ys : Fields} {ss : List Step} →
        lookup n xs ≡ Some t → lookup n ys ≡ Some u → Disagree ss t u → Misses side ((side, n) ∷ ss) xs ys
