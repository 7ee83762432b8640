-- What holds of the declarations of a core module type while they are written.
use Rattle.std.specs.Prelude.{◌≡◌, ℕ, ◌≤◌, List, [], ◌∷◌, ◌++◌, length, Some, ◌⊎◌, String, string_bytes}
use Rattle.std.specs.Global.{Global}
use Rattle.wac_types_base.specs.declared.core_types.CoreType.{CoreType}
use Rattle.wac_types_base.specs.declared.core_types.ModuleType.{ModuleType}
use Rattle.wac_types_base.specs.declared.core_types.CoreExtern.{CoreExtern}
use Rattle.wac_types_base.specs.declared.core_types.CoreFuncType.{CoreFuncType}
use Rattle.wac_types_base.specs.Graph.{Among}
use Rattle.wac_types_base.specs.Entries.{Name, values_of}
use Rattle.wac_graph_bytes.specs.declared.module.CoreDescription.{CoreDescription}
use Rattle.wac_graph_bytes.specs.declared.module.CoreValue.{CoreValue}
use Rattle.wac_graph_bytes.specs.Entries.{CoreDeclaration}
use Rattle.wac_graph_bytes.specs.Typing.{core_type, core_item, module_by}
use Rattle.wac_graph_bytes.specs.Views.{module_view}
use Rattle.wac_graph_scopes.specs.declared.error.WriteError.{WriteError}
use Rattle.wac_graph_scopes.specs.declared.core_items.ModuleScope.{ModuleScope}

-- the declarations state these signatures, imports and exports, and the signatures are counted; each has a declaration
pub record IsModuleScope (s : ModuleScope) (sigs : List CoreFuncType) (is : List ((Name × Name) × CoreExtern))
    (es : List (Name × CoreExtern)) : Type 0 where
  pub reads : (rest : List CoreDeclaration)
      → module_by [] [] [] (module_view s.declarations.items ++ rest) ≡ module_by sigs is es rest
  pub count : s.signatures ≡ length sigs
  pub within : length sigs ≤ length s.declarations.items

-- with signatures of its own, perhaps, it goes on to these imports and exports
abbrev pub GoesModule : ModuleScope → List ((Name × Name) × CoreExtern) → List (Name × CoreExtern) → Type 0
GoesModule s is es = (sigs : List CoreFuncType) × IsModuleScope s sigs is es

-- one more signature, at that index
abbrev pub AddsSignature : ModuleScope → ModuleScope → CoreFuncType → ℕ → Type 0
AddsSignature s u f k = (sigs : List CoreFuncType) (is : List ((Name × Name) × CoreExtern)) (es : List (Name × CoreExtern))
    → IsModuleScope s sigs is es
    → IsModuleScope u (sigs ++ f ∷ []) is es × (k ≡ length sigs)

-- whatever signatures there are, the item is so described
abbrev pub IsItem : CoreDescription → CoreExtern → Type 0
IsItem d x = (sigs : List CoreFuncType) → core_item sigs d ≡ Some x

-- with signatures of its own, perhaps, the item is so described
abbrev pub DescribesCore : ModuleScope → ModuleScope → CoreExtern → CoreDescription → Type 0
DescribesCore s u x d = (sigs : List CoreFuncType) (is : List ((Name × Name) × CoreExtern)) (es : List (Name × CoreExtern))
    → IsModuleScope s sigs is es
    → (more : List CoreFuncType) × IsModuleScope u more is es × (core_item more d ≡ Some x)

-- these are imported and exported behind the others
abbrev pub AddsCores : ModuleScope → ModuleScope → List ((Name × Name) × CoreExtern) → List (Name × CoreExtern) → Type 0
AddsCores s u is es = (js : List ((Name × Name) × CoreExtern)) (fs : List (Name × CoreExtern)) → GoesModule s js fs
    → GoesModule u (js ++ is) (fs ++ es)

-- ---- what cannot be written

-- no core value type states it
abbrev pub IsUnspoken : CoreType → Type 0
IsUnspoken t = (v : CoreValue) → core_type v ≡ t → ⊥

abbrev pub HasUnspoken : List CoreType → Type 0
HasUnspoken ts = (t : CoreType) × Among t ts × IsUnspoken t

-- no description states the item; of a function or a tag, no signature states one of its types
abbrev pub CoreFails : CoreExtern → Type 0
CoreFails (CoreExtern.Func f) = HasUnspoken f.params ⊎ HasUnspoken f.results
CoreFails (CoreExtern.Tag f) = HasUnspoken f.params ⊎ HasUnspoken f.results
CoreFails x = (d : CoreDescription) → IsItem d x → ⊥

abbrev pub OneFails : List CoreExtern → Type 0
OneFails xs = (x : CoreExtern) × Among x xs × CoreFails x

-- it is neither a function nor a tag
abbrev pub IsPlainItem : CoreExtern → Type 0
IsPlainItem (CoreExtern.Func f) = ⊥
IsPlainItem (CoreExtern.Tag f) = ⊥
IsPlainItem x = Unit {0}

-- why these types could not be written
abbrev pub TypesRefused : List CoreType → WriteError → Type 0
TypesRefused ts WriteError.Unwritable = HasUnspoken ts
TypesRefused ts WriteError.Memory = Unit {0}

-- why the item could not be written
abbrev pub PlainRefused : CoreExtern → WriteError → Type 0
PlainRefused x e = (e ≡ WriteError.Unwritable) × CoreFails x

-- why these items could not be written
abbrev pub CoresRefused : List CoreExtern → WriteError → Type 0
CoresRefused xs WriteError.Unwritable = OneFails xs
CoresRefused xs WriteError.Memory = Unit {0}

abbrev pub ModuleFails : ModuleType → Type 0
ModuleFails m = OneFails (values_of m.imports) ⊎ OneFails (values_of m.exports)

-- why the module type could not be written
abbrev pub ModuleRefused : ModuleType → WriteError → Type 0
ModuleRefused m WriteError.Unwritable = ModuleFails m
ModuleRefused m WriteError.Memory = Unit {0}

abbrev pub AddsImport : ModuleScope → ModuleScope → String Global × String Global → CoreExtern → Type 0
AddsImport s u names x = AddsCores s u (((string_bytes names.0, string_bytes names.1), x) ∷ []) []
