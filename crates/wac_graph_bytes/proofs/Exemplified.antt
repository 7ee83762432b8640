-- What the byte strings mean, by computation.
use Rattle.std.proofs.Common.{◌≡◌, ℕ, true, false, true≢false, List, [], ◌∷◌, Option, Some, None, codes, refl, sym, ap, ◌∙◌, subst, inl}
use Rattle.std.specs.List.{AllByRecursion}
use Rattle.std.specs.Str.{chars, is_utf8}
use lib.Utf8.{encode}
use Rattle.wac_types_base.specs.Entries.{Name, names_of, AreDistinct}
use Rattle.wac_graph_bytes.specs.declared.value.Sort.TheVariants as sort
use Rattle.wac_graph_bytes.specs.declared.value.Description.TheVariants as desc
use Rattle.wac_graph_bytes.specs.Leb.{digits, digits_by}
use Rattle.wac_graph_bytes.specs.Entries.{FuncEntry, PlainType, InstanceType, Section, Types, Imports, Exports, entries_of}
use Rattle.wac_graph_bytes.specs.Spelling.{section_bytes, component_bytes}
use Rattle.wac_graph_bytes.specs.Wirings.{Outer, Wiring}
use Rattle.wac_graph_bytes.proofs.OneReading.{sections_is}
use Rattle.wac_graph_bytes.specs.Typing.{Worlds, Item, Known, no_scope, with_one}
use Rattle.wac_graph_bytes.specs.Meaning.{State, start, step, steps, Means}
use Rattle.wac_graph_bytes.specs.Sizes.{section_fits}
use Rattle.wac_graph_bytes.specs.Writing.{producers}
use Rattle.wac_graph_bytes.specs.Typing.{declared, type_of}
use Rattle.wac_types_base.specs.Graph.{whole}
use Rattle.wac_types_base.specs.Collection.{rows, item_node, unfolding_of}
use Rattle.wac_types_base.specs.Tree.{tree_of}
use Rattle.wac_types_base.specs.declared.item.ItemKind.{ItemKind}
use Rattle.wac_graph_bytes.specs.Examples.{passed_bytes, plain_func, passed_wiring, twice_bytes, unspeakable_bytes, empty_bytes, empty_wiring, interface_declarations, interface_collection, interface_id}

passed_sections : List Section
passed_sections = Types (PlainType (FuncEntry false [] None) ∷ []) ∷ Imports ((codes "f", desc.Func 0) ∷ []) ∷ Exports (record { name = codes "g"; sort = sort.Func; index = 0; stated = None } ∷ []) ∷ []

passed_spelled : passed_bytes ≡ component_bytes passed_sections
unfolding passed_sections digits digits_by section_bytes component_bytes
passed_spelled = refl

passed_state : State
passed_state = record {
  scope = with_one sort.Func (Item (codes "f") sort.Func plain_func) (with_one sort.Func (Item (codes "f") sort.Func plain_func) (with_one sort.Ty (Known plain_func) no_scope));
  listed = record { imports = (codes "f", plain_func) ∷ []; instances = []; exports = (codes "g", Outer (codes "f")) ∷ [] };
  stated = [];
}

passed_read : (w : Worlds) → steps w start (entries_of passed_sections) ≡ Some passed_state
unfolding passed_sections passed_state step steps
passed_read w = refl

pub passed_means : (w : Worlds) → Means w passed_bytes passed_wiring
unfolding passed_sections passed_state digits digits_by is_utf8 chars encode
passed_means w = record {
  sections = passed_sections;
  spelled = passed_spelled;
  fits = (refl, (refl, (refl, tt)));
  states = record {
    last = passed_state;
    read = passed_read w;
    wired = refl;
    stated = tt;
    imports = (λ a. a, tt);
    instances = tt;
    exports = (λ a. a, tt);
    exports_apart = (refl, tt);
  };
}

-- an export twice

twice_sections : List Section
twice_sections = Types (PlainType (FuncEntry false [] None) ∷ []) ∷ Imports ((codes "f", desc.Func 0) ∷ []) ∷ Exports (record { name = codes "g"; sort = sort.Func; index = 0; stated = None } ∷ record { name = codes "g"; sort = sort.Func; index = 0; stated = None } ∷ []) ∷ []

twice_spelled : twice_bytes ≡ component_bytes twice_sections
unfolding twice_sections digits digits_by section_bytes component_bytes
twice_spelled = refl

export_names : Option State → List Name
export_names None = []
export_names (Some s) = names_of s.listed.exports

twice_read : (w : Worlds) → export_names (steps w start (entries_of twice_sections)) ≡ codes "g" ∷ codes "g" ∷ []
unfolding twice_sections steps step export_names
twice_read w = refl

pub twice_means_nothing : (w : Worlds) (v : Wiring ℕ) → Means w twice_bytes v → ⊥
unfolding export_names
twice_means_nothing w v m =
    let same = sections_is m.sections twice_sections (sym m.spelled ∙ twice_spelled) in
    let f : List Section → List Name = λ ss. export_names (steps w start (entries_of ss)) in
    let e : names_of m.states.last.listed.exports ≡ codes "g" ∷ codes "g" ∷ [] = sym (ap export_names m.states.read) ∙ ap f same ∙ twice_read w in
    let d = subst (λ (ns : List Name). AreDistinct ns) e m.states.exports in
    d.0 (inl refl)

-- a name that is no UTF-8

unspeakable_sections : List Section
unspeakable_sections = Types (PlainType (FuncEntry false [] None) ∷ []) ∷ Imports ((255 ∷ [], desc.Func 0) ∷ []) ∷ []

unspeakable_spelled : unspeakable_bytes ≡ component_bytes unspeakable_sections
unfolding unspeakable_sections digits digits_by section_bytes component_bytes
unspeakable_spelled = refl

unspeakable_unfit : AllByRecursion (λ s. section_fits s ≡ true) unspeakable_sections → ⊥
unfolding unspeakable_sections is_utf8 chars
unspeakable_unfit fits = true≢false (sym fits.1.0)

pub unspeakable_means_nothing : (w : Worlds) (v : Wiring ℕ) → Means w unspeakable_bytes v → ⊥
unspeakable_means_nothing w v m =
    let same = sections_is m.sections unspeakable_sections (sym m.spelled ∙ unspeakable_spelled) in
    unspeakable_unfit (subst (AllByRecursion (λ s. section_fits s ≡ true)) same m.fits)

empty_spelled : empty_bytes ≡ component_bytes (producers (codes "wac-parser", codes "0.11.0") ∷ [])
unfolding digits digits_by section_bytes component_bytes
empty_spelled = refl

pub empty_means : (w : Worlds) → Means w empty_bytes empty_wiring
unfolding steps digits digits_by is_utf8 chars encode
empty_means w = record {
  sections = producers (codes "wac-parser", codes "0.11.0") ∷ [];
  spelled = empty_spelled;
  fits = (refl, tt);
  states = record {
    last = start;
    read = refl;
    wired = refl;
    stated = tt;
    imports = tt;
    instances = tt;
    exports = tt;
    exports_apart = tt;
  };
}

-- ---- a type in bytes, and the same in a collection

-- the exports of the interface, as the declarations of an instance type
pub declared_is : (w : Worlds) → type_of w no_scope (InstanceType interface_declarations) ≡ tree_of interface_collection (ItemKind.Instance interface_id)
unfolding declared whole rows item_node unfolding_of
declared_is w = refl
