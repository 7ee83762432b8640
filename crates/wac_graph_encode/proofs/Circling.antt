-- What is held of interfaces that wait for one another is what the composition says of them.
use Rattle.std.specs.Prelude.{option_map, if◌then◌else◌}
use Rattle.std.specs.List.{cons_option, flat_map}
use Rattle.std.proofs.Common.{◌≡◌, Bool, true, false, List, [], ◌∷◌, map, Option, Some, None, refl, sym, ap, subst, ◌∙◌, inl, inr}
use Rattle.wac_types_base.specs.declared.ids.WorldId.{WorldId}
use Rattle.wac_types_base.specs.declared.item.ItemKind.{ItemKind}
use Rattle.wac_types_base.specs.declared.item.«Type».{«Type» as TypeKind}
use Rattle.wac_types_base.specs.Record.{Collection}
use Rattle.wac_types_base.specs.Collection.{IsAcyclic, Grows}
use Rattle.wac_types_base.specs.Entries.{Name, names_of}
use Rattle.wac_types_base.specs.Graph.{Among}
use Rattle.wac_types_base.specs.Stated.{Stated, stated_in, stated_of, stated_world, kind_of}
use Rattle.wac_types_written.specs.Written.{written_definition}
use Rattle.wac_graph_core.specs.declared.ids.PackageId.{PackageId}
use Rattle.wac_graph_core.specs.Graph.{Graph, IsGraph, package_of}
use Rattle.wac_composition.specs.Asks.{asks_of}
use Rattle.wac_composition.specs.Circles.{written_whole, written_package}
use Rattle.wac_composition.specs.Classes.{spelling}
use Rattle.wac_composition.specs.Conflicts.{dependencies_of, is_whole, outers_written, whole_forms}
use Rattle.wac_graph_asks.specs.declared.asks.Asked.{Asked}
use Rattle.wac_graph_asks.specs.declared.asks.Definition.{Definition}
use Rattle.wac_graph_asks.specs.declared.outers.Outers.{Outers}
use Rattle.wac_graph_asks.specs.Asked.{IsWorldOf, placed_in}
use Rattle.wac_graph_asks.specs.Graphs.{composition_of}
use Rattle.wac_graph_asks.specs.Outers.{AreOuters}
use Rattle.wac_graph_asks.proofs.Asking.{world_kept}
use Rattle.wac_graph_asks.proofs.Lasting.{outers_stay}
use Rattle.wac_graph_causes.specs.declared.error.Unwritten.{Unwritten}
use Rattle.wac_graph_causes.specs.Circling.{CirclesPass, PackagesStand, TellsCircle, first_late, forms_in, held_circle, packages_in, imported_packages}
use Rattle.wac_graph_causes.specs.Unwritable.{TellsUnwritable, dependency_at, package_world}
use Rattle.wac_graph_causes.proofs.Dependencies.{packages_listed}
use Rattle.wac_graph_encode.specs.declared.options.EncodeOptions.{EncodeOptions}
use Rattle.wac_graph_encode.specs.Finished.{IsPrepared}
use Rattle.wac_graph_encode.specs.Formed.{AreFormed, HasForm, IsFormed}
use Rattle.wac_graph_encode.proofs.FormKinds.{plain_kind, whole_form}
use Rattle.wac_graph_encode.specs.Refused.{waiting_cause}

-- ---- definitions

module _ (g : Graph) (acyclic : IsAcyclic g.types) (c : Collection) where
  abbrev form_at : TypeKind → Stated
  form_at t = written_definition (stated_of g.types (ItemKind.Ty t))

  abbrev kept_if : Bool → Definition → List (Name × Stated) → List (Name × Stated)
  kept_if b x rest = if b then (x.name, form_at x.ty) ∷ rest else rest

  form_is : (x y : Definition) → IsFormed g.types c x y → (rest : List (Name × Stated)) → (q : Option ItemKind) → y.copy ≡ q
      → cons_option (option_map (λ k. (y.name, stated_of c k)) q) rest ≡ kept_if (is_whole (kind_of (form_at x.ty))) x rest
  form_is x y f rest (Some k) e =
      let form = subst (HasForm g.types c y.ty) e f.form in
      let whole : is_whole (kind_of (form_at x.ty)) ≡ true = ap (λ t. is_whole (kind_of (form_at t))) (sym f.ty) ∙ whole_form g.types acyclic y.ty form.2 form.0 in
      (λ i. (f.name i, (form.1.states ∙ ap form_at f.ty) i) ∷ rest) ∙ sym (ap (λ b. kept_if b x rest) whole)
  form_is x y f rest None e =
      let form = subst (HasForm g.types c y.ty) e f.form in
      let plain : is_whole (kind_of (form_at x.ty)) ≡ false = ap (λ t. is_whole (kind_of (form_at t))) (sym f.ty) ∙ plain_kind g.types acyclic y.ty form.1 form.0 in
      sym (ap (λ b. kept_if b x rest) plain)

  forms_are : (xs ys : List Definition) → AreFormed g.types c xs ys → forms_in c ys ≡ whole_forms (map (placed_in g.types) xs)
  forms_are [] [] f = refl
  forms_are [] (y ∷ ys) f = absurd f
  forms_are (x ∷ xs) [] f = absurd f
  forms_are (x ∷ xs) (y ∷ ys) f =
      form_is x y f.0 (forms_in c ys) y.copy refl ∙ ap (λ l. kept_if (is_whole (kind_of (form_at x.ty))) x l) (forms_are xs ys f.1)

-- ---- packages

module _ (g : Graph) (c : Collection) where
  world_is : (id : PackageId) (w : WorldId) → IsWorldOf g c id w → stated_world c w ≡ package_world g (package_of g id)
  world_is id w own = sym (ap (package_world g) own.is ∙ ap stated_in (sym own.copy.same))

  packages_are : (ps : List (PackageId × WorldId)) → ((id : PackageId) (w : WorldId) → Among (id, w) ps → IsWorldOf g c id w) → packages_in g c ps ≡ map (dependency_at g) (names_of ps)
  packages_are [] h = refl
  packages_are ((id, w) ∷ ps) h =
      ap (λ x. ((dependency_at g id).0, x) ∷ packages_in g c ps) (world_is id w (h id w (inl refl)))
      ∙ ap (λ l. dependency_at g id ∷ l) (packages_are ps (λ i v m. h i v (inr m)))

-- ---- all

-- the worlds of packages stand
pub packages_stand : (g : Graph) (a : Asked) (o : Outers) → IsPrepared g a o → PackagesStand a.types a.packages.entries
packages_stand g a o h p m = (h.worlds p.0 p.1 m).copy.stands

module _ (g : Graph) (sound : IsGraph g) (acyclic : IsAcyclic g.types) (a : Asked) (o : Outers) (h : IsPrepared g a o) where
  module _ (options : EncodeOptions) (c : Collection) (grows : Grows a.types c) (ds : List Definition) (formed : AreFormed g.types c a.definitions.items ds) where
    held : AreOuters (asks_of (composition_of g)) c o.world o.places
    held = outers_stay (asks_of (composition_of g)) a.types c h.acyclic grows o.world o.places h.outers

    unless_defined : (define : Bool) → imported_packages define g c a.packages.entries ≡ dependencies_of define (composition_of g)
    unless_defined true = refl
    unless_defined false =
        packages_are g c a.packages.entries (λ id w m. world_kept g a.types c grows id w (h.worlds id w m))
        ∙ ap (map (dependency_at g)) h.packages ∙ packages_listed g sound

    held_is : held_circle options.define_components g c o a.packages.entries ds (asks_of (composition_of g)) ≡ waiting_cause options g
    held_is =
        let definitions = ap (flat_map written_whole) (forms_are g acyclic c a.definitions.items ds formed ∙ ap whole_forms h.definitions) in
        λ i. first_late (outers_written (spelling (asks_of (composition_of g))) (held.imports i)) (definitions i) (flat_map written_package (unless_defined options.define_components i))

    pub waits_not : CirclesPass options.define_components g c o a.packages.entries ds → waiting_cause options g ≡ None
    waits_not pass = sym held_is ∙ pass (asks_of (composition_of g)) held

    pub waits_told : (e : Unwritten) → TellsCircle options.define_components g c o a.packages.entries ds e → TellsUnwritable (waiting_cause options g) e
    waits_told e tells = subst (λ q. TellsUnwritable q e) held_is (tells (asks_of (composition_of g)) held)
