-- A report without entries, and a world that meets a target.
use Rattle.std.specs.Prelude.{⊤}
use Rattle.std.proofs.Common.{◌≡◌, Bool, true, false, List, [], ◌∷◌, ◌++◌, Option, Some, None, option_map, Result, Ok, Err, slice_get, refl, sym, ap, subst, ◌∙◌, inl, inr}
use Rattle.std.proofs.lemmas.Option.{none-some, same_Some}
use Rattle.wac_types_base.specs.declared.ids.WorldId.{WorldId}
use Rattle.wac_types_base.specs.declared.item.ExternKind.{ExternKind}
use Rattle.wac_types_base.specs.declared.item.ItemKind.{ItemKind}
use Rattle.wac_types_base.specs.declared.defined.World.{World}
use Rattle.wac_types_base.specs.Record.{Collection}
use Rattle.wac_types_base.specs.Collection.{Grows, IsAcyclic, Stands}
use Rattle.wac_types_base.specs.Entries.{Name, names_of, value_at, with_values}
use Rattle.wac_types_base.specs.Copying.{IsCopy}
use Rattle.wac_types_base.specs.Graph.{Among}
use Rattle.wac_types_base.specs.Resolving.{promoted}
use Rattle.wac_types_base.specs.Stated.{Stated, exports_of, imports_of, promote, stated_in, stated_of, stated_world}
use Rattle.wac_types_base.specs.Tree.{tree}
use Rattle.wac_types_base.specs.Implicit as ids
use Rattle.wac_types_base.specs.Fits.{Fits}
use Rattle.wac_types_base.proofs.Lists.{among_mapped, no_entries}
use Rattle.wac_types_base.proofs.Standing.{Found, world_found}
use Rattle.wac_types_base.proofs.Stating.{stated_kept, value_with}
use Rattle.wac_types_base.proofs.Telling.{promote_stated}
use Rattle.wac_types_fit.specs.Targets.{AreFaults, AreThose, Differing, ExportDiffers, ImportDiffers, IsEmptyReport, IsLacking, IsReport, Leading, Mismatched, Report, Tells, first_is, first_is_not, none_left, target_import}
use Rattle.wac_types_fit.specs.Trees.{Fit, tree_in}
use Rattle.wac_types_fit.specs.TargetSteps.{GivesStanding, KindStands}
use Rattle.wac_types_fit.proofs.Items.{world_exports_inside, world_imports_inside}
use Rattle.wac_types_fit.proofs.Reports.{implicit_stand, target_standing, world_children}
use Rattle.wac_composition.specs.Tests.{fits}
use Rattle.wac_composition.proofs.FitBack.{fits_decides}
use Rattle.wac_parser_declare.proofs.Exports.{component_exports, component_imports}
use Rattle.wac_graph_core.specs.Graph.{Graph}
use Rattle.wac_parser_resolve.specs.Meeting.{given_by, uses_are_named}
use Rattle.wac_parser_resolve.specs.Targeting.{IsTarget}
use Rattle.wac_parser_resolve.proofs.MeetingUses.{gives_same, uses_named, uses_unnamed}
use Rattle.wac_workspace.specs.Targets.{IsExported, IsGiven, Meets, Reports}

-- ---- those of a list that are so

none_is : {X : Type 0} (P : X → Type 0) (xs : List X) → AreThose P xs [] → (x : X) → Among x xs → P x → ⊥
none_is P [] none_left x m p = absurd m
none_is P (y ∷ xs) (first_is_not not rest) x (inl e) p = not (subst P e p)
none_is P (y ∷ xs) (first_is_not not rest) x (inr m) p = none_is P xs rest x m p

none_are : {X : Type 0} (P : X → Type 0) (xs ys : List X) → AreThose P xs ys → ((x : X) → Among x xs → P x → ⊥) → ys ≡ []
none_are P [] [] none_left h = refl
none_are {X = X} P [] (y ∷ ys) those h = elim those [ ]
none_are P (x ∷ xs) (y ∷ ys) (first_is p rest) h = absurd (h x (inl refl) p)
none_are P (x ∷ xs) ys (first_is_not not rest) h = none_are P xs ys rest (λ y m. h y (inr m))

no_faults : (Leads : Leading) (side : ExternKind) (es : List (Name × ItemKind)) (ms : List Mismatched) → AreFaults Leads side es ms → ms ≡ [] → es ≡ []
no_faults Leads side [] ms h e = refl
no_faults Leads side (x ∷ es) [] h e = absurd h
no_faults Leads side (x ∷ es) (m ∷ ms) h e = absurd (cc e)

faults_none : (Leads : Leading) (side : ExternKind) (es : List (Name × ItemKind)) (ms : List Mismatched) → AreFaults Leads side es ms → es ≡ [] → ms ≡ []
faults_none Leads side [] [] h e = refl
faults_none Leads side [] (m ∷ ms) h e = absurd h
faults_none Leads side (x ∷ es) ms h e = absurd (cc e)

first_none : {X : Type 0} (xs ys : List X) → xs ++ ys ≡ [] → xs ≡ []
first_none [] ys e = refl
first_none (x ∷ xs) ys e = absurd (cc e)

-- ---- entries with values

values_back : {S T : Type 0} (f : S → T) (es : List (Name × S)) (e : Name × T) → Among e (with_values f es) → (x : Name × S) × Among x es × (e ≡ (x.0, f x.1))
values_back f [] e m = absurd m
values_back f (x ∷ es) e (inl s) = (x, inl refl, s)
values_back f (x ∷ es) e (inr m) = let b = values_back f es e m in (b.0, inr b.1, b.2)

-- ---- a fit that is not refused

module _ (c : Collection) where
  fit_if_not : (j k : ItemKind) → ((Fit c j c k → ⊥) → ⊥) → Fit c j c k
  unfolding tree_in
  fit_if_not j k h = by (fits (stated_of c j) (stated_of c k)) refl
    where
      by : (b : Bool) → fits (stated_of c j) (stated_of c k) ≡ b → Fit c j c k
      by true e = (fits_decides (stated_of c j) (stated_of c k)).0 e
      by false e = absurd (h (λ f. absurd (cc (sym e ∙ (fits_decides (stated_of c j) (stated_of c k)).1 f))))

  fit_is : (j k : ItemKind) → Fit c j c k → Fits (tree (stated_of c j)) (tree (stated_of c k))
  unfolding tree_in
  fit_is j k f = f

  is_fit : (j k : ItemKind) → Fits (tree (stated_of c j)) (tree (stated_of c k)) → Fit c j c k
  unfolding tree_in
  is_fit j k f = f

  kind_stands : (o : Option ItemKind) (j : ItemKind) → KindStands c o → o ≡ Some j → Stands c j
  kind_stands None j h e = absurd (none-some j e)
  kind_stands (Some k) j h e = let s : k ≡ j = cc e in subst (Stands c) s h

-- something is there, or nothing
there_or : {X : Type 0} (o : Option X) → (o ≡ None → ⊥) → (x : X) × (o ≡ Some x)
there_or None h = absurd (h refl)
there_or (Some x) h = (x, refl)

-- ---- a world and a target in one collection

module _ (c : Collection) (a : IsAcyclic c) (target world : WorldId) (x y : World) (target_stands : Stands c (ItemKind.Component target)) (world_stands : Stands c (ItemKind.Component world))
    (at_target : slice_get c.worlds target.index ≡ Some x) (own_target : target.collection ≡ c.number) (at_world : slice_get c.worlds world.index ≡ Some y) (own_world : world.collection ≡ c.number)
    (r : Report) (is : IsReport c x y r) where
  abbrev given : Name → Option ItemKind
  given = target_import is.implicit x.imports

  gives : (n : Name) → given_by (stated_world c target) n ≡ option_map (stated_of c) (given n)
  gives = gives_same c a target x at_target own_target (world_children c a target x at_target own_target) is.implicit is.implicit_is

  given_stands : GivesStanding c given
  given_stands =
      target_standing c is.implicit x.imports (implicit_stand c a x (world_children c a target x at_target own_target) is.implicit is.implicit_is)
      (λ n j m. (world_imports_inside c a target x target_stands at_target own_target n j m).0)

  world_imports : imports_of (stated_world c world) ≡ with_values (stated_of c) y.imports
  world_imports = component_imports c a world y at_world own_world

  world_exports : exports_of (stated_world c world) ≡ with_values (stated_of c) y.exports
  world_exports = component_exports c a world y at_world own_world

  target_exports : exports_of (stated_world c target) ≡ with_values (stated_of c) x.exports
  target_exports = component_exports c a target x at_target own_target

  exported : (n : Name) → value_at (exports_of (stated_world c world)) n ≡ option_map (stated_of c) (value_at y.exports n)
  exported n = ap (λ es. value_at es n) world_exports ∙ value_with (stated_of c) y.exports n

  export_stands : (e : Name × ItemKind) → Among e x.exports → Stands c e.1
  export_stands e m = (world_exports_inside c a target x target_stands at_target own_target e.0 e.1 m).0

  given_promoted : (n : Name) (j : ItemKind) → given n ≡ Some j → stated_of c (promoted j) ≡ promote (stated_of c j)
  given_promoted n j e = promote_stated j c a (kind_stands c (given n) j (given_stands n) e)

  -- ---- nothing is reported

  module _ (empty : IsEmptyReport r) where
    none_lacking : (e : Name × ItemKind) → Among e y.imports → IsLacking given e → ⊥
    none_lacking =
        let l = is.imports_not_in_target in
        none_is (IsLacking given) y.imports (subst (λ es. AreThose (IsLacking given) y.imports es) (no_entries l.lacking (sym l.names ∙ empty.imports_not_in_target)) l.those)

    none_missing : (e : Name × ItemKind) → Among e x.exports → IsLacking (value_at y.exports) e → ⊥
    none_missing = none_is (IsLacking (value_at y.exports)) x.exports (subst (λ es. AreThose (IsLacking (value_at y.exports)) x.exports es) empty.missing_exports is.missing_exports)

    no_imports_differ : is.imports ≡ []
    no_imports_differ = first_none is.imports is.mismatched_types.mismatched (sym is.mismatched_types.added ∙ empty.mismatched_types)

    none_differs : {Differs : Name × ItemKind → Type 0} {Leads : Leading} {side : ExternKind} (es : List (Name × ItemKind)) (old new : List Mismatched) → old ≡ []
        → (d : Differing Differs Leads side es old new) → new ≡ [] → (e : Name × ItemKind) → Among e es → Differs e → ⊥
    none_differs {Differs} {Leads} {side} es old new first d none =
        none_is Differs es (subst (λ xs. AreThose Differs es xs)
        (no_faults Leads side d.differing d.mismatched d.faults (ap (λ xs. xs ++ d.mismatched) (sym first) ∙ sym d.added ∙ none)) d.those)

    import_given : (e : Name × ItemKind) → Among e y.imports → IsGiven (stated_world c target) (e.0, stated_of c e.1)
    import_given e m =
        let j = there_or (given e.0) (none_lacking e m) in
        let fit = fit_if_not c (promoted j.0) e.1
        (λ no. none_differs y.imports [] is.imports refl is.mismatched_imports no_imports_differ e m (j.0, j.1, no)) in
        (stated_of c j.0, gives e.0 ∙ ap (option_map (stated_of c)) j.1, subst (λ (t : Stated). Fits (tree t) (tree (stated_of c e.1))) (given_promoted e.0 j.0 j.1) (fit_is c (promoted j.0) e.1 fit))

    export_given : (e : Name × ItemKind) → Among e x.exports → IsExported (stated_world c world) (e.0, stated_of c e.1)
    export_given e m =
        let j = there_or (value_at y.exports e.0) (none_missing e m) in
        let fit = fit_if_not c j.0 (promoted e.1)
        (λ no. none_differs x.exports is.imports r.mismatched_types no_imports_differ is.mismatched_types empty.mismatched_types e m (j.0, j.1, no)) in
        (stated_of c j.0, exported e.0 ∙ ap (option_map (stated_of c)) j.1, subst (λ (t : Stated). Fits (tree (stated_of c j.0)) (tree t)) (promote_stated e.1 c a (export_stands e m)) (fit_is c j.0 (promoted e.1) fit))

    pub nothing_told : Meets (stated_world c target) (stated_world c world)
    nothing_told = record {
      imports = λ e m. let b = values_back (stated_of c) y.imports e (subst (Among e) world_imports m) in subst (IsGiven (stated_world c target)) (sym b.2) (import_given b.0 b.1);
      exports = λ e m. let b = values_back (stated_of c) x.exports e (subst (Among e) target_exports m) in subst (IsExported (stated_world c world)) (sym b.2) (export_given b.0 b.1);
    }

  -- ---- the target is met

  module _ (met : Meets (stated_world c target) (stated_world c world)) where
    import_met : (e : Name × ItemKind) → Among e y.imports → IsGiven (stated_world c target) (e.0, stated_of c e.1)
    import_met e m = met.imports (e.0, stated_of c e.1) (subst (Among (e.0, stated_of c e.1)) (sym world_imports) (among_mapped (λ x. (x.0, stated_of c x.1)) y.imports e m))

    export_met : (e : Name × ItemKind) → Among e x.exports → IsExported (stated_world c world) (e.0, stated_of c e.1)
    export_met e m = met.exports (e.0, stated_of c e.1) (subst (Among (e.0, stated_of c e.1)) (sym target_exports) (among_mapped (λ x. (x.0, stated_of c x.1)) x.exports e m))

    not_lacking : (e : Name × ItemKind) → Among e y.imports → IsLacking given e → ⊥
    not_lacking e m lacks = let g = import_met e m in none-some g.0 (ap (option_map (stated_of c)) (sym lacks) ∙ sym (gives e.0) ∙ g.1)

    not_missing : (e : Name × ItemKind) → Among e x.exports → IsLacking (value_at y.exports) e → ⊥
    not_missing e m lacks = let g = export_met e m in none-some g.0 (ap (option_map (stated_of c)) (sym lacks) ∙ sym (exported e.0) ∙ g.1)

    import_fits : (e : Name × ItemKind) → Among e y.imports → ImportDiffers c given e → ⊥
    import_fits e m d =
        let g = import_met e m in
        let same : Some g.0 ≡ Some (stated_of c d.0) = sym g.1 ∙ gives e.0 ∙ ap (option_map (stated_of c)) d.1 in
        let one : g.0 ≡ stated_of c d.0 = cc same in
        d.2 (is_fit c (promoted d.0) e.1 (subst (λ (t : Stated). Fits (tree t) (tree (stated_of c e.1))) (ap promote one ∙ sym (given_promoted e.0 d.0 d.1)) g.2))

    export_fits : (e : Name × ItemKind) → Among e x.exports → ExportDiffers c (value_at y.exports) e → ⊥
    export_fits e m d =
        let g = export_met e m in
        let same : Some g.0 ≡ Some (stated_of c d.0) = sym g.1 ∙ exported e.0 ∙ ap (option_map (stated_of c)) d.1 in
        let one : g.0 ≡ stated_of c d.0 = cc same in
        d.2 (is_fit c d.0 (promoted e.1) (subst (λ (t : Stated). Fits (tree t) (tree (stated_of c (promoted e.1)))) one
        (subst (λ (t : Stated). Fits (tree g.0) (tree t)) (sym (promote_stated e.1 c a (export_stands e m))) g.2)))

    pub told_nothing : IsEmptyReport r
    told_nothing =
        let l = is.imports_not_in_target in
        let d = is.mismatched_imports in
        let f = is.mismatched_types in
        let imports_none = none_are (ImportDiffers c given) y.imports d.differing d.those import_fits in
        let exports_none = none_are (ExportDiffers c (value_at y.exports)) x.exports f.differing f.those export_fits in
        let first : is.imports ≡ [] = d.added ∙ faults_none _ ExternKind.Import d.differing d.mismatched d.faults imports_none in
        record {
          imports_not_in_target = l.names ∙ ap names_of (none_are (IsLacking given) y.imports l.lacking l.those not_lacking);
          missing_exports = none_are (IsLacking (value_at y.exports)) x.exports r.missing_exports is.missing_exports not_missing;
          mismatched_types = f.added ∙ ap (λ xs. xs ++ f.mismatched) first ∙ faults_none _ ExternKind.Export f.differing f.mismatched f.faults exports_none;
        }

-- ---- the answer of the test

module _ (c : Collection) (a : IsAcyclic c) (target world : WorldId) (target_stands : Stands c (ItemKind.Component target)) (world_stands : Stands c (ItemKind.Component world)) (answer : Result ⊤ Report)
    (told : (x y : World) → slice_get c.worlds target.index ≡ Some x → slice_get c.worlds world.index ≡ Some y → (r : Report) × IsReport c x y r × Tells r answer) where
  abbrev the_target : Found c.number c.worlds target.collection target.index
  the_target = world_found c target target_stands

  abbrev the_world : Found c.number c.worlds world.collection world.index
  the_world = world_found c world world_stands

  pub met_by : answer ≡ Ok tt → Meets (stated_world c target) (stated_world c world)
  met_by e =
      let t = told the_target.value the_world.value the_target.at the_world.at in
      nothing_told c a target world the_target.value the_world.value target_stands world_stands the_target.at the_target.own the_world.at the_world.own t.0 t.1
      (subst (Tells t.0) e t.2)

  pub unmet_by : (e : Report) → answer ≡ Err e → Meets (stated_world c target) (stated_world c world) → ⊥
  unmet_by e is met =
      let t = told the_target.value the_world.value the_target.at the_world.at in
      let refused : Tells t.0 (Err e) = subst (Tells t.0) is t.2 in
      refused.1 (told_nothing c a target world the_target.value the_world.value target_stands world_stands the_target.at the_target.own the_world.at the_world.own t.0 t.1 met)

  pub reported_by : (e : Report) → answer ≡ Err e → Reports (stated_world c target) (stated_world c world) e
  reported_by e is =
      let t = told the_target.value the_world.value the_target.at the_world.at in
      let refused : Tells t.0 (Err e) = subst (Tells t.0) is t.2 in
      record {
        types = c;
        target_id = target;
        target_states = refl;
        target_entry = the_target.value;
        target_there = the_target.at;
        world_id = world;
        world_states = refl;
        world_entry = the_world.value;
        world_there = the_world.at;
        report = subst (λ (r : Report). IsReport c the_target.value the_world.value r) (sym refused.0) t.1;
        some = subst (λ (r : Report). IsEmptyReport r → ⊥) (sym refused.0) refused.1;
      }

-- ---- copies

pub copy_states : (c d : Collection) (k j : WorldId) → IsCopy c d (ItemKind.Component k) (ItemKind.Component j) → stated_world d j ≡ stated_world c k
copy_states c d k j h = ap stated_in h.same

pub grown_states : (c d e : Collection) (k j : WorldId) → Grows d e → IsCopy c d (ItemKind.Component k) (ItemKind.Component j) → stated_world e j ≡ stated_world c k
grown_states c d e k j g h = stated_kept d e g (ItemKind.Component j) h.stands ∙ copy_states c d k j h

-- ---- the uses of a target have names

module _ (c : Collection) (a : IsAcyclic c) (w : WorldId) (stands : Stands c (ItemKind.Component w)) (x : World) (at : slice_get c.worlds w.index ≡ Some x) where
  its_own : w.collection ≡ c.number
  its_own = (world_found c w stands).own

  pub target_named : (fs : List (Name × ItemKind)) → ids.by_identifier c [] (ids.implicit_interfaces c x) ≡ Some fs → uses_are_named (stated_world c w) ≡ true
  target_named fs e = uses_named c a w x at its_own (world_children c a w x at its_own) fs e

  pub target_unnamed : ids.by_identifier c [] (ids.implicit_interfaces c x) ≡ None → uses_are_named (stated_world c w) ≡ false
  target_unnamed e = uses_unnamed c a w x at its_own (world_children c a w x at its_own) e

-- the world at the id of a target that the graph meets
pub met_named : (g : Graph) → IsAcyclic g.types → (o : Option WorldId) (t : WorldId) → o ≡ Some t → IsTarget g o → uses_are_named (stated_world g.types t) ≡ true
met_named g a None t e h = absurd (none-some t e)
met_named g a (Some w) t e h = subst (λ (v : WorldId). uses_are_named (stated_world g.types v) ≡ true) (same_Some w t e) (target_named g.types a w h.0 h.1.world h.1.is h.1.implicit h.1.implicit_is)
