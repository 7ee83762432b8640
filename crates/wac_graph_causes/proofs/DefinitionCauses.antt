-- The first definition that cannot be written beside the outer imports.
use Rattle.std.proofs.Common.{◌≡◌, ℕ, ◌+◌, ◌<◌, ◌≤◌, Bool, false, true≢false, List, [], ◌∷◌, drop, length, get_or, Option, Some, None, refl, sym, ap, subst, ◌∙◌}
use Rattle.wac_types_base.specs.declared.item.«Type».{«Type» as TypeKind}
use Rattle.wac_types_base.specs.declared.item.ItemKind.{ItemKind}
use Rattle.wac_types_base.specs.Entries.{Name, with_values}
use Rattle.wac_types_base.specs.Graph.{Among}
use Rattle.wac_types_base.specs.Record.{Collection}
use Rattle.wac_types_base.specs.Collection.{Stands, IsAcyclic}
use Rattle.wac_types_base.specs.Stated.{Stated, stated_in, stated_of}
use Rattle.wac_types_base.proofs.Lists.{drop_all}
use Rattle.wac_composition.specs.Writable.{holder, unwritable, as_defined, definition_unwritable}
use Rattle.wac_composition.specs.Writable.{Holder as Held}
use Rattle.wac_composition.specs.NotWritten.{component_holder}
use Rattle.wac_composition.specs.Conflicts.{Cause, cause_at}
use Rattle.wac_graph_core.specs.Graph.{Graph}
use Rattle.wac_graph_core.proofs.Walks.{drop_here}
use Rattle.wac_writable.specs.declared.holder.Holder.{Holder}
use Rattle.wac_writable.specs.Holders.{Holds, IsFilled}
use Rattle.wac_writable.specs.Items.{IsSimple}
use Rattle.wac_writable.proofs.HolderLaws.{filled_holds}
use Rattle.wac_graph_asks.specs.declared.asks.Asked.{Asked}
use Rattle.wac_graph_asks.specs.declared.asks.Definition.{Definition}
use Rattle.wac_graph_asks.specs.declared.outers.Outers.{Outers}
use Rattle.wac_graph_asks.specs.Asked.{uses_others, HasCopy}
use Rattle.wac_graph_causes.specs.declared.error.Unwritten.{Unwritten}
use Rattle.wac_graph_causes.specs.declared.writable.Beside.{Beside}
use Rattle.wac_graph_causes.specs.Unwritable.{TellsUnwritable, Findings, outers_in, defined_at, defined_in, definition_cause, definitions_cause, defined_cause, StandBeside, HaveCopies, IfAllCopied, IfHeld}
use Rattle.wac_graph_causes.proofs.FirstCauses.{named_if, cause_next, cause_there, cause_nowhere}
use Rattle.wac_graph_causes.proofs.OuterCauses.{alone_holder}

-- ---- one definition

-- what has no copy is of no interface and no world
no_other : (t : TypeKind) → uses_others t ≡ false → IsSimple (ItemKind.Ty t)
no_other (TypeKind.Resource r) e = record { no_interface = λ i h. h; no_world = λ w h. h }
no_other (TypeKind.Func f) e = record { no_interface = λ i h. h; no_world = λ w h. h }
no_other (TypeKind.Value v) e = record { no_interface = λ i h. h; no_world = λ w h. h }
no_other (TypeKind.Interface i) e = absurd (true≢false e)
no_other (TypeKind.World w) e = absurd (true≢false e)
no_other (TypeKind.Module m) e = record { no_interface = λ i h. h; no_world = λ w h. h }

module _ (c other : Collection) (d : Definition) (has : HasCopy c other d.ty d.copy) (s : Beside) (os : List (Name × Stated)) (beside : StandBeside c other s os) (n : Name) (named : n ≡ d.name) (b : Bool) where
  abbrev cannot : Stated → Name → Bool
  cannot x m = unwritable (as_defined x) m (holder [] os) false

  pub copy_told : (k : ItemKind) → d.copy ≡ Some k → (Stands other k → (h : Held) → Holds other s.copies h → b ≡ unwritable (as_defined (stated_of other k)) n h false) → b ≡ definition_unwritable os (defined_at c d)
  copy_told k is tells =
      let copied = subst (HasCopy c other d.ty) is has in
      tells copied.1.stands (holder [] os) beside.copies ∙ ap (λ x. cannot x n) (ap stated_in copied.1.same) ∙ ap (cannot (stated_of c (ItemKind.Ty d.ty))) named

  pub rest_told : d.copy ≡ None → (IsSimple (ItemKind.Ty d.ty) → Stands c (ItemKind.Ty d.ty) → (h : Held) → Holds c s.rest h → b ≡ unwritable (as_defined (stated_of c (ItemKind.Ty d.ty))) n h false) → b ≡ definition_unwritable os (defined_at c d)
  rest_told is tells =
      let own = subst (HasCopy c other d.ty) is has in
      tells (no_other d.ty own.0) own.1 (holder [] os) beside.rest ∙ ap (cannot (stated_of c (ItemKind.Ty d.ty))) named

-- what the test says of it is its cause
pub cause_said : (c : Collection) (os : List (Name × Stated)) (d : Definition) (b v : Bool) → b ≡ definition_unwritable os (defined_at c d) → b ≡ v → definition_cause c os d ≡ named_if v d.name
cause_said c os d b v tells is = ap (λ y. named_if y d.name) (sym tells ∙ is)

-- ---- one after another

module _ (c other : Collection) (os : List (Name × Stated)) (ds : List Definition) where
  -- none before this place is a cause, and the outer imports still stand
  pub record DefinitionsLeft (s : Beside) (i : ℕ) : Type 0 where
    pub beside : StandBeside c other s os
    pub left : definitions_cause c os (drop i ds) ≡ definitions_cause c os ds

  pub definitions_begin : (s : Beside) → StandBeside c other s os → DefinitionsLeft s 0
  definitions_begin s beside = record { beside = beside; left = ap (definitions_cause c os) (all ds) }
    where
      all : (xs : List Definition) → drop 0 xs ≡ xs
      all [] = refl
      all (x ∷ xs) = refl

  module _ (s : Beside) (i : ℕ) (h : DefinitionsLeft s i) where
    module _ (d : Definition) (within : i < length ds) (is : d ≡ get_or ds i d) where
      turn : defined_in c (drop i ds) ≡ defined_at c d ∷ defined_in c (drop (i + 1) ds)
      turn = ap (defined_in c) (drop_here ds i d within is)

      pub definitions_next : (t : Beside) → StandBeside c other t os → definition_cause c os d ≡ None → DefinitionsLeft t (i + 1)
      definitions_next t beside none = record {
        beside = beside;
        left = cause_next (cause_at (definition_unwritable os)) (defined_in c (drop i ds)) (defined_in c ds) h.left (defined_at c d) (defined_in c (drop (i + 1) ds)) turn none;
      }

      pub definition_told : (e : Unwritten) → TellsUnwritable (definition_cause c os d) e → TellsUnwritable (definitions_cause c os ds) e
      definition_told e t = cause_there (cause_at (definition_unwritable os)) (defined_in c (drop i ds)) (defined_in c ds) h.left (defined_at c d) (defined_in c (drop (i + 1) ds)) e turn t

    pub definitions_pass : length ds ≤ i → definitions_cause c os ds ≡ None
    definitions_pass past = cause_nowhere (cause_at (definition_unwritable os)) (defined_in c (drop i ds)) (defined_in c ds) h.left (ap (defined_in c) (drop_all ds i past))

-- ---- the holders

none_of : (f : ItemKind → Stated) (es : List (Name × ItemKind)) → with_values f es ≡ [] → es ≡ []
none_of f [] e = refl
none_of f (x ∷ es) e = absurd (cc e)

-- outer imports alone stand so in any collection
alone_anywhere : (other c : Collection) (s : Holder) (os : List (Name × Stated)) → IsFilled other s (holder [] os) → IsFilled c s (holder [] os)
alone_anywhere other c s os f =
    let none : s.used ≡ [] = none_of (stated_of other) s.used f.shows.used in
    record { shows = record { used = ap (with_values (stated_of c)) none; stand = λ n k m. absurd (subst (Among (n, k)) none m); roots = f.shows.roots }; untested = f.untested }

pub stand_beside : (c other : Collection) (s : Beside) (os : List (Name × Stated)) (h : Held) → h ≡ holder [] os → IsFilled other s.copies h → IsFilled other s.rest h → StandBeside c other s os
stand_beside c other s os h is copies rest = record {
  copies = filled_holds other s.copies (holder [] os) (subst (IsFilled other s.copies) is copies);
  rest = filled_holds c s.rest (holder [] os) (alone_anywhere other c s.rest os (subst (IsFilled other s.rest) is rest));
}

-- of the definitions that are held, beside the outer imports that are held
module _ (g : Graph) (asked : Asked) (outers : Outers) (found : Findings) (acyclic : IsAcyclic asked.types) (c : Collection) (own : c ≡ g.types) (ds : List Definition) (all : ds ≡ asked.definitions.items) (s : Beside)
    (copies : IsFilled asked.types s.copies (component_holder (stated_of asked.types (ItemKind.Component outers.world)))) (rest : IsFilled asked.types s.rest (component_holder (stated_of asked.types (ItemKind.Component outers.world)))) where
  pub held_told : (P : Option (Cause ℕ) → Type 0) → IfAllCopied c asked.types found s ds (λ os. P (definitions_cause c os ds)) → IfHeld g asked outers found (P (defined_cause g asked outers))
  held_told P told = λ knows alone held.
      let os = outers_in asked outers in
      let have : HaveCopies c asked.types ds = subst (λ t. HaveCopies t asked.types ds) (sym own) (subst (HaveCopies g.types asked.types) (sym all) held.copies) in
      let beside = stand_beside c asked.types s os (component_holder (stated_of asked.types (ItemKind.Component outers.world))) (alone_holder asked.types acyclic outers.world alone) copies rest in
      subst P (λ i. definitions_cause (own i) os (all i)) (told knows have os beside)
