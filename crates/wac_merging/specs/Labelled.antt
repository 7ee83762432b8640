-- Outer imports of asks whose classes have labels.
use Rattle.std.specs.Prelude.{◌≡◌, ◌↔◌, ◌==◌, ◌<◌, ℕ, true, List, [], ◌∷◌, ◌++◌, length, Some, None, is_some, fold, filter_map, slice_get, if◌then◌else◌}
use Rattle.std.specs.List.{list_any}
use Rattle.wac_composition.specs.Asks.{Ask}
use Rattle.wac_composition.specs.Classes.{Linked, class}
use Rattle.wac_composition.specs.Merging.{kept}
use Rattle.wac_composition.specs.OuterImports.{asked_in, outer_of, outer_imports}
use Rattle.wac_composition.specs.Conflicts.{merge_cause, merge_conflict}

-- the labels, each once, in order
abbrev pub with_label : List ℕ → ℕ → List ℕ
with_label ls l = if list_any (λ m. m == l) ls then ls else ls ++ l ∷ []

abbrev pub each_label : List ℕ → List ℕ
each_label labels = fold with_label [] labels

module _ {A : Type 0} where
  -- the asks of this label, in order
  abbrev pub labelled : ℕ → List (Ask A) → List ℕ → List (Ask A)
  labelled l [] labels = []
  labelled l (a ∷ as_) [] = []
  labelled l (a ∷ as_) (m ∷ ms) = if m == l then a ∷ labelled l as_ ms else labelled l as_ ms

  -- two asks have one label exactly where they are linked
  pub record LabelClasses (asks : List (Ask A)) (labels : List ℕ) : Type 0 where
    pub as_many : length labels ≡ length asks
    pub one_label : (i j : ℕ) (a b : Ask A) → slice_get asks i ≡ Some a → slice_get asks j ≡ Some b
        → (slice_get labels i ≡ slice_get labels j) ↔ Linked asks a b

module _ {A : Type 0} where
  -- the first place whose ask is linked to that one
  pub record IsFirstLinked (asks : List (Ask A)) (a : Ask A) (first : ℕ) : Type 0 where
    pub ask : Ask A
    pub there : slice_get asks first ≡ Some ask
    pub linked : Linked asks a ask
    pub none_before : (i : ℕ) (b : Ask A) → i < first → slice_get asks i ≡ Some b → Linked asks a b → ⊥

  -- each ask's label is the place of the first ask of its class
  pub record AreLabels (asks : List (Ask A)) (labels : List ℕ) : Type 0 where
    pub as_many : length labels ≡ length asks
    pub each : (i : ℕ) (a : Ask A) → slice_get asks i ≡ Some a
        → (first : ℕ) × (slice_get labels i ≡ Some first) × IsFirstLinked asks a first

-- places of first asks are labels of classes
abbrev pub Labels_are_of_classes : Type 0 → Type 0
Labels_are_of_classes A = (asks : List (Ask A)) (labels : List ℕ) → AreLabels asks labels → LabelClasses asks labels

-- After each of the asks in turn, those of its label keep something.
pub data AreKept {A : Type 0} : List (Ask A) → List ℕ → Type 0 where
  none_asked : AreKept [] []
  one_more_kept : (asks : List (Ask A)) (labels : List ℕ) (a : Ask A) (l : ℕ) → AreKept asks labels
      → is_some (kept (asked_in (labelled l (asks ++ a ∷ []) (labels ++ l ∷ [])))) ≡ true
      → AreKept (asks ++ a ∷ []) (labels ++ l ∷ [])

-- the class of an ask has the asks of its label
abbrev pub Class_is_labelled : Type 0 → Type 0
Class_is_labelled A = (asks : List (Ask A)) (labels : List ℕ) (i l : ℕ) (a : Ask A) → LabelClasses asks labels
    → slice_get asks i ≡ Some a → slice_get labels i ≡ Some l
    → class asks a ≡ labelled l asks labels

-- the outer imports are those of the labels, in order
abbrev pub Outers_are_labelled : Type 0 → Type 0
Outers_are_labelled A = (asks : List (Ask A)) (labels : List ℕ) → LabelClasses asks labels
    → outer_imports asks ≡ filter_map (λ l. outer_of (labelled l asks labels)) (each_label labels)

-- with one ask more its label has one ask more
abbrev pub One_more_labelled : Type 0 → Type 0
One_more_labelled A = (asks : List (Ask A)) (labels : List ℕ) (a : Ask A) (l m : ℕ) → length labels ≡ length asks
    → labelled l (asks ++ a ∷ []) (labels ++ m ∷ [])
    ≡ (if m == l then labelled l asks labels ++ a ∷ [] else labelled l asks labels)

-- where the asks of each label are kept, in turn, no two of them conflict
abbrev pub Kept_have_no_conflict : Type 0 → Type 0
Kept_have_no_conflict A =
    (asks : List (Ask A)) (labels : List ℕ) → LabelClasses asks labels → AreKept asks labels → merge_conflict asks [] asks ≡ None

-- the first ask behind which those of its label keep nothing is the one that conflicts, with the first of its label
abbrev pub Refused_is_conflict : Type 0 → Type 0
Refused_is_conflict A = (asks later : List (Ask A)) (labels more : List ℕ) (a : Ask A) (l : ℕ)
    → LabelClasses (asks ++ a ∷ later) (labels ++ l ∷ more) → length labels ≡ length asks → AreKept asks labels
    → kept (asked_in (labelled l (asks ++ a ∷ []) (labels ++ l ∷ []))) ≡ None
    → merge_conflict (asks ++ a ∷ later) [] (asks ++ a ∷ later)
    ≡ merge_cause a.asking a (labelled l (asks ++ a ∷ []) (labels ++ l ∷ []))
