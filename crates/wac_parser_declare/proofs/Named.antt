-- What declarations of types state: records, variants, flags, enums.
use Rattle.std.proofs.Common.{◌≡◌, List, [], ◌∷◌, ◌++◌, map, Option, Some, option_map, Bool, true, false, not, Ok, Err, refl, sym, ap, subst, ◌∙◌, if◌then◌else◌}
use Rattle.wac_types_base.specs.declared.item.ValueType.{ValueType}
use Rattle.wac_types_base.specs.declared.item.ItemKind.{ItemKind}
use Rattle.wac_types_base.specs.declared.item.«Type».{«Type» as TypeKind}
use Rattle.wac_types_base.specs.Record.{Collection}
use Rattle.wac_types_base.specs.Collection as s
use Rattle.wac_types_base.specs.Collection.{IsAcyclic, Grows, Shape, item_node, value_slot, option_slot, StandsIf}
use Rattle.wac_types_base.specs.Entries.{Name, with_values, names_of, values_of, has_name, put_name}
use Rattle.wac_types_base.specs.Stated.{Stated, stated_of, as_type, names, filled, leaf}
use Rattle.wac_types_base.proofs.Loops.{names-with_values}
use Rattle.wac_parser_tree.specs.Trees as t
use Rattle.wac_parser_refusals.specs.declared.refusal.Refusal.{Refusal}
use Rattle.wac_parser_refusals.specs.Causes.{Answer, Fault, ◌>>=◌, ◌>>◌, unless_clear}
use Rattle.wac_parser_refusals.specs.Outcomes.{IsHeld, IsRefusal, Refuses}
use Rattle.wac_parser_declare.specs.Declarations.{name_of, payloads, record_of, variant_of}
use Rattle.wac_parser_declare.specs.Holding.{AreCases, AreNamedValues, Holds, IsType, stated_if, stated_value}
use Rattle.wac_parser_declare.specs.TypeDeclarations.{AreNames}
use Rattle.wac_parser_declare.proofs.Kept.{AreEntries-kept, StandsIf-kept, entry_holds, labelled_holds, option_places, stated_if-kept}
use Rattle.wac_parser_declare.proofs.Members.{filled_places, named_values-kept}

-- ---- type items

pub typed_holds : (d : Collection) → IsAcyclic d → (t : Stated) (v : ValueType) → Holds d t (ItemKind.Value v) → IsType d (as_type t) (TypeKind.Value v)
unfolding item_node
typed_holds d a t v h =
    subst (λ (x : Stated). IsType d (as_type x) (TypeKind.Value v)) h.same
    (labelled_holds d a s.type_of (ItemKind.Ty (TypeKind.Value v)) (ItemKind.Value v) refl h.stands)

-- ---- records

pub record_held : (c d : Collection) → Grows c d → (v : ValueType) (es : List (Name × ValueType)) (q : Answer (List (Name × Stated))) → IsHeld (AreNamedValues c) q es
    → item_node d (ItemKind.Value v) ≡ Some (s.record_of (names_of es), map value_slot (values_of es)) → IsHeld (IsType d) (q >>= λ xs. Ok (as_type (record_of xs))) (TypeKind.Value v)
record_held c d g v es (Ok ps) h node =
    let kept = named_values-kept c d g ps es h in
    let label : s.record_of (names_of es) ≡ s.record_of (names ps) = ap s.record_of (sym (names-with_values (stated_value d) es) ∙ ap names kept.same) in
    typed_holds d g.acyclic (record_of ps) v
    (entry_holds d g.acyclic (ItemKind.Value v) (s.record_of (names ps)) (map value_slot (values_of es)) (filled ps)
    (node ∙ ap (λ l. Some (l, map value_slot (values_of es))) label) (filled_places d es ∙ ap filled kept.same))
record_held c d g v es (Err x) h node = absurd h

-- ---- variants

case_places : (d : Collection) (es : List (Name × Option ValueType)) → map (option_map (stated_of d)) (map option_slot (values_of es)) ≡ payloads (with_values (stated_if d) es)
case_places d [] = refl
case_places d (e ∷ es) = ap (λ os. option_map (stated_of d) (option_slot e.1) ∷ os) (case_places d es) ∙ ap (λ o. o ∷ payloads (with_values (stated_if d) es)) (option_places d e.1)

cases-kept : (c d : Collection) → Grows c d → (ps : List (Name × Option Stated)) (es : List (Name × Option ValueType)) → AreCases c ps es → AreCases d ps es
cases-kept c d g ps es h = AreEntries-kept (StandsIf c) (StandsIf d) (stated_if c) (stated_if d) (λ o s. StandsIf-kept c d g o s) (λ o s. stated_if-kept c d g o s) ps es h

pub variant_held : (c d : Collection) → Grows c d → (v : ValueType) (es : List (Name × Option ValueType)) (q : Answer (List (Name × Option Stated))) → IsHeld (AreCases c) q es
    → item_node d (ItemKind.Value v) ≡ Some (s.variant (names_of es), map option_slot (values_of es)) → IsHeld (IsType d) (q >>= λ xs. Ok (as_type (variant_of xs))) (TypeKind.Value v)
variant_held c d g v es (Ok ps) h node =
    let kept = cases-kept c d g ps es h in
    let label : s.variant (names_of es) ≡ s.variant (names ps) = ap s.variant (sym (names-with_values (stated_if d) es) ∙ ap names kept.same) in
    typed_holds d g.acyclic (variant_of ps) v
    (entry_holds d g.acyclic (ItemKind.Value v) (s.variant (names ps)) (map option_slot (values_of es)) (payloads ps)
    (node ∙ ap (λ l. Some (l, map option_slot (values_of es))) label) (case_places d es ∙ ap payloads kept.same))
variant_held c d g v es (Err x) h node = absurd h

-- ---- flags and enums

-- a type of names alone
pub leaf_held : (d : Collection) → IsAcyclic d → (l : List Name → Shape) (v : ValueType) (ns : List Name) (q : Answer (List Name)) → IsHeld AreNames q ns
    → item_node d (ItemKind.Value v) ≡ Some (l ns, []) → IsHeld (IsType d) (q >>= λ xs. Ok (as_type (leaf (l xs)))) (TypeKind.Value v)
leaf_held d a l v ns (Ok xs) h node =
    typed_holds d a (leaf (l xs)) v (entry_holds d a (ItemKind.Value v) (l xs) [] [] (node ∙ ap (λ ms. Some (l ms, [])) h) refl)
leaf_held d a l v ns (Err x) h node = absurd h

-- one more name
module _ (f : Name → Fault) (found : List Name) (i : t.Ident) where
  added_if : {B : Type 0} (all : List Name) (u : B) (h b : Bool) → b ≡ true → b ≡ not h → all ≡ (if h then found else found ++ i.string ∷ []) → IsHeld (λ xs w. AreNames xs all) (unless_clear h (f i.string) i.span >> Ok (found ++ i.string ∷ [])) u
  added_if all u true b new is e = absurd (cc (new, is))
  added_if all u false b new is e = e

  pub name_added : {B : Type 0} (all : List Name) (n : Name) (u : B) (b : Bool) → n ≡ i.string → b ≡ true → b ≡ not (has_name found n) → all ≡ put_name found n → IsHeld (λ xs w. AreNames xs all) (name_of f found i) u
  name_added all n u b same new is e = added_if all u (has_name found i.string) b new (is ∙ ap (λ m. not (has_name found m)) same) (e ∙ ap (put_name found) same)

  taken_if : (e : Refusal) (h b : Bool) → b ≡ false → b ≡ not h → Refuses e (f i.string) i.span → IsRefusal (unless_clear h (f i.string) i.span >> Ok (found ++ i.string ∷ [])) e
  taken_if e true b old is r = r
  taken_if e false b old is r = absurd (cc (old, is))

  pub name_taken : (e : Refusal) (n : Name) (b : Bool) → n ≡ i.string → b ≡ false → b ≡ not (has_name found n) → Refuses e (f i.string) i.span → IsRefusal (name_of f found i) e
  name_taken e n b same old is r = taken_if e (has_name found i.string) b old (is ∙ ap (λ m. not (has_name found m)) same) r
