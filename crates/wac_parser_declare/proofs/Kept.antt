-- What is kept while a collection grows, and what stands.
use Rattle.std.proofs.Common.{◌≡◌, List, [], ◌∷◌, ◌++◌, map, All, Option, Some, None, option_map, Bool, true, false, refl, sym, ap, subst, ◌∙◌, inl, inr, if◌then◌else◌, ◌==◌}
use Rattle.std.specs.Cmp.Lexicographic.{pointwise}
use Rattle.wac_types_base.specs.declared.item.ValueType.{ValueType}
use Rattle.wac_types_base.specs.declared.item.ItemKind.{ItemKind}
use Rattle.wac_types_base.specs.Record.{Collection}
use Rattle.wac_types_base.specs.Graph.{Among}
use Rattle.wac_types_base.specs.Collection.{Shape, Slot, SlotStands, Stands, IsAcyclic, Grows, item_node, labelled, value_slot, option_slot, StandsIf}
use Rattle.wac_types_base.specs.Entries.{Name, with_values, value_at, values_of}
use Rattle.wac_types_base.specs.Stated.{Stated, stated_of, over, relabelled}
use Rattle.wac_types_base.proofs.GraphLemmas.{value_of, is_there}
use Rattle.wac_types_base.proofs.Copying.{Among-All}
use Rattle.wac_types_base.proofs.Telling.{stated_step}
use Rattle.wac_types_base.proofs.Stating.{stated_kept}
use Rattle.wac_parser_declare.specs.declared.scope.Binding.{Binding}
use Rattle.wac_parser_declare.specs.Scope.{Meant}
use Rattle.wac_parser_declare.specs.Holding.{Holds, IsValueIf, AreValues, AllStand, EachStands, AreEntries, ValueStands, BindingStands, NamesStand, stated_value, stated_if, stated_row, meant_by, scope_of}

-- ---- entries

pub entry_holds : (d : Collection) → IsAcyclic d → (k : ItemKind) (l : Shape) (xs : List Slot) (os : List (Option Stated)) → item_node d k ≡ Some (l, xs) → map (option_map (stated_of d)) xs ≡ os → Holds d (over l os) k
entry_holds d a k l xs os e f = record { stands = is_there _ _ e; same = stated_step d a k (l, xs) e ∙ ap (over l) f }

-- an item that is another under a label
pub labelled_holds : (c : Collection) → IsAcyclic c → (l : Shape → Shape) (k j : ItemKind) → item_node c k ≡ labelled l (item_node c j) → Stands c j → Holds c (relabelled l (stated_of c j)) k
labelled_holds c a l k j is stands =
    let v = value_of _ stands in
    let at : item_node c k ≡ Some (l v.0.0, v.0.1) = is ∙ ap (labelled l) v.1 in
    record { stands = is_there _ _ at; same = stated_step c a k (l v.0.0, v.0.1) at ∙ sym (ap (relabelled l) (stated_step c a j v.0 v.1)) }

-- ---- what stands in places

abbrev pub SlotsStand : Collection → List Slot → Type 0
SlotsStand c [] = Unit {0}
SlotsStand c (x ∷ xs) = SlotStands c x × SlotsStand c xs

among_stands : (c : Collection) (xs : List Slot) → SlotsStand c xs → (x : Slot) → Among x xs → SlotStands c x
among_stands c [] h x m = absurd m
among_stands c (y ∷ ys) h x (inl e) = subst (SlotStands c) (sym e) h.0
among_stands c (y ∷ ys) h x (inr m) = among_stands c ys h.1 x m

pub children : (c : Collection) (xs : List Slot) → SlotsStand c xs → All (SlotStands c) xs
children c xs h = Among-All (SlotStands c) xs (among_stands c xs h)

pub option_stands : (c : Collection) (o : Option ValueType) → StandsIf c o → SlotStands c (option_slot o)
option_stands c None h = tt
option_stands c (Some v) h = h

pub values_stand : (c : Collection) (vs : List ValueType) → AllStand c vs → SlotsStand c (map value_slot vs)
values_stand c [] h = tt
values_stand c (v ∷ vs) h = (h.0, values_stand c vs h.1)

pub named_values_stand : (c : Collection) (es : List (Name × ValueType)) → EachStands (ValueStands c) es → SlotsStand c (map value_slot (values_of es))
named_values_stand c [] h = tt
named_values_stand c (e ∷ es) h = (h.0, named_values_stand c es h.1)

pub cases_stand : (c : Collection) (es : List (Name × Option ValueType)) → EachStands (StandsIf c) es → SlotsStand c (map option_slot (values_of es))
cases_stand c [] h = tt
cases_stand c (e ∷ es) h = (option_stands c e.1 h.0, cases_stand c es h.1)

pub both_stand : (c : Collection) (xs ys : List Slot) → SlotsStand c xs → SlotsStand c ys → SlotsStand c (xs ++ ys)
both_stand c [] ys h i = i
both_stand c (x ∷ xs) ys h i = (h.0, both_stand c xs ys h.1 i)

-- ---- what places state

pub option_places : (c : Collection) (o : Option ValueType) → option_map (stated_of c) (option_slot o) ≡ stated_if c o
option_places c None = refl
option_places c (Some v) = refl

pub value_places : (c : Collection) (vs : List ValueType) → map (option_map (stated_of c)) (map value_slot vs) ≡ stated_row c vs
value_places c [] = refl
value_places c (v ∷ vs) = ap (λ os. Some (stated_value c v) ∷ os) (value_places c vs)

-- ---- while a collection grows

pub Holds-kept : (c d : Collection) → Grows c d → (t : Stated) (k : ItemKind) → Holds c t k → Holds d t k
Holds-kept c d g t k h = record { stands = g.stand k h.stands; same = stated_kept c d g k h.stands ∙ h.same }

pub StandsIf-kept : (c d : Collection) → Grows c d → (o : Option ValueType) → StandsIf c o → StandsIf d o
StandsIf-kept c d g None s = tt
StandsIf-kept c d g (Some v) s = g.stand (ItemKind.Value v) s

pub stated_if-kept : (c d : Collection) → Grows c d → (o : Option ValueType) → StandsIf c o → stated_if d o ≡ stated_if c o
stated_if-kept c d g None s = refl
stated_if-kept c d g (Some v) s = ap Some (stated_kept c d g (ItemKind.Value v) s)

pub IsValueIf-kept : (c d : Collection) → Grows c d → (t : Option Stated) (o : Option ValueType) → IsValueIf c t o → IsValueIf d t o
IsValueIf-kept c d g t o h = record { stands = StandsIf-kept c d g o h.stands; same = stated_if-kept c d g o h.stands ∙ h.same }

AllStand-kept : (c d : Collection) → Grows c d → (vs : List ValueType) → AllStand c vs → AllStand d vs
AllStand-kept c d g [] s = tt
AllStand-kept c d g (v ∷ vs) s = (g.stand (ItemKind.Value v) s.0, AllStand-kept c d g vs s.1)

stated_row-kept : (c d : Collection) → Grows c d → (vs : List ValueType) → AllStand c vs → stated_row d vs ≡ stated_row c vs
stated_row-kept c d g [] s = refl
stated_row-kept c d g (v ∷ vs) s = rw (stated_kept c d g (ItemKind.Value v) s.0, stated_row-kept c d g vs s.1) refl

pub AreValues-kept : (c d : Collection) → Grows c d → (ts : List (Option Stated)) (vs : List ValueType) → AreValues c ts vs → AreValues d ts vs
AreValues-kept c d g ts vs h = record { stand = AllStand-kept c d g vs h.stand; same = stated_row-kept c d g vs h.stand ∙ h.same }

AllStand-more : (c : Collection) (vs : List ValueType) (v : ValueType) → AllStand c vs → Stands c (ItemKind.Value v) → AllStand c (vs ++ v ∷ [])
AllStand-more c [] v s h = (h, tt)
AllStand-more c (w ∷ vs) v s h = (s.0, AllStand-more c vs v s.1 h)

stated_row-more : (c : Collection) (vs : List ValueType) (v : ValueType) → stated_row c (vs ++ v ∷ []) ≡ stated_row c vs ++ Some (stated_value c v) ∷ []
stated_row-more c [] v = refl
stated_row-more c (w ∷ vs) v = ap (λ os. Some (stated_value c w) ∷ os) (stated_row-more c vs v)

pub AreValues-more : (c : Collection) (ts : List (Option Stated)) (vs : List ValueType) (t : Stated) (v : ValueType) → AreValues c ts vs → Holds c t (ItemKind.Value v) → AreValues c (ts ++ Some t ∷ []) (vs ++ v ∷ [])
AreValues-more c ts vs t v h x = record {
  stand = AllStand-more c vs v h.stand x.stands;
  same = stated_row-more c vs v ∙ ap (λ os. os ++ Some (stated_value c v) ∷ []) h.same ∙ ap (λ u. ts ++ Some u ∷ []) x.same;
}

-- ---- maps

module _ {V : Type 0} (P Q : V → Type 0) where
  pub EachStands-kept : ((v : V) → P v → Q v) → (es : List (Name × V)) → EachStands P es → EachStands Q es
  EachStands-kept h [] s = tt
  EachStands-kept h (e ∷ es) s = (h e.1 s.0, EachStands-kept h es s.1)

module _ {V : Type 0} (P : V → Type 0) where
  pub EachStands-more : (es : List (Name × V)) (n : Name) (v : V) → EachStands P es → P v → EachStands P (es ++ (n, v) ∷ [])
  EachStands-more [] n v s h = (h, tt)
  EachStands-more (e ∷ es) n v s h = (s.0, EachStands-more es n v s.1 h)

  stands_by : (b : Bool) (e v : V) (o : Option V) → P e → (o ≡ Some v → P v) → (if b then Some e else o) ≡ Some v → P v
  stands_by true e v o p h is = let same : e ≡ v = cc is in subst P same p
  stands_by false e v o p h is = h is

  pub found_stands : (es : List (Name × V)) (n : Name) (v : V) → EachStands P es → value_at es n ≡ Some v → P v
  found_stands [] n v s is = absurd (cc is)
  found_stands (e ∷ es) n v s is = stands_by (pointwise ◌==◌ n e.0) e.1 v (value_at es n) s.0 (found_stands es n v s.1) is

module _ {V T : Type 0} where
  pub with_values-same : (P : V → Type 0) (f g : V → T) → ((v : V) → P v → f v ≡ g v) → (es : List (Name × V)) → EachStands P es → with_values f es ≡ with_values g es
  with_values-same P f g h [] s = refl
  with_values-same P f g h (e ∷ es) s = rw (h e.1 s.0, with_values-same P f g h es s.1) refl

  pub with_values-more : (f : V → T) (es : List (Name × V)) (n : Name) (v : V) → with_values f (es ++ (n, v) ∷ []) ≡ with_values f es ++ (n, f v) ∷ []
  with_values-more f [] n v = refl
  with_values-more f (e ∷ es) n v = ap (λ xs. (e.0, f e.1) ∷ xs) (with_values-more f es n v)

  -- one more entry, while the collection grew
  pub AreEntries-more : (P Q : V → Type 0) (f g : V → T) → ((v : V) → P v → Q v) → ((v : V) → P v → g v ≡ f v) → (ts : List (Name × T)) (es : List (Name × V)) (n : Name) (t : T) (v : V)
      → AreEntries P f ts es → Q v → g v ≡ t → AreEntries Q g (ts ++ (n, t) ∷ []) (es ++ (n, v) ∷ [])
  AreEntries-more P Q f g keep same ts es n t v h stands is = record {
    stand = EachStands-more Q es n v (EachStands-kept P Q keep es h.stand) stands;
    same = with_values-more g es n v ∙ ap (λ xs. xs ++ (n, g v) ∷ []) (with_values-same P g f same es h.stand ∙ h.same) ∙ ap (λ u. ts ++ (n, u) ∷ []) is;
  }

  pub AreEntries-kept : (P Q : V → Type 0) (f g : V → T) → ((v : V) → P v → Q v) → ((v : V) → P v → g v ≡ f v) → (ts : List (Name × T)) (es : List (Name × V)) → AreEntries P f ts es → AreEntries Q g ts es
  AreEntries-kept P Q f g keep same ts es h = record { stand = EachStands-kept P Q keep es h.stand; same = with_values-same P g f same es h.stand ∙ h.same }

-- ---- scopes

meant-kept : (c d : Collection) → Grows c d → (b : Binding) → BindingStands c b → meant_by d b ≡ meant_by c b
meant-kept c d g b s =
    let P : Stated → Meant = λ x. record { item = x; span = b.span } in
    ap P (stated_kept c d g b.kind s)

pub scope-kept : (c d : Collection) → Grows c d → (bs : List (Name × Binding)) → NamesStand c bs → scope_of d bs ≡ scope_of c bs
scope-kept c d g bs s = with_values-same (BindingStands c) (meant_by d) (meant_by c) (meant-kept c d g) bs s

pub NamesStand-kept : (c d : Collection) → Grows c d → (bs : List (Name × Binding)) → NamesStand c bs → NamesStand d bs
NamesStand-kept c d g bs s = EachStands-kept (BindingStands c) (BindingStands d) (λ b h. g.stand b.kind h) bs s

pub names_stay : (c d : Collection) (bs : List (Name × Binding)) → Grows c d → NamesStand c bs → NamesStand d bs
names_stay c d bs g s = NamesStand-kept c d g bs s
