-- The tree of a type in bytes, from the trees of the types in it: the same rows and maps as a collection's.
use Rattle.std.proofs.Common.{◌≡◌, List, [], ◌∷◌, Option, Some, None, refl, sym, ap, ◌∙◌}
use Rattle.wac_types_base.specs.Entries.{Name, names_of, values_of as values_in}
use Rattle.wac_types_base.specs.Tree.{Tree, Row, place, gap, Fields, put, fields, past}
use Rattle.wac_graph_bytes.specs.declared.value.ValueType.{ValueType}
use Rattle.wac_graph_bytes.specs.Typing.{◌>>=◌, Worlds, Scope, value_of, value_if, values_of, fields_of, cases_of, fields_in}

-- these trees, in places before a row
abbrev pub placed : List Tree → Row → Row
placed [] r = r
placed (t ∷ ts) r = place t (placed ts r)

-- these, with gaps
abbrev pub slots : List (Option Tree) → Row → Row
slots [] r = r
slots (None ∷ ts) r = gap (slots ts r)
slots (Some t ∷ ts) r = place t (slots ts r)

slots_first : (u : Option Tree) (us : List (Option Tree)) (r : Row) → slots (u ∷ us) r ≡ slots (u ∷ []) (slots us r)
slots_first None us r = refl
slots_first (Some t) us r = refl

-- the map of named trees is the one that a collection's interface or world has
pub fields_agree : (xs : List (Name × Tree)) (r : Row) → fields_in xs ≡ fields (names_of xs) (placed (values_in xs) r)
fields_agree [] r = refl
fields_agree (x ∷ xs) r = ap (λ (t : Fields). put x.0 x.1 t) (fields_agree xs r)

-- the places behind them
pub past_placed : (xs : List (Name × Tree)) (r : Row) → past (names_of xs) (placed (values_in xs) r) ≡ r
past_placed [] r = refl
past_placed (x ∷ xs) r = past_placed xs r

module _ (w : Worlds) (ss : List Scope) where
  -- each type has that tree
  abbrev pub Agree : List ValueType → List Tree → Type 0
  Agree [] [] = Unit {0}
  Agree (t ∷ ts) (u ∷ us) = (value_of w ss t ≡ Some u) × Agree ts us
  Agree _ _ = ⊥

  abbrev pub AgreeNamed : List (Name × ValueType) → List Tree → Type 0
  AgreeNamed [] [] = Unit {0}
  AgreeNamed (t ∷ ts) (u ∷ us) = (value_of w ss t.1 ≡ Some u) × AgreeNamed ts us
  AgreeNamed _ _ = ⊥

  -- each type, where there is one, has that tree
  abbrev pub AgreeSlot : Option ValueType → Option Tree → Type 0
  AgreeSlot None None = Unit {0}
  AgreeSlot (Some t) (Some u) = value_of w ss t ≡ Some u
  AgreeSlot _ _ = ⊥

  abbrev pub AgreeSlots : List (Name × Option ValueType) → List (Option Tree) → Type 0
  AgreeSlots [] [] = Unit {0}
  AgreeSlots (c ∷ cs) (u ∷ us) = AgreeSlot c.1 u × AgreeSlots cs us
  AgreeSlots _ _ = ⊥

  pub value_placed : (t : ValueType) (u : Tree) (r : Row) → value_of w ss t ≡ Some u → value_if w ss (Some t) r ≡ Some (place u r)
  value_placed t u r e = ap (λ (o : Option Tree). o >>= λ v. Some (place v r)) e

  pub slot_placed : (t : Option ValueType) (u : Option Tree) (r : Row) → AgreeSlot t u → value_if w ss t r ≡ Some (slots (u ∷ []) r)
  slot_placed None None r e = refl
  slot_placed (Some t) (Some u) r e = value_placed t u r e
  slot_placed None (Some u) r e = absurd e
  slot_placed (Some t) None r e = absurd e

  pub values_placed : (ts : List ValueType) (us : List Tree) (r : Row) → Agree ts us → values_of w ss ts r ≡ Some (placed us r)
  values_placed [] [] r a = refl
  values_placed (t ∷ ts) (u ∷ us) r a = ap (λ (o : Option Row). o >>= value_if w ss (Some t)) (values_placed ts us r a.1) ∙ value_placed t u (placed us r) a.0
  values_placed [] (u ∷ us) r a = absurd a
  values_placed (t ∷ ts) [] r a = absurd a

  pub fields_placed : (ts : List (Name × ValueType)) (us : List Tree) (r : Row) → AgreeNamed ts us → fields_of w ss ts r ≡ Some (placed us r)
  fields_placed [] [] r a = refl
  fields_placed (t ∷ ts) (u ∷ us) r a = ap (λ (o : Option Row). o >>= value_if w ss (Some t.1)) (fields_placed ts us r a.1) ∙ value_placed t.1 u (placed us r) a.0
  fields_placed [] (u ∷ us) r a = absurd a
  fields_placed (t ∷ ts) [] r a = absurd a

  pub cases_placed : (cs : List (Name × Option ValueType)) (us : List (Option Tree)) (r : Row) → AgreeSlots cs us → cases_of w ss cs r ≡ Some (slots us r)
  cases_placed [] [] r a = refl
  cases_placed (c ∷ cs) (u ∷ us) r a = ap (λ (o : Option Row). o >>= value_if w ss c.1) (cases_placed cs us r a.1) ∙ slot_placed c.1 u (slots us r) a.0 ∙ ap Some (sym (slots_first u us r))
  cases_placed [] (u ∷ us) r a = absurd a
  cases_placed (c ∷ cs) [] r a = absurd a
