-- Import statements: the names that they may have, the place of an earlier import, and what is said behind one.
use Rattle.std.specs.Prelude.{Result, ⊤, bytes_eq, codes, cond, is_none, is_some, option_map, string_bytes, unwrap_or}
use Rattle.std.proofs.Common.{◌≡◌, ◌≢◌, ◌⊎◌, ℕ, List, [], ◌∷◌, ◌++◌, Bool, true, false, not, ◌==◌, if◌then◌else◌, Option, Some, None, inl, inr, refl, sym, ap, subst, ◌∙◌, ◌<◌, IsSome}
use Rattle.std.specs.Bool.{Decides}
use Rattle.std.specs.List.{AllByRecursion, list_any}
use Rattle.std.specs.Cmp.Lexicographic.{bytes_decides}
use Rattle.std.specs.FinMap as map
use Rattle.wac_types_base.specs.declared.item.ExternKind.{ExternKind}
use Rattle.wac_types_base.specs.declared.item.ItemKind.{ItemKind}
use Rattle.wac_types_base.specs.Record.{Collection}
use Rattle.wac_types_base.specs.Entries.{AreDistinct, Name, names_of}
use Rattle.wac_types_base.specs.Graph.{Among}
use Rattle.wac_types_base.specs.Stated.{Stated, promote}
use Rattle.wac_types_base.proofs.Replacing.{same_number, number_same}
use Rattle.wac_names.specs.declared.names.NameKind.TheVariants as kind
use Rattle.wac_names.specs.ComponentNames.{IsInside}
use Rattle.wac_names.proofs.NameForms.{behind_decides}
use Rattle.std.proofs.lemmas.Bool.{and_parts, or_right, not_from_false, not-true, false_from_ne_true, and_from, or_left, or_cases}
use Rattle.wac_graph_core.specs.declared.error.ImportError.{ImportError}
use Rattle.wac_graph_core.specs.Nodes.{NodeData, Role, plain_node}
use Rattle.wac_graph_core.specs.NodeMaps.{IsImport, NoImport, Rises}
use Rattle.wac_graph_core.specs.Graph.{Graph, IsGraph, node_at}
use Rattle.wac_graph_core.specs.Refusals.{ImportRefused}
use Rattle.wac_graph_core.specs.Steps.{Imports, IsExternName}
use Rattle.wac_graph_core.proofs.NodeMap.{get-insert_same}
use Rattle.wac_composition.specs.Composition.{imported}
use Rattle.wac_parser_tree.specs.Trees as t
use Rattle.wac_parser_tree.specs.Trees.{Span}
use Rattle.wac_parser_refusals.specs.declared.refusal.Refusal.{Refusal}
use Rattle.wac_parser_refusals.specs.Causes.{Answer, ◌>>=◌, ◌>>◌, DuplicateExternName, InvalidExternName, unless_clear, plainly}
use Rattle.wac_parser_refusals.specs.Outcomes.{IsMemory, IsOutcome, IsRefusal, Tells}
use Rattle.wac_parser_refusals.specs.Views.{Names, cause_in}
use Rattle.wac_parser_refusals.proofs.Outcomes.{memory_refusal}
use Rattle.wac_parser_declare.specs.Holding.{Holds}
use Rattle.wac_parser_declare.proofs.Members.{told}
use Rattle.wac_parser_resolve.specs.declared.state.State.{State as Held}
use Rattle.wac_parser_resolve.specs.Ascribing.{Denoted, Import, State, bound}
use Rattle.std.specs.Option.{option_or}
use Rattle.wac_parser_resolve.specs.Holding.{Denotes, HasItem, InTurn}
use Rattle.wac_parser_resolve.specs.InStatements.{NotesImport, import_cause}
use Rattle.wac_parser_resolve.specs.Later.{IsWithin, Later}
use Rattle.wac_parser_resolve.specs.Said.{AreAsked, IsAsked, IsSaid, last_noted}
use Rattle.wac_names.specs.NameTests.{behind_test, bracketed_test, ended, inside_test}
use Rattle.wac_types_names.specs.InterfaceNames.{is_exportable, is_extern_name}
use Rattle.wac_parser_resolve.specs.Saying.{add_import, asked, import_called, not_imported, with_import}
use Rattle.wac_parser_resolve.proofs.Exporting.{exportable, unexportable}
use Rattle.wac_parser_resolve.proofs.Growing.{Later-import}
use Rattle.wac_parser_resolve.proofs.Instances.{among_named}
use Rattle.wac_parser_resolve.proofs.Numbers.{among_last, among_more}
use Rattle.wac_parser_resolve.proofs.Stating.{Carries, all_declared, all_exported, asked_carried, carries_later, known_within, names_carried, node_back, none_imported, scope_carried, with_graph, with_types}
use Rattle.wac_parser_resolve.proofs.Staying.{says_stay}
use Rattle.wac_parser_resolve.proofs.Turns.{names_more, turn_back, turn_more, turn_within}
use Rattle.wac_graph_core.proofs.Rising.{rises_apart, rises_more}

-- ---- names of imports and definitions

abbrev Unbroken : List ℕ → Type 0
Unbroken bs = AllByRecursion (λ b. (b == 60) ≡ false) bs

ended_told : (bs : List ℕ) → ended bs ≡ true → (xs : List ℕ) × (bs ≡ xs ++ 62 ∷ []) × Unbroken xs
ended_told [] e = absurd (cc e)
ended_told (b ∷ []) e = ([], ap (λ c. c ∷ []) (same_number b 62 e), tt)
ended_told (b ∷ c ∷ cs) e =
    let p = and_parts (not (b == 60)) (ended (c ∷ cs)) e in
    let r = ended_told (c ∷ cs) p.1 in
    (b ∷ r.0, ap (λ bs. b ∷ bs) r.1, (not-true (b == 60) p.0, r.2))

ended_from : (xs : List ℕ) → Unbroken xs → ended (xs ++ 62 ∷ []) ≡ true
ended_from [] u = refl
ended_from (b ∷ []) u = and_from (not (b == 60)) true (not_from_false (b == 60) u.0) refl
ended_from (b ∷ c ∷ cs) u = and_from (not (b == 60)) (ended (c ∷ cs ++ 62 ∷ [])) (not_from_false (b == 60) u.0) (ended_from (c ∷ cs) u.1)

inside_told : (bs : List ℕ) → inside_test bs ≡ true → IsInside bs
inside_told [] e = absurd (cc e)
inside_told (b ∷ bs) e =
    let p = and_parts (not (b == 60)) (ended bs) e in
    let r = ended_told bs p.1 in
    record { inside = b ∷ r.0; is = ap (λ cs. b ∷ cs) r.1; some = λ q. absurd (cc q); unbroken = (not-true (b == 60) p.0, r.2) }

inside_by : (xs : List ℕ) → xs ≢ [] → Unbroken xs → inside_test (xs ++ 62 ∷ []) ≡ true
inside_by [] some u = absurd (some refl)
inside_by (b ∷ xs) some u = and_from (not (b == 60)) (ended (xs ++ 62 ∷ [])) (not_from_false (b == 60) u.0) (ended_from xs u.1)

inside_decides : (bs : List ℕ) → Decides (inside_test bs) (IsInside bs)
inside_decides bs = (inside_told bs, λ i. ap inside_test i.is ∙ inside_by i.inside i.some i.unbroken)

abbrev behind : List ℕ → Name → Bool
behind front n = behind_test front inside_test n

abbrev rest_of : List (List ℕ) → Name → Bool
rest_of fronts n = list_any (λ front. behind front n) fronts

bracketed : (n : Name) → IsExternName n → is_exportable n ≡ false → bracketed_test n ≡ true
bracketed n (kind.Plain, is) e = absurd (cc (sym e ∙ exportable n (kind.Plain, tt, is)))
bracketed n (kind.Interface, is) e = absurd (cc (sym e ∙ exportable n (kind.Interface, tt, is)))
bracketed n (kind.Dependency, inl is) e = or_left (behind (codes "unlocked-dep=<") n) _ ((behind_decides (codes "unlocked-dep=<") inside_test IsInside inside_decides n).1 is)
bracketed n (kind.Dependency, inr is) e =
    or_right (behind (codes "unlocked-dep=<") n) _ (or_left (behind (codes "locked-dep=<") n) _ ((behind_decides (codes "locked-dep=<") inside_test IsInside inside_decides n).1 is))
bracketed n (kind.Url, is) e =
    or_right (behind (codes "unlocked-dep=<") n) _ (or_right (behind (codes "locked-dep=<") n) _ (or_left (behind (codes "url=<") n) _ ((behind_decides (codes "url=<") inside_test IsInside inside_decides n).1 is)))
bracketed n (kind.Hash, is) e =
    or_right (behind (codes "unlocked-dep=<") n) _ (or_right (behind (codes "locked-dep=<") n) _ (or_right (behind (codes "url=<") n) _ (or_left (behind (codes "integrity=<") n) _
    ((behind_decides (codes "integrity=<") inside_test IsInside inside_decides n).1 is))))

bracketed_told : (n : Name) → bracketed_test n ≡ true → IsExternName n
bracketed_told n e = elim (or_cases (behind (codes "unlocked-dep=<") n) _ e) [
  | inl a ↦ (kind.Dependency, inl ((behind_decides (codes "unlocked-dep=<") inside_test IsInside inside_decides n).0 a))
  | inr f ↦ elim (or_cases (behind (codes "locked-dep=<") n) _ f) [
    | inl a ↦ (kind.Dependency, inr ((behind_decides (codes "locked-dep=<") inside_test IsInside inside_decides n).0 a))
    | inr g ↦ elim (or_cases (behind (codes "url=<") n) _ g) [
      | inl a ↦ (kind.Url, (behind_decides (codes "url=<") inside_test IsInside inside_decides n).0 a)
      | inr h ↦ elim (or_cases (behind (codes "integrity=<") n) false h) [
        | inl a ↦ (kind.Hash, (behind_decides (codes "integrity=<") inside_test IsInside inside_decides n).0 a)
        | inr a ↦ absurd (cc a)
      ]
    ]
  ]
]

-- the test of documents is the graph's
pub extern_name : (n : Name) → IsExternName n → is_extern_name n ≡ true
extern_name n is = by (is_exportable n) refl
  where
    by : (b : Bool) → is_exportable n ≡ b → is_extern_name n ≡ true
    by true e = or_left (is_exportable n) (bracketed_test n) e
    by false e = or_right (is_exportable n) (bracketed_test n) (bracketed n is e)

export_extern : (n : Name) → is_exportable n ≡ true → (IsExternName n → ⊥) → ⊥
export_extern n e not_so = absurd (cc (sym e ∙ unexportable n (λ x. not_so (x.0, x.2))))

pub no_extern_name : (n : Name) → (IsExternName n → ⊥) → is_extern_name n ≡ false
no_extern_name n not_so = false_from_ne_true (is_extern_name n) (λ e. elim (or_cases (is_exportable n) (bracketed_test n) e) [
  | inl a ↦ export_extern n a not_so
  | inr a ↦ not_so (bracketed_told n a)
])

-- ---- where nodes are noted

pub last_other : (xs : List (ℕ × Span)) (k j : ℕ) (at : Span) → (k ≡ j → ⊥) → last_noted (xs ++ (k, at) ∷ []) j ≡ last_noted xs j
last_other [] k j at apart = ap (λ (b : Bool). option_or None (if b then Some at else None)) (false_from_ne_true (k == j) (λ e. apart (same_number k j e)))
last_other (x ∷ xs) k j at apart = ap (λ (o : Option Span). option_or o (if x.0 == j then Some x.1 else None)) (last_other xs k j at apart)

pub last_own : (xs : List (ℕ × Span)) (k : ℕ) (at : Span) → last_noted (xs ++ (k, at) ∷ []) k ≡ Some at
last_own [] k at = ap (λ (b : Bool). option_or None (if b then Some at else None)) (number_same k k refl)
last_own (x ∷ xs) k at = ap (λ (o : Option Span). option_or o (if x.0 == k then Some x.1 else None)) (last_own xs k at)

pub last_none : (xs : List (ℕ × Span)) (k : ℕ) → (Among k (names_of xs) → ⊥) → last_noted xs k ≡ None
last_none [] k not_so = refl
last_none (x ∷ xs) k not_so =
    ap (λ (o : Option Span). option_or o (if x.0 == k then Some x.1 else None)) (last_none xs k (λ m. not_so (inr m)))
    ∙ ap (λ (b : Bool). option_or None (if b then Some x.1 else None)) (false_from_ne_true (x.0 == k) (λ e. not_so (inl (sym (same_number x.0 k e)))))

-- ---- an earlier import

module _ (g : Graph) (ids : List (ℕ × Span)) (n : Name) where
  pub none_called : NoImport g.nodes n → (is : List Import) (noted : List (ℕ × Span)) → InTurn (IsAsked g ids) is noted → import_called is n ≡ None
  none_called not_so [] noted a = refl
  none_called not_so (i ∷ is) [] a = absurd a
  none_called not_so (i ∷ is) (e ∷ noted) a =
      ap (λ (b : Bool). cond b (Some i) (import_called is n))
      (false_from_ne_true (bytes_eq n i.name) (λ s. not_so e.0 (subst (IsImport g.nodes e.0) (sym ((bytes_decides n i.name).0 s)) a.0.import)))
      ∙ none_called not_so is noted a.1

  module _ (sound : IsGraph g) (k : ℕ) (here : IsImport g.nodes k n) where
    -- the import of the name, whose place is the last one that is noted of the node
    pub record Called (is : List Import) (noted : List (ℕ × Span)) : Type 0 where
      pub earlier : Import
      pub called : import_called is n ≡ Some earlier
      pub noted_at : last_noted noted k ≡ Some earlier.span

    one_name : (m : Name) → IsImport g.nodes k m → n ≡ m
    one_name m i =
        let e : Some here.node ≡ Some i.node = sym here.there ∙ i.there in
        let node : here.node ≡ i.node = cc in
        let role : Role.Imported n ≡ Role.Imported m = sym here.role ∙ ap (λ (x : NodeData). x.role) node ∙ i.role in
        cc role

    by_test : (i : Import) (is : List Import) (e : ℕ × Span) (noted : List (ℕ × Span)) → IsAsked g ids i e → (Among e.0 (names_of noted) → ⊥) → (Among k (names_of noted) → Called is noted)
        → (k ≡ e.0) ⊎ Among k (names_of noted) → (b : Bool) → bytes_eq n i.name ≡ b → Called (i ∷ is) (e ∷ noted)
    by_test i is e noted a apart more m true s =
        let own : e.0 ≡ k = sound.once.imports e.0 k n (subst (IsImport g.nodes e.0) (sym ((bytes_decides n i.name).0 s)) a.import) here in
        record {
          earlier = i;
          called = ap (λ (b : Bool). cond b (Some i) (import_called is n)) s;
          noted_at = ap (λ (o : Option Span). option_or o (if e.0 == k then Some e.1 else None)) (last_none noted k (λ q. apart (subst (λ (j : ℕ). Among j (names_of noted)) (sym own) q)))
              ∙ ap (λ (b : Bool). option_or None (if b then Some e.1 else None)) (number_same e.0 k own) ∙ ap Some a.span;
        }
    by_test i is e noted a apart more (inl own) false s =
        let name : n ≡ i.name = one_name i.name (subst (λ (j : ℕ). IsImport g.nodes j i.name) (sym own) a.import) in
        absurd (cc (sym s ∙ (bytes_decides n i.name).1 name))
    by_test i is e noted a apart more (inr m) false s =
        let r = more m in
        record {
          earlier = r.earlier;
          called = ap (λ (b : Bool). cond b (Some i) (import_called is n)) s ∙ r.called;
          noted_at = ap (λ (o : Option Span). option_or o (if e.0 == k then Some e.1 else None)) r.noted_at;
        }

    pub called_in : (is : List Import) (noted : List (ℕ × Span)) → InTurn (IsAsked g ids) is noted → AreDistinct (names_of noted) → Among k (names_of noted) → Called is noted
    called_in [] [] a d m = absurd m
    called_in [] (e ∷ noted) a d m = absurd a
    called_in (i ∷ is) [] a d m = absurd a
    called_in (i ∷ is) (e ∷ noted) a d m = by_test i is e noted a.0 d.0 (λ q. called_in is noted a.1 d.1 q) m (bytes_eq n i.name) refl

-- ---- an import

module _ (own : t.PackageName) (b : Held) (s : State) (said : IsSaid own b s) (x : t.ImportStatement) (n : t.Ident) (item : Stated) (kind : ItemKind) (holds : Holds b.board.types.graph.types item kind) where
  abbrev g : Graph
  g = b.board.types.graph

  abbrev ms : List ℕ
  ms = names_of b.board.instances.noted.items

  abbrev one : Import
  one = record { name = n.string; item = item; span = n.span; id_span = x.id.span }

  abbrev here : Denoted
  here = record { origin = imported n.string; item = item }

  -- the graph refuses it
  refused_by : (o : Option Import) (c : Bool) (e : Refusal) → import_called s.imports n.string ≡ o → is_extern_name n.string ≡ c
      → IsRefusal (not_imported o n (is_none x.name) >> (unless_clear (not c) (InvalidExternName n.string ExternKind.Import) n.span >> bound (with_import s one) x.id here)) e
      → IsRefusal (add_import s x n item) e
  refused_by o c e called valid r =
      subst (λ (p : Option Import). IsRefusal (not_imported p n (is_none x.name) >> (unless_clear (not (is_extern_name n.string)) (InvalidExternName n.string ExternKind.Import) n.span >> bound (with_import s one) x.id here)) e) (sym called)
      (subst (λ (d : Bool). IsRefusal (not_imported o n (is_none x.name) >> (unless_clear (not d) (InvalidExternName n.string ExternKind.Import) n.span >> bound (with_import s one) x.id here)) e) (sym valid) r)

  no_cause : (e : Refusal) → Names e None → IsMemory (cause_in e)
  no_cause (Refusal.Named f) h = subst IsMemory (sym h) tt
  no_cause Refusal.Memory h = tt

  pub import_refused : IsGraph g → (fault : ImportError) (e : Refusal) → ImportRefused g n.string fault → Names e (import_cause b.imports.noted.items n.span (is_none x.name) fault) → IsRefusal (add_import s x n item) e
  import_refused sound (ImportError.ImportAlreadyExists m k) e r names =
      let c = called_in g b.ids.noted.items n.string sound k r.1 s.imports b.imports.noted.items said.imports.are (rises_apart (names_of b.imports.noted.items) said.imports.rising) (said.imports.all k n.string r.1) in
      let one_told = told e (DuplicateExternName (string_bytes m) ExternKind.Import (unwrap_or (last_noted b.imports.noted.items k) n.span) (is_none x.name)) (Some n.span) names in
      let two = subst (λ (y : Name). Tells (cause_in e) (plainly (DuplicateExternName y ExternKind.Import (unwrap_or (last_noted b.imports.noted.items k) n.span) (is_none x.name)) (Some n.span))) r.0 one_told in
      refused_by (Some c.earlier) (is_extern_name n.string) e c.called refl
      (subst (λ (o : Option Span). Tells (cause_in e) (plainly (DuplicateExternName n.string ExternKind.Import (unwrap_or o n.span) (is_none x.name)) (Some n.span))) c.noted_at two)
  import_refused sound (ImportError.InvalidImportName m y) e r names =
      let one_told = told e (InvalidExternName (string_bytes m) ExternKind.Import) (Some n.span) names in
      refused_by None false e (none_called g b.ids.noted.items n.string r.1 s.imports b.imports.noted.items said.imports.are) (no_extern_name n.string r.2)
      (subst (λ (z : Name). Tells (cause_in e) (plainly (InvalidExternName z ExternKind.Import) (Some n.span))) r.0 one_told)
  import_refused sound ImportError.Memory e r names = memory_refusal (add_import s x n item) e (no_cause e names)

  -- it is there
  module _ (h : Graph) (k : ℕ) (made : Imports g h n.string kind k) where
    abbrev node : NodeData
    node = plain_node (Role.Imported n.string) None kind

    later : Later g h
    later = Later-import g h n.string kind k made

    types : h.types ≡ g.types
    types = ap (λ (y : Graph). y.types) made.made

    nodes : h.nodes ≡ map.insert g.nodes k node
    nodes = ap (λ (y : Graph). y.nodes) made.made

    places : h.places ≡ g.places
    places = ap (λ (y : Graph). y.places) made.made

    there : node_at h k ≡ Some node
    there = ap (λ m. map.get m k) nodes ∙ get-insert_same g.nodes k node

    item_there : HasItem h k item
    item_there = record { node = node; there = there; kind = subst (λ (c : Collection). Holds c item kind) (sym types) holds }

    is_import : IsImport h.nodes k n.string
    is_import = record { node = node; there = there; role = refl }

    pub import_denotes : Denotes h ms here k
    import_denotes = record { node = is_import; item = item_there }

    other : (e : ℕ × Span) (i : Import) → IsImport g.nodes e.0 i.name → k ≡ e.0 → ⊥
    other e i a same = let old : node_at g k ≡ Some a.node = subst (λ (j : ℕ). node_at g j ≡ Some a.node) (sym same) a.there in absurd (cc (sym made.free ∙ old))

    import_old : (j : ℕ) (m : Name) → IsImport h.nodes j m → (j ≡ k) ⊎ IsImport g.nodes j m
    import_old j m i = elim (node_back g h k node nodes places j i.node i.there) [
      | inl e ↦ inl e.0
      | inr e ↦ inr (record { node = i.node; there = e.1; role = i.role })
    ]

    defined_old : (j : ℕ) (y : NodeData) → node_at h j ≡ Some y → y.role ≡ Role.Defined → (z : NodeData) × (node_at g j ≡ Some z) × (z.role ≡ Role.Defined)
    defined_old j y at r = elim (node_back g h k node nodes places j y at) [
      | inl e ↦ absurd (cc (ap (λ (w : NodeData). w.role) e.1 ∙ r))
      | inr e ↦ (y, e.1, r)
    ]

    abbrev noted : List (ℕ × Span)
    noted = b.imports.noted.items

    abbrev ids : List (ℕ × Span)
    ids = b.ids.noted.items

    below : (j : ℕ) → Among j (names_of noted) → j < k
    below j m =
        let e = among_named noted j m in
        let a = turn_back (IsAsked g ids) s.imports noted e.0 said.imports.are e.1 in
        made.above j (subst (λ (i : ℕ). IsSome (node_at g i)) e.2 (subst IsSome (sym a.2.import.there) refl))

    c : Carries g h ms ms
    c = carries_later g h later ms ms (λ i j e. e)

    asked_more : AreAsked h (noted ++ (k, n.span) ∷ []) (ids ++ (k, x.id.span) ∷ []) (s.imports ++ one ∷ [])
    asked_more = record {
      rising = subst Rises (sym (names_more noted (k, n.span))) (rises_more (names_of noted) k said.imports.rising below);
      are = turn_more (IsAsked h (ids ++ (k, x.id.span) ∷ [])) s.imports noted one (k, n.span)
          (turn_within (IsAsked g ids) (IsAsked h (ids ++ (k, x.id.span) ∷ [])) s.imports noted
          (λ i e m a. asked_carried g h ms ms c ids (ids ++ (k, x.id.span) ∷ []) i e (last_other ids k e.0 x.id.span (other e i a.import)) a) said.imports.are)
          (record { import = is_import; item = item_there; span = refl; id = last_own ids k x.id.span });
      all = λ j m i. subst (Among j) (sym (names_more noted (k, n.span))) (elim (import_old j m i) [
        | inl e ↦ subst (λ (z : ℕ). Among z (names_of noted ++ k ∷ [])) (sym e) (among_last (names_of noted) k)
        | inr old ↦ among_more j (names_of noted) k (said.imports.all j m old)
      ]);
    }

    within : IsWithin g h
    within = record { types = types; places = places }

    abbrev state_with : Held → Held
    state_with a = record (with_types b (with_graph b.board.types h)) { imports = a.imports; ids = a.ids }

    said_noted : (a : Held) → a.imports.noted.items ≡ noted ++ (k, n.span) ∷ [] → a.ids.noted.items ≡ ids ++ (k, x.id.span) ∷ [] → IsSaid own (state_with a) (with_import s one)
    said_noted a imports_are ids_are =
        let says = says_stay g h later (none_imported g h n.string kind k made) b.board.instances.noted.items b.nodes s said.board.says in
        record {
          board = record {
            says = record { rising = says.rising; made = says.made; all = says.all; aliases = says.aliases; root = says.root };
            known = λ j. known_within b.board.types h within j ∙ said.board.known j;
            handed = said.board.handed;
            own = said.board.own;
          };
          own = said.own;
          stand = names_carried g h ms ms c b.names said.stand;
          scope = scope_carried g h ms ms c b.names said.stand ∙ said.scope;
          imports = subst (λ (xs : List (ℕ × Span)). AreAsked h xs a.ids.noted.items (s.imports ++ one ∷ [])) (sym imports_are)
              (subst (λ (ys : List (ℕ × Span)). AreAsked h (noted ++ (k, n.span) ∷ []) ys (s.imports ++ one ∷ [])) (sym ids_are) asked_more);
          definitions = all_declared g h ms ms c s.definitions defined_old said.definitions;
          exports = all_exported g h ms ms c b.exports.noted.items s.exports (ap (λ (y : Graph). y.exports) made.made) said.exports;
        }

    pub import_said : (a : Held) → NotesImport (with_types b (with_graph b.board.types h)) a k n.span x.id.span → IsSaid own a (with_import s one)
    import_said a notes = subst (λ (z : Held). IsSaid own z (with_import s one)) (sym notes.rest) (said_noted a notes.imports notes.ids)

    pub import_outcome : (H : State → ⊤ → Type 0) (r : Result ⊤ Refusal) → IsOutcome H (bound (with_import s one) x.id here) r → IsOutcome H (add_import s x n item) r
    import_outcome H r o =
        subst (λ (p : Option Import). IsOutcome H (not_imported p n (is_none x.name) >> (unless_clear (not (is_extern_name n.string)) (InvalidExternName n.string ExternKind.Import) n.span >> bound (with_import s one) x.id here)) r)
        (sym (none_called g ids n.string made.none s.imports noted said.imports.are))
        (subst (λ (d : Bool). IsOutcome H (unless_clear (not d) (InvalidExternName n.string ExternKind.Import) n.span >> bound (with_import s one) x.id here) r) (sym (extern_name n.string made.valid)) o)

pub helped_by : {A B : Type 0} (f : A → B) (o : Option A) (b : Bool) → is_some o ≡ not b → b ≡ is_none (option_map f o)
helped_by f None true e = refl
helped_by f None false e = absurd (cc e)
helped_by f (Some a) true e = absurd (cc e)
helped_by f (Some a) false e = refl

-- ---- import statements, step by step

-- what follows the name of an import
abbrev pub import_behind : State → t.ImportStatement → t.Ident → Answer State
import_behind s x n = asked s x.ty >>= λ item. add_import s x n (promote item)

pub ident_is : (i : t.Ident) (text : Name) (at : Span) → text ≡ i.string → at ≡ i.span → ◌≡◌ {A = t.Ident} (record { string = text; span = at }) i
ident_is i text at e f = λ j. record { string = e j; span = f j }
