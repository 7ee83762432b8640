-- The imports of classes of asks, as one after another is put into a world.
use Rattle.std.specs.List.{list_any}
use Rattle.std.specs.Map.{keys_of, lookup}
use Rattle.std.proofs.Common.{◌≡◌, ◌==◌, ℕ, Bool, true, false, true≢false, List, [], ◌∷◌, ◌++◌, fold, Some, slice_get, refl, sym, ap, subst, ◌∙◌, inl, inr, append_assoc, if◌then◌else◌}
use Rattle.std.proofs.lemmas.Option.{same_Some}
use Rattle.std.proofs.lemmas.List.{map-append, append-nil}
use Rattle.wac_types_base.specs.declared.item.ItemKind.{ItemKind}
use Rattle.wac_types_base.specs.Record.{Collection}
use Rattle.wac_types_base.specs.Entries.{Name, AreDistinct, names_of}
use Rattle.wac_types_base.specs.Graph.{Among}
use Rattle.wac_types_base.specs.Collection.{Stands, Grows}
use Rattle.wac_types_base.specs.Stated.{stated_of}
use Rattle.wac_types_base.proofs.Adding.{Grows-trans}
use Rattle.wac_types_base.proofs.Looked.{put_entry-new}
use Rattle.wac_types_base.proofs.Lists.{among_split}
use Rattle.wac_types_base.proofs.Stating.{stated_kept}
use Rattle.wac_types_written.specs.Forms.{ItemsStand}
use Rattle.wac_graph_core.proofs.Found.{eq_same, eq_false}
use Rattle.wac_types_parts.proofs.Lists.{distinct-append, distinct-apart}
use Rattle.wac_composition.specs.Asks.{Ask}
use Rattle.wac_composition.specs.Classes.{spelled}
use Rattle.wac_composition.specs.Merging.{identified}
use Rattle.wac_composition.specs.OuterImports.{asked_in}
use Rattle.wac_composition.proofs.Closures.{among_any}
use Rattle.wac_composition.proofs.Lists.{mapped_among}
use Rattle.wac_merging.specs.Labelled.{with_label, labelled, LabelClasses, AreLabels}
use Rattle.wac_merging.specs.Outers.{IsOuter}
use Rattle.wac_merging.proofs.Labels.{ask_there, class_is_labelled, outers_differ}
use Rattle.wac_merging.proofs.Outers.{labels_are_of_classes, spelled_is_outer}
use Rattle.wac_merging.proofs.Taking.{taken_stays}
use Rattle.wac_graph_asks.specs.declared.asks.Ask.{Ask as HeldAsk}
use Rattle.wac_graph_asks.specs.declared.classes.Classes.{Classes}
use Rattle.wac_graph_asks.specs.declared.taken.Taken.{Taken}
use Rattle.wac_graph_asks.specs.AsksIn.{ask_in, asks_in}
use Rattle.wac_graph_asks.specs.Named.{SpellsClass}
use Rattle.wac_graph_asks.specs.Takes.{IsTakenOf, AreTaken}
use Rattle.wac_graph_asks.specs.Imported.{IsImport, AreImports, AddsImport, AreClassed, AddsImports}

-- ---- labels, each once

distinct_with : (ls : List ℕ) (l : ℕ) → AreDistinct ls → AreDistinct (with_label ls l)
distinct_with ls l d = go (list_any (λ m. m == l) ls) refl
  where
    apart : list_any (λ m. m == l) ls ≡ false → (m : ℕ) → Among m ls → Among m (l ∷ []) → ⊥
    apart e m here (inr k) = k
    apart e m here (inl s) = true≢false (sym (among_any (λ m. m == l) ls l (subst (λ x. Among x ls) s here) (eq_same l)) ∙ e)

    go : (b : Bool) → list_any (λ m. m == l) ls ≡ b → AreDistinct (if b then ls else ls ++ l ∷ [])
    go true e = d
    go false e = distinct-append ls (l ∷ []) d ((λ m. m), tt) (apart e)

distinct_labels : (ls ms : List ℕ) → AreDistinct ls → AreDistinct (fold with_label ls ms)
distinct_labels ls [] d = d
distinct_labels ls (m ∷ ms) d = distinct_labels (with_label ls m) ms (distinct_with ls m d)

-- a key that stands nowhere before it is found where it stands
found_behind : {X : Type 0} (done rest : List (ℕ × X)) (l : ℕ) (x : X) → (Among l (keys_of done) → ⊥) → lookup (λ k. l == k) (done ++ (l, x) ∷ rest) ≡ Some x
found_behind [] rest l x new = ap (λ b. if b then Some x else lookup (λ k. l == k) rest) (eq_same l)
found_behind (y ∷ done) rest l x new =
    ap (λ b. if b then Some y.1 else lookup (λ k. l == k) (done ++ (l, x) ∷ rest)) (eq_false l y.0 (λ s. new (inl s))) ∙ found_behind done rest l x (λ m. new (inr m))

-- ---- the first ask of a label

module _ (asks : List (Ask ℕ)) (labels : List ℕ) (are : AreLabels asks labels) where
  classes : LabelClasses asks labels
  classes = labels_are_of_classes asks labels are

  -- a label is the label of the ask at that place
  pub record IsOwn (l : ℕ) : Type 0 where
    pub ask : Ask ℕ
    pub there : slice_get asks l ≡ Some ask
    pub own : slice_get labels l ≡ Some l

  own_label : (i : ℕ) (a : Ask ℕ) (l : ℕ) → slice_get asks i ≡ Some a → slice_get labels i ≡ Some l → IsOwn l
  own_label i a l p q =
      let f = are.each i a p in
      let same : f.0 ≡ l = same_Some _ _ (sym f.1 ∙ q) in
      record {
        ask = f.2.ask;
        there = ap (slice_get asks) (sym same) ∙ f.2.there;
        own = ap (slice_get labels) (sym same) ∙ sym ((classes.one_label i f.0 a f.2.ask p f.2.there).1 f.2.linked) ∙ q;
      }

  labelled_own : (l : ℕ) (a : Ask ℕ) (as_ : List (Ask ℕ)) → labelled l asks labels ≡ a ∷ as_ → IsOwn l
  labelled_own l a as_ e = let r = ask_there l asks labels a as_ e in own_label r.0 r.1 l r.2 r.3

-- ---- imports while the collection grows

module _ (asks : List (Ask ℕ)) (labels : List ℕ) where
  import_stays : (d e : Collection) → Grows d e → (as_ : List (Ask ℕ)) (x : Name × ItemKind) → IsImport d as_ x → IsImport e as_ x
  import_stays d e g as_ x h = record {
    stands = g.stand x.1 h.stands;
    outer = h.outer ∙ ap (λ s. Some (x.0, s)) (sym (stated_kept d e g x.1 h.stands));
  }

  pub imports_stay : (d e : Collection) → Grows d e → (each : List ℕ) (imports : List (Name × ItemKind)) → AreImports d asks labels each imports → AreImports e asks labels each imports
  imports_stay d e g each imports h = record {
    outers = h.outers;
    of_labels = h.of_labels;
    are = h.are;
    each_is = λ l x m. import_stays d e g (labelled l asks labels) x (h.each_is l x m);
    distinct = h.distinct;
  }

  pub imports_stand : (d : Collection) (each : List ℕ) (imports : List (Name × ItemKind)) → AreImports d asks labels each imports → ItemsStand d imports
  imports_stand d each imports h x m =
      let o = mapped_among (λ (e : ℕ × (Name × ItemKind)). e.1) h.outers x (subst (Among x) (sym h.are) m) in
      subst (λ (e : Name × ItemKind). Stands d e.1) (sym o.2) (h.each_is o.0.0 o.0.1 o.1).stands

  pub no_imports : (d : Collection) → AreImports d asks labels [] []
  no_imports d = record { outers = []; of_labels = refl; are = refl; each_is = λ l e m. absurd m; distinct = tt }

  -- one more, of a label that has none yet
  module _ (classes : LabelClasses asks labels) (d : Collection) (each : List ℕ) (imports : List (Name × ItemKind)) (h : AreImports d asks labels each imports) (l : ℕ) (new : Among l each → ⊥) (x : Name × ItemKind) (own : IsImport d (labelled l asks labels) x) where
    new_name : Among x.0 (names_of imports) → ⊥
    new_name m =
        let v = mapped_among (λ (e : Name × ItemKind). e.0) imports x.0 m in
        let o = mapped_among (λ (e : ℕ × (Name × ItemKind)). e.1) h.outers v.0 (subst (Among v.0) (sym h.are) v.1) in
        let there : Among (o.0.0, v.0) h.outers = subst (λ (e : Name × ItemKind). Among (o.0.0, e) h.outers) (sym o.2) o.1 in
        let other = (h.each_is o.0.0 v.0 there).outer in
        let same : o.0.0 ≡ l = outers_differ asks labels o.0.0 l x.0 (stated_of d v.0.1) (stated_of d x.1) classes (other ∙ ap (λ n. Some (n, stated_of d v.0.1)) (sym v.2)) own.outer in
        new (subst (λ k. Among k each) same (subst (Among o.0.0) h.of_labels (key_among h.outers o.0 o.1)))
      where
        key_among : (os : List (ℕ × (Name × ItemKind))) (o : ℕ × (Name × ItemKind)) → Among o os → Among o.0 (names_of os)
        key_among [] o m = absurd m
        key_among (y ∷ os) o (inl s) = inl (ap (λ (e : ℕ × (Name × ItemKind)). e.0) s)
        key_among (y ∷ os) o (inr m) = inr (key_among os o m)

    pub one_import_more : AreImports d asks labels (each ++ l ∷ []) (imports ++ x ∷ [])
    one_import_more = record {
      outers = h.outers ++ (l, x) ∷ [];
      of_labels = map-append (λ (e : ℕ × (Name × ItemKind)). e.0) h.outers ((l, x) ∷ []) ∙ ap (λ ls. ls ++ l ∷ []) h.of_labels;
      are = map-append (λ (e : ℕ × (Name × ItemKind)). e.1) h.outers ((l, x) ∷ []) ∙ ap (λ es. es ++ x ∷ []) h.are;
      each_is = λ k e m. elim (among_split (k, e) h.outers ((l, x) ∷ []) m) [
        | inl o ↦ h.each_is k e o
        | inr (inl s) ↦ subst (λ (y : ℕ × (Name × ItemKind)). IsImport d (labelled y.0 asks labels) y.1) (sym s) own
        | inr (inr n) ↦ absurd n
      ];
      distinct = subst AreDistinct (sym (map-append (λ (e : Name × ItemKind). e.0) imports (x ∷ [])))
          (distinct-append (names_of imports) (x.0 ∷ []) h.distinct ((λ m. m), tt) (λ n m k. elim k [ inl s ↦ new_name (subst (λ y. Among y (names_of imports)) s m) | inr f ↦ f ]));
    }

-- ---- the loop

module _ (c : Collection) (held : List HeldAsk) (classes : Classes) (all : List (ℕ × Taken)) where
  -- those so far are imported
  pub record ImportedSoFar (rest : List (ℕ × Taken)) (d : Collection) (imports : List (Name × ItemKind)) : Type 0 where
    pub done : List (ℕ × Taken)
    pub split : done ++ rest ≡ all
    pub grows : Grows c d
    pub imported : AreClassed c held classes → AreTaken c held (asks_in c held) classes.labels.items all → AreImports d (asks_in c held) classes.labels.items (keys_of done) imports

  pub imported_first : (rest : List (ℕ × Taken)) (imports : List (Name × ItemKind)) → rest ≡ all → imports ≡ [] → Grows c c → ImportedSoFar rest c imports
  imported_first rest imports e none g = record {
    done = [];
    split = e;
    grows = g;
    imported = λ a t. subst (AreImports c (asks_in c held) classes.labels.items []) (sym none) (no_imports (asks_in c held) classes.labels.items c);
  }

  module _ (turn rest : List (ℕ × Taken)) (l : ℕ) (one : Taken) (n : Name) (d e : Collection) (old new : List (Name × ItemKind)) (is : turn ≡ (l, one) ∷ rest) (h : ImportedSoFar turn d old) (spells : SpellsClass held classes.labels.items classes.spellings.items l n)
      (adds : AddsImport d one.kept n e old new) (g : Grows d e) where
    abbrev asks : List (Ask ℕ)
    asks = asks_in c held

    abbrev labels : List ℕ
    labels = classes.labels.items

    whole : h.done ++ (l, one) ∷ rest ≡ all
    whole = ap (λ (xs : List (ℕ × Taken)). h.done ++ xs) (sym is) ∙ h.split

    module _ (a : AreClassed c held classes) (t : AreTaken c held asks labels all) where
      new_label : Among l (keys_of h.done) → ⊥
      new_label m =
          distinct-apart l (keys_of h.done) (l ∷ keys_of rest)
          (subst AreDistinct (map-append (λ (x : ℕ × Taken). x.0) h.done ((l, one) ∷ rest)) (subst (λ (xs : List (ℕ × Taken)). AreDistinct (keys_of xs)) (sym whole) (subst AreDistinct (sym t.keys) (distinct_labels [] labels tt)))) m (inl refl)

      own_taken : IsTakenOf c held (labelled l asks labels) one
      own_taken = t.each l one (ap (lookup (λ k. l == k)) (sym whole) ∙ found_behind h.done rest l one new_label)

      spelling : n ≡ spelled (labelled l asks labels)
      spelling =
          let o = labelled_own asks labels a.labels l (ask_in c own_taken.first) own_taken.others own_taken.begins in
          spells c o.ask a.spellings o.own o.there ∙ ap spelled (class_is_labelled asks labels l l o.ask (labels_are_of_classes asks labels a.labels) o.there o.own)

      own_import : IsImport e (labelled l asks labels) (n, adds.item)
      own_import =
          let keeps = taken_stays c d (asked_in (labelled l asks labels)) one.kept.several one.kept.item one.kept.family h.grows own_taken.keeps in
          record {
            stands = adds.stands keeps.stands;
            outer = subst (λ m. IsOuter e (labelled l asks labels) (m, adds.item)) (sym spelling)
                (spelled_is_outer d e (labelled l asks labels) one.kept adds.item keeps (λ as_ k. adds.spells as_ k ∙ ap (λ m. identified m as_ (stated_of d one.kept.item)) spelling));
          }

      put : new ≡ old ++ (n, adds.item) ∷ []
      put = adds.put ∙ put_entry-new old n adds.item (new_name asks labels (labels_are_of_classes asks labels a.labels) e (keys_of h.done) old (imports_stay asks labels d e g (keys_of h.done) old (h.imported a t)) l new_label (n, adds.item) own_import)

      with_one : AreImports e asks labels (keys_of (h.done ++ (l, one) ∷ [])) new
      with_one =
          subst (λ ks. AreImports e asks labels ks new) (sym (map-append (λ (x : ℕ × Taken). x.0) h.done ((l, one) ∷ []))) (subst (AreImports e asks labels (keys_of h.done ++ l ∷ [])) (sym put)
          (one_import_more asks labels (labels_are_of_classes asks labels a.labels) e (keys_of h.done) old (imports_stay asks labels d e g (keys_of h.done) old (h.imported a t)) l new_label (n, adds.item) own_import))

    pub imported_more : ImportedSoFar rest e new
    imported_more = record {
      done = h.done ++ (l, one) ∷ [];
      split = append_assoc h.done ((l, one) ∷ []) rest ∙ whole;
      grows = Grows-trans c d e h.grows g;
      imported = with_one;
    }

  pub imported_all : (rest : List (ℕ × Taken)) (d : Collection) (imports : List (Name × ItemKind)) → rest ≡ [] → ImportedSoFar rest d imports → AddsImports c held classes all d imports
  imported_all rest d imports e h a t =
      let done : h.done ≡ all = sym (append-nil h.done) ∙ ap (λ (xs : List (ℕ × Taken)). h.done ++ xs) (sym e) ∙ h.split in
      subst (λ ks. AreImports d (asks_in c held) classes.labels.items ks imports) (ap keys_of done ∙ t.keys) (h.imported a t)
