-- Where the askers of a graph's nodes stand in the document.
use Rattle.std.specs.Prelude.{◌==◌, cond}
use Rattle.std.proofs.lemmas.Option.{same_Some, none-some}
use Rattle.std.proofs.Common.{◌≡◌, ℕ, List, [], ◌∷◌, Bool, true, false, Option, Some, None, IsSome, refl, sym, ap, subst, ◌∙◌, inl, inr}
use Rattle.wac_types_base.specs.Collection.{IsAcyclic}
use Rattle.wac_types_base.specs.Entries.{AreDistinct, names_of}
use Rattle.wac_types_base.specs.Graph.{Among}
use Rattle.wac_types_base.proofs.Replacing.{same_number, number_same}
use Rattle.wac_types_names.specs.Packaged.{Packaged}
use Rattle.wac_types_names.specs.Keys.{Key, package_key}
use Rattle.wac_graph_core.specs.Graph.{Graph, IsGraph, instantiated}
use Rattle.wac_parser_tree.specs.Trees.{Span}
use Rattle.wac_parser_declare.specs.Packages.{Content}
use Rattle.wac_parser_resolve.specs.Ascribed.{asker_key, span_or_none}
use Rattle.wac_parser_resolve.specs.Ascribing.{Import, Made, State}
use Rattle.std.specs.Option.{option_or}
use Rattle.wac_parser_resolve.specs.Holding.{InTurn, IsMade}
use Rattle.wac_parser_resolve.specs.InDocuments.{IsBuilt}
use Rattle.wac_parser_resolve.specs.Resolved.{Places, import_place, asker_place}
use Rattle.wac_parser_resolve.specs.Said.{IsAsked, last_noted}
use Rattle.wac_parser_resolve.proofs.Sound.{Sound}
use Rattle.wac_parser_resolve.proofs.Turns.{turn_back}
use Rattle.wac_parser_resolve.proofs.Importing.{last_none}
use Rattle.wac_parser_ascribed.specs.Tied.{asker_by, IsPlaced, partner}
use Rattle.wac_parser_ascribed.proofs.Places.{beside_none, turn_beside, turn_named}
use Rattle.wac_parser_ascribed.proofs.Tied.{asker, instance_no_import, ks, ks_apart, ms, ms_apart}

-- ---- what is noted of a node

name_there : (es : List (ℕ × Span)) (e : ℕ × Span) → Among e es → Among e.0 (names_of es)
name_there [] e m = absurd m
name_there (x ∷ es) e (inl q) = inl (ap (λ (y : ℕ × Span). y.0) q)
name_there (x ∷ es) e (inr m) = inr (name_there es e m)

noted_is : (es : List (ℕ × Span)) (e : ℕ × Span) → AreDistinct (names_of es) → Among e es → last_noted es e.0 ≡ Some e.1
noted_is [] e d m = absurd m
noted_is (x ∷ es) e d (inl q) =
    ap (λ o. option_or o (cond (x.0 == e.0) (Some x.1) None)) (last_none es e.0 (λ m. d.0 (subst (λ k. Among k (names_of es)) (ap (λ (y : ℕ × Span). y.0) q) m)))
    ∙ ap (λ b. cond b (Some x.1) None) (number_same x.0 e.0 (ap (λ (y : ℕ × Span). y.0) (sym q))) ∙ ap (λ (y : ℕ × Span). Some y.1) (sym q)
noted_is (x ∷ es) e d (inr m) = ap (λ o. option_or o (cond (x.0 == e.0) (Some x.1) None)) (noted_is es e d.1 m)

-- what stands partner a node that is noted
noted_beside : {A : Type 0} (R : A → ℕ × Span → Type 0) (xs : List A) (es : List (ℕ × Span)) (k : ℕ) (x : A) → InTurn R xs es → partner (names_of es) xs k ≡ Some x
    → (e : ℕ × Span) × Among e es × (e.0 ≡ k) × R x e
noted_beside R xs [] k x t q = absurd (none-some _ q)
noted_beside R [] (e ∷ es) k x t q = absurd t
noted_beside {A} R (y ∷ xs) (e ∷ es) k x t q = by (e.0 == k) refl q (noted_beside R xs es k x t.1)
  where
    by : (b : Bool) → (e.0 == k) ≡ b → cond b (Some y) (partner (names_of es) xs k) ≡ Some x → (partner (names_of es) xs k ≡ Some x → (f : ℕ × Span) × Among f es × (f.0 ≡ k) × R x f)
        → (f : ℕ × Span) × Among f (e ∷ es) × (f.0 ≡ k) × R x f
    by true s q rest = (e, inl refl, same_number e.0 k s, subst (λ (z : A). R z e) (same_Some _ _ q) t.0)
    by false s q rest = let r = rest q in (r.0, inr r.1, r.2, r.3)

module _ (g : Graph) (sound : IsGraph g) (acyclic : IsAcyclic g.types) {places : Places} (s : State) (b : IsBuilt g places s) (ps : List (Key × Content)) (said : Sound ps s) where
  abbrev imports : List ℕ
  imports = ks g sound acyclic s b ps said

  abbrev instances : List ℕ
  instances = ms g sound acyclic s b ps said

  apart : (k : ℕ) → Among k instances → Among k imports → ⊥
  apart k m n = instance_no_import g sound acyclic s b ps said k m n

  -- ---- places

  of_import : (k : ℕ) (i : Import) → partner imports s.imports k ≡ Some i → (import_place places k ≡ i.span) × (asker_place places k ≡ i.id_span)
  of_import k i q =
      let n = noted_beside (IsAsked g places.ids) s.imports places.imports k i b.imports.are q in
      let here : last_noted places.imports k ≡ Some i.span = ap (last_noted places.imports) (sym n.2) ∙ noted_is places.imports n.0 (ks_apart g sound acyclic s b ps said) n.1 ∙ ap Some n.3.span in
      let id : last_noted places.ids k ≡ Some i.id_span = ap (last_noted places.ids) (sym n.2) ∙ n.3.id in
      let other : last_noted places.instances k ≡ None = last_none places.instances k (λ m. apart k m (subst (λ j. Among j imports) n.2 (name_there places.imports n.0 n.1))) in
      (ap span_or_none here, λ j. span_or_none (option_or (other j) (id j)))

  of_instance : (k : ℕ) (m : Made) → partner instances s.made k ≡ Some m → asker_place places k ≡ m.span
  of_instance k m q =
      let n = noted_beside (IsMade g instances) s.made places.instances k m b.says.made q in
      let here : last_noted places.instances k ≡ Some m.span = ap (last_noted places.instances) (sym n.2) ∙ noted_is places.instances n.0 (ms_apart g sound acyclic s b ps said) n.1 ∙ ap Some n.3.span in
      ap (λ o. span_or_none (option_or o (last_noted places.ids k))) here

  pub placed : (k : ℕ) → IsPlaced places k (asker g sound acyclic s b ps said k)
  placed k = by (partner imports s.imports k) (partner instances s.made k) refl refl
    where
      by : (o : Option Import) (p : Option Made) → partner imports s.imports k ≡ o → partner instances s.made k ≡ p → IsPlaced places k (asker_by o p)
      by (Some i) p q r = of_import k i q
      by None (Some m) q r = of_instance k m r
      by None None q r = tt

  -- ---- keys

  pub keys : (k : ℕ) (p : Packaged) → instantiated g k ≡ Some p → asker_key (asker g sound acyclic s b ps said k) ≡ package_key p
  keys k p e =
      let there = b.says.all k (subst IsSome (sym e) refl) in
      let t = turn_beside (λ m j. (x : ℕ × Span) × (x.0 ≡ j) × IsMade g instances m x) s.made instances (ms_apart g sound acyclic s b ps said) (turn_named (IsMade g instances) s.made places.instances b.says.made) in
      let m = turn_back (λ m j. ((x : ℕ × Span) × (x.0 ≡ j) × IsMade g instances m x) × (partner instances s.made j ≡ Some m)) s.made instances k t there in
      let a = m.2.0.2 in
      let none : partner imports s.imports k ≡ None = beside_none imports s.imports k (λ n. apart k there n) in
      let of : a.of ≡ p = same_Some _ _ (sym a.is ∙ ap (instantiated g) m.2.0.1 ∙ e) in
      (λ j. asker_key (asker_by (none j) (m.2.1 j))) ∙ sym a.key ∙ ap package_key of
