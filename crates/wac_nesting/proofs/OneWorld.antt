-- What the world of an output exports follows from its bytes, so there are worlds that are true of all packages.
use Rattle.std.specs.Prelude.{slice_get}
use Rattle.std.proofs.lemmas.Option.{none-some, same_Some}
use Rattle.std.proofs.Common.{◌≡◌, ℕ, zero, suc, List, [], ◌∷◌, ◌++◌, Bool, true, false, cond, true≢false, Option, Some, None, ◌⊎◌, inl, inr, bytes_eq, refl, sym, ap, subst, ◌∙◌}
use Rattle.std.proofs.lemmas.Slice.Eq.{bytes_eq-Decides}
use Rattle.wac_types_base.specs.Entries.{Name}
use Rattle.wac_types_base.specs.Graph.{Among}
use Rattle.wac_types_base.specs.Tree.{Tree, instance, Fields, no_fields, field}
use Rattle.wac_types_base.specs.Fits.{HasField, FieldsFit, instance_fits}
use Rattle.wac_types_base.proofs.Looked.{among-get}
use Rattle.wac_types_fit.specs.Ordered.{InOrder, AllInOrder}
use Rattle.wac_types_fit.specs.Lookups.{lookup}
use Rattle.wac_types_fit.proofs.Looking.{looked-has, has-looked, in_order-at, all_given}
use Rattle.wac_types_fit.proofs.TreeLaws.{Fits-refl, anti}
use Rattle.wac_graph_bytes.specs.Wirings.{Source, Absent, Outer, Inst, Projection, Bundle, Definition, rename, renamed, IsNamed, IsPlain, Tag, OfBytes, OfDependency, Instantiation, Wiring}
use Rattle.wac_graph_bytes.specs.Typing.{Worlds}
use Rattle.wac_graph_bytes.specs.Meaning.{Means}
use Rattle.wac_graph_bytes.proofs.OneWiring.{wiring_is}
use Rattle.wac_graph_bytes.proofs.Earlier.{closed}
use Rattle.wac_nesting.specs.Substitution.{Open}
use Rattle.wac_nesting.specs.Given.{World, HasNone, IsDefinition, HasTree}
use Rattle.wac_nesting.specs.Steps.{Package, handed_in, IsLeaf, Ascribed, IsOfPackage, IsNew, ascribed_down, AreTrue, MeansSame, Composes, Step, Add, Compose, Other, AreSteps, after_all}
use Rattle.wac_nesting.specs.Laws.{AreInOrder, Worlds_exist}
use Rattle.wac_nesting.proofs.Given.{renamed_tree}
use Rattle.wac_nesting.proofs.Listed.{among_left, among_last, among_cases}
use Rattle.wac_nesting.proofs.Carry.{stays}

exports_of : {xs ys : Fields} → instance xs ≡ instance ys → xs ≡ ys
exports_of e = cc

-- an instance of the wiring, of a component whose instances export what this world does
pub record IsOfTag (worlds : Worlds) (W : Wiring ℕ) (k : ℕ) (w : World) : Type 0 where
  pub made : Instantiation ℕ
  pub there : W.at k ≡ Some made
  pub says : worlds made.tag ≡ Some (instance w.exports)

-- the wiring exports something of this tree
abbrev pub ExportsTree : Worlds → Wiring ℕ → Name → Tree → Type 0
ExportsTree worlds W n t = HasTree W.outers (IsOfTag worlds W) (W.exports n) t

-- ---- in one wiring a source has one tree

module _ (worlds : Worlds) (worlds_in_order : (t : Tag) (v : Tree) → worlds t ≡ Some v → InOrder v) (W : Wiring ℕ) (outers_in_order : (n : Name) (t : Tree) → W.outers n ≡ Some t → InOrder t) where
  abbrev Has : Source ℕ → Tree → Type 0
  Has = HasTree W.outers (IsOfTag worlds W)

  no_instance : (d : Tree) (xs : Fields) → d ≡ instance xs → IsDefinition d → ⊥
  no_instance d xs e i = subst IsDefinition e i

  named_in_order : (s : Source ℕ) (xs : Fields) → IsNamed s → Has s (instance xs) → AllInOrder xs
  named_in_order Absent xs p h = absurd p
  named_in_order (Outer n) xs p h = outers_in_order n (instance xs) h
  named_in_order (Inst k) xs p h =
      subst AllInOrder (sym (exports_of h.2)) (worlds_in_order h.1.made.tag (instance h.0.exports) h.1.says)
  named_in_order (Projection s n) xs p h = in_order-at n (instance xs) h.0 (named_in_order s h.0 p h.1) h.2
  named_in_order (Bundle f) xs p h = absurd p
  named_in_order (Definition d) xs p h = absurd (no_instance d xs h.0 h.1)

  field_one : (n : Name) (t u : Tree) (xs : Fields) → AllInOrder xs → HasField n t xs → HasField n u xs → t ≡ u
  field_one n t u xs a f g = same_Some _ _ (sym (has-looked n t xs a f) ∙ has-looked n u xs a g)

  named_one : (s : Source ℕ) (t u : Tree) → IsNamed s → Has s t → Has s u → t ≡ u
  named_one Absent t u p h g = absurd p
  named_one (Outer n) t u p h g = same_Some _ _ (sym h ∙ g)
  named_one (Inst k) t u p h g =
      let same : h.1.made ≡ g.1.made = same_Some _ _ (sym h.1.there ∙ g.1.there) in
      let one : instance h.0.exports ≡ instance g.0.exports = same_Some _ _ (sym h.1.says ∙ ap (λ (x : Instantiation ℕ). worlds x.tag) same ∙ g.1.says) in
      h.2 ∙ one ∙ sym g.2
  named_one (Projection s n) t u p h g =
      let same : h.0 ≡ g.0 = exports_of (named_one s (instance h.0) (instance g.0) p h.1 g.1) in
      field_one n t u h.0 (named_in_order s h.0 p h.1) h.2 (subst (HasField n u) (sym same) g.2)
  named_one (Bundle f) t u p h g = absurd p
  named_one (Definition d) t u p h g = sym h.0 ∙ g.0

  pub plain_one : (s : Source ℕ) (t u : Tree) → IsPlain s → Has s t → Has s u → t ≡ u
  plain_one Absent t u p h g = absurd h
  plain_one (Outer n) t u p h g = named_one (Outer n) t u tt h g
  plain_one (Inst k) t u p h g = named_one (Inst k) t u tt h g
  plain_one (Projection s n) t u p h g = named_one (Projection s n) t u p h g
  plain_one (Bundle f) t u p h g = absurd p
  plain_one (Definition d) t u p h g = named_one (Definition d) t u tt h g

-- ---- two outputs of the same bytes

-- an output that was composed over these packages
pub record IsOutput (worlds : Worlds) (bytes : List ℕ) (world : World) : Type 0 where
  pub packages : List Package
  pub ascribed_one : Ascribed
  pub composed : Composes packages bytes world ascribed_one
  pub true_of : AreTrue packages worlds

module _ (worlds : Worlds) (bytes : List ℕ) (world : World) (o : IsOutput worlds bytes world) where
  pub meaning : MeansSame worlds bytes o.ascribed_one.wiring
  meaning = o.composed.meant worlds o.true_of

  of_tag : (k : ℕ) (w : World) → IsOfPackage o.packages o.ascribed_one k w → IsOfTag worlds meaning.wiring (meaning.same.to k) w
  of_tag k w i =
      let known = o.composed.known k i.instance i.there in
      let same : known.which ≡ i.which = same_Some _ _ (sym known.there ∙ i.stands) in
      let says = o.true_of known.which (among-get o.packages (o.ascribed_one.number k) known.which known.there) in
      record {
        made = renamed meaning.same.to i.instance;
        there = (meaning.same.there k i.instance i.there).1;
        says = ap worlds known.tagged ∙ says ∙ ap (λ (p : Package). Some (instance p.world.exports)) same ∙ ap (λ (v : World). Some (instance v.exports)) i.says;
      }

  -- what its world exports, the wiring that its bytes mean does
  pub world_exports : (n : Name) (t : Tree) → HasField n t world.exports → ExportsTree worlds meaning.wiring n t
  world_exports n t h =
      subst (λ s. HasTree meaning.wiring.outers (IsOfTag worlds meaning.wiring) s t) (meaning.same.exports n)
      (renamed_tree o.ascribed_one.wiring.outers (IsOfPackage o.packages o.ascribed_one) meaning.wiring.outers (IsOfTag worlds meaning.wiring) meaning.same.to meaning.same.outers of_tag (o.ascribed_one.wiring.exports n) t (o.composed.true_world.exports.each n t h))

  -- and nothing else
  pub world_only : (n : Name) → HasNone n world.exports → meaning.wiring.exports n ≡ Absent
  world_only n h = sym (meaning.same.exports n) ∙ ap (rename meaning.same.to) (o.composed.true_world.exports.only n h)

  pub outers_in_order : AllInOrder world.imports → (n : Name) (t : Tree) → meaning.wiring.outers n ≡ Some t → InOrder t
  outers_in_order a n t e = in_order-at n t world.imports a (o.composed.true_world.imports.only n t (meaning.same.outers n ∙ e))

module _ (worlds : Worlds) (worlds_in_order : (t : Tag) (v : Tree) → worlds t ≡ Some v → InOrder v) (bytes : List ℕ) (world other : World) (o : IsOutput worlds bytes world) (p : IsOutput worlds bytes other) (imports_in_order : AllInOrder world.imports) (exports_in_order : AllInOrder other.exports) where
  abbrev here : Wiring ℕ
  here = (meaning worlds bytes world o).wiring

  abbrev there_ : Wiring ℕ
  there_ = (meaning worlds bytes other p).wiring

  wirings : there_ ≡ here
  wirings = wiring_is worlds bytes there_ here (meaning worlds bytes other p).means (meaning worlds bytes world o).means

  -- what the one exports, the other does
  pub also_exported : (n : Name) (t : Tree) → HasField n t world.exports → HasField n t other.exports
  also_exported n t h = go (lookup n other.exports) refl
    where
      has : ExportsTree worlds here n t
      has = world_exports worlds bytes world o n t h

      go : (l : Option Tree) → lookup n other.exports ≡ l → HasField n t other.exports
      go None e =
          let absent = world_only worlds bytes other p n (λ u k. none-some _ (sym e ∙ has-looked n u other.exports exports_in_order k)) in
          absurd (subst (λ s. HasTree here.outers (IsOfTag worlds here) s t) (sym (ap (λ (W : Wiring ℕ). W.exports n) wirings) ∙ absent) has)
      go (Some u) e =
          let f = looked-has n u other.exports e in
          let g = subst (λ (W : Wiring ℕ). ExportsTree worlds W n u) wirings (world_exports worlds bytes other p n u f) in
          let same = plain_one worlds worlds_in_order here (outers_in_order worlds bytes world o imports_in_order) (here.exports n) t u ((closed worlds bytes here (meaning worlds bytes world o).means).exports_plain n) has g in
          subst (λ v. HasField n v other.exports) (sym same) f

pub one_exports : (worlds : Worlds) → ((t : Tag) (v : Tree) → worlds t ≡ Some v → InOrder v) → (bytes : List ℕ) (world other : World) → IsOutput worlds bytes world → IsOutput worlds bytes other → AllInOrder world.imports × AllInOrder world.exports → AllInOrder other.imports × AllInOrder other.exports → world.exports ≡ other.exports
one_exports worlds worlds_in_order bytes world other o p a b =
    let there' = also_exported worlds worlds_in_order bytes world other o p a.0 b.1 in
    let back' = also_exported worlds worlds_in_order bytes other world p o b.0 a.1 in
    exports_of (anti (instance world.exports) (instance other.exports) a.1 b.1
    (instance_fits (all_given world.exports other.exports (λ n u k. (u, back' n u k, Fits-refl u))))
    (instance_fits (all_given other.exports world.exports (λ n u k. (u, there' n u k, Fits-refl u)))))

-- ---- the worlds that packages state

abbrev worlds_of : List Package → Worlds
worlds_of [] t = None
worlds_of (p ∷ ps) (OfBytes b) = cond (bytes_eq p.bytes b) (Some (instance p.world.exports)) (worlds_of ps (OfBytes b))
worlds_of (p ∷ ps) (OfDependency n) = None

-- packages of the same bytes export the same
abbrev Agree : List Package → Type 0
Agree ps = (p q : Package) → Among p ps → Among q ps → p.bytes ≡ q.bytes → p.world.exports ≡ q.world.exports

true_from : (all : List Package) → Agree all → (ps : List Package) → ((p : Package) → Among p ps → Among p all) → AreTrue ps (worlds_of ps)
true_from all a [] sub p m = absurd m
true_from all a (q ∷ ps) sub p m = go (λ k. true_from all a ps (λ r j. sub r (inr j)) p k) (bytes_eq q.bytes p.bytes) refl
  where
    go : (Among p ps → worlds_of ps (OfBytes p.bytes) ≡ Some (instance p.world.exports)) → (b : Bool) → bytes_eq q.bytes p.bytes ≡ b → cond b (Some (instance q.world.exports)) (worlds_of ps (OfBytes p.bytes)) ≡ Some (instance p.world.exports)
    go rest true e = ap (λ xs. Some (instance xs)) (a q p (sub q (inl refl)) (sub p m) ((bytes_eq-Decides q.bytes p.bytes).0 e))
    go rest false e = elim m [
      | inl d ↦ absurd (true≢false (sym ((bytes_eq-Decides q.bytes p.bytes).1 (ap (λ (r : Package). r.bytes) (sym d))) ∙ e))
      | inr k ↦ rest k
    ]

in_order_of : (ps : List Package) → AreInOrder ps → (t : Tag) (v : Tree) → worlds_of ps t ≡ Some v → InOrder v
in_order_of [] a t v e = absurd (none-some _ e)
in_order_of (p ∷ ps) a (OfBytes b) v e = go (λ h. in_order_of ps (λ q m. a q (inr m)) (OfBytes b) v h) (bytes_eq p.bytes b) e
  where
    go : (worlds_of ps (OfBytes b) ≡ Some v → InOrder v) → (c : Bool) → cond c (Some (instance p.world.exports)) (worlds_of ps (OfBytes b)) ≡ Some v → InOrder v
    go rest true e = subst InOrder (same_Some _ _ e) (a p (inl refl)).1
    go rest false e = rest e
in_order_of (p ∷ ps) a (OfDependency n) v e = absurd (none-some _ e)

-- ---- along the steps

-- a package that was composed over some that stand
record WasComposed (ps : List Package) (p : Package) : Type 0 where
  older : List Package
  among : (q : Package) → Among q older → Among q ps
  ascribed_one : Ascribed
  composed : Composes older p.bytes p.world ascribed_one

abbrev Kinds : List Package → Type 0
Kinds ps = (p : Package) → Among p ps → IsLeaf p.ascribed ⊎ WasComposed ps p

more_kinds : (ps : List Package) (q : Package) (p : Package) → IsLeaf p.ascribed ⊎ WasComposed ps p → IsLeaf p.ascribed ⊎ WasComposed (ps ++ q ∷ []) p
more_kinds ps q p (inl l) = inl l
more_kinds ps q p (inr c) = inr (record { older = c.older; among = λ r m. among_left r ps (q ∷ []) (c.among r m); ascribed_one = c.ascribed_one; composed = c.composed })

-- with one more package that agrees with the others
one_agrees : (ps : List Package) (q : Package) → Agree ps → ((p : Package) → Among p ps → p.bytes ≡ q.bytes → p.world.exports ≡ q.world.exports) → Agree (ps ++ q ∷ [])
one_agrees ps q a h p r m n e = elim (among_cases p q ps m) [
  | inl i ↦ elim (among_cases r q ps n) [
    | inl j ↦ a p r i j e
    | inr d ↦ h p i (e ∙ ap (λ (x : Package). x.bytes) d) ∙ ap (λ (x : Package). x.world.exports) (sym d)
  ]
  | inr c ↦ elim (among_cases r q ps n) [
    | inl j ↦ ap (λ (x : Package). x.world.exports) c ∙ sym (h r j (sym e ∙ ap (λ (x : Package). x.bytes) c))
    | inr d ↦ ap (λ (x : Package). x.world.exports) (c ∙ sym d)
  ]
]

-- an output agrees with a package of its bytes
output_agrees : (ps : List Package) (bytes : List ℕ) (world : World) (A : Ascribed) → Agree ps → Kinds ps → AreInOrder ps → AllInOrder world.imports × AllInOrder world.exports → Composes ps bytes world A → (p : Package) → Among p ps → p.bytes ≡ bytes → p.world.exports ≡ world.exports
output_agrees ps bytes world A a kinds in_order own_order c p m e = elim (kinds p m) [
  | inl l ↦ absurd (c.own (p.world, record { which = p; there = m; handed = l; has_bytes = e; has_world = refl }))
  | inr w ↦
      let worlds = worlds_of ps in
      let true_of = true_from ps a ps (λ q k. k) in
      one_exports worlds (in_order_of ps in_order) bytes p.world world
      (record { packages = w.older; ascribed_one = w.ascribed_one; composed = subst (λ b. Composes w.older b p.world w.ascribed_one) e w.composed; true_of = λ q k. true_of q (w.among q k) })
      (record { packages = ps; ascribed_one = A; composed = c; true_of = true_of })
      (in_order p m) own_order
]

agree_along : (ps : List Package) (steps : List Step) → AreSteps ps steps → AreInOrder (after_all ps steps) → Agree ps → Kinds ps → Agree (after_all ps steps)
agree_along ps [] are o a kinds = a
agree_along ps (Add bytes world ∷ steps) are o a kinds =
    let q = handed_in bytes world in
    let more = ps ++ q ∷ [] in
    agree_along more steps are.1 o (one_agrees ps q a (λ p m e. absurd (are.0 p m e)))
    (λ p m. elim (among_cases p q ps m) [ inl i ↦ more_kinds ps q p (kinds p i) | inr e ↦ inl (subst (λ (x : Package). IsLeaf x.ascribed) (sym e) tt) ])
agree_along ps (Compose bytes world A ∷ steps) are o a kinds =
    let q : Package = record { bytes = bytes; world = world; ascribed = Open (ascribed_down ps A) } in
    let more = ps ++ q ∷ [] in
    let in_order : AreInOrder ps = λ p m. o p (stays more steps p (among_left p ps (q ∷ []) m)) in
    agree_along more steps are.1 o
    (one_agrees ps q a (output_agrees ps bytes world A a kinds in_order (o q (stays more steps q (among_last q ps))) are.0))
    (λ p m. elim (among_cases p q ps m) [
      | inl i ↦ more_kinds ps q p (kinds p i)
      | inr e ↦ inr (subst (WasComposed more) (sym e) (record { older = ps; among = λ r k. among_left r ps (q ∷ []) k; ascribed_one = A; composed = are.0 }))
    ])
agree_along ps (Other ∷ steps) are o a kinds = agree_along ps steps are.1 o a kinds

pub worlds_exist : Worlds_exist
worlds_exist steps are o =
    let final = after_all [] steps in
    let agree = agree_along [] steps are o (λ p q m n e. absurd m) (λ p m. absurd m) in
    (worlds_of final, true_from final agree final (λ p m. m))
