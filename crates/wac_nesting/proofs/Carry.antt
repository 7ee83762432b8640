-- Every output of every list of steps is what its source ascribes.
use Rattle.std.specs.Prelude.{slice_get}
use Rattle.std.proofs.lemmas.Option.{same_Some}
use Rattle.std.proofs.Common.{◌≡◌, ℕ, List, [], ◌∷◌, ◌++◌, Option, Some, None, ◌⊎◌, inl, inr, refl, sym, ap, subst, ◌∙◌}
use Rattle.wac_types_base.specs.Entries.{Name}
use Rattle.wac_types_base.specs.Graph.{Among}
use Rattle.wac_graph_bytes.specs.Wirings.{Source, rename, renamed, Tag, OfBytes, Instantiation, Wiring, Same}
use Rattle.wac_graph_bytes.specs.Typing.{Worlds}
use Rattle.wac_graph_bytes.proofs.Earlier.{ordered}
use Rattle.wac_nesting.specs.Substitution.{Path, Part, Nothing, Leaf, Open}
use Rattle.wac_nesting.specs.Reading.{Reads, dependency, handed, nested}
use Rattle.wac_nesting.specs.Given.{World, Provides, AreOuters, IsBoundInstance, IsBound}
use Rattle.wac_nesting.specs.Steps.{Package, handed_in, IsLeaf, IsHandedWith, IsHanded, Ascribed, ascribed_down, AreTrue, Composes, Step, Add, Compose, Other, IsNew, after, AreSteps, after_all}
use Rattle.wac_nesting.specs.Laws.{IsOfHanded, IsReading, IsAsAscribed, Steps_carry}
use Rattle.wac_nesting.proofs.Carried.{Related}
use Rattle.wac_nesting.proofs.Given.{renamed_provides}
use Rattle.wac_nesting.proofs.Listed.{among_left, among_last, among_cases, number_of, one_more}
use Rattle.wac_nesting.proofs.Found.{ReadsTo, ReadsPackage, read_wiring, output_down, output_same}
use Rattle.wac_nesting.proofs.Good.{IsGood, Good, GoodAt, output_good}

-- ---- what stands stays

after_more : (packages : List Package) (s : Step) (p : Package) → Among p packages → Among p (after packages s)
after_more packages (Add bytes world) p m = among_left p packages (handed_in bytes world ∷ []) m
after_more packages (Compose bytes world A) p m = among_left p packages (record { bytes = bytes; world = world; ascribed = Open (ascribed_down packages A) } ∷ []) m
after_more packages Other p m = m

pub stays : (packages : List Package) (steps : List Step) (p : Package) → Among p packages → Among p (after_all packages steps)
stays packages [] p m = m
stays packages (s ∷ steps) p m = stays (after packages s) steps p (after_more packages s p m)

-- ---- bytes of an output are never handed in

handed_before : (packages : List Package) (q : Package) (bytes : List ℕ) → IsHanded (packages ++ q ∷ []) bytes → IsHanded packages bytes ⊎ (IsHandedWith (q ∷ []) bytes q.world)
handed_before packages q bytes h = elim (among_cases h.1.which q packages h.1.there) [
  | inl m ↦ inl (h.0, record { which = h.1.which; there = m; handed = h.1.handed; has_bytes = h.1.has_bytes; has_world = h.1.has_world })
  | inr e ↦ inr (record { which = h.1.which; there = inl e; handed = h.1.handed; has_bytes = h.1.has_bytes; has_world = ap (λ (p : Package). p.world) e })
]

-- the only package of a list of one
only_one : (p q : Package) → Among p (q ∷ []) → p ≡ q
only_one p q (inl e) = e
only_one p q (inr m) = absurd m

not_added : (packages : List Package) (p : Package) (b bytes : List ℕ) (w : World) → Among p packages → p.bytes ≡ bytes → IsNew packages b → IsHandedWith (handed_in b w ∷ []) bytes w → ⊥
not_added packages p b bytes w m e new h =
    new p m (e ∙ sym h.has_bytes ∙ ap (λ (q : Package). q.bytes) (only_one h.which (handed_in b w) h.there))

not_composed : (q : Package) (V : _) (bytes : List ℕ) → q.ascribed ≡ Open V → IsHandedWith (q ∷ []) bytes q.world → ⊥
not_composed q V bytes e h =
    let same : h.which.ascribed ≡ Open V = ap (λ (p : Package). p.ascribed) (only_one h.which q h.there) ∙ e in
    is_open h.which.ascribed same h.handed
  where
    is_open : (s : Part) → s ≡ Open V → IsLeaf s → ⊥
    is_open Nothing e l = l
    is_open (Leaf t) e l = absurd (let c : ⊥ = cc e in c)
    is_open (Open W) e l = l

stays_own : (packages : List Package) (steps : List Step) (p : Package) → AreSteps packages steps → Among p packages → (IsHanded packages p.bytes → ⊥) → IsHanded (after_all packages steps) p.bytes → ⊥
stays_own packages [] p are m own h = own h
stays_own packages (Add b w ∷ steps) p are m own h =
    stays_own (packages ++ handed_in b w ∷ []) steps p are.1 (among_left p packages (handed_in b w ∷ []) m) (λ g. elim (handed_before packages (handed_in b w) p.bytes g) [ inl i ↦ own i | inr i ↦ not_added packages p b p.bytes w m refl are.0 i ]) h
stays_own packages (Compose b w A ∷ steps) p are m own h =
    let q : Package = record { bytes = b; world = w; ascribed = Open (ascribed_down packages A) } in
    stays_own (packages ++ q ∷ []) steps p are.1 (among_left p packages (q ∷ []) m) (λ g. elim (handed_before packages q p.bytes g) [ inl i ↦ own i | inr i ↦ not_composed q (ascribed_down packages A) p.bytes refl i ]) h
stays_own packages (Other ∷ steps) p are m own h = stays_own packages steps p are.1 m own h

-- ---- from what is ascribed to what is read

module _ (worlds : Worlds) (final : List Package) where
  module _ (world : World) (V D : Wiring Path) (r : Same V D) (g : IsGood final world V) where
    of_handed : (p : Path) (w : World) → IsOfHanded final V p w → IsOfHanded final D (r.to p) w
    of_handed p w h = record { instance = renamed r.to h.instance; there = (r.there p h.instance h.there).1; bytes = h.bytes; tagged = h.tagged; handed = h.handed }

    reading_bound : IsBound (IsOfHanded final D) D
    reading_bound j y e =
        let b = r.back j y e in
        let is : renamed r.to b.0 ≡ y = same_Some _ _ (sym (r.there (r.from j) b.0 b.1).1 ∙ ap D.at b.2 ∙ e) in
        let x = g.bound (r.from j) b.0 b.1 in
        let moved : IsBoundInstance (IsOfHanded final D) D (r.to (r.from j)) (renamed r.to b.0) = record {
          world = x.world;
          is = of_handed (r.from j) x.world x.is;
          bound = renamed_provides V.outers (IsOfHanded final V) D.outers (IsOfHanded final D) r.to r.outers of_handed b.0.args x.world.imports x.bound;
        } in
        subst (λ i. IsBoundInstance (IsOfHanded final D) D i y) b.2 (subst (IsBoundInstance (IsOfHanded final D) D (r.to (r.from j))) is moved)

    reading_imports : AreOuters D.outers world.imports
    reading_imports = record {
      each = λ n t h. sym (r.outers n) ∙ g.outers.each n t h;
      only = λ n t e. g.outers.only n t (r.outers n ∙ e);
    }

    reading_exports : Provides D.outers (IsOfHanded final D) D.exports world.exports
    reading_exports =
        let all : ◌≡◌ {A = Name → Source Path} (λ n. rename r.to (V.exports n)) D.exports = λ i n. r.exports n i in
        subst (λ (f : Name → Source Path). Provides D.outers (IsOfHanded final D) f world.exports) all (renamed_provides V.outers (IsOfHanded final V) D.outers (IsOfHanded final D) r.to r.outers of_handed V.exports world.exports g.exports)

  not_handed : (bytes : List ℕ) (t : Tag) (s : Part) (D : Wiring Path) → t ≡ OfBytes bytes → s ≡ Open D → Reads worlds (IsHanded final) t s → IsHanded final bytes → ⊥
  not_handed bytes t s D e o dependency h = cc o
  not_handed bytes t s D e o (handed g) h = cc o
  not_handed bytes t s D e o (nested {bytes = b} W parts own m each is) h = own (subst (IsHanded final) (same e) h)
    where
      same : OfBytes b ≡ OfBytes bytes → bytes ≡ b
      same e = cc

  as_ascribed : (p : Package) (s : Part) → ReadsTo worlds (IsHanded final) s p.bytes → Good final p s → IsAsAscribed worlds final p s
  as_ascribed p Nothing r g = absurd g
  as_ascribed p (Leaf t) r g = g
  as_ascribed p (Open V) r g = go r.part r.reads r.related
    where
      go : (s : Part) → Reads worlds (IsHanded final) (OfBytes p.bytes) s → Related (Open V) s → IsAsAscribed worlds final p (Open V)
      go Nothing reads related = absurd related
      go (Leaf t) reads related = absurd related
      go (Open D) reads related = (
        not_handed p.bytes (OfBytes p.bytes) (Open D) D refl refl reads,
        record {
          reading = D;
          down = reads;
          same = related;
          bound = reading_bound p.world V D related g;
          imports = reading_imports p.world V D related g;
          exports = reading_exports p.world V D related g;
        },
      )

  -- ---- along the steps

  abbrev AllRead : List Package → Type 0
  AllRead packages = (i : ℕ) → ReadsPackage worlds (IsHanded final) (slice_get packages i)

  abbrev AllGood : List Package → Type 0
  AllGood packages = (i : ℕ) → GoodAt final (slice_get packages i)

  handed_there : (bytes : List ℕ) (world : World) → Among (handed_in bytes world) final → IsHandedWith final bytes world
  handed_there bytes world m = record { which = handed_in bytes world; there = m; handed = tt; has_bytes = refl; has_world = refl }

  -- a new output
  output_read : (packages : List Package) (bytes : List ℕ) (world : World) (A : Ascribed) → Composes packages bytes world A → AreTrue packages worlds → (IsHanded final bytes → ⊥) → AllRead packages → ReadsTo worlds (IsHanded final) (Open (ascribed_down packages A)) bytes
  output_read packages bytes world A c true_of own read =
      let m = c.meant worlds true_of in
      let in_order' = ordered worlds bytes m.wiring m.means in
      record {
        part = Open (read_wiring worlds (IsHanded final) packages A c.known c.ordered read m.wiring m.same in_order');
        reads = output_down worlds (IsHanded final) packages A c.known c.ordered read m.wiring m.same in_order' bytes own m.means;
        related = output_same worlds (IsHanded final) packages A c.known c.ordered read m.wiring m.same in_order';
        solid = tt;
      }

  along : (packages : List Package) (steps : List Step) → AreSteps packages steps → after_all packages steps ≡ final → AreTrue final worlds → AllRead packages → AllGood packages → AllRead final × AllGood final
  along packages [] are is true_of read good = (subst AllRead is read, subst AllGood is good)
  along packages (Add bytes world ∷ steps) are is true_of read good =
      let q = handed_in bytes world in
      let there : Among q final = subst (Among q) is (stays (packages ++ q ∷ []) steps q (among_last q packages)) in
      let h = handed_there bytes world there in
      along (packages ++ q ∷ []) steps are.1 is true_of
      (one_more (ReadsPackage worlds (IsHanded final)) packages q read (record { part = Leaf (OfBytes bytes); reads = handed (world, h); related = refl; solid = tt }))
      (one_more (GoodAt final) packages q good (refl, h))
  along packages (Compose bytes world A ∷ steps) are is true_of read good =
      let q : Package = record { bytes = bytes; world = world; ascribed = Open (ascribed_down packages A) } in
      let more = packages ++ q ∷ [] in
      let true_now : AreTrue packages worlds = λ p m. true_of p (subst (Among p) is (stays more steps p (among_left p packages (q ∷ []) m))) in
      let own : IsHanded final bytes → ⊥ = λ h. stays_own more steps q are.1 (among_last q packages) (λ g. elim (handed_before packages q bytes g) [ inl i ↦ are.0.own i | inr i ↦ not_composed q (ascribed_down packages A) bytes refl i ]) (subst (λ ps. IsHanded ps bytes) (sym is) h) in
      along more steps are.1 is true_of
      (one_more (ReadsPackage worlds (IsHanded final)) packages q read (output_read packages bytes world A are.0 true_now own read))
      (one_more (GoodAt final) packages q good (output_good final packages good A are.0.known are.0.ordered are.0.bound world are.0.true_world))
  along packages (Other ∷ steps) are is true_of read good = along packages steps are.1 is true_of read good

  package_read : (o : Option Package) (p : Package) → o ≡ Some p → ReadsPackage worlds (IsHanded final) o → GoodAt final o → IsAsAscribed worlds final p p.ascribed
  package_read None p e r g = absurd (cc e)
  package_read (Some q) p e r g = subst (λ (x : Package). IsAsAscribed worlds final x x.ascribed) (same_Some _ _ e) (as_ascribed q q.ascribed r g)

pub carries : Steps_carry
carries steps are worlds true_of p m =
    let final = after_all [] steps in
    let all = along worlds final [] steps are refl true_of (λ i. tt) (λ i. tt) in
    let at = number_of p final m in
    package_read worlds final (slice_get final at.0) p at.1 (all.0 at.0) (all.1 at.0)
