-- Nodes that are put, written and taken away.
use Rattle.std.proofs.Common.{◌≡◌, ◌≢◌, ◌⊎◌, ℕ, Bool, true, false, not, List, Option, Some, None, IsSome, cond, refl, sym, ap, subst, ◌∙◌, inl, inr}
use Rattle.std.proofs.lemmas.Bool.{cases_eq}
use Rattle.std.specs.FinMap as map
use Rattle.std.specs.FinMap.{nat_cmp-IsAntisymmetric}
use Rattle.wac_types_base.specs.declared.item.ItemKind.{ItemKind}
use Rattle.wac_types_base.specs.Entries.{Name}
use Rattle.wac_graph_core.specs.Nodes.{NodeData, Role}
use Rattle.wac_graph_core.specs.NodeMaps.{NodeMap, IsImport, NoImport, IsDefinition, NoDefinition, AreOnce}
use Rattle.wac_graph_core.specs.Edges.{has}
use Rattle.wac_graph_core.proofs.NodeMap.{get-insert_same, get-insert_other}

-- what was there is there still
pub kept_at : (m : NodeMap) (k : ℕ) (n : NodeData) (j : ℕ) (x : NodeData) → map.get m k ≡ None → map.get m j ≡ Some x → map.get (map.insert m k n) j ≡ Some x
kept_at m k n j x free at = get-insert_other m k n j (λ e. absurd (cc (free, at, ap (map.get m) e))) ∙ at

-- what is there now is new, or was there
pub new_at : (m : NodeMap) (k : ℕ) (n : NodeData) (j : ℕ) (x : NodeData) → map.get (map.insert m k n) j ≡ Some x → ((j ≡ k) × (n ≡ x)) ⊎ ((j ≢ k) × (map.get m j ≡ Some x))
new_at m k n j x at = elim (cases_eq j k) [
  | inl e ↦
      let same : Some n ≡ Some x = sym (ap (map.get (map.insert m k n)) e ∙ get-insert_same m k n) ∙ at in
      let node : n ≡ x = cc in
      inl (e, node)
  | inr ne ↦ inr (ne, sym (get-insert_other m k n j ne) ∙ at)
]

pub each_node : (P : NodeData → Type 0) (m : NodeMap) (k : ℕ) (n : NodeData) → P n → ((j : ℕ) (x : NodeData) → map.get m j ≡ Some x → P x) → (j : ℕ) (x : NodeData) → map.get (map.insert m k n) j ≡ Some x → P x
each_node P m k n fresh old j x at = elim (new_at m k n j x at) [ inl p ↦ subst P p.1 fresh | inr q ↦ old j x q.1 ]

module _ {X : Type 0} (R : NodeData → X → Type 0) (m : NodeMap) (k : ℕ) (n : NodeData) where
  both_at : (none : (x : X) → R n x → (j : ℕ) (y : NodeData) → map.get m j ≡ Some y → R y x → ⊥) → ((i j : ℕ) (a b : NodeData) (x : X) → map.get m i ≡ Some a → map.get m j ≡ Some b → R a x → R b x → i ≡ j)
      → (i j : ℕ) (a b : NodeData) (x : X) → R a x → R b x → ((i ≡ k) × (n ≡ a)) ⊎ ((i ≢ k) × (map.get m i ≡ Some a)) → ((j ≡ k) × (n ≡ b)) ⊎ ((j ≢ k) × (map.get m j ≡ Some b)) → i ≡ j
  both_at none old i j a b x ra rb (inl p) (inl q) = p.0 ∙ sym q.0
  both_at none old i j a b x ra rb (inl p) (inr q) = absurd (none x (subst (λ a. R a x) (sym p.1) ra) j b q.1 rb)
  both_at none old i j a b x ra rb (inr p) (inl q) = absurd (none x (subst (λ b. R b x) (sym q.1) rb) i a p.1 ra)
  both_at none old i j a b x ra rb (inr p) (inr q) = old i j a b x p.1 q.1 ra rb

  -- what stands once stands once
  pub once_more : ((x : X) → R n x → (j : ℕ) (y : NodeData) → map.get m j ≡ Some y → R y x → ⊥) → ((i j : ℕ) (a b : NodeData) (x : X) → map.get m i ≡ Some a → map.get m j ≡ Some b → R a x → R b x → i ≡ j)
      → (i j : ℕ) (a b : NodeData) (x : X) → map.get (map.insert m k n) i ≡ Some a → map.get (map.insert m k n) j ≡ Some b → R a x → R b x → i ≡ j
  once_more none old i j a b x at bt ra rb = both_at none old i j a b x ra rb (new_at m k n i a at) (new_at m k n j b bt)

pub AreOnce-insert : (m : NodeMap) (k : ℕ) (n : NodeData) → ((x : Name) → n.role ≡ Role.Imported x → NoImport m x) → (n.role ≡ Role.Defined → NoDefinition m n.item_kind) → AreOnce m → AreOnce (map.insert m k n)
AreOnce-insert m k n no_import no_definition is =
    record {
      imports = λ i j x a b.
          once_more (λ (y : NodeData) (x : Name). y.role ≡ Role.Imported x) m k n
          (λ x r j y at ry. no_import x r j (record { node = y; there = at; role = ry }))
          (λ i j a b x at bt ra rb. is.imports i j x (record { node = a; there = at; role = ra }) (record { node = b; there = bt; role = rb }))
          i j a.node b.node x a.there b.there a.role b.role;
      definitions = λ i j x a b.
          once_more (λ (y : NodeData) (x : ItemKind). (y.role ≡ Role.Defined) × (y.item_kind ≡ x)) m k n
          (λ x r j y at ry. no_definition r.0 j (record { node = y; there = at; role = ry.0; type = ry.1 ∙ sym r.1 }))
          (λ i j a b x at bt ra rb. is.definitions i j x (record { node = a; there = at; role = ra.0; type = ra.1 }) (record { node = b; there = bt; role = rb.0; type = rb.1 }))
          i j a.node b.node x a.there b.there (a.role, a.type) (b.role, b.type);
    }

-- the same but for names
pub record SameBut (m : NodeMap) (k : ℕ) (x : NodeData) : Type 0 where
  pub node : NodeData
  pub there : map.get m k ≡ Some node
  pub role : node.role ≡ x.role
  pub of : node.of ≡ x.of
  pub item : node.item_kind ≡ x.item_kind

-- each node of the second was in the first, but for its names
abbrev pub IsBelow : NodeMap → NodeMap → Type 0
IsBelow m l = (k : ℕ) (x : NodeData) → map.get l k ≡ Some x → SameBut m k x

pub AreOnce-below : (m l : NodeMap) → IsBelow m l → AreOnce m → AreOnce l
AreOnce-below m l below is =
    record {
      imports = λ i j x a b. is.imports i j x (import_in i x a) (import_in j x b);
      definitions = λ i j x a b. is.definitions i j x (definition_in i x a) (definition_in j x b);
    }
  where
    import_in : (k : ℕ) (x : Name) → IsImport l k x → IsImport m k x
    import_in k x a = let s = below k a.node a.there in record { node = s.node; there = s.there; role = s.role ∙ a.role }

    definition_in : (k : ℕ) (x : ItemKind) → IsDefinition l k x → IsDefinition m k x
    definition_in k x a = let s = below k a.node a.there in record { node = s.node; there = s.there; role = s.role ∙ a.role; type = s.item ∙ a.type }

-- a node is written with other names
pub IsBelow-written : (m : NodeMap) (k : ℕ) (n o : NodeData) → map.get m k ≡ Some o → o.role ≡ n.role → o.of ≡ n.of → o.item_kind ≡ n.item_kind → IsBelow m (map.insert m k n)
IsBelow-written m k n o at role of item j x here = elim (new_at m k n j x here) [
  | inl p ↦ record {
    node = o;
    there = ap (map.get m) p.0 ∙ at;
    role = role ∙ ap (λ (y : NodeData). y.role) p.1;
    of = of ∙ ap (λ (y : NodeData). y.of) p.1;
    item = item ∙ ap (λ (y : NodeData). y.item_kind) p.1;
  }
  | inr q ↦ record { node = x; there = q.1; role = refl; of = refl; item = refl }
]

-- and each of the first is in the second
abbrev pub IsAbove : NodeMap → NodeMap → Type 0
IsAbove m l = (k : ℕ) (x : NodeData) → map.get m k ≡ Some x → SameBut l k x

pub IsAbove-written : (m : NodeMap) (k : ℕ) (n o : NodeData) → map.get m k ≡ Some o → o.role ≡ n.role → o.of ≡ n.of → o.item_kind ≡ n.item_kind → IsAbove m (map.insert m k n)
IsAbove-written m k n o at role of item j x there = elim (cases_eq j k) [
  | inl e ↦
      let same : Some o ≡ Some x = sym at ∙ ap (map.get m) (sym e) ∙ there in
      let node : o ≡ x = cc in
      record {
        node = n;
        there = ap (map.get (map.insert m k n)) e ∙ get-insert_same m k n;
        role = sym role ∙ ap (λ (y : NodeData). y.role) node;
        of = sym of ∙ ap (λ (y : NodeData). y.of) node;
        item = sym item ∙ ap (λ (y : NodeData). y.item_kind) node;
      }
  | inr ne ↦ record { node = x; there = get-insert_other m k n j ne ∙ there; role = refl; of = refl; item = refl }
]

pub IsAbove-fresh : (m : NodeMap) (k : ℕ) (n : NodeData) → map.get m k ≡ None → IsAbove m (map.insert m k n)
IsAbove-fresh m k n free j x there = record { node = x; there = kept_at m k n j x free there; role = refl; of = refl; item = refl }

pub IsAbove-same : (m : NodeMap) → IsAbove m m
IsAbove-same m k x there = record { node = x; there = there; role = refl; of = refl; item = refl }

pub some_there : (m l : NodeMap) (k : ℕ) → IsAbove m l → IsSome (map.get m k) → IsSome (map.get l k)
some_there m l k above there = by_node (map.get m k) refl there
  where
    by_node : (o : Option NodeData) → map.get m k ≡ o → IsSome o → IsSome (map.get l k)
    by_node None e h = absurd (cc (h))
    by_node (Some x) e h = subst IsSome (sym (above k x e).there) refl

-- ---- removal

pub get-retained : (m : NodeMap) (p : ℕ → Bool) (k : ℕ) → map.get (map.retain_keys m p) k ≡ cond (p k) (map.get m k) None
get-retained m p k = map.get-retain_keys m p k (λ x tie. ap p (sym (nat_cmp-IsAntisymmetric k x tie)))

abbrev pub staying : NodeMap → List ℕ → NodeMap
staying m gone = map.retain_keys m (λ k. not (has gone k))

pub stays_at : (m : NodeMap) (gone : List ℕ) (k : ℕ) → has gone k ≡ false → map.get (staying m gone) k ≡ map.get m k
stays_at m gone k out = get-retained m (λ k. not (has gone k)) k ∙ ap (λ b. cond (not b) (map.get m k) None) out

kept_node : (b : Bool) (o : Option NodeData) (x : NodeData) → cond (not b) o None ≡ Some x → (b ≡ false) × (o ≡ Some x)
kept_node true o x h = absurd (cc)
kept_node false o x h = (refl, h)

pub stayed : (m : NodeMap) (gone : List ℕ) (k : ℕ) (x : NodeData) → map.get (staying m gone) k ≡ Some x → (has gone k ≡ false) × (map.get m k ≡ Some x)
stayed m gone k x at = kept_node (has gone k) (map.get m k) x (sym (get-retained m (λ k. not (has gone k)) k) ∙ at)

pub IsBelow-staying : (m : NodeMap) (gone : List ℕ) → IsBelow m (staying m gone)
IsBelow-staying m gone k x at = record { node = x; there = (stayed m gone k x at).1; role = refl; of = refl; item = refl }
