-- What a kind reaches, place by place, and marks that grow.
use Rattle.std.proofs.Common.{◌≡◌, ◌≢◌, ℕ, ◌+◌, List, [], drop, Option, Some, None, refl, sym, ap, subst, ◌∙◌, inl, inr, ◌⊎◌, slice_get}
use Rattle.wac_types_base.specs.declared.ids.DefinedTypeId.{DefinedTypeId}
use Rattle.wac_types_base.specs.declared.item.ItemKind.{ItemKind}
use Rattle.wac_types_base.specs.declared.item.ValueType.{ValueType}
use Rattle.wac_types_base.specs.declared.item.«Type».{«Type» as TypeKind}
use Rattle.wac_types_base.specs.Graph.{Among}
use Rattle.wac_types_base.specs.Record.{Collection}
use Rattle.wac_types_base.specs.Collection.{Slot, Entry, Stands, slots_in, slots_of, item_node, labelled, type_of, value_node}
use Rattle.wac_types_base.specs.Visiting.{defined_in, skipped, below}
use Rattle.wac_types_base.proofs.Used.{drop_next}
use Rattle.wac_types_base.proofs.Visited.{drop_past}
use Rattle.wac_types_base.proofs.Standing.{Found, defined_found, typed_value_stands}
use Rattle.wac_graph_core.specs.Nodes.{NodeData}
use Rattle.wac_graph_core.specs.NodeMaps.{NodeMap, AreThose}
use Rattle.wac_graph_core.specs.Defining.{IsUsedBy, IsUserOf, DefinesMarked, DefinesReaching}
use Rattle.wac_graph_core.proofs.Gathering.{none_in}
use Rattle.wac_graph_core.specs.TypeSets.{AddsType}
use Rattle.wac_graph_core.specs.Reaching.{Reaches, reaches_own, reaches_below, Marked, IsMarked, IsClosed, Gathers, Marks, MarkedOwn, IsWithout}

-- ---- a defined type has two kinds, and both reach the same

kind_of : (k : ItemKind) (d : DefinedTypeId) → defined_in k ≡ Some d → (k ≡ ItemKind.Value (ValueType.Defined d)) ⊎ (k ≡ ItemKind.Ty (TypeKind.Value (ValueType.Defined d)))
kind_of (ItemKind.Ty (TypeKind.Resource r)) d e = absurd (cc e)
kind_of (ItemKind.Ty (TypeKind.Func f)) d e = absurd (cc e)
kind_of (ItemKind.Ty (TypeKind.Value (ValueType.Primitive p))) d e = absurd (cc e)
kind_of (ItemKind.Ty (TypeKind.Value (ValueType.Borrow r))) d e = absurd (cc e)
kind_of (ItemKind.Ty (TypeKind.Value (ValueType.Own r))) d e = absurd (cc e)
kind_of (ItemKind.Ty (TypeKind.Value (ValueType.Defined x))) d e = let same : x ≡ d = cc e in inr (ap (λ y. ItemKind.Ty (TypeKind.Value (ValueType.Defined y))) same)
kind_of (ItemKind.Ty (TypeKind.Interface i)) d e = absurd (cc e)
kind_of (ItemKind.Ty (TypeKind.World w)) d e = absurd (cc e)
kind_of (ItemKind.Ty (TypeKind.Module m)) d e = absurd (cc e)
kind_of (ItemKind.Func f) d e = absurd (cc e)
kind_of (ItemKind.Instance i) d e = absurd (cc e)
kind_of (ItemKind.Component w) d e = absurd (cc e)
kind_of (ItemKind.Module m) d e = absurd (cc e)
kind_of (ItemKind.Value (ValueType.Primitive p)) d e = absurd (cc e)
kind_of (ItemKind.Value (ValueType.Borrow r)) d e = absurd (cc e)
kind_of (ItemKind.Value (ValueType.Own r)) d e = absurd (cc e)
kind_of (ItemKind.Value (ValueType.Defined x)) d e = let same : x ≡ d = cc e in inl (ap (λ y. ItemKind.Value (ValueType.Defined y)) same)

-- the type of a kind that is one
pub own_type : (t : TypeKind) (d : DefinedTypeId) → defined_in (ItemKind.Ty t) ≡ Some d → t ≡ TypeKind.Value (ValueType.Defined d)
own_type t d e = elim (kind_of (ItemKind.Ty t) d e) [ inl is ↦ absurd (cc is) | inr is ↦ cc is ]

pub same_own : (k : ItemKind) (d e : DefinedTypeId) → defined_in k ≡ Some d → defined_in k ≡ Some e → e ≡ d
same_own k d e is it = let same : Some e ≡ Some d = sym it ∙ is in cc same

module _ (c : Collection) where
  slots_labelled : (o : Option Entry) → slots_in (labelled type_of o) ≡ slots_in o
  slots_labelled None = refl
  slots_labelled (Some e) = refl

  typed_slots : (v : ValueType) → slots_of c (ItemKind.Ty (TypeKind.Value v)) ≡ slots_of c (ItemKind.Value v)
  unfolding item_node
  typed_slots v = slots_labelled (value_node c v)

  untyped : (v : ValueType) → Stands c (ItemKind.Ty (TypeKind.Value v)) → Stands c (ItemKind.Value v)
  untyped v s = sym (typed_value_stands c v) ∙ s

  below_defined : (k : ItemKind) (d : DefinedTypeId) → defined_in k ≡ Some d → below c k ≡ slots_of c (ItemKind.Value (ValueType.Defined d))
  below_defined k d e = elim (kind_of k d e) [
    | inl is ↦ ap (below c) is
    | inr is ↦ ap (below c) is ∙ typed_slots (ValueType.Defined d)
  ]

  -- the id is one of the collection
  pub stands_within : (k : ItemKind) (d : DefinedTypeId) → Stands c k → defined_in k ≡ Some d → Found c.number c.defined_types d.collection d.index
  stands_within k d s e = elim (kind_of k d e) [
    | inl is ↦ defined_found c d (subst (Stands c) is s)
    | inr is ↦ defined_found c d (untyped (ValueType.Defined d) (subst (Stands c) is s))
  ]

  pub same_reached : (k j : ItemKind) (d x : DefinedTypeId) → defined_in k ≡ Some d → defined_in j ≡ Some d → Reaches c k x → Reaches c j x
  same_reached k j d x is it (reaches_own own) = reaches_own (it ∙ sym is ∙ own)
  same_reached k j d x is it (reaches_below {j = child} m r) = reaches_below (subst (λ l. Among (Some child) l) (below_defined k d is ∙ sym (below_defined j d it)) m) r

  -- ---- places that are left

  -- what is left is below the kind
  abbrev pub AreLeft : ItemKind → ℕ → Type 0
  AreLeft k at = (x : Slot) → Among x (drop at (slots_of c k)) → Among x (below c k)

  pub left_next : (k : ItemKind) (at : ℕ) (place : Slot) → slice_get (slots_of c k) at ≡ Some place → AreLeft k at → AreLeft k (at + 1)
  left_next k at place is left x m = left x (subst (Among x) (sym (drop_next (slots_of c k) at place is)) (inr m))

  pub left_here : (k : ItemKind) (at : ℕ) (place : Slot) → slice_get (slots_of c k) at ≡ Some place → AreLeft k at → Among place (below c k)
  left_here k at place is left = left place (subst (Among place) (sym (drop_next (slots_of c k) at place is)) (inl refl))

  -- the next of what is left, or behind it
  pub left_parts : (k : ItemKind) (at : ℕ) (place x : Slot) → slice_get (slots_of c k) at ≡ Some place → Among x (drop at (slots_of c k)) → (x ≡ place) ⊎ Among x (drop (at + 1) (slots_of c k))
  left_parts k at place x is m = subst (Among x) (drop_next (slots_of c k) at place is) m

  pub none_left : (k : ItemKind) (at : ℕ) (x : Slot) → slice_get (slots_of c k) at ≡ None → Among x (drop at (slots_of c k)) → ⊥
  none_left k at x is m = subst (Among x) (drop_past (slots_of c k) at is) m

  -- ---- what is reached is marked, or among what is left

  module _ (k : ItemKind) (old : List TypeKind) where
    pub record Gathered (at : ℕ) (now : List TypeKind) : Type 0 where
      pub closed : IsClosed c now
      pub left : AreLeft k at
      pub kept : (d : DefinedTypeId) → Marked old d → Marked now d
      pub reached : (j : ItemKind) (d : DefinedTypeId) → Among (Some j) (below c k) → Reaches c j d → Marked now d ⊎ Among (Some j) (drop at (slots_of c k))
      pub only : (d : DefinedTypeId) → Marked now d → Marked old d ⊎ Reaches c k d

    pub gathered_first : IsClosed c old → Gathered (skipped c k) old
    gathered_first closed = record {
      closed = closed;
      left = λ x m. m;
      kept = λ d m. m;
      reached = λ j d m r. inr m;
      only = λ d m. inl m;
    }

    pub gathered_hole : (at : ℕ) (now : List TypeKind) → slice_get (slots_of c k) at ≡ Some None → Gathered at now → Gathered (at + 1) now
    gathered_hole at now is g = record {
      closed = g.closed;
      left = left_next k at None is g.left;
      kept = g.kept;
      reached = λ j d m r. elim (g.reached j d m r) [
        | inl there ↦ inl there
        | inr left ↦ elim (left_parts k at None (Some j) is left) [ inl same ↦ absurd (cc same) | inr rest ↦ inr rest ]
      ];
      only = g.only;
    }

    pub gathered_next : (at : ℕ) (child : ItemKind) (now new : List TypeKind) → slice_get (slots_of c k) at ≡ Some (Some child) → IsClosed c new → Gathers c child now new → Gathered at now → Gathered (at + 1) new
    gathered_next at child now new is closed more g = record {
      closed = closed;
      left = left_next k at (Some child) is g.left;
      kept = λ d m. more.kept d (g.kept d m);
      reached = λ j d m r. elim (g.reached j d m r) [
        | inl there ↦ inl (more.kept d there)
        | inr left ↦ elim (left_parts k at (Some child) (Some j) is left) [
          | inl same ↦ let own : j ≡ child = cc same in inl (more.reached d (subst (λ x. Reaches c x d) own r))
          | inr rest ↦ inr rest
        ]
      ];
      only = λ d m. elim (more.only d m) [ inl before ↦ g.only d before | inr r ↦ inr (reaches_below (left_here k at (Some child) is g.left) r) ];
    }

    -- at the end its own mark is set
    module _ (at : ℕ) (now new : List TypeKind) (past : slice_get (slots_of c k) at ≡ None) (g : Gathered at now) (own : Marks (defined_in k) now new) where
      reached_all : (d : DefinedTypeId) → Reaches c k d → Marked new d
      reached_all d (reaches_own is) = own.marked d is
      reached_all d (reaches_below {j = j} m r) = elim (g.reached j d m r) [ inl there ↦ own.kept d there | inr left ↦ absurd (none_left k at (Some j) past left) ]

      pub gathers_all : Gathers c k old new
      gathers_all = record {
        kept = λ d m. own.kept d (g.kept d m);
        reached = reached_all;
        only = λ d m. elim (own.only d m) [ inl before ↦ g.only d before | inr mine ↦ inr (reaches_own mine) ];
      }

      pub closed_all : IsClosed c new
      closed_all j d m r = elim (own.only m.id m.marked) [
        | inl before ↦ own.kept d (g.closed j d (record { id = m.id; is = m.is; marked = before }) r)
        | inr mine ↦ reached_all d (same_reached j k m.id d m.is mine r)
      ]

  -- a kind that is marked
  pub own_marked : (k : ItemKind) (o : Option DefinedTypeId) (marks : List TypeKind) → o ≡ defined_in k → MarkedOwn marks o → IsMarked marks k
  own_marked k None marks is m = absurd m
  own_marked k (Some d) marks is m = record { id = d; is = sym is; marked = m }

  -- reaches nothing more
  pub marked_gathers : (k : ItemKind) (marks : List TypeKind) → IsMarked marks k → IsClosed c marks → Gathers c k marks marks
  marked_gathers k marks m closed = record { kept = λ e x. x; reached = λ e r. closed k e m r; only = λ e x. inl x }

  -- ---- one that is looked for is not found, or among what is left

  module _ (k : ItemKind) (wanted : DefinedTypeId) where
    pub record Sought (at : ℕ) (now : List TypeKind) : Type 0 where
      pub without : IsWithout c wanted now
      pub left : AreLeft k at
      pub none : (j : ItemKind) → Among (Some j) (below c k) → Reaches c j wanted → Among (Some j) (drop at (slots_of c k))

    pub sought_first : (now : List TypeKind) → IsWithout c wanted now → Sought (skipped c k) now
    sought_first now without = record { without = without; left = λ x m. m; none = λ j m r. m }

    pub sought_hole : (at : ℕ) (now : List TypeKind) → slice_get (slots_of c k) at ≡ Some None → Sought at now → Sought (at + 1) now
    sought_hole at now is s = record {
      without = s.without;
      left = left_next k at None is s.left;
      none = λ j m r. elim (left_parts k at None (Some j) is (s.none j m r)) [ inl same ↦ absurd (cc same) | inr rest ↦ rest ];
    }

    pub sought_next : (at : ℕ) (child : ItemKind) (now new : List TypeKind) → slice_get (slots_of c k) at ≡ Some (Some child) → IsWithout c wanted new → (Reaches c child wanted → ⊥) → Sought at now → Sought (at + 1) new
    sought_next at child now new is without not s = record {
      without = without;
      left = left_next k at (Some child) is s.left;
      none = λ j m r. elim (left_parts k at (Some child) (Some j) is (s.none j m r)) [
        | inl same ↦ let own : j ≡ child = cc same in absurd (not (subst (λ x. Reaches c x wanted) own r))
        | inr rest ↦ rest
      ];
    }

    pub found_below : (at : ℕ) (child : ItemKind) (now : List TypeKind) → slice_get (slots_of c k) at ≡ Some (Some child) → Sought at now → Reaches c child wanted → Reaches c k wanted
    found_below at child now is s r = reaches_below (left_here k at (Some child) is s.left) r

    module _ (at : ℕ) (now new : List TypeKind) (other : defined_in k ≢ Some wanted) (past : slice_get (slots_of c k) at ≡ None) (s : Sought at now) (own : Marks (defined_in k) now new) where
      pub not_reached : Reaches c k wanted → ⊥
      not_reached (reaches_own is) = other is
      not_reached (reaches_below {j = j} m r) = none_left k at (Some j) past (s.none j m r)

      pub without_all : IsWithout c wanted new
      without_all j m r = elim (own.only m.id m.marked) [
        | inl before ↦ s.without j (record { id = m.id; is = m.is; marked = before }) r
        | inr mine ↦ not_reached (same_reached j k m.id wanted m.is mine r)
      ]

-- ---- single marks

pub marks_own : (d : DefinedTypeId) (old new : List TypeKind) → AddsType old new (TypeKind.Value (ValueType.Defined d)) → Marks (Some d) old new
marks_own d old new added = record {
  kept = λ e m. (added (TypeKind.Value (ValueType.Defined e))).1 (inl m);
  marked = λ e is. (added (TypeKind.Value (ValueType.Defined e))).1 (inr (ap (λ x. TypeKind.Value (ValueType.Defined x)) (cc is)));
  only = λ e m. elim ((added (TypeKind.Value (ValueType.Defined e))).0 m) [ inl before ↦ inl before | inr same ↦ inr (cc same) ];
}

-- no mark yet
pub unmarked : (marks : List TypeKind) (d : DefinedTypeId) → marks ≡ [] → Marked marks d → ⊥
unmarked marks d none m = subst (λ (l : List TypeKind). Marked l d) none m

pub unmarked_without : (c : Collection) (wanted : DefinedTypeId) (marks : List TypeKind) → marks ≡ [] → IsWithout c wanted marks
unmarked_without c wanted marks none k m r = unmarked marks m.id none m.marked

pub unmarked_closed : (c : Collection) (marks : List TypeKind) → marks ≡ [] → IsClosed c marks
unmarked_closed c marks none k d m r = absurd (unmarked marks m.id none m.marked)

-- ---- definitions of what is reached

module _ (c : Collection) (m : NodeMap) (ty : TypeKind) where
  pub used_those : (old marks : List TypeKind) (found : List ℕ) → old ≡ [] → Gathers c (ItemKind.Ty ty) old marks → AreThose m (DefinesMarked marks) found → AreThose m (IsUsedBy c ty) found
  used_those old marks found none g those k = (
    λ h. let r = (those k).0 h in (r.0, r.1, used r.0 r.2),
    λ r. (those k).1 (r.0, r.1, record { source = r.2.source; id = r.2.uses.id; role = r.2.role; type = r.2.type; is = r.2.uses.is; marked = g.reached r.2.uses.id r.2.uses.reached }),
  )
    where
      used : (x : NodeData) → DefinesMarked marks x → IsUsedBy c ty x
      used x d = record {
        source = d.source;
        role = d.role;
        type = d.type;
        uses = record { id = d.id; is = d.is; reached = elim (g.only d.id d.marked) [ inl before ↦ absurd (unmarked old d.id none before) | inr r ↦ r ] };
      }

  pub users_those : (wanted : DefinedTypeId) (found : List ℕ) → Some wanted ≡ defined_in (ItemKind.Ty ty) → AreThose m (DefinesReaching c wanted) found → AreThose m (IsUserOf c ty) found
  users_those wanted found is those k = (
    λ h. let r = (those k).0 h in (r.0, r.1, record { target = r.2.target; role = r.2.role; type = r.2.type; uses = record { id = wanted; is = sym is; reached = r.2.reached } }),
    λ r.
        let same = same_own (ItemKind.Ty ty) wanted r.2.uses.id (sym is) r.2.uses.is in
        (those k).1 (r.0, r.1, record { target = r.2.target; role = r.2.role; type = r.2.type; reached = subst (Reaches c (ItemKind.Ty r.2.target)) same r.2.uses.reached }),
  )

  pub no_users : (found : List ℕ) → None ≡ defined_in (ItemKind.Ty ty) → found ≡ [] → AreThose m (IsUserOf c ty) found
  no_users found none empty k = (λ h. absurd (none_in found k empty h), λ r. absurd (cc (none, r.2.uses.is)))
