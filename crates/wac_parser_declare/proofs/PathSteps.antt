-- Paths: segment by segment, and what packages define.
use Rattle.std.proofs.Common.{◌≡◌, ℕ, ◌==◌, if◌then◌else◌, Bool, true, false, List, [], ◌∷◌, ◌++◌, Option, Some, None, codes, Ok, Err, IfSome, inl, inr, refl, sym, ap, subst, ◌∙◌}
use Rattle.wac_types_base.specs.declared.item.ItemKind.{ItemKind}
use Rattle.wac_types_base.specs.Record.{Collection}
use Rattle.wac_types_base.specs.declared.item.«Type».{«Type» as TypeKind}
use Rattle.wac_types_base.specs.declared.ids.WorldId.{WorldId}
use Rattle.wac_types_base.specs.Collection.{IsAcyclic, Stands, item_node}
use Rattle.wac_types_base.proofs.Slots.{stands_typed_world}
use Rattle.wac_types_base.proofs.Telling.{item_kind, kind_stated, untyped_stated}
use Rattle.wac_types_base.specs.Entries.{Name, value_at}
use Rattle.wac_types_base.specs.Stated.{Stated, desc, kind_of, stated_of}
use Rattle.wac_parser_tree.specs.Trees as t
use Rattle.wac_parser_tree.specs.Segments.{GivesSegment, Segment, between_slashes, in_front, placed, segment_spans}
use Rattle.wac_parser_refusals.specs.declared.refusal.Refusal.{Refusal}
use Rattle.wac_parser_refusals.specs.Causes.{Answer, Fault, ◌>>=◌, NotWorld, present, pure, refuse}
use Rattle.wac_parser_refusals.specs.Outcomes.{IsHeld, IsRefusal, Refuses}
use Rattle.wac_parser_refusals.proofs.Outcomes.{memory_refusal, then_refused}
use Rattle.wac_parser_declare.specs.Holding.{Holds}
use Rattle.wac_parser_declare.specs.InPaths.{AWorld, IsWorldIn}
use Rattle.wac_parser_declare.specs.Packages.{HoldsIf}
use Rattle.wac_parser_declare.specs.Worlds.{world_by}
use Rattle.wac_parser_declare.specs.Scope.{Path, definitions, foreign_export, own_export, own_path, package_path, path_span, path_text, passed_text}

-- ---- segments

-- no path is without segments
module _ where
  some_texts : (ws : List (List ℕ)) (b : ℕ) → in_front b ws ≡ [] → ⊥
  some_texts [] b e = cc e
  some_texts (w ∷ ws) b e = cc e

  some_pieces : (text : List ℕ) → between_slashes text ≡ [] → ⊥
  some_pieces [] e = cc e
  some_pieces (b ∷ z) e = pieces_of (b == 47) (between_slashes z) b e
    where
      pieces_of : (x : Bool) (ws : List (List ℕ)) (b : ℕ) → (if x then [] ∷ ws else in_front b ws) ≡ [] → ⊥
      pieces_of true ws b e = cc e
      pieces_of false ws b e = some_texts ws b e

  none_placed : (at : ℕ) (ws : List (List ℕ)) → placed at ws ≡ [] → ws ≡ []
  none_placed at [] e = refl
  none_placed at (w ∷ ws) e = absurd (cc e)

  pub some_segments : (p : t.PackagePath) → segment_spans p ≡ [] → ⊥
  some_segments p e = some_pieces p.segments (none_placed _ (between_slashes p.segments) e)

-- the segment that was given stood in front of what is left
pub given_next : (old new : List Segment) (s : Segment) → GivesSegment old (Some s) new → old ≡ s ∷ new
given_next [] new s g = absurd (cc g.value)
given_next (x ∷ xs) new s g = let same : s ≡ x = cc g.value in ap (λ (y : Segment). y ∷ xs) (sym same) ∙ ap (λ (ys : List Segment). s ∷ ys) (sym g.after)

pub given_none : (old new : List Segment) → GivesSegment old None new → old ≡ []
given_none [] new g = refl
given_none (x ∷ xs) new g = absurd (cc g.value)

-- the text of one segment more
pub joined_more : (i : Segment) (is : List Segment) (j : Segment) → passed_text ((i ∷ is) ++ j ∷ []) ≡ passed_text (i ∷ is) ++ (codes "/" ++ j.0)
joined_more i [] j = refl
joined_more i (k ∷ is) j = ap (λ (w : Name). i.0 ++ (codes "/" ++ w)) (joined_more k is j) ∙ sym (appended i.0 (passed_text (k ∷ is)) (codes "/" ++ j.0))
  where
    appended : (a b c : Name) → (a ++ (codes "/" ++ b)) ++ c ≡ a ++ (codes "/" ++ (b ++ c))
    appended [] b c = refl
    appended (x ∷ a) b c = ap (λ (w : Name). x ∷ w) (appended a b c)

-- a slash, then another text
pub slash_more : (text next : Name) → (text ++ 47 ∷ []) ++ next ≡ text ++ (codes "/" ++ next)
slash_more [] next = refl
slash_more (b ∷ text) next = ap (λ (w : Name). b ∷ w) (slash_more text next)

-- what is left behind the segments that were passed
pub record IsPassed (c : Collection) (p : Name) (all : Answer Stated) (text : Name) (k : ItemKind) (left : List Segment) : Type 0 where
  pub first : Segment
  pub others : List Segment
  pub text_is : passed_text (first ∷ others) ≡ text
  pub rest : all ≡ package_path p (first ∷ others) (stated_of c k) left

module _ (c : Collection) (p : Name) (all : Answer Stated) (text : Name) (k : ItemKind) (i : Segment) (left : List Segment) (h : IsPassed c p all text k (i ∷ left)) where
  passed_step : (q : Answer Stated) → foreign_export p text (stated_of c k) i ≡ q → all ≡ (q >>= λ y. package_path p ((h.first ∷ h.others) ++ i ∷ []) y left)
  passed_step q is =
      h.rest ∙ ap (λ (w : Name). foreign_export p w (stated_of c k) i >>= λ y. package_path p ((h.first ∷ h.others) ++ i ∷ []) y left) h.text_is
      ∙ ap (λ (a : Answer Stated). a >>= λ y. package_path p ((h.first ∷ h.others) ++ i ∷ []) y left) is

  pub passed_refused : (e : Refusal) → IsRefusal (foreign_export p text (stated_of c k) i) e → IsRefusal all e
  passed_refused e r =
      subst (λ (a : Answer Stated). IsRefusal a e) (sym (passed_step _ refl))
      (then_refused (λ (y : Stated). package_path p ((h.first ∷ h.others) ++ i ∷ []) y left) (foreign_export p text (stated_of c k) i) e r)

  pub passed_more : (next : ItemKind) (longer : Name) → IsHeld (Holds c) (foreign_export p text (stated_of c k) i) next → longer ≡ text ++ (codes "/" ++ i.0) → IsPassed c p all longer next left
  passed_more next longer held is = by (foreign_export p text (stated_of c k) i) refl held
    where
      by : (q : Answer Stated) → foreign_export p text (stated_of c k) i ≡ q → IsHeld (Holds c) q next → IsPassed c p all longer next left
      by (Ok y) same held = record {
        first = h.first;
        others = h.others ++ i ∷ [];
        text_is = joined_more h.first h.others i ∙ ap (λ (w : Name). w ++ (codes "/" ++ i.0)) h.text_is ∙ sym is;
        rest = passed_step (Ok y) same ∙ ap (λ (y : Stated). package_path p ((h.first ∷ h.others) ++ i ∷ []) y left) (sym held.same);
      }
      by (Err e) same held = absurd held

-- the same in the own package
module _ (c : Collection) (all : Answer Stated) (parent : Name) (k : ItemKind) (i : Segment) (left : List Segment) (h : all ≡ own_path parent (stated_of c k) (i ∷ left)) where
  pub own_refused : (e : Refusal) → IsRefusal (own_export parent (stated_of c k) i) e → IsRefusal all e
  own_refused e r = subst (λ (a : Answer Stated). IsRefusal a e) (sym h) (then_refused (λ (y : Stated). own_path i.0 y left) (own_export parent (stated_of c k) i) e r)

  pub own_more : (next : ItemKind) → IsHeld (Holds c) (own_export parent (stated_of c k) i) next → all ≡ own_path i.0 (stated_of c next) left
  own_more next held = by (own_export parent (stated_of c k) i) refl held
    where
      by : (q : Answer Stated) → own_export parent (stated_of c k) i ≡ q → IsHeld (Holds c) q next → all ≡ own_path i.0 (stated_of c next) left
      by (Ok y) same held = h ∙ ap (λ (a : Answer Stated). a >>= λ y. own_path i.0 y left) same ∙ ap (λ (y : Stated). own_path i.0 y left) (sym held.same)
      by (Err e) same held = absurd held

-- ---- worlds

-- the type of a world, and a component; nothing else
module _ (c : Collection) (a : IsAcyclic c) (p : Path) where
  typed_world : (w : WorldId) → Stands c (ItemKind.Ty (TypeKind.World w)) → IsHeld (AWorld c) (world_by (kind_of (stated_of c (ItemKind.Ty (TypeKind.World w)))) p (stated_of c (ItemKind.Ty (TypeKind.World w)))) w
  unfolding item_node
  typed_world w s =
      let k = ItemKind.Ty (TypeKind.World w) in
      subst (λ q. IsHeld (AWorld c) (world_by q p (stated_of c k)) w) (sym (kind_stated c a k s))
      (record { stands = stands_typed_world c w s; same = sym (untyped_stated c a k (ItemKind.Component w) refl s) })

  pub world_of_type : (k : ItemKind) (w : WorldId) → k ≡ ItemKind.Ty (TypeKind.World w) → Stands c k → IsHeld (AWorld c) (world_by (kind_of (stated_of c k)) p (stated_of c k)) w
  world_of_type k w is s = subst (λ (j : ItemKind). IsHeld (AWorld c) (world_by (kind_of (stated_of c j)) p (stated_of c j)) w) (sym is) (typed_world w (subst (Stands c) is s))

  component_world : (w : WorldId) → Stands c (ItemKind.Component w) → IsHeld (AWorld c) (world_by (kind_of (stated_of c (ItemKind.Component w))) p (stated_of c (ItemKind.Component w))) w
  component_world w s =
      subst (λ q. IsHeld (AWorld c) (world_by q p (stated_of c (ItemKind.Component w))) w) (sym (kind_stated c a (ItemKind.Component w) s)) (record { stands = s; same = refl })

  pub world_of_component : (k : ItemKind) (w : WorldId) → k ≡ ItemKind.Component w → Stands c k → IsHeld (AWorld c) (world_by (kind_of (stated_of c k)) p (stated_of c k)) w
  world_of_component k w is s = subst (λ (j : ItemKind). IsHeld (AWorld c) (world_by (kind_of (stated_of c j)) p (stated_of c j)) w) (sym is) (component_world w (subst (Stands c) is s))

  pub world_found : (k : ItemKind) (o : Option WorldId) (w : WorldId) → o ≡ Some w → IfSome o (IsWorldIn k) → Stands c k → IsHeld (AWorld c) (world_by (kind_of (stated_of c k)) p (stated_of c k)) w
  world_found k None w is i s = absurd (cc is)
  world_found k (Some v) w is i s =
      let same : v ≡ w = cc is in
      elim (subst (IsWorldIn k) same i) [
        | inl e ↦ world_of_type k w e s
        | inr e ↦ world_of_component k w e s
      ]

  no_world_by : (k : ItemKind) → ((w : WorldId) → IsWorldIn k w → ⊥) → (x : Stated) (e : Refusal) → Refuses e (NotWorld (path_text p) (desc x)) (path_span p)
      → IsRefusal (world_by (item_kind k) p x) e
  no_world_by (ItemKind.Ty (TypeKind.Resource i)) f x e r = r
  no_world_by (ItemKind.Ty (TypeKind.Func i)) f x e r = r
  no_world_by (ItemKind.Ty (TypeKind.Value i)) f x e r = r
  no_world_by (ItemKind.Ty (TypeKind.Interface i)) f x e r = r
  no_world_by (ItemKind.Ty (TypeKind.World w)) f x e r = absurd (f w (inl refl))
  no_world_by (ItemKind.Ty (TypeKind.Module i)) f x e r = r
  no_world_by (ItemKind.Func i) f x e r = r
  no_world_by (ItemKind.Instance i) f x e r = r
  no_world_by (ItemKind.Component w) f x e r = absurd (f w (inr refl))
  no_world_by (ItemKind.Module i) f x e r = r
  no_world_by (ItemKind.Value i) f x e r = r

  pub no_world : (k : ItemKind) → Stands c k → ((w : WorldId) → IsWorldIn k w → ⊥) → (e : Refusal) → Refuses e (NotWorld (path_text p) (desc (stated_of c k))) (path_span p)
      → IsRefusal (world_by (kind_of (stated_of c k)) p (stated_of c k)) e
  no_world k s f e r = subst (λ q. IsRefusal (world_by q p (stated_of c k)) e) (sym (kind_stated c a k s)) (no_world_by k f (stated_of c k) e r)

-- ---- definitions of packages

pub defined_refused : {A B : Type 0} (q : Answer Stated) (f : Stated → A) (g : Stated → Answer B) (e : Refusal) → IsRefusal (q >>= λ w. pure (f w)) e → IsRefusal (q >>= g) e
defined_refused (Ok w) f g e m = memory_refusal (g w) e m
defined_refused (Err c) f g e m = m

module _ (d : Collection) (n : Name) (f : Fault) (at : t.Span) (rest : Stated → Answer Stated) where
  pub defined_by : (q : Answer Stated) (k : ItemKind) → IsHeld (HoldsIf d) (q >>= λ w. pure (value_at (definitions w) n)) (Some k) → (q >>= λ w. present (value_at (definitions w) n) f at >>= rest) ≡ rest (stated_of d k)
  defined_by (Ok w) k h = ap (λ (o : Option Stated). present o f at >>= rest) (sym h.same)
  defined_by (Err c) k h = absurd h

  pub undefined_by : (q : Answer Stated) → IsHeld (HoldsIf d) (q >>= λ w. pure (value_at (definitions w) n)) None → (q >>= λ w. present (value_at (definitions w) n) f at >>= rest) ≡ refuse f at
  undefined_by (Ok w) h = ap (λ (o : Option Stated). present o f at >>= rest) (sym h.same)
  undefined_by (Err c) h = absurd h
