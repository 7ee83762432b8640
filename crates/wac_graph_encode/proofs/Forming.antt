-- Definitions are formed one after another, in a collection that grows.
use Rattle.std.proofs.Common.{◌≡◌, ℕ, ◌+◌, List, [], ◌∷◌, ◌++◌, Option, Some, None, IfSome, slice_get, take, refl, sym, ap, subst, ◌∙◌, inl, inr, append_assoc}
use Rattle.std.proofs.lemmas.List.{append-nil}
use Rattle.wac_types_base.specs.declared.item.ItemKind.{ItemKind}
use Rattle.wac_types_base.specs.declared.item.«Type».{«Type» as TypeKind}
use Rattle.wac_types_base.specs.Record.{Collection}
use Rattle.wac_types_base.specs.Graph.{Among}
use Rattle.wac_types_base.specs.Collection.{Stands, IsAcyclic, Grows}
use Rattle.wac_types_base.specs.Stated.{stated_in}
use Rattle.wac_types_base.proofs.Adding.{Grows-refl, Grows-trans}
use Rattle.wac_types_base.proofs.Lists.{among_last}
use Rattle.wac_types_base.proofs.Looked.{among-get}
use Rattle.wac_types_base.proofs.Loops.{map-one_more, map_same}
use Rattle.wac_types_written.specs.Written.{written_definition}
use Rattle.wac_graph_core.specs.Graph.{Graph}
use Rattle.wac_graph_asks.specs.declared.asks.Definition.{Definition}
use Rattle.wac_graph_asks.specs.declared.asks.Asked.{Asked}
use Rattle.wac_graph_asks.specs.Asked.{HasCopy, IsHeld, KeepsAsked}
use Rattle.wac_graph_asks.specs.AskedUses.{CopiesStand}
use Rattle.wac_graph_asks.proofs.Asking.{copy_kept}
use Rattle.wac_graph_encode.specs.Formed.{AreCopied, AreFormed, HasForm, IsFormOf, IsFormed, KeepsCopies}
use Rattle.wac_graph_scopes.proofs.RootLaws.{zip_more}
use Rattle.wac_graph_encode.proofs.StandingNumbers.{zip_map}

-- ---- copies stand

pub copies_stand : (g : Graph) (a b : Asked) → IsHeld g a → KeepsAsked a b → CopiesStand b.types b.definitions.items
copies_stand g a b h k x m = go x.copy (h.copies x (subst (λ v. Among x v.items) k.definitions m))
  where
    go : (o : Option ItemKind) → HasCopy g.types a.types x.ty o → IfSome o (Stands b.types)
    go None h = tt
    go (Some j) h = k.grows.stand j h.1.stands

stands_grown : (d e : Collection) → Grows d e → (o : Option ItemKind) → IfSome o (Stands d) → IfSome o (Stands e)
stands_grown d e g None h = tt
stands_grown d e g (Some k) h = g.stand k h

-- ---- one definition

form_grown : (c d e : Collection) → Grows d e → (t : TypeKind) (o : Option ItemKind) → HasForm c d t o → HasForm c e t o
form_grown c d e g t None h = h
form_grown c d e g t (Some k) h = (h.0, record { stands = g.stand k h.1.stands; states = ap stated_in (g.keep k h.1.stands) ∙ h.1.states }, h.2)

formed_grown : (c d e : Collection) → Grows d e → (x y : Definition) → IsFormed c d x y → IsFormed c e x y
formed_grown c d e g x y h = record { node = h.node; name = h.name; ty = h.ty; form = form_grown c d e g y.ty y.copy h.form }

form_of_copy : (c old new : Collection) (t : TypeKind) (copy form : Option ItemKind) → HasCopy c old t copy → IsFormOf old new copy form → HasForm c new t form
form_of_copy c old new t None None h f = h
form_of_copy c old new t (Some k) (Some j) h f = (h.0, record { stands = f.stands; states = f.states ∙ ap (λ o. written_definition (stated_in o)) h.1.same }, h.2)
form_of_copy c old new t None (Some j) h f = absurd f
form_of_copy c old new t (Some k) None h f = absurd f

pub form_stands : (old new : Collection) (copy form : Option ItemKind) → IsFormOf old new copy form → IfSome form (Stands new)
form_stands old new None None f = tt
form_stands old new (Some k) (Some j) f = f.stands
form_stands old new None (Some j) f = absurd f
form_stands old new (Some k) None f = absurd f

pub is_formed : (c old new : Collection) (x y : Definition) → y.node ≡ x.node → y.name ≡ x.name → y.ty ≡ x.ty → HasCopy c old x.ty x.copy → IsFormOf old new x.copy y.copy → IsFormed c new x y
is_formed c old new x y node name ty has is = record {
  node = node;
  name = name;
  ty = ty;
  form = subst (λ t. HasForm c new t y.copy) (sym ty) (form_of_copy c old new x.ty x.copy y.copy has is);
}

-- they stay so while the collection grows
pub all_grown : (c d e : Collection) → Grows d e → (xs ys : List Definition) → AreFormed c d xs ys → AreFormed c e xs ys
all_grown c d e g xs ys f = zip_map (IsFormed c d) (IsFormed c e) (formed_grown c d e g) xs ys f

-- ---- several

pub copies_more : (old new : Collection) → Grows old new → (before after : List Definition) (y : Definition) → after ≡ before ++ y ∷ [] → IfSome y.copy (Stands new) → KeepsCopies old new before after
copies_more old new g before after y e s h x m = elim (among_last x y before (subst (Among x) e m)) [
  | inl o ↦ stands_grown old new g x.copy (h x o)
  | inr q ↦ subst (λ (d : Definition). IfSome d.copy (Stands new)) (sym q) s
]

-- all of the list have copies, and these of them are formed behind the others
pub record FormsThese (old new : Collection) (xs these before after : List Definition) : Type 0 where
  pub grows : Grows old new
  pub stand : KeepsCopies old new before after
  pub forms : (c : Collection) → AreCopied c old xs → (ws : List Definition) → AreFormed c old ws before → AreFormed c new (ws ++ these) after

pub none_formed : (old : Collection) → IsAcyclic old → (xs before : List Definition) → FormsThese old old xs [] before before
none_formed old a xs before = record {
  grows = Grows-refl old a;
  stand = λ h. h;
  forms = λ c h ws f. subst (λ l. AreFormed c old l before) (sym (append-nil ws)) f;
}

pub one_formed : (old new : Collection) → Grows old new → (x y : Definition) (before : List Definition) → ((c : Collection) → HasCopy c old x.ty x.copy → IsFormed c new x y)
    → (c : Collection) → AreCopied c old (x ∷ []) → (ws : List Definition) → AreFormed c old ws before → AreFormed c new (ws ++ x ∷ []) (before ++ y ∷ [])
one_formed old new g x y before one c h ws f =
    zip_more (IsFormed c new) ws before x y (zip_map (IsFormed c old) (IsFormed c new) (formed_grown c old new g) ws before f) (one c (h x (inl refl)))

pub next_formed : (old mid new : Collection) (xs before after later : List Definition) (i : ℕ) (x : Definition) → slice_get xs i ≡ Some x → FormsThese old mid xs (take i xs) before after → Grows mid new → KeepsCopies mid new after later
    → ((c : Collection) → AreCopied c mid (x ∷ []) → (ws : List Definition) → AreFormed c mid ws after → AreFormed c new (ws ++ x ∷ []) later) → FormsThese old new xs (take (i + 1) xs) before later
next_formed old mid new xs before after later i x at f g keeps one = record {
  grows = Grows-trans old mid new f.grows g;
  stand = λ h. keeps (f.stand h);
  forms = λ c h ws are.
      subst (λ l. AreFormed c new l later) (append_assoc ws (take i xs) (x ∷ []) ∙ ap (λ l. ws ++ l) (sym (one_more xs i x at)))
      (one c (λ y m. elim m [ inl e ↦ subst (λ z. HasCopy c mid z.ty z.copy) (sym e) (copy_kept c old mid f.grows x.ty x.copy (h x (among-get xs i x at))) | inr n ↦ absurd n ])
      (ws ++ take i xs) (f.forms c h ws are));
}
  where
    one_more : (xs : List Definition) (i : ℕ) (x : Definition) → slice_get xs i ≡ Some x → take (i + 1) xs ≡ take i xs ++ x ∷ []
    one_more xs i x at = sym (map_same (take (i + 1) xs)) ∙ map-one_more (λ y. y) xs i x at ∙ ap (λ l. l ++ x ∷ []) (map_same (take i xs))

-- the copy of one that is still to be formed stands
pub next_stands : (old mid : Collection) (xs : List Definition) (i : ℕ) (x : Definition) → slice_get xs i ≡ Some x → Grows old mid → CopiesStand old xs → IfSome x.copy (Stands mid)
next_stands old mid xs i x at g stand = stands_grown old mid g x.copy (stand x (among-get xs i x at))
