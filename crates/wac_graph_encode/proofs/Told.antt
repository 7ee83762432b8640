-- What is told of definitions, one after another.
use Rattle.std.proofs.Common.{◌≡◌, ◌⊎◌, ℕ, Bool, true, false, true≢false, cond, List, [], ◌∷◌, ◌++◌, Option, Some, None, is_some, inl, inr, refl, sym, ap, subst, ◌∙◌}
use Rattle.indexmap.specs.IndexMap.{insert_entry}
use Rattle.wac_types_base.specs.declared.item.ItemKind.{ItemKind}
use Rattle.wac_types_base.specs.Entries.{names_of}
use Rattle.wac_types_base.specs.Graph.{Among}
use Rattle.wac_types_base.proofs.Adding.{Among-left, Among-right}
use Rattle.wac_types_base.proofs.Lists.{among_last}
use Rattle.wac_graph_core.specs.contracts.ids.NodeIdPartialEq.TheImpl as node
use Rattle.wac_graph_asks.specs.declared.asks.Definition.{Definition}
use Rattle.wac_graph_encode.specs.Worlds.{AreDefinitionTypes, IsDefinitionType, told_definition, NotesDefinition}
use Rattle.wac_graph_encode.proofs.Entries.{same_node}
use Rattle.wac_graph_encode.proofs.Nesting.{inserted_among}

inserted_there : (es : List (ℕ × ItemKind)) (k : ℕ) (x : ItemKind) (j : ℕ) → Among j (names_of es) ⊎ (j ≡ k) → Among j (names_of (insert_entry node.eq-value.it es k x))
inserted_there [] k x j (inl m) = absurd m
inserted_there [] k x j (inr e) = inl e
inserted_there (y ∷ es) k x j h = go (node.eq-value.it k y.0) refl (inserted_there es k x j) h
  where
    go : (b : Bool) → node.eq-value.it k y.0 ≡ b → (Among j (names_of es) ⊎ (j ≡ k) → Among j (names_of (insert_entry node.eq-value.it es k x))) → Among j (names_of (y ∷ es)) ⊎ (j ≡ k)
        → Among j (names_of (cond b ((y.0, x) ∷ es) (y ∷ insert_entry node.eq-value.it es k x)))
    go true q rest (inl m) = m
    go true q rest (inr e) = inl (e ∙ (same_node k y.0).0 q)
    go false q rest (inl (inl s)) = inl s
    go false q rest (inl (inr m)) = inr (rest (inl m))
    go false q rest (inr e) = inr (rest (inr e))

before_defined : (before : List Definition) (x : Definition) (k : ℕ) (item : ItemKind) → IsDefinitionType before k item → IsDefinitionType (before ++ x ∷ []) k item
before_defined before x k item t = (t.0, Among-left t.0 before (x ∷ []) t.1, t.2, t.3)

pub defined_none : AreDefinitionTypes [] []
defined_none = record { sound = λ k item m. absurd m; all = λ x m s. absurd m }

pub defined_more : (before : List Definition) (x : Definition) (old new : List (ℕ × ItemKind)) → NotesDefinition x old new → AreDefinitionTypes before old → AreDefinitionTypes (before ++ x ∷ []) new
defined_more before x old new tells are = by_copy x.copy refl
  where
    by_copy : (o : Option ItemKind) → x.copy ≡ o → AreDefinitionTypes (before ++ x ∷ []) new
    by_copy None e =
        let is : new ≡ old = tells ∙ ap (λ o. told_definition x o old) e in
        record {
          sound = λ k item m. before_defined before x k item (are.sound k item (subst (λ (es : List (ℕ × ItemKind)). Among {R = ℕ × ItemKind} (k, item) es) is m));
          all = λ y m s. elim (among_last y x before m) [
            | inl there ↦ subst (λ (es : List (ℕ × ItemKind)). Among y.node (names_of es)) (sym is) (are.all y there s)
            | inr same ↦ absurd (true≢false (sym s ∙ ap (λ (z : Definition). is_some z.copy) same ∙ ap is_some e))
          ];
        }
    by_copy (Some j) e =
        let is : new ≡ insert_entry node.eq-value.it old x.node j = tells ∙ ap (λ o. told_definition x o old) e in
        record {
          sound = λ k item m. elim (inserted_among node.eq-value.it same_node old x.node j (k, item) (subst (λ (es : List (ℕ × ItemKind)). Among {R = ℕ × ItemKind} (k, item) es) is m)) [
            | inl was ↦ before_defined before x k item (are.sound k item was)
            | inr own ↦ (x, Among-right x before (x ∷ []) (inl refl), sym (ap (λ (p : ℕ × ItemKind). p.0) own), e ∙ ap (λ (p : ℕ × ItemKind). Some p.1) (sym own))
          ];
          all = λ y m s. subst (λ (es : List (ℕ × ItemKind)). Among y.node (names_of es)) (sym is) (inserted_there old x.node j y.node (elim (among_last y x before m) [
            | inl there ↦ inl (are.all y there s)
            | inr same ↦ inr (ap (λ (z : Definition). z.node) same)
          ]));
        }
