-- Asks of used interfaces ask to use.
use Rattle.std.specs.List.{cons_option, flat_map}
use Rattle.std.proofs.Common.{◌≡◌, ℕ, List, [], ◌∷◌, Option, Some, None, option_map, ap, inl, inr}
use Rattle.wac_types_base.specs.Entries.{Name}
use Rattle.wac_types_base.specs.Graph.{Among}
use Rattle.wac_types_base.specs.Stated.{Stated, identifier_of}
use Rattle.wac_graph_core.specs.Graph.{Graph}
use Rattle.wac_composition.specs.Composition.{Composition}
use Rattle.wac_composition.specs.Asks.{Ask, ToUse, used_by, used_by_definition, asked_for, named_asks, asks_to_use}
use Rattle.wac_composition.proofs.Clashing.{among_append}
use Rattle.wac_composition.proofs.Lists.{among_flat}
use Rattle.wac_graph_asks.specs.declared.asks.Asked.{Asked}
use Rattle.wac_graph_asks.specs.Asked.{IsAsked}
use Rattle.wac_graph_asks.specs.Graphs.{composition_of}
use Rattle.wac_graph_asks.proofs.Repeating.{listed_among}

module _ {A : Type 0} where
  asked_to_use : (by : A) (xs : List Stated) (a : Ask A) → Among a (asked_for by xs) → a.asking ≡ ToUse
  asked_to_use by [] a m = absurd m
  asked_to_use by (x ∷ xs) a m = go (identifier_of x) m (asked_to_use by xs a)
    where
      go : (o : Option Name) → Among a (cons_option (option_map (λ n. record { asking = ToUse; by = by; name = n; item = x }) o) (asked_for by xs)) → (Among a (asked_for by xs) → a.asking ≡ ToUse) → a.asking ≡ ToUse
      go None m rest = rest m
      go (Some n) (inl s) rest = ap (λ (b : Ask A). b.asking) s
      go (Some n) (inr m) rest = rest m

-- those that a graph's composition asks for what is used, and those of them that are listed
pub all_to_use : {A I : Type 0} (c : Composition A I) (a : Ask A) → Among a (asks_to_use c) → a.asking ≡ ToUse
all_to_use c a m = elim (among_append (flat_map (λ b. asked_for b.by (used_by b.item)) (named_asks c)) (flat_map (λ d. asked_for d.by (used_by_definition d.item)) c.definitions) a m) [
  | inl k ↦ let b = among_flat (λ b. asked_for b.by (used_by b.item)) (named_asks c) a k in asked_to_use b.0.by (used_by b.0.item) a b.2
  | inr k ↦ let d = among_flat (λ d. asked_for d.by (used_by_definition d.item)) c.definitions a k in asked_to_use d.0.by (used_by_definition d.0.item) a d.2
]

pub listed_to_use : (g : Graph) (a : Asked) (h : IsAsked g a) → (x : Ask ℕ) → Among x h.uses → x.asking ≡ ToUse
listed_to_use g a h x m = all_to_use (composition_of g) x (listed_among h.once x m)
