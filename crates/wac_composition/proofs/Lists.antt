-- Elements of lists that are joined or mapped.
use Rattle.std.specs.List.{flat_map}
use Rattle.std.proofs.Common.{◌≡◌, List, [], ◌∷◌, map, inl, inr, refl, subst}
use Rattle.wac_types_base.specs.Graph.{Among}
use Rattle.wac_types_base.proofs.Adding.{Among-left, Among-right}
use Rattle.wac_types_base.proofs.Lists.{among_split}

pub among_flat : {X Y : Type 0} (f : X → List Y) (xs : List X) (y : Y) → Among y (flat_map f xs) → (x : X) × Among x xs × Among y (f x)
among_flat f [] y m = absurd m
among_flat f (x ∷ xs) y m = elim (among_split y (f x) (flat_map f xs) m) [
  | inl a ↦ (x, inl refl, a)
  | inr b ↦ let r = among_flat f xs y b in (r.0, inr r.1, r.2)
]

pub flat_among : {X Y : Type 0} (f : X → List Y) (xs : List X) (x : X) (y : Y) → Among x xs → Among y (f x) → Among y (flat_map f xs)
flat_among f [] x y m n = absurd m
flat_among f (z ∷ zs) x y (inl e) n = Among-left y (f z) (flat_map f zs) (subst (λ w. Among y (f w)) e n)
flat_among f (z ∷ zs) x y (inr m) n = Among-right y (f z) (flat_map f zs) (flat_among f zs x y m n)

pub mapped_among : {X Y : Type 0} (f : X → Y) (xs : List X) (y : Y) → Among y (map f xs) → (x : X) × Among x xs × (y ≡ f x)
mapped_among f [] y m = absurd m
mapped_among f (x ∷ xs) y (inl e) = (x, inl refl, e)
mapped_among f (x ∷ xs) y (inr m) = let r = mapped_among f xs y m in (r.0, inr r.1, r.2)
