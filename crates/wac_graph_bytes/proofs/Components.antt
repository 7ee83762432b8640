-- A component that is written section by section.
use Rattle.std.proofs.Common.{◌≡◌, ℕ, List, ◌++◌, sym, ap, ◌∙◌, append_assoc}
use Rattle.std.specs.List.{flat_map}
use Rattle.std.proofs.lemmas.List.Concat.{flat_map-append}
use Rattle.wac_graph_bytes.specs.Entries.{Section}
use Rattle.wac_graph_bytes.specs.Spelling.{section_bytes, preamble, component_bytes}

-- six pieces, one after another
pub six_pieces : (o s1 s2 s3 s4 s5 s6 a b c d e f : List ℕ) → s1 ≡ o ++ a → s2 ≡ s1 ++ b → s3 ≡ s2 ++ c → s4 ≡ s3 ++ d → s5 ≡ s4 ++ e → s6 ≡ s5 ++ f
    → s6 ≡ o ++ (a ++ (b ++ (c ++ (d ++ (e ++ f)))))
six_pieces o s1 s2 s3 s4 s5 s6 a b c d e f h1 h2 h3 h4 h5 h6 =
    let all : s6 ≡ (((((o ++ a) ++ b) ++ c) ++ d) ++ e) ++ f = cc in
    all ∙ simp append_assoc

four_pieces : (o s1 s2 s3 s4 a b c d : List ℕ) → s1 ≡ o ++ a → s2 ≡ s1 ++ b → s3 ≡ s2 ++ c → s4 ≡ s3 ++ d → s4 ≡ o ++ (a ++ (b ++ (c ++ d)))
four_pieces o s1 s2 s3 s4 a b c d h1 h2 h3 h4 =
    let all : s4 ≡ (((o ++ a) ++ b) ++ c) ++ d = cc in
    all ∙ simp append_assoc

-- the preamble, and sections in three parts
pub whole_component : (old s1 s2 s3 new : List ℕ) (as' bs cs : List Section) → s1 ≡ old ++ preamble → s2 ≡ s1 ++ flat_map section_bytes as' → s3 ≡ s2 ++ flat_map section_bytes bs → new ≡ s3 ++ flat_map section_bytes cs
    → new ≡ old ++ component_bytes (as' ++ (bs ++ cs))
unfolding component_bytes
whole_component old s1 s2 s3 new as' bs cs h1 h2 h3 h4 =
    four_pieces old s1 s2 s3 new preamble (flat_map section_bytes as') (flat_map section_bytes bs) (flat_map section_bytes cs) h1 h2 h3 h4
    ∙ ap (λ (t : List ℕ). old ++ (preamble ++ (flat_map section_bytes as' ++ t))) (sym (flat_map-append section_bytes bs cs))
    ∙ ap (λ (t : List ℕ). old ++ (preamble ++ t)) (sym (flat_map-append section_bytes as' (bs ++ cs)))
