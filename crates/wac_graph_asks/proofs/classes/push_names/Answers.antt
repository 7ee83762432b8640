use Rattle.std.proofs.Common.{◌≡◌, ◌++◌, ℕ, length, map, take, ap, sym, ◌∙◌, arith}
use Rattle.std.proofs.Math.Seq.{take-length}
use Rattle.std.proofs.lemmas.Simd.{map-map}
use Rattle.wac_graph_asks.specs.AsksIn.{ask_in}
use Rattle.wac_graph_asks.specs.Words.{words_of}
use Rattle.wac_graph_asks.specs.Named.{all_words}
use Rattle.wac_graph_asks.proofs.classes.push_names.Goals as goal

pub returns : goal.returns
returns c =
    let types = c.args.types.now in
    let asks = c.args.asks.now in
    let old = all_words c.args.names.now.items in
    let all : c.loop-ask.ask-index ≡ length asks = omega arith in
    c.loop-ask.invariant
    ∙ ap (λ (n : ℕ). old ++ map (λ a. words_of (ask_in types a)) (take n asks)) all
    ∙ ap (λ xs. old ++ map (λ a. words_of (ask_in types a)) xs) (take-length asks)
    ∙ ap (λ ws. old ++ ws) (sym (map-map words_of (ask_in types) asks))
