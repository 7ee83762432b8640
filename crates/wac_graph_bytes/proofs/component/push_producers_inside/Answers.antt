use Rattle.std.proofs.Common.{◌≡◌, ◌++◌, ℕ, List, ap, arith, ◌∙◌}
use Rattle.std.specs.Prelude.{string_bytes}
use Rattle.std.proofs.lemmas.Bool.{and_from}
use Rattle.wac_graph_bytes.specs.declared.error.SizeError.TheVariants.{Memory}
use Rattle.wac_graph_bytes.specs.Spelling.{name}
use Rattle.wac_graph_bytes.specs.Sizes.{name_fits}
use Rattle.wac_graph_bytes.proofs.Components.{six_pieces}
use Rattle.wac_graph_bytes.proofs.Texts.{producers_fits, processed_by_fits, memory_alone}
use Rattle.wac_graph_bytes.proofs.component.push_producers_inside.Goals as goal

pub returns : goal.returns
returns c =
    let v3 = c.as_str.ensures.value in
    let v4 = c.as_str-2.ensures.value in (
      six_pieces _ _ _ _ _ _ _ _ _ _ _ _ _ c.in_ok-push_name.ensures.0 c.in_ok-push_unsigned.ensures.0 c.in_ok-push_name-2.ensures.0 c.in_ok-push_unsigned-2.ensures.0
          (c.in_ok-push_name-3.ensures.0 ∙ ap (λ (t : List ℕ). c.push_unsigned-2.new.out.items ++ name t) v3)
          (c.in_ok-push_name-4.ensures.0 ∙ ap (λ (t : List ℕ). c.push_name-3.new.out.items ++ name t) v4),
      and_from (name_fits (string_bytes c.args.processor.now.name)) (name_fits (string_bytes c.args.processor.now.version)) (rw (← v3) c.in_ok-push_name-3.ensures.1) (rw (← v4) c.in_ok-push_name-4.ensures.1),
    )

pub returns-in_err-push_name : goal.returns-in_err-push_name
returns-in_err-push_name c =
    let memory : c.in_err-push_name.field-0.0 ≡ Memory = memory_alone c.in_err-push_name.field-0.0 _ _ _ _ producers_fits c.in_err-push_name.ensures in
    grind (arith, memory)

pub returns-in_err-push_name-2 : goal.returns-in_err-push_name-2
returns-in_err-push_name-2 c =
    let memory : c.in_err-push_name-2.field-0.0 ≡ Memory = memory_alone c.in_err-push_name-2.field-0.0 _ _ _ _ processed_by_fits c.in_err-push_name-2.ensures in
    grind (arith, memory)
