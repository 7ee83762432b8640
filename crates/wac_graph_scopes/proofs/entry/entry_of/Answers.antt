use Rattle.std.proofs.Common.{ap, sym, ◌∙◌}
use Rattle.std.proofs.lemmas.Result.{IfOk-weaker}
use Rattle.wac_graph_bytes.specs.Entries.{RecordEntry, VariantEntry, FlagsEntry, EnumEntry}
use Rattle.wac_graph_scopes.specs.Forms.{entry_of, params_with, cases_with}
use Rattle.wac_graph_scopes.proofs.entry.entry_of.Goals as goal

pub returns-in-Tuple : goal.returns-in-Tuple
returns-in-Tuple c = IfOk-weaker c.tuple_entry.result _ _ (λ e h. h ∙ ap (λ x. entry_of x c.args.places.now) (sym c.in-Tuple.is)) c.tuple_entry.ensures

pub returns-in-Variant : goal.returns-in-Variant
returns-in-Variant c = IfOk-weaker c.variant_entry.result _ _ (λ e h. h ∙ ap (λ ns. VariantEntry (cases_with ns c.args.places.now)) c.names.ensures ∙ ap (λ x. entry_of x c.args.places.now) (sym c.in-Variant.is)) c.variant_entry.ensures

pub returns-in-Record : goal.returns-in-Record
returns-in-Record c = IfOk-weaker c.record_entry.result _ _ (λ e h. h ∙ ap (λ ns. RecordEntry (params_with ns c.args.places.now)) c.names-in-Record.ensures ∙ ap (λ x. entry_of x c.args.places.now) (sym c.in-Record.is)) c.record_entry.ensures

pub returns-in-Flags : goal.returns-in-Flags
returns-in-Flags c = IfOk-weaker c.flags_entry.result _ _ (λ e h. h ∙ ap (FlagsEntry) c.as_slice.ensures ∙ ap (λ x. entry_of x c.args.places.now) (sym c.in-Flags.is)) c.flags_entry.ensures

pub returns-in-Enum : goal.returns-in-Enum
returns-in-Enum c = IfOk-weaker c.enum_entry.result _ _ (λ e h. h ∙ ap (EnumEntry) c.as_slice-in-Enum.ensures ∙ ap (λ x. entry_of x c.args.places.now) (sym c.in-Enum.is)) c.enum_entry.ensures
