-- How faults of writing follow from one another.
use Rattle.wac_graph_bytes.specs.declared.error.SizeError.{SizeError}
use Rattle.wac_graph_causes.specs.declared.error.Refusal.{Refusal}
use Rattle.wac_graph_scopes.specs.declared.error.WriteError.{WriteError}
use Rattle.wac_graph_encode.specs.declared.error.BytesError.{BytesError}

abbrev pub size_fault : SizeError → BytesError
size_fault SizeError.TooLarge = BytesError.TooLarge
size_fault SizeError.Memory = BytesError.Memory

abbrev pub write_fault : WriteError → BytesError
write_fault WriteError.Unwritable = BytesError.TypeNotWritten
write_fault WriteError.Memory = BytesError.Memory

abbrev pub bytes_refusal : BytesError → Refusal
bytes_refusal BytesError.TypeNotWritten = Refusal.TypeNotWritten
bytes_refusal BytesError.TooLarge = Refusal.TooLarge
bytes_refusal BytesError.Memory = Refusal.Memory
