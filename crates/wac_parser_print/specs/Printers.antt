-- What printing does to a printer.
use Rattle.std.specs.Prelude.{◌≡◌, Bool, true, false, ℕ, List, Option, Result, Ok, Err}
use Rattle.std.specs.Io.KnownBytes.{Appends}
use Rattle.wac_parser_print.specs.Texts.{Layout, Text}
use Rattle.wac_streams.specs.Calls.{Calls, NoneFailed, FailedOnce, AppendsPrefix}
use Rattle.wac_parser_print.specs.declared.error.PrintError.{PrintError}
use Rattle.wac_parser_print.specs.declared.error.PrintError.TheVariants as error

-- a printer: its layout, whether a write failed, and what its writer holds and tells of its calls, where that is known
pub record Printer : Type 0 where
  pub layout : Layout
  pub failed : Bool
  pub written : Option (List ℕ)
  pub calls : Option Calls

-- The whole text was written, and no write failed.
pub record IsPrinted (old : Printer) (text : Text) (new : Printer) : Type 0 where
  pub ready : old.failed ≡ false
  pub goes_on : new.failed ≡ false
  pub layout : new.layout ≡ old.layout
  pub written : Appends old.written new.written (text old.layout)
  pub none_failed : NoneFailed old.calls new.calls

-- A front of the text was written; then a write failed or took nothing.
pub record IsStopped (old : Printer) (text : Text) (new : Printer) : Type 0 where
  pub ready : old.failed ≡ false
  pub gives_up : new.failed ≡ true
  pub layout : new.layout ≡ old.layout
  pub written : AppendsPrefix old.written new.written (text old.layout)
  pub failed_once : FailedOnce old.calls new.calls

-- A printer that had failed stays as it is.
pub record IsRefused (old : Printer) (new : Printer) : Type 0 where
  pub failed : old.failed ≡ true
  pub kept : new ≡ old

-- what a text adds to a printer
pub data Adds (old : Printer) (text : Text) (new : Printer) : Type 0 where
  printed : IsPrinted old text new → Adds old text new
  stopped : IsStopped old text new → Adds old text new
  refused : IsRefused old new → Adds old text new

-- what a printer answers that had failed, or not, before a text and behind it
abbrev pub Tells : {T : Type 0} → (before behind : Bool) → Result T PrintError → Type 0
Tells before behind (Ok x) = (before ≡ false) × (behind ≡ false)
Tells before behind (Err error.Write) = (before ≡ false) × (behind ≡ true)
Tells before behind (Err error.Failed) = before ≡ true

-- what printing a text does, by its answer
abbrev pub Prints : {T : Type 0} → Printer → Text → Result T PrintError → Printer → Type 0
Prints old text (Ok x) new = IsPrinted old text new
Prints old text (Err error.Write) new = IsStopped old text new
Prints old text (Err error.Failed) new = IsRefused old new
