-- The faults of a sheet: the number of each, and the byte at which it is reported. Assumes nothing.
use Rattle.std.specs.Prelude.{ℕ}
use Rattle.curve.specs.Loading.{fault_number}
use Rattle.form.specs.Misfits.{kind_number}
use Rattle.rules.specs.ReadingsCheck.{sample_number}
use Rattle.rules.specs.TermsCheck.{terms_number}
use Rattle.template.specs.Templates.{longest}
use Rattle.sheet.specs.declared.faults.Cause.{Cause}
use Rattle.sheet.specs.declared.faults.Cause.TheVariants.{Read, Terms, Points, Sample, OutOfPlace}
use Rattle.sheet.specs.declared.faults.ReadFault.{ReadFault}
use Rattle.sheet.specs.declared.faults.ReadFault.TheVariants.{TooLong, Unfit, NotALine}
use Rattle.sheet.specs.declared.faults.SheetFault.{SheetFault}

-- The reader's faults: the number of each, and its byte.
abbrev pub read_fault_number : ReadFault → ℕ
read_fault_number TooLong = 19
read_fault_number (Unfit misfit) = kind_number misfit.kind
read_fault_number NotALine = 24

abbrev pub read_byte : ReadFault → ℕ
read_byte TooLong = longest
read_byte (Unfit misfit) = misfit.byte
read_byte NotALine = 1

-- Each layer keeps its own numbers; 25 is the sheet's.
abbrev pub cause_number : Cause → ℕ
cause_number (Read fault) = read_fault_number fault
cause_number (Terms fault) = terms_number fault
cause_number (Points fault) = fault_number fault
cause_number (Sample fault) = sample_number fault
cause_number OutOfPlace = 25

-- The reader says its byte; all other faults stand at byte 0.
abbrev pub cause_byte : Cause → ℕ
cause_byte (Read fault) = read_byte fault
cause_byte (Terms fault) = 0
cause_byte (Points fault) = 0
cause_byte (Sample fault) = 0
cause_byte OutOfPlace = 0

-- The fault of a line, counted from 1.
abbrev pub fault_at : ℕ → Cause → SheetFault
fault_at line cause = record { line = line; byte = cause_byte cause; cause = cause }
