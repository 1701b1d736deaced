-- What the reader answers, in the grammar's words. Assumes nothing.
use Rattle.std.specs.Prelude.{◌≡◌, ℕ, ◌<◌, ◌≤◌, List, length, Some, None, Ok, Err, Option, Result}
use Rattle.form.specs.Grammar.{IsForm}
use Rattle.form.specs.Misfits.{Wrong, digits_allowed, depth_allowed}
use Rattle.template.specs.Templates.{longest}
use Rattle.sheet.specs.Lines.{IsLine, Said, said_by}
use Rattle.sheet.specs.declared.faults.ReadFault.{ReadFault}
use Rattle.sheet.specs.declared.faults.ReadFault.TheVariants.{TooLong, Unfit, NotALine}
use Rattle.sheet.specs.declared.line.Line.{Line}

-- Why bytes are refused: they are more than 200; else they are no form, and this is the first byte that does not fit, or their length
-- where they end early; else they are a form, and no line.
abbrev pub Refused : List ℕ → ReadFault → Type 0
Refused bytes TooLong = longest < length bytes
Refused bytes (Unfit misfit) = (length bytes ≤ longest) × Wrong bytes misfit.byte misfit.kind
Refused bytes NotALine =
    (length bytes ≤ longest) × IsForm digits_allowed depth_allowed bytes × ((said : Said) → IsLine bytes said → ⊥)

-- The answer is right: a line that the bytes are, or why they are none.
abbrev pub Answered : List ℕ → Result Line ReadFault → Type 0
Answered bytes (Ok line) = IsLine bytes (said_by line)
Answered bytes (Err fault) = Refused bytes fault

-- What the line in an answer says.
abbrev pub said_in : Result Line ReadFault → Option Said
said_in (Ok line) = Some (said_by line)
said_in (Err fault) = None

-- Bytes that are a line are read as what it says.
abbrev pub ReadsEveryLine : List ℕ → Result Line ReadFault → Type 0
ReadsEveryLine bytes r = (said : Said) → IsLine bytes said → said_in r ≡ Some said
