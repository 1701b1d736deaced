-- What the writers answer, and what the buffer then holds. Assumes nothing.
use Rattle.std.specs.Prelude.{◌≡◌, ℕ, List, length, take, Some, None, Ok, Err, Result}
use Rattle.template.specs.Templates.{onto, refused_text, WrittenText}
use Rattle.template.specs.declared.fault.WriteFault.{WriteFault}
use Rattle.sheet.specs.Lines.{IsLine, Said, line_numbers, said_by, text}
use Rattle.sheet.specs.declared.line.Line.{Line}

-- The bytes that were written are the line. The reader answers every line with what it says, so they read back.
abbrev pub Wrote : Said → List ℕ → Result ℕ WriteFault → Type 0
Wrote said after (Ok n) = IsLine (take n after) said
Wrote said after (Err fault) = Unit {0}

-- The line's text is written, or refused, as any text; and what was written is the line.
pub record Written (said : Said) (before after : List ℕ) (r : Result ℕ WriteFault) : Type 0 where
  pub text_put : WrittenText (line_numbers said) (text said) before after r
  pub is_line : Wrote said after r

-- A line that was written and read again says the same, and its text stands in the buffer. It is refused where the writer refuses it,
-- and the buffer is then as it was.
abbrev pub SaidAgain : Said → List ℕ → List ℕ → Result Line WriteFault → Type 0
SaidAgain said before after (Ok line) =
    (refused_text (line_numbers said) (text said) (length before) ≡ None) × (after ≡ onto (text said) before) × (said_by line ≡ said)
SaidAgain said before after (Err fault) = (refused_text (line_numbers said) (text said) (length before) ≡ Some fault) × (after ≡ before)
