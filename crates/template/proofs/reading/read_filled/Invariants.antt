-- What is left of the template and of the bytes decides; the numbers behind those so far are the lent ones.
use Rattle.std.proofs.Common.{◌≡◌, ◌≤◌, length, take, drop}
use Rattle.template.proofs.FilledRead.{SoFar}
use Rattle.template.proofs.reading.read_filled.Given as goal

abbrev pub invariant-loop-t : goal.invariant-loop-t
invariant-loop-t l =
    SoFar l.template l.bytes l.t-index l.rest (take l.count l.numbers)
    × (l.count ≤ length l.numbers)
    × (length l.numbers ≡ length l.initial.numbers)
    × (drop l.count l.numbers ≡ drop l.count l.initial.numbers)
