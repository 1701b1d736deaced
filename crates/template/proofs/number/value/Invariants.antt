-- What is left to read comes to the value.
use Rattle.std.proofs.Common.{◌≡◌, ◌^◌, ◌<◌, true, drop}
use Rattle.std.specs.Str.{all_ascii_digits}
use Rattle.template.specs.Numbers.{read_on}
use Rattle.template.proofs.number.value.Given as goal

abbrev pub invariant-loop-d : goal.invariant-loop-d
invariant-loop-d l =
    (read_on l.n (drop l.d-index l.digits) ≡ read_on 0 l.digits)
    × (all_ascii_digits (drop l.d-index l.digits) ≡ true)
    × (l.n < 10 ^ l.d-index)
