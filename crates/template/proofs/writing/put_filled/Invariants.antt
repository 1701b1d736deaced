-- What has been put and what is left to put are the text.
use Rattle.std.proofs.Common.{◌≡◌, ◌++◌, drop}
use Rattle.template.specs.Templates.{fill}
use Rattle.template.proofs.writing.put_filled.Given as goal

abbrev pub invariant-loop-b : goal.invariant-loop-b
invariant-loop-b l = l.text.items ++ fill (drop l.b-index l.template) l.left.rest.now ≡ l.initial.text.items ++ fill l.template l.numbers
