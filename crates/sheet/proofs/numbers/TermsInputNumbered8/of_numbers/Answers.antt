use Rattle.std.proofs.Common.{rules}
use Rattle.sheet.proofs.ListedNumbers.{eight}
use Rattle.sheet.proofs.numbers.TermsInputNumbered8.of_numbers.Goals as goal

pub returns : goal.returns
returns c = search (rules, eight)
