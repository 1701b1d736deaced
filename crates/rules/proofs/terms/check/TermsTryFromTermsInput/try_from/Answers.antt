use Rattle.std.proofs.Common.{◌≡◌, None, rules}
use Rattle.rules.specs.TermsCheck.{refused_terms}
use Rattle.rules.proofs.TermsFacts.{kept, kept_sound}
use Rattle.rules.proofs.terms.check.TermsTryFromTermsInput.try_from.Goals as goal

pub invariant_of-result : goal.invariant_of-result
invariant_of-result c = record { checked = search (rules, kept_sound) }

pub returns : goal.returns
returns c = let none : refused_terms c.args.input ≡ None = search rules in (none, search kept)
