-- What is said of a contract. Assumes nothing.
use Rattle.rules.specs.declared.terms.Contract.{Contract}
use Rattle.rules.specs.declared.terms.Contract.TheVariants.{Low, High}

-- Of what is said of low and of high, what is said of this contract.
abbrev pub picked : {X : Type 0} → Contract → X → X → X
picked Low low high = low
picked High low high = high
