-- A few things kept in place. Assumes nothing.
use Rattle.std.specs.Prelude.{ℕ, List, take}
use Rattle.basics.specs.declared.few.Few.{Few}

-- The things that are kept, in their order.
abbrev pub items : {T : Type 0} {N : ℕ} → Few T N → List T
items f = take f.count f.places
