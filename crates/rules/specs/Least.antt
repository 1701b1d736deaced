-- The least of a run, ties to the earliest. Assumes nothing.
use Rattle.std.specs.Prelude.{◌≡◌, ℕ, Bool, List, [], ◌∷◌, length, Some, None, Option, slice_index_or}
use Rattle.std.specs.List.{best_of, IsFirstBest}

-- The first element that no other comes before: a later one takes its place only if it comes before it.
abbrev pub least : {X : Type 0} → (X → X → Bool) → List X → Option X
least before [] = None
least before (x ∷ xs) = Some (best_of before x xs)

-- What that is: an empty run has none; else it stands at some place of the run, no element comes before it, and it comes
-- before every element that stands earlier.
abbrev pub EarliestLeast : {X : Type 0} → (X → X → Bool) → List X → Option X → Type 0
EarliestLeast before xs None = xs ≡ []
EarliestLeast before xs (Some x) = (b : ℕ) × IsFirstBest before xs (length xs) b × (slice_index_or xs b x ≡ x)
