-- The least of some elements by a number is that of one of them, and none has a smaller number. Assumes nothing.
use Rattle.std.proofs.Common.{◌≡◌, ℕ, ◌<◌, ◌≤◌, ltb, List, ◌∷◌, length, get_or, sym, ap, ◌∙◌, arith}
use Rattle.std.specs.List.{best_of}
use Rattle.std.proofs.lemmas.Bool.{ltb-false}
use Rattle.std.proofs.lemmas.List.{get_or_default}
use Rattle.std.proofs.lemmas.List.MinMax.{IsStrictWeakOrder-by_number, IsFirstBest-from_best_of}

pub record LowestOf (n : ℕ) (f : ℕ → ℕ) (low : ℕ) : Type 0 where
  pub place : ℕ
  pub within : place < n
  pub reached : low ≡ f place
  pub below : (k : ℕ) → k < n → low ≤ f k

pub least_lowest : {X : Type 0} (number : X → ℕ) (x : X) (xs : List X) (d : X) → LowestOf (length (x ∷ xs)) (λ k. number (get_or (x ∷ xs) k d)) (number (best_of (λ x y. ltb (number x) (number y)) x xs))
least_lowest number x xs d =
    let best = IsFirstBest-from_best_of (IsStrictWeakOrder-by_number number) x xs in
    record {
      place = best.0;
      within = best.1.0;
      reached = ap number (sym best.2) ∙ ap number (get_or_default (x ∷ xs) best.0 x d best.1.0);
      below = λ k l. omega (arith, ltb-false (number (get_or (x ∷ xs) k x)) (number (get_or (x ∷ xs) best.0 x)) (best.1.1 k x l), ap number best.2, ap number (get_or_default (x ∷ xs) k x d l));
    }
