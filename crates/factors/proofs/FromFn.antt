-- What an array is that a closure makes, where each call leaves the closure as it was. Assumes nothing.
use Rattle.std.proofs.Common.{◌≡◌, ℕ, zero, suc, ◌+◌, ◌<◌, ◌≤◌, List, get_or, map, subst, sym, refl, ap, ◌∙◌, inl, inr, arith}
use Rattle.std.specs.Array.{IsFromFnResultFrom, IsFromFnResult}
use Rattle.std.specs.Fn.{Called, Mut}
use Rattle.std.specs.List.{range_with_len}
use Rattle.std.proofs.lemmas.Bool.{cases_eq}
use Rattle.std.proofs.lemmas.List.FromFn.{fill_by_all}

module _ {F B : Type 0} (g : Mut F (ℕ × Unit {0}) B) (at : ℕ → B) (f : F) (n : ℕ) (one : (i : ℕ) (y : B) (q : F) → i < n → Called g f (i, tt) y q → (y ≡ at i) × (q ≡ f)) where
  each : (ys : List B) (d : B) (m i : ℕ) (q : F) → i + m ≡ n → q ≡ f → IsFromFnResultFrom g q ys i m → (k : ℕ) → i ≤ k → k < n → get_or ys k d ≡ at k
  each ys d zero i q e same made k l h = absurd (omega arith)
  each ys d (suc m) i q e same (next, y, is, call, made) k l h =
      let now = one i y next (omega arith) (subst (λ p. Called g p (i, tt) y next) same call) in
      elim (cases_eq k i) [
        | inl here ↦ ap (λ j. get_or ys j d) here ∙ is.1 d ∙ now.0 ∙ ap at (sym here)
        | inr there ↦ each ys d m (i + 1) next (omega arith) now.1 made k (omega arith) h
      ]

  pub from_fn_same : (ys : List B) → IsFromFnResult g f ys n → ys ≡ map at (range_with_len 0 n)
  from_fn_same ys made = fill_by_all at ys n (at 0) made.long (λ k h. each ys (at 0) n 0 f (omega arith) refl made.each k (omega arith) h)
