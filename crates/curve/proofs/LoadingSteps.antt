-- One more point looked at, for the loops that look at points in turn.
use Rattle.std.proofs.Common.{◌≡◌, ℕ, ◌+◌, ◌-◌, ◌<◌, ◌≤◌, Bool, true, false, ◌&&◌, List, [], ◌∷◌, length, get_or, drop, ℤ, pos, sym, refl, ap, ◌∙◌, arith}
use Rattle.std.proofs.lemmas.List.{drop_more}
use Rattle.curve.specs.Loading.{last_parts, full_parts}
use Rattle.curve.specs.declared.loading.Point.{Point}

-- What stands past the end of points.
abbrev pub no_point : Point
no_point = record { deviation = pos 0; parts = pos 0 }

-- A test of each point against a number of the one before.
pub record InTurn (all : ℤ → List Point → Bool) (one : ℤ → Point → Bool) (number : Point → ℤ) : Type 0 where
  pub turn : (before : ℤ) (p : Point) (ps : List Point) → all before (p ∷ ps) ≡ (one before p && all (number p) ps)

pub turn_met : (all : ℤ → List Point → Bool) (one : ℤ → Point → Bool) (number : Point → ℤ) → InTurn all one number
    → (before : ℤ) (ps : List Point) (i : ℕ) → i < length ps → one before (get_or ps i no_point) ≡ true
    → all before (drop i ps) ≡ all (number (get_or ps i no_point)) (drop (i + 1) ps)
turn_met all one number in_turn before ps i inside met =
    ap (all before) (drop_more ps i no_point inside)
    ∙ (in_turn.turn before (get_or ps i no_point) (drop (i + 1) ps)
    ∙ ap (λ b. b && all (number (get_or ps i no_point)) (drop (i + 1) ps)) met)

pub turn_not_met : (all : ℤ → List Point → Bool) (one : ℤ → Point → Bool) (number : Point → ℤ) → InTurn all one number
    → (before : ℤ) (ps : List Point) (i : ℕ) → i < length ps → one before (get_or ps i no_point) ≡ false
    → all before (drop i ps) ≡ false
turn_not_met all one number in_turn before ps i inside failed =
    ap (all before) (drop_more ps i no_point inside)
    ∙ (in_turn.turn before (get_or ps i no_point) (drop (i + 1) ps)
    ∙ ap (λ b. b && all (number (get_or ps i no_point)) (drop (i + 1) ps)) failed)

-- The last parts are those of the last point.
last_parts_at : (before : ℤ) (p : Point) (ps : List Point) (d : Point) → last_parts before (p ∷ ps) ≡ (get_or (p ∷ ps) (length ps) d).parts
last_parts_at before p [] d = refl
last_parts_at before p (q ∷ qs) d = last_parts_at p.parts q qs d

pub full_parts_at : (ps : List Point) (last : Point) → 0 < length ps → last ≡ get_or ps (length ps - 1) last → last.parts ≡ full_parts ps
full_parts_at [] last some is = absurd (omega arith)
full_parts_at (p ∷ ps) last some is =
    let n : length (p ∷ ps) - 1 ≡ length ps = omega arith in
    ap (λ q. q.parts) is ∙ (ap (λ i. (get_or (p ∷ ps) i last).parts) n ∙ sym (last_parts_at (pos 0) p ps last))

pub full_parts_none : (ps : List Point) → length ps ≤ 0 → pos 0 ≡ full_parts ps
full_parts_none [] none = refl
full_parts_none (p ∷ ps) none = absurd (omega arith)
