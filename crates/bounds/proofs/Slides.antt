-- The kept window as one more frequency comes. Assumes nothing.
use Rattle.std.proofs.Common.{◌≡◌, ℕ, ◌+◌, ◌-◌, ◌≤◌, min, Bool, true, false, List, [], ◌∷◌, ◌++◌, length, take, drop, set, ℤ, sym, refl, ap, ◌∙◌, arith}
use Rattle.std.proofs.lemmas.List.{set_at, drop-append-le, drop-drop, length-drop, drop_all}
use Rattle.bounds.specs.Kept.{slid}

one : (fs : List ℤ) → 1 ≤ length fs → (x : ℤ) × (take 1 fs ≡ x ∷ [])
one [] h = absurd (omega arith)
one (x ∷ fs) h = (x, refl)

-- the oldest goes, the newest stands last, and b before it are in the window
pub turned : (fs : List ℤ) (b : ℕ) (f : ℤ) → length fs ≡ 11 → b ≤ 10 → drop (11 - (b + 1)) (set (drop 1 fs ++ take 1 fs) 10 f) ≡ drop (11 - b) fs ++ f ∷ []
turned fs b f l h =
    let o = one fs (omega arith) in
    let short : length (drop 1 fs) ≡ 10 = length-drop 1 fs ∙ omega arith in
    let put : set (drop 1 fs ++ take 1 fs) 10 f ≡ drop 1 fs ++ f ∷ [] = ap (λ ys. set (drop 1 fs ++ ys) 10 f) o.1 ∙ set_at (drop 1 fs) o.0 [] f 10 short in
    let cut : drop (11 - (b + 1)) (drop 1 fs ++ f ∷ []) ≡ drop (11 - (b + 1)) (drop 1 fs) ++ f ∷ [] = drop-append-le (11 - (b + 1)) (drop 1 fs) (f ∷ []) (omega arith) in
    let both : drop (11 - (b + 1)) (drop 1 fs) ≡ drop (1 + (11 - (b + 1))) fs = drop-drop (11 - (b + 1)) 1 fs in
    let n : 1 + (11 - (b + 1)) ≡ 11 - b = omega arith in
    ap (drop (11 - (b + 1))) put ∙ cut ∙ ap (λ ys. ys ++ f ∷ []) (both ∙ ap (λ k. drop k fs) n)

pub after_a_gap : (fs : List ℤ) (count lag : ℕ) (f : ℤ) → length fs ≡ 11 → drop (11 - 0) fs ++ f ∷ [] ≡ slid lag true (drop (11 - count) fs) f
after_a_gap fs count lag f l = ap (λ ys. ys ++ f ∷ []) (drop_all 11 fs (omega arith))

pub on_the_next : (fs : List ℤ) (count b lag : ℕ) (f : ℤ) → length fs ≡ 11 → count ≤ 11 → b ≡ min count lag → drop (11 - b) fs ++ f ∷ [] ≡ slid lag false (drop (11 - count) fs) f
on_the_next fs count b lag f l few e =
    let n : length (drop (11 - count) fs) - lag ≡ count - lag = ap (λ k. k - lag) (length-drop (11 - count) fs ∙ omega arith) in
    let k : (11 - count) + (length (drop (11 - count) fs) - lag) ≡ 11 - b = omega arith in
    ap (λ ys. ys ++ f ∷ []) (sym (drop-drop (length (drop (11 - count) fs) - lag) (11 - count) fs ∙ ap (λ m. drop m fs) k))

pub gap_taken : (fs turn : List ℤ) (count b lag : ℕ) (g : Bool) (f f' : ℤ) → length fs ≡ 11 → turn ≡ drop 1 fs ++ take 1 fs → f' ≡ f → b ≡ 0 → g ≡ true → drop (11 - (b + 1)) (set turn 10 f') ≡ slid lag g (drop (11 - count) fs) f
gap_taken fs turn count b lag g f f' l et ef eb eg = rw (et, ef, eb, eg) (turned fs 0 f l (omega arith) ∙ after_a_gap fs count lag f l)

pub next_taken : (fs turn : List ℤ) (count b lag : ℕ) (g : Bool) (f f' : ℤ) → length fs ≡ 11 → count ≤ 11 → lag ≤ 10 → turn ≡ drop 1 fs ++ take 1 fs → f' ≡ f → b ≡ min count lag → g ≡ false → drop (11 - (b + 1)) (set turn 10 f') ≡ slid lag g (drop (11 - count) fs) f
next_taken fs turn count b lag g f f' l few hl et ef eb eg = rw (et, ef, eg) (turned fs b f l (omega arith) ∙ on_the_next fs count b lag f l few eb)
