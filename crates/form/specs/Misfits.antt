-- The first byte that does not fit, and what is wrong with it, in the grammar's words. Assumes nothing.
use Rattle.std.specs.Prelude.{◌≡◌, ℕ, ◌+◌, ◌<◌, ◌≤◌, true, false, ◌⊎◌, List, ◌++◌, length, take, Ok, Err, Result, slice_index}
use Rattle.form.specs.Alphabet.{in_alphabet}
use Rattle.form.specs.Grammar.{IsForm}
use Rattle.form.specs.declared.misfit.Misfit.{Misfit}
use Rattle.form.specs.declared.misfit.Kind.{Kind}
use Rattle.form.specs.declared.misfit.Kind.TheVariants.{Alien, Misplaced, TooDeep, TooManyDigits}

-- A number of a sheet has at most ten digits, and forms stand in one another to depth four.
abbrev pub digits_allowed : ℕ
digits_allowed = 10

abbrev pub depth_allowed : ℕ
depth_allowed = 4

-- Some bytes after these make a form of them, of whatever length.
abbrev pub Completable : ℕ → ℕ → List ℕ → Type 0
Completable most deepest front = (rest : List ℕ) × IsForm most deepest (front ++ rest)

-- The first byte that does not fit: every front part of the bytes that ends before it can be completed to a form, and the one that ends
-- with it cannot.
pub record FirstMisfit (bytes : List ℕ) (at : ℕ) : Type 0 where
  pub inside : at < length bytes
  pub before : (k : ℕ) → k ≤ at → Completable digits_allowed depth_allowed (take k bytes)
  pub with_it : Completable digits_allowed depth_allowed (take (at + 1) bytes) → ⊥

-- The byte would fit, were one depth more allowed.
abbrev pub FitsDeeper : List ℕ → ℕ → Type 0
FitsDeeper bytes at = Completable digits_allowed (depth_allowed + 1) (take (at + 1) bytes)

-- It would fit, were one digit more allowed.
abbrev pub FitsLonger : List ℕ → ℕ → Type 0
FitsLonger bytes at = Completable (digits_allowed + 1) depth_allowed (take (at + 1) bytes)

-- The bytes can be completed, and are no form yet.
pub record EndsEarly (bytes : List ℕ) : Type 0 where
  pub before : Completable digits_allowed depth_allowed bytes
  pub no_form : IsForm digits_allowed depth_allowed bytes → ⊥

-- What is wrong at a byte, or at the length of bytes that end early. A byte outside the alphabet is that, whatever else holds; then
-- comes a depth too many, then a digit too many; all else is misplaced.
abbrev pub Wrong : List ℕ → ℕ → Kind → Type 0
Wrong bytes at Alien = FirstMisfit bytes at × (in_alphabet (slice_index bytes at) ≡ false)
Wrong bytes at TooDeep = FirstMisfit bytes at × (in_alphabet (slice_index bytes at) ≡ true) × FitsDeeper bytes at
Wrong bytes at TooManyDigits =
    FirstMisfit bytes at × (in_alphabet (slice_index bytes at) ≡ true) × (FitsDeeper bytes at → ⊥) × FitsLonger bytes at
Wrong bytes at Misplaced =
    (FirstMisfit bytes at × (in_alphabet (slice_index bytes at) ≡ true) × (FitsDeeper bytes at → ⊥) × (FitsLonger bytes at → ⊥))
    ⊎ ((at ≡ length bytes) × EndsEarly bytes)

-- The answer for these bytes: that they are a form, or where and how they fail to be one.
abbrev pub Checked : List ℕ → Result Unit Misfit → Type 0
Checked bytes (Ok _) = IsForm digits_allowed depth_allowed bytes
Checked bytes (Err misfit) = Wrong bytes misfit.byte misfit.kind

-- The number of each kind of misfit.
abbrev pub kind_number : Kind → ℕ
kind_number Alien = 20
kind_number Misplaced = 21
kind_number TooDeep = 22
kind_number TooManyDigits = 23
