-- The claim: the book agrees with the Rust, or with what was worked out by hand, on every case. (In parts, since the checker bounds the steps of one computation.)
use Rattle.std.specs.Prelude.{◌≡◌, true}
use Rattle.model_cases.specs.Play.{agrees_all}
use Rattle.model_cases.specs.Cases.{cases0, cases1, cases2, cases3, cases4}

-- on every case of the five lists
abbrev pub Agreed : Type 0
Agreed = (agrees_all cases0 ≡ true) × ((agrees_all cases1 ≡ true) × ((agrees_all cases2 ≡ true) × ((agrees_all cases3 ≡ true) × (agrees_all cases4 ≡ true))))
