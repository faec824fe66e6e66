-- A sketch means a list of k registers, each 0 to 63. This is what coupons and merges do to it, and what is counted of it.
use Rattle.std.specs.Prelude.{ℕ, suc, min, max, ◌%◌, List, [], ◌∷◌, get_or, set, eqb, leb}
use Rattle.model.specs.Pick.{pick}
use Rattle.model.specs.Coupon.{value, home}

-- register s raised to v, if v is larger
unfoldable pub raise : List ℕ → ℕ → ℕ → List ℕ
raise R s v = set R s (max (get_or R s 0) v)

-- coupons taken one after the other into k registers
unfoldable pub fed : ℕ → List ℕ → List ℕ → List ℕ
fed k R [] = R
fed k R (c ∷ cs) = fed k (raise R (home k c) (value c)) cs

-- a source's registers i, i + 1, .. taken into k registers
unfoldable pub poured : ℕ → List ℕ → ℕ → List ℕ → List ℕ
poured k R i [] = R
poured k R i (v ∷ vs) = poured k (raise R (i % k) v) (suc i) vs

-- a whole source taken into k registers: source slot s goes to s modulo k, the larger value wins
abbrev pub joined : ℕ → List ℕ → List ℕ → List ℕ
joined k R source = poured k R 0 source

-- the largest value among the coupons for register s of k, or zero
unfoldable pub largest : ℕ → ℕ → List ℕ → ℕ
largest k s [] = 0
largest k s (c ∷ cs) = let r = largest k s cs in pick (eqb (home k c) s) (max (value c) r) r

-- the least register (63 at most)
unfoldable pub least : List ℕ → ℕ
least [] = 63
least (v ∷ vs) = min v (least vs)

-- how many are n
unfoldable pub count_of : ℕ → List ℕ → ℕ
count_of n [] = 0
count_of n (v ∷ vs) = let r = count_of n vs in pick (eqb v n) (suc r) r

-- how many are at or above n
unfoldable pub above : ℕ → List ℕ → ℕ
above n [] = 0
above n (v ∷ vs) = let r = above n vs in pick (leb n v) (suc r) r
