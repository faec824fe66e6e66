-- Which exception word of a kind 4 image is wrong, in document 02's words (CR 1): ws are the words in their order, the empty ones too; ns are the nibbles.
use Rattle.std.specs.Prelude.{ℕ, ◌+◌, Bool, false, List, eqb, leb, ltb, length, get_or}
use Rattle.model.specs.Pick.{pick, some, differ, first}
use Rattle.model.specs.Coupon.{value, home, is_empty}
use Rattle.model.specs.Table.{filled}
use Rattle.model.specs.Answers.{Said, said}

-- a word is an entry for slot h of k
unfoldable pub lists : ℕ → ℕ → ℕ → Bool
lists k h w = pick (is_empty w) false (eqb (home k w) h)

-- such an entry stands among the first n words
abbrev pub listed : ℕ → List ℕ → ℕ → ℕ → Bool
listed k ws n h = some (λ j. lists k h (get_or ws j 0)) n

-- what is wrong with word i, or 0: AUX_EMPTY, where the second form passes over the word; AUX_TWICE; AUX_LOW
unfoldable pub fault_at : Bool → ℕ → ℕ → List ℕ → ℕ → ℕ
fault_at compact k low ws i =
    let w = get_or ws i 0 in
    pick (is_empty w) (pick compact 21 0)
    (pick (listed k ws i (home k w)) 22
    (pick (leb (low + 15) (value w)) 0 23))

-- slot s is in exactly one of two sets: its nibble is 15; a word is an entry for it
abbrev pub unmatched : ℕ → List ℕ → List ℕ → ℕ → Bool
unmatched k ws ns s = differ (eqb (get_or ns s 0) 15) (listed k ws (length ws) s)

-- the earliest word that is wrong, with its position; else AUX_COUNT; else AUX_MATCH with the smallest slot; else nothing
unfoldable pub aux_fault : Bool → ℕ → ℕ → ℕ → List ℕ → List ℕ → Said
aux_fault compact k low count ws ns =
    let i = first (λ i. ltb 0 (fault_at compact k low ws i)) (length ws) in
    let s = first (unmatched k ws ns) k in
    pick (ltb i (length ws)) (said (fault_at compact k low ws i) i)
    (pick (eqb (length (filled ws)) count) (pick (ltb s k) (said 25 s) (said 0 0)) (said 24 0))
