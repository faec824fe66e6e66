-- The exception table of kind 4: a list of words of which 0 is the empty one, searched by an odd stride.
use Rattle.std.specs.Prelude.{◌≡◌, Bool, true, not, List, [], ◌∷◌, ◌++◌, ℕ, suc, ◌+◌, ◌-◌, ◌*◌, ◌/◌, ◌%◌, ◌^◌, ◌≤◌, ◌<◌, eqb, leb, length, get_or, set, replicate}
use Rattle.model.specs.Pick.{pick, first}
use Rattle.model.specs.Coupon.{value, slot, is_empty}

-- the base exponents for lg_k 0 to 26
abbrev pub bases : List ℕ
bases = 0 ∷ 2 ∷ 2 ∷ 2 ∷ 2 ∷ 2 ∷ 2 ∷ 3 ∷ 3 ∷ 3 ∷ 4 ∷ 4 ∷ 5 ∷ 5 ∷ 6 ∷ 7 ∷ 8 ∷ 9 ∷ 10 ∷ 11 ∷ 12 ∷ 13 ∷ 14 ∷ 15 ∷ 16 ∷ 17 ∷ 18 ∷ []

-- the least size of a table
unfoldable pub base_for : ℕ → ℕ
base_for lgk = 2 ^ get_or bases lgk 0

-- the least doubling of the base with 4 * count not above 3 * size
unfoldable pub size_for : ℕ → ℕ → ℕ
size_for base count = base * 2 ^ first (λ n. leb (4 * count) (3 * (base * 2 ^ n))) 32

-- no words while empty, else that size
unfoldable pub table_size : ℕ → ℕ → ℕ
table_size base count = pick (eqb count 0) 0 (size_for base count)

-- ---- the search
-- its step: slot / size, with its lowest bit set
abbrev pub stride : ℕ → ℕ → ℕ
stride size s = s / size / 2 * 2 + 1

-- where a walk by d from the place a is after n steps
unfoldable pub walk : ℕ → ℕ → ℕ → ℕ → ℕ
walk size d a n = (a + n * d) % size

-- a search for slot s ends at the word w: it is empty, or that slot's
abbrev pub stops : ℕ → ℕ → Bool
stops s w = pick (is_empty w) true (eqb (slot w) s)

-- how many steps by d the search for slot s goes from the place a
unfoldable pub steps_from : List ℕ → ℕ → ℕ → ℕ → ℕ
steps_from t s d a = first (λ n. stops s (get_or t (walk (length t) d a n) 0)) (length t)

-- where it then is
unfoldable pub place_from : List ℕ → ℕ → ℕ → ℕ → ℕ
place_from t s d a = walk (length t) d a (steps_from t s d a)

-- the place that the search for slot s yields, starting at s modulo size
unfoldable pub place : List ℕ → ℕ → ℕ
place t s = place_from t s (stride (length t) s) (s % length t)

-- the word there: 0 where the table has none for the slot
unfoldable pub word_at : List ℕ → ℕ → ℕ
word_at t s = get_or t (place t s) 0

-- ---- inserting, growing, rebuilding
-- how many words are not empty
unfoldable pub used : List ℕ → ℕ
used [] = 0
used (w ∷ ws) = let r = used ws in pick (is_empty w) r (suc r)

-- a word put where the search for its slot ends: a new word, or a replaced one
unfoldable pub replace : List ℕ → ℕ → List ℕ
replace t w = set t (place t (slot w)) w

-- the words of a list re-inserted in order, the empty ones passed over
unfoldable pub refill : List ℕ → List ℕ → List ℕ
refill into [] = into
refill into (w ∷ ws) = refill (pick (is_empty w) into (replace into w)) ws

-- growth: re-inserted in table order into a table twice the size
unfoldable pub grown : List ℕ → List ℕ
grown t = refill (replicate (length t + length t) 0) t

-- a new word: put in first; then the table grows, if more than three quarters are used
unfoldable pub insert : List ℕ → ℕ → List ℕ
insert t w = let i = replace t w in pick (leb (4 * used i) (3 * length t)) i (grown i)

-- words inserted one after the other
unfoldable pub inserts : List ℕ → List ℕ → List ℕ
inserts t [] = t
inserts t (w ∷ ws) = inserts (insert t w) ws

-- the words that pass a test, in their order
unfoldable pub sifted : (ℕ → Bool) → List ℕ → List ℕ
sifted p [] = []
sifted p (w ∷ ws) = let r = sifted p ws in pick (p w) (w ∷ r) r

-- those whose value is at least the limit
abbrev pub keeps : ℕ → List ℕ → List ℕ
keeps limit ws = sifted (λ w. leb limit (value w)) ws

-- the entries among words: those that are not empty, in their order
abbrev pub filled : List ℕ → List ℕ
filled ws = sifted (λ w. not (is_empty w)) ws

-- a table made of a list of words, from the base on, growing on the way; no words where there is none
abbrev pub made : ℕ → List ℕ → List ℕ
made base [] = []
made base (w ∷ ws) = inserts (replicate base 0) (w ∷ ws)

-- the table for one word more: a new one where there was none
abbrev pub opened : ℕ → List ℕ → List ℕ
opened base [] = replicate base 0
opened base (w ∷ ws) = w ∷ ws

-- a table over the front of an area of zeros
unfoldable pub laid : ℕ → List ℕ → List ℕ
laid room t = t ++ replicate (room - length t) 0

-- ---- good order of a table
-- the word x stands in the list
abbrev pub Member : List ℕ → ℕ → Type 0
Member t x = (p : ℕ) × (p < length t) × (get_or t p 0 ≡ x)

-- a table whose size is a power of two, with an empty place: there every search ends
pub record Room (t : List ℕ) : Type 0 where
  pub lg : ℕ
  pub size : length t ≡ 2 ^ lg
  pub hole : ℕ
  pub inside : hole < length t
  pub hollow : get_or t hole 0 ≡ 0

-- what a table can be made of: words of different slots, none of them 0
pub record Makable (ws : List ℕ) : Type 0 where
  pub few : length ws < 2 ^ 26
  pub some : (x : ℕ) → Member ws x → x ≡ 0 → ⊥
  pub distinct : (i j : ℕ) → i < length ws → j < length ws → slot (get_or ws i 0) ≡ slot (get_or ws j 0) → i ≡ j

-- each word is where the search for its slot ends: so no slot stands twice
unfoldable pub Reached : List ℕ → Type 0
Reached t = (p : ℕ) → p < length t → (get_or t p 0 ≡ 0 → ⊥) → place t (slot (get_or t p 0)) ≡ p

-- a table as it is kept: a power of two by the size rule, not over its load, each word reached
pub record Kept (base : ℕ) (t : List ℕ) : Type 0 where
  pub lg : ℕ
  pub power : length t ≡ 2 ^ lg
  pub sized : length t ≡ size_for base (used t)
  pub load : 4 * used t ≤ 3 * length t
  pub good : Reached t
