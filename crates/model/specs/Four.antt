-- Kind 4: each register is a nibble above a common cur_min, and those that a nibble can't hold stand in the exception table.
use Rattle.std.specs.Prelude.{◌≡◌, ◌⊎◌, List, [], ◌∷◌, map, ℕ, zero, suc, ◌+◌, ◌-◌, ◌*◌, ◌/◌, ◌≤◌, ◌<◌, min, leb, ltb, length, get_or}
use Rattle.model.specs.Pick.{pick}
use Rattle.model.specs.Coupon.{value, slot, home, word}
use Rattle.model.specs.Registers.{raise, least, above}
use Rattle.model.specs.Packed.{unpacked, packed}
use Rattle.model.specs.Table.{word_at, used, replace, insert, keeps, made, opened, size_for, Member, Kept}
use Rattle.model.specs.Steps.{Step, went, stopped, on_went}

-- the registers and the exception table
pub record State : Type 0 where
  pub regs : List ℕ
  pub table : List ℕ

-- one, by its parts
abbrev pub state : List ℕ → List ℕ → State
state r t = record { regs = r; table = t }

-- ---- the nibbles
-- the nibble of a register at cur_min low: 15 where it is an exception
abbrev pub nibble : ℕ → ℕ → ℕ
nibble low v = min 15 (v - low)

-- the register bytes at cur_min low
unfoldable pub stored_at : ℕ → List ℕ → List ℕ
stored_at low R = packed 4 (length R / 2) (map (nibble low) R)

-- ---- reading
-- a nibble below 15 means cur_min + nibble; 15 means that the value is in the table
abbrev pub value_at : ℕ → List ℕ → ℕ → ℕ → ℕ
value_at low t n s = pick (ltb n 15) (low + n) (value (word_at t s))

-- the registers of nibbles, the first of which is slot s's
unfoldable pub values_from : ℕ → List ℕ → ℕ → List ℕ → List ℕ
values_from low t s [] = []
values_from low t s (n ∷ ns) = value_at low t n s ∷ values_from low t (suc s) ns

-- the registers of all nibbles, two a byte
unfoldable pub registers4 : ℕ → List ℕ → List ℕ → List ℕ
registers4 low t bytes = values_from low t 0 (unpacked 4 (2 * length bytes) bytes)

-- ---- one coupon
-- cur_min rises by one, to low: the table is made anew of the words that stay exceptions, in table order
unfoldable pub risen : ℕ → ℕ → List ℕ → List ℕ
risen base low t = made base (keeps (low + 15) t)

-- n rises from low on, one by one
unfoldable pub climbed : ℕ → ℕ → ℕ → List ℕ → List ℕ
climbed base low zero t = t
climbed base low (suc n) t = climbed base (suc low) n (risen base (suc low) t)

-- while no slot is at cur_min it rises: from low to the least register
unfoldable pub settled : ℕ → ℕ → List ℕ → List ℕ → State
settled base low R t = state R (climbed base low (least R - low) t)

-- a new exception's word inserted into the table, or into a new one
unfoldable pub inserted : ℕ → List ℕ → ℕ → List ℕ
inserted base t w = insert (opened base t) w

-- value v for register s, which is below it, at cur_min low: no exception; an exception's new value; or a new exception, if the area has room for its table
unfoldable pub put4 : ℕ → ℕ → ℕ → List ℕ → List ℕ → ℕ → ℕ → Step State
put4 base room low R t s v =
    pick (ltb v (low + 15)) (went (state (raise R s v) t))
    (pick (leb (low + 15) (get_or R s 0)) (went (state (raise R s v) (replace t (word s v))))
    (pick (leb (size_for base (suc (used t))) room) (went (state (raise R s v) (inserted base t (word s v)))) stopped))

-- a coupon: without effect unless larger; room is judged before cur_min rises
unfoldable pub step4 : ℕ → ℕ → State → ℕ → Step State
step4 base room a c =
    pick (leb (value c) (get_or a.regs (home (length a.regs) c) 0)) (went a)
    (on_went (λ b. settled base (least a.regs) b.regs b.table)
    (put4 base room (least a.regs) a.regs a.table (home (length a.regs) c) (value c)))

-- ---- good order of the table
-- x is the word of a register at or above low + 15
pub record Exception (low : ℕ) (R : List ℕ) (x : ℕ) : Type 0 where
  pub inside : slot x < length R
  pub right : x ≡ word (slot x) (get_or R (slot x) 0)
  pub high : low + 15 ≤ get_or R (slot x) 0

-- t is a table of the registers at or above low + 15: those words and no others, each where its search ends, in a table of the rule's size
pub record TableAt (base low : ℕ) (R t : List ℕ) : Type 0 where
  pub shape : (t ≡ []) ⊎ ((0 < used t) × Kept base t)
  pub from : (x : ℕ) → (x ≡ 0 → ⊥) → Member t x → Exception low R x
  pub to : (s : ℕ) → s < length R → low + 15 ≤ get_or R s 0 → Member t (word s (get_or R s 0))

-- the coupon would make a new exception, and the table for one more is larger than the area
pub record NoRoom (base room : ℕ) (R : List ℕ) (s v : ℕ) : Type 0 where
  pub was : get_or R s 0 < least R + 15
  pub is : least R + 15 ≤ v
  pub short : room < size_for base (suc (above (least R + 15) R))
