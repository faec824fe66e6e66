-- How the code goes: over the words once for each window of slots, with a bitmap of the window's slots that are listed. Words and nibbles are functions f and g of their place, as the code reads them.
use Rattle.std.specs.Prelude.{◌≡◌, Bool, true, false, not, Option, None, Some, Result, Ok, Err, IfOk, IfSome, unwrap_or, is_some, List, ℕ, zero, suc, ◌+◌, ◌*◌, ◌/◌, ◌%◌, ◌^◌, ◌≤◌, ◌<◌, min, eqb, leb, length, get_or}
use Rattle.model.specs.Pick.{pick, some, differ}
use Rattle.model.specs.Coupon.{value, home, is_empty}
use Rattle.model.specs.Registers.{count_of}
use Rattle.model.specs.Packed.{slot_at, unpacked}
use Rattle.model.specs.Table.{filled}
use Rattle.model.specs.Faults.{lists, fault_at, unmatched}
use Rattle.image_header.specs.declared.Header.{Header}
use Rattle.image_faults.specs.declared.Fault.{Fault}
use Rattle.image_faults.specs.declared.Fault.TheVariants.{Empty, Twice, Low}
use Rattle.image_faults.specs.declared.Walk.{Walk}
use Rattle.image_faults.specs.declared.View.{View}

-- the number of registers
abbrev pub slots : Header → ℕ
slots h = 2 ^ h.lg_k

-- a bit of the bitmap
abbrev pub bit : List ℕ → ℕ → Bool
bit marks s = eqb (slot_at 1 marks s) 1

-- an entry for slot s stands among the first n words
abbrev pub listed_by : ℕ → (ℕ → ℕ) → ℕ → ℕ → Bool
listed_by k f n s = some (λ j. lists k s (f j)) n

-- how many of the first n words are entries
unfoldable pub entries_of : (ℕ → ℕ) → ℕ → ℕ
entries_of f zero = 0
entries_of f (suc n) = pick (is_empty (f n)) 0 1 + entries_of f n

-- what is wrong with a word, told whether its slot was listed before; an entry of another window is passed over
unfoldable pub fault_by : Header → ℕ → Bool → ℕ → ℕ
fault_by h b before w =
    pick (is_empty w) (pick h.compact 21 0)
    (pick (eqb (home (slots h) w / 524288) b)
    (pick before 22 (pick (leb (h.cur_min + 15) (value w)) 0 23))
    0)

-- what is wrong with word i in window b
unfoldable pub fault_in : Header → ℕ → (ℕ → ℕ) → ℕ → ℕ
fault_in h b f i = fault_by h b (listed_by (slots h) f i (home (slots h) (f i))) (f i)

-- an entry of window b has the nibble 15
abbrev pub Fifteen : Header → ℕ → (ℕ → ℕ) → ℕ → Type 0
Fifteen h b g w = is_empty w ≡ false → home (slots h) w / 524288 ≡ b → g (home (slots h) w) ≡ 15

-- a fault's number in the table of refusals, or 0
abbrev pub no_of : Option Fault → ℕ
no_of None = 0
no_of (Some Empty) = 21
no_of (Some Twice) = 22
no_of (Some Low) = 23

-- what a word's turn came to, as such a number
abbrev pub turn_no : Result (Option Bool) Fault → ℕ
turn_no (Ok s) = 0
turn_no (Err e) = no_of (Some e)

-- a nibble is 15, or the slot's bit is set, and not both
abbrev pub unlike_at : (ℕ → ℕ) → List ℕ → ℕ → Bool
unlike_at g marks s = differ (eqb (g s) 15) (bit marks (s % 524288))

-- a nibble is 15, or one of the first n words is an entry for the slot, and not both
abbrev pub unmatched_by : Header → (ℕ → ℕ) → (ℕ → ℕ) → ℕ → ℕ → Bool
unmatched_by h f g n s = differ (eqb (g s) 15) (listed_by (slots h) f n s)

-- at is the first place before limit with a fault, and no the fault; else limit and 0
pub record Found (fault : ℕ → ℕ) (limit no at : ℕ) : Type 0 where
  pub upto : at ≤ limit
  pub before : (i : ℕ) → i < at → fault i ≡ 0
  pub none : no ≡ 0 → at ≡ limit
  pub here : (no ≡ 0 → ⊥) → (at < limit) × (no ≡ fault at)

-- s is the least from a on that passes, or the end
pub record Least (p : ℕ → Bool) (a end s : ℕ) : Type 0 where
  pub low : a ≤ s
  pub upto : s ≤ end
  pub before : (t : ℕ) → t < s → a ≤ t → p t ≡ false
  pub here : s < end → p s ≡ true

-- o is the least from a on that passes, or nothing before the end does
pub record LeastIn (p : ℕ → Bool) (a end : ℕ) (o : Option ℕ) : Type 0 where
  pub least : Least p a end (unwrap_or o end)
  pub inside : IfSome o (λ s. s < end)

-- a word that is not wrong: whether it is an entry, with a nibble of 15 if it is one of the window, which is then marked
pub record Taken (h : Header) (b : ℕ) (g : ℕ → ℕ) (marks : List ℕ) (w : ℕ) (r : Option Bool) (exit : List ℕ) : Type 0 where
  pub counted : is_some r ≡ not (is_empty w)
  pub even : unwrap_or r true ≡ true → Fifteen h b g w
  pub marked : (s : ℕ) → s / 524288 ≡ b → bit exit (s % 524288) ≡ pick (lists (slots h) s w) true (bit marks (s % 524288))

-- a word: what is wrong with it, or what it is
pub record Turned (h : Header) (b : ℕ) (g : ℕ → ℕ) (marks : List ℕ) (w : ℕ) (r : Result (Option Bool) Fault) (exit : List ℕ) : Type 0 where
  pub says : turn_no r ≡ fault_by h b (bit marks (home (slots h) w % 524288)) w
  pub taken : IfOk r (λ s. Taken h b g marks w s exit)

-- the words before limit: the first that is wrong in window b, the entries before it, and whether the nibbles of the window's are 15
pub record Walked (h : Header) (b : ℕ) (f g : ℕ → ℕ) (limit : ℕ) (r : Walk) : Type 0 where
  pub found : Found (fault_in h b f) limit (no_of r.fault) r.at
  pub counted : r.entries ≡ entries_of f r.at
  pub evens : r.even ≡ true → (i : ℕ) → i < r.at → Fifteen h b g (f i)

-- so; if nothing is wrong, the marks are what the words list
pub record Passed (h : Header) (b : ℕ) (f g : ℕ → ℕ) (limit : ℕ) (r : Walk) (exit : List ℕ) : Type 0 where
  pub walked : Walked h b f g limit r
  pub marked : no_of r.fault ≡ 0 → (s : ℕ) → s / 524288 ≡ b → bit exit (s % 524288) ≡ listed_by (slots h) f limit s

-- so; if nothing is wrong and it was to look, the window's first slot that is in one of the two sets alone
pub record Viewed (look : Bool) (h : Header) (b : ℕ) (f g : ℕ → ℕ) (limit : ℕ) (r : View) : Type 0 where
  pub walked : Walked h b f g limit r.walk
  pub least : look ≡ true → no_of r.walk.fault ≡ 0 → LeastIn (unmatched_by h f g limit) (b * 524288) (min ((b + 1) * 524288) (slots h)) r.slot

-- what is known when the windows before b have been gone through
pub record Sweeping (look : Bool) (h : Header) (f g : ℕ → ℕ) (many b no at entries : ℕ) (even : Bool) (slot : Option ℕ) : Type 0 where
  pub upto : at ≤ many
  pub before : (i : ℕ) → i < at → (c : ℕ) → c < b → fault_in h c f i ≡ 0
  pub none : no ≡ 0 → at ≡ many
  pub here : (no ≡ 0 → ⊥) → (at < many) × (c : ℕ) × (no ≡ fault_in h c f at)
  pub counted : 0 < b → entries ≡ entries_of f at
  pub evens : even ≡ true → (i : ℕ) → i < at → (c : ℕ) → c < b → Fifteen h c g (f i)
  pub least : look ≡ true → no ≡ 0 → LeastIn (unmatched_by h f g many) 0 (min (b * 524288) (slots h)) slot

-- all windows, in the book's words
pub record Swept (look : Bool) (h : Header) (ws ns : List ℕ) (r : View) : Type 0 where
  pub found : Found (fault_at h.compact (slots h) h.cur_min ws) (length ws) (no_of r.walk.fault) r.walk.at
  pub counted : no_of r.walk.fault ≡ 0 → r.walk.entries ≡ length (filled ws)
  pub evens : no_of r.walk.fault ≡ 0 → r.walk.even ≡ true → (i : ℕ) → i < length ws → is_empty (get_or ws i 0) ≡ false → get_or ns (home (slots h) (get_or ws i 0)) 0 ≡ 15
  pub least : look ≡ true → no_of r.walk.fault ≡ 0 → LeastIn (unmatched (slots h) ws ns) 0 (slots h) r.slot

-- a bitmap for a window's slots, all of it clear
pub record Clear (h : Header) (marks : List ℕ) : Type 0 where
  pub room : min (slots h) 524288 ≤ 8 * length marks
  pub clear : (s : ℕ) → bit marks s ≡ false

-- what a walk is given: so many words, and a nibble for each slot
pub record Sweepable (h : Header) (bytes words : List ℕ) (limit : ℕ) : Type 0 where
  pub high : h.lg_k ≤ 21
  pub few : limit < 2 ^ 32
  pub whole : 4 * limit ≤ length words
  pub nibbles : slots h ≤ 2 * length bytes

-- what judging is given: also how many nibbles are 15
pub record Judgeable (h : Header) (bytes words : List ℕ) (many fulls : ℕ) : Type 0 where
  pub sweepable : Sweepable h bytes words many
  pub full : fulls ≡ count_of 15 (unpacked 4 (2 ^ h.lg_k) bytes)
