-- What is kept of a sketch's registers R: its record, its register bytes and, for kind 4, its exception area; and back.
use Rattle.std.specs.Prelude.{◌≡◌, Bool, true, List, [], map, ℕ, ◌+◌, ◌*◌, ◌/◌, ◌^◌, ◌≤◌, ◌<◌, eqb, length, get_or, take}
use Rattle.model.specs.Pick.{pick}
use Rattle.model.specs.Registers.{least, count_of, above}
use Rattle.model.specs.Packed.{unpacked, packed}
use Rattle.model.specs.Table.{base_for, table_size, laid}
use Rattle.model.specs.Four.{stored_at, registers4, TableAt}
use Rattle.model.specs.declared.Sketch.{Sketch}

-- a record, by its fields
abbrev pub sketch_of : ℕ → ℕ → ℕ → ℕ → ℕ → Sketch
sketch_of kind lgk low num count = record { kind = kind; lg_k = lgk; cur_min = low; num_at_cur_min = num; aux_count = count }

-- the kinds there are
unfoldable pub is_kind : ℕ → Bool
is_kind kind = pick (eqb kind 4) true (pick (eqb kind 6) true (eqb kind 8))

-- register bytes: k/2 for kind 4, 3k/4 + 1 for 6, k for 8
unfoldable pub bytes_of : ℕ → ℕ → ℕ
bytes_of kind lgk = pick (eqb kind 8) (2 ^ lgk) (pick (eqb kind 6) (2 ^ lgk / 4 * 3 + 1) (2 ^ lgk / 2))

-- ---- what is kept
-- cur_min: for kind 4 the least register
unfoldable pub low_of : ℕ → List ℕ → ℕ
low_of kind R = pick (eqb kind 4) (least R) 0

-- the record: cur_min, how many registers are at it, and for kind 4 how many are exceptions
unfoldable pub record_of : ℕ → ℕ → List ℕ → Sketch
record_of kind lgk R = sketch_of kind lgk (low_of kind R) (count_of (low_of kind R) R) (pick (eqb kind 4) (above (least R + 15) R) 0)

-- the register bytes
unfoldable pub stored : ℕ → ℕ → List ℕ → List ℕ
stored kind lgk R = pick (eqb kind 4) (stored_at (least R) R) (packed kind (bytes_of kind lgk) R)

-- the exception area with the table t: kinds 6 and 8 leave it alone
unfoldable pub area_of : ℕ → List ℕ → List ℕ → List ℕ
area_of kind t aux = pick (eqb kind 4) (laid (length aux) t) aux

-- ---- the reading, total, also of damaged memory
-- what stands at each slot: kinds 6 and 8 keep the registers themselves
unfoldable pub cells : Sketch → List ℕ → List ℕ
cells s regs = unpacked s.kind (2 ^ s.lg_k) regs

-- cur_min and what stands at each slot: no register is below that, and only an exception is above it
unfoldable pub floors : Sketch → List ℕ → List ℕ
floors s regs = map (◌+◌ s.cur_min) (cells s regs)

-- the exception table that the record speaks of
unfoldable pub table_in : Sketch → List ℕ → List ℕ
table_in s aux = pick (eqb s.kind 4) (take (table_size (base_for s.lg_k) s.aux_count) aux) []

-- the registers
unfoldable pub registers : Sketch → List ℕ → List ℕ → List ℕ
registers s regs aux = pick (eqb s.kind 4) (registers4 s.cur_min (table_in s aux) regs) (cells s regs)

-- ---- good order
-- kind, lg_k and number of register bytes are right
pub record Shaped (kind lgk len : ℕ) : Type 0 where
  pub kind_known : is_kind kind ≡ true
  pub low : 4 ≤ lgk
  pub high : lgk ≤ 21
  pub long : len ≡ bytes_of kind lgk

-- kind 4: a table of R's exceptions stands at the area's front, and zeros behind it
pub record Tabled (base : ℕ) (R t aux : List ℕ) : Type 0 where
  pub table : TableAt base (least R) R t
  pub fits : length t ≤ length aux
  pub area : aux ≡ laid (length aux) t

-- with R the reading: no register above 63; record, bytes and area are what is kept of R
pub record Good (s : Sketch) (regs aux : List ℕ) : Type 0 where
  pub shaped : Shaped s.kind s.lg_k (length regs)
  pub small : (i : ℕ) → i < length (registers s regs aux) → get_or (registers s regs aux) i 0 ≤ 63
  pub record_is : s ≡ record_of s.kind s.lg_k (registers s regs aux)
  pub bytes_are : regs ≡ stored s.kind s.lg_k (registers s regs aux)
  pub tabled : s.kind ≡ 4 → Tabled (base_for s.lg_k) (registers s regs aux) (table_in s aux) aux
