-- The answers of document 01's table of refusals and document 02's, by their numbers, and the places that some of them name.
use Rattle.std.specs.Prelude.{ℕ, Bool, leb, Result, Ok, Err, ⊤}
use Rattle.model.specs.Pick.{both}
use Rattle.model.specs.declared.Refusal.{Refusal}
use Rattle.model.specs.declared.Refusal.TheVariants.{Kind, LgK, Size, Damaged, Finer, NoRoom, Short, Header, Mode, Counts, LgArr, Value, Spare, Tally, Out, AuxEmpty, AuxTwice, AuxLow, AuxCount, AuxMatch, Form, ListEmpty}

-- a refusal's number in the table; 13 is not used
abbrev pub refusal_no : Refusal → ℕ
refusal_no Kind = 1
refusal_no LgK = 2
refusal_no Size = 3
refusal_no Damaged = 4
refusal_no Finer = 5
refusal_no NoRoom = 6
refusal_no Short = 7
refusal_no Header = 8
refusal_no Mode = 9
refusal_no Counts = 10
refusal_no LgArr = 11
refusal_no Value = 12
refusal_no Spare = 14
refusal_no Tally = 15
refusal_no Out = 16
refusal_no (AuxEmpty i) = 21
refusal_no (AuxTwice i) = 22
refusal_no (AuxLow i) = 23
refusal_no AuxCount = 24
refusal_no (AuxMatch s) = 25
refusal_no Form = 26
refusal_no (ListEmpty i) = 27

-- its place: a word's position from 0, for AUX_MATCH a slot; 0 where a refusal has none
abbrev pub refusal_place : Refusal → ℕ
refusal_place Kind = 0
refusal_place LgK = 0
refusal_place Size = 0
refusal_place Damaged = 0
refusal_place Finer = 0
refusal_place NoRoom = 0
refusal_place Short = 0
refusal_place Header = 0
refusal_place Mode = 0
refusal_place Counts = 0
refusal_place LgArr = 0
refusal_place Value = 0
refusal_place Spare = 0
refusal_place Tally = 0
refusal_place Out = 0
refusal_place (AuxEmpty i) = i
refusal_place (AuxTwice i) = i
refusal_place (AuxLow i) = i
refusal_place AuxCount = 0
refusal_place (AuxMatch s) = s
refusal_place Form = 0
refusal_place (ListEmpty i) = i

-- an answer alone: OK, or a refusal
abbrev pub Answer : Type 0
Answer = Result ⊤ Refusal

-- an answer's number in the table, whatever else the call gives: 0 is OK
abbrev pub number_of : {A : Type 0} → Result A Refusal → ℕ
number_of (Ok x) = 0
number_of (Err e) = refusal_no e

-- its place, or 0
abbrev pub place_of : {A : Type 0} → Result A Refusal → ℕ
place_of (Ok x) = 0
place_of (Err e) = refusal_place e

-- 21 to 25, the numbers of answers about exception words: with them a place is told
abbrev pub placed : ℕ → Bool
placed n = both (leb 21 n) (leb n 25)

-- what an answer says: number and place
pub record Said : Type 0 where
  pub no : ℕ
  pub place : ℕ

-- one, by its parts
abbrev pub said : ℕ → ℕ → Said
said n p = record { no = n; place = p }

-- of an answer
abbrev pub said_of : {A : Type 0} → Result A Refusal → Said
said_of a = said (number_of a) (place_of a)
