-- What is claimed of all this: the three demands, what a call leaves of any sketch in good order, and what an image is worth. proofs/Claims.antt has the proofs.
use Rattle.std.specs.Prelude.{◌≡◌, ◌⊎◌, Bool, true, false, ℕ, min, ◌+◌, ◌*◌, ◌-◌, ◌/◌, ◌%◌, ◌^◌, ◌<◌, ◌≤◌, pos, Float, eqb, length, get_or, take, Result}
use mathlib.Core.List.{List, [], ◌∷◌, ◌++◌, Memᴰ}
use Rattle.std.specs.Float.{fin}
use Rattle.std.specs.Float.Ieee.Exact.{HasValue}
use Rattle.model.specs.Pick.{both}
use Rattle.model.specs.Coupon.{value, slot, home, is_empty}
use Rattle.model.specs.Registers.{fed, joined, count_of}
use Rattle.model.specs.Packed.{Bytes, slot_at, packed}
use Rattle.model.specs.Table.{base_for, table_size, Member, filled}
use Rattle.model.specs.Four.{NoRoom}
use Rattle.model.specs.Sketch.{bytes_of, cells, registers, Good}
use Rattle.model.specs.Sums.{scaled}
use Rattle.model.specs.Calls.{Out, out, nothing, kept_or, fed_out, start_of, feed_of, unpacked_to, unpack_of, view_of, merge_of, Summed, summed_to, sums_of}
use Rattle.model.specs.Faults.{aux_fault}
use Rattle.model.specs.Image.{image_in, wrote, wrote_out, write_of, sketch_in, regs_in, compact_in, word_count, words_in, entries_in, open_of}
use Rattle.model.specs.Lists.{coupon_count, coupons_in, preamble_no, coupons_no, feed_image_of}
use Rattle.model.specs.History.{here, Call, run}
use Rattle.model.specs.Answers.{Answer, number_of, place_of, Said, said}
use Rattle.model.specs.declared.Sketch.{Sketch}
use Rattle.model.specs.declared.Refusal.{Refusal}
use Rattle.model.specs.declared.Fed.{Fed}
use Rattle.model.specs.declared.Stopped.{Stopped}

-- ---- demand 1: every call answers by the table
-- a line of the table: the answer, a number or what it says, is n unless Q holds; then the next line decides
pub data Unless {A : Type 0} (n : A) (Q : Type 0) (next : A → Type 0) (answer : A) : Type 0 where
  refused : (Q → ⊥) → answer ≡ n → Unless n Q next answer
  passed : Q → next answer → Unless n Q next answer

-- a line that names a place: the answer is n at the place where P holds; where it holds at none, the next line decides
pub data Wherever (n : ℕ) (P : ℕ → Type 0) (next : Said → Type 0) (answer : Said) : Type 0 where
  found : (i : ℕ) → P i → answer ≡ said n i → Wherever n P next answer
  nowhere : ((i : ℕ) → P i → ⊥) → next answer → Wherever n P next answer

-- lines for where Q holds
abbrev pub Only : Type 0 → (Said → Type 0) → (Said → Type 0) → Said → Type 0
Only Q lines next answer = (Q → lines answer) × ((Q → ⊥) → next answer)

-- no line applies
abbrev pub Ok : ℕ → Type 0
Ok answer = answer ≡ 0

-- KIND, LGK, SIZE
abbrev pub ShapeLines : ℕ → ℕ → ℕ → (ℕ → Type 0) → ℕ → Type 0
ShapeLines kind lgk len next =
    Unless 1 ((kind ≡ 4) ⊎ ((kind ≡ 6) ⊎ (kind ≡ 8)))
    (Unless 2 ((4 ≤ lgk) × (lgk ≤ 21))
    (Unless 3 (len ≡ bytes_of kind lgk) next))

-- KIND, LGK, SIZE (also of what else is lent), DAMAGED
abbrev pub SketchLines : Type 0 → Sketch → List ℕ → List ℕ → (ℕ → Type 0) → ℕ → Type 0
SketchLines lent s regs aux next = ShapeLines s.kind s.lg_k (length regs) (Unless 3 lent (Unless 4 (Good s regs aux) next))

-- scratch is not shorter than the exception area, where there is one
abbrev pub Scratch : ℕ → List ℕ → List ℕ → Type 0
Scratch kind aux scratch = kind ≡ 4 → length aux ≤ length scratch

-- coupon i of the batch finds no room, in registers that the coupons before it have fed
abbrev pub StopsAt : Sketch → List ℕ → List ℕ → List ℕ → ℕ → Type 0
StopsAt s regs aux cs i =
    (s.kind ≡ 4) × NoRoom (base_for s.lg_k) (length aux) (fed (2 ^ s.lg_k) (registers s regs aux) (take i cs)) (home (2 ^ s.lg_k) (get_or cs i 0)) (value (get_or cs i 0))

-- no coupon before the first n finds no room
abbrev pub GoesTo : Sketch → List ℕ → List ℕ → List ℕ → ℕ → Type 0
GoesTo s regs aux cs n = (i : ℕ) → i < n → StopsAt s regs aux cs i → ⊥

-- feed's answer behind its checks: all coupons are taken, or NO_ROOM at the first that finds none
abbrev pub FeedLine : Sketch → List ℕ → List ℕ → List ℕ → ℕ → ℕ → Type 0
FeedLine s regs aux cs count answer =
    ((answer ≡ 0) × (count ≡ length cs) × GoesTo s regs aux cs count)
    ⊎ ((answer ≡ 6) × (count < length cs) × StopsAt s regs aux cs count × GoesTo s regs aux cs count)

-- ---- an image's exception words, by their positions
-- word i is an entry
abbrev pub EntryAt : List ℕ → ℕ → Type 0
EntryAt ws i = is_empty (get_or ws i 0) ≡ false

-- it is empty, in the form that has no empty words
abbrev pub EmptyAt : Bool → List ℕ → ℕ → Type 0
EmptyAt compact ws i = (compact ≡ true) × (is_empty (get_or ws i 0) ≡ true)

-- one of the first n words is an entry for slot h
abbrev pub ListedAt : ℕ → List ℕ → ℕ → ℕ → Type 0
ListedAt k ws n h = (j : ℕ) × (j < n) × EntryAt ws j × (home k (get_or ws j 0) ≡ h)

-- it is an entry for a slot that an entry before it is for
abbrev pub TwiceAt : ℕ → List ℕ → ℕ → Type 0
TwiceAt k ws i = EntryAt ws i × ListedAt k ws i (home k (get_or ws i 0))

-- it is an entry, and its value is no exception's
abbrev pub LowAt : ℕ → List ℕ → ℕ → Type 0
LowAt low ws i = EntryAt ws i × (value (get_or ws i 0) < low + 15)

-- nothing is wrong with it
abbrev pub RightAt : Bool → ℕ → ℕ → List ℕ → ℕ → Type 0
RightAt compact k low ws i = (EmptyAt compact ws i → ⊥) × ((TwiceAt k ws i → ⊥) × (LowAt low ws i → ⊥))

-- nor with any word before it
abbrev pub RightTo : Bool → ℕ → ℕ → List ℕ → ℕ → Type 0
RightTo compact k low ws i = (j : ℕ) → j < i → RightAt compact k low ws j

-- slot i is in exactly one of two sets: the nibbles that are 15, and the slots listed
abbrev pub InOne : ℕ → List ℕ → List ℕ → ℕ → Type 0
InOne k ws ns i = ((get_or ns i 0 ≡ 15) × (ListedAt k ws (length ws) i → ⊥)) ⊎ ((get_or ns i 0 ≡ 15 → ⊥) × ListedAt k ws (length ws) i)

-- the lines of the exception words: AUX_EMPTY, AUX_TWICE and AUX_LOW, each at the earliest word that is wrong, in this order for one word; AUX_COUNT; AUX_MATCH at the smallest slot
abbrev pub AuxLines : Bool → ℕ → ℕ → ℕ → List ℕ → List ℕ → (Said → Type 0) → Said → Type 0
AuxLines compact k low count ws ns next =
    Wherever 21 (λ i. (i < length ws) × (RightTo compact k low ws i × EmptyAt compact ws i))
    (Wherever 22 (λ i. (i < length ws) × (RightTo compact k low ws i × TwiceAt k ws i))
    (Wherever 23 (λ i. (i < length ws) × (RightTo compact k low ws i × ((TwiceAt k ws i → ⊥) × LowAt low ws i)))
    (Unless (said 24 0) (length (filled ws) ≡ count)
    (Wherever 25 (λ i. (i < k) × (InOne k ws ns i × ((j : ℕ) → j < i → InOne k ws ns j → ⊥)))
    next))))

-- a word is listed for slot i of k
abbrev pub Listed : ℕ → List ℕ → ℕ → Type 0
Listed k words i = (w : ℕ) × Member words w × (home k w ≡ i)

-- what the entries are where nothing is wrong: each one's value is an exception's, no slot stands twice, there are as many as the count says, and the slots listed are those of the nibbles 15
pub record Entries (s : Sketch) (nibbles words : List ℕ) : Type 0 where
  pub high : (i : ℕ) → i < length words → s.cur_min + 15 ≤ value (get_or words i 0)
  pub apart : (i j : ℕ) → i < length words → j < length words → home (2 ^ s.lg_k) (get_or words i 0) ≡ home (2 ^ s.lg_k) (get_or words j 0) → i ≡ j
  pub count : length words ≡ s.aux_count
  pub listed : (i : ℕ) → i < 2 ^ s.lg_k → Listed (2 ^ s.lg_k) words i → get_or nibbles i 0 ≡ 15
  pub lists : (i : ℕ) → i < 2 ^ s.lg_k → get_or nibbles i 0 ≡ 15 → Listed (2 ^ s.lg_k) words i

-- the last lines of opening: SPARE, TALLY
abbrev pub LastLines : List ℕ → Said → Type 0
LastLines l =
    let s = sketch_in l in
    Unless (said 14 0) (s.kind ≡ 6 → get_or (regs_in l) (length (regs_in l) - 1) 0 ≡ 0)
    (Unless (said 15 0) ((s.num_at_cur_min ≡ count_of 0 (cells s (regs_in l))) × (s.kind ≡ 4 → 0 < s.num_at_cur_min))
    (λ answer. answer ≡ said 0 0))

-- the lines of opening: SHORT, HEADER, MODE, LGK, SIZE, COUNTS, LGARR, SHORT, NO_ROOM, VALUE, for kind 4 those of the exception words, and the last. A place is 0 but where a line names it
abbrev pub OpenLines : List ℕ → List ℕ → List ℕ → List ℕ → Said → Type 0
OpenLines l regs aux scratch =
    let s = sketch_in l in
    let k = 2 ^ s.lg_k in
    let ns = cells s (regs_in l) in
    Unless (said 7 0) (40 ≤ length l)
    (Unless (said 8 0) ((get_or l 0 0 ≡ 10) × ((get_or l 1 0 ≡ 1) × (get_or l 2 0 ≡ 7)))
    (Unless (said 9 0) ((get_or l 7 0 ≡ 2) ⊎ ((get_or l 7 0 ≡ 6) ⊎ (get_or l 7 0 ≡ 10)))
    (Unless (said 2 0) ((4 ≤ s.lg_k) × (s.lg_k ≤ 21))
    (Unless (said 3 0) (length regs ≡ bytes_of s.kind s.lg_k)
    (Unless (said 3 0) (Scratch s.kind aux scratch)
    (Unless (said 10 0) ((s.num_at_cur_min ≤ k) × ((s.aux_count ≤ k) × ((s.cur_min ≤ 63) × ((s.kind ≡ 4 → ⊥) → (s.cur_min ≡ 0) × (s.aux_count ≡ 0)))))
    (Unless (said 11 0) ((compact_in l ≡ true → ⊥) → (s.aux_count ≡ 0 → ⊥) → get_or l 4 0 ≤ 22)
    (Unless (said 7 0) (40 + bytes_of s.kind s.lg_k + 4 * word_count l ≤ length l)
    (Unless (said 6 0) (table_size (base_for s.lg_k) s.aux_count ≤ length aux)
    (Unless (said 12 0) ((i : ℕ) → i < k → ((s.kind ≡ 4) × (get_or ns i 0 ≡ 15) → ⊥) → s.cur_min + get_or ns i 0 ≤ 63)
    (Only (s.kind ≡ 4) (AuxLines (compact_in l) k s.cur_min s.aux_count (words_in l) ns (LastLines l)) (LastLines l))))))))))))

-- the lines of a coupon list or set, for a sketch of this lg_k: SHORT, HEADER, SHORT of a set, MODE, LGK, FORM, SHORT, LISTEMPTY at the first zero word, FINER
abbrev pub CouponLines : ℕ → List ℕ → (Said → Type 0) → Said → Type 0
CouponLines lgk l next =
    Unless (said 7 0) (8 ≤ length l)
    (Unless (said 8 0) (((get_or l 0 0 ≡ 2) ⊎ (get_or l 0 0 ≡ 3)) × ((get_or l 1 0 ≡ 1) × (get_or l 2 0 ≡ 7)))
    (Unless (said 7 0) (get_or l 0 0 ≡ 3 → 12 ≤ length l)
    (Unless (said 9 0) ((get_or l 0 0 ≡ 2 → get_or l 7 0 % 4 ≡ 0) × (get_or l 0 0 ≡ 3 → get_or l 7 0 % 4 ≡ 1))
    (Unless (said 2 0) ((4 ≤ get_or l 3 0) × (get_or l 3 0 ≤ 21))
    (Unless (said 26 0) (compact_in l ≡ true)
    (Unless (said 7 0) ((get_or l 0 0 ≡ 2 → 8 + 4 * get_or l 6 0 ≤ length l) × (get_or l 0 0 ≡ 3 → 12 + 4 * slot_at 32 l 2 ≤ length l))
    (Wherever 27 (λ i. (i < coupon_count l) × ((get_or (coupons_in l) i 0 ≡ 0) × ((j : ℕ) → j < i → get_or (coupons_in l) j 0 ≡ 0 → ⊥)))
    (Unless (said 5 0) (lgk ≤ get_or l 3 0) next))))))))

-- each refusal exactly when its line of the table says; lent registers are bytes, and so is an image of coupons
pub record Demand1 : Type 0 where
  pub start_lines : (kind lgk : ℕ) (regs aux : List ℕ) → ShapeLines kind lgk (length regs) Ok (start_of kind lgk regs aux).no
  pub feed_lines : (s : Sketch) (regs aux scratch cs : List ℕ) → Bytes regs
      → SketchLines (Scratch s.kind aux scratch) s regs aux (FeedLine s regs aux cs (feed_of s regs aux scratch cs).count) (feed_of s regs aux scratch cs).no
  pub feed_image_lines : (s : Sketch) (regs aux scratch l : List ℕ) → Bytes regs → Bytes l → let o = feed_image_of s regs aux scratch l in
      SketchLines (Scratch s.kind aux scratch) s regs aux (λ n. CouponLines s.lg_k l (λ a. FeedLine s regs aux (coupons_in l) o.count a.no) (said n o.place)) o.no
  pub unpack_lines : (s : Sketch) (regs aux buf : List ℕ) → Bytes regs → SketchLines (length buf ≡ 2 ^ s.lg_k) s regs aux Ok (unpack_of s regs aux buf).no
  pub view_shows : (s : Sketch) (regs : List ℕ) → s.kind ≡ 8 → Good s regs [] → view_of s regs ≡ regs
  pub view_hides : (s : Sketch) (regs : List ℕ) → Bytes regs → ((s.kind ≡ 8) × Good s regs [] → ⊥) → view_of s regs ≡ []
  pub merge_lines : (t : Sketch) (tregs : List ℕ) (s : Sketch) (sregs saux : List ℕ) → Bytes tregs → Bytes sregs
      → Unless 1 (t.kind ≡ 8) (SketchLines (Unit {0}) t tregs [] (SketchLines (Unit {0}) s sregs saux (Unless 5 (t.lg_k ≤ s.lg_k) Ok))) (merge_of t tregs s sregs saux).no
  pub sums_lines : (s : Sketch) (regs aux : List ℕ) → Bytes regs → SketchLines (Unit {0}) s regs aux Ok (sums_of s regs aux).no
  pub write_lines : (s : Sketch) (regs aux buf : List ℕ) → Bytes regs
      → SketchLines (Unit {0}) s regs aux (Unless 16 (length (image_in s regs aux) ≤ length buf) Ok) (write_of s regs aux buf).no
  pub open_lines : (l regs aux scratch : List ℕ) → let o = open_of l regs aux scratch in OpenLines l regs aux scratch (said o.no o.place)
  pub start_place : (kind lgk : ℕ) (regs aux : List ℕ) → (start_of kind lgk regs aux).place ≡ 0
  pub feed_place : (s : Sketch) (regs aux scratch cs : List ℕ) → (feed_of s regs aux scratch cs).place ≡ 0
  pub feed_image_place : (s : Sketch) (regs aux scratch l : List ℕ) → let o = feed_image_of s regs aux scratch l in (o.no ≡ 27 → ⊥) → o.place ≡ 0
  pub merge_place : (t : Sketch) (tregs : List ℕ) (s : Sketch) (sregs saux : List ℕ) → (merge_of t tregs s sregs saux).place ≡ 0

-- nothing is wrong with exception words exactly where their entries are so, and in the compact form no word is empty
pub record AuxNone : Type 0 where
  pub entries : (compact : Bool) (s : Sketch) (ns ws : List ℕ) → (aux_fault compact (2 ^ s.lg_k) s.cur_min s.aux_count ws ns).no ≡ 0
      → Entries s ns (filled ws) × ((i : ℕ) → i < length ws → EmptyAt compact ws i → ⊥)
  pub nothing : (compact : Bool) (s : Sketch) (ns ws : List ℕ) → Entries s ns (filled ws) → ((i : ℕ) → i < length ws → EmptyAt compact ws i → ⊥)
      → aux_fault compact (2 ^ s.lg_k) s.cur_min s.aux_count ws ns ≡ said 0 0

-- the empty word by its two fields; and a word with a slot and no value, which is an entry in both forms: where it is the first that is wrong, it is so as twice, else as too low
pub record EmptyWord : Type 0 where
  pub fields : (w : ℕ) → w < 2 ^ 32 → is_empty w ≡ both (eqb (slot w) 0) (eqb (value w) 0)
  pub no_value : (compact : Bool) (k low count : ℕ) (ws ns : List ℕ) (i : ℕ) → i < length ws → RightTo compact k low ws i → 0 < slot (get_or ws i 0) → value (get_or ws i 0) ≡ 0
      → let f = aux_fault compact k low count ws ns in (TwiceAt k ws i × (f ≡ said 22 i)) ⊎ ((TwiceAt k ws i → ⊥) × (f ≡ said 23 i))

-- and then nothing lent changes, save that a batch stopped by NO_ROOM keeps the coupons that it took
pub record Unchanged : Type 0 where
  pub start_same : (kind lgk : ℕ) (regs aux : List ℕ) → let o = start_of kind lgk regs aux in (o.no ≡ 0 → ⊥) → o ≡ out o.no 0 nothing 0 regs aux
  pub feed_same : (s : Sketch) (regs aux scratch cs : List ℕ) → let o = feed_of s regs aux scratch cs in (o.no ≡ 0 → ⊥) → (o.no ≡ 6 → ⊥) → o ≡ out o.no 0 s 0 regs aux
  pub feed_image_same : (s : Sketch) (regs aux scratch l : List ℕ) → let o = feed_image_of s regs aux scratch l in (o.no ≡ 0 → ⊥) → (o.no ≡ 6 → ⊥) → o ≡ out o.no o.place s 0 regs aux
  pub unpack_same : (s : Sketch) (regs aux buf : List ℕ) → ((unpack_of s regs aux buf).no ≡ 0 → ⊥) → (unpack_of s regs aux buf).out ≡ buf
  pub merge_same : (t : Sketch) (tregs : List ℕ) (s : Sketch) (sregs saux : List ℕ) → let o = merge_of t tregs s sregs saux in (o.no ≡ 0 → ⊥) → o ≡ out o.no 0 t 0 tregs []
  pub write_same : (s : Sketch) (regs aux buf : List ℕ) → let o = write_of s regs aux buf in (o.no ≡ 0 → ⊥) → o ≡ wrote o.no 0 buf
  pub open_same : (l regs aux scratch : List ℕ) → let o = open_of l regs aux scratch in (o.no ≡ 0 → ⊥) → o ≡ out o.no o.place nothing 0 regs aux

-- two results that meet one call's equation coincide, the answer by name and place: of start, feed, feed_image, merge and open; of unpack; of view; of sums, whose answer is the number; of write;
-- and the results themselves, as the calls give them, with the memory that they leave: of start, merge and open; of feed and feed_image; of write
pub record Coincide : Type 0 where
  pub made_same : (o : Out) (a b : Answer) (s t : Sketch) (c d : ℕ) (r q x y : List ℕ) → out (number_of a) (place_of a) s c r x ≡ o → out (number_of b) (place_of b) t d q y ≡ o
      → (a ≡ b) × ((s ≡ t) × ((c ≡ d) × ((r ≡ q) × (x ≡ y))))
  pub unpacked_same : (s : Sketch) (regs aux buf : List ℕ) (a b : Answer) (x y : List ℕ) → unpacked_to (number_of a) x ≡ unpack_of s regs aux buf → unpacked_to (number_of b) y ≡ unpack_of s regs aux buf → (a ≡ b) × (x ≡ y)
  pub viewed_same : (s : Sketch) (regs x y : List ℕ) → x ≡ view_of s regs → y ≡ view_of s regs → x ≡ y
  pub summed_same : (o : Summed) (m n : ℕ) (x y u v : Float) → summed_to m x u ≡ o → summed_to n y v ≡ o → (m ≡ n) × ((x ≡ y) × (u ≡ v))
  pub written_same : (s : Sketch) (regs aux buf : List ℕ) (a b : Answer) (m n : ℕ) (x y : List ℕ) → wrote (number_of a) m x ≡ write_of s regs aux buf → wrote (number_of b) n y ≡ write_of s regs aux buf
      → (a ≡ b) × ((m ≡ n) × (x ≡ y))
  pub result_same : (o : Out) (came : Sketch) (a b : Result Sketch Refusal) (r q x y : List ℕ) → kept_or came a r x ≡ o → kept_or came b q y ≡ o → (a ≡ b) × ((r ≡ q) × (x ≡ y))
  pub fed_same : (o : Out) (a b : Result Fed Stopped) (r q x y : List ℕ) → fed_out a r x ≡ o → fed_out b q y ≡ o → (a ≡ b) × ((r ≡ q) × (x ≡ y))
  pub length_same : (s : Sketch) (regs aux buf : List ℕ) (a b : Result ℕ Refusal) (x y : List ℕ) → wrote_out a x ≡ write_of s regs aux buf → wrote_out b y ≡ write_of s regs aux buf → (a ≡ b) × (x ≡ y)

-- ---- over any sketch in good order, wherever it came from
-- a sketch of this kind and size is in good order, and R are its registers
pub record Keeps (kind lgk : ℕ) (R : List ℕ) (s : Sketch) (regs aux : List ℕ) : Type 0 where
  pub good : Good s regs aux
  pub same_kind : s.kind ≡ kind
  pub same_size : s.lg_k ≡ lgk
  pub holds : registers s regs aux ≡ R

-- fed exactly the coupons that were taken, which are all, or those before NO_ROOM, or none where refused
abbrev pub FedTaken : Sketch → List ℕ → List ℕ → List ℕ → Out → Type 0
FedTaken s regs aux cs o = Keeps s.kind s.lg_k (fed (2 ^ s.lg_k) (registers s regs aux) (take o.count cs)) o.sketch o.regs o.aux

-- feed
abbrev pub FeedKeeps : Type 0
FeedKeeps = (s : Sketch) (regs aux scratch cs : List ℕ) → Good s regs aux → FedTaken s regs aux cs (feed_of s regs aux scratch cs)

-- feed_image, with the image's words
abbrev pub FeedImageKeeps : Type 0
FeedImageKeeps = (s : Sketch) (regs aux scratch l : List ℕ) → Good s regs aux → FedTaken s regs aux (coupons_in l) (feed_image_of s regs aux scratch l)

-- merge: the source's registers joined into those of a kind 8 target that is no finer
abbrev pub MergeKeeps : Type 0
MergeKeeps = (t : Sketch) (tregs : List ℕ) (s : Sketch) (sregs saux : List ℕ) → Good t tregs [] → Good s sregs saux → t.kind ≡ 8 → t.lg_k ≤ s.lg_k
    → let o = merge_of t tregs s sregs saux in (o.no ≡ 0) × Keeps 8 t.lg_k (joined (2 ^ t.lg_k) (registers t tregs []) (registers s sregs saux)) o.sketch o.regs []

-- an area of two words a register is room for all coupons, of a batch and of an image
abbrev pub TwiceIsRoom : Type 0
TwiceIsRoom = (s : Sketch) (regs aux scratch cs l : List ℕ) → Bytes regs → 2 * 2 ^ s.lg_k ≤ length aux
    → ((feed_of s regs aux scratch cs).no ≡ 6 → ⊥) × ((feed_image_of s regs aux scratch l).no ≡ 6 → ⊥)

-- sums: each double is exactly a whole number of at most 2 ^ 52 over its power of two; +0 where refused
pub record ExactSums : Type 0 where
  pub exact : (s : Sketch) (regs aux : List ℕ) → Good s regs aux → let o = sums_of s regs aux in let R = registers s regs aux in
      (o.no ≡ 0) × (HasValue o.low false (scaled 0 R) (2 ^ 31) × (HasValue o.high false (scaled 32 R) (2 ^ 63) × ((scaled 0 R ≤ 2 ^ 52) × (scaled 32 R ≤ 2 ^ 52))))
  pub none : (s : Sketch) (regs aux : List ℕ) → let o = sums_of s regs aux in (o.no ≡ 0 → ⊥) → (o.low ≡ fin false 0 (pos 0)) × (o.high ≡ fin false 0 (pos 0))

-- ---- images
-- what opens is in good order
abbrev pub OpensGood : Type 0
OpensGood = (l regs aux scratch : List ℕ) → Bytes l → let o = open_of l regs aux scratch in o.no ≡ 0 → Good o.sketch o.regs o.aux

-- where an image ends, if its bytes are there
abbrev pub end_of : List ℕ → ℕ
end_of l = 40 + bytes_of (sketch_in l).kind (sketch_in l).lg_k + 4 * word_count l

-- two images agree but for bytes 8 to 31, the flags in byte 5 other than 8, and what stands behind their end
pub record Alike (l m : List ℕ) : Type 0 where
  pub same : (i : ℕ) → (i < 8) ⊎ (32 ≤ i) → (i ≡ 5 → ⊥) → i < end_of l → get_or l i 0 ≡ get_or m i 0
  pub flag : get_or l 5 0 / 8 % 2 ≡ get_or m 5 0 / 8 % 2
  pub long : min (length l) (end_of l) ≡ min (length m) (end_of l)

-- such images open alike, or are refused alike
abbrev pub OpensAlike : Type 0
OpensAlike = (l m regs aux scratch : List ℕ) → Bytes l → Bytes m → Alike l m → open_of l regs aux scratch ≡ open_of m regs aux scratch

-- R are the registers of an image: kinds 6 and 8 list them; of kind 4 a nibble below 15 is one above cur_min, a nibble of 15 has an entry, and each entry, in either form and any order, is that
-- of its slot modulo k
pub record ReadsAs (l R : List ℕ) : Type 0 where
  pub long : length R ≡ 2 ^ (sketch_in l).lg_k
  pub plain : ((sketch_in l).kind ≡ 4 → ⊥) → R ≡ cells (sketch_in l) (regs_in l)
  pub low : (sketch_in l).kind ≡ 4 → (i : ℕ) → i < 2 ^ (sketch_in l).lg_k → let n = get_or (cells (sketch_in l) (regs_in l)) i 0 in n < 15 → get_or R i 0 ≡ (sketch_in l).cur_min + n
  pub listed : (sketch_in l).kind ≡ 4 → (i : ℕ) → i < 2 ^ (sketch_in l).lg_k → get_or (cells (sketch_in l) (regs_in l)) i 0 ≡ 15 → Listed (2 ^ (sketch_in l).lg_k) (entries_in l) i
  pub high : (sketch_in l).kind ≡ 4 → (w : ℕ) → Member (entries_in l) w → get_or R (home (2 ^ (sketch_in l).lg_k) w) 0 ≡ value w

-- what opens has the header's record, and reads as its image says
abbrev pub OpensAs : Type 0
OpensAs = (l regs aux scratch : List ℕ) → let o = open_of l regs aux scratch in o.no ≡ 0 → (o.sketch ≡ sketch_in l) × ReadsAs l (registers o.sketch o.regs o.aux)

-- which leaves no choice: an image has no other registers
abbrev pub ReadsOne : Type 0
ReadsOne = (l R S : List ℕ) → ReadsAs l R → ReadsAs l S → R ≡ S

-- a call's sketch is the sketch s again, though its exception area may be in another order
pub record Again (s : Sketch) (regs aux : List ℕ) (o : Out) : Type 0 where
  pub opens : o.no ≡ 0
  pub same_sketch : o.sketch ≡ s
  pub same_regs : o.regs ≡ regs
  pub same_registers : registers o.sketch o.regs o.aux ≡ registers s regs aux

-- what was written opens, into memory of the right size with room for its exceptions, to the same sketch
abbrev pub Reopens : Type 0
Reopens = (s : Sketch) (regs aux buf regs' aux' scratch' : List ℕ) → Good s regs aux → (write_of s regs aux buf).no ≡ 0
    → length regs' ≡ length regs → Scratch s.kind aux' scratch' → (s.kind ≡ 4 → table_size (base_for s.lg_k) s.aux_count ≤ length aux')
    → Again s regs aux (open_of (write_of s regs aux buf).out regs' aux' scratch')

-- ---- coupon lists and sets
-- the words of a list and of a set as document 02 lays them out, whatever the bytes in between say and whatever stands behind
pub record CouponsRead : Type 0 where
  pub list_words : (a b c d : ℕ) (ws rest : List ℕ) → length ws < 2 ^ 8 → ((i : ℕ) → get_or ws i 0 < 2 ^ 32)
      → coupons_in ((2 ∷ 1 ∷ 7 ∷ a ∷ b ∷ c ∷ length ws ∷ d ∷ []) ++ (packed 32 (4 * length ws) ws ++ rest)) ≡ ws
  pub set_words : (a b c d e : ℕ) (ws rest : List ℕ) → length ws < 2 ^ 32 → ((i : ℕ) → get_or ws i 0 < 2 ^ 32)
      → coupons_in ((3 ∷ 1 ∷ 7 ∷ a ∷ b ∷ c ∷ d ∷ e ∷ []) ++ (packed 32 4 (length ws ∷ []) ++ (packed 32 (4 * length ws) ws ++ rest))) ≡ ws

-- an image in which nothing is wrong is fed as the batch of its words
abbrev pub FeedsAsBatch : Type 0
FeedsAsBatch = (s : Sketch) (regs aux scratch l : List ℕ) → preamble_no l ≡ 0 → coupons_no s.lg_k l ≡ 0 → feed_image_of s regs aux scratch l ≡ feed_of s regs aux scratch (coupons_in l)

-- ---- demands 2 and 3: over any history
-- x is the largest value among the coupons of got for slot i of k, or zero where there is none
pub record IsLargest (k i : ℕ) (got : List ℕ) (x : ℕ) : Type 0 where
  pub above : (c : ℕ) → Memᴰ c got → home k c ≡ i → value c ≤ x
  pub among : 0 < x → (c : ℕ) × Memᴰ c got × (home k c ≡ i) × (value c ≡ x)

-- demand 2: each register of each sketch, of any kind, is the largest value among the coupons taken for its slot, or zero
abbrev pub Demand2 : Type 0
Demand2 = (calls : List Call) (n : ℕ) (s : Sketch) (regs aux got : List ℕ) → run calls n ≡ here s regs aux got
    → (length (registers s regs aux) ≡ 2 ^ s.lg_k) × ((i : ℕ) → i < 2 ^ s.lg_k → IsLargest (2 ^ s.lg_k) i got (get_or (registers s regs aux) i 0))

-- two lists of coupons form the same set
abbrev pub SameSet : List ℕ → List ℕ → Type 0
SameSet p q = (c : ℕ) → (Memᴰ c p → Memᴰ c q) × (Memᴰ c q → Memᴰ c p)

-- an empty kind 8 sketch, made in any memory of the right size, and fed cs in one batch
abbrev pub freshly_fed : ℕ → List ℕ → List ℕ → Out
freshly_fed lgk mem cs = let o = start_of 8 lgk mem [] in feed_of o.sketch o.regs o.aux [] cs

-- a sketch has the registers of a call's, and whatever it is written into, the same image byte for byte
pub record SameAs (o : Out) (s : Sketch) (regs aux : List ℕ) : Type 0 where
  pub registers_same : registers s regs aux ≡ registers o.sketch o.regs o.aux
  pub image_same : (buf : List ℕ) → write_of s regs aux buf ≡ write_of o.sketch o.regs o.aux buf

-- demand 3: in any histories, two kind 8 sketches of one size that the same set of coupons has reached are the same as an empty one fed that set
abbrev pub Demand3 : Type 0
Demand3 = (calls₁ calls₂ : List Call) (n₁ n₂ : ℕ) (s₁ s₂ : Sketch) (regs₁ aux₁ got₁ regs₂ aux₂ got₂ : List ℕ)
    → run calls₁ n₁ ≡ here s₁ regs₁ aux₁ got₁ → run calls₂ n₂ ≡ here s₂ regs₂ aux₂ got₂
    → s₁.kind ≡ 8 → s₂.kind ≡ 8 → s₁.lg_k ≡ s₂.lg_k → SameSet got₁ got₂
    → (mem cs : List ℕ) → length mem ≡ 2 ^ s₁.lg_k → SameSet cs got₁
    → SameAs (freshly_fed s₁.lg_k mem cs) s₁ regs₁ aux₁ × SameAs (freshly_fed s₁.lg_k mem cs) s₂ regs₂ aux₂
