-- How a function goes down a ladder of refusals: a rung decides, or hands on. Then the outcomes of each ladder of the book, one law for each place
-- where a function returns. Assumes nothing.
use mathlib.Core.Path.{◌≡◌, refl, sym, ◌∙◌, ap}
use mathlib.Core.Bool.{Bool, true, false}
use mathlib.Core.List.{List, [], ◌∷◌}
use Prim.Native.Nat.{ℕ, ◌+◌, ◌*◌, ◌≤◌, ◌<◌}
use native.Mathlib.Omega.{arith}
use lib.Dec.{eqb, leb}
use lib.ListN.{length, get_or}
use borrow.Author.Tests.{eq-eqb, ne_eqb, le-leb, lt-leb}
use Rattle.model.specs.Pick.{pick, both, first_of, Tells}
use Rattle.model.specs.Table.{base_for, table_size}
use Rattle.model.specs.Sketch.{is_kind, bytes_of}
use Rattle.model.specs.Check.{good_of, counts_fit, values_fit, spare_fits, tally_fits, lgk_no, size_no, shape_no, scratch_fits, check_no}
use Rattle.model.specs.Calls.{eight_no, merge_no}
use Rattle.model.specs.Image.{image_in, write_no, sketch_in, regs_in, word_count, aux_in, lg_arr_fits, header_no, form_no, memory_no, counts_no, room_no, body_no, open_no}
use Rattle.model.specs.declared.Sketch.{Sketch}
use Rattle.model.proofs.order.Tells.{tells_one, tells_both, tells_le, tells_eq}
use Rattle.model.proofs.calls.Ladder.{first_one}

-- ---- a rung: a test that passes, or the refusal n
pub pass : {m : ℕ} (b : Bool) (n : ℕ) (ns : List ℕ) → b ≡ true → m ≡ first_of ns → m ≡ first_of (pick b 0 n ∷ ns)
unfolding first_of
pass b n ns e h = rw e h

pub stop : (b : Bool) (n : ℕ) (ns : List ℕ) → eqb n 0 ≡ false → b ≡ false → n ≡ first_of (pick b 0 n ∷ ns)
unfolding first_of
stop b n ns z e = rw (e, z)

pub done : 0 ≡ first_of []
unfolding first_of
done = refl

-- ---- a part of a ladder, whose number is n
pub through : {m : ℕ} (n : ℕ) (ns : List ℕ) → n ≡ 0 → m ≡ first_of ns → m ≡ first_of (n ∷ ns)
unfolding first_of
through n ns e h = rw (eq-eqb n 0 e) h

pub halt : {m : ℕ} (n : ℕ) (ns : List ℕ) → m ≡ n → (m ≡ 0 → ⊥) → m ≡ first_of (n ∷ ns)
unfolding first_of
halt n ns e h = rw (ne_eqb n 0 (λ z. h (e ∙ z))) e

pub last : {m : ℕ} (n : ℕ) → m ≡ n → m ≡ first_of (n ∷ [])
last n e = e ∙ sym (first_one n)

-- what holds of a part's number and of the rest holds of both
pub first_either : (P : ℕ → Type 0) (n : ℕ) (ns : List ℕ) → P n → P (first_of ns) → P (first_of (n ∷ ns))
unfolding first_of
first_either P n ns m r = go (eqb n 0)
  where
    go : (b : Bool) → P (pick b (first_of ns) n)
    go true = r
    go false = m

pub pick_either : (P : ℕ → Type 0) (b : Bool) {m n : ℕ} → P m → P n → P (pick b m n)
pick_either P true x y = x
pick_either P false x y = y

pub first_none : (P : ℕ → Type 0) → P 0 → P (first_of [])
unfolding first_of
first_none P p = p

-- ---- LGK, SIZE
module _ (lgk : ℕ) (fits : Bool) (told : Tells fits ((4 ≤ lgk) × (lgk ≤ 21))) where
  same_lgk : fits ≡ both (leb 4 lgk) (leb lgk 21)
  same_lgk = tells_one _ _ told (tells_both _ _ (tells_le 4 lgk) (tells_le lgk 21))

  pub lgk_off : fits ≡ false → 2 ≡ lgk_no lgk
  unfolding lgk_no
  lgk_off e = rw (← same_lgk, e)

  pub lgk_right : fits ≡ true → lgk_no lgk ≡ 0
  unfolding lgk_no
  lgk_right e = rw (← same_lgk, e)

pub lgk_either : (P : ℕ → Type 0) (lgk : ℕ) → P 0 → P 2 → P (lgk_no lgk)
unfolding lgk_no
lgk_either P lgk z t = pick_either P (both (leb 4 lgk) (leb lgk 21)) z t

module _ (kind lgk len : ℕ) where
  pub size_off : (len ≡ bytes_of kind lgk → ⊥) → 3 ≡ size_no kind lgk len
  unfolding size_no
  size_off h = rw (ne_eqb len (bytes_of kind lgk) h)

  pub size_right : len ≡ bytes_of kind lgk → size_no kind lgk len ≡ 0
  unfolding size_no
  size_right e = rw (eq-eqb len (bytes_of kind lgk) e)

-- kind 4's scratch
module _ (kind aux scratch : ℕ) where
  pub scratch_other : (kind ≡ 4 → ⊥) → scratch_fits kind aux scratch ≡ true
  unfolding scratch_fits
  scratch_other h = rw (ne_eqb kind 4 h)

  pub scratch_by : kind ≡ 4 → scratch_fits kind aux scratch ≡ leb aux scratch
  unfolding scratch_fits
  scratch_by e = rw (eq-eqb kind 4 e)

-- ---- the first four refusals
module _ (kind lgk len : ℕ) where
  pub shape_kind : is_kind kind ≡ false → 1 ≡ shape_no kind lgk len
  unfolding shape_no
  shape_kind k = stop _ 1 _ refl k

  module _ (known : is_kind kind ≡ true) where
    pub shape_lgk : 2 ≡ lgk_no lgk → 2 ≡ shape_no kind lgk len
    unfolding shape_no
    shape_lgk e = pass _ 1 _ known (halt _ _ e (λ z. omega arith))

    module _ (sized : lgk_no lgk ≡ 0) where
      pub shape_size : 3 ≡ size_no kind lgk len → 3 ≡ shape_no kind lgk len
      unfolding shape_no
      shape_size e = pass _ 1 _ known (through _ _ sized (halt _ _ e (λ z. omega arith)))

      pub shape_fits : size_no kind lgk len ≡ 0 → 0 ≡ shape_no kind lgk len
      unfolding shape_no
      shape_fits e = pass _ 1 _ known (through _ _ sized (last _ (sym e)))

module _ (lent : Bool) (s : Sketch) (regs aux : List ℕ) where
  pub check_shape : (n : ℕ) → n ≡ shape_no s.kind s.lg_k (length regs) → (n ≡ 0 → ⊥) → n ≡ check_no lent s regs aux
  unfolding check_no
  check_shape n e h = halt _ _ e h

  module _ (e : shape_no s.kind s.lg_k (length regs) ≡ 0) where
    pub check_lent : lent ≡ false → 3 ≡ check_no lent s regs aux
    unfolding check_no
    check_lent l = through _ _ e (stop _ 3 _ refl l)

    pub check_good : (good : Bool) → good ≡ good_of s regs aux → lent ≡ true → pick good 0 4 ≡ check_no lent s regs aux
    unfolding check_no
    check_good good g l = through _ _ e (pass _ 3 _ l (last _ (ap (λ (b : Bool). pick b 0 4) g)))

-- kinds 6 and 8 have no area that could be damaged
pub plain_area : (s : Sketch) (regs aux aux' : List ℕ) → (s.kind ≡ 4 → ⊥) → good_of s regs aux ≡ good_of s regs aux'
unfolding good_of
plain_area s regs aux aux' h = rw (ne_eqb s.kind 4 h)

pub check_area : (lent : Bool) (s : Sketch) (regs aux aux' : List ℕ) → (s.kind ≡ 4 → ⊥) → check_no lent s regs aux ≡ check_no lent s regs aux'
unfolding check_no
check_area lent s regs aux aux' h = rw (plain_area s regs aux aux' h)

-- KIND for a sketch that is not of kind 8, then its checks
module _ (s : Sketch) (regs : List ℕ) where
  pub eight_kind : (s.kind ≡ 8 → ⊥) → 1 ≡ eight_no s regs
  unfolding eight_no
  eight_kind h = stop _ 1 _ refl (ne_eqb s.kind 8 h)

  pub eight_check : (n : ℕ) → s.kind ≡ 8 → n ≡ check_no true s regs [] → n ≡ eight_no s regs
  unfolding eight_no
  eight_check n e h = pass _ 1 _ (eq-eqb s.kind 8 e) (last _ h)

-- ---- merge's
module _ (t : Sketch) (tregs : List ℕ) (s : Sketch) (sregs saux : List ℕ) where
  pub no_target : {n : ℕ} → n ≡ eight_no t tregs → (n ≡ 0 → ⊥) → n ≡ merge_no t tregs s sregs saux
  unfolding merge_no
  no_target e h = halt _ _ e h

  module _ (target : eight_no t tregs ≡ 0) where
    pub no_source : {n : ℕ} → n ≡ check_no true s sregs saux → (n ≡ 0 → ⊥) → n ≡ merge_no t tregs s sregs saux
    unfolding merge_no
    no_source e h = through _ _ target (halt _ _ e h)

    pub no_finer : check_no true s sregs saux ≡ 0 → s.lg_k < t.lg_k → 5 ≡ merge_no t tregs s sregs saux
    unfolding merge_no
    no_finer source h = through _ _ target (through _ _ source (stop _ 5 _ refl (lt-leb _ _ h)))

-- ---- write's
module _ (s : Sketch) (regs aux buf : List ℕ) where
  pub out_check : {n : ℕ} → n ≡ check_no true s regs aux → (n ≡ 0 → ⊥) → n ≡ write_no s regs aux buf
  unfolding write_no
  out_check e h = halt _ _ e h

  module _ (good : check_no true s regs aux ≡ 0) where
    pub out_short : length buf < length (image_in s regs aux) → 16 ≡ write_no s regs aux buf
    unfolding write_no
    out_short h = through _ _ good (stop _ 16 _ refl (lt-leb _ _ h))

    pub out_right : length (image_in s regs aux) ≤ length buf → 0 ≡ write_no s regs aux buf
    unfolding write_no
    out_right h = through _ _ good (pass _ 16 _ (le-leb _ _ h) done)

-- ---- opening's
module _ (kind lgk : ℕ) where
  pub form_kind : is_kind kind ≡ false → 9 ≡ form_no kind lgk
  unfolding form_no
  form_kind k = stop _ 9 _ refl k

  pub form_lgk : (n : ℕ) → is_kind kind ≡ true → n ≡ lgk_no lgk → n ≡ form_no kind lgk
  unfolding form_no
  form_lgk n k e = pass _ 9 _ k (last _ e)

module _ (kind lgk regs aux scratch : ℕ) where
  pub memory_size : 3 ≡ size_no kind lgk regs → 3 ≡ memory_no kind lgk regs aux scratch
  unfolding memory_no
  memory_size e = halt _ _ e (λ z. omega arith)

  module _ (sized : size_no kind lgk regs ≡ 0) where
    pub memory_scratch : scratch_fits kind aux scratch ≡ false → 3 ≡ memory_no kind lgk regs aux scratch
    unfolding memory_no
    memory_scratch e = through _ _ sized (stop _ 3 _ refl e)

    pub memory_right : scratch_fits kind aux scratch ≡ true → 0 ≡ memory_no kind lgk regs aux scratch
    unfolding memory_no
    memory_right e = through _ _ sized (pass _ 3 _ e done)

module _ (l : List ℕ) where
  pub header_short : length l < 40 → 7 ≡ header_no l
  unfolding header_no
  header_short h = stop _ 7 _ refl (lt-leb 40 _ h)

  module _ (long : 40 ≤ length l) (b : Bool) (told : Tells b ((get_or l 0 0 ≡ 10) × ((get_or l 1 0 ≡ 1) × (get_or l 2 0 ≡ 7)))) where
    same_begins : b ≡ both (eqb (get_or l 0 0) 10) (both (eqb (get_or l 1 0) 1) (eqb (get_or l 2 0) 7))
    same_begins = tells_one _ _ told (tells_both _ _ (tells_eq (get_or l 0 0) 10) (tells_both _ _ (tells_eq (get_or l 1 0) 1) (tells_eq (get_or l 2 0) 7)))

    pub header_off : b ≡ false → 8 ≡ header_no l
    unfolding header_no
    header_off e = pass _ 7 _ (le-leb 40 _ long) (stop _ 8 _ refl (sym same_begins ∙ e))

    pub header_right : b ≡ true → 0 ≡ header_no l
    unfolding header_no
    header_right e = pass _ 7 _ (le-leb 40 _ long) (pass _ 8 _ (sym same_begins ∙ e) done)

  pub counts_off : counts_fit (sketch_in l) ≡ false → 10 ≡ counts_no l
  unfolding counts_no
  counts_off e = stop _ 10 _ refl e

  module _ (counts : counts_fit (sketch_in l) ≡ true) where
    pub counts_lg_arr : lg_arr_fits l ≡ false → 11 ≡ counts_no l
    unfolding counts_no
    counts_lg_arr e = pass _ 10 _ counts (stop _ 11 _ refl e)

    module _ (lg_arr : lg_arr_fits l ≡ true) where
      abbrev end : ℕ
      end = 40 + bytes_of (sketch_in l).kind (sketch_in l).lg_k + 4 * word_count l

      pub counts_short : length l < 40 + bytes_of (sketch_in l).kind (sketch_in l).lg_k + 4 * word_count l → 7 ≡ counts_no l
      unfolding counts_no
      counts_short h = pass _ 10 _ counts (pass _ 11 _ lg_arr (stop _ 7 _ refl (lt-leb end _ h)))

      pub counts_right : 40 + bytes_of (sketch_in l).kind (sketch_in l).lg_k + 4 * word_count l ≤ length l → 0 ≡ counts_no l
      unfolding counts_no
      counts_right h = pass _ 10 _ counts (pass _ 11 _ lg_arr (pass _ 7 _ (le-leb end _ h) done))

module _ (lgk count aux : ℕ) where
  pub room_short : aux < table_size (base_for lgk) count → 6 ≡ room_no lgk count aux
  unfolding room_no
  room_short h = rw (lt-leb (table_size (base_for lgk) count) aux h)

  pub room_right : table_size (base_for lgk) count ≤ aux → 0 ≡ room_no lgk count aux
  unfolding room_no
  room_right h = rw (le-leb (table_size (base_for lgk) count) aux h)

-- the numbers that the first two parts can give
pub header_either : (P : ℕ → Type 0) (l : List ℕ) → P 0 → P 7 → P 8 → P (header_no l)
unfolding header_no
header_either P l z a b =
    first_either P _ _ (pick_either P (leb 40 (length l)) z a)
    (first_either P _ _ (pick_either P (both (eqb (get_or l 0 0) 10) (both (eqb (get_or l 1 0) 1) (eqb (get_or l 2 0) 7))) z b) (first_none P z))

pub form_either : (P : ℕ → Type 0) (kind lgk : ℕ) → P 0 → P 9 → P 2 → P (form_no kind lgk)
unfolding form_no
form_either P kind lgk z a b = first_either P _ _ (pick_either P (is_kind kind) z a) (first_either P _ _ (lgk_either P lgk z b) (first_none P z))

-- the last part, by three tests and the exception words' number
module _ (l : List ℕ) {values : Bool} (v : values ≡ values_fit (sketch_in l) (regs_in l)) where
  pub body_values : values ≡ false → 12 ≡ body_no l
  unfolding body_no
  body_values e = stop _ 12 _ refl (sym v ∙ e)

  module _ (one : values ≡ true) where
    pub body_aux : (n : ℕ) → n ≡ (aux_in l).no → (n ≡ 0 → ⊥) → n ≡ body_no l
    unfolding body_no
    body_aux n e h = pass _ 12 _ (sym v ∙ one) (halt _ _ e h)

    module _ (two : (aux_in l).no ≡ 0) {spare : Bool} (s : spare ≡ spare_fits (sketch_in l) (regs_in l)) where
      pub body_spare : spare ≡ false → 14 ≡ body_no l
      unfolding body_no
      body_spare e = pass _ 12 _ (sym v ∙ one) (through _ _ two (stop _ 14 _ refl (sym s ∙ e)))

      module _ {tally : Bool} (t : tally ≡ tally_fits (sketch_in l) (regs_in l)) (three : spare ≡ true) where
        pub body_tally : tally ≡ false → 15 ≡ body_no l
        unfolding body_no
        body_tally e = pass _ 12 _ (sym v ∙ one) (through _ _ two (pass _ 14 _ (sym s ∙ three) (stop _ 15 _ refl (sym t ∙ e))))

        pub body_right : tally ≡ true → 0 ≡ body_no l
        unfolding body_no
        body_right e = pass _ 12 _ (sym v ∙ one) (through _ _ two (pass _ 14 _ (sym s ∙ three) (pass _ 15 _ (sym t ∙ e) done)))

-- the whole, by its parts
module _ (l : List ℕ) (regs aux scratch : ℕ) where
  abbrev s : Sketch
  s = sketch_in l

  pub open_header : (n : ℕ) → n ≡ header_no l → (n ≡ 0 → ⊥) → n ≡ open_no l regs aux scratch
  unfolding open_no
  open_header n e h = halt _ _ e h

  module _ (header : header_no l ≡ 0) where
    pub open_form : (n : ℕ) → n ≡ form_no (sketch_in l).kind (sketch_in l).lg_k → (n ≡ 0 → ⊥) → n ≡ open_no l regs aux scratch
    unfolding open_no
    open_form n e h = through _ _ header (halt _ _ e h)

    module _ (form : form_no (sketch_in l).kind (sketch_in l).lg_k ≡ 0) where
      pub open_memory : (n : ℕ) → n ≡ memory_no (sketch_in l).kind (sketch_in l).lg_k regs aux scratch → (n ≡ 0 → ⊥) → n ≡ open_no l regs aux scratch
      unfolding open_no
      open_memory n e h = through _ _ header (through _ _ form (halt _ _ e h))

      module _ (memory : memory_no (sketch_in l).kind (sketch_in l).lg_k regs aux scratch ≡ 0) where
        pub open_counts : (n : ℕ) → n ≡ counts_no l → (n ≡ 0 → ⊥) → n ≡ open_no l regs aux scratch
        unfolding open_no
        open_counts n e h = through _ _ header (through _ _ form (through _ _ memory (halt _ _ e h)))

        module _ (counts : counts_no l ≡ 0) where
          pub open_room : (n : ℕ) → n ≡ room_no (sketch_in l).lg_k (sketch_in l).aux_count aux → (n ≡ 0 → ⊥) → n ≡ open_no l regs aux scratch
          unfolding open_no
          open_room n e h = through _ _ header (through _ _ form (through _ _ memory (through _ _ counts (halt _ _ e h))))

          pub open_body : (n : ℕ) → room_no (sketch_in l).lg_k (sketch_in l).aux_count aux ≡ 0 → n ≡ body_no l → n ≡ open_no l regs aux scratch
          unfolding open_no
          open_body n room e = through _ _ header (through _ _ form (through _ _ memory (through _ _ counts (through _ _ room (last _ e)))))
