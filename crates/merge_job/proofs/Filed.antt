-- The outcomes of what is looked at before an image is opened. Assumes nothing.
use mathlib.Core.Path.{◌≡◌, refl}
use mathlib.Core.Bool.{true}
use mathlib.Core.List.{List}
use Prim.Native.Nat.{ℕ, ◌≤◌, ◌<◌}
use native.Mathlib.Omega.{arith}
use lib.Dec.{leb}
use lib.ListN.{length}
use borrow.Author.Tests.{le-leb, lt-leb}
use Rattle.model.specs.Sketch.{is_kind}
use Rattle.model.specs.Image.{sketch_in, header_no, form_no}
use Rattle.model.proofs.order.Tells.{tells_le}
use Rattle.model.proofs.calls.Ladder.{Says, says_as, says_self, says_pass, says_last, says_next}
use Rattle.model.proofs.calls.Places.{header_low, form_low}
use Rattle.model.proofs.calls.Rungs.{pass, stop, done, through, halt, last, first_either, pick_either, first_none}
use Rattle.model.proofs.image.Opens.{form_says}
use Rattle.merge_job.specs.Merge.{front_no, large_no, file_no}

module _ (l : List ℕ) where
  pub front_long : 40000 < length l → 17 ≡ front_no l
  unfolding front_no
  front_long h = stop _ 17 _ refl (lt-leb _ 40000 h)

  pub front_header : {n : ℕ} → length l ≤ 40000 → n ≡ header_no l → n ≡ front_no l
  unfolding front_no
  front_header h e = pass _ 17 _ (le-leb _ 40000 h) (last _ e)

module _ (kind lgk : ℕ) where
  pub large_form : {n : ℕ} → n ≡ form_no kind lgk → (n ≡ 0 → ⊥) → n ≡ large_no kind lgk
  unfolding large_no
  large_form e h = halt _ _ e h

  module _ (form : form_no kind lgk ≡ 0) where
    pub large_off : 12 < lgk → 20 ≡ large_no kind lgk
    unfolding large_no
    large_off h = through _ _ form (stop _ 20 _ refl (lt-leb _ 12 h))

    pub large_right : lgk ≤ 12 → 0 ≡ large_no kind lgk
    unfolding large_no
    large_right h = through _ _ form (pass _ 20 _ (le-leb _ 12 h) done)

module _ (l : List ℕ) where
  pub file_front : {n : ℕ} → n ≡ front_no l → (n ≡ 0 → ⊥) → n ≡ file_no l
  unfolding file_no
  file_front e h = halt _ _ e h

  pub file_large : {n : ℕ} → front_no l ≡ 0 → n ≡ large_no (sketch_in l).kind (sketch_in l).lg_k → n ≡ file_no l
  unfolding file_no
  file_large front e = through _ _ front (last _ e)

-- none of these numbers has a place
abbrev Low : ℕ → Type 0
Low n = n < 21

pub file_low : (l : List ℕ) → file_no l < 21
unfolding file_no front_no large_no
file_low l =
    let none = first_none Low (omega arith) in
    let front = first_either Low _ _ (pick_either Low (leb (length l) 40000) (omega arith) (omega arith)) (first_either Low _ _ (header_low l) none) in
    let large = first_either Low _ _ (form_low (sketch_in l).kind (sketch_in l).lg_k) (first_either Low _ _ (pick_either Low (leb (sketch_in l).lg_k 12) (omega arith) (omega arith)) none) in
    first_either Low _ _ front (first_either Low _ _ large none)

-- what is known of an image that is opened
pub record Fits (l : List ℕ) : Type 0 where
  pub short : length l ≤ 40000
  pub header : header_no l ≡ 0
  pub known : is_kind (sketch_in l).kind ≡ true
  pub low : 4 ≤ (sketch_in l).lg_k
  pub small : (sketch_in l).lg_k ≤ 12

pub front_says : (l : List ℕ) → Says (front_no l) ((length l ≤ 40000) × (header_no l ≡ 0))
unfolding front_no
front_says l = says_as _ (says_next _ _ (says_pass _ 16 (tells_le (length l) 40000)) (says_next _ _ (says_self (header_no l)) says_last)) (λ p. search) (λ p. search)

large_says : (kind lgk : ℕ) → Says (large_no kind lgk) ((is_kind kind ≡ true) × ((4 ≤ lgk) × (lgk ≤ 12)))
unfolding large_no
large_says kind lgk =
    says_as _ (says_next _ _ (form_says kind lgk) (says_next _ _ (says_pass _ 19 (tells_le lgk 12)) says_last))
    (λ p. (p.0.0, (p.0.1.0, p.1.0))) (λ p. ((p.0, (p.1.0, omega arith)), (p.1.1, tt)))

pub file_says : (l : List ℕ) → Says (file_no l) (Fits l)
unfolding file_no
file_says l =
    says_as _ (says_next _ _ (front_says l) (says_next _ _ (large_says _ _) says_last))
    (λ p. record { short = p.0.0; header = p.0.1; known = p.1.0.0; low = p.1.0.1.0; small = p.1.0.1.1 })
    (λ f. ((f.short, f.header), ((f.known, (f.low, f.small)), tt)))
