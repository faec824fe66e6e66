-- How a function answers for an image: with its number and the place that belongs to it. Assumes nothing.
use mathlib.Core.Path.{◌≡◌, refl, sym, ◌∙◌, ap}
use mathlib.Core.Bool.{true}
use mathlib.Core.List.{List}
use mathlib.Core.Logic.{◌⊎◌, inl, inr}
use Prim.Native.Nat.{ℕ, ◌<◌}
use native.Mathlib.Decide.{ℕ_discrete}
use lib.ListN.{length}
use borrow.Author.Tests.{lt-leb, ne_eqb}
use Rattle.std.specs.Prelude.{Result}
use Rattle.model.specs.Answers.{number_of, placed, Said, said, said_of}
use Rattle.model.specs.Calls.{refused_at, nothing}
use Rattle.model.specs.Image.{sketch_in, aux_in, place_in, said_in, open_no, open_of}
use Rattle.model.specs.declared.Refusal.{Refusal}
use Rattle.model.proofs.calls.Places.{low_place}
use Rattle.model.proofs.image.Faults.{finds_placed}
use Rattle.model.proofs.image.SameSlots.{aux_other, by_words}

module _ (l : List ℕ) where
  -- a number that names no place
  pub low_in : {n m : ℕ} → n ≡ m → n < 21 → said n 0 ≡ said_in l m
  unfolding place_in
  low_in {n} e h = rw (← e, lt-leb 21 n h)

  pub answer_in : {A : Type 0} (a : Result A Refusal) {m : ℕ} → number_of a ≡ m → m < 21 → said_of a ≡ said_in l m
  answer_in a e h = let d : number_of a < 21 = rw e h in ap (said (number_of a)) (low_place a d) ∙ low_in e d

  -- nothing is wrong with the exception words, or their answer names its place
  pub aux_placed : ((aux_in l).no ≡ 0) ⊎ (placed (aux_in l).no ≡ true)
  aux_placed = go (ℕ_discrete (sketch_in l).kind 4)
    where
      told : {g : Said} → aux_in l ≡ g → (g ≡ said 0 0) ⊎ (placed g.no ≡ true) → ((aux_in l).no ≡ 0) ⊎ (placed (aux_in l).no ≡ true)
      told w (inl e) = inl (ap (λ (h : Said). h.no) (w ∙ e))
      told w (inr e) = inr (ap (λ (h : Said). placed h.no) w ∙ e)

      go : Dec ((sketch_in l).kind ≡ 4) → ((aux_in l).no ≡ 0) ⊎ (placed (aux_in l).no ≡ true)
      go (yes e) = told (by_words l e) (finds_placed _ _ _ _ _ _)
      go (no e) = inl (ap (λ (h : Said). h.no) (aux_other l e))

  pub aux_in_lem : {m : ℕ} → (aux_in l).no ≡ m → ((aux_in l).no ≡ 0 → ⊥) → aux_in l ≡ said_in l m
  unfolding place_in
  aux_in_lem {m} e h = go aux_placed
    where
      go : ((aux_in l).no ≡ 0) ⊎ (placed (aux_in l).no ≡ true) → aux_in l ≡ said_in l m
      go (inl z) = absurd (h z)
      go (inr t) = rw (← e, t) refl

  -- a refusal
  pub open_refused : (regs aux scratch : List ℕ) {f : Said} → f ≡ said_in l (open_no l (length regs) (length aux) (length scratch)) → (f.no ≡ 0 → ⊥)
      → refused_at f.no f.place nothing regs aux ≡ open_of l regs aux scratch
  unfolding open_of
  open_refused regs aux scratch {f} e h =
      ap (λ (g : Said). refused_at g.no g.place nothing regs aux) e
      ∙ sym (rw (ne_eqb (open_no l (length regs) (length aux) (length scratch)) 0 (λ z. h (ap (λ (g : Said). g.no) e ∙ z))) refl)
