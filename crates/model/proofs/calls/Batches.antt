-- A batch answers 0 or NO_ROOM and names no place; and it may be cut: its front first, and then the rest, to what the front has left. Assumes nothing.
use mathlib.Core.Path.{◌≡◌, refl, sym, ap, ap₂, ◌∙◌}
use mathlib.Core.Bool.{Bool, true, false}
use mathlib.Core.List.{List, [], ◌∷◌, ◌++◌}
use mathlib.Core.Logic.{◌⊎◌, inl, inr, ⊎_elim}
use Prim.Native.Nat.{ℕ, ◌+◌}
use native.Mathlib.Omega.{arith}
use lib.Dec.{eqb}
use borrow.Author.Tests.{eqb-true}
use lib.ListN.{length, take, drop, take-append-drop}
use Rattle.model.specs.Pick.{pick}
use Rattle.model.specs.Steps.{Step, went, stopped, Ran, more, on_step, ran}
use Rattle.model.specs.Table.{laid}
use Rattle.model.specs.Four.{State, state}
use Rattle.model.specs.Sketch.{record_of, stored, area_of, table_in, Good}
use Rattle.model.specs.Calls.{Out, out, kept_out, state_of, step_of, batch_of}
use Rattle.model.specs.declared.Sketch.{Sketch}
use Rattle.model.proofs.table.Area.{length_area, area_again}
use Rattle.model.proofs.order.Sound.{Has}
use Rattle.model.proofs.calls.Steps.{ran_rest, ran_halts}
use Rattle.model.proofs.calls.Has.{batch_sound, batch_has, batch_line}

area_kept : (s : Sketch) (regs aux : List ℕ) → Good s regs aux → area_of s.kind (table_in s aux) aux ≡ aux
unfolding area_of
area_kept s regs aux g = go (eqb s.kind 4) refl
  where
    go : (b : Bool) → eqb s.kind 4 ≡ b → pick b (laid (length aux) (table_in s aux)) aux ≡ aux
    go true q = sym (g.tabled (eqb-true s.kind 4 q)).area
    go false q = refl

ran_no : (f : State → ℕ → Step State) (a : State) (cs : List ℕ) → ((ran f a cs).no ≡ 0) ⊎ ((ran f a cs).no ≡ 6)
unfolding ran
ran_no f a [] = inl refl
ran_no f a (c ∷ cs) = go (λ b. ran_no f b cs) (f a c)
  where
    go : ((b : State) → ((ran f b cs).no ≡ 0) ⊎ ((ran f b cs).no ≡ 6)) → (t : Step State)
        → ((on_step t (record { state = a; count = 0; no = 6 }) (λ b. more (ran f b cs))).no ≡ 0) ⊎ ((on_step t (record { state = a; count = 0; no = 6 }) (λ b. more (ran f b cs))).no ≡ 6)
    go ih (went b) = ih b
    go ih stopped = inr refl

pub batch_no : (s : Sketch) (regs aux cs : List ℕ) → let o = batch_of s regs aux cs in (o.no ≡ 0) ⊎ (o.no ≡ 6)
unfolding batch_of kept_out
batch_no s regs aux cs = ran_no _ _ cs

pub batch_place : (s : Sketch) (regs aux cs : List ℕ) → (batch_of s regs aux cs).place ≡ 0
unfolding batch_of kept_out
batch_place s regs aux cs = refl

-- where it answers 0, all were taken
pub batch_all : (s : Sketch) (regs aux cs : List ℕ) → Good s regs aux → let o = batch_of s regs aux cs in o.no ≡ 0 → o.count ≡ length cs
batch_all s regs aux cs g e = ⊎_elim (λ x. x.1) (λ x. let z = x.0 in absurd (omega arith)) (batch_line s regs aux cs g)

-- of no coupons, the sketch itself is left
pub batch_none : (s : Sketch) (regs aux : List ℕ) → Good s regs aux → batch_of s regs aux [] ≡ out 0 0 s 0 regs aux
unfolding batch_of kept_out state_of ran
batch_none s regs aux g = λ i. out 0 0 (sym g.record_is i) 0 (sym g.bytes_are i) (area_kept s regs aux g i)

-- an outcome that i coupons came before
abbrev pub onward : ℕ → Out → Out
onward i o = out o.no o.place o.sketch (i + o.count) o.regs o.aux

-- the outcome of coupons that go from the state a on, and what it depends on
abbrev ran_out : ℕ → ℕ → ℕ → State → List ℕ → List ℕ → Out
ran_out kind lgk room a aux cs = let r = ran (step_of kind lgk room) a cs in kept_out r.no kind lgk r.count r.state aux

batch_by : (s : Sketch) (regs aux cs : List ℕ) → batch_of s regs aux cs ≡ ran_out s.kind s.lg_k (length aux) (state_of s regs aux) aux cs
unfolding batch_of
batch_by s regs aux cs = refl

kept_area : (n kind lgk count : ℕ) (a : State) (aux aux' : List ℕ) → area_of kind a.table aux ≡ area_of kind a.table aux' → kept_out n kind lgk count a aux ≡ kept_out n kind lgk count a aux'
unfolding kept_out
kept_area n kind lgk count a aux aux' e = ap (λ (l : List ℕ). out n 0 (record_of kind lgk a.regs) count (stored kind lgk a.regs) l) e

module _ (s : Sketch) (regs aux : List ℕ) (n : ℕ) (cs : List ℕ) where
  abbrev o : Out
  o = batch_of s regs aux (take n cs)

  abbrev f : State → ℕ → Step State
  f = step_of s.kind s.lg_k (length aux)

  abbrev r : Ran State
  r = ran f (state_of s regs aux) (take n cs)

  -- an outcome, by how the coupons went
  abbrev kept : Ran State → Out
  kept q = kept_out q.no s.kind s.lg_k q.count q.state aux

  -- the whole batch is that of its two parts
  whole : batch_of s regs aux cs ≡ kept (ran f (state_of s regs aux) (take n cs ++ drop n cs))
  unfolding batch_of
  whole = ap (λ (l : List ℕ). kept (ran f (state_of s regs aux) l)) (sym (take-append-drop n cs))

  pub batch_halts : (o.no ≡ 0 → ⊥) → batch_of s regs aux cs ≡ o
  unfolding batch_of kept_out
  batch_halts h = whole ∙ ap kept (ran_halts State f (take n cs) (drop n cs) (state_of s regs aux) h)

  module _ (g : Good s regs aux) where
    has : Has s.kind s.lg_k r.state o.sketch o.regs o.aux
    has = (batch_has s regs aux (take n cs) g).2

    is_area : o.aux ≡ area_of s.kind r.state.table aux
    unfolding batch_of kept_out
    is_area = refl

    pub batch_long : length o.aux ≡ length aux
    batch_long = ap length is_area ∙ length_area s.kind r.state.table aux (batch_sound s regs aux (take n cs) g).fits

    holds : state_of o.sketch o.regs o.aux ≡ r.state
    unfolding state_of
    holds = ap₂ state has.holds has.table

    area : (t : List ℕ) → area_of s.kind t o.aux ≡ area_of s.kind t aux
    area t = ap (area_of s.kind t) is_area ∙ area_again s.kind t r.state.table aux (ap length (sym is_area) ∙ batch_long)

    -- the rest goes on from what the front has left
    rest : batch_of o.sketch o.regs o.aux (drop n cs) ≡ kept (ran f r.state (drop n cs))
    rest =
        batch_by o.sketch o.regs o.aux (drop n cs)
        ∙ (λ i. ran_out (has.same_kind i) (has.same_size i) (batch_long i) (holds i) o.aux (drop n cs))
        ∙ kept_area _ _ _ _ _ o.aux aux (area _)

    pub batch_rest : o.no ≡ 0 → batch_of s regs aux cs ≡ onward o.count (batch_of o.sketch o.regs o.aux (drop n cs))
    unfolding batch_of kept_out
    batch_rest e = whole ∙ ap kept (ran_rest State f (take n cs) (drop n cs) (state_of s regs aux) e) ∙ ap (onward o.count) (sym rest)
